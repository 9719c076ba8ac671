use Rattle.std.proofs.Common.{◌≡◌, ◌∙◌, ◌||◌, ap, sym, length, refl}
use Rattle.std.proofs.lemmas.Simd.{length-zip2}
use Rattle.paris_scan.proofs.Added.{or_both_at}
use Rattle.paris_scan.proofs.sums.or_both.Goals as goal

pub or_in-requires-2 : goal.or_in-requires-2
or_in-requires-2 c = ap length c.or_in.ensures ∙ length-zip2 (λ a b. a || b) c.args.out.now c.args.x.now c.requires.x ∙ c.requires.y

pub returns-clause-long : goal.returns-clause-long
returns-clause-long c =
    let mid : length c.or_in.new.self ≡ length c.args.out.now = ap length c.or_in.ensures ∙ length-zip2 (λ a b. a || b) c.args.out.now c.args.x.now c.requires.x in
    ap length c.or_in-2.ensures ∙ length-zip2 (λ a b. a || b) c.or_in.new.self c.args.y.now (mid ∙ c.requires.y) ∙ mid

pub returns-clause-at : goal.returns-clause-at
returns-clause-at c =
    let mid : length c.or_in.new.self ≡ length c.args.out.now = ap length c.or_in.ensures ∙ length-zip2 (λ a b. a || b) c.args.out.now c.args.x.now c.requires.x in
    λ v h. or_both_at (length c.args.out.now) v c.args.x.now c.args.y.now c.args.out.now c.or_in.new.self c.or_in-2.new.self refl (sym c.requires.x) (sym c.requires.y) mid c.or_in.ensures c.or_in-2.ensures h
