use Rattle.std.proofs.Common.{◌≡◌, length, ◌∙◌, ◌&&◌, ap, arith, sym, get_or, false, List, Bool, add-zero}
use Rattle.std.proofs.lemmas.Simd.{get_or-zip2, length-zip2}
use Rattle.paris_model.specs.Store.{bit}
use Rattle.paris_muldiv.proofs.Rows.{masked_bit}
use Rattle.paris_muldiv.proofs.planes.put_masked.Goals as goal

pub returns-clause-bits : goal.returns-clause-bits
returns-clause-bits c =
    λ v h.
    let m : List Bool = c.args.mask.now in
    let r : List Bool = c.raise_from.new.self in
    let both : Bool → Bool → Bool = λ a b. a && b in
    ap bit (ap (λ l. get_or l v false) c.and_in.ensures
    ∙ get_or-zip2 both r m v false false false (omega (arith, h, c.raise_from.ensures.long, c.requires.masked)) h
    ∙ ap (λ a. a && get_or m v false) (ap (λ u. get_or r u false) (sym (add-zero v)) ∙ c.raise_from.ensures.raised v (omega (arith, h, c.requires.masked))))
    ∙ masked_bit (get_or c.args.plane.now v false) (get_or m v false)

pub returns-clause-long : goal.returns-clause-long
returns-clause-long c =
    let both : Bool → Bool → Bool = λ a b. a && b in
    let raised : length c.raise_from.new.self ≡ length c.args.mask.now = c.raise_from.ensures.long ∙ c.requires.masked in
    ap length c.and_in.ensures ∙ length-zip2 both c.raise_from.new.self c.args.mask.now raised ∙ raised
