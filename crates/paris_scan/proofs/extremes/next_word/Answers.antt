use Rattle.std.proofs.Common.{◌∙◌, ℕ, ap, cond, get_or, sym}
use Rattle.paris_model.specs.Combine.{combine}
use Rattle.paris_scan.proofs.extremes.next_word.Goals as goal

pub returns-then-get : goal.returns-then-get
returns-then-get g c =
    λ L.
    let made : ℕ = combine g.E.Extreme.operator L c.args.before (get_or c.args.words.now c.args.v 0) in
    c.one_of-word.ensures L ∙ sym (ap (λ b. cond b made c.args.before) (sym c.get.ensures ∙ c.if-get.true))

pub returns-else-get : goal.returns-else-get
returns-else-get g c =
    λ L.
    let made : ℕ = combine g.E.Extreme.operator L c.args.before (get_or c.args.words.now c.args.v 0) in
    sym (ap (λ b. cond b made c.args.before) (sym c.get.ensures ∙ c.if-get.false))
