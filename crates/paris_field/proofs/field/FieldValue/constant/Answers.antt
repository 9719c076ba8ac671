use Rattle.std.proofs.Common.{ℕ, ◌∙◌, sym}
use Rattle.std.proofs.Math.Nat.{mod-eq_of_lt}
use Rattle.std.proofs.lemmas.List.{get_or-replicate, length-replicate}
use Rattle.std.proofs.Common.{replicate}
use Rattle.paris_field.proofs.Values.{value_is}
use Rattle.paris_field.proofs.field.FieldValue.constant.Goals as goal

pub returns : goal.returns
returns c =
    let n : ℕ = c.args.vps in
    value_is n c.args.width c.in_ok-planes.planes.items (replicate n c.args.number) c.in_ok-planes.ensures.width (length-replicate n c.args.number) (λ v h.
    c.in_ok-planes.ensures.numbers v h
    ∙ mod-eq_of_lt c.requires.fits
    ∙ sym (get_or-replicate n v c.args.number 0 h))
