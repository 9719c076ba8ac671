use Rattle.std.proofs.Common.{◌≡◌, ℕ, ◌+◌, ◌^◌, ◌∙◌, ap, length, take, List, Bool}
use Rattle.paris_field.specs.Numbers.{bit_in, number_at}
use Rattle.paris_field.proofs.Numbers.{zero_bit_in, one_written}
use Rattle.paris_muldiv.proofs.Rows.{nothing_added}
use Rattle.paris_muldiv.proofs.planes.add_row.Goals as goal

pub returns-then-is_all-clause-row : goal.returns-then-is_all-clause-row
returns-then-is_all-clause-row c =
    λ v h.
    let k : ℕ = c.args.k in
    let m : ℕ = length c.args.y.now in
    let p : List (List Bool) = c.args.product.now in
    let z : List Bool = c.fill.new.self in
    let none : bit_in c.args.bit.now v ≡ 0 = ap (λ bs. bit_in bs v) (c.is_all.ensures.0 c.if-is_all.true) ∙ zero_bit_in (length c.args.bit.now) v in
    let zeros : bit_in z v ≡ 0 = ap (λ bs. bit_in bs v) c.fill.ensures ∙ zero_bit_in _ v in
    one_written p (k + m) v z c.requires.room
    ∙ nothing_added (2 ^ (k + m)) (2 ^ k) (number_at (take (k + m) p) v) (bit_in z v) (bit_in c.args.bit.now v) (number_at c.args.y.now v) zeros none
