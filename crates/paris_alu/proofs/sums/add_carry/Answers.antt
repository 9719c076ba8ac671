use Rattle.std.proofs.Common.{◌≡◌, ℕ, ◌∙◌, ap, length, List, Bool, refl, sym}
use Rattle.paris_field.specs.Numbers.{bit_in, value_of_planes}
use Rattle.paris_field.specs.Fields.{operand}
use Rattle.paris_alu.specs.Alu.{binary_field, carry_plane}
use Rattle.paris_model.specs.declared.operators.BinaryOperator.TheVariants.{UnsignedAddCarry}
use Rattle.paris_field.proofs.Places.{Holds, held}
use Rattle.paris_alu.proofs.Totals.{Added, added, carried_field, carried_plane}
use Rattle.paris_alu.proofs.sums.add_carry.Goals as goal

pub returns : goal.returns
returns c =
    let n : ℕ = length c.args.x.now.numbers in
    let L : ℕ = c.args.bits in
    let f : ℕ → ℕ = operand L c.args.x.now in
    let g : ℕ → ℕ = operand L c.args.y.now in
    let xs : List (List Bool) = c.low-xs.result.now in
    let ys : List (List Bool) = c.low-ys.result.now in
    let ss : List (List Bool) = c.in_ok-planes.planes.items in
    let before : List Bool = c.in_ok-carry.carry in
    let after : List Bool = c.sum_planes.new.carry in
    let hx : Holds n L f xs = held n n L f xs refl c.low-xs.ensures.count c.low-xs.ensures.long c.low-xs.ensures.at in
    let hy : Holds n L g ys = held n (length c.args.y.now.numbers) L g ys (sym c.requires.same) c.low-ys.ensures.count c.low-ys.ensures.long c.low-ys.ensures.at in
    let a : Added n L f g before after ss =
    added n L f g before after xs ys ss hx hy (ap length c.in_ok-carry.ensures ∙ c.requires.carries) c.sum_planes.ensures.long c.in_ok-planes.ensures.count c.in_ok-planes.ensures.planes c.in_ok-planes.ensures.exact in
    let plane : after ≡ carry_plane UnsignedAddCarry L c.args.x.now c.args.y.now (bit_in c.args.carry.now) =
    carried_plane n L f g before after xs ys ss hx hy a ∙ ap (λ (p : List Bool). carry_plane UnsignedAddCarry L c.args.x.now c.args.y.now (bit_in p)) c.in_ok-carry.ensures in
    record {
      value = c.from_layers.ensures ∙ ap (λ (m : ℕ). value_of_planes m ss) c.len-vps.ensures ∙ carried_field n L f g before after ss a
          ∙ ap (λ (p : List Bool). binary_field UnsignedAddCarry L c.args.x.now c.args.y.now (bit_in p)) c.in_ok-carry.ensures;
      carry = plane;
      overflow = c.in_ok-overflow.ensures ∙ plane;
    }
