use Rattle.std.proofs.Common.{◌≡◌, ◌-◌, ℕ, ◌∙◌, ap, arith, length, List, Bool, [], false, refl, replicate, sym}
use Rattle.std.proofs.lemmas.List.{get_or_read, length-replicate}
use Rattle.paris_field.specs.Numbers.{value_of_planes, plane_at}
use Rattle.paris_field.specs.Fields.{operand}
use Rattle.paris_field.proofs.Places.{Holds, held, last_long}
use Rattle.paris_alu.proofs.Totals.{Taken, taken, difference_carry, difference_field, difference_overflow}
use Rattle.paris_alu.proofs.sums.subtract.Goals as goal

pub overflow-requires-clause-x : goal.overflow-requires-clause-x
overflow-requires-clause-x c =
    let n : ℕ = length c.args.x.now.numbers in
    let none : c.filled-borrow.result ≡ replicate n false = c.filled-borrow.ensures ∙ ap (λ (m : ℕ). replicate m false) c.len-vps.ensures in
    last_long c.args.bits c.in_ok-planes.planes.items c.index.result.now c.requires.positive (c.in_ok-planes.ensures.count ∙ c.low-xs.ensures.count) c.in_ok-planes.ensures.planes c.index.ensures
    ∙ ap length none ∙ length-replicate n false
    ∙ sym (last_long c.args.bits c.low-xs.result.now c.index-xs-top.result c.requires.positive c.low-xs.ensures.count c.low-xs.ensures.long c.index-xs-top.is)

pub overflow-requires-clause-y : goal.overflow-requires-clause-y
overflow-requires-clause-y c =
    let n : ℕ = length c.args.x.now.numbers in
    let none : c.filled-borrow.result ≡ replicate n false = c.filled-borrow.ensures ∙ ap (λ (m : ℕ). replicate m false) c.len-vps.ensures in
    last_long c.args.bits c.in_ok-planes.planes.items c.index.result.now c.requires.positive (c.in_ok-planes.ensures.count ∙ c.low-xs.ensures.count) c.in_ok-planes.ensures.planes c.index.ensures
    ∙ ap length none ∙ length-replicate n false ∙ c.requires.same
    ∙ sym (last_long c.args.bits c.low-ys.result.now c.index-ys-top.result c.requires.positive c.low-ys.ensures.count c.low-ys.ensures.long c.index-ys-top.is)

pub returns : goal.returns
returns c =
    let n : ℕ = length c.args.x.now.numbers in
    let L : ℕ = c.args.bits in
    let f : ℕ → ℕ = operand L c.args.x.now in
    let g : ℕ → ℕ = operand L c.args.y.now in
    let xs : List (List Bool) = c.low-xs.result.now in
    let ys : List (List Bool) = c.low-ys.result.now in
    let ds : List (List Bool) = c.in_ok-planes.planes.items in
    let before : List Bool = c.filled-borrow.result in
    let after : List Bool = c.difference_planes.new.borrow in
    let hx : Holds n L f xs = held n n L f xs refl c.low-xs.ensures.count c.low-xs.ensures.long c.low-xs.ensures.at in
    let hy : Holds n L g ys = held n (length c.args.y.now.numbers) L g ys (sym c.requires.same) c.low-ys.ensures.count c.low-ys.ensures.long c.low-ys.ensures.at in
    let none : before ≡ replicate n false = c.filled-borrow.ensures ∙ ap (λ (m : ℕ). replicate m false) c.len-vps.ensures in
    let a : Taken n L f g after ds =
    taken n L f g before after xs ys ds hx hy none c.difference_planes.ensures.long c.in_ok-planes.ensures.count c.in_ok-planes.ensures.planes c.in_ok-planes.ensures.exact in
    let ed : c.index.result.now ≡ plane_at ds (L - 1) = get_or_read ds (L - 1) c.index.result.now (omega (arith, a.count, c.requires.positive)) c.index.ensures [] in
    let ex : c.index-xs-top.result ≡ plane_at xs (L - 1) = get_or_read xs (L - 1) c.index-xs-top.result (omega (arith, hx.count, c.requires.positive)) c.index-xs-top.is [] in
    let ey : c.index-ys-top.result ≡ plane_at ys (L - 1) = get_or_read ys (L - 1) c.index-ys-top.result (omega (arith, hy.count, c.requires.positive)) c.index-ys-top.is [] in
    record {
      value = c.from_layers.ensures ∙ ap (λ (m : ℕ). value_of_planes m ds) c.len-vps.ensures ∙ difference_field c.args.sign n L f g after xs ys ds hx hy a;
      carry = difference_carry c.args.sign n L f g after xs ys ds hx hy a;
      overflow = difference_overflow c.args.sign n L f g after xs ys ds c.index.result.now c.index-xs-top.result c.index-ys-top.result c.in_ok-overflow.overflow c.requires.positive hx hy a ed ex ey c.in_ok-overflow.ensures;
    }
