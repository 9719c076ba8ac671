use Rattle.std.proofs.Common.{◌≡◌, ◌<◌, ◌-◌, ℕ, ◌∙◌, ap, arith, length, List, Bool, [], false, refl, replicate, sym}
use Rattle.std.proofs.lemmas.List.{get_or_read, length-replicate}
use Rattle.paris_field.specs.Numbers.{value_of_planes, plane_at}
use Rattle.paris_field.specs.Fields.{operand}
use Rattle.paris_field.proofs.Places.{Holds, held}
use Rattle.paris_alu.proofs.Totals.{Opposed, opposed, opposite_field, opposite_overflow}
use Rattle.paris_alu.proofs.sums.negate.Goals as goal

pub combined-requires : goal.combined-requires
combined-requires c =
    let n : ℕ = length c.args.x.now.numbers in
    let L : ℕ = c.args.bits in
    let xs : List (List Bool) = c.low-xs.result.now in
    let ds : List (List Bool) = c.in_ok-planes.planes.items in
    let nb : length c.filled-borrow.result ≡ n = ap length c.filled-borrow.ensures ∙ length-replicate c.len-vps.result false ∙ c.len-vps.ensures in
    let id : L - 1 < length ds = omega (arith, c.in_ok-planes.ensures.count, c.low-xs.ensures.count, c.requires.positive) in
    let ix : L - 1 < length xs = omega (arith, c.low-xs.ensures.count, c.requires.positive) in
    let ed : c.index.result.now ≡ plane_at ds (L - 1) = get_or_read ds (L - 1) c.index.result.now id c.index.ensures [] in
    let ex : c.index-xs-top.result ≡ plane_at xs (L - 1) = get_or_read xs (L - 1) c.index-xs-top.result ix c.index-xs-top.is [] in
    ap length ed ∙ c.in_ok-planes.ensures.planes (L - 1) id ∙ nb ∙ sym (ap length ex ∙ c.low-xs.ensures.long (L - 1) ix)

pub returns : goal.returns
returns c =
    let n : ℕ = length c.args.x.now.numbers in
    let L : ℕ = c.args.bits in
    let f : ℕ → ℕ = operand L c.args.x.now in
    let xs : List (List Bool) = c.low-xs.result.now in
    let ds : List (List Bool) = c.in_ok-planes.planes.items in
    let before : List Bool = c.filled-borrow.result in
    let after : List Bool = c.opposite_planes.new.borrow in
    let hx : Holds n L f xs = held n n L f xs refl c.low-xs.ensures.count c.low-xs.ensures.long c.low-xs.ensures.at in
    let none : before ≡ replicate n false = c.filled-borrow.ensures ∙ ap (λ (m : ℕ). replicate m false) c.len-vps.ensures in
    let a : Opposed n L f after ds = opposed n L f before after xs ds hx none c.in_ok-planes.ensures.count c.in_ok-planes.ensures.planes c.in_ok-planes.ensures.exact in
    let ed : c.index.result.now ≡ plane_at ds (L - 1) = get_or_read ds (L - 1) c.index.result.now (omega (arith, a.count, c.requires.positive)) c.index.ensures [] in
    let ex : c.index-xs-top.result ≡ plane_at xs (L - 1) = get_or_read xs (L - 1) c.index-xs-top.result (omega (arith, hx.count, c.requires.positive)) c.index-xs-top.is [] in
    record {
      value = c.from_layers.ensures ∙ ap (λ (m : ℕ). value_of_planes m ds) c.len-vps.ensures ∙ opposite_field n L f after xs ds hx a;
      overflow = opposite_overflow n L f after xs ds c.index.result.now c.index-xs-top.result c.in_ok-overflow.overflow c.requires.positive hx a ed ex c.in_ok-overflow.ensures;
    }
