use Rattle.std.proofs.Common.{◌≡◌, ◌<◌, ◌-◌, ℕ, ◌∙◌, ap, arith, eqb, not, length, List, Bool, [], false, refl, replicate, subst, sym}
use Rattle.std.proofs.lemmas.List.{get_or_read, take_rest}
use Rattle.paris_field.specs.Numbers.{AllOf, value_of_planes, number_at, plane_at, bits_everywhere}
use Rattle.paris_field.specs.Fields.{operand}
use Rattle.paris_alu.specs.Bits.{by_sign}
use Rattle.paris_field.proofs.Places.{Holds, held}
use Rattle.paris_alu.proofs.Resized.{all_extended, extended_long, kept_le, kept_some, no_longer, resized_overflow, resized_value, rest_long, shorter}
use Rattle.paris_alu.proofs.widths.extend.Goals as goal

pub from_layers-requires-clause-long : goal.from_layers-requires-clause-long
from_layers-requires-clause-long c =
    let n : ℕ = length c.args.x.now.numbers in
    let xs : List (List Bool) = c.low-xs.result.now in
    let kept : ℕ = c.min-kept.result in
    let which = shorter c.args.from_bits c.args.bits kept c.min-kept.ensures in
    let within = kept_le c.args.from_bits c.args.bits kept which in
    let some = kept_some c.args.from_bits c.args.bits kept c.requires.from_some c.requires.positive which in
    let inx : kept - 1 < length xs = omega (arith, some, within.0, c.low-xs.ensures.count) in
    let et : c.index-xs-kept.result ≡ plane_at xs (kept - 1) = get_or_read xs (kept - 1) c.index-xs-kept.result inx c.index-xs-kept.is [] in
    let lr : length c.in_ok-rest.rest ≡ n = ap length c.in_ok-rest.ensures ∙ rest_long c.args.sign c.index-xs-kept.result ∙ ap length et ∙ c.low-xs.ensures.long (kept - 1) inx in
    subst (λ (m : ℕ). AllOf m c.in_ok-planes.planes.items) (sym c.len-vps.ensures)
    (all_extended n kept c.args.bits xs c.in_ok-planes.planes.items c.in_ok-rest.rest (omega (arith, within.0, c.low-xs.ensures.count)) c.low-xs.ensures.long lr c.in_ok-planes.ensures)

pub returns : goal.returns
returns c =
    let n : ℕ = length c.args.x.now.numbers in
    let M : ℕ = c.args.from_bits in
    let L : ℕ = c.args.bits in
    let f : ℕ → ℕ = operand M c.args.x.now in
    let xs : List (List Bool) = c.low-xs.result.now in
    let zs : List (List Bool) = c.in_ok-planes.planes.items in
    let kept : ℕ = c.min-kept.result in
    let top : List Bool = c.index-xs-kept.result in
    let rest : List Bool = c.in_ok-rest.rest in
    let hx : Holds n M f xs = held n n M f xs refl c.low-xs.ensures.count c.low-xs.ensures.long c.low-xs.ensures.at in
    let which = shorter M L kept c.min-kept.ensures in
    let within = kept_le M L kept which in
    let some = kept_some M L kept c.requires.from_some c.requires.positive which in
    let inx : kept - 1 < length xs = omega (arith, some, within.0, c.low-xs.ensures.count) in
    let et : top ≡ plane_at xs (kept - 1) = get_or_read xs (kept - 1) top inx c.index-xs-kept.is [] in
    let er : rest ≡ by_sign c.args.sign (replicate (length top) false) top = c.in_ok-rest.ensures in
    let lr : length rest ≡ n = ap length er ∙ rest_long c.args.sign top ∙ ap length et ∙ c.low-xs.ensures.long (kept - 1) inx in
    let lz : length zs ≡ L = extended_long kept L xs zs rest (omega (arith, within.0, c.low-xs.ensures.count)) within.1 c.in_ok-planes.ensures in
    let over : List (List Bool) → List Bool = λ hs. bits_everywhere (length rest) (λ v. not (eqb (number_at hs v) (number_at (replicate (length hs) rest) v))) in
    record {
      value = c.from_layers.ensures ∙ ap (λ (m : ℕ). value_of_planes m zs) c.len-vps.ensures
          ∙ resized_value c.args.sign n M L kept f xs zs top rest hx c.requires.from_some (no_longer M L kept which) et er c.in_ok-planes.ensures lz;
      overflow = resized_overflow c.args.sign n M L kept f xs top rest c.in_ok-overflow.overflow hx c.requires.from_some c.requires.positive which et er lr (c.in_ok-overflow.ensures ∙ ap over (take_rest xs kept));
    }
