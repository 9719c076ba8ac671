use Rattle.std.proofs.Common.{◌∙◌, ◌%◌, ◌^◌, ◌<◌, ℕ, ap, sym, arith, get_or, length, set}
use Rattle.std.specs.Int.Bits.{bit_and}
use Rattle.std.proofs.lemmas.Grind.{get_or_default_zero}
use Rattle.std.proofs.lemmas.List.Edits.{map_over_more}
use Rattle.std.proofs.lemmas.Nat.{and_mask}
use Rattle.paris_router.proofs.numbers.keep_low.Goals as goal

pub loop-number-preserved : goal.loop-number-preserved
loop-number-preserved c =
    let i : ℕ = c.loop-number.number-index in
    let y : ℕ = get_or c.loop-number.numbers i 0 in
    let cut = ap (bit_and y) c.low_mask-mask.ensures ∙ and_mask y c.args.bits in
    let inside : i < length c.loop-number.numbers = omega arith in
    ap (set c.loop-number.numbers i) cut
    ∙ map_over_more (λ x. x % 2 ^ c.args.bits) c.args.numbers.now c.loop-number.numbers i y (omega arith) c.loop-number.invariant (sym (get_or_default_zero c.loop-number.numbers i y inside))
