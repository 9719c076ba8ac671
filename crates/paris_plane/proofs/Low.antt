-- The lowest bit of a word.
use Rattle.std.proofs.Common.{◌≡◌, ℕ, ◌/◌, ◌^◌, arith, ◌∙◌, sym, ap, eqb, bit_and}
use Rattle.paris_plane.specs.Bits.{word_bit}
use Rattle.paris_plane.specs.Words.{tested}

pub low_bit : (w : ℕ) → eqb (bit_and w 1) 1 ≡ word_bit w 0
low_bit w =
    let e : w / 2 ^ 0 ≡ w = omega arith in
    ap (λ x. eqb (bit_and x 1) 1) (sym e) ∙ tested w 0
