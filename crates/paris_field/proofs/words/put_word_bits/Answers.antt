use Rattle.std.proofs.Common.{◌≡◌, ◌<◌, ◌^◌, ◌+◌, ◌-◌, ◌∙◌, ap, sym, ◌*◌, arith, get_or, false, inl, inr}
use Rattle.std.proofs.lemmas.Bool.{cases_lt}
use Rattle.std.proofs.Math.Pow.{pow_mono}
use Rattle.std.proofs.lemmas.List.{get_or-replicate}
use Rattle.paris_plane.specs.Bits.{word_bit}
use Rattle.paris_field.specs.Numbers.{plane_at}
use Rattle.paris_field.proofs.Halves.{word_bit-past}
use lib.Pow.{pow_pos}
use Rattle.paris_field.proofs.words.put_word_bits.Goals as goal

pub returns-clause-bits : goal.returns-clause-bits
returns-clause-bits c =
    λ k inside i hi within.
    elim (cases_lt k 64) [
      | inl below ↦
          let there : 0 + k ≡ k = omega arith in
          ap (λ p. get_or p (64 * c.args.block + i) false) (c.put_rows-2.ensures.low k below)
          ∙ ap (λ j. get_or (plane_at c.put_rows.new.planes j) (64 * c.args.block + i) false) (sym there)
          ∙ c.put_rows.ensures.bits k below (omega arith) i hi within
          ∙ ap (λ w. word_bit w k) (c.first_words.ensures.same i hi (omega arith))
      | inr above ↦
          let there : 64 + (k - 64) ≡ k = omega arith in
          let fits : get_or c.args.words.now i 0 < 2 ^ 64 = c.first_words.ensures.fit i (omega arith) in
          ap (λ j. get_or (plane_at c.put_rows-2.new.planes j) (64 * c.args.block + i) false) (sym there)
          ∙ c.put_rows-2.ensures.bits (k - 64) (omega arith) (omega arith) i hi within
          ∙ ap (λ w. word_bit w (k - 64)) (get_or-replicate 64 i 0 0 hi)
          ∙ word_bit-past 0 (k - 64) (pow_pos (k - 64))
          ∙ sym (word_bit-past (get_or c.args.words.now i 0) k (omega (arith, fits, pow_mono above)))
    ]

pub returns-then-planes-le64-clause-bits : goal.returns-then-planes-le64-clause-bits
returns-then-planes-le64-clause-bits c =
    λ k inside i hi within.
    let there : 0 + k ≡ k = omega arith in
    ap (λ j. get_or (plane_at c.put_rows.new.planes j) (64 * c.args.block + i) false) (sym there)
    ∙ c.put_rows.ensures.bits k (omega arith) (omega arith) i hi within
    ∙ ap (λ w. word_bit w k) (c.first_words.ensures.same i hi (omega arith))
