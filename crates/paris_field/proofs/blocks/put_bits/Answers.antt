use Rattle.std.proofs.Common.{◌≡◌, ◌+◌, ◌-◌, ◌∙◌, ap, sym, ◌*◌, arith, get_or, false, inl, inr}
use Rattle.std.proofs.lemmas.Bool.{cases_lt}
use Rattle.paris_plane.specs.Bits.{word_bit}
use Rattle.paris_field.specs.Numbers.{plane_at}
use Rattle.paris_field.proofs.blocks.put_bits.Goals as goal

pub returns-clause-bits : goal.returns-clause-bits
returns-clause-bits c =
    λ k inside i hi within.
    elim (cases_lt k 64) [
      | inl below ↦
          let there : 0 + k ≡ k = omega arith in
          ap (λ p. get_or p (64 * c.args.block + i) false) (c.put_words-2.ensures.low k below)
          ∙ ap (λ j. get_or (plane_at c.put_words.new.planes j) (64 * c.args.block + i) false) (sym there)
          ∙ c.put_words.ensures.bits k below (omega arith) i hi within
          ∙ ap (word_bit (get_or c.args.numbers.now i 0)) there
      | inr above ↦
          let there : 64 + (k - 64) ≡ k = omega arith in
          ap (λ j. get_or (plane_at c.put_words-2.new.planes j) (64 * c.args.block + i) false) (sym there)
          ∙ c.put_words-2.ensures.bits (k - 64) (omega arith) (omega arith) i hi within
          ∙ ap (word_bit (get_or c.args.numbers.now i 0)) there
    ]

pub returns-then-planes-le64-clause-bits : goal.returns-then-planes-le64-clause-bits
returns-then-planes-le64-clause-bits c =
    λ k inside i hi within.
    let there : 0 + k ≡ k = omega arith in
    ap (λ j. get_or (plane_at c.put_words.new.planes j) (64 * c.args.block + i) false) (sym there)
    ∙ c.put_words.ensures.bits k (omega arith) (omega arith) i hi within
    ∙ ap (word_bit (get_or c.args.numbers.now i 0)) there
