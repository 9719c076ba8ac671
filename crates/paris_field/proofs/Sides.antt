-- Exchanges of digits, one for each weight from 1 on, turn squares of w by w bits that lie side by side, each about its own diagonal.
use Rattle.std.proofs.Common.{◌≡◌, ℕ, ◌+◌, ◌*◌, ◌/◌, ◌%◌, ◌<◌, List, get_or, arith, ap, ◌∙◌}
use Rattle.paris_plane.specs.Bits.{word_bit}
use Rattle.paris_field.specs.Square.{crossed}

-- all digits of a weight below t are exchanged, in the first w rows
pub record SidesBelow (w t : ℕ) (rows old : List ℕ) : Type 0 where
  pub at : (j i : ℕ) → j < w → i < 64 → word_bit (get_or rows j 0) i ≡ word_bit (get_or old (j / t * t + i % t) 0) (i / t * t + j % t)

-- after the exchange at the weight s those below twice that weight are exchanged
pub record SidesOn (s t : ℕ) : Type 0 where
  pub within : (i j : ℕ) → i < 64 → crossed s i j < 64
  pub joins : (j i : ℕ) → crossed s j i / s * s + crossed s i j % s ≡ j / t * t + i % t

pub side_1 : SidesOn 1 2
side_1 = record { within = λ i j hi. omega arith; joins = λ j i. omega arith }

pub side_2 : SidesOn 2 4
side_2 = record { within = λ i j hi. omega arith; joins = λ j i. omega arith }

pub side_4 : SidesOn 4 8
side_4 = record { within = λ i j hi. omega arith; joins = λ j i. omega arith }

pub side_8 : SidesOn 8 16
side_8 = record { within = λ i j hi. omega arith; joins = λ j i. omega arith }

pub side_16 : SidesOn 16 32
side_16 = record { within = λ i j hi. omega arith; joins = λ j i. omega arith }

pub side_32 : SidesOn 32 64
side_32 = record { within = λ i j hi. omega arith; joins = λ j i. omega arith }

pub sides_none : (w : ℕ) (rows : List ℕ) → SidesBelow w 1 rows rows
sides_none w rows =
    record {
      at = λ j i hj hi.
          ap (λ x. word_bit (get_or rows x 0) i) (omega arith) ∙ ap (word_bit (get_or rows (j / 1 * 1 + i % 1) 0)) (omega arith);
    }

pub sides_more : (w s t : ℕ) (rows mid old : List ℕ) → SidesOn s t → ((j i : ℕ) → j < w → crossed s j i < w) → ((j i : ℕ) → j < w → i < 64 → word_bit (get_or rows j 0) i ≡ word_bit (get_or mid (crossed s j i) 0) (crossed s i j)) → SidesBelow w s mid old → SidesBelow w t rows old
sides_more w s t rows mid old on inside step turned =
    record {
      at = λ j i hj hi.
          step j i hj hi ∙ turned.at (crossed s j i) (crossed s i j) (inside j i hj) (on.within i j hi)
          ∙ ap (λ x. word_bit (get_or old x 0) (crossed s i j / s * s + crossed s j i % s)) (on.joins j i)
          ∙ ap (word_bit (get_or old (j / t * t + i % t) 0)) (on.joins i j);
    }

pub sides_whole : (w : ℕ) (rows old : List ℕ) → ((j : ℕ) → j < w → (j / w ≡ 0) × (j % w ≡ j)) → SidesBelow w w rows old → (j i : ℕ) → j < w → i < 64 → word_bit (get_or rows j 0) i ≡ word_bit (get_or old (i % w) 0) (i / w * w + j)
sides_whole w rows old row turned j i hj hi =
    let none : 0 * w + i % w ≡ i % w = omega arith in
    turned.at j i hj hi
    ∙ ap (λ q. word_bit (get_or old (q * w + i % w) 0) (i / w * w + j % w)) (row j hj).0
    ∙ ap (λ x. word_bit (get_or old x 0) (i / w * w + j % w)) none
    ∙ ap (λ r. word_bit (get_or old (i % w) 0) (i / w * w + r)) (row j hj).1
