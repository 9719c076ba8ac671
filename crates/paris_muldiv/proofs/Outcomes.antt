-- What comes of the numbers of a block: results, and a word of where they overflow.
use Rattle.std.proofs.Common.{◌≡◌, ◌≢◌, ◌≤◌, ℕ, ◌+◌, ◌*◌, ◌%◌, ◌^◌, ◌<◌, List, Bool, true, false, length, get_or, set, refl, arith, ◌∙◌, sym, ap, below_more, subst}
use Rattle.std.proofs.lemmas.Grind.{get_or-set_at}
use Rattle.std.proofs.lemmas.List.{get_or-set_other, length-set}
use Rattle.paris_model.specs.declared.operators.BinaryOperator.{BinaryOperator}
use Rattle.paris_model.specs.Elementwise.{binary_overflow, binary_result}
use Rattle.paris_model.specs.Store.{low}
use Rattle.paris_plane.specs.Bits.{word_bit}
use Rattle.paris_plane.specs.Words.{set_other, set_same, zero_bit}
use Rattle.std.specs.Int.{from_bool}
use Rattle.std.specs.Int.Bits.{bit_or, or_zero_r}
use Rattle.paris_field.specs.Numbers.{number_at}
use Rattle.paris_field.proofs.Lists.{below_of}

-- the first i results are what the operator makes of the operands x and y of L bits, and the first i bits of the word say where they overflow
abbrev pub Outcomes : BinaryOperator → ℕ → (ℕ → ℕ) → (ℕ → ℕ) → ℕ → List ℕ → ℕ → Type 0
Outcomes op L x y i results word = record {
  long : length results ≡ 64;
  values : (j : ℕ) → j < i → low L (get_or results j 0) ≡ low L (binary_result op L (x j) (y j) 0 0);
  overflow : (j : ℕ) → j < i → word_bit word j ≡ binary_overflow op L (x j) (y j) 0;
  clear : (j : ℕ) → i ≤ j → j < 64 → word_bit word j ≡ false;
}

pub no_outcomes : (op : BinaryOperator) (L : ℕ) (x y : ℕ → ℕ) (results : List ℕ) → length results ≡ 64 → Outcomes op L x y 0 results 0
no_outcomes op L x y results long =
    record {
      long = long;
      values = λ j h. absurd (omega (arith, h));
      overflow = λ j h. absurd (omega (arith, h));
      clear = λ j _ below. zero_bit j below;
    }

pub one_more_outcome : (op : BinaryOperator) (L : ℕ) (x y : ℕ → ℕ) (i : ℕ) (results : List ℕ) (word r w : ℕ) → i < 64 → low L r ≡ low L (binary_result op L (x i) (y i) 0 0) → word_bit w i ≡ binary_overflow op L (x i) (y i) 0 → ((j : ℕ) → j ≢ i → word_bit w j ≡ word_bit word j) → Outcomes op L x y i results word → Outcomes op L x y (i + 1) (set results i r) w
one_more_outcome op L x y i results word r w inside value here others before =
    record {
      long = length-set results i r ∙ before.long;
      values = below_more _ _
          (λ j h. let ne : j ≢ i = omega arith in
          ap (low L) (get_or-set_other results i j r 0 ne) ∙ before.values j h)
          (ap (low L) (get_or-set_at results i i r 0 refl (omega (arith, inside, before.long))) ∙ value);
      overflow = below_more _ _
          (λ j h. let ne : j ≢ i = omega arith in
          others j ne ∙ before.overflow j h)
          (here);
      clear = λ j h below.
          let ne : j ≢ i = omega (arith, h) in
          others j ne ∙ before.clear j (omega (arith, h)) below;
    }

-- the same of the numbers that the operands are
pub operand_fits : (ps : List (List Bool)) (v L x : ℕ) → length ps ≡ L → x ≡ number_at ps v → x < 2 ^ L
operand_fits ps v L x count is = subst (λ t. t < 2 ^ L) (sym is) (below_of ps v L count)

pub value_of : (op : BinaryOperator) (L n r x y a b : ℕ) → n ≡ low L r → low L r ≡ low L (binary_result op L x y 0 0) → x ≡ a → y ≡ b → n ≡ low L (binary_result op L a b 0 0)
value_of op L n r x y a b put is ex ey =
    put ∙ is ∙ ap (λ t. low L (binary_result op L t y 0 0)) ex ∙ ap (λ t. low L (binary_result op L a t 0 0)) ey

pub overflow_of : (op : BinaryOperator) (L : ℕ) (put made : Bool) (x y a b : ℕ) → put ≡ made → made ≡ binary_overflow op L x y 0 → x ≡ a → y ≡ b → put ≡ binary_overflow op L a b 0
overflow_of op L put made x y a b stored is ex ey =
    stored ∙ is ∙ ap (λ t. binary_overflow op L t y 0) ex ∙ ap (λ t. binary_overflow op L a t 0) ey

-- a bit is put where a word has none
no_bits : (w i : ℕ) → bit_or w (0 * 2 ^ i % 2 ^ 64) ≡ w
no_bits w i =
    let none : 0 * 2 ^ i % 2 ^ 64 ≡ 0 = omega arith in
    ap (bit_or w) none ∙ or_zero_r w

pub bit_put : (w i n : ℕ) (b : Bool) → i < 64 → word_bit w i ≡ false → n ≡ from_bool b → word_bit (bit_or w (n * 2 ^ i % 2 ^ 64)) i ≡ b
bit_put w i n true h clear is = ap (λ m. word_bit (bit_or w (m * 2 ^ i % 2 ^ 64)) i) is ∙ set_same w i h
bit_put w i n false h clear is = ap (λ m. word_bit (bit_or w (m * 2 ^ i % 2 ^ 64)) i) is ∙ ap (λ m. word_bit m i) (no_bits w i) ∙ clear

pub bit_kept : (w i j n : ℕ) (b : Bool) → i < 64 → j ≢ i → n ≡ from_bool b → word_bit (bit_or w (n * 2 ^ i % 2 ^ 64)) j ≡ word_bit w j
bit_kept w i j n true h other is = ap (λ m. word_bit (bit_or w (m * 2 ^ i % 2 ^ 64)) j) is ∙ set_other w i j h other
bit_kept w i j n false h other is = ap (λ m. word_bit (bit_or w (m * 2 ^ i % 2 ^ 64)) j) is ∙ ap (λ m. word_bit m j) (no_bits w i)
