-- Sums that run along lines are those of the lists that scans combine.
use Rattle.std.proofs.Common.{◌≡◌, ℕ, ◌+◌, ◌^◌, ◌<◌, Bool, true, false, cond, List, [], ◌∷◌, length, get_or, arith, ap, ◌∙◌, leb, sym, refl}
use Rattle.std.specs.Prelude.{sum}
use Rattle.std.proofs.Math.Nat.{mod-eq_of_lt, mod-lt}
use lib.Pow.{pow_pos}
use Rattle.std.proofs.lemmas.Bool.Decides.{nat_tests}
use Rattle.std.proofs.lemmas.Grind.{get_or_default_zero}
use Rattle.std.proofs.lemmas.List.FromFn.{fill_by_all, get_or-map-range_with_len}
use Rattle.paris_geometry.specs.declared.direction.Direction.{Direction}
use Rattle.paris_geometry.specs.Geometry.{processor_count}
use Rattle.paris_model.specs.declared.operators.Combiner.TheVariants.{Sum}
use Rattle.paris_model.specs.Combine.{combined, unit}
use Rattle.paris_model.specs.Store.{everywhere, low}
use Rattle.paris_field.specs.Fields.{AllFit, FieldNumbers, operand}
use Rattle.paris_field.specs.Numbers.{bits_everywhere, has}
use Rattle.paris_field.proofs.Places.{bits_same, everywhere_same, get_or-bits_everywhere, plane_is}
use Rattle.paris_scan.specs.Laws.{sum_append}
use Rattle.paris_scan.specs.Lines.{combined_field, sums_overflow}
use Rattle.paris_scan.specs.Running.{AreRunning, HasBefore, added, low_sums, over_sums, own_word, value_before}
use Rattle.paris_scan.specs.Runs.{before}
use Rattle.paris_scan.proofs.OneByOne.{cut_same}
use Rattle.paris_scan.proofs.RunValues.{Extends, IsWalked, all_fit, before_within, field_follows, field_value, own_values, words_at, words_long}
use Rattle.paris_scan.proofs.Own.{own_value}
use Rattle.paris_scan.proofs.Units.{combined_sum}

one_summed : (x : ℕ) → sum (x ∷ []) ≡ x
one_summed x = omega arith

-- the sums of a field's words
abbrev pub field_sum : List ℕ → ℕ → Direction → List Bool → List Bool → ℕ → FieldNumbers → ℕ → ℕ
field_sum axes a d segments selected L x = field_value sum axes a d segments selected L x

-- these are the one before and the processor's own
adds_own : (L n : ℕ) (selected : List Bool) (x : FieldNumbers) (words : List ℕ) → ((v : ℕ) → v < n → get_or words v 0 ≡ operand L x v) → Extends sum (added (own_word (has selected) words)) n (own_values selected L x)
adds_own L n selected x words is v xs h =
    sum_append xs (own_values selected L x v)
    ∙ ap (λ t. sum xs + t) (sym (ap (λ t. cond (has selected v) t 0) (is v h) ∙ own_value (λ _ l. sum l) L refl (has selected) (operand L x) v (one_summed (operand L x v))))

pub field_adds : {axes : List ℕ} {a : ℕ} {d : Direction} {segments : List Bool} {e : Direction} {by : ℕ} {begins : List Bool} → IsWalked axes a d segments e by begins → (selected : List Bool) (L : ℕ) (x : FieldNumbers) (words : List ℕ)
    → length x.numbers ≡ processor_count axes → words ≡ everywhere (length x.numbers) (operand L x) → AreRunning (added (own_word (has selected) words)) 0 e by (length words) (has begins) (field_sum axes a d segments selected L x)
field_adds {axes} {a} {d} {segments} {e} {by} {begins} walks selected L x words count is =
    field_follows walks sum (added (own_word (has selected) words)) selected L x (length words) (words_long L x words is ∙ count)
    (adds_own L (processor_count axes) selected x words (λ u h. words_at L x words is u (omega (arith, h, count))))

totals_field : ℕ → List ℕ → FieldNumbers
totals_field L xs = record { width = L; numbers = xs }

-- totals as a field, and where they need more bits
pub totals_combined : (n m L : ℕ) (shown : ℕ → ℕ) (values : ℕ → List ℕ) → m ≡ n → ((v : ℕ) → v < n → shown v ≡ sum (values v)) → record { width = L; numbers = everywhere m (λ v. low L (shown v)) } ≡ combined_field Sum L n values
unfolding totals_field
totals_combined n m L shown values same each =
    ap (λ k. totals_field L (everywhere k (λ v. low L (shown v)))) same
    ∙ ap (totals_field L) (everywhere_same n (λ v. low L (shown v)) (λ v. combined Sum L (unit Sum L) (values v)) (λ v h. ap (low L) (each v h) ∙ sym (combined_sum L (values v))))

pub totals_overflow : (n m L : ℕ) (shown : ℕ → ℕ) (values : ℕ → List ℕ) → m ≡ n → ((v : ℕ) → v < n → shown v ≡ sum (values v)) → bits_everywhere m (λ v. leb (2 ^ L) (shown v)) ≡ sums_overflow L n values
totals_overflow n m L shown values same each =
    ap (λ k. bits_everywhere k (λ v. leb (2 ^ L) (shown v))) same
    ∙ bits_same n (λ v. leb (2 ^ L) (shown v)) (λ v. leb (2 ^ L) (sum (values v))) (λ v h. ap (leb (2 ^ L)) (each v h))

-- low bits fit
pub lows_fit : (n bits : ℕ) (f : ℕ → ℕ) → AllFit bits (everywhere n (λ v. low bits (f v)))
lows_fit n bits f = all_fit n bits (λ v. low bits (f v)) (λ v. mod-lt (f v) (pow_pos bits))

-- and so do those of the ones before
cut_fits : (bits : ℕ) (b : Bool) (x : ℕ) → (b ≡ false → x < 2 ^ bits) → cond b 0 x < 2 ^ bits
cut_fits bits true x h = pow_pos bits
cut_fits bits false x h = h refl

pub before_fits : (bits : ℕ) (d : Direction) (by : ℕ) (begins : ℕ → Bool) (words new : List ℕ) → length new ≡ length words → AllFit bits words → ((v : ℕ) → v < length words → begins v ≡ false → HasBefore d by (length words) v)
    → ((v : ℕ) → v < length words → get_or new v 0 ≡ cond (begins v) 0 (get_or words (before d by v) 0)) → AllFit bits new
before_fits bits d by begins words new same fit reach each k z h =
    let below : k < length words = omega (arith, h, same) in
    let read : get_or new k z ≡ get_or new k 0 = get_or_default_zero new k z h in
    let small : cond (begins k) 0 (get_or words (before d by k) 0) < 2 ^ bits = cut_fits bits (begins k) (get_or words (before d by k) 0) (λ none. fit (before d by k) 0 (before_within d by (length words) k below (reach k below none))) in
    omega (arith, read, each k below, small)

-- what is shown of low bits is the low bits of what is shown
cut_low : (bits : ℕ) (b : Bool) (x : ℕ) → cond b 0 (low bits x) ≡ low bits (cond b 0 x)
cut_low bits true x = sym (mod-eq_of_lt (pow_pos bits))
cut_low bits false x = refl

cut_over : (bits : ℕ) (b : Bool) (x : ℕ) → cond b false (leb (2 ^ bits) x) ≡ leb (2 ^ bits) (cond b 0 x)
cut_over bits true x = (let some : 0 < 2 ^ bits = pow_pos bits in sym (let e : leb (2 ^ bits) 0 ≡ false = grind (arith, nat_tests) in e))
cut_over bits false x = refl

pub lows_before : (bits : ℕ) (d : Direction) (by : ℕ) (begins : ℕ → Bool) (sums : ℕ → ℕ) (words new : List ℕ) → words ≡ low_sums bits (length words) sums → length new ≡ length words → ((v : ℕ) → v < length words → begins v ≡ false → HasBefore d by (length words) v)
    → ((v : ℕ) → v < length words → get_or new v 0 ≡ cond (begins v) 0 (get_or words (before d by v) 0)) → new ≡ low_sums bits (length words) (value_before 0 d by begins sums)
lows_before bits d by begins sums words new is same reach each =
    let n : ℕ = length words in
    fill_by_all (λ v. low bits (value_before 0 d by begins sums v)) new n 0 same (λ v h.
    each v h
    ∙ cut_same (begins v) 0 (get_or words (before d by v) 0) (low bits (sums (before d by v))) (λ none.
    ap (λ (l : List ℕ). get_or l (before d by v) 0) is
    ∙ get_or-map-range_with_len (λ u. low bits (sums u)) 0 n (before d by v) (before d by v) 0 (before_within d by n v h (reach v h none)) (omega arith))
    ∙ cut_low bits (begins v) (sums (before d by v)))

pub overs_before : (bits n : ℕ) (d : Direction) (by : ℕ) (begins : ℕ → Bool) (sums : ℕ → ℕ) (plane new : List Bool) → plane ≡ over_sums bits n sums → length new ≡ n → ((v : ℕ) → v < n → begins v ≡ false → HasBefore d by n v)
    → ((v : ℕ) → v < n → has new v ≡ cond (begins v) false (has plane (before d by v))) → new ≡ over_sums bits n (value_before 0 d by begins sums)
overs_before bits n d by begins sums plane new is long reach each =
    plane_is new n (λ v. leb (2 ^ bits) (value_before 0 d by begins sums v)) long (λ v h.
    each v h
    ∙ cut_same (begins v) false (has plane (before d by v)) (leb (2 ^ bits) (sums (before d by v))) (λ none.
    ap (λ (l : List Bool). has l (before d by v)) is
    ∙ get_or-bits_everywhere n (λ u. leb (2 ^ bits) (sums u)) (before d by v) (before_within d by n v h (reach v h none)))
    ∙ cut_over bits (begins v) (sums (before d by v)))

-- a bit that is moved, or 0 where a run begins
pub cut_moved : (b x y : Bool) → (b ≡ true → x ≡ false) → (b ≡ false → x ≡ y) → x ≡ cond b false y
cut_moved true x y t f = t refl
cut_moved false x y t f = f refl
