-- Lines whose processors follow one another, and numbers that their values come to.
use Rattle.std.proofs.Common.{◌≡◌, ℕ, zero, suc, ◌+◌, ◌-◌, ◌*◌, ◌/◌, ◌%◌, ◌<◌, ◌≤◌, List, ◌∷◌, Bool, true, false, cond, length, map, replicate, arith, ◌∙◌, sym, ap, refl}
use Rattle.std.specs.Prelude.{filter, slice_index}
use Rattle.std.specs.List.{range_with_len}
use Rattle.std.proofs.Math.Nat.{div-mul-le_self, mod-eq-sub-div-mul}
use Rattle.std.proofs.lemmas.Bool.{false≢true}
use Rattle.std.proofs.lemmas.List.{get_or-replicate, length-replicate}
use Rattle.std.proofs.lemmas.List.FromFn.{fill_by_all}
use Rattle.paris_geometry.specs.Geometry.{at_coordinate, axis_length, coordinate, line, processor_count, stride}
use Rattle.paris_model.specs.Lines.{line_values, values_where}
use Rattle.paris_model.specs.Store.{everywhere}
use Rattle.paris_field.specs.Fields.{FieldNumbers}
use Rattle.paris_field.specs.Numbers.{bits_everywhere, has, number_at}
use Rattle.paris_field.proofs.Places.{everywhere_same, plane_is}
use Rattle.paris_scan.specs.Adjacent.{IsAdjacent, lines_field, values_of_line}
use Rattle.paris_scan.proofs.Spans.{in_lines, line_below}

-- numbers that follow one another from another one on
moved_on : (f : ℕ → ℕ) (s : ℕ) → ((c : ℕ) → f c ≡ s + c) → (b n : ℕ) → map f (range_with_len b n) ≡ range_with_len (s + b) n
moved_on f s each b zero = refl
moved_on f s each b (suc n) =
    ap (λ d. d ∷ map f (range_with_len (b + 1) n)) (each b)
    ∙ ap (λ l. (s + b) ∷ l) (moved_on f s each (b + 1) n ∙ ap (λ t. range_with_len t n) (let e : s + (b + 1) ≡ s + b + 1 = omega arith in e))

-- what a line begins with
pub all_lines : (n m : ℕ) → m % n ≡ 0 → m / n * n ≡ m
all_lines n m whole = omega (arith, div-mul-le_self m n, mod-eq-sub-div-mul m n, whole)

line_start : (n v : ℕ) → v - v % n ≡ v / n * n
line_start n v = omega (arith, div-mul-le_self v n, mod-eq-sub-div-mul v n)

-- a coordinate's processor
pub at_place : (axes : List ℕ) (a v c : ℕ) → stride axes a ≡ 1 → at_coordinate axes a v c ≡ v / axis_length axes a * axis_length axes a + c
at_place axes a v c near =
    let n : ℕ = axis_length axes a in
    let one : v / 1 ≡ v = omega arith in
    let here : coordinate axes a v ≡ v % n = ap (λ s. v / s % n) near ∙ ap (λ u. u % n) one in
    ap (λ s. v - coordinate axes a v * s + c * s) near ∙ omega (arith, here, line_start n v)

-- the line's processors, in order
pub adjacent_line : (axes : List ℕ) (a v : ℕ) → stride axes a ≡ 1 → line axes a v ≡ range_with_len (v / axis_length axes a * axis_length axes a) (axis_length axes a)
adjacent_line axes a v near =
    let n : ℕ = axis_length axes a in
    moved_on (at_coordinate axes a v) (v / n * n) (λ c. at_place axes a v c near) 0 n ∙ ap (λ s. range_with_len s n) (let e : v / n * n + 0 ≡ v / n * n = omega arith in e)

-- values that agree where they count
first_same : (f g : ℕ → ℕ) (b : Bool) (x : ℕ) (us : List ℕ) → (b ≡ true → f x ≡ g x) → map f us ≡ map g us → map f (cond b (x ∷ us) us) ≡ map g (cond b (x ∷ us) us)
first_same f g true x us here rest = ap (λ y. y ∷ map f us) (here refl) ∙ ap (λ l. g x ∷ l) rest
first_same f g false x us here rest = rest

values_same : (who : ℕ → Bool) (f g : ℕ → ℕ) (a n : ℕ) → ((v : ℕ) → a ≤ v → v < a + n → who v ≡ true → f v ≡ g v) → values_where who f (range_with_len a n) ≡ values_where who g (range_with_len a n)
values_same who f g a zero each = refl
values_same who f g a (suc n) each =
    first_same f g (who a) a (filter who (range_with_len (a + 1) n)) (each a (omega arith) (omega arith)) (values_same who f g (a + 1) n (λ v l u. each v (omega (arith, l)) (omega (arith, u))))

-- masks that agree
first_chosen : (b c : Bool) (u : ℕ) (us vs : List ℕ) → b ≡ c → us ≡ vs → cond b (u ∷ us) us ≡ cond c (u ∷ vs) vs
first_chosen true true u us vs e rest = ap (λ l. u ∷ l) rest
first_chosen false false u us vs e rest = rest
first_chosen true false u us vs e rest = absurd (false≢true (sym e))
first_chosen false true u us vs e rest = absurd (false≢true e)

chosen : (who other : ℕ → Bool) (a n : ℕ) → ((v : ℕ) → a ≤ v → v < a + n → who v ≡ other v) → filter who (range_with_len a n) ≡ filter other (range_with_len a n)
chosen who other a zero each = refl
chosen who other a (suc n) each =
    first_chosen (who a) (other a) a (filter who (range_with_len (a + 1) n)) (filter other (range_with_len (a + 1) n)) (each a (omega arith) (omega arith))
    (chosen who other (a + 1) n (λ v l u. each v (omega (arith, l)) (omega (arith, u))))

pub chosen_same : (who other : ℕ → Bool) (value : ℕ → ℕ) (a n : ℕ) → ((v : ℕ) → a ≤ v → v < a + n → who v ≡ other v) → values_where who value (range_with_len a n) ≡ values_where other value (range_with_len a n)
chosen_same who other value a n each = ap (map value) (chosen who other a n each)

-- what the values of a mask in each line come to is what those of each processor's line do
pub total_at : (shows : ℕ → List ℕ → ℕ) (L n : ℕ) (axes : List ℕ) (a : ℕ) (mask : List Bool) (value : ℕ → ℕ) (planes : List (List Bool)) (totals : List ℕ) → IsAdjacent axes a → n ≡ axis_length axes a → length mask ≡ processor_count axes → length planes ≡ L
    → ((v : ℕ) → v < processor_count axes → has mask v ≡ true → number_at planes v ≡ value v)
    → length totals ≡ length mask / n
    → ((i : ℕ) → i < length totals → slice_index totals i ≡ shows (length planes) (values_of_line n mask (number_at planes) i))
    → (v : ℕ) → v < processor_count axes → slice_index totals (v / n) ≡ shows L (line_values axes a (has mask) value v)
total_at shows L n axes a mask value planes totals adjacent same long count each lines is v below =
    let i : ℕ = v / n in
    let whole : processor_count axes % n ≡ 0 = ap (λ m. processor_count axes % m) same ∙ adjacent.3 in
    let all : length totals * n ≡ processor_count axes = ap (λ m. m * n) (lines ∙ ap (λ m. m / n) long) ∙ all_lines n (processor_count axes) whole in
    let there : i < length totals = line_below (length totals) n v (omega (arith, adjacent.2, same)) (omega (arith, below, all)) in
    is i there ∙ ap (λ k. shows k (values_of_line n mask (number_at planes) i)) count
    ∙ ap (shows L) (values_same (has mask) (number_at planes) value (i * n) n (λ u l h e. each u (omega (arith, all, in_lines i (length totals) n u there l h)) e))
    ∙ ap (λ m. shows L (values_where (has mask) value (range_with_len (v / m * m) m))) same
    ∙ ap (λ us. shows L (values_where (has mask) value us)) (sym (adjacent_line axes a v adjacent.0))

-- a value that is one number in each line
pub lines_are : (L n m : ℕ) (totals : List ℕ) (f : ℕ → ℕ) → ((v : ℕ) → v < m → slice_index totals (v / n) ≡ f v) → lines_field L n m totals ≡ record { width = L; numbers = everywhere m f }
lines_are L n m totals f each =
    let field : List ℕ → FieldNumbers = λ xs. record { width = L; numbers = xs } in
    ap field (everywhere_same m (λ v. slice_index totals (v / n)) f each)

-- one number, and one bit, in every processor
pub constant_is : (n t : ℕ) (f : ℕ → ℕ) → ((v : ℕ) → v < n → t ≡ f v) → replicate n t ≡ everywhere n f
constant_is n t f each = fill_by_all f (replicate n t) n 0 (length-replicate n t) (λ v h. get_or-replicate n v t 0 h ∙ each v h)

pub filled_is : (n : ℕ) (b : Bool) (f : ℕ → Bool) → ((v : ℕ) → v < n → b ≡ f v) → replicate n b ≡ bits_everywhere n f
filled_is n b f each = plane_is (replicate n b) n f (length-replicate n b) (λ v h. get_or-replicate n v b false h ∙ each v h)

-- a value that is brought where it counts
pub brought_where : (b : Bool) (x : ℕ) → b ≡ true → cond b x 0 ≡ x
brought_where true x e = refl
brought_where false x e = absurd (false≢true e)
