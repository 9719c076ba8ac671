-- The run before a processor is the list that the definition of an exclusive scan combines.
use Rattle.std.proofs.Common.{◌≡◌, ℕ, ◌+◌, ◌-◌, ◌<◌, ◌≤◌, Bool, true, false, ◌||◌, ◌&&◌, not, cond, if◌then◌else◌, List, [], ◌∷◌, ◌++◌, length, get_or, map, arith, ap, ◌∙◌, sym, subst, refl, eqb, inl, inr}
use Rattle.std.specs.Prelude.{filter, All}
use Rattle.std.specs.List.{range_with_len, list_any}
use Rattle.std.proofs.lemmas.Bool.{cases_eq}
use Rattle.std.proofs.lemmas.Bool.Decides.{nat_tests}
use Rattle.std.proofs.lemmas.List.Elements.{All-head, All-tail}
use Rattle.std.proofs.lemmas.List.FromFn.{length-map-range_with_len, get_or-map-range_with_len}
use Rattle.paris_geometry.specs.declared.direction.Direction.{Direction}
use Rattle.paris_geometry.specs.declared.direction.Direction.TheVariants.{Upward, Downward}
use Rattle.paris_geometry.specs.Geometry.{stride, axis_length, processor_count, is_geometry, coordinate, at_coordinate, line_until}
use Rattle.paris_geometry.proofs.Neighbours.{coordinate_below, coordinate_given}
use Rattle.paris_model.specs.declared.operators.Inclusion.TheVariants.{Exclusive}
use Rattle.paris_model.specs.Lines.{from_last, values_where, scan_values}
use Rattle.paris_scan.specs.Runs.{before, begins_run, first_coordinate, segment_run}
use Rattle.paris_scan.proofs.Reach.{behind, nearer, distance, distance_below}
use Rattle.paris_scan.proofs.Defined.{along, and_true, cond_same, from_last_more, run_is, until_first, until_is, until_more, values_append, values_cond}

-- what holds of a list holds from its last begin on
all_chosen : (P : ℕ → Type 0) (b : Bool) (xs ys : List ℕ) → All P xs → All P ys → All P (if b then xs else ys)
all_chosen P true xs ys hx hy = hx
all_chosen P false xs ys hx hy = hy

all_from_last : (P : ℕ → Type 0) (f : ℕ → Bool) (xs : List ℕ) → All P xs → All P (from_last f xs)
all_from_last P f [] all = all
all_from_last P f (x ∷ xs) all = all_chosen P (list_any f xs) (from_last f xs) (x ∷ xs) (all_from_last P f xs (All-tail P x xs all)) all

-- two tests that agree on a list
filter_alike : (p q : ℕ → Bool) (xs : List ℕ) → All (λ u. p u ≡ q u) xs → filter p xs ≡ filter q xs
filter_alike p q [] all = refl
filter_alike p q (x ∷ xs) all = cond_same (p x) (q x) x (filter p xs) (filter q xs) (All-head (λ u. p u ≡ q u) x xs all) (filter_alike p q xs (All-tail (λ u. p u ≡ q u) x xs all))

-- whether u counts at v
counts : (ℕ → Bool) → ℕ → ℕ → Bool
counts selected v u = selected u && (false || not (eqb u v))

counts_not : (b c : Bool) → c ≡ true → (b && (false || not c)) ≡ false
counts_not true c e = ap (λ t. true && (false || not t)) e
counts_not false c e = refl

counts_still : (b c : Bool) → c ≡ false → (b && (false || not c)) ≡ b
counts_still b c e = ap (λ t. b && (false || not t)) e ∙ and_true b

-- the processors of a line before v aren't v
along_distance : (axes : List ℕ) (a : ℕ) (d : Direction) (u i : ℕ) → is_geometry axes ≡ true → i < axis_length axes a → distance axes a d (along axes a d u i) ≡ i
unfolding along
along_distance axes a Upward u i sound h = coordinate_given axes a u i sound h
along_distance axes a Downward u i sound h =
    let small : axis_length axes a - 1 - i < axis_length axes a = omega arith in
    let at : coordinate axes a (at_coordinate axes a u (axis_length axes a - 1 - i)) ≡ axis_length axes a - 1 - i = coordinate_given axes a u (axis_length axes a - 1 - i) sound small in
    omega (arith, at)

others : (axes : List ℕ) (a : ℕ) (d : Direction) (u v k : ℕ) → is_geometry axes ≡ true → k ≤ axis_length axes a → k ≤ distance axes a d v → (selected : ℕ → Bool) → All (λ w. counts selected v w ≡ selected w) (map (along axes a d u) (range_with_len 0 k))
unfolding counts
others axes a d u v k sound short near selected i e h =
    let below : i < k = omega (arith, h, length-map-range_with_len (along axes a d u) 0 k) in
    let is : get_or (map (along axes a d u) (range_with_len 0 k)) i e ≡ along axes a d u i = get_or-map-range_with_len (along axes a d u) 0 k i i e below (omega arith) in
    let w : ℕ = along axes a d u i in
    let far : distance axes a d w ≡ i = along_distance axes a d u i sound (omega arith) in
    let apart : eqb w v ≡ false = elim (cases_eq w v) [
      | inl same ↦ (let z : distance axes a d v ≡ i = ap (distance axes a d) (sym same) ∙ far in absurd (omega (arith, z, below, near)))
      | inr n ↦ grind (arith, nat_tests)
    ] in
    subst (λ x. (selected x && (false || not (eqb x v))) ≡ selected x) (sym is) (counts_still (selected w) (eqb w v) apart)

before_counts : (axes : List ℕ) (a : ℕ) (d : Direction) (u v : ℕ) → is_geometry axes ≡ true → a < length axes → distance axes a d u + 1 ≡ distance axes a d v → distance axes a d v < axis_length axes a → (selected : ℕ → Bool) → All (λ w. counts selected v w ≡ selected w) (line_until axes a d u)
before_counts axes a d u v sound within next near selected =
    subst (All (λ w. counts selected v w ≡ selected w)) (sym (until_is axes a d u (coordinate_below axes a u sound within)))
    (others axes a d u v (distance axes a d u + 1) sound (omega arith) (omega arith) selected)

-- v itself doesn't count
filter_one : (p : ℕ → Bool) (v : ℕ) → p v ≡ false → filter p (v ∷ []) ≡ []
filter_one p v e = cond_same (p v) false v [] [] e refl

none_own : (selected : ℕ → Bool) (value : ℕ → ℕ) (v : ℕ) → values_where (counts selected v) value (v ∷ []) ≡ []
unfolding counts
none_own selected value v =
    let same : eqb v v ≡ true = grind (arith, nat_tests) in
    ap (map value) (filter_one (λ u. selected u && (false || not (eqb u v))) v (counts_not (selected v) (eqb v v) same))

append_none : (xs ys : List ℕ) → ys ≡ [] → xs ++ ys ≡ xs
append_none [] ys e = e
append_none (x ∷ xs) ys e = ap (λ l. x ∷ l) (append_none xs ys e)

cond_pair : (b : Bool) (x y x' y' : List ℕ) → x ≡ x' → y ≡ y' → cond b x y ≡ cond b x' y'
cond_pair b x y x' y' ex ey = ap (λ l. cond b l y) ex ∙ ap (cond b x') ey

scan_counts : (axes : List ℕ) (a : ℕ) (d : Direction) (begins selected : ℕ → Bool) (value : ℕ → ℕ) (v : ℕ) → scan_values axes a d Exclusive begins selected value v ≡ values_where (counts selected v) value (from_last begins (line_until axes a d v))
unfolding counts
scan_counts axes a d begins selected value v = refl

pub exclusive_run : (axes : List ℕ) (a : ℕ) (d : Direction) (begins selected : ℕ → Bool) (value : ℕ → ℕ) (v : ℕ) → is_geometry axes ≡ true → a < length axes → v < processor_count axes
    → cond (begins_run axes a d begins v) [] (segment_run (begins_run axes a d begins) (λ u. values_where selected value (u ∷ [])) d (stride axes a) (axis_length axes a) (before d (stride axes a) v)) ≡ scan_values axes a d Exclusive begins selected value v
exclusive_run axes a d begins selected value v sound within below =
    let s : ℕ = stride axes a in
    let n : ℕ = axis_length axes a in
    let u : ℕ = before d s v in
    let f : ℕ → Bool = begins_run axes a d begins in
    let own : ℕ → List ℕ = λ w. values_where selected value (w ∷ []) in
    let Q : List ℕ → List ℕ = values_where (counts selected v) value in
    let F : List ℕ = from_last begins (line_until axes a d u) in
    elim (cases_eq (coordinate axes a v) (first_coordinate d n)) [
      | inl e ↦
          let t : eqb (coordinate axes a v) (first_coordinate d n) ≡ true = grind (arith, nat_tests) in
          ap (λ b. cond (b || begins v) [] (segment_run f own d s n u)) t
          ∙ sym (scan_counts axes a d begins selected value v ∙ ap (λ l. Q (from_last begins l)) (until_first axes a d v sound within e) ∙ none_own selected value v)
      | inr apart ↦
          let t : eqb (coordinate axes a v) (first_coordinate d n) ≡ false = grind (arith, nat_tests) in
          let there = behind axes a d v sound within below apart in
          let next : distance axes a d u + 1 ≡ distance axes a d v = nearer axes a d v sound within apart in
          let near : distance axes a d v < n = distance_below axes a d v (coordinate_below axes a v sound within) in
          let rest : segment_run f own d s n u ≡ values_where selected value F = run_is axes a d begins selected value n u sound within there.there (omega (arith, next, near)) in
          let alike : Q F ≡ values_where selected value F = ap (map value) (filter_alike (counts selected v) selected F (all_from_last (λ w. counts selected v w ≡ selected w) begins (line_until axes a d u) (before_counts axes a d u v sound within next near selected))) in
          ap (λ b. cond (b || begins v) [] (segment_run f own d s n u)) t
          ∙ cond_pair (begins v) [] (segment_run f own d s n u) (Q (v ∷ [])) (Q (F ++ v ∷ [])) (sym (none_own selected value v))
          (rest ∙ sym (values_append (counts selected v) value F (v ∷ []) ∙ append_none (Q F) (Q (v ∷ [])) (none_own selected value v) ∙ alike))
          ∙ sym (scan_counts axes a d begins selected value v
          ∙ ap (λ l. Q (from_last begins l)) (until_more axes a d v sound within apart)
          ∙ ap Q (from_last_more begins (line_until axes a d u) v)
          ∙ values_cond (counts selected v) value (begins v) (v ∷ []) (F ++ v ∷ []))
    ]
