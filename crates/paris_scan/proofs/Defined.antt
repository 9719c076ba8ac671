-- The run of a line is the list that the definition of a scan combines.
use Rattle.std.proofs.Common.{◌≡◌, ℕ, zero, suc, ◌+◌, ◌-◌, ◌<◌, ◌≢◌, Bool, true, false, ◌||◌, ◌&&◌, not, cond, List, [], ◌∷◌, ◌++◌, length, get_or, take, map, arith, ap, ◌∙◌, sym, refl, eqb, inl, inr}
use Rattle.std.specs.Prelude.{filter, reverse}
use Rattle.std.specs.List.{range_with_len, list_any}
use Rattle.std.proofs.lemmas.Bool.{cases_eq}
use Rattle.std.proofs.lemmas.Bool.Decides.{nat_tests}
use Rattle.std.proofs.lemmas.List.{get_or-reverse, length-reverse, get_or-take, length-take-le, map-append}
use Rattle.std.proofs.lemmas.List.Elements.{filter-append}
use Rattle.std.proofs.lemmas.List.Folds.{list_any-append}
use Rattle.std.proofs.lemmas.List.FromFn.{take-map-range_with_len, map-range_with_len_more, fill_by_all, length-map-range_with_len, get_or-map-range_with_len}
use Rattle.paris_geometry.specs.declared.direction.Direction.{Direction}
use Rattle.paris_geometry.specs.declared.direction.Direction.TheVariants.{Upward, Downward}
use Rattle.paris_geometry.specs.Geometry.{stride, axis_length, processor_count, is_geometry, coordinate, at_coordinate, line, line_until, neighbour, neighbour_coordinate, opposite}
use Rattle.paris_geometry.proofs.Strides.{stride_positive, geometry_powers}
use Rattle.paris_news.proofs.Steps.{up_inside, down_inside}
use Rattle.paris_model.specs.declared.operators.Inclusion.TheVariants.{Inclusive}
use Rattle.paris_geometry.proofs.Neighbours.{coordinate_below, at_coordinate_again, at_own_coordinate, ring_below}
use Rattle.paris_model.specs.Lines.{from_last, values_where, scan_values}
use Rattle.paris_scan.specs.Runs.{begins_run, before, segment_run, first_coordinate}
use Rattle.paris_scan.proofs.Reach.{behind, nearer, distance, distance_below}

-- from the last begin on
from_last_cut : (b any : Bool) (v x : ℕ) (rest whole : List ℕ) → cond (any || b) (cond b (v ∷ []) (rest ++ v ∷ [])) (x ∷ (whole ++ v ∷ [])) ≡ cond b (v ∷ []) (cond any rest (x ∷ whole) ++ v ∷ [])
from_last_cut true true v x rest whole = refl
from_last_cut true false v x rest whole = refl
from_last_cut false true v x rest whole = refl
from_last_cut false false v x rest whole = refl

or_none : (b : Bool) → (b || false) ≡ b
or_none true = refl
or_none false = refl

any_more : (f : ℕ → Bool) (xs : List ℕ) (v : ℕ) → list_any f (xs ++ v ∷ []) ≡ (list_any f xs || f v)
any_more f xs v = list_any-append f xs (v ∷ []) ∙ ap (λ b. list_any f xs || b) (or_none (f v))

one_alone : (b : Bool) (v : ℕ) → v ∷ [] ≡ cond b (v ∷ []) ([] ++ v ∷ [])
one_alone true v = refl
one_alone false v = refl

pub from_last_more : (f : ℕ → Bool) (xs : List ℕ) (v : ℕ) → from_last f (xs ++ v ∷ []) ≡ cond (f v) (v ∷ []) (from_last f xs ++ v ∷ [])
from_last_more f [] v = one_alone (f v) v
from_last_more f (x ∷ xs) v =
    ap (λ b. cond b (from_last f (xs ++ v ∷ [])) (x ∷ (xs ++ v ∷ []))) (any_more f xs v)
    ∙ ap (λ l. cond (list_any f xs || f v) l (x ∷ (xs ++ v ∷ []))) (from_last_more f xs v)
    ∙ from_last_cut (f v) (list_any f xs) v x (from_last f xs) xs

-- the line up to v, as a function of the place
unfoldable pub along : List ℕ → ℕ → Direction → ℕ → ℕ → ℕ
along axes a Upward v i = at_coordinate axes a v i
along axes a Downward v i = at_coordinate axes a v (axis_length axes a - 1 - i)

pub until_is : (axes : List ℕ) (a : ℕ) (d : Direction) (v : ℕ) → coordinate axes a v < axis_length axes a → line_until axes a d v ≡ map (along axes a d v) (range_with_len 0 (distance axes a d v + 1))
unfolding along
until_is axes a Upward v own = take-map-range_with_len (at_coordinate axes a v) 0 (axis_length axes a) (coordinate axes a v + 1) (omega arith)
until_is axes a Downward v own =
    let n : ℕ = axis_length axes a in
    let c : ℕ = coordinate axes a v in
    let whole : List ℕ = line axes a v in
    let nw : length whole ≡ n = length-map-range_with_len (at_coordinate axes a v) 0 n in
    let nr : length (reverse whole) ≡ n = length-reverse whole ∙ nw in
    let same : n - 1 - c + 1 ≡ n - c = omega arith in
    fill_by_all (along axes a Downward v) (take (n - c) (reverse whole)) (n - c) 0 (length-take-le (n - c) (reverse whole) (omega arith)) (λ i h.
    get_or-take (n - c) (reverse whole) i 0 h ∙ get_or-reverse whole i 0 (omega arith)
    ∙ ap (λ k. get_or whole (k - 1 - i) 0) nw
    ∙ get_or-map-range_with_len (at_coordinate axes a v) 0 n (n - 1 - i) (n - 1 - i) 0 (omega arith) (omega arith))
    ∙ ap (λ k. map (along axes a Downward v) (range_with_len 0 k)) (sym same)

same_along : (f g : ℕ → ℕ) (n : ℕ) → ((i : ℕ) → i < n → f i ≡ g i) → map f (range_with_len 0 n) ≡ map g (range_with_len 0 n)
same_along f g n each = fill_by_all g (map f (range_with_len 0 n)) n 0 (length-map-range_with_len f 0 n) (λ i h. get_or-map-range_with_len f 0 n i i 0 h (omega arith) ∙ each i h)

before_is : (axes : List ℕ) (a : ℕ) (d : Direction) (v : ℕ) → coordinate axes a v < axis_length axes a → along axes a d v (distance axes a d v) ≡ v
unfolding along
before_is axes a Upward v own = at_own_coordinate axes a v
before_is axes a Downward v own = ap (at_coordinate axes a v) (let e : axis_length axes a - 1 - (axis_length axes a - 1 - coordinate axes a v) ≡ coordinate axes a v = omega arith in e) ∙ at_own_coordinate axes a v

-- the one before v is its neighbour
pub before_neighbour : (axes : List ℕ) (a : ℕ) (d : Direction) (v : ℕ) → is_geometry axes ≡ true → a < length axes → coordinate axes a v ≢ first_coordinate d (axis_length axes a) → before d (stride axes a) v ≡ neighbour axes a (opposite d) v
before_neighbour axes a Upward v sound within apart =
    let some : 0 < stride axes a = stride_positive axes a (geometry_powers axes sound) in
    let own : coordinate axes a v < axis_length axes a = coordinate_below axes a v sound within in
    let at : neighbour axes a Downward v + stride axes a ≡ v = down_inside axes a v some own (omega arith) in
    omega arith
before_neighbour axes a Downward v sound within apart =
    let some : 0 < stride axes a = stride_positive axes a (geometry_powers axes sound) in
    let own : coordinate axes a v < axis_length axes a = coordinate_below axes a v sound within in
    sym (up_inside axes a v some (omega arith))

same_line : (axes : List ℕ) (a : ℕ) (d e : Direction) (v i : ℕ) → is_geometry axes ≡ true → a < length axes → along axes a d (neighbour axes a e v) i ≡ along axes a d v i
unfolding along
same_line axes a Upward e v i sound within = at_coordinate_again axes a v (neighbour_coordinate e (axis_length axes a) (coordinate axes a v)) i sound (ring_below e (axis_length axes a) (coordinate axes a v) (coordinate_below axes a v sound within))
same_line axes a Downward e v i sound within = at_coordinate_again axes a v (neighbour_coordinate e (axis_length axes a) (coordinate axes a v)) (axis_length axes a - 1 - i) sound (ring_below e (axis_length axes a) (coordinate axes a v) (coordinate_below axes a v sound within))

no_distance : (axes : List ℕ) (a : ℕ) (d : Direction) (v : ℕ) → coordinate axes a v ≡ first_coordinate d (axis_length axes a) → distance axes a d v ≡ 0
no_distance axes a Upward v e = e
no_distance axes a Downward v e = omega (arith, e)

pub until_first : (axes : List ℕ) (a : ℕ) (d : Direction) (v : ℕ) → is_geometry axes ≡ true → a < length axes → coordinate axes a v ≡ first_coordinate d (axis_length axes a) → line_until axes a d v ≡ v ∷ []
until_first axes a d v sound within e =
    let own : coordinate axes a v < axis_length axes a = coordinate_below axes a v sound within in
    let z : distance axes a d v ≡ 0 = no_distance axes a d v e in
    until_is axes a d v own
    ∙ ap (λ k. map (along axes a d v) (range_with_len 0 (k + 1))) z
    ∙ ap (λ x. x ∷ []) (ap (along axes a d v) (sym z) ∙ before_is axes a d v own)

pub until_more : (axes : List ℕ) (a : ℕ) (d : Direction) (v : ℕ) → is_geometry axes ≡ true → a < length axes → coordinate axes a v ≢ first_coordinate d (axis_length axes a) → line_until axes a d v ≡ line_until axes a d (before d (stride axes a) v) ++ v ∷ []
until_more axes a d v sound within apart =
    let s : ℕ = stride axes a in
    let u : ℕ = before d s v in
    let k : ℕ = distance axes a d v in
    let own : coordinate axes a v < axis_length axes a = coordinate_below axes a v sound within in
    let next : distance axes a d u + 1 ≡ k = nearer axes a d v sound within apart in
    let same : (i : ℕ) → along axes a d v i ≡ along axes a d u i = λ i. sym (ap (λ x. along axes a d x i) (before_neighbour axes a d v sound within apart) ∙ same_line axes a d (opposite d) v i sound within) in
    until_is axes a d v own
    ∙ map-range_with_len_more (along axes a d v) 0 k k (omega arith)
    ∙ ap (λ x. map (along axes a d v) (range_with_len 0 k) ++ x ∷ []) (before_is axes a d v own)
    ∙ ap (λ l. l ++ v ∷ []) (same_along (along axes a d v) (along axes a d u) k (λ i h. same i)
    ∙ ap (λ j. map (along axes a d u) (range_with_len 0 j)) (sym next)
    ∙ sym (until_is axes a d u (coordinate_below axes a u sound within)))

pub values_append : (p : ℕ → Bool) (g : ℕ → ℕ) (xs ys : List ℕ) → values_where p g (xs ++ ys) ≡ values_where p g xs ++ values_where p g ys
values_append p g xs ys = ap (map g) (filter-append p xs ys) ∙ map-append g (filter p xs) (filter p ys)

pub values_cond : (p : ℕ → Bool) (g : ℕ → ℕ) (b : Bool) (xs ys : List ℕ) → values_where p g (cond b xs ys) ≡ cond b (values_where p g xs) (values_where p g ys)
values_cond p g true xs ys = refl
values_cond p g false xs ys = refl

pub run_is : (axes : List ℕ) (a : ℕ) (d : Direction) (begins selected : ℕ → Bool) (value : ℕ → ℕ) (k v : ℕ) → is_geometry axes ≡ true → a < length axes → v < processor_count axes → distance axes a d v < k → segment_run (begins_run axes a d begins) (λ u. values_where selected value (u ∷ [])) d (stride axes a) k v ≡ values_where selected value (from_last begins (line_until axes a d v))
unfolding segment_run
run_is axes a d begins selected value zero v sound within below near = absurd (omega arith)
run_is axes a d begins selected value (suc k) v sound within below near =
    let s : ℕ = stride axes a in
    let u : ℕ = before d s v in
    let f : ℕ → Bool = begins_run axes a d begins in
    let own : ℕ → List ℕ = λ w. values_where selected value (w ∷ []) in
    let P : List ℕ → List ℕ = values_where selected value in
    elim (cases_eq (coordinate axes a v) (first_coordinate d (axis_length axes a))) [
      | inl e ↦
          let t : eqb (coordinate axes a v) (first_coordinate d (axis_length axes a)) ≡ true = grind (arith, nat_tests) in
          ap (λ b. cond (b || begins v) (own v) (segment_run f own d s k u ++ own v)) t
          ∙ sym (ap (λ l. P (from_last begins l)) (until_first axes a d v sound within e))
      | inr n ↦
          let t : eqb (coordinate axes a v) (first_coordinate d (axis_length axes a)) ≡ false = grind (arith, nat_tests) in
          let there = behind axes a d v sound within below n in
          let rest : segment_run f own d s k u ≡ P (from_last begins (line_until axes a d u)) = run_is axes a d begins selected value k u sound within there.there (omega (arith, near, nearer axes a d v sound within n)) in
          ap (λ b. cond (b || begins v) (own v) (segment_run f own d s k u ++ own v)) t
          ∙ ap (λ l. cond (begins v) (own v) (l ++ own v)) rest
          ∙ sym (ap (λ l. P (from_last begins l)) (until_more axes a d v sound within n)
          ∙ ap P (from_last_more begins (line_until axes a d u) v)
          ∙ values_cond selected value (begins v) (v ∷ []) (from_last begins (line_until axes a d u) ++ v ∷ [])
          ∙ ap (λ l. cond (begins v) (own v) l) (values_append selected value (from_last begins (line_until axes a d u)) (v ∷ [])))
    ]

-- the values that an inclusive scan combines are the run as long as the line
pub and_true : (b : Bool) → (b && true) ≡ b
and_true true = refl
and_true false = refl

pub cond_same : (b c : Bool) (x : ℕ) (xs ys : List ℕ) → b ≡ c → xs ≡ ys → cond b (x ∷ xs) xs ≡ cond c (x ∷ ys) ys
cond_same b c x xs ys e h = ap (λ t. cond t (x ∷ xs) xs) e ∙ ap (λ l. cond c (x ∷ l) l) h

pub filter_same : (p q : ℕ → Bool) (xs : List ℕ) → ((u : ℕ) → p u ≡ q u) → filter p xs ≡ filter q xs
filter_same p q [] each = refl
filter_same p q (x ∷ xs) each = cond_same (p x) (q x) x (filter p xs) (filter q xs) (each x) (filter_same p q xs each)

both_selected : (selected : ℕ → Bool) (xs : List ℕ) (v : ℕ) → filter (λ u. selected u && (true || not (eqb u v))) xs ≡ filter selected xs
both_selected selected xs v = filter_same (λ u. selected u && (true || not (eqb u v))) selected xs (λ u. and_true (selected u))

pub inclusive_run : (axes : List ℕ) (a : ℕ) (d : Direction) (begins selected : ℕ → Bool) (value : ℕ → ℕ) (v : ℕ) → is_geometry axes ≡ true → a < length axes → v < processor_count axes → segment_run (begins_run axes a d begins) (λ u. values_where selected value (u ∷ [])) d (stride axes a) (axis_length axes a) v ≡ scan_values axes a d Inclusive begins selected value v
inclusive_run axes a d begins selected value v sound within below =
    run_is axes a d begins selected value (axis_length axes a) v sound within below (distance_below axes a d v (coordinate_below axes a v sound within))
    ∙ ap (map value) (sym (both_selected selected (from_last begins (line_until axes a d v)) v))
