-- What the planes of a value say of its width and of its numbers.
use Rattle.std.proofs.Common.{◌≡◌, ◌≤◌, ℕ, zero, suc, ◌+◌, ◌<◌, ◌^◌, ◌-◌, List, [], ◌∷◌, ◌++◌, Bool, false, length, get_or, take, drop, map, replicate, arith, ◌∙◌, sym, ap, refl, subst, inl, inr}
use Rattle.std.proofs.lemmas.Bool.{cases_lt}
use Rattle.std.proofs.Math.ListN.{get_or-append}
use Rattle.std.specs.Bool.{Decides}
use Rattle.std.proofs.lemmas.Bool.Decides.{Decides-and, Decides-eqb, Decides-like, same_from_decides}
use Rattle.std.proofs.lemmas.Slice.Eq.{slice_eq-Decides}
use Rattle.std.proofs.lemmas.List.{get_or-take, length-take-le, length-map, get_or-map, get_or-replicate, length-replicate, length-append, length-drop, get_or-append_right, get_or-drop, drop_all, append-nil}
use Rattle.std.proofs.lemmas.List.Elements.{All-from_get_or}
use Rattle.paris_model.specs.Store.{bit}
use Rattle.paris_field.specs.Fields.{FieldNumbers, AllFit, field_eq, overwritten}
use Rattle.paris_field.specs.Numbers.{AllOf, bit_in, value_of_planes, number_at, numbers, plane_at}
use Rattle.paris_field.proofs.Numbers.{number_at_lt, same_numbers}
use Rattle.paris_field.proofs.Lists.{count_of, number_of, numbers_are}

-- a value by its two parts
made : ℕ → List ℕ → FieldNumbers
made width list = record { width = width; numbers = list }

pub width_is : (n : ℕ) (ps : List (List Bool)) {f : FieldNumbers} → value_of_planes n ps ≡ f → length ps ≡ f.width
width_is n ps is = ap (λ (f : FieldNumbers). f.width) is

pub vps_is : (n : ℕ) (ps : List (List Bool)) {f : FieldNumbers} → value_of_planes n ps ≡ f → length f.numbers ≡ n
vps_is n ps is = count_of ps (ap (λ (f : FieldNumbers). f.numbers) is)

pub at_is : (n : ℕ) (ps : List (List Bool)) {f : FieldNumbers} → value_of_planes n ps ≡ f → (v : ℕ) → v < n → number_at ps v ≡ get_or f.numbers v 0
at_is n ps is v h = sym (number_of ps (ap (λ (f : FieldNumbers). f.numbers) is) v h)

pub value_is : (n w : ℕ) (ps : List (List Bool)) (xs : List ℕ) → length ps ≡ w → length xs ≡ n → ((v : ℕ) → v < n → number_at ps v ≡ get_or xs v 0) → value_of_planes n ps ≡ record { width = w; numbers = xs }
unfolding made
value_is n w ps xs width long each =
    ap (λ k. made k (numbers n ps)) width ∙ ap (made w) (numbers_are n ps xs long each)

-- each number fits the width
pub all_fit : (n : ℕ) (ps : List (List Bool)) {f : FieldNumbers} → value_of_planes n ps ≡ f → AllFit f.width f.numbers
all_fit n ps {f} is =
    All-from_get_or (λ x. x < 2 ^ f.width) f.numbers 0 (λ v h.
    let below : number_at ps v < 2 ^ f.width = subst (λ w. number_at ps v < 2 ^ w) (width_is n ps is) (number_at_lt ps v) in
    subst (λ x. x < 2 ^ f.width) (at_is n ps is v (omega (arith, vps_is n ps is))) below)

pub planes_fit : (n w : ℕ) (ps : List (List Bool)) {xs : List ℕ} → length ps ≡ w → numbers n ps ≡ xs → AllFit w xs
planes_fit n w ps {xs} width is =
    All-from_get_or (λ x. x < 2 ^ w) xs 0 (λ v h.
    let below : number_at ps v < 2 ^ w = subst (λ k. number_at ps v < 2 ^ k) width (number_at_lt ps v) in
    subst (λ x. x < 2 ^ w) (sym (number_of ps is v (omega (arith, h, count_of ps is)))) below)

-- planes that are all of n bits, by another name of the list and of the number
pub all_of : (n m : ℕ) (ps qs : List (List Bool)) → qs ≡ ps → n ≡ m → AllOf n ps → AllOf m qs
all_of n m ps qs e same all k h =
    ap (λ l. length (plane_at l k)) e ∙ all k (subst (λ l. k < length l) e h) ∙ same

pub all_taken : (n bits : ℕ) (ps : List (List Bool)) → bits ≤ length ps → AllOf n ps → AllOf n (take bits ps)
all_taken n bits ps room all k h =
    let below : k < bits = omega (arith, h, length-take-le bits ps room) in
    ap length (get_or-take bits ps k [] below) ∙ all k (omega arith)

pub all_replicated : (n k : ℕ) → AllOf n (replicate k (replicate n false))
all_replicated n k j h =
    ap length (get_or-replicate k j (replicate n false) [] (omega (arith, h, length-replicate k (replicate n false)))) ∙ length-replicate n false

pub all_one : (p : List Bool) → AllOf (length p) (p ∷ [])
all_one p zero h = refl
all_one p (suc k) h = absurd (omega (arith, h))

-- a value of one plane
one_plane : (p : List Bool) (v : ℕ) → number_at (p ∷ []) v ≡ bit_in p v
unfolding number_at
one_plane p v = omega arith

alone : (ps : List (List Bool)) → length ps ≡ 1 → ps ≡ plane_at ps 0 ∷ []
alone [] e = absurd (omega (arith, e))
alone (p ∷ []) e = refl
alone (p ∷ q ∷ ps) e = absurd (omega (arith, e))

bits_of_plane : (p : List Bool) (v : ℕ) → v < length p → bit_in p v ≡ get_or (map bit p) v 0
bits_of_plane p v h = sym (get_or-map bit p v false 0 h)

pub one_plane_is : (p : List Bool) → value_of_planes (length p) (p ∷ []) ≡ record { width = 1; numbers = map bit p }
one_plane_is p = value_is (length p) 1 (p ∷ []) (map bit p) refl (length-map p bit) (λ v h. one_plane p v ∙ bits_of_plane p v h)

pub mask_is : (n : ℕ) (ps : List (List Bool)) {f : FieldNumbers} (p : List Bool) → value_of_planes n ps ≡ f → length ps ≡ 1 → p ≡ plane_at ps 0 → length p ≡ n → map bit p ≡ f.numbers
mask_is n ps {f} p is one at long =
    let single : ps ≡ p ∷ [] = alone ps one ∙ ap (λ q. q ∷ []) (sym at) in
    sym (numbers_are n ps (map bit p) (length-map p bit ∙ long) (λ v h. ap (λ l. number_at l v) single ∙ one_plane p v ∙ bits_of_plane p v (omega arith)))
    ∙ ap (λ (f : FieldNumbers). f.numbers) is

-- two values of as many processors are equal where their planes are
pub same_fields : (n m : ℕ) (ps qs : List (List Bool)) (f g : FieldNumbers) → value_of_planes n ps ≡ f → value_of_planes m qs ≡ g → n ≡ m → AllOf n ps → AllOf m qs → f ≡ g → ps ≡ qs
same_fields n m ps qs f g is_f is_g same all_ps all_qs e =
    same_numbers n ps qs all_ps (all_of m n qs qs refl (sym same) all_qs)
    (width_is n ps is_f ∙ ap (λ (h : FieldNumbers). h.width) e ∙ sym (width_is m qs is_g))
    (λ v h. at_is n ps is_f v h ∙ ap (λ (x : FieldNumbers). get_or x.numbers v 0) e ∙ sym (at_is m qs is_g v (omega arith)))

pub equal_fields : (n m : ℕ) (ps qs : List (List Bool)) (f g : FieldNumbers) → value_of_planes n ps ≡ f → value_of_planes m qs ≡ g → n ≡ m → ps ≡ qs → f ≡ g
equal_fields n m ps qs f g is_f is_g same e =
    sym is_f ∙ ap (value_of_planes n) e ∙ ap (λ k. value_of_planes k qs) same ∙ is_g

pub same_vps : (n m : ℕ) (ps qs : List (List Bool)) (f g : FieldNumbers) → value_of_planes n ps ≡ f → value_of_planes m qs ≡ g → f ≡ g → n ≡ m
same_vps n m ps qs f g is_f is_g e =
    sym (vps_is n ps is_f) ∙ ap (λ (x : FieldNumbers). length x.numbers) e ∙ vps_is m qs is_g

pub same_width : (n m : ℕ) (ps qs : List (List Bool)) (f g : FieldNumbers) → value_of_planes n ps ≡ f → value_of_planes m qs ≡ g → f ≡ g → length ps ≡ length qs
same_width n m ps qs f g is_f is_g e =
    width_is n ps is_f ∙ ap (λ (x : FieldNumbers). x.width) e ∙ sym (width_is m qs is_g)

-- the test of two values
parts_equal : (x y : FieldNumbers) → (x.width ≡ y.width) × (x.numbers ≡ y.numbers) → x ≡ y
unfolding made
parts_equal x y p = ap (λ w. made w x.numbers) p.0 ∙ ap (made y.width) p.1

Decides-field_eq : (x y : FieldNumbers) → Decides (field_eq x y) (x ≡ y)
Decides-field_eq x y =
    Decides-like _ (parts_equal x y) (λ e. (ap (λ (f : FieldNumbers). f.width) e, ap (λ (f : FieldNumbers). f.numbers) e))
    (Decides-and _ _ (Decides-eqb x.width y.width) (slice_eq-Decides Decides-eqb x.numbers y.numbers _ refl))

pub eq_is : (r : Bool) (x y : FieldNumbers) → Decides r (x ≡ y) → r ≡ field_eq x y
eq_is r x y same = same_from_decides r (field_eq x y) same (Decides-field_eq x y)

-- numbers in place of as many from a processor on
pub length-overwritten : (xs ys : List ℕ) (from : ℕ) → from + length ys ≤ length xs → length (overwritten xs from ys) ≡ length xs
length-overwritten xs ys from room =
    omega (arith, length-append (take from xs) (ys ++ drop (from + length ys) xs), length-append ys (drop (from + length ys) xs), length-take-le from xs (omega arith), length-drop (from + length ys) xs)

-- in place of all of them
overwritten_whole : (xs ys : List ℕ) (from : ℕ) → from + length ys ≤ length xs → length ys ≡ length xs → ys ≡ overwritten xs from ys
overwritten_whole xs ys from room whole =
    let none : from ≡ 0 = omega arith in
    sym (ap (λ f. take f xs ++ (ys ++ drop (f + length ys) xs)) none ∙ ap (λ l. ys ++ l) (drop_all (0 + length ys) xs (omega arith)) ∙ append-nil ys)

pub whole_value : (v w : ℕ) (xs ys : List ℕ) (from : ℕ) {f : FieldNumbers} → from + length ys ≤ length xs → length ys ≡ length xs → v ≡ w → f ≡ record { width = v; numbers = ys } → f ≡ record { width = w; numbers = overwritten xs from ys }
unfolding made
whole_value v w xs ys from room whole width is =
    is ∙ ap (λ k. made k ys) width ∙ ap (made w) (overwritten_whole xs ys from room whole)

pub put_is : (old new : ℕ → ℕ) (xs ys : List ℕ) (from : ℕ) → from + length ys ≤ length xs → ((v : ℕ) → v < length xs → old v ≡ get_or xs v 0) → ((i : ℕ) → i < length ys → new (from + i) ≡ get_or ys i 0) → ((v : ℕ) → v < length xs → (from ≤ v → from + length ys ≤ v) → new v ≡ old v) → (v : ℕ) → v < length xs → new v ≡ get_or (overwritten xs from ys) v 0
put_is old new xs ys from room at put others v h =
    let front : length (take from xs) ≡ from = length-take-le from xs (omega arith) in
    elim (cases_lt v from) [
      | inl below ↦
          others v h (λ here. absurd (omega (arith, here, below))) ∙ at v h
          ∙ sym (get_or-append (take from xs) (ys ++ drop (from + length ys) xs) 0 v (omega arith) ∙ get_or-take from xs v 0 below)
      | inr above ↦
          elim (cases_lt v (from + length ys)) [
            | inl within ↦
                ap new (omega arith) ∙ put (v - from) (omega arith)
                ∙ sym (get_or-append_right (take from xs) (ys ++ drop (from + length ys) xs) from v 0 front above
                ∙ get_or-append ys (drop (from + length ys) xs) 0 (v - from) (omega arith))
            | inr beyond ↦
                others v h (λ _. beyond) ∙ at v h
                ∙ sym (get_or-append_right (take from xs) (ys ++ drop (from + length ys) xs) from v 0 front above
                ∙ get_or-append_right ys (drop (from + length ys) xs) (length ys) (v - from) 0 refl (omega arith)
                ∙ get_or-drop (from + length ys) xs (v - from - length ys) 0
                ∙ ap (λ j. get_or xs j 0) (omega arith))
          ]
    ]
