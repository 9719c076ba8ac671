-- The value beside a key among values that fit their keys.
use Rattle.std.proofs.Common.{◌≡◌, ℕ, ◌<◌, ◌≤◌, ◌+◌, List, [], ◌∷◌, Bool, true, false, cond, Option, Some, None, Err, refl, sym, ap, ◌∙◌, subst, map, length, drop, suc, add-one, get_or, drop-cons, eqb, drop_of_length-le}
use Rattle.std.proofs.Math.Path.{ap₂}
use Rattle.std.specs.Prelude.{◌&&◌, ◌||◌}
use Rattle.std.proofs.lemmas.Bool.{eqb-true}
use Rattle.paris_names.specs.declared.keys.Key.{Key}
use Rattle.paris_names.specs.Keys.{key_eq, has_key}
use Rattle.paris_names.proofs.KeyLists.{key_eq-true}
use Rattle.paris_geometry.specs.Geometry.{processor_count}
use Rattle.paris_model.specs.declared.actions.Refusal.{Refusal}
use Rattle.std.specs.Prelude.{unwrap_or}
use Rattle.paris_model.specs.Frame.{World}
use Rattle.paris_model.proofs.Counts.{after_count}
use Rattle.paris_model.specs.Instructions.{Plan, reads, writes, key_width, value_at, after_plan, outcome, outcome_in, refusal, given, held}
use Rattle.paris_model.proofs.Worlds.{refused_reads, value_at-map}
use Rattle.paris_field.specs.Fields.{FieldNumbers}
use Rattle.paris_exec.specs.Tasks.{Task, numbers_of, field_of, fits_key, fits_keys, fits, fields_of, result_told, task_outcome, task_value, beside}
use Rattle.paris_exec.specs.declared.orders.Outcome.{Outcome}
use Rattle.paris_exec.specs.declared.orders.Outcome.TheVariants.{Values, Refused}

pub and_first : (a b : Bool) → (a && b) ≡ true → a ≡ true
and_first true b h = refl
and_first false b h = h

pub and_second : (a b : Bool) → (a && b) ≡ true → b ≡ true
and_second true b h = h
and_second false b h = absurd (let x : false ≡ true = h in cc)

-- a value that fits a key is the key's field of its numbers
pub fits_is : (p : Plan) (k : Key) (x : FieldNumbers) → fits_key p k x ≡ true → (x ≡ field_of p k x.numbers) × (length x.numbers ≡ processor_count p.axes)
fits_is p k x h =
    let wide : x.width ≡ key_width p k = eqb-true x.width (key_width p k) (and_first _ _ h) in
    let long : length x.numbers ≡ processor_count p.axes = eqb-true (length x.numbers) (processor_count p.axes) (and_second (eqb x.width (key_width p k)) (eqb (length x.numbers) (processor_count p.axes)) h) in
    (λ i. record { width = wide i; numbers = x.numbers }, long)

-- the value beside a key is its field of the numbers beside it
pub beside_fits : (p : Plan) (ks : List Key) (xs : List FieldNumbers) (k : Key) → fits_keys p ks xs ≡ true → has_key ks k ≡ true
    → (x : FieldNumbers) × (beside ks xs k ≡ Some x) × (x ≡ field_of p k (value_at ks (numbers_of xs) k)) × (length x.numbers ≡ processor_count p.axes)
beside_fits p [] xs k f t = absurd (let e : false ≡ true = t in cc)
beside_fits p (j ∷ js) [] k f t = absurd (let e : false ≡ true = f in cc)
beside_fits p (j ∷ js) (y ∷ ys) k f t =
    by_first (beside_fits p js ys k (and_second (fits_key p j y) (fits_keys p js ys) f)) (key_eq k j) refl t
  where
    by_first : (has_key js k ≡ true → (x : FieldNumbers) × (beside js ys k ≡ Some x) × (x ≡ field_of p k (value_at js (numbers_of ys) k)) × (length x.numbers ≡ processor_count p.axes))
        → (b : Bool) → key_eq k j ≡ b → (b || has_key js k) ≡ true
        → (x : FieldNumbers) × (cond b (Some y) (beside js ys k) ≡ Some x) × (x ≡ field_of p k (cond b y.numbers (value_at js (numbers_of ys) k))) × (length x.numbers ≡ processor_count p.axes)
    by_first rest true e s =
        let here = fits_is p j y (and_first _ _ f) in
        (y, refl, here.0 ∙ ap (λ (z : Key). field_of p z y.numbers) (sym (key_eq-true k j e)), here.1)
    by_first rest false e s = rest s

-- of lists of numbers at keys, in the same way
pub beside_fields : (p : Plan) (ks : List Key) (w : World) (k : Key) → has_key ks k ≡ true → beside ks (fields_of p ks (map w ks)) k ≡ Some (field_of p k (w k))
beside_fields p [] w k t = absurd (let e : false ≡ true = t in cc)
beside_fields p (j ∷ js) w k t = by_first (beside_fields p js w k) (key_eq k j) refl t
  where
    by_first : (has_key js k ≡ true → beside js (fields_of p js (map w js)) k ≡ Some (field_of p k (w k))) → (b : Bool) → key_eq k j ≡ b → (b || has_key js k) ≡ true
        → cond b (Some (field_of p j (w j))) (beside js (fields_of p js (map w js)) k) ≡ Some (field_of p k (w k))
    by_first rest true e s = ap (λ (z : Key). Some (field_of p z (w z))) (sym (key_eq-true k j e))
    by_first rest false e s = rest s

-- one place further
pub beside_next : (ks : List Key) (xs : List FieldNumbers) (k : Key) (j : Key) (x : FieldNumbers) (i : ℕ) → i < length ks → i < length xs → j ≡ get_or ks i j → key_eq k j ≡ false → beside (drop i ks) (drop i xs) k ≡ beside (drop (i + 1) ks) (drop (i + 1) xs) k
beside_next ks xs k j x i a b e t =
    ap₂ (λ u v. beside u v k) (drop-cons ks i j a) (drop-cons xs i x b)
    ∙ ap (λ z. cond (key_eq k z) (Some (get_or xs i x)) (beside (drop (suc i) ks) (drop (suc i) xs) k)) (sym e)
    ∙ rw t (ap (λ n. beside (drop n ks) (drop n xs) k) (sym (add-one i)))

beside_nothing : (ks : List Key) (k : Key) → beside ks [] k ≡ None
beside_nothing [] k = refl
beside_nothing (j ∷ js) k = refl

-- past the values there is none
pub beside_past : (ks : List Key) (xs : List FieldNumbers) (k : Key) (i : ℕ) → length xs ≤ i → beside (drop i ks) (drop i xs) k ≡ None
beside_past ks xs k i h = ap (λ ys. beside (drop i ks) ys k) (drop_of_length-le xs h) ∙ beside_nothing (drop i ks) k

pub fits_apart : (p : Plan) (ks : List Key) (xs : List FieldNumbers) → (length ks ≡ length xs → ⊥) → fits_keys p ks xs ≡ false
fits_apart p [] [] ne = absurd (ne refl)
fits_apart p [] (x ∷ xs) ne = refl
fits_apart p (k ∷ ks) [] ne = refl
fits_apart p (k ∷ ks) (x ∷ xs) ne = by_first (fits_key p k x) (fits_apart p ks xs (λ e. ne (ap suc e)))
  where
    by_first : (b : Bool) → fits_keys p ks xs ≡ false → (b && fits_keys p ks xs) ≡ false
    by_first true rest = rest
    by_first false rest = refl

-- what a result holds at a key
abbrev pub HoldsAt : Task → Key → Outcome → Type 0
HoldsAt t k (Values xs) = (x : FieldNumbers) × (beside (writes t.plan) xs k ≡ Some x) × (x ≡ task_value t k) × (length x.numbers ≡ processor_count t.plan.axes)
HoldsAt t k (Refused cause) = (has_key (reads t.plan) k ≡ true) × (task_value t k ≡ field_of t.plan k (value_at (reads t.plan) (numbers_of t.inputs) k))

given_is : (p : Plan) (xs : List (List ℕ)) (k : Key) (o : Option Refusal) → refusal p (value_at (reads p) xs) ≡ o → given p xs k ≡ held (outcome_in p (value_at (reads p) xs) o) p xs k
unfolding outcome
given_is p xs k o e = ap (λ z. held (outcome_in p (value_at (reads p) xs) z) p xs k) e

pub outcome_holds : (t : Task) (k : Key) → has_key (writes t.plan) k ≡ true → HoldsAt t k (task_outcome t)
unfolding outcome
outcome_holds t k h = by_refusal (refusal t.plan (value_at (reads t.plan) (numbers_of t.inputs))) refl
  where
    by_refusal : (o : Option Refusal) → refusal t.plan (value_at (reads t.plan) (numbers_of t.inputs)) ≡ o → HoldsAt t k (result_told t.plan (outcome_in t.plan (value_at (reads t.plan) (numbers_of t.inputs)) o))
    by_refusal None e =
        let w : World = value_at (reads t.plan) (numbers_of t.inputs) in (
          field_of t.plan k (after_plan t.plan w k),
          beside_fields t.plan (writes t.plan) (after_plan t.plan w) k h,
          ap (field_of t.plan k) (sym (given_is t.plan (numbers_of t.inputs) k None e ∙ value_at-map (after_plan t.plan w) (writes t.plan) k h)),
          after_count t.plan w k h,
        )
    by_refusal (Some cause) e =
        let refused : outcome t.plan (numbers_of t.inputs) ≡ Err cause = ap (outcome_in t.plan (value_at (reads t.plan) (numbers_of t.inputs))) e in
        (refused_reads t.plan (numbers_of t.inputs) cause k refused h, ap (field_of t.plan k) (given_is t.plan (numbers_of t.inputs) k (Some cause) e))

-- the input of a key that is read, found among the parts of an order
pub input_found : (t u : Task) (ks : List Key) (xs : List FieldNumbers) (k : Key) (x : FieldNumbers) → t ≡ u → ks ≡ reads t.plan → xs ≡ t.inputs → fits t.plan t.inputs ≡ true → has_key (reads u.plan) k ≡ true → Some x ≡ beside ks xs k
    → (x ≡ field_of u.plan k (value_at (reads u.plan) (numbers_of u.inputs) k)) × (length x.numbers ≡ processor_count u.plan.axes)
input_found t u ks xs k x same a b f h found =
    let fit : fits u.plan u.inputs ≡ true = subst (λ (z : Task). fits z.plan z.inputs ≡ true) same f in
    let there = beside_fits u.plan (reads u.plan) u.inputs k fit h in
    let all : beside ks xs k ≡ beside (reads u.plan) u.inputs k = ap₂ (λ js ys. beside js ys k) a b ∙ ap (λ (z : Task). beside (reads z.plan) z.inputs k) same in
    let is : x ≡ there.0 = ap (λ o. unwrap_or o x) (found ∙ all ∙ there.1) in
    (is ∙ there.2, ap (λ (z : FieldNumbers). length z.numbers) is ∙ there.3)

pub input_there : (t u : Task) (ks : List Key) (xs : List FieldNumbers) (k : Key) → t ≡ u → ks ≡ reads t.plan → xs ≡ t.inputs → fits t.plan t.inputs ≡ true → has_key (reads u.plan) k ≡ true → None ≡ beside ks xs k → ⊥
input_there t u ks xs k same a b f h none =
    let fit : fits u.plan u.inputs ≡ true = subst (λ (z : Task). fits z.plan z.inputs ≡ true) same f in
    let there = beside_fits u.plan (reads u.plan) u.inputs k fit h in
    let all : beside ks xs k ≡ beside (reads u.plan) u.inputs k = ap₂ (λ js ys. beside js ys k) a b ∙ ap (λ (z : Task). beside (reads z.plan) z.inputs k) same in
    let wrong : None ≡ Some there.0 = none ∙ all ∙ there.1 in
    absurd (cc)

-- the value of a key that is written, found in a result
pub value_found : (t : Task) (o : Outcome) (vs xs : List FieldNumbers) (ks : List Key) (k : Key) (x : FieldNumbers) → o ≡ task_outcome t → o ≡ Values vs → xs ≡ vs → ks ≡ writes t.plan → has_key (writes t.plan) k ≡ true → Some x ≡ beside ks xs k
    → (x ≡ task_value t k) × (length x.numbers ≡ processor_count t.plan.axes)
value_found t o vs xs ks k x is values a b h found =
    let there : HoldsAt t k (Values vs) = subst (HoldsAt t k) (sym is ∙ values) (outcome_holds t k h) in
    let same : x ≡ there.0 = ap (λ o. unwrap_or o x) (found ∙ ap₂ (λ js ys. beside js ys k) b a ∙ there.1) in
    (same ∙ there.2, ap (λ (z : FieldNumbers). length z.numbers) same ∙ there.3)

pub value_there : (t : Task) (o : Outcome) (vs xs : List FieldNumbers) (ks : List Key) (k : Key) → o ≡ task_outcome t → o ≡ Values vs → xs ≡ vs → ks ≡ writes t.plan → has_key (writes t.plan) k ≡ true → None ≡ beside ks xs k → ⊥
value_there t o vs xs ks k is values a b h none =
    let there : HoldsAt t k (Values vs) = subst (HoldsAt t k) (sym is ∙ values) (outcome_holds t k h) in
    let wrong : None ≡ Some there.0 = none ∙ ap₂ (λ js ys. beside js ys k) b a ∙ there.1 in
    absurd (cc)

pub value_refused : (t : Task) (o : Outcome) (cause : Refusal) (k : Key) → o ≡ task_outcome t → o ≡ Refused cause → has_key (writes t.plan) k ≡ true
    → (has_key (reads t.plan) k ≡ true) × (task_value t k ≡ field_of t.plan k (value_at (reads t.plan) (numbers_of t.inputs) k))
value_refused t o cause k is refused h = subst (HoldsAt t k) (sym is ∙ refused) (outcome_holds t k h)
