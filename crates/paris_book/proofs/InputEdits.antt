-- An input edit of a key keeps what is always true of a book.
use Rattle.std.proofs.Common.{◌≡◌, ℕ, ◌<◌, ◌≤◌, ◌+◌, ◌⊎◌, inl, inr, List, [], ◌∷◌, Bool, true, false, Option, IsSome, Some, None, refl, sym, ap, ◌∙◌, subst, arith, eqb, map, length, zero, suc, set, slice_get, length-set}
use Rattle.std.proofs.Math.Path.{ap₂}
use Rattle.std.proofs.lemmas.Bool.{eqb-true, eq-eqb}
use Rattle.std.specs.Prelude.{not, ◌&&◌, ◌||◌}
use Rattle.std.specs.Option.{option_map}
use Rattle.paris_names.specs.declared.keys.Key.{Key}
use Rattle.paris_names.specs.declared.keys.Key.TheVariants.{Field, Flag}
use Rattle.paris_names.specs.declared.keys.FlagName.{FlagName}
use Rattle.paris_names.specs.declared.keys.FlagName.TheVariants.{Context, Test, Carry, Overflow}
use Rattle.paris_names.specs.Keys.{has_key, key_eq}
use Rattle.paris_names.specs.declared.limits.TheConstants.{MAX_EDITS}
use Rattle.paris_names.proofs.KeyLists.{key_eq-true}
use Rattle.paris_board.specs.Board.{Board}
use Rattle.paris_model.specs.Recipe.{same}
use Rattle.paris_events.specs.State.{Row, Inputs, flag_input, with_flag_input, input_of, numbers_in, number_in, start_world, start_recipe, set_flags, with_input}
use Rattle.paris_events.specs.Edits.{known_rows, edited}
use Rattle.paris_depends.specs.Changes.{Differ}
use Rattle.paris_book.proofs.Swept.{swept_entries}
use Rattle.paris_book.specs.Whole.{input_shape, shape_in, InputsBelow, IsWhole}
use Rattle.paris_book.specs.Entries.{Entry, machine_row}
use Rattle.paris_events.specs.declared.inputs.Input.{Input}
use Rattle.paris_events.specs.declared.inputs.FlagInputs.{FlagInputs}
use Rattle.paris_depends.proofs.Recipes.{eqb_self}
use Rattle.paris_book.proofs.Recipes.{judged_swept}
use Rattle.paris_book.proofs.Values.{Agree, sound_swept, swept_rows}
use Rattle.paris_book.proofs.EditLemmas.{same_new_start}
use Rattle.paris_events.proofs.Tests.{or_first}
use Rattle.paris_book.proofs.Sourced.{all_stand, every_swept, sourced_from}
use Rattle.paris_book.proofs.Inserts.{rows_up, rows_swept, inputs_up, ids_swept, start_below, fitted_up, fitted_swept, state_of}

get-set_same : {X : Type 0} (xs : List X) (i : ℕ) (x y : X) → slice_get xs i ≡ Some y → slice_get (set xs i x) i ≡ Some x
get-set_same [] i x y e = absurd (cc)
get-set_same (z ∷ zs) zero x y e = refl
get-set_same (z ∷ zs) (suc i) x y e = get-set_same zs i x y e

get-set_other : {X : Type 0} (xs : List X) (i j : ℕ) (x : X) → eqb j i ≡ false → slice_get (set xs i x) j ≡ slice_get xs j
get-set_other [] i j x e = refl
get-set_other (z ∷ zs) zero zero x e = absurd (let y : true ≡ false = e in cc)
get-set_other (z ∷ zs) zero (suc j) x e = refl
get-set_other (z ∷ zs) (suc i) zero x e = refl
get-set_other (z ∷ zs) (suc i) (suc j) x e = get-set_other zs i j x (apart i j e)
  where
    apart : (i j : ℕ) → eqb (suc j) (suc i) ≡ false → eqb j i ≡ false
    apart i j e = by_test (eqb j i) refl
      where
        by_test : (b : Bool) → eqb j i ≡ b → b ≡ false
        by_test true t = let y : true ≡ false = sym (eq-eqb (suc j) (suc i) (ap suc (eqb-true j i t))) ∙ e in y
        by_test false t = refl

flag-set_same : (x : FlagInputs) (flag : FlagName) (i : Input) → flag_input (with_flag_input x flag i) flag ≡ i
flag-set_same x Context i = refl
flag-set_same x Test i = refl
flag-set_same x Carry i = refl
flag-set_same x Overflow i = refl

flag-set_other : (x : FlagInputs) (a b : FlagName) (i : Input) → key_eq (Flag 0 b) (Flag 0 a) ≡ false → flag_input (with_flag_input x a i) b ≡ flag_input x b
flag-set_other x Context Context i e = absurd (let y : true ≡ false = e in cc)
flag-set_other x Context Test i e = refl
flag-set_other x Context Carry i e = refl
flag-set_other x Context Overflow i e = refl
flag-set_other x Test Context i e = refl
flag-set_other x Test Test i e = absurd (let y : true ≡ false = e in cc)
flag-set_other x Test Carry i e = refl
flag-set_other x Test Overflow i e = refl
flag-set_other x Carry Context i e = refl
flag-set_other x Carry Test i e = refl
flag-set_other x Carry Carry i e = absurd (let y : true ≡ false = e in cc)
flag-set_other x Carry Overflow i e = refl
flag-set_other x Overflow Context i e = refl
flag-set_other x Overflow Test i e = refl
flag-set_other x Overflow Carry i e = refl
flag-set_other x Overflow Overflow i e = absurd (let y : true ≡ false = e in cc)

-- the input data of the key is the new one
pub input-set_same : (inputs : Inputs) (k : Key) (i j : Input) → input_of inputs k ≡ Some j → input_of (with_input inputs k i) k ≡ Some i
input-set_same inputs (Field f) i j e = get-set_same inputs.fields f i j e
input-set_same inputs (Flag s flag) i j e = by_there (slice_get inputs.flags s) refl e
  where
    by_there : (o : Option FlagInputs) → slice_get inputs.flags s ≡ o → option_map (λ x. flag_input x flag) o ≡ Some j → option_map (λ x. flag_input x flag) (slice_get (set_flags inputs.flags s flag i o) s) ≡ Some i
    by_there None t h = absurd (cc)
    by_there (Some x) t h = ap (option_map (λ y. flag_input y flag)) (get-set_same inputs.flags s (with_flag_input x flag i) x t) ∙ ap Some (flag-set_same x flag i)

-- that of every other key is as it was
pub input-set_other : (inputs : Inputs) (k f : Key) (i : Input) → key_eq f k ≡ false → input_of (with_input inputs k i) f ≡ input_of inputs f
input-set_other inputs (Field g) (Field f) i e = get-set_other inputs.fields g f i e
input-set_other inputs (Field g) (Flag s flag) i e = refl
input-set_other inputs (Flag s flag) (Field f) i e = refl
input-set_other inputs (Flag s a) (Flag t b) i e = by_there (slice_get inputs.flags s) refl
  where
    by_place : (x : FlagInputs) → slice_get inputs.flags s ≡ Some x → (c : Bool) → eqb t s ≡ c → option_map (λ y. flag_input y b) (slice_get (set inputs.flags s (with_flag_input x a i)) t) ≡ option_map (λ y. flag_input y b) (slice_get inputs.flags t)
    by_place x there true same =
        let at : t ≡ s = eqb-true t s same in
        let other : key_eq (Flag 0 b) (Flag 0 a) ≡ false = sym (ap (λ c. c && key_eq (Flag 0 b) (Flag 0 a)) same) ∙ e in
        ap (λ j. option_map (λ y. flag_input y b) (slice_get (set inputs.flags s (with_flag_input x a i)) j)) at
        ∙ ap (option_map (λ y. flag_input y b)) (get-set_same inputs.flags s (with_flag_input x a i) x there)
        ∙ ap Some (flag-set_other x a b i other)
        ∙ ap (option_map (λ y. flag_input y b)) (sym there)
        ∙ ap (λ j. option_map (λ y. flag_input y b) (slice_get inputs.flags j)) (sym at)
    by_place x there false apart = ap (option_map (λ y. flag_input y b)) (get-set_other inputs.flags s t (with_flag_input x a i) apart)

    by_there : (o : Option FlagInputs) → slice_get inputs.flags s ≡ o → option_map (λ y. flag_input y b) (slice_get (set_flags inputs.flags s a i o) t) ≡ option_map (λ y. flag_input y b) (slice_get inputs.flags t)
    by_there None there = refl
    by_there (Some x) there = by_place x there (eqb t s) refl

-- a function of the input data at each key, before and after
module _ (inputs : Inputs) (k : Key) (i j : Input) (there : input_of inputs k ≡ Some j) where
  by_key : {X : Type 0} (g : Option Input → X) (f : Key) (P : X → X → Type 0) → P (g (Some j)) (g (Some i)) → ((x : X) → P x x) → P (g (input_of inputs f)) (g (input_of (with_input inputs k i) f))
  by_key g f P new old = by_test (key_eq f k) refl
    where
      by_test : (b : Bool) → key_eq f k ≡ b → P (g (input_of inputs f)) (g (input_of (with_input inputs k i) f))
      by_test true t =
          let same : f ≡ k = key_eq-true f k t in
          subst (λ h. P (g (input_of inputs h)) (g (input_of (with_input inputs k i) h))) (sym same) (rw (there, input-set_same inputs k i j there) new)
      by_test false t = rw (input-set_other inputs k f i t) (old (g (input_of inputs f)))

pub input_agree : (inputs : Inputs) (k : Key) (i : Input) → Agree (has_key (k ∷ [])) (start_world inputs) (start_world (with_input inputs k i))
input_agree inputs k i f t = ap numbers_in (sym (input-set_other inputs k f i (or_first (key_eq f k) false t)))

pub input_differ : (n : ℕ) (inputs : Inputs) (k : Key) (i j : Input) → InputsBelow n inputs → input_of inputs k ≡ Some j → i.number ≡ n + 1 → Differ (has_key (k ∷ [])) (start_recipe inputs) (start_recipe (with_input inputs k i))
input_differ n inputs k i j below there new f = by_test (key_eq f k) refl
  where
    by_test : (b : Bool) → key_eq f k ≡ b → eqb (number_in (input_of inputs f)) (number_in (input_of (with_input inputs k i) f)) ≡ not (b || false)
    by_test true t =
        let same : f ≡ k = key_eq-true f k t in
        let is : number_in (input_of (with_input inputs k i) f) ≡ n + 1 = ap (λ h. number_in (input_of (with_input inputs k i) h)) same ∙ ap number_in (input-set_same inputs k i j there) ∙ new in
        rw is (same_new_start (number_in (input_of inputs f)) (n + 1) (start_below n inputs f below))
    by_test false t = rw (input-set_other inputs k f i t) (eqb_self (number_in (input_of inputs f)))

pub shape_stays : (inputs : Inputs) (k : Key) (i j : Input) → input_of inputs k ≡ Some j → i.value.width ≡ j.value.width → length i.value.numbers ≡ length j.value.numbers → (f : Key) → shape_in (with_input inputs k i) f ≡ shape_in inputs f
shape_stays inputs k i j there width count f =
    sym (by_key inputs k i j there input_shape f (λ x y. x ≡ y) (ap₂ (λ a b. Some (a, b)) (sym width) (sym count)) (λ x. refl))

numbers_up : (n : ℕ) (inputs : Inputs) (k : Key) (i j : Input) → input_of inputs k ≡ Some j → i.number ≤ n → InputsBelow n inputs → InputsBelow n (with_input inputs k i)
numbers_up n inputs k i j there small below f = by_test (key_eq f k) refl
  where
    by_test : (b : Bool) → key_eq f k ≡ b → number_in (input_of (with_input inputs k i) f) ≤ n
    by_test true t = subst (λ h. number_in (input_of (with_input inputs k i) h) ≤ n) (sym (key_eq-true f k t)) (rw (input-set_same inputs k i j there) small)
    by_test false t = rw (input-set_other inputs k f i t) (below f)

pub fields_stay : (inputs : Inputs) (k : Key) (i : Input) → length (with_input inputs k i).fields ≡ length inputs.fields
fields_stay inputs (Field f) i = length-set inputs.fields f i
fields_stay inputs (Flag s flag) i = refl

pub flags_stay : (inputs : Inputs) (k : Key) (i : Input) → length (with_input inputs k i).flags ≡ length inputs.flags
flags_stay inputs (Field f) i = refl
flags_stay inputs (Flag s flag) i = by_there (slice_get inputs.flags s)
  where
    by_there : (o : Option FlagInputs) → length (set_flags inputs.flags s flag i o) ≡ length inputs.flags
    by_there None = refl
    by_there (Some x) = length-set inputs.flags s (with_flag_input x flag i)

-- the input data of each key is as it was, or has the new number
input_news : (n : ℕ) (inputs : Inputs) (k : Key) (i j : Input) → input_of inputs k ≡ Some j → i.number ≡ n + 1 → (f : Key) (v : Input) → input_of (with_input inputs k i) f ≡ Some v → (input_of inputs f ≡ Some v) ⊎ (n < v.number)
input_news n inputs k i j there new f v has = by_test (key_eq f k) refl
  where
    by_test : (b : Bool) → key_eq f k ≡ b → (input_of inputs f ≡ Some v) ⊎ (n < v.number)
    by_test true t =
        let is : Some i ≡ Some v = sym (ap (input_of (with_input inputs k i)) (key_eq-true f k t) ∙ input-set_same inputs k i j there) ∙ has in
        let number : v.number ≡ n + 1 = ap number_in (sym is) ∙ new in
        inr (omega (arith, number))
    by_test false t = inl (sym (input-set_other inputs k f i t) ∙ has)

-- the input data of a key that has the shape of another
-- a key's input data, where it has some
pub record Present (inputs : Inputs) (k : Key) : Type 0 where
  pub input : Input
  pub there : input_of inputs k ≡ Some input

pub present : (inputs : Inputs) (k : Key) → IsSome (input_of inputs k) → Present inputs k
present inputs k some = by_there (input_of inputs k) refl some
  where
    by_there : (o : Option Input) → input_of inputs k ≡ o → IsSome o → Present inputs k
    by_there None there e = absurd (cc)
    by_there (Some j) there e = record { input = j; there = there }

pub input_whole : (b : Board) (n m : ℕ) (inputs : Inputs) (es zs : List Entry) (k : Key) (i j : Input) → n < MAX_EDITS → input_of inputs k ≡ Some j → i.number ≡ n + 1 → i.value.width ≡ j.value.width → length i.value.numbers ≡ length j.value.numbers
    → IsWhole b n m inputs es → zs ≡ swept_entries (n + 1) (has_key (k ∷ [])) es → IsWhole b (n + 1) m (with_input inputs k i) zs
input_whole b n m inputs es zs k i j few there new width count w z =
    let d : Key → Bool = has_key (k ∷ []) in
    let stays = shape_stays inputs k i j there width count in
    let less : m ≤ n + 1 = w.next_few in
    rw z (record {
      next_few = omega arith;
      edits_few = omega arith;
      as_many_fields = fields_stay inputs k i ∙ w.as_many_fields;
      as_many_flags = flags_stay inputs k i ∙ w.as_many_flags;
      shaped = λ f. stays f ∙ w.shaped f;
      inputs_below = numbers_up (n + 1) inputs k i j there (omega arith) (inputs_up n (n + 1) inputs (omega arith) w.inputs_below);
      rows_below = rows_swept (n + 1) m (n + 1) d es (rows_up n m (n + 1) m es (omega arith) (omega arith) w.rows_below);
      ids_apart = rw (ids_swept (n + 1) d es) w.ids_apart;
      fitted = fitted_swept (with_input inputs k i) (n + 1) d es (fitted_up inputs (with_input inputs k i) es (λ f s h. stays f ∙ h) w.fitted);
      sound = sound_swept (n + 1) d (start_world inputs) (start_world (with_input inputs k i)) (λ _. true) (λ _. true) (input_agree inputs k i) (λ f t. refl) es w.sound;
      sourced = sourced_from n (n + 1) inputs (with_input inputs k i) es (swept_entries (n + 1) d es) (omega arith) (every_swept n d es es (all_stand es)) (input_news n inputs k i j there new) w.sourced;
    })

pub input_whole_at : (b : Board) (n m : ℕ) (inputs : Inputs) (es zs : List Entry) (k : Key) (i j : Input) → n < MAX_EDITS → input_of inputs k ≡ Some j → i.number ≡ n + 1 → i.value.width ≡ j.value.width → length i.value.numbers ≡ length j.value.numbers
    → IsWhole b n m inputs es → zs ≡ swept_entries (n + 1) (has_key (k ∷ [])) es
    → (edits next : ℕ) (after : Inputs) → edits ≡ n + 1 → next ≡ m → after ≡ with_input inputs k i → IsWhole b edits next after zs
input_whole_at b n m inputs es zs k i j few there new width count w z edits next after e f g =
    rw (e, f, g) (input_whole b n m inputs es zs k i j few there new width count w z)

pub input_view : (b : Board) (n m : ℕ) (inputs : Inputs) (es zs : List Entry) (k : Key) (i j : Input) → input_of inputs k ≡ Some j → i.number ≡ n + 1 → IsWhole b n m inputs es → zs ≡ swept_entries (n + 1) (has_key (k ∷ [])) es
    → state_of b (n + 1) m (with_input inputs k i) zs ≡ edited (state_of b n m inputs es) b (with_input inputs k i) m (known_rows (state_of b n m inputs es))
input_view b n m inputs es zs k i j there new w z =
    ap (λ (ys : List Entry). state_of b (n + 1) m (with_input inputs k i) ys) z
    ∙ ap (λ (rs : List Row). record { board = b; edits = n + 1; inputs = with_input inputs k i; next = m; rows = rs })
    (swept_rows (n + 1) (has_key (k ∷ [])) es ∙ sym (judged_swept (n + 1) (has_key (k ∷ [])) (start_recipe inputs) (start_recipe (with_input inputs k i)) (input_differ n inputs k i j w.inputs_below there new) (map machine_row es)))
