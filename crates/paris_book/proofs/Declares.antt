-- A declaration leaves all rows, and keeps what is always true of a book.
use Rattle.std.proofs.Common.{◌≡◌, ℕ, ◌<◌, ◌≤◌, ◌+◌, ◌⊎◌, inl, inr, List, [], ◌∷◌, ◌++◌, Bool, true, false, cond, Option, Some, None, refl, sym, ap, ◌∙◌, subst, arith, eqb, map, length, zero, suc, set, get_or, slice_get, length-append}
use Rattle.std.proofs.Math.Path.{ap₂}
use Rattle.std.proofs.lemmas.Bool.Decides.{Decides-eqb}
use Rattle.std.proofs.lemmas.Bool.{eqb-true}
use Rattle.std.specs.Prelude.{not, ◌||◌}
use Rattle.std.specs.Option.{option_map}
use Rattle.std.specs.List.{list_any}
use Rattle.paris_names.specs.declared.keys.Key.{Key}
use Rattle.paris_names.specs.declared.keys.Key.TheVariants.{Field, Flag}
use Rattle.paris_names.specs.declared.keys.FlagName.{FlagName}
use Rattle.paris_names.specs.declared.keys.FlagName.TheVariants.{Context, Test, Carry, Overflow}
use Rattle.paris_names.specs.Keys.{has_key, key_eq}
use Rattle.paris_names.specs.declared.limits.TheConstants.{MAX_EDITS}
use Rattle.paris_names.proofs.KeyLists.{key_eq-same}
use Rattle.paris_geometry.specs.Geometry.{processor_count}
use Rattle.paris_names.specs.Profiles.{max_width}
use Rattle.paris_board.specs.Board.{Board, DeclaredField, DeclaredSet, is_declared, width_of, count_of, axes_of, declaration_at, with_set, with_field, AreFields, IsBoard}
use Rattle.paris_model.specs.Instructions.{Plan, reads, writes, key_width}
use Rattle.paris_model.specs.Recipe.{same}
use Rattle.paris_events.specs.State.{Row, Inputs, flag_input, input_of, numbers_in, number_in, start_world, start_recipe, declared_input, declared_flags}
use Rattle.paris_events.specs.CutOff.{IsAtRest}
use Rattle.paris_events.specs.Edits.{known_rows, edited, set_added, field_added}
use Rattle.paris_book.specs.Marks.{data_plan, stale_data}
use Rattle.paris_book.specs.Kept.{Sound}
use Rattle.paris_depends.specs.Changes.{Differ}
use Rattle.paris_depends.specs.Sweeps.{touches, spread, touched}
use Rattle.paris_book.proofs.Swept.{swept_entries}
use Rattle.paris_book.specs.Whole.{shape_on, input_shape, shape_in, Shaped, InputsBelow, Fitted, AllFitted, IsWhole}
use Rattle.paris_book.specs.Entries.{Entry, machine_row, with_data}
use Rattle.paris_events.specs.declared.inputs.Input.{Input}
use Rattle.paris_events.specs.declared.inputs.FlagInputs.{FlagInputs}
use Rattle.std.specs.Prelude.{nat_lt}
use Rattle.std.proofs.lemmas.Bool.Decides.{nat_tests}
use Rattle.std.proofs.lemmas.List.{length-replicate}
use Rattle.paris_depends.proofs.Recipes.{eqb_self}
use Rattle.paris_book.proofs.Recipes.{judged_swept}
use Rattle.paris_book.proofs.Values.{Agree, sound_swept, swept_rows}
use Rattle.paris_book.proofs.EditLemmas.{same_new_start}
use Rattle.paris_book.specs.Touched.{AreEnough}
use Rattle.paris_book.proofs.Sourced.{all_stand, every_stays, sourced_from}
use Rattle.paris_book.proofs.Inserts.{rows_up, fitted_up, state_of}
use Rattle.paris_book.proofs.TouchedEdits.{input_enough}

get-push_other : {X : Type 0} (xs : List X) (x : X) (i : ℕ) → (i ≡ length xs → ⊥) → slice_get (xs ++ x ∷ []) i ≡ slice_get xs i
get-push_other [] x zero ne = absurd (ne refl)
get-push_other [] x (suc i) ne = refl
get-push_other (y ∷ ys) x zero ne = refl
get-push_other (y ∷ ys) x (suc i) ne = get-push_other ys x i (λ e. ne (ap suc e))

get-push_last : {X : Type 0} (xs : List X) (x : X) → slice_get (xs ++ x ∷ []) (length xs) ≡ Some x
get-push_last [] x = refl
get-push_last (y ∷ ys) x = get-push_last ys x

get-past : {X : Type 0} (xs : List X) → slice_get xs (length xs) ≡ None
get-past [] = refl
get-past (y ∷ ys) = get-past ys

or-push_before : {X : Type 0} (xs : List X) (x d : X) (i : ℕ) → i < length xs → get_or (xs ++ x ∷ []) i d ≡ get_or xs i d
or-push_before [] x d i h = absurd (omega arith)
or-push_before (y ∷ ys) x d zero h = refl
or-push_before (y ∷ ys) x d (suc i) h = or-push_before ys x d i (omega arith)

or-push_last : {X : Type 0} (xs : List X) (x d : X) → get_or (xs ++ x ∷ []) (length xs) d ≡ x
or-push_last [] x d = refl
or-push_last (y ∷ ys) x d = or-push_last ys x d

-- keys that are new: they had no input data, and have it from this edit on; all others have what they had
pub record News (n : ℕ) (d : Key → Bool) (old new : Inputs) : Type 0 where
  pub none : (k : Key) → d k ≡ true → input_of old k ≡ None
  pub given : (k : Key) → d k ≡ true → number_in (input_of new k) ≡ n + 1
  pub same : (k : Key) → d k ≡ false → input_of new k ≡ input_of old k

none_read : (d : Key → Bool) (ks : List Key) → ((k : Key) → has_key ks k ≡ true → d k ≡ false) → list_any d ks ≡ false
none_read d [] h = refl
none_read d (k ∷ ks) h = rw (h k (ap (λ b. b || has_key ks k) (key_eq-same k))) (none_read d ks (λ j t. h j (later j t)))
  where
    later : (j : Key) → has_key ks j ≡ true → (key_eq j k || has_key ks j) ≡ true
    later j t = by_first (key_eq j k)
      where
        by_first : (b : Bool) → (b || has_key ks j) ≡ true
        by_first true = refl
        by_first false = t

-- no row reads a key that had no input data
untouched : (old : Inputs) (d : Key → Bool) (p : Plan) → ((k : Key) → d k ≡ true → input_of old k ≡ None) → Fitted old p → touches d p ≡ false
untouched old d p none fit = none_read d (reads p) (λ k t. by_test k t (d k) refl)
  where
    by_test : (k : Key) → has_key (reads p) k ≡ true → (b : Bool) → d k ≡ b → b ≡ false
    by_test k t true e =
        let nothing : Option (ℕ × ℕ) = None in
        let wrong : nothing ≡ Some (key_width p k, processor_count p.axes) = sym (ap input_shape (none k e)) ∙ fit k (ap (λ b. b || has_key (writes p) k) t) in
        absurd (cc)
    by_test k t false e = refl

-- where a plan reads none of them, no more keys are changed after it
spread_less : (d : Key → Bool) (p : Plan) (k : Key) → touches d p ≡ false → spread d p k ≡ true → d k ≡ true
unfolding spread
spread_less d p k quiet t = by_has (has_key (writes p) k) t
  where
    by_has : (b : Bool) → cond b (touches d p) (d k) ≡ true → d k ≡ true
    by_has true h = absurd (let x : false ≡ true = sym quiet ∙ h in cc)
    by_has false h = h

pub swept_quiet : (n : ℕ) (old : Inputs) (d : Key → Bool) (es : List Entry) → ((k : Key) → d k ≡ true → input_of old k ≡ None) → AllFitted old es → swept_entries n d es ≡ es
swept_quiet n old d [] none f = refl
swept_quiet n old d (e ∷ es) none f =
    let quiet = untouched old d e.1.plan none f.0 in
    ap₂ (λ x xs. x ∷ xs) (ap (λ b. cond b (with_data (stale_data n) e) e) quiet) (swept_quiet n old (spread d e.1.plan) es (λ k t. none k (spread_less d e.1.plan k quiet t)) f.1)

pub touched_none : (old : Inputs) (d : Key → Bool) (es : List Entry) → ((k : Key) → d k ≡ true → input_of old k ≡ None) → AllFitted old es → touched data_plan d es ≡ []
touched_none old d [] none f = refl
touched_none old d (e ∷ es) none f =
    let quiet = untouched old d e.1.plan none f.0 in
    let later : List ℕ = touched data_plan (spread d e.1.plan) es in
    ap (λ b. cond b (e.0 ∷ later) later) quiet ∙ touched_none old (spread d e.1.plan) es (λ k t. none k (spread_less d e.1.plan k quiet t)) f.1

module _ (n : ℕ) (d : Key → Bool) (old new : Inputs) (news : News n d old new) where
  pub news_agree : Agree d (start_world old) (start_world new)
  news_agree k t = ap numbers_in (sym (news.same k t))

  pub news_differ : Differ d (start_recipe old) (start_recipe new)
  news_differ k = by_test (d k) refl
    where
      by_test : (b : Bool) → d k ≡ b → eqb (number_in (input_of old k)) (number_in (input_of new k)) ≡ not b
      by_test true e = rw (news.given k e, news.none k e) (same_new_start 0 (n + 1) (omega arith))
      by_test false e = rw (news.same k e) (eqb_self (number_in (input_of old k)))

  pub news_below : InputsBelow n old → InputsBelow (n + 1) new
  news_below below k = by_test (d k) refl
    where
      by_test : (b : Bool) → d k ≡ b → number_in (input_of new k) ≤ n + 1
      by_test true e = rw (news.given k e) (omega arith)
      by_test false e = rw (news.same k e) (let y : number_in (input_of old k) ≤ n = below k in omega arith)

  news_told : (k : Key) (v : Input) → input_of new k ≡ Some v → (input_of old k ≡ Some v) ⊎ (n < v.number)
  news_told k v has = by_test (d k) refl
    where
      by_test : (b : Bool) → d k ≡ b → (input_of old k ≡ Some v) ⊎ (n < v.number)
      by_test true e = let number : v.number ≡ n + 1 = ap number_in (sym has) ∙ news.given k e in inr (omega (arith, number))
      by_test false e = inl (sym (news.same k e) ∙ has)

  pub news_fitted : (es : List Entry) → AllFitted old es → AllFitted new es
  news_fitted es f = fitted_up old new es (λ k s h. by_test k s h (d k) refl) f
    where
      by_test : (k : Key) (s : ℕ × ℕ) → shape_in old k ≡ Some s → (b : Bool) → d k ≡ b → shape_in new k ≡ Some s
      by_test k s h true e = let nothing : Option (ℕ × ℕ) = None in let wrong : nothing ≡ Some s = sym (ap input_shape (news.none k e)) ∙ h in absurd (cc)
      by_test k s h false e = ap input_shape (news.same k e) ∙ h

  pub declare_whole : (b c : Board) (m : ℕ) (es : List Entry) → n < MAX_EDITS → length new.fields ≡ length c.fields → length new.flags ≡ length c.sets → Shaped c new → IsWhole b n m old es → IsWhole c (n + 1) m new es
  declare_whole b c m es few fields flags shaped w =
      let less : m ≤ n + 1 = w.next_few in
      let quiet = swept_quiet (n + 1) old d es news.none w.fitted in
      record {
        next_few = omega arith;
        edits_few = omega arith;
        as_many_fields = fields;
        as_many_flags = flags;
        shaped = shaped;
        inputs_below = news_below w.inputs_below;
        rows_below = rows_up n m (n + 1) m es (omega arith) (omega arith) w.rows_below;
        ids_apart = w.ids_apart;
        fitted = news_fitted es w.fitted;
        sound = subst (Sound (start_world new) (λ _. true)) quiet (sound_swept (n + 1) d (start_world old) (start_world new) (λ _. true) (λ _. true) news_agree (λ f t. refl) es w.sound);
        sourced = sourced_from n (n + 1) old new es es (omega arith) (every_stays n (n + 1) es es (all_stand es)) news_told w.sourced;
      }

  -- no row is touched, so none can be cut off then
  pub declare_enough : (b c : Board) (m : ℕ) (es : List Entry) → IsWhole b n m old es → IsAtRest (state_of b n m old es) → AreEnough [] (state_of c (n + 1) m new es)
  declare_enough b c m es w rests =
      input_enough (state_of b n m old es) (state_of c (n + 1) m new es) es es rests refl refl w.ids_apart (n + 1) d [] (sym (swept_quiet (n + 1) old d es news.none w.fitted)) news_agree (sym (touched_none old d es news.none w.fitted))

  pub declare_view : (b c : Board) (m : ℕ) (es : List Entry) → IsWhole b n m old es → state_of c (n + 1) m new es ≡ edited (state_of b n m old es) c new m (known_rows (state_of b n m old es))
  declare_view b c m es w =
      ap (λ (rs : List Row). record { board = c; edits = n + 1; inputs = new; next = m; rows = rs })
      (ap (map machine_row) (sym (swept_quiet (n + 1) old d es news.none w.fitted))
      ∙ swept_rows (n + 1) d es
      ∙ sym (judged_swept (n + 1) d (start_recipe old) (start_recipe new) news_differ (map machine_row es)))

shape_same : (b c : Board) (k : Key) → is_declared c k ≡ is_declared b k → (is_declared b k ≡ true → (width_of c k ≡ width_of b k) × (count_of c k ≡ count_of b k)) → shape_on c k ≡ shape_on b k
shape_same b c k d h = by_test (is_declared b k) refl
  where
    by_test : (t : Bool) → is_declared b k ≡ t → shape_on c k ≡ shape_on b k
    by_test true e = let both = h e in rw (d, e, both.0, both.1) refl
    by_test false e = rw (d, e) refl

lt_of : (m n : ℕ) → m < n → nat_lt m n ≡ true
lt_of m n h = grind (arith, nat_tests)

less_than : (m n : ℕ) → nat_lt m n ≡ true → m < n
less_than m n e = grind (arith, nat_tests)

lt_next : (s n : ℕ) → (s ≡ n → ⊥) → nat_lt s (n + 1) ≡ nat_lt s n
lt_next s n ne = grind (arith, nat_tests)

known_set : (widest sets : ℕ) (fs : List DeclaredField) (f : ℕ) (x : DeclaredField) → AreFields widest sets fs → f < length fs → (get_or fs f x).set_no < sets
known_set widest sets [] f x h a = absurd (omega arith)
known_set widest sets (y ∷ ys) zero x h a = h.0
known_set widest sets (y ∷ ys) (suc f) x h a = known_set widest sets ys f x h.3 (omega arith)

-- ---- a new set

abbrev pub is_new_flag : ℕ → Key → Bool
is_new_flag n (Field f) = false
is_new_flag n (Flag s flag) = eqb s n

set_none : (xs : List FlagInputs) (s : ℕ) (flag : FlagName) → eqb s (length xs) ≡ true → option_map (λ x. flag_input x flag) (slice_get xs s) ≡ None
set_none xs s flag t = ap (option_map (λ x. flag_input x flag)) (ap (slice_get xs) (eqb-true s (length xs) t) ∙ get-past xs)

number_declared : (n count : ℕ) (flag : FlagName) → (flag_input (declared_flags n count) flag).number ≡ n
number_declared n count Context = refl
number_declared n count Test = refl
number_declared n count Carry = refl
number_declared n count Overflow = refl

shape_declared : (n count : ℕ) (flag : FlagName) → input_shape (Some (flag_input (declared_flags n count) flag)) ≡ Some (1, count)
shape_declared n count Context = ap (λ c. Some (1, c)) (length-replicate count 1)
shape_declared n count Test = ap (λ c. Some (1, c)) (length-replicate count 0)
shape_declared n count Carry = ap (λ c. Some (1, c)) (length-replicate count 0)
shape_declared n count Overflow = ap (λ c. Some (1, c)) (length-replicate count 0)

apart_of : (i j : ℕ) → eqb i j ≡ false → i ≡ j → ⊥
apart_of i j e same = let wrong : true ≡ false = sym ((Decides-eqb i j).1 same) ∙ e in absurd (cc)

pub length-push : {X : Type 0} (xs : List X) (x : X) → length (xs ++ x ∷ []) ≡ length xs + 1
length-push xs x = length-append xs (x ∷ [])

module _ (b : Board) (n m : ℕ) (inputs : Inputs) (name axes : List ℕ) where
  abbrev pub with_flags : Inputs
  with_flags = record inputs { flags = inputs.flags ++ declared_flags (n + 1) (processor_count axes) ∷ [] }

  pub set_news : News n (is_new_flag (length inputs.flags)) inputs with_flags
  set_news = record { none = none; given = given; same = same }
    where
      none : (k : Key) → is_new_flag (length inputs.flags) k ≡ true → input_of inputs k ≡ None
      none (Field f) t = absurd (let wrong : false ≡ true = t in cc)
      none (Flag s flag) t = set_none inputs.flags s flag t

      given : (k : Key) → is_new_flag (length inputs.flags) k ≡ true → number_in (input_of with_flags k) ≡ n + 1
      given (Field f) t = absurd (let wrong : false ≡ true = t in cc)
      given (Flag s flag) t =
          let new = declared_flags (n + 1) (processor_count axes) in
          ap (λ x. number_in (option_map (λ y. flag_input y flag) x)) (ap (slice_get (inputs.flags ++ new ∷ [])) (eqb-true s (length inputs.flags) t) ∙ get-push_last inputs.flags new)
          ∙ number_declared (n + 1) (processor_count axes) flag

      same : (k : Key) → is_new_flag (length inputs.flags) k ≡ false → input_of with_flags k ≡ input_of inputs k
      same (Field f) t = refl
      same (Flag s flag) t =
          ap (option_map (λ y. flag_input y flag)) (get-push_other inputs.flags (declared_flags (n + 1) (processor_count axes)) s (apart_of s (length inputs.flags) t))

  set_shape_old : (k : Key) → IsBoard b → length inputs.flags ≡ length b.sets → is_new_flag (length inputs.flags) k ≡ false → shape_on (with_set b name axes) k ≡ shape_on b k
  set_shape_old (Field f) board many t = shape_same b (with_set b name axes) (Field f) refl (λ e. (refl, ap processor_count (ap (λ (x : DeclaredSet). x.axes) (or-push_before b.sets (record { name = name; axes = axes }) (record { name = []; axes = [] }) (declaration_at b f).set_no (known_set (max_width b.profile) (length b.sets) b.fields f (record { name = []; set_no = 0; width = 0 }) board (less_than f (length b.fields) e))))))
  set_shape_old (Flag s flag) board many t =
      let same_length : length (with_set b name axes).sets ≡ length b.sets + 1 = length-push b.sets (record { name = name; axes = axes }) in
      let declared : nat_lt s (length (with_set b name axes).sets) ≡ nat_lt s (length b.sets) = ap (nat_lt s) same_length ∙ lt_next s (length b.sets) (λ e. apart_of s (length inputs.flags) t (e ∙ sym many)) in
      shape_same b (with_set b name axes) (Flag s flag) declared (λ e. (refl, ap processor_count (ap (λ (x : DeclaredSet). x.axes) (or-push_before b.sets (record { name = name; axes = axes }) (record { name = []; axes = [] }) s (less_than s (length b.sets) e)))))

  set_shape_new : (k : Key) → length inputs.flags ≡ length b.sets → is_new_flag (length inputs.flags) k ≡ true → shape_on (with_set b name axes) k ≡ Some (1, processor_count axes)
  set_shape_new (Field f) many t = absurd (let wrong : false ≡ true = t in cc)
  set_shape_new (Flag s flag) many t =
      let at : s ≡ length b.sets = eqb-true s (length inputs.flags) t ∙ many in
      let long : length (with_set b name axes).sets ≡ length b.sets + 1 = length-push b.sets (record { name = name; axes = axes }) in
      let declared : nat_lt s (length (with_set b name axes).sets) ≡ true = lt_of s (length (with_set b name axes).sets) (omega (arith, at, long)) in
      let there : count_of (with_set b name axes) (Flag s flag) ≡ processor_count axes = ap processor_count (ap (λ (x : DeclaredSet). x.axes) (ap (λ i. get_or (b.sets ++ record { name = name; axes = axes } ∷ []) i (record { name = []; axes = [] })) at ∙ or-push_last b.sets (record { name = name; axes = axes }) (record { name = []; axes = [] }))) in
      rw (declared, there) refl

  pub set_shaped : IsBoard b → length inputs.flags ≡ length b.sets → Shaped b inputs → Shaped (with_set b name axes) with_flags
  set_shaped board many shaped k = by_test (is_new_flag (length inputs.flags) k) refl
    where
      given_shape : (k : Key) → is_new_flag (length inputs.flags) k ≡ true → shape_in with_flags k ≡ Some (1, processor_count axes)
      given_shape (Field f) t = absurd (let wrong : false ≡ true = t in cc)
      given_shape (Flag s flag) t =
          let new = declared_flags (n + 1) (processor_count axes) in
          ap (λ x. input_shape (option_map (λ y. flag_input y flag) x)) (ap (slice_get (inputs.flags ++ new ∷ [])) (eqb-true s (length inputs.flags) t) ∙ get-push_last inputs.flags new)
          ∙ shape_declared (n + 1) (processor_count axes) flag

      by_test : (t : Bool) → is_new_flag (length inputs.flags) k ≡ t → shape_in with_flags k ≡ shape_on (with_set b name axes) k
      by_test true e = given_shape k e ∙ sym (set_shape_new k many e)
      by_test false e = ap input_shape (set_news.same k e) ∙ shaped k ∙ sym (set_shape_old k board many e)

pub set_whole : (b : Board) (n m : ℕ) (inputs : Inputs) (es : List Entry) (name axes : List ℕ) → n < MAX_EDITS → IsBoard b → IsWhole b n m inputs es → IsWhole (with_set b name axes) (n + 1) m (with_flags b n m inputs name axes) es
set_whole b n m inputs es name axes few board w =
    declare_whole n (is_new_flag (length inputs.flags)) inputs (with_flags b n m inputs name axes) (set_news b n m inputs name axes) b (with_set b name axes) m es few w.as_many_fields
    (length-push inputs.flags (declared_flags (n + 1) (processor_count axes)) ∙ ap (λ c. c + 1) w.as_many_flags ∙ sym (length-push b.sets (record { name = name; axes = axes })))
    (set_shaped b n m inputs name axes board w.as_many_flags w.shaped) w

pub set_view : (b : Board) (n m : ℕ) (inputs : Inputs) (es : List Entry) (name axes : List ℕ) → IsWhole b n m inputs es → state_of (with_set b name axes) (n + 1) m (with_flags b n m inputs name axes) es ≡ set_added (state_of b n m inputs es) name axes
set_view b n m inputs es name axes w = declare_view n (is_new_flag (length inputs.flags)) inputs (with_flags b n m inputs name axes) (set_news b n m inputs name axes) b (with_set b name axes) m es w

pub set_enough : (b : Board) (n m : ℕ) (inputs : Inputs) (es : List Entry) (name axes : List ℕ) → IsWhole b n m inputs es → IsAtRest (state_of b n m inputs es) → AreEnough [] (state_of (with_set b name axes) (n + 1) m (with_flags b n m inputs name axes) es)
set_enough b n m inputs es name axes = declare_enough n (is_new_flag (length inputs.flags)) inputs (with_flags b n m inputs name axes) (set_news b n m inputs name axes) b (with_set b name axes) m es

-- ---- a new field

abbrev pub is_new_field : ℕ → Key → Bool
is_new_field n (Field f) = eqb f n
is_new_field n (Flag s flag) = false

module _ (b : Board) (n m : ℕ) (inputs : Inputs) (name : List ℕ) (set width : ℕ) where
  abbrev pub new_input : Input
  new_input = declared_input (n + 1) width (processor_count (axes_of b set)) 0

  abbrev pub new_field : DeclaredField
  new_field = record { name = name; set_no = set; width = width }

  abbrev pub no_field : DeclaredField
  no_field = record { name = []; set_no = 0; width = 0 }

  abbrev pub with_declared : Inputs
  with_declared = record inputs { fields = inputs.fields ++ declared_input (n + 1) width (processor_count (axes_of b set)) 0 ∷ [] }

  pub field_news : News n (is_new_field (length inputs.fields)) inputs with_declared
  field_news = record { none = none; given = given; same = same }
    where
      none : (k : Key) → is_new_field (length inputs.fields) k ≡ true → input_of inputs k ≡ None
      none (Field f) t = ap (slice_get inputs.fields) (eqb-true f (length inputs.fields) t) ∙ get-past inputs.fields
      none (Flag s flag) t = absurd (let wrong : false ≡ true = t in cc)

      given : (k : Key) → is_new_field (length inputs.fields) k ≡ true → number_in (input_of with_declared k) ≡ n + 1
      given (Field f) t = ap number_in (ap (slice_get (inputs.fields ++ new_input ∷ [])) (eqb-true f (length inputs.fields) t) ∙ get-push_last inputs.fields new_input)
      given (Flag s flag) t = absurd (let wrong : false ≡ true = t in cc)

      same : (k : Key) → is_new_field (length inputs.fields) k ≡ false → input_of with_declared k ≡ input_of inputs k
      same (Field f) t = get-push_other inputs.fields new_input f (apart_of f (length inputs.fields) t)
      same (Flag s flag) t = refl

  field_shape_old : (k : Key) → length inputs.fields ≡ length b.fields → is_new_field (length inputs.fields) k ≡ false → shape_on (with_field b name set width) k ≡ shape_on b k
  field_shape_old (Field f) many t =
      let long : length (with_field b name set width).fields ≡ length b.fields + 1 = length-push b.fields new_field in
      let declared : nat_lt f (length (with_field b name set width).fields) ≡ nat_lt f (length b.fields) = ap (nat_lt f) long ∙ lt_next f (length b.fields) (λ e. apart_of f (length inputs.fields) t (e ∙ sym many)) in
      shape_same b (with_field b name set width) (Field f) declared (λ e. let at : declaration_at (with_field b name set width) f ≡ declaration_at b f = or-push_before b.fields new_field no_field f (less_than f (length b.fields) e) in (ap (λ (x : DeclaredField). x.width) at, ap (λ (x : DeclaredField). processor_count (axes_of b x.set_no)) at))
  field_shape_old (Flag s flag) many t = refl

  field_shape_new : (k : Key) → length inputs.fields ≡ length b.fields → is_new_field (length inputs.fields) k ≡ true → shape_on (with_field b name set width) k ≡ Some (width, processor_count (axes_of b set))
  field_shape_new (Flag s flag) many t = absurd (let wrong : false ≡ true = t in cc)
  field_shape_new (Field f) many t =
      let at : f ≡ length b.fields = eqb-true f (length inputs.fields) t ∙ many in
      let long : length (with_field b name set width).fields ≡ length b.fields + 1 = length-push b.fields new_field in
      let declared : nat_lt f (length (with_field b name set width).fields) ≡ true = lt_of f (length (with_field b name set width).fields) (omega (arith, at, long)) in
      let there : declaration_at (with_field b name set width) f ≡ new_field = ap (λ i. get_or (b.fields ++ new_field ∷ []) i no_field) at ∙ or-push_last b.fields new_field no_field in
      let wide : width_of (with_field b name set width) (Field f) ≡ width = ap (λ (x : DeclaredField). x.width) there in
      let many : count_of (with_field b name set width) (Field f) ≡ processor_count (axes_of b set) = ap (λ (x : DeclaredField). processor_count (axes_of b x.set_no)) there in
      rw (declared, wide, many) refl

  pub field_shaped : length inputs.fields ≡ length b.fields → Shaped b inputs → Shaped (with_field b name set width) with_declared
  field_shaped many shaped k = by_test (is_new_field (length inputs.fields) k) refl
    where
      given_shape : (k : Key) → is_new_field (length inputs.fields) k ≡ true → shape_in with_declared k ≡ Some (width, processor_count (axes_of b set))
      given_shape (Flag s flag) t = absurd (let wrong : false ≡ true = t in cc)
      given_shape (Field f) t = ap input_shape (ap (slice_get (inputs.fields ++ new_input ∷ [])) (eqb-true f (length inputs.fields) t) ∙ get-push_last inputs.fields new_input) ∙ ap (λ c. Some (width, c)) (length-replicate (processor_count (axes_of b set)) 0)

      by_test : (t : Bool) → is_new_field (length inputs.fields) k ≡ t → shape_in with_declared k ≡ shape_on (with_field b name set width) k
      by_test true e = given_shape k e ∙ sym (field_shape_new k many e)
      by_test false e = ap input_shape (field_news.same k e) ∙ shaped k ∙ sym (field_shape_old k many e)

pub field_whole : (b : Board) (n m : ℕ) (inputs : Inputs) (es : List Entry) (name : List ℕ) (set width : ℕ) → n < MAX_EDITS → IsWhole b n m inputs es → IsWhole (with_field b name set width) (n + 1) m (with_declared b n m inputs name set width) es
field_whole b n m inputs es name set width few w =
    declare_whole n (is_new_field (length inputs.fields)) inputs (with_declared b n m inputs name set width) (field_news b n m inputs name set width) b (with_field b name set width) m es few
    (length-push inputs.fields (new_input b n m inputs name set width) ∙ ap (λ c. c + 1) w.as_many_fields ∙ sym (length-push b.fields (new_field b n m inputs name set width)))
    w.as_many_flags
    (field_shaped b n m inputs name set width w.as_many_fields w.shaped) w

pub field_view : (b : Board) (n m : ℕ) (inputs : Inputs) (es : List Entry) (name : List ℕ) (set width : ℕ) → IsWhole b n m inputs es → state_of (with_field b name set width) (n + 1) m (with_declared b n m inputs name set width) es ≡ field_added (state_of b n m inputs es) name (Some set) width
field_view b n m inputs es name set width w = declare_view n (is_new_field (length inputs.fields)) inputs (with_declared b n m inputs name set width) (field_news b n m inputs name set width) b (with_field b name set width) m es w

pub field_enough : (b : Board) (n m : ℕ) (inputs : Inputs) (es : List Entry) (name : List ℕ) (set width : ℕ) → IsWhole b n m inputs es → IsAtRest (state_of b n m inputs es) → AreEnough [] (state_of (with_field b name set width) (n + 1) m (with_declared b n m inputs name set width) es)
field_enough b n m inputs es name set width = declare_enough n (is_new_field (length inputs.fields)) inputs (with_declared b n m inputs name set width) (field_news b n m inputs name set width) b (with_field b name set width) m es
