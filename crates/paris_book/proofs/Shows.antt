-- What is shown of a key, by the origin among the entries.
use Rattle.std.proofs.Common.{◌≡◌, ℕ, ◌<◌, ◌+◌, List, [], ◌∷◌, ◌++◌, Bool, true, false, cond, Option, Some, None, refl, sym, ap, ◌∙◌, subst, arith, map, length, take, zero, suc, get_or, slice_get}
use Rattle.std.proofs.Math.Path.{ap₂, fun_ext}
use Rattle.std.proofs.lemmas.Bool.{eq-eqb}
use Rattle.std.proofs.lemmas.List.{take-map, map-append, take_more}
use Rattle.std.proofs.lemmas.List.Folds.{list_all-append}
use Rattle.std.specs.Prelude.{◌&&◌, ◌||◌, IsSome}
use Rattle.std.specs.Option.{option_or, option_map, unwrap_or}
use Rattle.std.specs.List.{list_all}
use Rattle.paris_names.specs.declared.keys.Key.{Key}
use Rattle.paris_names.specs.declared.ids.RowId.{RowId}
use Rattle.paris_names.specs.Keys.{has_key, key_eq}
use Rattle.paris_names.specs.declared.profiles.Profile.TheVariants.{One}
use Rattle.paris_names.proofs.KeyLists.{key_eq-is}
use Rattle.paris_geometry.specs.Geometry.{processor_count}
use Rattle.paris_board.specs.Board.{Board, empty_board, is_declared, width_of, count_of}
use Rattle.paris_model.specs.Instructions.{Plan, reads, writes, given, key_width}
use Rattle.paris_model.specs.Frame.{World}
use Rattle.paris_model.specs.Run.{run}
use Rattle.paris_model.specs.Recipe.{origin, same}
use Rattle.paris_field.specs.Fields.{FieldNumbers, field_eq}
use Rattle.paris_exec.specs.Tasks.{Task, numbers_of, field_of, fits_key, fits_keys, task_value}
use Rattle.paris_edits.specs.Rows.{is_settled}
use Rattle.paris_events.specs.State.{Row, Inputs, input_of, numbers_in, start_world, row_plan, work_of}
use Rattle.paris_events.specs.Show.{now, origin_at, shown_of, show_at}
use Rattle.paris_events.specs.Orders.{is_firm, inputs_now}
use Rattle.paris_book.specs.Kept.{last_kept, Sound, present}
use Rattle.paris_book.specs.Whole.{shape_on, input_shape, shape_in, Shaped, Fitted, AllFitted}
use Rattle.paris_book.specs.Entries.{Entry, id_of, entry_plan, machine_row, seen, rows_seen}
use Rattle.paris_events.specs.declared.inputs.Input.{Input}
use Rattle.paris_events.specs.declared.events.Shown.TheVariants.{Settled as ShownSettled, Pending}
use Rattle.paris_book.specs.Among.{width_in_shape, shared_shown, LookFits, shown_at}
use Rattle.paris_book.proofs.Among.{origin_among, value_among, look_among, firm_among, inputs_among, present_among}
use Rattle.paris_book.proofs.Origins.{origin-map, sound-take, Tells, origin_tells}
use Rattle.paris_book.specs.Verdicts.{KeptFor, LooksAt}
use Rattle.paris_book.specs.declared.look.SharedLook.{SharedLook}
use Rattle.paris_book.specs.declared.look.SharedLook.TheVariants.{Settled as LookSettled, Pending as LookPending}
use Rattle.paris_book.proofs.Inserts.{state_of}
use Rattle.std.specs.Cmp.Lexicographic.{pointwise}
use Rattle.paris_instr.specs.PlanEq.{plan_eq}
use Rattle.paris_events.specs.CutOff.{is_present}

pub map-row : (es : List Entry) → map row_plan (map machine_row es) ≡ map entry_plan es
map-row [] = refl
map-row (e ∷ es) = ap (λ x. e.1.plan ∷ x) (map-row es)

pub now_is : (b : Board) (n m : ℕ) (inputs : Inputs) (es : List Entry) (place : ℕ) → now (state_of b n m inputs es) place ≡ present inputs es place
now_is b n m inputs es place = ap (λ (rs : List Row). run (start_world inputs) (map row_plan rs)) (take-map machine_row place es) ∙ ap (run (start_world inputs)) (map-row (take place es))

pub origin_seen : (es : List Entry) (place : ℕ) (k : Key) → origin row_plan k (take place (map machine_row es)) ≡ option_map machine_row (origin_among es place k)
origin_seen es place k = ap (origin row_plan k) (take-map machine_row place es) ∙ origin-map row_plan machine_row k (take place es)

-- what the origin at a place tells
pub tells_at : (inputs : Inputs) (es : List Entry) (k : Key) (place : ℕ) (o : Option Entry) → Sound (start_world inputs) (λ _. true) es → origin_among es place k ≡ o → Tells (start_world inputs) (take place es) k o
tells_at inputs es k place o s e = subst (Tells (start_world inputs) (take place es) k) e (origin_tells (start_world inputs) (λ _. true) k (take place es) (sound-take (start_world inputs) (λ _. true) es place s))

width_shaped : (o : Option (ℕ × ℕ)) (b : Board) (k : Key) → is_declared b k ≡ true → o ≡ shape_on b k → width_in_shape o ≡ width_of b k
width_shaped o b k d e = ap width_in_shape e ∙ ap width_in_shape (ap (λ t. cond t (Some (width_of b k, count_of b k)) None) d)

-- the state and the entries show the same
pub show_is : (b : Board) (n m : ℕ) (inputs : Inputs) (es : List Entry) (k : Key) (place : ℕ) → Shaped b inputs → is_declared b k ≡ true → show_at (state_of b n m inputs es) place k ≡ look_among inputs es place k
show_is b n m inputs es k place shaped d =
    ap₂ (λ (o : Option Row) (v : FieldNumbers). shown_of o v) (origin_seen es place k)
    (λ i. record { width = sym (width_shaped (shape_in inputs k) b k d (shaped k)) i; numbers = now_is b n m inputs es place i k })

pub firm_is : (b : Board) (n m : ℕ) (inputs : Inputs) (es : List Entry) (k : Key) (place : ℕ) → is_firm (origin_at (state_of b n m inputs es) place k) ≡ firm_among es place k
firm_is b n m inputs es k place = ap is_firm (origin_seen es place k)

-- ---- what the machine sees of them

pub look_seen : (inputs : Inputs) (es : List Entry) (k : Key) (place : ℕ) → shown_at inputs es place k ≡ look_among inputs es place k
look_seen inputs es k place =
    ap₂ (λ (o : Option Row) (v : FieldNumbers). shown_of o v) (origin_seen es place k)
    (λ i. record { width = width_in_shape (shape_in inputs k); numbers = now_is (empty_board One) 0 1 inputs es place i k })

pub firm_seen : (es : List Entry) (place : ℕ) (k : Key) → is_firm (origin_at (rows_seen es) place k) ≡ firm_among es place k
firm_seen es place k = ap is_firm (origin_seen es place k)

pub all_firm_seen : (es : List Entry) (place : ℕ) (ks : List Key) → list_all (λ k. is_firm (origin_at (rows_seen es) place k)) ks ≡ list_all (firm_among es place) ks
all_firm_seen es place ks = ap (λ (q : Key → Bool). list_all q ks) (fun_ext (firm_seen es place))

pub inputs_seen : (inputs : Inputs) (es : List Entry) (place : ℕ) (p : Plan) → inputs_now (seen inputs es) place p ≡ inputs_among inputs es place p
inputs_seen inputs es place p = ap (λ (w : World). map (λ k. field_of p k (w k)) (reads p)) (now_is (empty_board One) 0 1 inputs es place)

pub present_seen : (inputs : Inputs) (es : List Entry) (place : ℕ) (e : Entry) (t : Task) → is_present (seen inputs es) place (machine_row e) (work_of t) ≡ present_among inputs es place e t
present_seen inputs es place e t =
    ap₂ (λ b (values : List FieldNumbers). plan_eq e.1.plan t.plan && (b && pointwise field_eq values t.inputs)) (all_firm_seen es place (reads e.1.plan)) (inputs_seen inputs es place e.1.plan)

-- ---- keys

-- a key whose origin is the start
pub look_start : (inputs : Inputs) (es : List Entry) (k : Key) (place : ℕ) (x : Input) → Sound (start_world inputs) (λ _. true) es → origin_among es place k ≡ None → Some x ≡ input_of inputs k
    → (ShownSettled x.value ≡ look_among inputs es place k) × (shape_in inputs k ≡ Some (x.value.width, length x.value.numbers))
look_start inputs es k place x s o e =
    let shape : shape_in inputs k ≡ Some (x.value.width, length x.value.numbers) = ap input_shape (sym e) in
    let width : width_in_shape (shape_in inputs k) ≡ x.value.width = ap width_in_shape shape in
    let numbers : present inputs es place k ≡ x.value.numbers = tells_at inputs es k place None s o ∙ ap numbers_in (sym e) in
    (rw o (ap ShownSettled (λ i. record { width = sym width i; numbers = sym numbers i })), shape)

-- a settled origin has a result
pub origin_kept : (inputs : Inputs) (es : List Entry) (k : Key) (place : ℕ) (e : Entry) → Sound (start_world inputs) (λ _. true) es → origin_among es place k ≡ Some e → is_settled e.1.status ≡ true → e.1.done ≡ None → ⊥
origin_kept inputs es k place e s o t none =
    let told = (tells_at inputs es k place (Some e) s o).1 t in
    let nothing : Option (Plan × List (List ℕ)) = None in
    let wrong : nothing ≡ Some (e.1.plan, told.0) = ap last_kept (sym none) ∙ told.1 in
    absurd (cc)

pub fitted_entry : (inputs : Inputs) (es : List Entry) (k : Key) (place : ℕ) (e : Entry) → AllFitted inputs es → origin_among es place k ≡ Some e → Fitted inputs e.1.plan
fitted_entry inputs [] k zero e f o = absurd (cc)
fitted_entry inputs [] k (suc place) e f o = absurd (cc)
fitted_entry inputs (x ∷ es) k zero e f o = absurd (cc)
fitted_entry inputs (x ∷ es) k (suc place) e f o = by_rest (fitted_entry inputs es k place e f.1) (origin entry_plan k (take place es)) refl (has_key (writes x.1.plan) k) o
  where
    by_rest : (origin_among es place k ≡ Some e → Fitted inputs e.1.plan) → (r : Option Entry) → origin entry_plan k (take place es) ≡ r → (b : Bool) → option_or r (cond b (Some x) None) ≡ Some e → Fitted inputs e.1.plan
    by_rest rest (Some y) q b h = rest (q ∙ h)
    by_rest rest None q true h = let same : x ≡ e = cc in subst (λ (z : Entry). Fitted inputs z.1.plan) same f.0
    by_rest rest None q false h = absurd (cc)

-- a settled origin's result holds the present value
pub look_settled : (inputs : Inputs) (es : List Entry) (k : Key) (place : ℕ) (e : Entry) (d : Task) (v : FieldNumbers) → Sound (start_world inputs) (λ _. true) es → AllFitted inputs es → origin_among es place k ≡ Some e → is_settled e.1.status ≡ true → e.1.done ≡ Some d
    → v ≡ task_value d k → length v.numbers ≡ processor_count d.plan.axes
    → (ShownSettled v ≡ look_among inputs es place k) × (shape_in inputs k ≡ Some (v.width, length v.numbers))
look_settled inputs es k place e d v s f o t x value count =
    let tells = tells_at inputs es k place (Some e) s o in
    let told = tells.1 t in
    let pair : (d.plan, numbers_of d.inputs) ≡ (e.1.plan, told.0) = ap (λ o. unwrap_or o (d.plan, numbers_of d.inputs)) (sym (ap last_kept x) ∙ told.1) in
    let plan : d.plan ≡ e.1.plan = ap (λ (p : Plan × List (List ℕ)). p.0) pair in
    let held : given d.plan (numbers_of d.inputs) k ≡ present inputs es place k = ap (λ (p : Plan × List (List ℕ)). given p.0 p.1 k) pair ∙ told.2 in
    let shape : shape_in inputs k ≡ Some (key_width e.1.plan k, processor_count e.1.plan.axes) = fitted_entry inputs es k place e f o k (written k e.1.plan tells.0) in
    let width : v.width ≡ key_width e.1.plan k = ap (λ (y : FieldNumbers). y.width) value ∙ ap (λ p. key_width p k) plan in
    let numbers : v.numbers ≡ present inputs es place k = ap (λ (y : FieldNumbers). y.numbers) value ∙ held in
    let long : length v.numbers ≡ processor_count e.1.plan.axes = count ∙ ap (λ (p : Plan). processor_count p.axes) plan in
    (rw (o, t) (ap ShownSettled (λ i. record { width = (width ∙ sym (ap width_in_shape shape)) i; numbers = numbers i })), shape ∙ ap Some (ap₂ (λ a b. (a, b)) (sym width) (sym long)))
  where
    written : (k : Key) (p : Plan) → has_key (writes p) k ≡ true → (has_key (reads p) k || has_key (writes p) k) ≡ true
    written k p h = by_first (has_key (reads p) k)
      where
        by_first : (b : Bool) → (b || has_key (writes p) k) ≡ true
        by_first true = refl
        by_first false = h

-- the key that a settled origin's result is asked for is one that it writes
pub done_writes : (inputs : Inputs) (es : List Entry) (k : Key) (place : ℕ) (e : Entry) (d : Task) → Sound (start_world inputs) (λ _. true) es → origin_among es place k ≡ Some e → is_settled e.1.status ≡ true → e.1.done ≡ Some d → has_key (writes d.plan) k ≡ true
done_writes inputs es k place e d s o t x =
    let tells = tells_at inputs es k place (Some e) s o in
    let told = tells.1 t in
    let pair : (d.plan, numbers_of d.inputs) ≡ (e.1.plan, told.0) = ap (λ o. unwrap_or o (d.plan, numbers_of d.inputs)) (sym (ap last_kept x) ∙ told.1) in
    ap (λ (p : Plan × List (List ℕ)). has_key (writes p.0) k) pair ∙ tells.0

pub look_pending : (inputs : Inputs) (es : List Entry) (k : Key) (place : ℕ) (e : Entry) → origin_among es place k ≡ Some e → is_settled e.1.status ≡ false → Pending (id_of e) ≡ look_among inputs es place k
look_pending inputs es k place e o t = rw (o, t) refl

-- an origin keeps a result where it is settled
pub kept_for : (inputs : Inputs) (es : List Entry) (k : Key) (place : ℕ) (e : Entry) → Sound (start_world inputs) (λ _. true) es → origin_among es place k ≡ Some e → KeptFor e k
kept_for inputs es k place e s o t = by_done e.1.done refl
  where
    by_done : (d : Option Task) → e.1.done ≡ d → (d : Task) × (e.1.done ≡ Some d) × (has_key (writes d.plan) k ≡ true)
    by_done None x = absurd (origin_kept inputs es k place e s o t x)
    by_done (Some d) x = (d, x, done_writes inputs es k place e d s o t x)

-- a look at an origin is the look at the key
pub looks_at : (inputs : Inputs) (es : List Entry) (k : Key) (place : ℕ) (e : Entry) (look : SharedLook) → Sound (start_world inputs) (λ _. true) es → AllFitted inputs es → origin_among es place k ≡ Some e → LooksAt look e k
    → (shared_shown look ≡ look_among inputs es place k) × LookFits look (shape_in inputs k)
looks_at inputs es k place e (LookSettled v) s f o l = look_settled inputs es k place e l.1.0 v.now s f o l.0 l.1.1 l.1.2 l.1.3
looks_at inputs es k place e (LookPending id) s f o l = (ap Pending l.1 ∙ look_pending inputs es k place e o l.0, tt)

shown_same : (x y : FieldNumbers) → ShownSettled x ≡ ShownSettled y → x ≡ y
shown_same x y e = cc

-- a look at a key with a firm origin lends its value
pub firm_lends : (inputs : Inputs) (es : List Entry) (k : Key) (place : ℕ) (p : Plan) (v : FieldNumbers) → firm_among es place k ≡ true → ShownSettled v ≡ look_among inputs es place k → shape_in inputs k ≡ Some (v.width, length v.numbers) → Fitted inputs p → has_key (reads p) k ≡ true
    → (v ≡ field_of p k (present inputs es place k)) × (length v.numbers ≡ processor_count p.axes)
firm_lends inputs es k place p v firm shown shape fit h =
    let fitted : shape_in inputs k ≡ Some (key_width p k, processor_count p.axes) = fit k (ap (λ b. b || has_key (writes p) k) h) in
    let same : (v.width, length v.numbers) ≡ (key_width p k, processor_count p.axes) = ap (λ o. unwrap_or o (v.width, length v.numbers)) (sym shape ∙ fitted) in
    let width : v.width ≡ key_width p k = ap (λ (s : ℕ × ℕ). s.0) same in
    let value : ShownSettled v ≡ ShownSettled (value_among inputs es place k) = shown ∙ by_origin (origin_among es place k) firm in
    let is : v ≡ value_among inputs es place k = shown_same v (value_among inputs es place k) value in
    (is ∙ (λ i. record { width = (sym (ap (λ (y : FieldNumbers). y.width) is) ∙ width) i; numbers = present inputs es place k }), ap (λ (s : ℕ × ℕ). s.1) same)
  where
    by_origin : (o : Option Entry) → is_firm (option_map machine_row o) ≡ true → shown_of (option_map machine_row o) (value_among inputs es place k) ≡ ShownSettled (value_among inputs es place k)
    by_origin None t = refl
    by_origin (Some e) t = rw t refl

pub firm_not_pending : (inputs : Inputs) (es : List Entry) (k : Key) (place : ℕ) (id : RowId) → firm_among es place k ≡ true → Pending id ≡ look_among inputs es place k → ⊥
firm_not_pending inputs es k place id firm shown = by_origin (origin_among es place k) firm shown
  where
    by_origin : (o : Option Entry) → is_firm (option_map machine_row o) ≡ true → Pending id ≡ shown_of (option_map machine_row o) (value_among inputs es place k) → ⊥
    by_origin None t h = absurd (cc)
    by_origin (Some e) t h = let wrong : Pending id ≡ ShownSettled (value_among inputs es place k) = h ∙ rw t refl in absurd (cc)

-- what is shown of a key tells whether its origin is firm
pub settled_firm : (inputs : Inputs) (es : List Entry) (k : Key) (place : ℕ) (v : FieldNumbers) → ShownSettled v ≡ look_among inputs es place k → firm_among es place k ≡ true
settled_firm inputs es k place v shown = by_origin (origin_among es place k) shown
  where
    by_origin : (o : Option Entry) → ShownSettled v ≡ shown_of (option_map machine_row o) (value_among inputs es place k) → is_firm (option_map machine_row o) ≡ true
    by_origin None h = refl
    by_origin (Some e) h = by_status (is_settled e.1.status) h
      where
        by_status : (b : Bool) → ShownSettled v ≡ cond b (ShownSettled (value_among inputs es place k)) (Pending (id_of e)) → b ≡ true
        by_status true x = refl
        by_status false x = absurd (cc)

pub pending_loose : (inputs : Inputs) (es : List Entry) (k : Key) (place : ℕ) (id : RowId) → Pending id ≡ look_among inputs es place k → firm_among es place k ≡ false
pending_loose inputs es k place id shown = by_test (firm_among es place k) refl
  where
    by_test : (b : Bool) → firm_among es place k ≡ b → b ≡ false
    by_test true firm = absurd (firm_not_pending inputs es k place id firm shown)
    by_test false firm = refl

-- a key that is read has input data
pub fitted_known : (inputs : Inputs) (p : Plan) (k : Key) → Fitted inputs p → has_key (reads p) k ≡ true → IsSome (input_of inputs k)
fitted_known inputs p k fit h = by_there (input_of inputs k) (fit k (ap (λ b. b || has_key (writes p) k) h))
  where
    by_there : (o : Option Input) → input_shape o ≡ Some (key_width p k, processor_count p.axes) → IsSome o
    by_there None e = absurd (cc)
    by_there (Some x) e = refl

-- the keys of a list are among them, and firm where all are
pub has_at : (ks : List Key) (i : ℕ) (k : Key) → i < length ks → k ≡ get_or ks i k → has_key ks k ≡ true
has_at [] i k a e = absurd (omega arith)
has_at (j ∷ js) zero k a e = ap (λ b. b || has_key js k) (key_eq-is k j e)
has_at (j ∷ js) (suc i) k a e = by_first (key_eq k j) (has_at js i k (omega arith) e)
  where
    by_first : (b : Bool) → has_key js k ≡ true → (b || has_key js k) ≡ true
    by_first true h = refl
    by_first false h = h

pub all_at : (test : Key → Bool) (ks : List Key) (i : ℕ) (k : Key) → i < length ks → k ≡ get_or ks i k → list_all test ks ≡ true → test k ≡ true
all_at test [] i k a e h = absurd (omega arith)
all_at test (j ∷ js) zero k a e h = ap test e ∙ first (test j) h
  where
    first : (b : Bool) → (b && list_all test js) ≡ true → b ≡ true
    first true t = refl
    first false t = t
all_at test (j ∷ js) (suc i) k a e h = all_at test js i k (omega arith) e (second (test j) h)
  where
    second : (b : Bool) → (b && list_all test js) ≡ true → list_all test js ≡ true
    second true t = t
    second false t = absurd (let x : false ≡ true = t in cc)

-- one more key that passes, and one that doesn't
pub all_with : (test : Key → Bool) (ks : List Key) (i : ℕ) (k : Key) → i < length ks → k ≡ get_or ks i k → list_all test (take i ks) ≡ true → test k ≡ true → list_all test (take (i + 1) ks) ≡ true
all_with test ks i k a e before here =
    ap (list_all test) (take_more ks i k a ∙ ap (λ j. take i ks ++ j ∷ []) (sym e))
    ∙ list_all-append test (take i ks) (k ∷ [])
    ∙ ap₂ (λ x y. x && (y && true)) before here

pub not_all : (test : Key → Bool) (ks : List Key) (i : ℕ) (k : Key) → i < length ks → k ≡ get_or ks i k → test k ≡ false → list_all test ks ≡ false
not_all test ks i k a e here = by_test (list_all test ks) refl
  where
    by_test : (b : Bool) → list_all test ks ≡ b → b ≡ false
    by_test true all = let wrong : true ≡ false = sym (all_at test ks i k a e all) ∙ here in absurd (cc)
    by_test false all = refl

pub fitted_at : (inputs : Inputs) (es : List Entry) (place : ℕ) (e : Entry) → AllFitted inputs es → slice_get es place ≡ Some e → Fitted inputs e.1.plan
fitted_at inputs [] place e f x = absurd (cc)
fitted_at inputs (y ∷ es) zero e f x = let same : y ≡ e = cc in subst (λ (z : Entry). Fitted inputs z.1.plan) same f.0
fitted_at inputs (y ∷ es) (suc place) e f x = fitted_at inputs es place e f.1 x

fits-append : (p : Plan) (ks : List Key) (xs : List FieldNumbers) (k : Key) (x : FieldNumbers) → fits_keys p ks xs ≡ true → fits_key p k x ≡ true → fits_keys p (ks ++ k ∷ []) (xs ++ x ∷ []) ≡ true
fits-append p [] [] k x f h = ap (λ b. b && true) h
fits-append p [] (y ∷ ys) k x f h = absurd (let z : false ≡ true = f in cc)
fits-append p (j ∷ js) [] k x f h = absurd (let z : false ≡ true = f in cc)
fits-append p (j ∷ js) (y ∷ ys) k x f h = by_first (fits_key p j y) (fits-append p js ys k x) f
  where
    by_first : (b : Bool) → (fits_keys p js ys ≡ true → fits_key p k x ≡ true → fits_keys p (js ++ k ∷ []) (ys ++ x ∷ []) ≡ true) → (b && fits_keys p js ys) ≡ true → (b && fits_keys p (js ++ k ∷ []) (ys ++ x ∷ [])) ≡ true
    by_first true rest t = rest t h
    by_first false rest t = t

fits_field : (p : Plan) (k : Key) (numbers : List ℕ) → length numbers ≡ processor_count p.axes → fits_key p k (field_of p k numbers) ≡ true
fits_field p k numbers long = rw (eq-eqb (key_width p k) (key_width p k) refl, eq-eqb (length numbers) (processor_count p.axes) long) refl

-- one input more
pub inputs_more : (inputs : Inputs) (es : List Entry) (place : ℕ) (p : Plan) (ks : List Key) (xs ys : List FieldNumbers) (i : ℕ) (k : Key) (v : FieldNumbers) → i < length ks → k ≡ get_or ks i k
    → (v ≡ field_of p k (present inputs es place k)) × (length v.numbers ≡ processor_count p.axes) → ys ≡ xs ++ v ∷ []
    → xs ≡ map (λ k. field_of p k (present inputs es place k)) (take i ks) → fits_keys p (take i ks) xs ≡ true
    → (ys ≡ map (λ k. field_of p k (present inputs es place k)) (take (i + 1) ks)) × (fits_keys p (take (i + 1) ks) ys ≡ true)
inputs_more inputs es place p ks xs ys i k v within at is pushed same fit =
    let more : take (i + 1) ks ≡ take i ks ++ k ∷ [] = take_more ks i k within ∙ ap (λ j. take i ks ++ j ∷ []) (sym at) in
    let f : Key → FieldNumbers = λ k. field_of p k (present inputs es place k) in
    let one : fits_key p k v ≡ true = subst (λ x. fits_key p k x ≡ true) (sym is.0) (fits_field p k (present inputs es place k) (sym (ap (λ (x : FieldNumbers). length x.numbers) is.0) ∙ is.1)) in
    (pushed ∙ ap₂ (λ a c. a ++ c ∷ []) same is.0 ∙ sym (map-append f (take i ks) (k ∷ [])) ∙ ap (map f) (sym more), rw (more, pushed) (fits-append p (take i ks) xs k v fit one))
