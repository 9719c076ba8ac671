-- The present sources of a row name the present values, so a row that is settled by these may take them over.
use Rattle.std.proofs.Common.{◌≡◌, ℕ, ◌+◌, ◌<◌, ◌≤◌, inl, inr, List, [], ◌∷◌, Bool, true, false, cond, Option, Some, None, refl, sym, ap, ◌∙◌, subst, arith, eqb, map, take, drop, length, zero, suc, set, get_or, slice_get}
use Rattle.std.proofs.lemmas.Option.{slice_get-map}
use Rattle.std.proofs.lemmas.Bool.{eq-eqb}
use Rattle.std.specs.Prelude.{◌||◌, ◌&&◌}
use Rattle.std.proofs.Math.Path.{ap₂}
use Rattle.std.specs.Cmp.Lexicographic.{pointwise}
use Rattle.std.proofs.lemmas.Slice.Eq.{bytes_eq-Decides}
use Rattle.std.specs.Option.{option_map, option_or, unwrap_or}
use Rattle.std.specs.List.{list_all, list_any}
use Rattle.paris_names.specs.declared.keys.Key.{Key}
use Rattle.paris_names.specs.declared.ids.Edition.{Edition}
use Rattle.paris_names.specs.declared.ids.RowId.{RowId}
use Rattle.paris_names.specs.Keys.{has_key, key_eq}
use Rattle.paris_names.proofs.KeyLists.{key_eq-is}
use Rattle.paris_geometry.specs.Geometry.{processor_count}
use Rattle.paris_model.specs.Instructions.{Plan, reads, writes, given, key_width}
use Rattle.paris_model.specs.Recipe.{origin}
use Rattle.paris_field.specs.Fields.{FieldNumbers, field_eq}
use Rattle.paris_exec.specs.Tasks.{Task, numbers_of, field_of, task_value}
use Rattle.paris_edits.specs.Rows.{is_settled}
use Rattle.paris_events.specs.State.{Inputs, IdsApart, input_of, number_in, numbers_in, start_world}
use Rattle.paris_events.specs.declared.inputs.Input.{Input}
use Rattle.paris_program.specs.Program.{ids_of}
use Rattle.paris_book.specs.Among.{width_in_shape}
use Rattle.paris_book.specs.Entries.{Entry, id_of, entry_plan}
use Rattle.paris_book.specs.RowsInside.{of_plan}
use Rattle.paris_instr.specs.PlanEq.{plan_eq}
use Rattle.paris_board.specs.Board.{empty_board}
use Rattle.paris_names.specs.declared.profiles.Profile.TheVariants.{One}
use Rattle.paris_model.specs.Frame.{World}
use Rattle.paris_book.specs.Kept.{last_kept, Sound, present}
use Rattle.paris_book.specs.Whole.{input_shape, shape_in, InputsBelow, Fitted, AllFitted}
use Rattle.paris_book.specs.Sources.{number_told, IsNumbered, LeavesFree, NamesInput, NamesResult, AreNamed, IsSourced, IsSource, IsSourceOf, AreSources, KnownArePresent, TellsResult}
use Rattle.paris_book.specs.declared.sources.Source.{Source}
use Rattle.paris_book.specs.declared.sources.Source.TheVariants.{Unknown, Input as FromInput, Row as FromRow}
use Rattle.paris_book.proofs.Among.{origin_among, inputs_among}
use Rattle.paris_book.proofs.Shows.{tells_at, fitted_entry, now_is}
use Rattle.paris_book.specs.SourceLists.{is_known, no_sources}
use Rattle.paris_book.proofs.Sourced.{none_told, set_entry}

-- a key that stands in a list is among its keys
pub has_get : (ks : List Key) (i : ℕ) (k : Key) → slice_get ks i ≡ Some k → has_key ks k ≡ true
has_get [] i k at = absurd (cc)
has_get (j ∷ js) zero k at = let same : k ≡ j = cc in ap (λ b. b || has_key js k) (key_eq-is k j same)
has_get (j ∷ js) (suc i) k at = by_first (key_eq k j) (has_get js i k at)
  where
    by_first : (b : Bool) → has_key js k ≡ true → (b || has_key js k) ≡ true
    by_first true h = refl
    by_first false h = h

-- an origin stands before the place
pub origin_place : (es : List Entry) (place : ℕ) (k : Key) (o : Entry) → origin_among es place k ≡ Some o → (q : ℕ) × (q < place) × (slice_get es q ≡ Some o)
origin_place [] zero k o e = absurd (cc)
origin_place [] (suc place) k o e = absurd (cc)
origin_place (x ∷ es) zero k o e = absurd (cc)
origin_place (x ∷ es) (suc place) k o e = by_rest (origin_place es place k o) (origin entry_plan k (take place es)) refl (has_key (writes x.1.plan) k) e
  where
    by_rest : (origin_among es place k ≡ Some o → (q : ℕ) × (q < place) × (slice_get es q ≡ Some o)) → (r : Option Entry) → origin entry_plan k (take place es) ≡ r → (b : Bool) → option_or r (cond b (Some x) None) ≡ Some o
        → (q : ℕ) × (q < suc place) × (slice_get (x ∷ es) q ≡ Some o)
    by_rest rest (Some y) is b h = let found = rest (is ∙ h) in (suc found.0, (let l : found.0 < place = found.1 in omega (arith, l)), found.2)
    by_rest rest None is true h = (0, omega arith, h)
    by_rest rest None is false h = absurd (cc)

in_ids : (es : List Entry) (q : ℕ) (y : Entry) (i : ℕ) → slice_get es q ≡ Some y → y.0 ≡ i → list_any (λ j. eqb j i) (ids_of es) ≡ true
in_ids [] q y i at same = absurd (cc)
in_ids (z ∷ es) zero y i at same = let here : z ≡ y = cc in ap (λ b. b || list_any (λ j. eqb j i) (ids_of es)) (eq-eqb z.0 i (ap (λ (u : Entry). u.0) here ∙ same))
in_ids (z ∷ es) (suc q) y i at same = by_first (eqb z.0 i) (in_ids es q y i at same)
  where
    by_first : (b : Bool) → list_any (λ j. eqb j i) (ids_of es) ≡ true → (b || list_any (λ j. eqb j i) (ids_of es)) ≡ true
    by_first true h = refl
    by_first false h = h

-- one id, one place
pub one_place : (es : List Entry) (p q : ℕ) (x y : Entry) → IdsApart (ids_of es) → slice_get es p ≡ Some x → slice_get es q ≡ Some y → x.0 ≡ y.0 → p ≡ q
one_place [] p q x y apart at there same = absurd (cc)
one_place (z ∷ es) zero zero x y apart at there same = refl
one_place (z ∷ es) zero (suc q) x y apart at there same =
    let here : z ≡ x = cc in
    let wrong : true ≡ false = sym (in_ids es q y z.0 there (sym same ∙ sym (ap (λ (u : Entry). u.0) here))) ∙ apart.0 in
    absurd (cc)
one_place (z ∷ es) (suc p) zero x y apart at there same =
    let here : z ≡ y = cc in
    let wrong : true ≡ false = sym (in_ids es p x z.0 at (same ∙ sym (ap (λ (u : Entry). u.0) here))) ∙ apart.0 in
    absurd (cc)
one_place (z ∷ es) (suc p) (suc q) x y apart at there same = ap suc (one_place es p q x y apart.1 at there same)

pub one_entry : (es : List Entry) (p q : ℕ) (x y : Entry) → IdsApart (ids_of es) → slice_get es p ≡ Some x → slice_get es q ≡ Some y → x.0 ≡ y.0 → x ≡ y
one_entry es p q x y apart at there same = ap (λ o. unwrap_or o x) (sym at ∙ ap (slice_get es) (one_place es p q x y apart at there same) ∙ there)

-- the present value at a key that a plan reads: input data, where the start is the origin
pub start_value : (inputs : Inputs) (es : List Entry) (k : Key) (place : ℕ) (p : Plan) (v : Input) → Sound (start_world inputs) (λ _. true) es → Fitted inputs p → has_key (reads p) k ≡ true → origin_among es place k ≡ None → input_of inputs k ≡ Some v
    → v.value ≡ field_of p k (present inputs es place k)
start_value inputs es k place p v s fit h o has =
    let shape : shape_in inputs k ≡ Some (v.value.width, length v.value.numbers) = ap input_shape has in
    let fitted : shape_in inputs k ≡ Some (key_width p k, processor_count p.axes) = fit k (ap (λ b. b || has_key (writes p) k) h) in
    let width : v.value.width ≡ key_width p k = ap width_in_shape (sym shape ∙ fitted) in
    let numbers : v.value.numbers ≡ present inputs es place k = sym (tells_at inputs es k place None s o ∙ ap numbers_in has) in
    (λ i. record { width = width i; numbers = numbers i })

-- or what the result of a settled origin leaves
pub settled_value : (inputs : Inputs) (es : List Entry) (k : Key) (place : ℕ) (p : Plan) (e : Entry) (d : Task) → Sound (start_world inputs) (λ _. true) es → AllFitted inputs es → Fitted inputs p → has_key (reads p) k ≡ true → origin_among es place k ≡ Some e
    → is_settled e.1.status ≡ true → e.1.done ≡ Some d → task_value d k ≡ field_of p k (present inputs es place k)
settled_value inputs es k place p e d s f fit h o t x =
    let tells = tells_at inputs es k place (Some e) s o in
    let told = tells.1 t in
    let pair : (d.plan, numbers_of d.inputs) ≡ (e.1.plan, told.0) = ap (λ o. unwrap_or o (d.plan, numbers_of d.inputs)) (sym (ap last_kept x) ∙ told.1) in
    let plan : d.plan ≡ e.1.plan = ap (λ (q : Plan × List (List ℕ)). q.0) pair in
    let held : given d.plan (numbers_of d.inputs) k ≡ present inputs es place k = ap (λ (q : Plan × List (List ℕ)). given q.0 q.1 k) pair ∙ told.2 in
    let shape : shape_in inputs k ≡ Some (key_width e.1.plan k, processor_count e.1.plan.axes) = fitted_entry inputs es k place e f o k (written e.1.plan tells.0) in
    let fitted : shape_in inputs k ≡ Some (key_width p k, processor_count p.axes) = fit k (ap (λ b. b || has_key (writes p) k) h) in
    let width : key_width d.plan k ≡ key_width p k = ap (λ q. key_width q k) plan ∙ ap width_in_shape (sym shape ∙ fitted) in
    (λ i. record { width = width i; numbers = held i })
  where
    written : (q : Plan) → has_key (writes q) k ≡ true → (has_key (reads q) k || has_key (writes q) k) ≡ true
    written q h = by_first (has_key (reads q) k)
      where
        by_first : (b : Bool) → (b || has_key (writes q) k) ≡ true
        by_first true = refl
        by_first false = h

-- an input of a plan by its number
pub input_at : (inputs : Inputs) (es : List Entry) (place : ℕ) (p : Plan) (i : ℕ) (k : Key) → slice_get (reads p) i ≡ Some k → slice_get (inputs_among inputs es place p) i ≡ Some (field_of p k (present inputs es place k))
input_at inputs es place p i k read = slice_get-map (λ f. field_of p f (present inputs es place f)) (reads p) i ∙ ap (option_map (λ f. field_of p f (present inputs es place f))) read

-- a row that keeps a result of the present values, with their sources, in place of an unsettled one or of one with the same result
module _ (n : ℕ) (inputs : Inputs) (es : List Entry) (k : ℕ) (e x : Entry) (d : Task)
    (at : slice_get es k ≡ Some e) (id : x.0 ≡ e.0) (edition : x.1.edition ≡ e.1.edition) (settled : is_settled x.1.status ≡ true) (keeps : x.1.done ≡ Some d) (number : d.edition.0 ≤ n)
    (from : AreSources inputs es k (reads d.plan) x.1.sources) (values : inputs_among inputs es k d.plan ≡ d.inputs)
    (others : (p : ℕ) (z : Entry) → slice_get es p ≡ Some z → NamesResult z x)
    (below : InputsBelow n inputs) (apart : IdsApart (ids_of es)) (fitted : AllFitted inputs es) (fit : Fitted inputs d.plan) (sound : Sound (start_world inputs) (λ _. true) es)
    (w : IsSourced n inputs es) where
  value_at : (i : ℕ) (f : Key) → slice_get (reads d.plan) i ≡ Some f → slice_get d.inputs i ≡ Some (field_of d.plan f (present inputs es k f))
  value_at i f read = ap (λ (l : List FieldNumbers). slice_get l i) (sym values) ∙ input_at inputs es k d.plan i f read

  same_task : (t : Task) → x.1.done ≡ Some t → d ≡ t
  same_task t done = ap (λ o. unwrap_or o d) (sym keeps ∙ done)

  told : (o : Option Key) (s : Source) → IsSourceOf inputs es k o s → number_told s ≤ n
  told None s is = let none : number_told s ≡ 0 = ap number_told is in omega (arith, none)
  told (Some f) Unknown is = omega arith
  told (Some f) (FromInput m) is = subst (λ j. j ≤ n) is.1 (below f)
  told (Some f) (FromRow j other) is =
      let there = origin_place es k f is.0 is.1 in
      subst (λ (c : Edition). c.0 ≤ n) is.2.2.2 ((w.numbers there.0 is.0 there.2).result is.2.2.0 is.2.2.1)

  numbers : IsNumbered n x
  numbers = record {
    edition = subst (λ (c : Edition). c.0 ≤ n) (sym edition) (w.numbers k e at).edition;
    result = λ t done. subst (λ (u : Task). u.edition.0 ≤ n) (same_task t done) number;
    sources = λ i s named. told (slice_get (reads d.plan) i) s (from i s named);
  }

  -- the origin that a source names is the row of its id
  the_row : (f : Key) (c : Edition) (q : ℕ) (y : Entry) → slice_get es q ≡ Some y → (is : IsSource inputs es k f (FromRow (id_of y) c)) → is.0 ≡ y
  the_row f c q y there is =
      let found = origin_place es k f is.0 is.1 in
      one_entry es found.0 q is.0 y apart found.2 there (ap (λ (r : RowId). r.0) (sym is.2.0))

  free : (q : ℕ) (y : Entry) → slice_get es q ≡ Some y → LeavesFree x y
  free q y there i unsettled named = by_key (slice_get (reads d.plan) i) (from i (FromRow (id_of y) y.1.edition) named)
    where
      by_key : (o : Option Key) → IsSourceOf inputs es k o (FromRow (id_of y) y.1.edition) → ⊥
      by_key None is = let wrong : FromRow (id_of y) y.1.edition ≡ Unknown = is in absurd (cc)
      by_key (Some f) is =
          let same : is.0 ≡ y = the_row f y.1.edition q y there is in
          let wrong : true ≡ false = sym is.2.1 ∙ ap (λ (z : Entry). is_settled z.1.status) same ∙ unsettled in
          absurd (cc)

  source_of : (i : ℕ) (f : Key) (s : Source) → slice_get x.1.sources i ≡ Some s → slice_get (reads d.plan) i ≡ Some f → IsSource inputs es k f s
  source_of i f s named read = subst (λ o. IsSourceOf inputs es k o s) read (from i s named)

  names_input : NamesInput inputs x
  names_input i m f v named has same t done read =
      let is : d ≡ t = same_task t done in
      let here : slice_get (reads d.plan) i ≡ Some f = ap (λ (u : Task). slice_get (reads u.plan) i) is ∙ read in
      let from_start = source_of i f (FromInput m) named here in
      let value : v.value ≡ field_of d.plan f (present inputs es k f) = start_value inputs es f k d.plan v sound fit (has_get (reads d.plan) i f here) from_start.0 has in
      subst (λ (u : Task). slice_get u.inputs i ≡ Some v.value) is (value_at i f here ∙ ap Some (sym value))

  names_row : (q : ℕ) (y : Entry) → slice_get es q ≡ Some y → NamesResult x y
  names_row q y there i f c t named holds same u done read =
      let is : d ≡ u = same_task u done in
      let here : slice_get (reads d.plan) i ≡ Some f = ap (λ (z : Task). slice_get (reads z.plan) i) is ∙ read in
      let source = source_of i f (FromRow (id_of y) c) named here in
      let row : source.0 ≡ y = the_row f c q y there source in
      let holding : source.0.1.done ≡ Some t = ap (λ (z : Entry). z.1.done) row ∙ holds in
      let value : task_value t f ≡ field_of d.plan f (present inputs es k f) = settled_value inputs es f k d.plan source.0 t sound fitted fit (has_get (reads d.plan) i f here) source.1 source.2.1 holding in
      subst (λ (z : Task). slice_get z.inputs i ≡ Some (task_value t f)) is (value_at i f here ∙ ap Some (sym value))

  -- it doesn't name its own result
  own : NamesResult x x
  own i f c t named holds same u done read =
      let is : d ≡ u = same_task u done in
      let here : slice_get (reads d.plan) i ≡ Some f = ap (λ (z : Task). slice_get (reads z.plan) i) is ∙ read in
      let source = source_of i f (FromRow (id_of x) c) named here in
      let found = origin_place es k f source.0 source.1 in
      let one : found.0 ≡ k = one_place es found.0 k source.0 e apart found.2 at (ap (λ (r : RowId). r.0) (sym source.2.0) ∙ id) in
      let less : found.0 < k = found.1 in
      absurd (omega (arith, one, less))

  by_place : (P : Entry → Type 0) → P x → ((p : ℕ) (z : Entry) → slice_get es p ≡ Some z → P z) → (p : ℕ) (z : Entry) → slice_get (set es k x) p ≡ Some z → P z
  by_place P here old p z found = elim (set_entry es k x p z found) [ inl is ↦ subst P (sym is.1) here | inr before ↦ old p z before ]

  pub sourced_settled : IsSourced n inputs (set es k x)
  sourced_settled = record {
    numbers = by_place (IsNumbered n) numbers w.numbers;
    free = λ p q z y here there.
        by_place (λ (v : Entry). LeavesFree v y)
        (by_place (LeavesFree x) (λ i unsettled named. let wrong : true ≡ false = sym settled ∙ unsettled in absurd (cc)) free q y there)
        (λ r v before. by_place (LeavesFree v) (λ i unsettled named. let wrong : true ≡ false = sym settled ∙ unsettled in absurd (cc)) (λ s u old. w.free r s v u before old) q y there)
        p z here;
    named = record {
      given = by_place (NamesInput inputs) names_input w.named.given;
      kept = λ p q z y here there.
          by_place (λ (v : Entry). NamesResult v y)
          (by_place (NamesResult x) own names_row q y there)
          (λ r v before. by_place (NamesResult v) (others r v before) (λ s u old. w.named.kept r s v u before old) q y there)
          p z here;
    };
  }

-- nobody names the result that an unsettled row keeps now
pub others_free : (n : ℕ) (inputs : Inputs) (es : List Entry) (k : ℕ) (e x : Entry) (t : Task) → slice_get es k ≡ Some e → is_settled e.1.status ≡ false → x.0 ≡ e.0 → x.1.done ≡ Some t → t.edition ≡ e.1.edition → IsSourced n inputs es
    → (p : ℕ) (z : Entry) → slice_get es p ≡ Some z → NamesResult z x
others_free n inputs es k e x t at unsettled id keeps edition w p z here i f c u named holds same d done read =
    let is : t ≡ u = ap (λ o. unwrap_or o t) (sym keeps ∙ holds) in
    let number : c ≡ e.1.edition = sym same ∙ ap (λ (y : Task). y.edition) (sym is) ∙ edition in
    absurd (w.free p k z e here at i unsettled (named ∙ ap (λ (j : ℕ). Some (FromRow (record { 0 = j }) c)) id ∙ ap (λ (y : Edition). Some (FromRow (id_of e) y)) number))

-- and who names the one that it kept goes on naming it
pub others_same : (n : ℕ) (inputs : Inputs) (es : List Entry) (k : ℕ) (e x : Entry) → slice_get es k ≡ Some e → x.0 ≡ e.0 → x.1.done ≡ e.1.done → IsSourced n inputs es → (p : ℕ) (z : Entry) → slice_get es p ≡ Some z → NamesResult z x
others_same n inputs es k e x at id done w p z here i f c u named holds same =
    w.named.kept p k z e here at i f c u (named ∙ ap (λ (j : ℕ). Some (FromRow (record { 0 = j }) c)) id) (sym done ∙ holds) same

-- ---- finding them

-- an unknown source is right at each key, and beside none
pub unknown_is : (inputs : Inputs) (es : List Entry) (place : ℕ) (o : Option Key) (s : Source) → s ≡ Unknown → IsSourceOf inputs es place o s
unknown_is inputs es place o s is = subst (IsSourceOf inputs es place o) (sym is) (by_key o)
  where
    by_key : (o : Option Key) → IsSourceOf inputs es place o Unknown
    by_key None = refl
    by_key (Some k) = tt

pub none_are : (inputs : Inputs) (es : List Entry) (place : ℕ) (ks : List Key) (xs : List Source) → xs ≡ no_sources → AreSources inputs es place ks xs
none_are inputs es place ks xs none i s at = unknown_is inputs es place (slice_get ks i) s (none_told i s (ap (λ (l : List Source). slice_get l i) (sym none) ∙ at))

take_has : (ks : List Key) (i j : ℕ) (f : Key) → slice_get (take i ks) j ≡ Some f → slice_get (take (suc i) ks) j ≡ Some f
take_has [] zero j f at = absurd (cc)
take_has [] (suc i) j f at = absurd (cc)
take_has (k ∷ ks) zero j f at = absurd (cc)
take_has (k ∷ ks) (suc i) zero f at = at
take_has (k ∷ ks) (suc i) (suc j) f at = take_has ks i j f at

take_last : (ks : List Key) (i : ℕ) (k : Key) → slice_get ks i ≡ Some k → slice_get (take (suc i) ks) i ≡ Some k
take_last [] i k at = absurd (cc)
take_last (j ∷ ks) zero k at = at
take_last (j ∷ ks) (suc i) k at = take_last ks i k at

-- an item of a list by its number
pub get_at : {A : Type 0} (xs : List A) (i : ℕ) (x : A) → i < length xs → x ≡ get_or xs i x → slice_get xs i ≡ Some x
get_at [] i x within is = absurd (omega arith)
get_at (y ∷ xs) zero x within is = ap Some (sym is)
get_at (y ∷ xs) (suc i) x within is = get_at xs i x (omega arith) is

-- one source more
pub sources_more : (inputs : Inputs) (es : List Entry) (place : ℕ) (ks : List Key) (i : ℕ) (k : Key) (s : Source) (xs ys : List Source) → slice_get ks i ≡ Some k → IsSource inputs es place k s → ys ≡ set xs i s → AreSources inputs es place (take i ks) xs
    → AreSources inputs es place (take (i + 1) ks) ys
sources_more inputs es place ks i k s xs ys at is put all =
    let up : suc i ≡ i + 1 = omega arith in
    subst (λ n. AreSources inputs es place (take n ks) ys) up with_it
  where
    by_key : (j : ℕ) (t : Source) (o : Option Key) → slice_get (take i ks) j ≡ o → IsSourceOf inputs es place o t → IsSourceOf inputs es place (slice_get (take (suc i) ks) j) t
    by_key j t None e is = unknown_is inputs es place (slice_get (take (suc i) ks) j) t is
    by_key j t (Some f) e is = subst (λ (o : Option Key). IsSourceOf inputs es place o t) (sym (take_has ks i j f e)) is

    with_it : AreSources inputs es place (take (suc i) ks) ys
    with_it j t here = elim (set_entry xs i s j t (ap (λ (l : List Source). slice_get l j) (sym put) ∙ here)) [
      | inl e ↦ subst (λ (o : Option Key). IsSourceOf inputs es place o t) (sym (ap (slice_get (take (suc i) ks)) e.0 ∙ take_last ks i k at)) (subst (IsSource inputs es place k) (sym e.1) is)
      | inr old ↦ by_key j t (slice_get (take i ks) j) refl (all j t old)
    ]

-- what tells the result of an origin is the source of the key
pub row_source : (inputs : Inputs) (es : List Entry) (place : ℕ) (k : Key) (e : Entry) → origin_among es place k ≡ Some e → (s : Source) → TellsResult e s → IsSource inputs es place k s
row_source inputs es place k e from Unknown tells = tells
row_source inputs es place k e from (FromInput n) tells = absurd tells
row_source inputs es place k e from (FromRow j c) tells = (e, from, tells)

-- ---- what they tell

-- where no source is known, nothing is told
pub nothing_known : (inputs : Inputs) (es : List Entry) (place : ℕ) (p : Plan) (values : List FieldNumbers) (xs : List Source) → xs ≡ no_sources → KnownArePresent inputs es place p values xs
nothing_known inputs es place p values xs none i k s known is read =
    let unknown : s ≡ Unknown = none_told i s (ap (λ (l : List Source). slice_get l i) (sym none) ∙ known.0) in
    let wrong : false ≡ true = ap is_known (sym unknown) ∙ known.1 in
    absurd (cc)

-- where the sources that a row keeps are the present ones, so are the values that its result was computed by
module _ (inputs : Inputs) (es : List Entry) (place : ℕ) (e : Entry) (d : Task) (p : Plan)
    (at : slice_get es place ≡ Some e) (keeps : e.1.done ≡ Some d) (plan : d.plan ≡ p)
    (sound : Sound (start_world inputs) (λ _. true) es) (fitted : AllFitted inputs es) (fit : Fitted inputs p) (named : AreNamed inputs es) where
  value_of : (i : ℕ) (k : Key) (s : Source) → slice_get (reads p) i ≡ Some k → slice_get e.1.sources i ≡ Some s → is_known s ≡ true → IsSource inputs es place k s → slice_get d.inputs i ≡ Some (field_of p k (present inputs es place k))
  value_of i k Unknown read kept known is = absurd (let wrong : false ≡ true = known in cc)
  value_of i k (FromInput n) read kept known is = by_there (input_of inputs k) refl
    where
      by_there : (o : Option Input) → input_of inputs k ≡ o → slice_get d.inputs i ≡ Some (field_of p k (present inputs es place k))
      by_there None none =
          let nothing : Option (ℕ × ℕ) = None in
          let wrong : nothing ≡ Some (key_width p k, processor_count p.axes) = ap input_shape (sym none) ∙ fit k (ap (λ b. b || has_key (writes p) k) (has_get (reads p) i k read)) in
          absurd (cc)
      by_there (Some v) has =
          named.given place e at i n k v kept has (ap number_in (sym has) ∙ is.1) d keeps (ap (λ q. slice_get (reads q) i) plan ∙ read)
          ∙ ap Some (start_value inputs es k place p v sound fit (has_get (reads p) i k read) is.0 has)
  value_of i k (FromRow j c) read kept known is =
      let there = origin_place es place k is.0 is.1 in
      named.kept place there.0 e is.0 at there.2 i k c is.2.2.0 (kept ∙ ap (λ (r : RowId). Some (FromRow r c)) is.2.0) is.2.2.1 is.2.2.2 d keeps (ap (λ q. slice_get (reads q) i) plan ∙ read)
      ∙ ap Some (settled_value inputs es k place p is.0 is.2.2.0 sound fitted fit (has_get (reads p) i k read) is.1 is.2.1 is.2.2.1)

  pub known_present : KnownArePresent inputs es place p d.inputs e.1.sources
  known_present i k s known is read =
      value_of i k s read known.0 known.1 is ∙ ap (λ (w : World). Some (field_of p k (w k))) (sym (now_is (empty_board One) 0 1 inputs es place))

pub of_plan_some : (p : Plan) (o : Option Task) (d : Task) → Some d ≡ of_plan p o → o ≡ Some d
of_plan_some p None d is = absurd (cc)
of_plan_some p (Some t) d is = by_test (plan_eq p t.plan) is
  where
    by_test : (b : Bool) → Some d ≡ cond b (Some t) None → Some t ≡ Some d
    by_test true h = sym h
    by_test false h = absurd (cc)

-- ---- a comparison that passes a value over

pub field_eq_self : (x : FieldNumbers) → field_eq x x ≡ true
field_eq_self x = rw (eq-eqb x.width x.width refl, (bytes_eq-Decides x.numbers x.numbers).1 refl) refl

over_one : (test : Key → Bool) (f : Key → FieldNumbers) (ks : List Key) (xs : List FieldNumbers) (i : ℕ) (k : Key) (x : FieldNumbers) → slice_get ks i ≡ Some k → slice_get xs i ≡ Some x → test k ≡ true → field_eq (f k) x ≡ true
    → (list_all test (drop i ks) && pointwise field_eq (map f (drop i ks)) (drop i xs)) ≡ (list_all test (drop (suc i) ks) && pointwise field_eq (map f (drop (suc i) ks)) (drop (suc i) xs))
over_one test f [] xs i k x at there firm same = absurd (cc)
over_one test f (j ∷ ks) [] i k x at there firm same = absurd (cc)
over_one test f (j ∷ ks) (y ∷ xs) zero k x at there firm same =
    let here : k ≡ j = cc in
    let value : x ≡ y = cc in
    let passes : test j ≡ true = ap test (sym here) ∙ firm in
    let equal : field_eq (f j) y ≡ true = ap₂ (λ l z. field_eq (f l) z) (sym here) (sym value) ∙ same in
    ap₂ (λ b c. (b && list_all test ks) && (c && pointwise field_eq (map f ks) xs)) passes equal
over_one test f (j ∷ ks) (y ∷ xs) (suc i) k x at there firm same = over_one test f ks xs i k x at there firm same

-- what is left to compare has the same answer without a key whose origin is the start or settled and whose value is the present one
pub passed_over : (test : Key → Bool) (f : Key → FieldNumbers) (ks : List Key) (xs : List FieldNumbers) (i : ℕ) (k : Key) (x : FieldNumbers) → slice_get ks i ≡ Some k → slice_get xs i ≡ Some x → test k ≡ true → field_eq (f k) x ≡ true
    → (list_all test (drop i ks) && pointwise field_eq (map f (drop i ks)) (drop i xs)) ≡ (list_all test (drop (i + 1) ks) && pointwise field_eq (map f (drop (i + 1) ks)) (drop (i + 1) xs))
passed_over test f ks xs i k x at there firm same =
    let up : suc i ≡ i + 1 = omega arith in
    over_one test f ks xs i k x at there firm same ∙ ap (λ n. list_all test (drop n ks) && pointwise field_eq (map f (drop n ks)) (drop n xs)) up
