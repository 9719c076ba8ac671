-- Unsettled rows may be changed, whatever a call does with the rows.
use Rattle.std.proofs.Common.{◌≡◌, ◌<◌, ◌≤◌, inl, inr, ℕ, zero, suc, List, [], ◌∷◌, ◌++◌, length, Bool, true, false, Option, Some, None, nat_eq, refl, sym, ap, ◌∙◌, subst, arith, slice_get, slice_set, get_or}
use Rattle.std.specs.Prelude.{not, ◌||◌, IsSome}
use Rattle.std.specs.List.{list_any}
use Rattle.std.proofs.lemmas.Bool.Decides.{nat_tests}
use Rattle.std.proofs.lemmas.List.Folds.{list_any-append}
use Rattle.std.proofs.lemmas.Option.{slice_get-map, slice_get_within}
use Rattle.std.specs.Option.{option_map, unwrap_or}
use Rattle.paris_names.specs.declared.ids.RowId.{RowId}
use Rattle.paris_edits.specs.Rows.{is_settled}
use Rattle.paris_edits.specs.declared.rows.Status.{Status}
use Rattle.paris_edits.specs.declared.rows.Status.TheVariants.{Waiting, Out, Settled}
use Rattle.paris_program.specs.Program.{Program, AreOwn, IsOwn, IsOwnRow, KeepsOwn, NoneWithin, place_of, place_in, id_at, with_row}
use Rattle.paris_program.proofs.CallerLemmas.{row_there}
use Rattle.paris_program.proofs.Owning.{own_found}
use Rattle.paris_depends.specs.Index.{Footprint}
use Rattle.paris_events.specs.State.{Row, State}
use Rattle.paris_events.specs.Orders.{recalled_status}
use Rattle.paris_book.specs.Entries.{Entry, with_data}
use Rattle.paris_book.specs.Indexed.{IsHeld, IsIndexed, IsUnsettledAt, is_unsettled_entry}
use Rattle.paris_book.specs.Marks.{ids_in, is_among, recalled_data}
use Rattle.paris_book.specs.Rows.{RowData}
use Rattle.paris_book.specs.Statuses.{is_unsettled, status_in}
use Rattle.paris_book.specs.Steps.{settled_on, left_on, left_at}
use Rattle.paris_book.proofs.Indexing.{as_many}

-- ---- a row that is written where it may be changed

module _ {A : Type 0} (test : A → Bool) where
  pub set_own : (xs : List A) (own : List Bool) (place : ℕ) (v : A) → slice_get own place ≡ Some true → ((i : ℕ) (y : A) → slice_get xs i ≡ Some y → test y ≡ true → slice_get own i ≡ Some true)
      → (i : ℕ) (y : A) → slice_get (slice_set xs place v) i ≡ Some y → test y ≡ true → slice_get own i ≡ Some true
  set_own [] own place v here all i y at ok = all i y at ok
  set_own (z ∷ xs) own zero v here all zero y at ok = here
  set_own (z ∷ xs) own zero v here all (suc i) y at ok = all (suc i) y at ok
  set_own (z ∷ xs) [] (suc place) v here all i y at ok = absurd (cc)
  set_own (z ∷ xs) (o ∷ own) (suc place) v here all zero y at ok = all zero y at ok
  set_own (z ∷ xs) (o ∷ own) (suc place) v here all (suc i) y at ok = set_own xs own place v here (λ j w there right. all (suc j) w there right) i y at ok

module _ (p : Program RowData) (index : List (ℕ × Footprint)) (statuses : List Status) (held : IsHeld p index statuses) where
  -- where an unsettled row stands
  pub unsettled_own : (place : ℕ) → IsUnsettledAt p.rows place → IsOwn p place
  unsettled_own place u = held.own place u.row u.there u.unsettled

  pub unsettled_within : (place : ℕ) → IsUnsettledAt p.rows place → place < length statuses
  unsettled_within place u =
      let within = slice_get_within p.rows place u.row u.there in
      let long = as_many p.rows index statuses held.listed in
      omega (arith, within, long)

  -- rows that stay, of which more may be changed
  pub held_still : (q : Program RowData) (other : List (ℕ × Footprint)) → q.rows ≡ p.rows → KeepsOwn p q → other ≡ index → IsHeld q other statuses
  held_still q other rows own same = record {
    listed = subst (λ (l : List Entry). IsIndexed l other statuses) (sym rows) (subst (λ (l : List (ℕ × Footprint)). IsIndexed p.rows l statuses) (sym same) held.listed);
    own = own is_unsettled_entry held.own;
  }

  -- no unsettled row is settled
  pub none_outside : (start end : ℕ) → ((i : ℕ) (s : Status) → slice_get statuses i ≡ Some s → is_unsettled s ≡ true → (start ≤ i) × (i < end)) → (j : ℕ) → NoneWithin 0 start p.rows is_unsettled_entry × NoneWithin end j p.rows is_unsettled_entry
  none_outside start end held_in j =
      let at : (i : ℕ) (e : Entry) → slice_get p.rows i ≡ Some e → is_unsettled_entry e ≡ true → (start ≤ i) × (i < end) =
      λ i e there ok. held_in i e.1.status (ap (λ (l : List Status). slice_get l i) (sym held.listed.standing) ∙ slice_get-map status_in p.rows i ∙ ap (option_map status_in) there) ok in
      ((λ i e there ok. inr (at i e there ok).0), (λ i e there ok. inl (at i e there ok).1))

-- ---- rows of these ids

same_self : (n : ℕ) → nat_eq n n ≡ true
same_self n = grind (arith, nat_tests)

same_both : (m n : ℕ) → nat_eq m n ≡ nat_eq n m
same_both m n = grind (arith, nat_tests)

or_right : (a b : Bool) → b ≡ true → (a || b) ≡ true
or_right true b t = refl
or_right false b t = t

-- an id that stands among others
pub among_at : (ids : List RowId) (i : ℕ) (d : RowId) → i < length ids → list_any (nat_eq (get_or ids i d).0) (ids_in ids) ≡ true
among_at [] i d within = absurd (omega arith)
among_at (x ∷ ids) zero d within = ap (λ b. b || list_any (nat_eq x.0) (ids_in ids)) (same_self x.0)
among_at (x ∷ ids) (suc i) d within = or_right (nat_eq (get_or ids i d).0 x.0) (list_any (nat_eq (get_or ids i d).0) (ids_in ids)) (among_at ids i d (omega arith))

-- no id
pub none_among : (p : Program RowData) → AreOwn p (is_among [])
none_among p i e there ok = absurd (let x : false ≡ true = ok in cc)

-- and one more
pub more_among : (p : Program RowData) (ids : List ℕ) (id : ℕ) → AreOwn p (is_among ids) → IsOwnRow p id → AreOwn p (is_among (ids ++ id ∷ []))
more_among p ids id own one i e there ok = by_test (list_any (nat_eq e.0) ids) refl (nat_eq e.0 id) refl (sym (list_any-append (nat_eq e.0) ids (id ∷ [])) ∙ ok)
  where
    by_test : (a : Bool) → list_any (nat_eq e.0) ids ≡ a → (b : Bool) → nat_eq e.0 id ≡ b → (a || (b || false)) ≡ true → IsOwn p i
    by_test true x b y t = own i e there x
    by_test false x true y t = one i e there (same_both id e.0 ∙ y)
    by_test false x false y t = absurd (let z : false ≡ true = t in cc)

-- the place of one of them
pub placed_own : (p : Program RowData) (ids : List RowId) (i : ℕ) (d : RowId) (place : ℕ) → i < length ids → AreOwn p (is_among (ids_in ids)) → place_of p.rows (get_or ids i d).0 ≡ Some place → IsOwn p place
placed_own p ids i d place within own found =
    let there = row_there p.rows (get_or ids i d).0 place found in
    own place ((get_or ids i d).0, there.0) there.1 (among_at ids i d within)

-- ---- data that is put into the row with an id

found : (rows : List Entry) (id : ℕ) → IsSome (place_of rows id) → place_of rows id ≡ Some (place_in rows id)
found rows id there = by_place (place_of rows id) there
  where
    by_place : (o : Option ℕ) → IsSome o → o ≡ Some (unwrap_or o 0)
    by_place None there = absurd (let z : false ≡ true = there in cc)
    by_place (Some k) there = refl

module _ (p q r : Program RowData) (id : ℕ) (row : RowData) (rows : q.rows ≡ p.rows) (is : r ≡ record q { rows = with_row q.rows (place_in q.rows id) row }) where
  pub replaced_rows : (place : ℕ) → place_of p.rows id ≡ Some place → r.rows ≡ with_row p.rows place row
  replaced_rows place at =
      ap (λ (x : Program RowData). x.rows) is
      ∙ ap (λ (l : List Entry). with_row l (place_in l id) row) rows
      ∙ ap (λ o. with_row p.rows (unwrap_or o 0) row) at

  -- what could be changed still can
  pub replaced_own : KeepsOwn p q → IsOwnRow q id → IsSome (place_of p.rows id) → KeepsOwn p r
  replaced_own keeps own there = λ test all.
      let place = place_in q.rows id in
      let here : IsOwn q place = own_found q id place own (found q.rows id (subst (λ (l : List Entry). IsSome (place_of l id)) (sym rows) there)) in
      subst (λ (s : Program RowData). AreOwn s test) (sym is) (set_own test q.rows q.own place (id_at q.rows place, row) here (keeps test all))

-- ---- what is known of a row

-- a settled row is recalled to what it was
pub recalled_settled : (rows : List Entry) (place : ℕ) (row : Entry) → slice_get rows place ≡ Some row → is_settled row.1.status ≡ true → (e : Entry) → slice_get rows place ≡ Some e → rows ≡ slice_set rows place (with_data recalled_data e)
recalled_settled [] place row at settled e there = absurd (cc)
recalled_settled (x ∷ rows) zero row at settled e there =
    let first : x ≡ row = cc in
    let same : x ≡ e = cc in
    ap (λ (y : Entry). y ∷ rows) (sym (stays x (ap (λ (y : Entry). is_settled y.1.status) first ∙ settled)) ∙ ap (with_data recalled_data) same)
  where
    by_status : (s : Status) → is_settled s ≡ true → recalled_status s ≡ s
    by_status Waiting h = refl
    by_status Out h = absurd (let z : false ≡ true = h in cc)
    by_status Settled h = refl

    stays : (x : Entry) → is_settled x.1.status ≡ true → with_data recalled_data x ≡ x
    stays x h = ap (λ s. (x.0, record x.1 { status = s })) (by_status x.1.status h)
recalled_settled (x ∷ rows) (suc place) row at settled e there = ap (λ (l : List Entry). x ∷ l) (recalled_settled rows place row at settled e there)

-- a row that is left is unsettled
pub left_unsettled : (s : State) (place : ℕ) → left_at s place ≡ true → settled_on (slice_get s.rows place) ≡ false
left_unsettled s place h = by_row (slice_get s.rows place) h
  where
    by_test : (a b : Bool) → not (a || b) ≡ true → a ≡ false
    by_test true b t = absurd (let z : false ≡ true = t in cc)
    by_test false b t = refl

    by_row : (o : Option Row) → left_on s place o ≡ true → settled_on o ≡ false
    by_row None t = refl
    by_row (Some r) t = by_test (is_settled r.status) _ t
