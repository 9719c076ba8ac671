-- Rows are recalled one after another.
use Rattle.std.proofs.Common.{◌≡◌, ℕ, ◌+◌, List, [], ◌∷◌, Bool, true, false, Some, None, refl, sym, ap, ◌∙◌, map, length, take, zero, suc, set, add-one, slice_get}
use Rattle.std.proofs.Math.Path.{ap₂}
use Rattle.std.proofs.lemmas.List.{length-map}
use Rattle.std.specs.List.{list_all}
use Rattle.paris_edits.specs.declared.rows.Status.{Status}
use Rattle.paris_edits.specs.declared.rows.Status.TheVariants.{Waiting, Out, Settled}
use Rattle.paris_events.specs.State.{Row}
use Rattle.paris_events.specs.Orders.{recalled_status}
use Rattle.paris_book.specs.Entries.{Entry, machine_row, with_data, ChangedAt}
use Rattle.paris_book.specs.Marks.{recalled_data}
use Rattle.paris_book.specs.Statuses.{is_unsettled, next_unsettled}
use Rattle.paris_book.proofs.Searches.{search_found, search_none}
use Rattle.paris_events.proofs.Tests.{and_first, and_second}

abbrev is_calm : Status → Bool
is_calm Waiting = true
is_calm Out = false
is_calm Settled = true

-- of these rows no order is out
abbrev are_calm : List Row → Bool
are_calm rs = list_all (λ (r : Row). is_calm r.status) rs

-- the rows before a place are recalled, and the others are as they were
pub record Recalled (first : List Entry) (from : ℕ) (rows : List Entry) : Type 0 where
  pub same : map (with_data recalled_data) rows ≡ map (with_data recalled_data) first
  pub calm : are_calm (take from (map machine_row rows)) ≡ true

pub none_recalled : (rows : List Entry) → Recalled rows 0 rows
none_recalled rows = record { same = refl; calm = refl }

pub as_long : (first : List Entry) (from : ℕ) (rows : List Entry) → Recalled first from rows → length rows ≡ length first
as_long first from rows so_far = sym (length-map rows (with_data recalled_data)) ∙ ap length so_far.same ∙ length-map first (with_data recalled_data)

others_calm : (r : Row) → is_unsettled r.status ≡ false → is_calm r.status ≡ true
others_calm r h = by_status r.status h
  where
    by_status : (s : Status) → is_unsettled s ≡ false → is_calm s ≡ true
    by_status Waiting h = refl
    by_status Out h = absurd (let x : true ≡ false = h in cc)
    by_status Settled h = refl

recalled_calm : (s : Status) → is_calm (recalled_status s) ≡ true
recalled_calm Waiting = refl
recalled_calm Out = refl
recalled_calm Settled = refl

recalled_twice : (s : Status) → recalled_status (recalled_status s) ≡ recalled_status s
recalled_twice Waiting = refl
recalled_twice Out = refl
recalled_twice Settled = refl

calm_stays : (s : Status) → is_calm s ≡ true → recalled_status s ≡ s
calm_stays Waiting h = refl
calm_stays Out h = absurd (let x : false ≡ true = h in cc)
calm_stays Settled h = refl

still_same : (rows : List Entry) (k : ℕ) (e : Entry) → slice_get rows k ≡ Some e → map (with_data recalled_data) (set rows k (with_data recalled_data e)) ≡ map (with_data recalled_data) rows
still_same [] k e at = refl
still_same (y ∷ rows) zero e at =
    let same : y ≡ e = cc in
    ap (λ s. (e.0, record e.1 { status = s }) ∷ map (with_data recalled_data) rows) (recalled_twice e.1.status)
    ∙ ap (λ (z : Entry). with_data recalled_data z ∷ map (with_data recalled_data) rows) (sym same)
still_same (y ∷ rows) (suc k) e at = ap (λ l. with_data recalled_data y ∷ l) (still_same rows k e at)

calm_more : (rows : List Entry) (k : ℕ) (e : Entry) → slice_get rows k ≡ Some e → are_calm (take k (map machine_row rows)) ≡ true → are_calm (take (suc k) (map machine_row (set rows k (with_data recalled_data e)))) ≡ true
calm_more [] k e at before = refl
calm_more (y ∷ rows) zero e at before = rw (recalled_calm e.1.status) refl
calm_more (y ∷ rows) (suc k) e at before =
    rw (and_first (is_calm y.1.status) (are_calm (take k (map machine_row rows))) before) (calm_more rows k e at (and_second (is_calm y.1.status) (are_calm (take k (map machine_row rows))) before))

calm_all : (rows : List Entry) → are_calm (map machine_row rows) ≡ true → map (with_data recalled_data) rows ≡ rows
calm_all [] calm = refl
calm_all (e ∷ rows) calm =
    let stays = calm_stays e.1.status (and_first (is_calm e.1.status) (are_calm (map machine_row rows)) calm) in
    ap₂ (λ s l. (e.0, record e.1 { status = s }) ∷ l) stays (calm_all rows (and_second (is_calm e.1.status) (are_calm (map machine_row rows)) calm))

module _ (first : List Entry) (from : ℕ) (rows : List Entry) (so_far : Recalled first from rows) where
  -- the next unsettled row is recalled
  pub recalled_more : (k : ℕ) (e : Entry) (new : List Entry) → next_unsettled (map machine_row rows) from ≡ Some k → slice_get rows k ≡ Some e → ChangedAt recalled_data rows k new → Recalled first (k + 1) new
  recalled_more k e new found at changed =
      let f = search_found (λ (r : Row). is_unsettled r.status) (λ (r : Row). is_calm r.status) others_calm (map machine_row rows) from k found so_far.calm in
      let is = changed e at in record {
        same = ap (map (with_data recalled_data)) is ∙ still_same rows k e at ∙ so_far.same;
        calm = ap (λ (l : List Entry). are_calm (take (k + 1) (map machine_row l))) is
            ∙ ap (λ j. are_calm (take j (map machine_row (set rows k (with_data recalled_data e))))) (add-one k)
            ∙ calm_more rows k e at f.3;
      }

  -- no further one is left
  pub recalled_all : next_unsettled (map machine_row rows) from ≡ None → rows ≡ map (with_data recalled_data) first
  recalled_all none =
      sym (calm_all rows (search_none (λ (r : Row). is_unsettled r.status) (λ (r : Row). is_calm r.status) others_calm (map machine_row rows) from none so_far.calm))
      ∙ so_far.same
