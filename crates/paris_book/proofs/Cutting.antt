-- A pass over the rows of a book: which row is cut off, by the entries, and what is left once none is.
use Rattle.std.proofs.Common.{◌≡◌, ℕ, ◌+◌, ◌<◌, ◌≤◌, ◌⊎◌, inl, inr, List, [], ◌∷◌, Bool, true, false, cond, Option, Some, None, refl, sym, ap, ◌∙◌, subst, arith, length, take, zero, suc, set, slice_get}
use Rattle.std.proofs.lemmas.List.{map-set, length-set}
use Rattle.std.specs.Prelude.{◌&&◌, not}
use Rattle.paris_board.specs.Board.{Board}
use Rattle.paris_model.specs.Frame.{World}
use Rattle.paris_edits.specs.Rows.{is_settled}
use Rattle.paris_edits.specs.declared.rows.Status.TheVariants.{Settled}
use Rattle.paris_events.specs.State.{Row, Inputs, State, start_world, with_status}
use Rattle.paris_events.specs.CutOff.{is_cut, is_last_present, cut_found, cut_at, cut_to, cut_off}
use Rattle.paris_events.specs.Settling.{settled_row}
use Rattle.paris_events.proofs.Passes.{is_cut_in, from_start, world_at}
use Rattle.paris_events.proofs.Passing.{firm_behind, is_cut_behind, test_is, cut_off_is}
use Rattle.paris_events.proofs.Anywhere.{cut_early}
use Rattle.paris_events.proofs.Ends.{world_is}
use Rattle.paris_book.specs.Statuses.{next_unsettled}
use Rattle.paris_book.specs.Marks.{again_data}
use Rattle.paris_book.specs.declared.sources.Source.{Source}
use Rattle.paris_book.specs.Entries.{Entry, machine_row, with_data, seen}
use Rattle.paris_book.specs.Steps.{cuts_on, cuts_at}
use Rattle.paris_book.proofs.Finds.{entry_at, row_at}
use Rattle.paris_book.proofs.Firmer.{set_cases}
use Rattle.paris_book.proofs.InOrder.{get_set}
use Rattle.paris_book.proofs.Inserts.{state_of}
use Rattle.paris_book.proofs.Searches.{passed_over, none_beyond}

-- ---- the row at a place

module _ (b : Board) (n m : ℕ) (inputs : Inputs) (es : List Entry) (s : State) (place : ℕ) (e : Entry) (y : state_of b n m inputs es ≡ s) (at : slice_get es place ≡ Some e) where
  -- the row at the place, and whether it is cut off
  pub row_cut : (slice_get s.rows place ≡ Some (machine_row e)) × (is_cut s place (machine_row e) ≡ is_cut (seen inputs es) place (machine_row e))
  row_cut = subst (λ (z : State). (slice_get z.rows place ≡ Some (machine_row e)) × (is_cut z place (machine_row e) ≡ is_cut (seen inputs es) place (machine_row e))) y (row_at es place e at, refl)

  pub cut_state : (sources : List Source) → is_cut (seen inputs es) place (machine_row e) ≡ true → state_of b n m inputs (set es place (with_data (again_data sources) e)) ≡ cut_at s place
  cut_state sources h =
      ap (λ (rs : List Row). record { board = b; edits = n; inputs = inputs; next = m; rows = rs }) (map-set machine_row es place (with_data (again_data sources) e))
      ∙ ap (λ (z : State). with_status z (place, machine_row e) Settled) y
      ∙ ap (λ c. cond c (with_status s (place, machine_row e) Settled) s) (sym (row_cut.1 ∙ h))
      ∙ ap (cut_found s place) (sym row_cut.0)

  pub uncut_state : is_cut (seen inputs es) place (machine_row e) ≡ false → s ≡ cut_at s place
  uncut_state h = ap (λ c. cond c (with_status s (place, machine_row e) Settled) s) (sym (row_cut.1 ∙ h)) ∙ ap (cut_found s place) (sym row_cut.0)

-- the entry at a place, and whether it is cut off
pub cut_here : (b : Board) (n m : ℕ) (inputs : Inputs) (es : List Entry) (s : State) (place : ℕ) → state_of b n m inputs es ≡ s → place < length es → (e : Entry) × (slice_get es place ≡ Some e) × (is_cut (seen inputs es) place (machine_row e) ≡ cuts_at s place)
cut_here b n m inputs es s place y within =
    let e = entry_at es place within in
    let row = row_cut b n m inputs es s place e.0 y e.1 in
    (e.0, e.1, sym row.1 ∙ ap (cuts_on s place) (sym row.0))

-- ---- a pass that has come to a place

-- no row before the place can be cut off, and the pass over what is left gives what the pass gives
pub record Passed (first : State) (place : ℕ) (s : State) : Type 0 where
  pub as_many : length s.rows ≡ length first.rows
  pub whole : cut_off s ≡ cut_off first
  pub rests : (i : ℕ) (r : Row) → i < place → slice_get s.rows i ≡ Some r → is_cut s i r ≡ false

pub none_passed : (s : State) (start : ℕ) → ((i : ℕ) (r : Row) → i < start → slice_get s.rows i ≡ Some r → is_cut s i r ≡ false) → Passed s start s
none_passed s start rests = record { as_many = refl; whole = refl; rests = rests }

pub settled_uncut : (s : State) (i : ℕ) (r : Row) → is_settled r.status ≡ true → is_cut s i r ≡ false
settled_uncut s i r t = ap (λ b. not b && is_last_present s i r r.last) t

-- of rows in front of a place, and of that one, nothing is cut off where nothing is changed but at the place or behind it
pub front_same : (s : State) (i k : ℕ) (x r : Row) → i ≤ k → is_cut (record s { rows = set s.rows k x }) i r ≡ is_cut s i r
front_same s i k x r less = test_is (record s { rows = set s.rows k x }) i r ∙ ap (λ (rs : List Row). front_test rs) (take_before s.rows i k x less) ∙ sym (test_is s i r)
  where
    front_test : List Row → Bool
    front_test rs = is_cut_behind (start_world s.inputs) rs r

    take_before : (rs : List Row) (i k : ℕ) (x : Row) → i ≤ k → take i (set rs k x) ≡ take i rs
    take_before [] i k x l = refl
    take_before (y ∷ rs) zero k x l = refl
    take_before (y ∷ rs) (suc i) zero x l = absurd (omega (arith, l))
    take_before (y ∷ rs) (suc i) (suc k) x l = ap (λ ys. y ∷ ys) (take_before rs i k x (omega (arith, l)))

before_or_here : (i k : ℕ) → i < k + 1 → (i < k) ⊎ (i ≡ k)
before_or_here zero zero l = inr refl
before_or_here zero (suc k) l = inl (omega arith)
before_or_here (suc i) zero l = absurd (omega (arith, l))
before_or_here (suc i) (suc k) l = elim (before_or_here i k (omega (arith, l))) [ inl h ↦ inl (omega (arith, h)) | inr h ↦ inr (ap suc h) ]

module _ (first s : State) (from : ℕ) (p : Passed first from s) where
  -- the settled rows up to the next unsettled one
  pub passed_to : (place : ℕ) → next_unsettled s.rows from ≡ Some place → Passed first place s
  passed_to place found = record {
    as_many = p.as_many;
    whole = p.whole;
    rests = λ i r less at. elim (before_or_beyond i from) [
      | inl h ↦ p.rests i r h at
      | inr h ↦ settled_uncut s i r (passed_over s.rows from place found i r h less at)
    ];
  }
    where
      before_or_beyond : (i k : ℕ) → (i < k) ⊎ (k ≤ i)
      before_or_beyond i zero = inr (omega arith)
      before_or_beyond zero (suc k) = inl (omega arith)
      before_or_beyond (suc i) (suc k) = elim (before_or_beyond i k) [ inl h ↦ inl (omega (arith, h)) | inr h ↦ inr (omega (arith, h)) ]

  -- once there is none, the pass has come to its end
  pub passed_all : next_unsettled s.rows from ≡ None → s ≡ cut_off first
  passed_all none = sym (all_rests (length s.rows)) ∙ p.whole
    where
      before_or_beyond : (i k : ℕ) → (i < k) ⊎ (k ≤ i)
      before_or_beyond i zero = inr (omega arith)
      before_or_beyond zero (suc k) = inl (omega arith)
      before_or_beyond (suc i) (suc k) = elim (before_or_beyond i k) [ inl h ↦ inl (omega (arith, h)) | inr h ↦ inr (omega (arith, h)) ]

      here : (n : ℕ) (o : Option Row) → slice_get s.rows n ≡ o → cut_found s n o ≡ s
      here n None at = refl
      here n (Some r) at = ap (λ b. cond b (with_status s (n, r) Settled) s) (elim (before_or_beyond n from) [
        | inl h ↦ p.rests n r h at
        | inr h ↦ settled_uncut s n r (none_beyond s.rows from none n r h at)
      ])

      all_rests : (n : ℕ) → cut_to n s ≡ s
      all_rests zero = refl
      all_rests (suc n) = ap (λ (z : State). cut_at z n) (all_rests n) ∙ here n (slice_get s.rows n) refl

  -- one row more was looked at
  pub passed_one : (r : Row) (t : State) → slice_get s.rows from ≡ Some r → t ≡ cut_at s from → Passed first (from + 1) t
  passed_one r t at is = subst (Passed first (from + 1)) (sym (is ∙ ap (cut_found s from) at)) (by_test (is_cut s from r) refl)
    where
      next : Row
      next = settled_row r

      by_test : (c : Bool) → is_cut s from r ≡ c → Passed first (from + 1) (cond c (with_status s (from, r) Settled) s)
      by_test false t = record {
        as_many = p.as_many;
        whole = p.whole;
        rests = λ i q less here. elim (before_or_here i from less) [
          | inl h ↦ p.rests i q h here
          | inr h ↦
              let there : slice_get s.rows from ≡ Some q = ap (slice_get s.rows) (sym h) ∙ here in
              let same : r ≡ q = cc in
              subst (λ (j : ℕ). is_cut s j q ≡ false) (sym h) (subst (λ (z : Row). is_cut s from z ≡ false) same t)
        ];
      }
      by_test true t =
          let w : World = start_world s.inputs in
          let test : is_cut_in (world_at w s.rows from) (firm_behind from_start (take from s.rows)) r ≡ true = ap (λ (v : World). is_cut_in v (firm_behind from_start (take from s.rows)) r) (world_is w s.rows from r at) ∙ sym (test_is s from r) ∙ t in
          record {
            as_many = length-set s.rows from next ∙ p.as_many;
            whole = cut_off_is (record s { rows = set s.rows from next }) ∙ ap (λ (rs : List Row). record s { rows = rs }) (cut_early w from_start s.rows from r at test) ∙ sym (cut_off_is s) ∙ p.whole;
            rests = λ i q less here. elim (set_cases s.rows from next i q here) [
              | inl e ↦ settled_uncut (record s { rows = set s.rows from next }) i q (ap (λ (z : Row). is_settled z.status) e.1)
              | inr old ↦ elim (before_or_here i from less) [
                | inl h ↦ front_same s i from next q (omega (arith, h)) ∙ p.rests i q h old
                | inr h ↦
                    let there : slice_get s.rows from ≡ Some q = ap (slice_get s.rows) (sym h) ∙ old in
                    let kept : slice_get (set s.rows from next) from ≡ Some next = get_set s.rows from r next at in
                    let seen : slice_get (set s.rows from next) from ≡ Some q = ap (slice_get (set s.rows from next)) (sym h) ∙ here in
                    let same : next ≡ q = cc in
                    settled_uncut (record s { rows = set s.rows from next }) i q (ap (λ (z : Row). is_settled z.status) (sym same))
              ]
            ];
          }
