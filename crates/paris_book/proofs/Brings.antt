-- The verdict of a book is the machine's.
use Rattle.std.proofs.Common.{◌≡◌, ℕ, List, true, false, Option, Some, None, refl, sym, ap, ◌∙◌, map, set, slice_get}
use Rattle.std.proofs.Math.Path.{ap₂}
use Rattle.std.proofs.lemmas.List.{map-set}
use Rattle.paris_board.specs.Board.{Board}
use Rattle.paris_exec.specs.Tasks.{Task}
use Rattle.paris_events.specs.State.{Row, Inputs, State, find_id, find_row, Work, work_of}
use Rattle.paris_events.specs.CutOff.{cut_off, IsAtRest}
use Rattle.paris_events.specs.Results.{verdict_at, verdict_on, verdict_of, brought_on, after_bring}
use Rattle.paris_book.specs.Steps.{WasSettled, kept_on, after_keep}
use Rattle.paris_program.specs.Program.{place_of}
use Rattle.paris_book.specs.Marks.{kept_data}
use Rattle.paris_book.specs.declared.sources.Source.{Source}
use Rattle.paris_book.specs.Entries.{Entry, machine_row, with_data, seen}
use Rattle.paris_book.proofs.Entering.{find_is}
use Rattle.paris_edits.specs.declared.verdicts.Verdict.{Verdict}
use Rattle.paris_edits.specs.declared.verdicts.Verdict.TheVariants.{Gone, Stale, Repeated, Foreign, Kept}
use Rattle.paris_edits.specs.Verdicts.{is_kept}
use Rattle.paris_book.proofs.Finds.{found_some, row_at}
use Rattle.paris_events.proofs.Finds.{none_of}
use Rattle.paris_book.proofs.Inserts.{state_of}

-- the machine's answer, by the entries
pub answer_found : (b : Board) (n m : ℕ) (inputs : Inputs) (es : List Entry) (s : State) (k : ℕ) (e : Entry) (t : Task) → state_of b n m inputs es ≡ s → find_id t.id.0 (map machine_row es) ≡ Some (k, machine_row e) → verdict_of s t ≡ verdict_at (seen inputs es) (k, machine_row e) t
answer_found b n m inputs es s k e t y x =
    ap (λ (z : State). verdict_of z t) (sym y)
    ∙ ap (λ o. verdict_on (state_of b n m inputs es) o t) x

pub answer_none : (b : Board) (n m : ℕ) (inputs : Inputs) (es : List Entry) (s : State) (t : Task) → state_of b n m inputs es ≡ s → find_id t.id.0 (map machine_row es) ≡ None → verdict_of s t ≡ Gone
answer_none b n m inputs es s t y x = ap (λ (z : State). verdict_of z t) (sym y) ∙ ap (λ o. verdict_on (state_of b n m inputs es) o t) x

pub kept_verdict : (v : Verdict) → is_kept v ≡ true → v ≡ Kept
kept_verdict Gone h = absurd (let x : false ≡ true = h in cc)
kept_verdict (Stale n) h = absurd (let x : false ≡ true = h in cc)
kept_verdict Repeated h = absurd (let x : false ≡ true = h in cc)
kept_verdict Foreign h = absurd (let x : false ≡ true = h in cc)
kept_verdict Kept h = refl

pub state_kept : (b : Board) (n m : ℕ) (inputs : Inputs) (es : List Entry) (s : State) (k : ℕ) (e : Entry) (t : Task) (sources : List Source) (v : Verdict) → state_of b n m inputs es ≡ s → find_id t.id.0 (map machine_row es) ≡ Some (k, machine_row e) → v ≡ verdict_at (seen inputs es) (k, machine_row e) t → is_kept v ≡ true → state_of b n m inputs (set es k (with_data (kept_data t sources) e)) ≡ after_keep s t
state_kept b n m inputs es s k e t sources v y x z h = sym (
    ap (λ (z : State). after_keep z t) (sym y)
    ∙ ap (λ o. kept_on (state_of b n m inputs es) (verdict_of (state_of b n m inputs es) t) o (work_of t)) x
    ∙ ap (λ q. kept_on (state_of b n m inputs es) q (Some (k, machine_row e)) (work_of t)) (answer_found b n m inputs es (state_of b n m inputs es) k e t refl x ∙ sym z ∙ kept_verdict v h)
    ∙ ap (λ (rs : List Row). record { board = b; edits = n; inputs = inputs; next = m; rows = rs }) (sym (map-set machine_row es k (with_data (kept_data t sources) e))))

-- the entry of an id that was found at a place of the program
pub found_entry : (i j : ℕ) (rows : List Entry) (k : ℕ) → j ≡ i → Some k ≡ place_of rows j → (e : Entry) × (find_id i (map machine_row rows) ≡ Some (k, machine_row e)) × (slice_get rows k ≡ Some e)
found_entry i j rows k same at = found_some i rows k (at ∙ ap (place_of rows) same ∙ sym (find_is i rows))

pub found_none : (i j : ℕ) (rows : List Entry) → j ≡ i → None ≡ place_of rows j → find_id i (map machine_row rows) ≡ None
found_none i j rows same none = none_of (λ e. e.0) (find_id i (map machine_row rows)) (none ∙ ap (place_of rows) same ∙ sym (find_is i rows))

-- what is kept, with the pass behind it, is what a bring leaves
pub bring_kept : (b : Board) (n m : ℕ) (inputs : Inputs) (es : List Entry) (s : State) (k : ℕ) (e : Entry) (t : Task) (v : Verdict) → state_of b n m inputs es ≡ s → find_id t.id.0 (map machine_row es) ≡ Some (k, machine_row e) → v ≡ verdict_at (seen inputs es) (k, machine_row e) t → is_kept v ≡ true → cut_off (after_keep s t) ≡ after_bring s t
bring_kept b n m inputs es s k e t v y x z h =
    let kept : verdict_of s t ≡ Kept = answer_found b n m inputs es s k e t y x ∙ sym z ∙ kept_verdict v h in
    let found : find_row s t.id ≡ Some (k, machine_row e) = ap (λ (u : State). find_row u t.id) (sym y) ∙ x in
    ap₂ (λ q o. cut_off (kept_on s q o (work_of t))) kept found ∙ sym (ap₂ (λ q o. brought_on s q o (work_of t)) kept found)

-- and what isn't kept leaves all as it was
pub bring_other : (s : State) (v : Verdict) (o : Option (ℕ × Row)) (w : Work) → is_kept v ≡ false → brought_on s v o w ≡ s
bring_other s Gone o w h = refl
bring_other s (Stale n) o w h = refl
bring_other s Repeated o w h = refl
bring_other s Foreign o w h = refl
bring_other s Kept o w h = absurd (let x : true ≡ false = h in cc)

pub brought_none : (b : Board) (n m : ℕ) (inputs : Inputs) (es : List Entry) (s : State) (t : Task) → state_of b n m inputs es ≡ s → find_id t.id.0 (map machine_row es) ≡ None → s ≡ after_bring s t
brought_none b n m inputs es s t y x = sym (bring_other s (verdict_of s t) (find_row s t.id) (work_of t) (ap is_kept (answer_none b n m inputs es s t y x)))

pub brought_same : (b : Board) (n m : ℕ) (inputs : Inputs) (es : List Entry) (s : State) (k : ℕ) (e : Entry) (t : Task) (v : Verdict) → state_of b n m inputs es ≡ s → find_id t.id.0 (map machine_row es) ≡ Some (k, machine_row e) → v ≡ verdict_at (seen inputs es) (k, machine_row e) t → is_kept v ≡ false → s ≡ after_bring s t
brought_same b n m inputs es s k e t v y x z h = sym (bring_other s (verdict_of s t) (find_row s t.id) (work_of t) (ap is_kept (answer_found b n m inputs es s k e t y x ∙ sym z) ∙ h))

-- a row was settled of a state at rest
pub was_settled : (b : Board) (n m : ℕ) (inputs : Inputs) (es : List Entry) (s : State) (k : ℕ) (e : Entry) (t : Task) (sources : List Source) → state_of b n m inputs es ≡ s → slice_get es k ≡ Some e → IsAtRest s → WasSettled (state_of b n m inputs (set es k (with_data (kept_data t sources) e))) k
was_settled b n m inputs es s k e t sources y at rests = record {
  before = s;
  row = machine_row e;
  next = machine_row (with_data (kept_data t sources) e);
  rests = rests;
  here = ap (λ (u : State). slice_get u.rows k) (sym y) ∙ row_at es k e at;
  settled = refl;
  plan = refl;
  now = ap (λ (rs : List Row). record { board = b; edits = n; inputs = inputs; next = m; rows = rs }) (map-set machine_row es k (with_data (kept_data t sources) e))
      ∙ ap (λ (u : State). record u { rows = set u.rows k (machine_row (with_data (kept_data t sources) e)) }) y;
}
