-- Results: the verdict on what is brought, and the state after it.
use Rattle.std.specs.Prelude.{ℕ, ◌==◌, Option, Some, None, if◌then◌else◌, slice_set}
use Rattle.paris_exec.specs.Tasks.{Task}
use Rattle.paris_edits.specs.Rows.{is_settled}
use Rattle.paris_edits.specs.declared.rows.Status.TheVariants.{Settled}
use Rattle.paris_edits.specs.declared.verdicts.Verdict.{Verdict}
use Rattle.paris_edits.specs.declared.verdicts.Verdict.TheVariants.{Gone, Stale, Repeated, Foreign, Kept}
use Rattle.paris_events.specs.State.{Row, State, Work, work_of, find_row}
use Rattle.paris_events.specs.CutOff.{is_present, cut_off}

abbrev pub verdict_at : State → ℕ × Row → Task → Verdict
verdict_at s e t =
    if e.1.edition.0 == t.edition.0
    then (if is_settled e.1.status then Repeated else (if is_present s e.0 e.1 (work_of t) then Kept else Foreign))
    else Stale e.1.edition

abbrev pub verdict_on : State → Option (ℕ × Row) → Task → Verdict
verdict_on s None t = Gone
verdict_on s (Some e) t = verdict_at s e t

-- the verdict on a result: the first that applies of gone, stale, repeated, foreign and kept
abbrev pub verdict_of : State → Task → Verdict
verdict_of s t = verdict_on s (find_row s t.id) t

-- the state with a result kept of a row
abbrev pub kept_at : State → ℕ × Row → Work → State
kept_at s e work = record s { rows = slice_set s.rows e.0 (record e.1 { status = Settled; last = Some work }) }

abbrev pub brought_on : State → Verdict → Option (ℕ × Row) → Work → State
brought_on s Kept (Some e) work = cut_off (kept_at s e work)
brought_on s _ _ work = s

abbrev pub after_bring : State → Task → State
after_bring s t = brought_on s (verdict_of s t) (find_row s t.id) (work_of t)
