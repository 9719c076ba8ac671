-- What a book keeps of a row.
use Rattle.std.specs.Prelude.{ℕ, List, Option}
use Rattle.paris_names.specs.declared.ids.Edition.{Edition}
use Rattle.paris_model.specs.Instructions.{Plan}
use Rattle.paris_exec.specs.Tasks.{Task}
use Rattle.paris_edits.specs.declared.rows.Status.{Status}
use Rattle.paris_book.specs.declared.sources.Source.{Source}

-- its plan, the edit that set it, its edition, where it stands, the task of the result that was last kept, and where the values that
-- this one was computed by came from when the row was settled last
pub record RowData : Type 0 where
  pub plan : Plan
  pub set_by : ℕ
  pub edition : Edition
  pub status : Status
  pub done : Option Task
  pub sources : List Source
