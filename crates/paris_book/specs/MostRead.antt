-- How much of the index of keys an edit reads.
use Rattle.std.specs.Prelude.{ℕ, ◌+◌, ◌*◌, length}
use Rattle.paris_events.specs.State.{State}
use Rattle.paris_book.specs.TouchedIds.{touched_ids}

-- how many entries are read at most to find so many rows: 128 is the number of keys
abbrev pub most_read : ℕ → ℕ
most_read rows = (128 + 3 * rows) * (rows + 32)

-- the same for the rows that an edit touched, by the states before and behind it
abbrev pub most_read_by : State → State → ℕ
most_read_by old new = most_read (length (touched_ids old.edits new.rows))
