-- The keys so far have the start or a settled row as origin.
use Rattle.std.proofs.Common.{◌≡◌, take, true}
use Rattle.std.specs.List.{list_all}
use Rattle.paris_events.specs.Orders.{is_firm}
use Rattle.paris_events.specs.Show.{origin_at}
use Rattle.paris_book.specs.Entries.{rows_seen}
use Rattle.paris_book.proofs.orders_for.is_ready.Given as goal

abbrev pub invariant-loop-key : goal.invariant-loop-key
invariant-loop-key l = list_all (λ k. is_firm (origin_at (rows_seen l.rows.rows) l.place k)) (take l.key-index l.keys) ≡ true
