-- What is left to compare has the same answer, and the sources of the keys so far are noted.
use Rattle.std.proofs.Common.{◌≡◌, drop, map, take}
use Rattle.std.specs.Prelude.{◌&&◌}
use Rattle.std.specs.List.{list_all}
use Rattle.std.specs.Cmp.Lexicographic.{pointwise}
use Rattle.paris_field.specs.Fields.{field_eq}
use Rattle.paris_exec.specs.Tasks.{field_of}
use Rattle.paris_events.specs.Show.{now, origin_at}
use Rattle.paris_events.specs.Orders.{is_firm, inputs_now}
use Rattle.paris_book.specs.Among.{inputs_of}
use Rattle.paris_book.specs.Entries.{seen, rows_seen}
use Rattle.paris_book.specs.Sources.{AreSources}
use Rattle.paris_book.proofs.looks.sources_if_same.Given as goal

abbrev pub invariant-loop-i : goal.invariant-loop-i
invariant-loop-i l = record {
  same : (list_all (λ k. is_firm (origin_at (rows_seen l.rows.rows) l.place k)) l.keys && pointwise field_eq (inputs_now (seen (inputs_of l.inputs) l.rows.rows) l.place l.plan) l.values)
      ≡ (list_all (λ k. is_firm (origin_at (rows_seen l.rows.rows) l.place k)) (drop l.i l.keys)
      && pointwise field_eq (map (λ k. field_of l.plan k (now (seen (inputs_of l.inputs) l.rows.rows) l.place k)) (drop l.i l.keys)) (drop l.i l.values));
  sources : AreSources (inputs_of l.inputs) l.rows.rows l.place (take l.i l.keys) l.sources.keys;
}
