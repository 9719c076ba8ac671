-- The keys so far have firm origins, and the values so far are the present ones, which fit, with their sources.
use Rattle.std.proofs.Common.{◌≡◌, take, map, true}
use Rattle.std.specs.List.{list_all}
use Rattle.paris_exec.specs.Tasks.{field_of, fits_keys}
use Rattle.paris_book.specs.Kept.{present}
use Rattle.paris_book.specs.Among.{inputs_of}
use Rattle.paris_book.specs.Sources.{AreSources}
use Rattle.paris_book.proofs.Among.{firm_among}
use Rattle.paris_book.proofs.looks.present_inputs.Given as goal

abbrev pub invariant-loop-number : goal.invariant-loop-number
invariant-loop-number l = record {
  firm : list_all (firm_among l.rows.rows l.place) (take l.number l.keys) ≡ true;
  same : l.values.items ≡ map (λ k. field_of l.plan k (present (inputs_of l.inputs) l.rows.rows l.place k)) (take l.number l.keys);
  fit : fits_keys l.plan (take l.number l.keys) l.values.items ≡ true;
  sources : AreSources (inputs_of l.inputs) l.rows.rows l.place (take l.number l.keys) l.sources.keys;
}
