use Rattle.std.proofs.Common.{◌∙◌, ap, sym, ℕ, List}
use Rattle.paris_geometry.specs.Geometry.{processor_count}
use Rattle.paris_model.specs.declared.operators.Combiner.{Combiner}
use Rattle.paris_scan.specs.declared.results.Combined.{Combined}
use Rattle.paris_scan.specs.Lines.{combined_field, scanned}
use Rattle.paris_scan.proofs.Own.{scanned_fit}
use Rattle.paris_scan.proofs.Units.{and_field}
use Rattle.paris_scan.proofs.scans.scan.Goals as goal

pub returns-in_ok-value-in-BitAnd-clause-value : goal.returns-in_ok-value-in-BitAnd-clause-value
returns-in_ok-value-in-BitAnd-clause-value c =
    let n : ℕ = processor_count c.args.geometry in
    let values : ℕ → List ℕ = scanned c.args.geometry c.args.axis c.args.direction c.args.inclusion c.args.segments.now c.args.selected.now c.args.bits c.args.x.now in
    ap (λ (x : Combined). x.value) c.without_overflow-in-BitAnd.ensures ∙ c.in_ok-value-in-BitAnd.ensures
    ∙ and_field n c.args.bits values (scanned_fit c.args.geometry c.args.axis c.args.direction c.args.inclusion c.args.segments.now c.args.selected.now c.args.bits c.args.x.now)
    ∙ ap (λ (op : Combiner). combined_field op c.args.bits n values) (sym c.in-BitAnd.is)

pub returns-in_ok-value-in-Minimum-clause-value : goal.returns-in_ok-value-in-Minimum-clause-value
returns-in_ok-value-in-Minimum-clause-value c =
    let n : ℕ = processor_count c.args.geometry in
    let values : ℕ → List ℕ = scanned c.args.geometry c.args.axis c.args.direction c.args.inclusion c.args.segments.now c.args.selected.now c.args.bits c.args.x.now in
    ap (λ (x : Combined). x.value) c.without_overflow-in-Minimum.ensures ∙ c.in_ok-value-in-Minimum.ensures
    ∙ ap (λ (op : Combiner). combined_field op c.args.bits n values) (sym c.in-Minimum.is)
