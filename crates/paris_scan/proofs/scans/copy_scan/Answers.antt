use Rattle.std.proofs.Common.{◌≡◌, ◌∙◌, ◌+◌, ap, arith, cond, length, ℕ, List, [], ◌∷◌, Bool}
use Rattle.std.proofs.lemmas.List.{length-append}
use Rattle.paris_geometry.specs.Geometry.{processor_count}
use Rattle.paris_model.specs.declared.operators.Inclusion.TheVariants.{Inclusive}
use Rattle.paris_field.specs.Fields.{operand}
use Rattle.paris_field.specs.Numbers.{has, value_of_planes}
use Rattle.paris_scan.specs.Lines.{scanned}
use Rattle.paris_scan.proofs.Copied.{first_brought, first_field_is}
use Rattle.paris_scan.proofs.Own.{operand_fits, scanned_fit}
use Rattle.paris_scan.proofs.scans.copy_scan.Goals as goal

pub returns : goal.returns
returns c =
    let axes : List ℕ = c.args.geometry in
    let n : ℕ = processor_count axes in
    let L : ℕ = c.args.bits in
    let a : ℕ = c.args.axis in
    let selected : List Bool = c.args.selected.now in
    let value : ℕ → ℕ = operand L c.args.x.now in
    let own : List (List Bool) = c.in_ok-state.state.items in
    let state : List (List Bool) = c.push.new.self.items in
    let planes : List (List Bool) = c.in_ok-planes.planes.items in
    let own_count : length own ≡ L = c.in_ok-state.ensures.count ∙ c.low.ensures.count in
    let count : length state ≡ L + 1 = ap length c.in_ok-push.ensures.items ∙ length-append own (c.in_ok-to_plane.field-0 ∷ []) ∙ ap (λ (k : ℕ). k + 1) own_count in
    let values : ℕ → List ℕ = scanned axes a c.args.direction Inclusive c.args.segments.now selected L c.args.x.now in
    c.in_ok-value.ensures ∙ ap (λ (m : ℕ). value_of_planes m c.truncate.new.self.items) (c.len.ensures ∙ c.requires.count)
    ∙ first_field_is n L planes c.truncate.new.self.items values (c.in_ok-planes.ensures.count ∙ count) c.truncate.ensures.items
    (scanned_fit axes a c.args.direction Inclusive c.args.segments.now selected L c.args.x.now)
    (c.in_ok-planes.ensures.shows L (has selected) value count (operand_fits L c.args.x.now) (λ u below.
    first_brought L u selected c.in_ok-to_plane.field-0 value own state own_count c.in_ok-to_plane.ensures c.in_ok-push.ensures.items
    (c.in_ok-state.ensures.at u (omega (arith, below, c.requires.selected)) ∙ ap (λ (t : ℕ). cond (has selected u) t 0) (c.low.ensures.at u (omega (arith, below, c.requires.count))))))
