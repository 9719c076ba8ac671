-- A geometry's fields come back from the lengths of its axes.
use Rattle.std.specs.Prelude.{◌≡◌, ℕ, ◌+◌, ◌-◌, ◌≤◌, List, length, take, replicate, true}
use Rattle.std.proofs.Common.{arith, ap, sym, ◌∙◌, length-append}
use Rattle.std.proofs.lemmas.List.{length-take-le, length-replicate}
use Rattle.paris_geometry.specs.Geometry.{is_geometry}
use Rattle.paris_geometry.specs.Buffer.{axes_buffer}
use Rattle.paris_geometry.specs.declared.shape.Geometry.TheInside.{Inside}
use Rattle.paris_names.specs.declared.limits.TheConstants.{MAX_AXES}

pub axis_count : (count : ℕ) (lengths : List ℕ) → count ≤ MAX_AXES → lengths ≡ axes_buffer (take count lengths) → length (take count lengths) ≡ count
axis_count count lengths small same =
    let axes = take count lengths in
    let whole : length lengths ≡ length axes + (4 - length axes) = ap length same ∙ length-append axes (replicate (4 - length axes) 0) ∙ ap (λ (k : ℕ). length axes + k) (length-replicate (4 - length axes) 0) in
    let enough : count ≤ length lengths = omega arith in
    length-take-le count lengths enough

pub geometry_fields : (a : Inside) → (a.count ≤ MAX_AXES) × (a.lengths ≡ axes_buffer (take a.count a.lengths)) × (is_geometry (take a.count a.lengths) ≡ true)
    → record { lengths = axes_buffer (take a.count a.lengths); count = length (take a.count a.lengths) } ≡ a
geometry_fields a h =
    let P : List ℕ → Inside = λ ns. record { lengths = ns; count = length (take a.count a.lengths) } in
    let Q : ℕ → Inside = λ n. record { lengths = a.lengths; count = n } in
    ap P (sym h.1) ∙ ap Q (axis_count a.count a.lengths h.0 h.1)
