use Rattle.std.proofs.Common.{◌≡◌, ◌∙◌, ℕ, ◌<◌, Bool, List, ap, arith, length, subst, sym}
use Rattle.paris_geometry.specs.declared.direction.Direction.{Direction}
use Rattle.paris_geometry.specs.Geometry.{processor_count, stride}
use Rattle.paris_field.specs.Numbers.{has}
use Rattle.paris_field.proofs.Places.{get_or-bits_everywhere, length-bits_everywhere}
use Rattle.paris_scan.specs.Running.{HasBefore}
use Rattle.paris_scan.specs.Runs.{begins_run}
use Rattle.paris_scan.proofs.RunValues.{reach_back}
use Rattle.paris_scan.proofs.Turns.{Walk, starts_line}
use Rattle.paris_scan.proofs.running.line_steps.Goals as goal

pub invariant_of-result : goal.invariant_of-result
invariant_of-result c =
    let axes : List ℕ = c.args.along.now.geometry in
    let a : ℕ = c.args.along.now.axis in
    let d : Direction = c.args.along.now.direction in
    let n : ℕ = processor_count axes in
    let f : ℕ → Bool = begins_run axes a d (has c.args.segments.now) in
    let w : Walk axes a d f = record { sound = c.stride.ensures.sound; within = c.requires.axis; starts = λ u _ e. starts_line axes a d (has c.args.segments.now) u e } in
    let long : length c.in_ok-begins.begins ≡ n = ap length c.in_ok-begins.ensures ∙ length-bits_everywhere n f in
    record {
      some = omega (arith, c.stride.ensures.value, c.stride.ensures.positive);
      reach = λ v h none.
          let below : v < n = omega (arith, h, long) in
          subst (λ m. HasBefore d m (length c.in_ok-begins.begins) v) (sym c.stride.ensures.value)
          (subst (λ m. HasBefore d (stride axes a) m v) (sym long)
          (reach_back w v below (sym (get_or-bits_everywhere n f v below) ∙ ap (λ (l : List Bool). has l v) (sym c.in_ok-begins.ensures) ∙ none)));
    }
