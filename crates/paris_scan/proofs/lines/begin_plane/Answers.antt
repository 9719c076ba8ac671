use Rattle.std.proofs.Common.{◌∙◌, ℕ, ◌||◌, ap, sym, length, eqb, get_or, false}
use Rattle.paris_geometry.specs.Geometry.{coordinate, processor_count}
use Rattle.paris_field.proofs.Places.{length-bits_everywhere, plane_is}
use Rattle.paris_field.specs.Numbers.{has}
use Rattle.paris_scan.specs.Runs.{begins_run}
use Rattle.paris_scan.proofs.Turns.{begun_at, begun_long}
use Rattle.paris_scan.proofs.lines.begin_plane.Goals as goal

pub put-requires : goal.put-requires
put-requires c = ap length c.in_ok-begins.ensures ∙ length-bits_everywhere (processor_count c.args.along.now.geometry) _ ∙ sym c.requires.segments

pub returns : goal.returns
returns c =
    let n : ℕ = processor_count c.args.along.now.geometry in
    c.in_ok-plane.ensures
    ∙ plane_is c.put.new.self n (begins_run c.args.along.now.geometry c.args.along.now.axis c.args.along.now.direction (has c.args.segments.now))
    (begun_long n _ c.in_ok-begins.begins c.args.segments.now c.put.new.self c.in_ok-begins.ensures c.requires.segments c.in_ok-put.ensures.ok)
    (λ v h.
    begun_at n v (λ u. eqb (coordinate c.args.along.now.geometry c.args.along.now.axis u) c.first_coordinate-place.result) c.in_ok-begins.begins c.args.segments.now c.put.new.self c.in_ok-begins.ensures c.requires.segments c.in_ok-put.ensures.ok h
    ∙ ap (λ x. eqb (coordinate c.args.along.now.geometry c.args.along.now.axis v) x || get_or c.args.segments.now v false) c.first_coordinate-place.ensures.value)
