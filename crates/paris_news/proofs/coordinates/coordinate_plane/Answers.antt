use Rattle.std.proofs.Common.{◌∙◌, ◌*◌, ◌+◌, ◌%◌, ap, ℕ, eqb, Bool, List}
use Rattle.paris_geometry.specs.Geometry.{stride, axis_length, processor_count, coordinate}
use Rattle.paris_geometry.proofs.Strides.{stride_positive, geometry_powers}
use Rattle.paris_field.specs.Numbers.{bits_everywhere}
use Rattle.paris_field.proofs.Places.{bits_same}
use Rattle.paris_news.proofs.Periods.{marked, marks_coordinate}
use Rattle.paris_news.proofs.coordinates.coordinate_plane.Goals as goal

pub returns : goal.returns
returns c =
    let axes = c.args.geometry in
    let a : ℕ = c.args.axis in
    let n : ℕ = processor_count axes in
    let of : ℕ → ℕ → ℕ → List Bool = λ m s len. bits_everywhere m (λ v. marked (c.args.place * s) (c.args.place * s + s) (v % (len * s))) in
    c.from_plane.ensures
    ∙ c.in_ok-plane.ensures
    ∙ ap (λ (m : ℕ). of m c.stride-stride.result c.len.result) c.vps-vps.ensures.value
    ∙ ap (λ (s : ℕ). of n s c.len.result) c.stride-stride.ensures.value
    ∙ ap (λ (len : ℕ). of n (stride axes a) len) c.len.ensures
    ∙ bits_same n (λ v. marked (c.args.place * stride axes a) (c.args.place * stride axes a + stride axes a) (v % (axis_length axes a * stride axes a))) (λ v. eqb (coordinate axes a v) c.args.place)
    (λ v h. marks_coordinate (stride axes a) (axis_length axes a) v c.args.place (stride_positive axes a (geometry_powers axes c.vps-vps.ensures.sound)) c.requires.place)
