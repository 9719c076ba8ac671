use Rattle.std.proofs.Common.{◌≡◌, ◌∙◌, ap, arith, length, map, not, ℕ, List, Bool}
use Rattle.paris_plane.proofs.Bits.{written}
use Rattle.paris_field.specs.Numbers.{number_at, plane_at, value_of_planes}
use Rattle.paris_field.proofs.Places.{field_is}
use Rattle.paris_scan.specs.Shown.{complement}
use Rattle.paris_scan.proofs.Masked.{inverted_number}
use Rattle.paris_scan.proofs.results.complement_value.Goals as goal

pub returns : goal.returns
returns c =
    let n : ℕ = c.args.vps in
    let xs : List (List Bool) = c.args.planes.items in
    let ps : List (List Bool) = c.invert_planes.new.planes in
    let count : length ps ≡ length xs = c.invert_planes.auto.planes ∙ ap length c.deref_mut.ensures.value in
    c.in_ok-value.ensures ∙ ap (value_of_planes n) (written _ ps _ (c.invert_planes.auto.planes ∙ c.deref_mut.ensures.len))
    ∙ field_is n (length xs) ps (λ v. complement (length xs) (number_at xs v)) count (λ v h.
    inverted_number n v xs ps c.requires.long count (λ k below. c.invert_planes.ensures.at k (omega (arith, below, ap length c.deref_mut.ensures.value)) ∙ ap (λ (qs : List (List Bool)). map not (plane_at qs k)) c.deref_mut.ensures.value) h)
