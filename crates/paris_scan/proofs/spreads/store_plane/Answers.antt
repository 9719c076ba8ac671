use Rattle.std.proofs.Common.{arith, ◌≡◌, ◌∙◌, ◌&&◌, ℕ, Bool, List, ap, sym, length, eqb, get_or, false}
use Rattle.std.proofs.lemmas.Simd.{get_or-zip2, length-zip2}
use Rattle.paris_geometry.specs.Geometry.{coordinate, processor_count}
use Rattle.paris_field.proofs.Places.{length-bits_everywhere, get_or-bits_everywhere, plane_is}
use Rattle.paris_field.specs.Numbers.{has}
use Rattle.paris_scan.proofs.spreads.store_plane.Goals as goal

pub combined-requires : goal.combined-requires
combined-requires c = c.requires.selected ∙ sym (ap length c.in_ok-at.ensures ∙ length-bits_everywhere (processor_count c.args.geometry) _)

pub returns : goal.returns
returns c =
    let n : ℕ = processor_count c.args.geometry in
    let f : ℕ → Bool = λ v. eqb (coordinate c.args.geometry c.args.axis v) c.args.place in
    let xs : List Bool = c.args.selected.now in
    let ys : List Bool = c.in_ok-at.at in
    let nx : length xs ≡ n = c.requires.selected in
    let ny : length ys ≡ n = ap length c.in_ok-at.ensures ∙ length-bits_everywhere n f in
    plane_is c.in_ok-stores.stores n (λ v. has xs v && f v) (ap length c.in_ok-stores.ensures ∙ length-zip2 (λ a b. a && b) xs ys (nx ∙ sym ny) ∙ nx)
    (λ v h.
    ap (λ l. get_or l v false) c.in_ok-stores.ensures
    ∙ get_or-zip2 (λ a b. a && b) xs ys v false false false (omega (arith, h, nx)) (omega (arith, h, ny))
    ∙ ap (λ b. has xs v && b) (ap (λ (l : List Bool). get_or l v false) c.in_ok-at.ensures ∙ get_or-bits_everywhere n f v h))
