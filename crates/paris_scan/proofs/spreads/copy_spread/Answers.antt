use Rattle.std.proofs.Common.{◌≡◌, ◌∙◌, ap, arith, cond, eqb, false, get_or, length, sym, ℕ, List, Bool}
use Rattle.paris_geometry.specs.Geometry.{at_coordinate, coordinate, processor_count}
use Rattle.paris_model.specs.Combine.{combined}
use Rattle.paris_model.specs.declared.operators.Combiner.TheVariants.{BitOr}
use Rattle.paris_field.specs.Fields.{operand}
use Rattle.paris_field.specs.Numbers.{number_at, value_of_planes}
use Rattle.paris_field.proofs.Places.{field_is, get_or-bits_everywhere, length-bits_everywhere}
use Rattle.paris_scan.specs.Laws.{none_or, one_or}
use Rattle.paris_scan.proofs.Own.{operand_fits, own_value}
use Rattle.paris_scan.proofs.Placed.{line_at}
use Rattle.paris_scan.proofs.spreads.copy_spread.Goals as goal

pub selected_planes-requires : goal.selected_planes-requires
selected_planes-requires c =
    let n : ℕ = processor_count c.args.geometry in
    let here : ℕ → Bool = λ v. eqb (coordinate c.args.geometry c.args.axis v) c.args.place in
    λ k h. c.low.ensures.long k h ∙ c.requires.count ∙ sym (ap length c.in_ok-at.ensures ∙ length-bits_everywhere n here)

pub spread_planes-requires-clause-state : goal.spread_planes-requires-clause-state
spread_planes-requires-clause-state c =
    let n : ℕ = processor_count c.args.geometry in
    let here : ℕ → Bool = λ v. eqb (coordinate c.args.geometry c.args.axis v) c.args.place in
    λ k h. c.in_ok-state.ensures.long k h ∙ ap length c.in_ok-at.ensures ∙ length-bits_everywhere n here

pub returns : goal.returns
returns c =
    let axes : List ℕ = c.args.geometry in
    let a : ℕ = c.args.axis in
    let n : ℕ = processor_count axes in
    let L : ℕ = c.args.bits in
    let shows : List ℕ → ℕ = combined BitOr L 0 in
    let here : ℕ → Bool = λ v. eqb (coordinate axes a v) c.args.place in
    let value : ℕ → ℕ = operand L c.args.x.now in
    let planes : List (List Bool) = c.in_ok-planes.planes.items in
    let state : List (List Bool) = c.in_ok-state.state.items in
    let long : length c.in_ok-at.at ≡ n = ap length c.in_ok-at.ensures ∙ length-bits_everywhere n here in
    let count : length state ≡ L = c.in_ok-state.ensures.count ∙ c.low.ensures.count in
    c.in_ok-value.ensures ∙ ap (λ (m : ℕ). value_of_planes m planes) c.vps-vps.ensures.value
    ∙ field_is n L planes (λ v. value (at_coordinate axes a v c.args.place)) (c.in_ok-planes.ensures.count ∙ count) (λ v h.
    c.in_ok-planes.ensures.shows L here value (omega (arith, count)) (operand_fits L c.args.x.now) (λ u below.
    c.in_ok-state.ensures.at u (omega (arith, below, long))
    ∙ ap (λ (b : Bool). cond b (number_at c.low.result.now u) 0) (ap (λ (l : List Bool). get_or l u false) c.in_ok-at.ensures ∙ get_or-bits_everywhere n here u below)
    ∙ ap (λ (t : ℕ). cond (here u) t 0) (c.low.ensures.at u (omega (arith, below, c.requires.count)))
    ∙ own_value (λ k xs. combined BitOr k 0 xs) L (none_or L) here value u (one_or L (value u) (operand_fits L c.args.x.now u))) v h
    ∙ ap shows (line_at axes a c.args.place value v c.vps-vps.ensures.sound c.requires.place)
    ∙ one_or L (value (at_coordinate axes a v c.args.place)) (operand_fits L c.args.x.now (at_coordinate axes a v c.args.place)))
