use Rattle.std.proofs.Common.{◌≡◌, ◌∙◌, ℕ, ◌<◌, ap, sym, arith, length, List, Bool, subst, get_or, false, [], ◌∷◌, replicate}
use Rattle.std.proofs.lemmas.Simd.{length-replicate}
use Rattle.paris_geometry.specs.declared.direction.Direction.{Direction}
use Rattle.paris_geometry.specs.Geometry.{axis_length, processor_count, stride}
use Rattle.paris_model.specs.declared.operators.Inclusion.{Inclusion}
use Rattle.paris_model.specs.Lines.{values_where, scan_values}
use Rattle.paris_field.specs.Numbers.{AllOf, has, number_at}
use Rattle.paris_field.proofs.Places.{get_or-bits_everywhere, length-bits_everywhere}
use Rattle.paris_plane.proofs.Bits.{written}
use Rattle.paris_scan.specs.Runs.{begins_run, segment_run}
use Rattle.paris_scan.proofs.Turns.{Walk, run_before, run_same, starts_line}
use Rattle.paris_scan.proofs.Brought.{all_brought}
use Rattle.paris_scan.proofs.Defined.{inclusive_run}
use Rattle.paris_scan.proofs.Excluded.{exclusive_run}
use Rattle.paris_scan.proofs.Added.{own_fits}
use Rattle.paris_scan.proofs.lines.scan_planes.Goals as goal

pub double-requires-clause-begun : goal.double-requires-clause-begun
double-requires-clause-begun g c = ap length (c.in_ok-begun.ensures ∙ c.in_ok-begins.ensures) ∙ length-bits_everywhere (processor_count c.args.along.now.geometry) _

pub double-requires-clause-starts : goal.double-requires-clause-starts
double-requires-clause-starts g c =
    λ v h e.
    let axes : List ℕ = c.args.along.now.geometry in
    let seg : ℕ → Bool = has c.args.segments.now in
    ap (λ (l : List Bool). get_or l v false) (c.in_ok-begun.ensures ∙ c.in_ok-begins.ensures)
    ∙ get_or-bits_everywhere (processor_count axes) (begins_run axes c.args.along.now.axis c.args.along.now.direction seg) v h
    ∙ starts_line axes c.args.along.now.axis c.args.along.now.direction seg v e

pub bring_planes-requires-clause-partner : goal.bring_planes-requires-clause-partner
bring_planes-requires-clause-partner g c =
    let n : ℕ = processor_count c.args.along.now.geometry in
    let nb : length c.in_ok-begins.begins ≡ n = ap length c.in_ok-begins.ensures ∙ length-bits_everywhere n _ in
    let is : c.deref.result.now ≡ c.double.new.state = c.deref.ensures.value ∙ written _ c.double.new.state _ (c.double.auto.state ∙ c.deref_mut.ensures.len) in
    let all : AllOf n c.deref.result.now = subst (λ (ps : List (List Bool)). AllOf n ps) (sym is) c.double.ensures.long in
    λ k h. nb ∙ sym (all k h)

pub bring_planes-requires-clause-out : goal.bring_planes-requires-clause-out
bring_planes-requires-clause-out g c =
    let n : ℕ = processor_count c.args.along.now.geometry in
    let is : c.deref.result.now ≡ c.double.new.state = c.deref.ensures.value ∙ written _ c.double.new.state _ (c.double.auto.state ∙ c.deref_mut.ensures.len) in
    let all : AllOf n c.deref.result.now = subst (λ (ps : List (List Bool)). AllOf n ps) (sym is) c.double.ensures.long in
    let there : c.deref_mut-in-Exclusive.result.now ≡ c.double.new.brought = c.deref_mut-in-Exclusive.ensures.value ∙ written _ c.double.new.brought _ (c.double.auto.brought ∙ c.deref_mut-2.ensures.len) in
    let old : AllOf n c.deref_mut-in-Exclusive.result.now = subst (λ (ps : List (List Bool)). AllOf n ps) (sym there) c.double.ensures.brought in
    let count : length c.in_ok-brought.brought.items ≡ c.args.state.len = ap length c.in_ok-brought.ensures ∙ length-replicate c.len.result (replicate c.vps-vps.result false) ∙ c.len.ensures in
    let same : length c.deref_mut-in-Exclusive.result.now ≡ length c.deref.result.now = omega (arith, count, ap length there, ap length is, c.double.auto.brought, c.double.auto.state, ap length c.deref_mut-2.ensures.value, c.deref_mut.ensures.len) in
    λ k h. old k (omega (arith, h, same)) ∙ sym (all k h)

pub returns-in-Inclusive-clause-long : goal.returns-in-Inclusive-clause-long
returns-in-Inclusive-clause-long g c =
    subst (λ (ps : List (List Bool)). AllOf (processor_count c.args.along.now.geometry) ps) (sym (written _ c.double.new.state _ (c.double.auto.state ∙ c.deref_mut.ensures.len))) c.double.ensures.long

pub returns-in-Inclusive-clause-shows : goal.returns-in-Inclusive-clause-shows
returns-in-Inclusive-clause-shows g c =
    λ L selected value count fits shown v h.
    let axes : List ℕ = c.args.along.now.geometry in
    let a : ℕ = c.args.along.now.axis in
    let d : Direction = c.args.along.now.direction in
    let n : ℕ = processor_count axes in
    let seg : ℕ → Bool = has c.args.segments.now in
    let f : ℕ → Bool = begins_run axes a d seg in
    let own : ℕ → List ℕ = λ u. values_where selected value (u ∷ []) in
    let w : Walk axes a d f = record { sound = c.vps-vps.ensures.sound; within = c.requires.axis; starts = λ u below e. starts_line axes a d seg u e } in
    let same : (u : ℕ) → u < n → get_or c.in_ok-begun.begun u false ≡ f u = λ u below. ap (λ (l : List Bool). get_or l u false) (c.in_ok-begun.ensures ∙ c.in_ok-begins.ensures) ∙ get_or-bits_everywhere n f u below in
    ap (λ (ps : List (List Bool)). number_at ps v) (written _ c.double.new.state _ (c.double.auto.state ∙ c.deref_mut.ensures.len))
    ∙ c.double.ensures.runs L own (ap length c.deref_mut.ensures.value ∙ count) (λ u. own_fits selected value L u (fits u)) (λ u below. ap (λ (ps : List (List Bool)). number_at ps u) c.deref_mut.ensures.value ∙ shown u below) v h
    ∙ ap (g.C.Combine.shows L) (run_same w (λ u. get_or c.in_ok-begun.begun u false) own (axis_length axes a) v same h
    ∙ inclusive_run axes a d seg selected value v c.vps-vps.ensures.sound c.requires.axis h
    ∙ sym (ap (λ (i : Inclusion). scan_values axes a d i seg selected value v) c.in-Inclusive.is))

pub returns-in-Exclusive-clause-long : goal.returns-in-Exclusive-clause-long
returns-in-Exclusive-clause-long g c =
    let n : ℕ = processor_count c.args.along.now.geometry in
    let is : c.deref.result.now ≡ c.double.new.state = c.deref.ensures.value ∙ written _ c.double.new.state _ (c.double.auto.state ∙ c.deref_mut.ensures.len) in
    let there : c.deref_mut-in-Exclusive.result.now ≡ c.double.new.brought = c.deref_mut-in-Exclusive.ensures.value ∙ written _ c.double.new.brought _ (c.double.auto.brought ∙ c.deref_mut-2.ensures.len) in
    let all : AllOf n c.deref.result.now = subst (λ (ps : List (List Bool)). AllOf n ps) (sym is) c.double.ensures.long in
    let count : length c.in_ok-brought.brought.items ≡ c.args.state.len = ap length c.in_ok-brought.ensures ∙ length-replicate c.len.result (replicate c.vps-vps.result false) ∙ c.len.ensures in
    let same : length c.deref_mut-in-Exclusive.result.now ≡ length c.deref.result.now = omega (arith, count, ap length there, ap length is, c.double.auto.brought, c.double.auto.state, ap length c.deref_mut-2.ensures.value, c.deref_mut.ensures.len) in
    subst (λ (ps : List (List Bool)). AllOf n ps) (sym (written _ c.bring_planes.new.out _ (c.bring_planes.auto.out ∙ c.deref_mut-in-Exclusive.ensures.len)))
    (all_brought n c.deref.result.now c.bring_planes.new.out (c.bring_planes.auto.out ∙ same) all c.bring_planes.ensures.long)

pub returns-in-Exclusive-clause-shows : goal.returns-in-Exclusive-clause-shows
returns-in-Exclusive-clause-shows g c =
    λ L selected value count fits shown v h.
    let axes : List ℕ = c.args.along.now.geometry in
    let a : ℕ = c.args.along.now.axis in
    let d : Direction = c.args.along.now.direction in
    let n : ℕ = processor_count axes in
    let seg : ℕ → Bool = has c.args.segments.now in
    let f : ℕ → Bool = begins_run axes a d seg in
    let own : ℕ → List ℕ = λ u. values_where selected value (u ∷ []) in
    let w : Walk axes a d f = record { sound = c.vps-vps.ensures.sound; within = c.requires.axis; starts = λ u below e. starts_line axes a d seg u e } in
    let nb : length c.in_ok-begins.begins ≡ n = ap length c.in_ok-begins.ensures ∙ length-bits_everywhere n f in
    let starts : (u : ℕ) → u < n → get_or c.in_ok-begins.begins u false ≡ f u = λ u below. ap (λ (l : List Bool). get_or l u false) c.in_ok-begins.ensures ∙ get_or-bits_everywhere n f u below in
    let same : (u : ℕ) → u < n → get_or c.in_ok-begun.begun u false ≡ f u = λ u below. ap (λ (l : List Bool). get_or l u false) c.in_ok-begun.ensures ∙ starts u below in
    let state : List (List Bool) = c.deref.result.now in
    let is : state ≡ c.double.new.state = c.deref.ensures.value ∙ written _ c.double.new.state _ (c.double.auto.state ∙ c.deref_mut.ensures.len) in
    let last : (u : ℕ) → u < n → number_at state u ≡ g.C.Combine.shows L (segment_run f own d (stride axes a) (axis_length axes a) u) = λ u below.
    ap (λ (ps : List (List Bool)). number_at ps u) is
    ∙ c.double.ensures.runs L own (ap length c.deref_mut.ensures.value ∙ count) (λ x. own_fits selected value L x (fits x)) (λ x inside. ap (λ (ps : List (List Bool)). number_at ps x) c.deref_mut.ensures.value ∙ shown x inside) u below
    ∙ ap (g.C.Combine.shows L) (run_same w (λ x. get_or c.in_ok-begun.begun x false) own (axis_length axes a) u same below) in
    let all : AllOf n state = subst (λ (ps : List (List Bool)). AllOf n ps) (sym is) c.double.ensures.long in
    ap (λ (ps : List (List Bool)). number_at ps v) (written _ c.bring_planes.new.out _ (c.bring_planes.auto.out ∙ c.deref_mut-in-Exclusive.ensures.len))
    ∙ run_before w (g.C.Combine.shows L) own (axis_length axes a) c.stride.result c.in_ok-begins.begins (number_at state) v (number_at c.bring_planes.new.out v)
    (g.met.C.Combine.none L) c.stride.ensures.value starts last (c.bring_planes.ensures.brought n v all h)
    h
    ∙ ap (g.C.Combine.shows L) (exclusive_run axes a d seg selected value v c.vps-vps.ensures.sound c.requires.axis h
    ∙ sym (ap (λ (i : Inclusion). scan_values axes a d i seg selected value v) c.in-Exclusive.is))
