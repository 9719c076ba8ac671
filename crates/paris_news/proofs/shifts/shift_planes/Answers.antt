use Rattle.std.proofs.Common.{◌≡◌, ◌∙◌, ap, sym, arith, length, ℕ, List, Bool, [], subst, get_or, false, ◌+◌, take_all}
use Rattle.std.proofs.lemmas.List.{get_or_read, length_push}
use Rattle.paris_geometry.specs.Geometry.{processor_count, neighbour}
use Rattle.paris_field.specs.Numbers.{AllOf, number_at, plane_at}
use Rattle.paris_field.proofs.Places.{all_none, all_pushed, length-bits_everywhere}
use Rattle.paris_news.proofs.Shifted.{moved_more, shifted_bit}
use Rattle.paris_news.proofs.shifts.shift_planes.Goals as goal

pub loop-k-init : goal.loop-k-init
unfolding number_at
loop-k-init c =
    let n : ℕ = processor_count c.args.geometry in
    let e : c.in_ok-planes.planes.items ≡ [] = c.in_ok-planes.ensures.items in
    record {
      count = ap length e;
      long = subst (λ (ps : List (List Bool)). AllOf n ps) (sym e) (all_none n);
      at = λ v h. ap (λ (ps : List (List Bool)). number_at ps v) e;
    }

pub loop-k-preserved : goal.loop-k-preserved
loop-k-preserved c =
    let n : ℕ = processor_count c.args.geometry in
    let k : ℕ = c.loop-k.k in
    let x : List Bool = c.index-source-k.result in
    let ex : x ≡ plane_at c.args.source.now k = get_or_read c.args.source.now k x c.loop-k-test.true c.index-source-k.is [] in
    let out : List Bool = c.in_ok-plane.plane in
    let no : length out ≡ n = ap length c.in_ok-plane.ensures ∙ length-bits_everywhere n _ in
    record {
      count = ap length c.in_ok-push.ensures.items ∙ length_push c.loop-k.planes.items out ∙ ap (λ j. j + 1) c.loop-k.invariant.count;
      long = subst (λ (ps : List (List Bool)). AllOf n ps) (sym c.in_ok-push.ensures.items) (all_pushed n c.loop-k.planes.items out c.loop-k.invariant.long no);
      at = λ v h.
          moved_more n k v (neighbour c.args.geometry c.args.axis c.args.direction v) c.args.source.now c.loop-k.planes.items c.push.new.self.items x out c.loop-k-test.true ex c.loop-k.invariant.count c.in_ok-push.ensures.items
          (shifted_bit n v (λ u. get_or x (neighbour c.args.geometry c.args.axis c.args.direction u) false) out c.in_ok-plane.ensures h)
          (c.loop-k.invariant.at v h);
    }

pub returns-clause-at : goal.returns-clause-at
returns-clause-at c =
    λ v h.
    c.loop-k.invariant.at v h
    ∙ ap (λ (ps : List (List Bool)). number_at ps (neighbour c.args.geometry c.args.axis c.args.direction v)) (take_all c.loop-k.k c.args.source.now (omega arith))
