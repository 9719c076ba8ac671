use Rattle.std.proofs.Common.{◌≡◌, ℕ, ◌∙◌, ap, arith, cond, length, List, Bool, get_or, false, sym, take}
use Rattle.paris_model.specs.declared.operators.Combiner.TheVariants.{Maximum}
use Rattle.paris_field.specs.Numbers.{number_at}
use Rattle.paris_scan.specs.Laws.{maximum_zero}
use Rattle.paris_scan.proofs.Brought.{all_brought}
use Rattle.paris_scan.proofs.Joined.{greater, joined_by}
use Rattle.paris_scan.proofs.Tops.{whole}
use Rattle.paris_scan.proofs.maxima.MaximaCombine.join.Goals as goal

pub mark_below-requires-clause-y_planes : goal.mark_below-requires-clause-y_planes
mark_below-requires-clause-y_planes c =
    all_brought (length c.args.spare.now) c.args.state.now c.bring_planes.new.out (c.bring_planes.auto.out ∙ c.requires.same) c.requires.state c.bring_planes.ensures.long

pub returns-clause-joined : goal.returns-clause-joined
returns-clause-joined c =
    λ L v xs ys count below fx fy ex ey.
    let n : ℕ = length c.args.spare.now in
    let old : List (List Bool) = c.args.state.now in
    let brought : List (List Bool) = c.bring_planes.new.out in
    let new : List (List Bool) = c.merge_planes.new.planes in
    let k : ℕ = length brought in
    let same : k ≡ length old = c.bring_planes.auto.out ∙ c.requires.same in
    joined_by Maximum L (maximum_zero L) (number_at brought v) (number_at old v) (number_at new v) xs ys (ex (number_at brought v) (c.bring_planes.ensures.brought n v c.requires.state below)) ey
    (sym (whole k v new (c.merge_planes.auto.planes ∙ sym same))
    ∙ c.merge_planes.ensures.low v (omega (arith, below, c.mark_below.ensures.long))
    ∙ ap (λ z. cond (get_or c.mark_below.new.below v false) z (number_at (take k old) v)) (whole k v brought (omega arith))
    ∙ ap (λ z. cond (get_or c.mark_below.new.below v false) (number_at brought v) z) (whole k v old (sym same))
    ∙ ap (λ b. cond b (number_at brought v) (number_at old v)) (c.mark_below.ensures.at v below)
    ∙ greater (number_at brought v) (number_at old v))
