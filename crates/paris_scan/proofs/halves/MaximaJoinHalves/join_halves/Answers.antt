use Rattle.std.proofs.Common.{◌≡◌, ℕ, ◌∙◌, ap, arith, cond, length, List, Bool, get_or, false, sym, take}
use Rattle.paris_model.specs.declared.operators.Combiner.TheVariants.{Maximum}
use Rattle.paris_field.specs.Numbers.{number_at}
use Rattle.paris_scan.specs.Laws.{maximum_zero}
use Rattle.paris_scan.proofs.Joined.{greater, joined_by}
use Rattle.paris_scan.proofs.Tops.{whole}
use Rattle.paris_scan.proofs.halves.MaximaJoinHalves.join_halves.Goals as goal

pub returns-clause-joined : goal.returns-clause-joined
returns-clause-joined c =
    λ L v xs ys count below fx fy ex ey.
    let old : List (List Bool) = c.args.lower.now in
    let other : List (List Bool) = c.args.upper.now in
    let new : List (List Bool) = c.merge_planes.new.planes in
    let k : ℕ = length other in
    let same : k ≡ length old = sym c.requires.same in
    joined_by Maximum L (maximum_zero L) (number_at other v) (number_at old v) (number_at new v) xs ys ex ey
    (sym (whole k v new (c.merge_planes.auto.planes ∙ sym same))
    ∙ c.merge_planes.ensures.low v (omega (arith, below, c.mark_below.ensures.long))
    ∙ ap (λ z. cond (get_or c.mark_below.new.below v false) z (number_at (take k old) v)) (whole k v other (omega arith))
    ∙ ap (λ z. cond (get_or c.mark_below.new.below v false) (number_at other v) z) (whole k v old (sym same))
    ∙ ap (λ b. cond b (number_at other v) (number_at old v)) (c.mark_below.ensures.at v below)
    ∙ greater (number_at other v) (number_at old v))
