use Rattle.std.proofs.Common.{◌≡◌, ℕ, ◌+◌, ◌-◌, ◌*◌, ◌^◌, ◌<◌, ◌∙◌, ap, arith, cond, length, List, Bool, [], get_or, false, sym, take}
use Rattle.std.proofs.lemmas.List.{get_or_read}
use lib.Pow.{pow_pos}
use Rattle.paris_field.specs.Numbers.{AllOf, bit_in, number_at, plane_at}
use Rattle.paris_field.proofs.Places.{read_long}
use Rattle.paris_scan.proofs.Brought.{all_brought}
use Rattle.paris_scan.proofs.Joined.{firsts_joined}
use Rattle.paris_scan.proofs.Tops.{low_lt, split_at, whole}
use Rattle.paris_scan.proofs.firsts.FirstsCombine.join.Goals as goal

pub returns-clause-joined : goal.returns-clause-joined
returns-clause-joined c =
    λ L v xs ys count below fx fy ex ey.
    let n : ℕ = length c.args._spare.now in
    let old : List (List Bool) = c.args.state.now in
    let brought : List (List Bool) = c.bring_planes.new.out in
    let new : List (List Bool) = c.merge_planes.new.planes in
    let k : ℕ = length brought in
    let t : ℕ = length old - 1 in
    let same : k ≡ length old = c.bring_planes.auto.out ∙ c.requires.same in
    let all : AllOf n brought = all_brought n old brought same c.requires.state c.bring_planes.ensures.long in
    let top : List Bool = c.index-earlier-top.result in
    let at : t ≡ L = omega (arith, count) in
    let inb : t < k = omega (arith, c.requires.some, same, count) in
    let long : length top ≡ n = read_long brought t top all inb c.index-earlier-top.is in
    let is : top ≡ plane_at brought L = get_or_read brought t top inb c.index-earlier-top.is [] ∙ ap (plane_at brought) at in
    let split : number_at brought v ≡ number_at (take L brought) v + 2 ^ L * bit_in top v = split_at L v brought (same ∙ count) ∙ ap (λ l. number_at (take L brought) v + 2 ^ L * bit_in l v) (sym is) in
    firsts_joined L (number_at new v) (number_at brought v) (number_at old v) (number_at (take L brought) v) (get_or top v false) xs ys (pow_pos L) (low_lt brought L v (omega (arith, count, same))) fx split
    (ex (number_at brought v) (c.bring_planes.ensures.brought n v c.requires.state below)) ey
    (sym (whole k v new (c.merge_planes.auto.planes ∙ sym same))
    ∙ c.merge_planes.ensures.low v (omega (arith, below, long))
    ∙ ap (λ z. cond (get_or top v false) z (number_at (take k old) v)) (whole k v brought (omega arith))
    ∙ ap (λ z. cond (get_or top v false) (number_at brought v) z) (whole k v old (sym same)))
