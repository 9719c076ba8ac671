use Rattle.std.proofs.Common.{◌≡◌, ◌≤◌, ◌*◌, ◌^◌, ◌<◌, ◌%◌, ◌∙◌, ap, arith, drop, false, length, ltb, leb, sym, take, subst, ℕ, Bool, List}
use Rattle.std.proofs.lemmas.List.{length-replicate, length-take-le}
use Rattle.paris_field.specs.Fields.{operand}
use Rattle.paris_field.specs.Numbers.{AllOf, number_at, plane_at, value_of_planes}
use Rattle.paris_field.proofs.Numbers.{number_at_low, number_at_lt, number_at_split}
use Rattle.paris_field.proofs.Places.{all_first, field_is, plane_is}
use Rattle.paris_muldiv.proofs.Rows.{all_rest, any_above, rest_is}
use Rattle.paris_muldiv.proofs.planes.product_on_planes.Goals as goal

pub put_any-requires : goal.put_any-requires
put_any-requires c =
    let vps : length c.in_ok-overflow.overflow ≡ c.len-vps.result = ap length c.in_ok-overflow.ensures ∙ length-replicate c.len-vps.result false in
    all_rest (length c.in_ok-overflow.overflow) c.args.bits c.deref.result.now (λ k h.
    ap (λ (ps : List (List Bool)). length (plane_at ps k)) c.deref.ensures.value
    ∙ c.in_ok-planes.ensures.long k (omega (arith, h, ap length c.deref.ensures.value)) ∙ sym vps)

pub from_planes-requires-clause-long : goal.from_planes-requires-clause-long
from_planes-requires-clause-long c =
    let planes : List (List Bool) = c.in_ok-planes.planes.items in
    let enough : c.args.bits ≤ length planes = omega (arith, c.in_ok-planes.ensures.count, c.low.ensures.count) in
    subst (AllOf c.len-vps.result) (sym c.truncate.ensures.items) (all_first c.len-vps.result c.args.bits planes enough c.in_ok-planes.ensures.long)

pub returns-clause-value : goal.returns-clause-value
returns-clause-value c =
    let n : ℕ = length c.args.x.now.numbers in
    let L : ℕ = c.args.bits in
    let x : ℕ → ℕ = operand L c.args.x.now in
    let y : ℕ → ℕ = operand L c.args.y.now in
    let planes : List (List Bool) = c.in_ok-planes.planes.items in
    let enough : L ≤ length planes = omega (arith, c.in_ok-planes.ensures.count, c.low.ensures.count) in
    c.in_ok-value.ensures
    ∙ ap (λ (m : ℕ). value_of_planes m c.truncate.new.self.items) c.len-vps.ensures
    ∙ ap (value_of_planes n) c.truncate.ensures.items
    ∙ field_is n L (take L planes) (λ v. x v * y v % 2 ^ L) (length-take-le L planes enough) (λ v h.
    number_at_low planes L v enough
    ∙ ap (λ t. t % 2 ^ L) (
    c.in_ok-planes.ensures.exact v (omega (arith, h, c.len-vps.ensures))
    ∙ ap (λ t. t * number_at c.low-2.result.now v) (c.low.ensures.at v h)
    ∙ ap (λ t. x v * t) (c.low-2.ensures.at v (omega (arith, h, c.requires.same)))))

pub returns-clause-overflow : goal.returns-clause-overflow
returns-clause-overflow c =
    let n : ℕ = length c.args.x.now.numbers in
    let L : ℕ = c.args.bits in
    let x : ℕ → ℕ = operand L c.args.x.now in
    let y : ℕ → ℕ = operand L c.args.y.now in
    let planes : List (List Bool) = c.in_ok-planes.planes.items in
    let now : List (List Bool) = c.deref.result.now in
    let enough : L ≤ length planes = omega (arith, c.in_ok-planes.ensures.count, c.low.ensures.count) in
    let vps : length c.in_ok-overflow.overflow ≡ n = ap length c.in_ok-overflow.ensures ∙ length-replicate c.len-vps.result false ∙ c.len-vps.ensures in
    c.from_plane.ensures
    ∙ plane_is c.put_any.new.any n (λ v. leb (2 ^ L) (x v * y v)) (c.put_any.ensures.long ∙ vps) (λ v h.
    let product : number_at planes v ≡ x v * y v =
    c.in_ok-planes.ensures.exact v (omega (arith, h, c.len-vps.ensures))
    ∙ ap (λ t. t * number_at c.low-2.result.now v) (c.low.ensures.at v h)
    ∙ ap (λ t. x v * t) (c.low-2.ensures.at v (omega (arith, h, c.requires.same))) in
    let low : number_at (take L planes) v < 2 ^ L = subst (λ m. number_at (take L planes) v < 2 ^ m) (length-take-le L planes enough) (number_at_lt (take L planes) v) in
    c.put_any.ensures.bits v (omega (arith, h, vps))
    ∙ ap (λ (ps : List (List Bool)). ltb 0 (number_at ps v)) (rest_is L now ∙ ap (λ (ps : List (List Bool)). drop L ps) c.deref.ensures.value)
    ∙ any_above (2 ^ L) (number_at (take L planes) v) (number_at (drop L planes) v) (x v * y v) low (sym product ∙ number_at_split planes L v))
