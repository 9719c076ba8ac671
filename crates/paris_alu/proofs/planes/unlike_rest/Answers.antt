use Rattle.std.proofs.Common.{◌≡◌, ℕ, ◌^◌, ◌<◌, ◌∙◌, ap, arith, length, get_or, false, List, Bool, [], refl, replicate, sym, eqb, not}
use Rattle.std.proofs.lemmas.List.{get_or_read, get_or-replicate, length-replicate}
use Rattle.paris_field.specs.Numbers.{number_at, plane_at}
use Rattle.paris_alu.specs.Bits.{unlike_bit}
use Rattle.paris_field.proofs.Places.{clear_is, get_triple, length-bits_everywhere, length_triple, read_long}
use Rattle.paris_alu.proofs.Steps.{unlike_step}
use Rattle.paris_alu.proofs.Chains.{chain_more}
use Rattle.paris_alu.proofs.planes.unlike_rest.Goals as goal

pub loop-plane-init : goal.loop-plane-init
unfolding number_at
loop-plane-init c = clear_is (length c.args.rest.now) c.filled-unlike.result _ (c.filled-unlike.ensures ∙ ap (λ (n : ℕ). replicate n false) c.len.ensures) (λ v. refl)

pub put_triple-requires-clause-second : goal.put_triple-requires-clause-second
put_triple-requires-clause-second c =
    ap length c.loop-plane.invariant ∙ length-bits_everywhere (length c.args.rest.now) _
    ∙ sym (read_long c.args.x.now c.loop-plane.plane-index c.plane-item.result c.requires c.loop-plane-test.true c.plane-item.is)

pub put_triple-requires-clause-third : goal.put_triple-requires-clause-third
put_triple-requires-clause-third c = ap length c.loop-plane.invariant ∙ length-bits_everywhere (length c.args.rest.now) _

pub loop-plane-preserved : goal.loop-plane-preserved
loop-plane-preserved c =
    let n : ℕ = length c.args.rest.now in
    let k : ℕ = c.loop-plane.plane-index in
    let m : ℕ = length c.args.x.now in
    let x : List Bool = c.plane-item.result in
    let y : List Bool = c.args.rest.now in
    let ys : List (List Bool) = replicate m y in
    let b : List Bool = c.loop-plane.unlike in
    let iny : k < length ys = omega (arith, length-replicate m y, c.loop-plane-test.true) in
    let ex : x ≡ plane_at c.args.x.now k = get_or_read c.args.x.now k x c.loop-plane-test.true c.plane-item.is [] in
    let ey : y ≡ plane_at ys k = sym (get_or-replicate m k y [] c.loop-plane-test.true) in
    let nx : length x ≡ n = ap length ex ∙ c.requires k c.loop-plane-test.true in
    let nb : length b ≡ n = ap length c.loop-plane.invariant ∙ length-bits_everywhere n _ in
    chain_more unlike_bit (λ p q. not (eqb p q)) (λ p q. not (eqb p q)) n k c.args.x.now ys x y b c.put_triple.new.self
    (unlike_step (2 ^ k)) c.loop-plane-test.true iny ex ey c.loop-plane.invariant
    (ap length c.in_ok-put_triple.ensures.ok ∙ length_triple unlike_bit b x y nb nx refl)
    (λ v h. ap (λ (l : List Bool). get_or l v false) c.in_ok-put_triple.ensures.ok ∙ get_triple unlike_bit b x y v nb nx refl h)
