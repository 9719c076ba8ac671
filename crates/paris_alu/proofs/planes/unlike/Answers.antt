use Rattle.std.proofs.Common.{◌≡◌, ℕ, ◌^◌, ◌<◌, ◌∙◌, ap, arith, length, get_or, false, List, Bool, [], refl, sym, eqb, not}
use Rattle.std.proofs.lemmas.List.{get_or_read}
use Rattle.paris_field.specs.Numbers.{number_at, plane_at}
use Rattle.paris_alu.specs.Bits.{unlike_bit}
use Rattle.paris_field.proofs.Places.{clear_is, get_triple, length-bits_everywhere, length_triple, read_long}
use Rattle.paris_alu.proofs.Steps.{unlike_step}
use Rattle.paris_alu.proofs.Chains.{chain_more}
use Rattle.paris_alu.proofs.planes.unlike.Goals as goal

pub loop-k-init : goal.loop-k-init
unfolding number_at
loop-k-init c = clear_is c.args.vps c.filled-unlike.result _ c.filled-unlike.ensures (λ v. refl)

pub put_triple-requires-clause-second : goal.put_triple-requires-clause-second
put_triple-requires-clause-second c =
    ap length c.loop-k.invariant ∙ length-bits_everywhere c.args.vps _
    ∙ sym (read_long c.args.x.now c.loop-k.k c.index-x-k.result c.requires.x_planes c.loop-k-test.true c.index-x-k.is)

pub put_triple-requires-clause-third : goal.put_triple-requires-clause-third
put_triple-requires-clause-third c =
    ap length c.loop-k.invariant ∙ length-bits_everywhere c.args.vps _
    ∙ sym (read_long c.args.y.now c.loop-k.k c.index-y-k.result c.requires.y_planes (omega arith) c.index-y-k.is)

pub loop-k-preserved : goal.loop-k-preserved
loop-k-preserved c =
    let k : ℕ = c.loop-k.k in
    let x : List Bool = c.index-x-k.result in
    let y : List Bool = c.index-y-k.result in
    let b : List Bool = c.loop-k.unlike in
    let iny : k < length c.args.y.now = omega arith in
    let ex : x ≡ plane_at c.args.x.now k = get_or_read c.args.x.now k x c.loop-k-test.true c.index-x-k.is [] in
    let ey : y ≡ plane_at c.args.y.now k = get_or_read c.args.y.now k y iny c.index-y-k.is [] in
    let nx : length x ≡ c.args.vps = ap length ex ∙ c.requires.x_planes k c.loop-k-test.true in
    let ny : length y ≡ c.args.vps = ap length ey ∙ c.requires.y_planes k iny in
    let nb : length b ≡ c.args.vps = ap length c.loop-k.invariant ∙ length-bits_everywhere c.args.vps _ in
    chain_more unlike_bit (λ p q. not (eqb p q)) (λ p q. not (eqb p q)) c.args.vps k c.args.x.now c.args.y.now x y b c.put_triple.new.self
    (unlike_step (2 ^ k)) c.loop-k-test.true iny ex ey c.loop-k.invariant
    (ap length c.in_ok-put_triple.ensures.ok ∙ length_triple unlike_bit b x y nb nx ny)
    (λ v h. ap (λ (l : List Bool). get_or l v false) c.in_ok-put_triple.ensures.ok ∙ get_triple unlike_bit b x y v nb nx ny h)
