use Rattle.std.proofs.Common.{◌≡◌, ◌∙◌, ap, sym, arith, length, false, true, ltb, ◌&&◌, ◌||◌, ◌%◌, ◌<◌}
use Rattle.std.proofs.Math.Nat.{mod_self}
use Rattle.std.proofs.lemmas.Bool.Decides.{nat_tests}
use Rattle.std.proofs.lemmas.Simd.{length-zip2, length-replicate}
use Rattle.paris_plane.specs.Bits.{differ}
use Rattle.paris_field.proofs.Places.{plane_is}
use Rattle.paris_news.proofs.Periods.{marked, begun, doubled, twice_whole}
use Rattle.paris_news.proofs.coordinates.periodic_plane.Goals as goal

pub loop-step-init : goal.loop-step-init
loop-step-init c =
    let np : length c.in_ok-plane.plane ≡ c.args.len = ap length c.in_ok-plane.ensures ∙ length-replicate c.args.len false in
    let nm : length c.in_ok-moved.moved ≡ c.args.len = ap length c.in_ok-moved.ensures ∙ length-replicate c.args.len false in
    let na : length c.raise_from.new.self ≡ c.args.len = c.raise_from.ensures.long ∙ np in
    let nb : length c.raise_from-2.new.self ≡ c.args.len = c.raise_from-2.ensures.long ∙ nm in
    record {
      plane_long = ap length c.xor_in.ensures ∙ length-zip2 differ c.raise_from.new.self c.raise_from-2.new.self (na ∙ sym nb) ∙ na;
      moved_long = nb;
      whole = mod_self c.args.period;
      some = c.requires.some;
      bits = λ v h.
          begun c.args.len c.args.from c.args.until c.args.period v c.in_ok-ones.ones c.raise_from.new.self c.raise_from-2.new.self c.xor_in.new.self c.requires.order c.requires.within h c.in_ok-ones.ensures na nb
          (λ u b below. c.raise_from.ensures.low u b (omega (arith, below, np))) (λ u below. c.raise_from.ensures.raised u (omega (arith, below, np)))
          (λ u b below. c.raise_from-2.ensures.low u b (omega (arith, below, nm))) (λ u below. c.raise_from-2.ensures.raised u (omega (arith, below, nm)))
          c.xor_in.ensures;
    }

pub loop-step-preserved : goal.loop-step-preserved
loop-step-preserved c =
    let np : length c.loop-step.plane ≡ c.args.len = c.loop-step.invariant.plane_long in
    let nm : length c.loop-step.moved ≡ c.args.len = c.loop-step.invariant.moved_long in
    let nr : length c.raise_from-in-loop-step.new.self ≡ c.args.len = c.raise_from-in-loop-step.ensures.long ∙ nm in
    record {
      plane_long = ap length c.or_in.ensures ∙ length-zip2 (λ a b. a || b) c.loop-step.plane c.raise_from-in-loop-step.new.self (np ∙ sym nr) ∙ np;
      moved_long = nr;
      whole = twice_whole c.loop-step.step c.args.period c.loop-step.invariant.whole;
      some = (let y : 0 < c.loop-step.step = c.loop-step.invariant.some in omega arith);
      bits = λ v h.
          doubled c.args.len c.args.period c.loop-step.step v (marked c.args.from c.args.until) c.loop-step.plane c.raise_from-in-loop-step.new.self c.or_in.new.self np nr c.loop-step.invariant.whole h c.loop-step.invariant.bits
          (λ u b below. c.raise_from-in-loop-step.ensures.low u b (omega (arith, below, nm))) (λ u below. c.raise_from-in-loop-step.ensures.raised u (omega (arith, below, nm)))
          c.or_in.ensures;
    }

pub returns : goal.returns
returns c =
    plane_is c.loop-step.plane c.args.len (λ v. marked c.args.from c.args.until (v % c.args.period)) c.loop-step.invariant.plane_long (λ v h.
    let all : ltb v c.loop-step.step ≡ true = grind (arith, nat_tests) in
    c.loop-step.invariant.bits v h ∙ ap (λ b. b && marked c.args.from c.args.until (v % c.args.period)) all)
