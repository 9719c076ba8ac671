use Rattle.std.proofs.Common.{◌≡◌, ℕ, ◌+◌, ◌*◌, ◌/◌, ◌∙◌, List, Bool, false, length, arith, ap, sym, inl, inr}
use Rattle.std.proofs.lemmas.Bool.{cases_lt}
use Rattle.std.proofs.lemmas.List.{length-replicate}
use Rattle.paris_field.specs.Numbers.{has}
use Rattle.paris_field.proofs.Places.{plane_is}
use Rattle.paris_scan.proofs.Spans.{in_line, next_line, whole_start}
use Rattle.paris_scan.proofs.repeated.line_plane.Goals as goal

pub put_span-requires-clause-start : goal.put_span-requires-clause-start
put_span-requires-clause-start c = whole_start c.loop-line.line c.args.count c.requires.whole

pub loop-line-init : goal.loop-line-init
loop-line-init c =
    record {
      long = ap length c.in_ok-plane.ensures ∙ length-replicate c.args.vps false;
      done = λ v h. absurd (omega (arith, h));
    }

pub loop-line-preserved : goal.loop-line-preserved
loop-line-preserved c =
    let i : ℕ = c.loop-line.line in
    let n : ℕ = c.args.count in
    let bits : List Bool = c.args.bits.now in
    let next : (i + 1) * n ≡ i * n + n = next_line i n in
    record {
      long = c.put_span.ensures.long ∙ c.loop-line.invariant.long;
      done = λ v h.
          elim (cases_lt v (i * n)) [
            | inl l ↦ c.put_span.ensures.before v l ∙ c.loop-line.invariant.done v l
            | inr l ↦ c.put_span.ensures.put v l (omega (arith, h, next)) ∙ ap (has bits) (sym (in_line i n v l (omega (arith, h, next))))
          ];
    }

pub returns : goal.returns
returns c =
    let n : ℕ = c.args.vps in
    let all : n ≡ c.loop-line.line * c.args.count = sym c.requires.all ∙ ap (λ l. l * c.args.count) (let e : length c.args.bits.now ≡ c.loop-line.line = omega (arith, c.loop-line-test.false, c.loop-line.auto) in e) in
    plane_is c.loop-line.plane n (λ v. has c.args.bits.now (v / c.args.count)) c.loop-line.invariant.long (λ v h. c.loop-line.invariant.done v (omega (arith, h, all)))
