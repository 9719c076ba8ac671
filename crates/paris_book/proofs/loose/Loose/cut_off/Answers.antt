use Rattle.std.proofs.Common.{sym, arith}
use Rattle.paris_book.proofs.Cutting.{none_passed, passed_to, passed_one, passed_all}
use Rattle.paris_book.proofs.Finds.{entry_at}
use Rattle.paris_book.proofs.loose.Loose.cut_off.Goals as goal

pub loop-place-init : goal.loop-place-init
loop-place-init c = none_passed c.args.self.now 0 (λ i r less at. absurd (omega (arith, less)))

pub returns : goal.returns
returns c = passed_all c.args.self.now c.loop-place.self c.loop-place.from c.loop-place.invariant (sym c.in_default.ensures.value)

pub loop-place-preserved : goal.loop-place-preserved
loop-place-preserved c =
    let passed = passed_to c.args.self.now c.loop-place.self c.loop-place.from c.loop-place.invariant c.in-Some.place (sym c.in-Some.ensures.value) in
    let r = entry_at c.loop-place.self.rows c.in-Some.place c.in-Some.ensures.within.1 in
    passed_one c.args.self.now c.loop-place.self c.in-Some.place passed r.0 c.cut_at.new.self r.1 c.cut_at.ensures.state
