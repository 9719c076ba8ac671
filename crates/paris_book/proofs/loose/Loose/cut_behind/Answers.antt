use Rattle.std.proofs.Common.{◌+◌, ap, ◌∙◌, sym}
use Rattle.std.specs.Prelude.{true, if◌then◌else◌}
use Rattle.paris_names.specs.Keys.{has_key, key_slot}
use Rattle.paris_model.specs.Instructions.{writes}
use Rattle.paris_depends.specs.Sweeps.{marked}
use Rattle.paris_book.proofs.Finds.{entry_at}
use Rattle.paris_book.proofs.Pending.{none_marked}
use Rattle.paris_book.proofs.Sweeping.{sweep_starts, sweep_skip, sweep_more, sweep_ends, sweep_all}
use Rattle.paris_book.proofs.loose.Loose.cut_behind.Goals as goal

pub loop-behind-init : goal.loop-behind-init
loop-behind-init c = record {
  was = c.requires;
  swept = sweep_starts c.args.self.now c.args.place c.requires (marked c.mark_writes.new.fresh)
      (λ r k at. c.mark_writes.ensures.marks r k at ∙ ap (λ b. if has_key (writes r.plan) k then true else b) (none_marked 128 (key_slot k)));
}

pub returns-then-mark_writes : goal.returns-then-mark_writes
returns-then-mark_writes c =
    let first = c.args.self.now in
    let was = c.loop-behind.invariant.was in
    let s = c.loop-behind.self in
    let within = c.in-Some.ensures.within in
    let skipped = sweep_skip first c.args.place was (marked c.loop-behind.fresh) c.loop-behind.from s c.loop-behind.invariant.swept c.in-Some.behind (sym c.in-Some.ensures.value) within.0 within.1 in
    let r = entry_at s.rows c.in-Some.behind within.1 in
    let next = sweep_more first c.args.place was (marked c.loop-behind.fresh) (marked c.mark_writes-in-Some.new.fresh) c.in-Some.behind s c.sweep_at-cut.new.self c.sweep_at-cut.result skipped r.0 r.1 c.sweep_at-cut.ensures.cut c.sweep_at-cut.ensures.state c.mark_writes-in-Some.ensures.marks in
    sweep_ends first c.args.place was (marked c.mark_writes-in-Some.new.fresh) (c.in-Some.behind + 1) c.sweep_at-cut.new.self next (c.mark_writes-in-Some.ensures.none c.if-mark_writes.true)

pub loop-behind-preserved : goal.loop-behind-preserved
loop-behind-preserved c =
    let first = c.args.self.now in
    let was = c.loop-behind.invariant.was in
    let s = c.loop-behind.self in
    let within = c.in-Some.ensures.within in
    let skipped = sweep_skip first c.args.place was (marked c.loop-behind.fresh) c.loop-behind.from s c.loop-behind.invariant.swept c.in-Some.behind (sym c.in-Some.ensures.value) within.0 within.1 in
    let r = entry_at s.rows c.in-Some.behind within.1 in
    record {
      was = was;
      swept = sweep_more first c.args.place was (marked c.loop-behind.fresh) (marked c.mark_writes-in-Some.new.fresh) c.in-Some.behind s c.sweep_at-cut.new.self c.sweep_at-cut.result skipped r.0 r.1 c.sweep_at-cut.ensures.cut c.sweep_at-cut.ensures.state c.mark_writes-in-Some.ensures.marks;
    }

pub returns : goal.returns
returns c = sweep_all c.args.self.now c.args.place c.loop-behind.invariant.was (marked c.loop-behind.fresh) c.loop-behind.from c.loop-behind.self c.loop-behind.invariant.swept (sym c.in_default.ensures.value)
