use Rattle.std.proofs.Common.{◌∷◌, sym, subst}
use Rattle.std.specs.Vec.Iter.{into_iter_items}
use Rattle.paris_book.specs.Rounds.{Advances, HoldResults}
use Rattle.paris_book.proofs.Advancing.{advances_more}
use Rattle.paris_book.proofs.Slots.{results_stay}
use Rattle.paris_book.proofs.loose.Loose.keep_slots.Goals as goal
use Rattle.paris_book.proofs.loose.Loose.keep_slots.Goals.{in-None-done, in-Some-done}

pub loop-slot-preserved : goal.loop-slot-preserved
loop-slot-preserved c =
    let hold : HoldResults c.loop-slot.self (c.in-Some.slot ∷ into_iter_items c.next.new.self) = subst (HoldResults c.loop-slot.self) c.in-Some.ensures.steps.0 c.loop-slot.invariant.hold in
    elim c.match-done.branch [
      | in-None-done w ↦ record {
        can_next = tt;
        is_finite = tt;
        advances = subst (λ n. Advances n c.args.self.now c.match-done.self) (sym w.ran-is) (subst (Advances c.loop-slot.ran c.args.self.now) (sym w.self-is) c.loop-slot.invariant.advances);
        hold = subst (λ s. HoldResults s (into_iter_items c.next.new.self)) (sym w.self-is) hold.1;
      }
      | in-Some-done w ↦ record {
        can_next = tt;
        is_finite = tt;
        advances = subst (λ n. Advances n c.args.self.now c.match-done.self) (sym w.ran-is)
            (subst (Advances _ c.args.self.now) (sym w.self-is) (advances_more c.loop-slot.ran w.keep_unsettled-ran.result c.args.self.now c.loop-slot.self w.keep_unsettled-ran.new.self c.loop-slot.invariant.advances w.keep_unsettled-ran.ensures));
        hold = subst (λ s. HoldResults s (into_iter_items c.next.new.self)) (sym w.self-is) (results_stay w.keep_unsettled-ran.result c.loop-slot.self w.keep_unsettled-ran.new.self (into_iter_items c.next.new.self) w.keep_unsettled-ran.ensures hold.1);
      }
    ]

pub loop-slot-preserved-after-done : goal.loop-slot-preserved-after-done
loop-slot-preserved-after-done c =
    let hold : HoldResults c.loop-slot.self (c.in-Some.slot ∷ into_iter_items c.next.new.self) = subst (HoldResults c.loop-slot.self) c.in-Some.ensures.steps.0 c.loop-slot.invariant.hold in
    elim c.match-done.branch [
      | in-None-done w ↦ record {
        can_next = tt;
        is_finite = tt;
        advances = subst (λ n. Advances n c.args.self.now c.match-done.self) (sym w.ran-is) (subst (Advances c.loop-slot.ran c.args.self.now) (sym w.self-is) c.loop-slot.invariant.advances);
        hold = subst (λ s. HoldResults s (into_iter_items c.next.new.self)) (sym w.self-is) hold.1;
      }
      | in-Some-done w ↦ record {
        can_next = tt;
        is_finite = tt;
        advances = subst (λ n. Advances n c.args.self.now c.match-done.self) (sym w.ran-is)
            (subst (Advances _ c.args.self.now) (sym w.self-is) (advances_more c.loop-slot.ran w.keep_unsettled-ran.result c.args.self.now c.loop-slot.self w.keep_unsettled-ran.new.self c.loop-slot.invariant.advances w.keep_unsettled-ran.ensures));
        hold = subst (λ s. HoldResults s (into_iter_items c.next.new.self)) (sym w.self-is) (results_stay w.keep_unsettled-ran.result c.loop-slot.self w.keep_unsettled-ran.new.self (into_iter_items c.next.new.self) w.keep_unsettled-ran.ensures hold.1);
      }
    ]
