use Rattle.std.proofs.Common.{◌≡◌, ◌≤◌, ◌+◌, [], ◌∷◌, ◌++◌, Some, sym, ap, ◌∙◌, length, take, drop, slice_get, length-append, arith}
use Rattle.std.proofs.Math.Path.{ap₂}
use Rattle.std.specs.Prelude.{vec_capacity}
use Rattle.std.specs.Vec.Iter.{into_iter_items}
use Rattle.paris_events.specs.State.{State}
use Rattle.paris_events.specs.Events.{reply_to, after, replies_to, after_all, grows}
use Rattle.paris_book.proofs.Runs.{replies-append, after-append, drop_more, get_first}
use Rattle.paris_book.proofs.book.Book.run_events.Goals as goal

pub loop-event-preserved : goal.loop-event-preserved
loop-event-preserved c =
    let n = length c.loop-event.replies.items in
    let events = c.args.events.items in
    let first = c.args.self.now in
    let held = c.loop-event.invariant in
    let more = drop_more n events (into_iter_items c.next.new.self) c.in-Some.event (sym c.in-Some.ensures.steps.0 ∙ held.2) in
    let long : length c.push_reply.new.replies.items ≡ n + 1 = ap length c.push_reply.ensures.items ∙ length-append c.loop-event.replies.items (c.in-Ok.reply ∷ []) in
    let told : c.push_reply.new.replies.items ≡ replies_to first (take (n + 1) events) =
    c.push_reply.ensures.items ∙ ap₂ (λ xs x. xs ++ x ∷ []) held.3 (c.in-Ok.ensures.reply ∙ ap (λ (s : State). reply_to s c.in-Some.event) held.4)
    ∙ sym (ap (replies_to first) more.0 ∙ replies-append first (take n events) (c.in-Some.event ∷ [])) in
    let state : c.step.new.self ≡ after_all first (take (n + 1) events) =
    c.in-Ok.ensures.state ∙ ap (λ (s : State). after s c.in-Some.event) held.4 ∙ sym (ap (after_all first) more.0 ∙ after-append first (take n events) (c.in-Some.event ∷ [])) in
    let room : length events ≤ vec_capacity c.push_reply.new.replies = omega (arith, held.5, c.push_reply.ensures.capacity) in
    (tt, tt, more.1 ∙ ap (λ k. drop k events) (sym long), told ∙ ap (λ k. replies_to first (take k events)) (sym long), state ∙ ap (λ k. after_all first (take k events)) (sym long), room)

pub returns-in-Err-step-clause-grows : goal.returns-in-Err-step-clause-grows
returns-in-Err-step-clause-grows c next room there =
    let n = length c.loop-event.replies.items in
    let held = c.loop-event.invariant in
    let here : slice_get c.args.events.items n ≡ Some c.in-Some.event = get_first n c.args.events.items (into_iter_items c.next.new.self) c.in-Some.event (sym c.in-Some.ensures.steps.0 ∙ held.2) in
    let same : next ≡ c.in-Some.event = cc in
    ap₂ (λ (s : State) e. grows s e) c.in-Err-step.ensures.err.1 same ∙ c.in-Err-step.ensures.grows
