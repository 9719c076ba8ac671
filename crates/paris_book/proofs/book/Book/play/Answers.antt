use Rattle.std.proofs.Common.{◌≡◌, ◌≤◌, ◌+◌, [], ◌∷◌, ◌++◌, Some, sym, ap, ◌∙◌, length, take, drop, slice_get, length-append, arith, rules}
use Rattle.std.proofs.Math.Path.{ap₂}
use Rattle.std.specs.Prelude.{vec_len, vec_capacity}
use Rattle.std.specs.Vec.Iter.{into_iter_items}
use Rattle.paris_events.specs.Plays.{Play, play_of, start_of, reply_to_move, after_move, replies_to_moves, after_moves, move_grows}
use Rattle.paris_book.proofs.Runs.{drop_more, get_first}
use Rattle.paris_book.proofs.Playing.{move_replies-append, after_moves-append}
use Rattle.paris_book.proofs.book.Book.play.Goals as goal

pub loop-next-preserved : goal.loop-next-preserved
loop-next-preserved c =
    let n = length c.loop-next.replies.items in
    let moves = c.args.moves.items in
    let first = start_of c.args.self.now in
    let held = c.loop-next.invariant in
    let more = drop_more n moves (into_iter_items c.next.new.self) c.in-Some.next (sym c.in-Some.ensures.steps.0 ∙ held.2) in
    let long : length c.push_reply.new.replies.items ≡ n + 1 = ap length c.push_reply.ensures.items ∙ length-append c.loop-next.replies.items (c.in-Ok.reply ∷ []) in
    let told : c.push_reply.new.replies.items ≡ replies_to_moves first (take (n + 1) moves) =
    c.push_reply.ensures.items ∙ ap₂ (λ xs x. xs ++ x ∷ []) held.3 (c.in-Ok.ensures.reply ∙ ap (λ (p : Play). reply_to_move p c.in-Some.next) held.4)
    ∙ sym (ap (replies_to_moves first) more.0 ∙ move_replies-append first (take n moves) (c.in-Some.next ∷ [])) in
    let play : play_of c.play_one.new.self c.play_one.new.orders.items ≡ after_moves first (take (n + 1) moves) =
    c.in-Ok.ensures.play ∙ ap (λ (p : Play). after_move p c.in-Some.next) held.4 ∙ sym (ap (after_moves first) more.0 ∙ after_moves-append first (take n moves) (c.in-Some.next ∷ [])) in
    let room : length moves ≤ vec_capacity c.push_reply.new.replies = omega (arith, held.5, c.push_reply.ensures.capacity) in
    (tt, tt, more.1 ∙ ap (λ k. drop k moves) (sym long), told ∙ ap (λ k. replies_to_moves first (take k moves)) (sym long), play ∙ ap (λ k. after_moves first (take k moves)) (sym long), room)

pub returns-in-Err-play_one-clause-grows : goal.returns-in-Err-play_one-clause-grows
returns-in-Err-play_one-clause-grows c next room there =
    let n = length c.loop-next.replies.items in
    let held = c.loop-next.invariant in
    let here : slice_get c.args.moves.items n ≡ Some c.in-Some.next = get_first n c.args.moves.items (into_iter_items c.next.new.self) c.in-Some.next (sym c.in-Some.ensures.steps.0 ∙ held.2) in
    let count : vec_len c.loop-next.replies ≡ n = search rules in
    let same : next ≡ c.in-Some.next = cc in
    ap (λ k. move_grows (after_moves (start_of c.args.self.now) (take k c.args.moves.items)) next) count
    ∙ ap₂ (λ (p : Play) m. move_grows p m) (sym held.4) same
    ∙ c.in-Err-play_one.ensures.grows
