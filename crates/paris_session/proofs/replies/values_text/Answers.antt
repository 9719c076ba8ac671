use Rattle.std.proofs.Common.{◌≡◌, ◌+◌, ◌<◌, ◌++◌, codes, rules, length, take, get_or, append_assoc}
use Rattle.std.proofs.lemmas.List.{take_more}
use Rattle.std.specs.Fmt.{decimal}
use Rattle.paris_session.specs.Replies.{spaced}
use Rattle.paris_session.proofs.ReplyLemmas.{spaced-last}
use Rattle.paris_session.proofs.replies.values_text.Goals as goal

pub loop-number-preserved : goal.loop-number-preserved
loop-number-preserved c =
    let numbers = c.args.numbers.now in
    let v = c.loop-number.number-index in
    let within : v < length numbers = search rules in
    let more : spaced (take (v + 1) numbers) ≡ spaced (take v numbers) ++ (codes " " ++ decimal (get_or numbers v 0)) =
    rw (take_more numbers v 0 within) (spaced-last (take v numbers) (get_or numbers v 0)) in
    rw (c.in_ok-add_number.ensures, c.loop-number.invariant, more)
    (append_assoc (codes "values") (spaced (take v numbers)) (codes " " ++ decimal (get_or numbers v 0)))
