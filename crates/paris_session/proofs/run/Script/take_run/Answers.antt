use Rattle.std.proofs.Common.{◌≡◌, ℕ, ◌+◌, ◌-◌, List, ◌++◌, length, min, take, ap, sym, ◌∙◌, arith}
use Rattle.paris_session.specs.Hands.{longest_line}
use Rattle.paris_session.proofs.ScriptLemmas.{EndsNone, goes_on, none_ends, run_ends_none, take_least}
use Rattle.paris_session.proofs.run.Script.take_run.Goals as goal

pub returns-in-Ok-clause-ends : goal.returns-in-Ok-clause-ends
returns-in-Ok-clause-ends c =
    let bytes = c.args.bytes.now in
    let n = c.len_before_line_feed-count.result in
    let clear : EndsNone (take n bytes) = rw c.len_before_line_feed-count.ensures.value (run_ends_none bytes) in
    none_ends c.args.self.now.line.items (take n bytes) clear

pub returns-in-Ok-clause-line : goal.returns-in-Ok-clause-line
returns-in-Ok-clause-line c =
    let bytes = c.args.bytes.now in
    let n = c.len_before_line_feed-count.result in
    let begun : List ℕ = c.args.self.now.line.items in
    let clear : EndsNone (take n bytes) = rw c.len_before_line_feed-count.ensures.value (run_ends_none bytes) in
    let room : c.saturating_sub-room.result ≡ longest_line + 1 - length begun = omega (arith, c.saturating_sub-room.ensures, c.len.ensures) in
    c.in-Ok.ensures.items
    ∙ ap (λ (k : ℕ). begun ++ take k bytes) (c.min.ensures ∙ ap (λ (k : ℕ). min n k) room)
    ∙ ap (λ (l : List ℕ). begun ++ l) (take_least (longest_line + 1 - length begun) n bytes)
    ∙ sym (goes_on begun (take n bytes) clear)
