use Rattle.std.proofs.Common.{◌≡◌, ℕ, nat_eq, rules, arith, sym, length}
use Rattle.std.proofs.lemmas.List.Sums.{position_or_len_is}
use Rattle.paris_session.proofs.run.len_before_line_feed.Goals as goal

pub returns-then-is_line_feed-clause-value : goal.returns-then-is_line_feed-clause-value
returns-then-is_line_feed-clause-value c = sym (position_or_len_is (λ (b : ℕ). nat_eq b 10) c.args.bytes.now c.loop-i.i 0 (search rules) c.loop-i.invariant (λ _. search rules))

pub returns-clause-value : goal.returns-clause-value
returns-clause-value c =
    let end : c.loop-i.i ≡ length c.args.bytes.now = omega (arith) in
    sym (position_or_len_is (λ (b : ℕ). nat_eq b 10) c.args.bytes.now (length c.args.bytes.now) 0 (search rules) (λ k h. c.loop-i.invariant k (omega arith)) (λ h. absurd (omega arith)))
