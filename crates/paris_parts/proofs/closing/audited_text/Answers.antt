use Rattle.std.proofs.Common.{◌≡◌, ℕ, Bool, true, subst}
use Rattle.std.specs.Prelude.{IfOk}
use Rattle.paris_parts.specs.Texts.{closed_text}
use Rattle.paris_parts.proofs.closing.audited_text.Goals as goal

pub returns : goal.returns
returns c =
    let yes : c.in_ok-agree.agree ≡ true = c.in_ok-agree.ensures.1 c.requires in
    subst (λ (p : ℕ × Bool). IfOk c.closed_text.result (λ text. text.items ≡ closed_text p.0 p.1)) (λ i. (c.edits_in.ensures i, yes i)) c.closed_text.ensures
