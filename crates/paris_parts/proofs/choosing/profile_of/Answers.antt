use Rattle.std.proofs.Common.{◌≡◌, ℕ, List, ◌+◌, Some, true, drop, map, Vec, Global, sym, ap, ◌∙◌}
use Rattle.paris_session.specs.Hands.{Hand, asked, empty_hand}
use Rattle.paris_parts.specs.Beginning.{chosen_or, profile_of}
use Rattle.paris_parts.proofs.ChosenProfiles.{first_chooses}
use Rattle.paris_parts.proofs.choosing.profile_of.Goals as goal

pub returns-in-Some : goal.returns-in-Some
returns-in-Some c =
    let bytes : Vec ℕ Global → List ℕ = λ line. line.items in
    let later = profile_of (map bytes (drop (c.loop-line.line-index + 1) c.lines-lines.result.now)) in
    let some : Some c.in-Some.asked ≡ asked true (empty_hand true) (bytes c.line-item.result) =
    sym c.in-Some.is ∙ c.in_ok-asked.ensures.ok
    ∙ ap (λ (h : Hand). asked true h c.as_slice.result.now) c.new-hand.ensures
    ∙ ap (λ (l : List ℕ). asked true (empty_hand true) l) c.as_slice.ensures.value in
    c.chosen_by.ensures ∙ ap (chosen_or later) some
    ∙ sym (first_chooses bytes c.loop-line.line-index c.lines-lines.result.now c.line-item.result c.loop-line-test.true c.line-item.is) ∙ c.loop-line.invariant
