use Rattle.std.proofs.Common.{◌<◌, ◌∙◌, ℕ, List, ap, arith, get_or, length, set, take, true, false, refl}
use Rattle.std.specs.Prelude.{nat_lt}
use Rattle.std.proofs.lemmas.List.Elements.{All-get_or}
use Rattle.paris_model.specs.Mail.{arrivals}
use Rattle.paris_router.proofs.Posted.{length-seen, none_seen, seen_more, some_more}
use Rattle.paris_router.proofs.messages.receivers.Goals as goal

pub loop-message-init : goal.loop-message-init
loop-message-init c = c.in_ok-plane.ensures ∙ none_seen (λ (r : ℕ) (xs : List ℕ). nat_lt 0 (length xs)) c.args.count false (λ r. refl)

pub set-requires : goal.set-requires
set-requires c =
    let inside : (get_or c.args.mail.now c.loop-message.message-index (0, 0)).0 < c.args.count = All-get_or (λ (m : ℕ × ℕ). m.0 < c.args.count) c.args.mail.now c.loop-message.message-index (0, 0) (omega arith) c.requires.within in
    omega (
      arith,
      inside,
      ap length c.loop-message.invariant,
      length-seen (λ (r : ℕ) (xs : List ℕ). nat_lt 0 (length xs)) c.args.count (take c.loop-message.message-index c.args.mail.now),
    )

pub loop-message-preserved : goal.loop-message-preserved
loop-message-preserved c =
    let mail = c.args.mail.now in
    let i : ℕ = c.loop-message.message-index in
    let r : ℕ = (get_or mail i (0, 0)).0 in
    let inside : r < c.args.count = All-get_or (λ (m : ℕ × ℕ). m.0 < c.args.count) mail i (0, 0) (omega arith) c.requires.within in
    c.set.ensures ∙ ap (λ p. set p r true) c.loop-message.invariant
    ∙ seen_more (λ (r : ℕ) (xs : List ℕ). nat_lt 0 (length xs)) c.args.count mail i (0, 0) true (omega arith) inside (some_more (arrivals (take i mail) r) (get_or mail i (0, 0)).1)
