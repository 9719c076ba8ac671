use Rattle.std.proofs.Common.{◌≡◌, ℕ, Bool, ◌+◌, ◌*◌, ◌/◌, ◌%◌, ◌++◌, ◌∙◌, List, ap, arith, get_or, min, subst, sym}
use Rattle.std.specs.Prelude.{◌&&◌, find, nat_le}
use Rattle.paris_geometry.specs.Geometry.{numbers_below}
use Rattle.paris_model.specs.Mail.{messages}
use Rattle.paris_plane.specs.Bits.{word_bit}
use Rattle.paris_field.specs.Numbers.{has, number_at}
use Rattle.paris_router.proofs.Least.{find_below}
use Rattle.paris_router.proofs.Sent.{agreeing_messages, messages_join}
use Rattle.paris_router.proofs.inbox.deliver_quad.Goals as goal

pub returns-clause-bad : goal.returns-clause-bad
returns-clause-bad g c =
    let n : ℕ = g.I.Inbox.count c.args.inbox.now in
    let b : ℕ = c.args.quad in
    let count : ℕ = c.min-count.result in
    let f : ℕ → Bool = λ i. word_bit (get_or c.quad_chosen-chosen.result (i / 64) 0) (i % 64) && nat_le n (get_or c.quad_operands.new.x i 0) in
    let t : ℕ → Bool = λ i. has c.args.selected.now (256 * b + i) && nat_le n (number_at c.args.addresses.now (256 * b + i)) in
    c.deliver_words.ensures.bad
    ∙ find_below f t count (λ i h.
    ap (λ s. s && nat_le n (get_or c.quad_operands.new.x i 0)) (c.quad_chosen-chosen.ensures i (omega arith) (omega (arith, c.requires.selected, c.len-vps.ensures)))
    ∙ ap (λ a. has c.args.selected.now (256 * b + i) && nat_le n a) (c.quad_operands.ensures.x i (omega arith) (omega arith)))
    ∙ ap (λ k. find t (numbers_below k)) (omega (arith, c.len-vps.ensures))

pub returns-clause-come : goal.returns-clause-come
returns-clause-come g c =
    λ none start before.
    let n : ℕ = g.I.Inbox.count c.args.inbox.now in
    let from : ℕ = 256 * c.args.quad in
    let count : ℕ = c.min-count.result in
    let selected : ℕ → Bool = has c.args.selected.now in
    let address : ℕ → ℕ = number_at c.args.addresses.now in
    let value : ℕ → ℕ = number_at c.args.x.now in
    let old : List (ℕ × ℕ) = messages from selected address value in
    let same : messages count (λ i. word_bit (get_or c.quad_chosen-chosen.result (i / 64) 0) (i % 64)) (λ i. get_or c.quad_operands.new.x i 0) (λ i. get_or c.quad_operands.new.y i 0) ≡ messages count (λ i. selected (from + i)) (λ i. address (from + i)) (λ i. value (from + i)) =
    agreeing_messages count (λ i. word_bit (get_or c.quad_chosen-chosen.result (i / 64) 0) (i % 64)) (λ i. selected (from + i)) (λ i. get_or c.quad_operands.new.x i 0) (λ i. address (from + i)) (λ i. get_or c.quad_operands.new.y i 0) (λ i. value (from + i))
    (λ i h. c.quad_chosen-chosen.ensures i (omega arith) (omega (arith, c.requires.selected, c.len-vps.ensures)))
    (λ i h. c.quad_operands.ensures.x i (omega arith) (omega arith))
    (λ i h. c.quad_operands.ensures.y i (omega arith) (omega arith)) in
    let end : from + count ≡ min (from + 256) n = omega (arith, c.len-vps.ensures) in
    let all = ap (λ l. old ++ l) same ∙ sym (messages_join from count selected address value) ∙ ap (λ k. messages k selected address value) end in
    subst (λ mail. g.I.Inbox.HasHad start mail c.deliver_words.new.inbox) all (c.deliver_words.ensures.come none start old before)
