use Rattle.std.proofs.Common.{◌≡◌, ℕ, ◌<◌, ◌^◌, ◌∙◌, All, List, None, ap, length, subst, sym}
use Rattle.std.specs.Prelude.{nat_lt}
use Rattle.std.proofs.lemmas.List.{length-replicate}
use Rattle.paris_model.specs.Mail.{arrivals, collision_at, first_cause}
use Rattle.paris_field.specs.Fields.{FieldNumbers}
use Rattle.paris_router.specs.declared.sends.Firsts.{Firsts}
use Rattle.paris_router.specs.Mail.{HasCome, bad_sender_of, mail_in}
use Rattle.paris_router.proofs.Least.{least_one}
use Rattle.paris_router.proofs.Posted.{none_come}
use Rattle.paris_router.proofs.Senders.{delivered_fit}
use Rattle.paris_router.proofs.sends.send_words.Goals as goal

pub returns-in-Some-clause-refused : goal.returns-in-Some-clause-refused
returns-in-Some-clause-refused c =
    let mail : List (ℕ × ℕ) = mail_in c.args.bits c.args.addresses.now c.args.x.now c.args.selected.now in
    ap (λ o. first_cause o (collision_at (length c.args.x.now.numbers) mail)) (sym c.in-Some.is ∙ c.deliver_mail.ensures.bad)

pub returns-in-Some-first_one-clause-refused : goal.returns-in-Some-first_one-clause-refused
returns-in-Some-first_one-clause-refused c =
    let n : ℕ = length c.args.x.now.numbers in
    let mail : List (ℕ × ℕ) = mail_in c.args.bits c.args.addresses.now c.args.x.now c.args.selected.now in
    let start : Firsts = record { words = c.in_ok-words.words; receivers = c.in_ok-receivers.receivers; crowded = c.in_ok-crowded.crowded } in
    let zeros = c.in_ok-words.ensures.items_if_clones_equal (λ y h. h) in
    let come = subst (λ k. HasCome k mail c.deliver_mail.new.inbox.words.items c.deliver_mail.new.inbox.receivers c.deliver_mail.new.inbox.crowded) (ap length zeros ∙ length-replicate c.len-vps.result 0 ∙ c.len-vps.ensures)
    (c.deliver_mail.ensures.come c.in_default.is start (none_come c.len-vps.result start.words.items start.receivers start.crowded zeros c.in_ok-receivers.ensures c.in_ok-crowded.ensures)) in
    let good : bad_sender_of c.args.addresses.now c.args.selected.now ≡ None = sym c.deliver_mail.ensures.bad ∙ c.in_default.is in
    let crowd = c.first_one.ensures.value ∙ least_one n (λ r. nat_lt 1 (length (arrivals mail r))) c.deliver_mail.new.inbox.crowded come.1.1 in
    ap (first_cause None) (sym c.in-Some-first_one.is ∙ crowd) ∙ ap (λ b. first_cause b (collision_at n mail)) (sym good)

pub from_words-requires-clause-fit : goal.from_words-requires-clause-fit
from_words-requires-clause-fit c =
    let n : ℕ = length c.args.x.now.numbers in
    let mail : List (ℕ × ℕ) = mail_in c.args.bits c.args.addresses.now c.args.x.now c.args.selected.now in
    let start : Firsts = record { words = c.in_ok-words.words; receivers = c.in_ok-receivers.receivers; crowded = c.in_ok-crowded.crowded } in
    let zeros = c.in_ok-words.ensures.items_if_clones_equal (λ y h. h) in
    let come = subst (λ k. HasCome k mail c.deliver_mail.new.inbox.words.items c.deliver_mail.new.inbox.receivers c.deliver_mail.new.inbox.crowded) (ap length zeros ∙ length-replicate c.len-vps.result 0 ∙ c.len-vps.ensures)
    (c.deliver_mail.ensures.come c.in_default.is start (none_come c.len-vps.result start.words.items start.receivers start.crowded zeros c.in_ok-receivers.ensures c.in_ok-crowded.ensures)) in
    subst (λ l. All (λ x. x < 2 ^ c.args.bits) l) (sym (c.deref.ensures.value ∙ come.0)) (delivered_fit n c.args.bits c.args.addresses.now.numbers c.args.x.now c.args.selected.now)

pub returns-clause-refused : goal.returns-clause-refused
returns-clause-refused c =
    let n : ℕ = length c.args.x.now.numbers in
    let mail : List (ℕ × ℕ) = mail_in c.args.bits c.args.addresses.now c.args.x.now c.args.selected.now in
    let start : Firsts = record { words = c.in_ok-words.words; receivers = c.in_ok-receivers.receivers; crowded = c.in_ok-crowded.crowded } in
    let zeros = c.in_ok-words.ensures.items_if_clones_equal (λ y h. h) in
    let come = subst (λ k. HasCome k mail c.deliver_mail.new.inbox.words.items c.deliver_mail.new.inbox.receivers c.deliver_mail.new.inbox.crowded) (ap length zeros ∙ length-replicate c.len-vps.result 0 ∙ c.len-vps.ensures)
    (c.deliver_mail.ensures.come c.in_default.is start (none_come c.len-vps.result start.words.items start.receivers start.crowded zeros c.in_ok-receivers.ensures c.in_ok-crowded.ensures)) in
    let good : bad_sender_of c.args.addresses.now c.args.selected.now ≡ None = sym c.deliver_mail.ensures.bad ∙ c.in_default.is in
    let crowd = c.first_one.ensures.value ∙ least_one n (λ r. nat_lt 1 (length (arrivals mail r))) c.deliver_mail.new.inbox.crowded come.1.1 in
    ap (first_cause None) (sym c.in_default-first_one.is ∙ crowd) ∙ ap (λ b. first_cause b (collision_at n mail)) (sym good)

pub returns-clause-value : goal.returns-clause-value
returns-clause-value c =
    let n : ℕ = length c.args.x.now.numbers in
    let mail : List (ℕ × ℕ) = mail_in c.args.bits c.args.addresses.now c.args.x.now c.args.selected.now in
    let start : Firsts = record { words = c.in_ok-words.words; receivers = c.in_ok-receivers.receivers; crowded = c.in_ok-crowded.crowded } in
    let zeros = c.in_ok-words.ensures.items_if_clones_equal (λ y h. h) in
    let come = subst (λ k. HasCome k mail c.deliver_mail.new.inbox.words.items c.deliver_mail.new.inbox.receivers c.deliver_mail.new.inbox.crowded) (ap length zeros ∙ length-replicate c.len-vps.result 0 ∙ c.len-vps.ensures)
    (c.deliver_mail.ensures.come c.in_default.is start (none_come c.len-vps.result start.words.items start.receivers start.crowded zeros c.in_ok-receivers.ensures c.in_ok-crowded.ensures)) in
    let field : List ℕ → FieldNumbers = λ l. record { width = c.args.bits; numbers = l } in
    c.in_ok-value.ensures ∙ ap field (c.deref.ensures.value ∙ come.0)

pub returns-clause-receivers : goal.returns-clause-receivers
returns-clause-receivers c =
    let n : ℕ = length c.args.x.now.numbers in
    let mail : List (ℕ × ℕ) = mail_in c.args.bits c.args.addresses.now c.args.x.now c.args.selected.now in
    let start : Firsts = record { words = c.in_ok-words.words; receivers = c.in_ok-receivers.receivers; crowded = c.in_ok-crowded.crowded } in
    let zeros = c.in_ok-words.ensures.items_if_clones_equal (λ y h. h) in
    let come = subst (λ k. HasCome k mail c.deliver_mail.new.inbox.words.items c.deliver_mail.new.inbox.receivers c.deliver_mail.new.inbox.crowded) (ap length zeros ∙ length-replicate c.len-vps.result 0 ∙ c.len-vps.ensures)
    (c.deliver_mail.ensures.come c.in_default.is start (none_come c.len-vps.result start.words.items start.receivers start.crowded zeros c.in_ok-receivers.ensures c.in_ok-crowded.ensures)) in
    c.from_plane-receivers.ensures ∙ come.1.0
