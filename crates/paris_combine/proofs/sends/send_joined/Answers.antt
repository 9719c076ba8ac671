use Rattle.std.proofs.Common.{◌≡◌, ℕ, ◌<◌, ◌^◌, ◌∙◌, All, List, None, ap, false, length, subst, sym}
use Rattle.std.proofs.lemmas.List.{length-replicate}
use Rattle.paris_model.specs.declared.operators.Combiner.{Combiner}
use Rattle.paris_model.specs.Mail.{first_cause}
use Rattle.paris_model.specs.Store.{everywhere}
use Rattle.paris_field.specs.Fields.{FieldNumbers, operand}
use Rattle.paris_router.specs.Mail.{mail_in, receivers_of}
use Rattle.paris_router.proofs.Fetched.{length-everywhere}
use Rattle.paris_combine.specs.declared.sends.Joined.{Joined}
use Rattle.paris_combine.proofs.Joined.{joined_fit, joined_from, none_joined}
use Rattle.paris_combine.proofs.sends.send_joined.Goals as goal

pub deliver_mail-requires-clause-count : goal.deliver_mail-requires-clause-count
deliver_mail-requires-clause-count g c = ap length c.in_ok-words.ensures.value ∙ length-everywhere (length c.args.old.now.numbers) (operand c.args.bits c.args.old.now) ∙ c.requires.old

pub deliver_mail-requires-clause-whole : goal.deliver_mail-requires-clause-whole
deliver_mail-requires-clause-whole g c =
    let long = ap length c.in_ok-words.ensures.value ∙ length-everywhere (length c.args.old.now.numbers) (operand c.args.bits c.args.old.now) ∙ c.requires.old in
    ap length c.in_ok-receivers.ensures ∙ length-replicate c.len.result false ∙ c.len.ensures ∙ sym long

pub returns-in-Some-clause-refused : goal.returns-in-Some-clause-refused
returns-in-Some-clause-refused g c = ap (λ o. first_cause o None) (sym c.in-Some.is ∙ c.deliver_mail.ensures.bad)

pub returns-clause-refused : goal.returns-clause-refused
returns-clause-refused g c = ap (λ o. first_cause o None) (sym c.in_default.is ∙ c.deliver_mail.ensures.bad)

pub from_words-requires-clause-fit : goal.from_words-requires-clause-fit
from_words-requires-clause-fit g c =
    let L : ℕ = c.args.bits in
    let op : Combiner = g.J.Join.operator in
    let m : ℕ = length c.args.old.now.numbers in
    let mail : List (ℕ × ℕ) = mail_in L c.args.addresses.now c.args.x.now c.args.selected.now in
    let held : c.in_ok-words.words.items ≡ everywhere m (operand L c.args.old.now) = c.in_ok-words.ensures.value in
    let long : length c.in_ok-words.words.items ≡ length c.args.x.now.numbers = ap length held ∙ length-everywhere m (operand L c.args.old.now) ∙ c.requires.old in
    let start : Joined _ = record { mask = c.low_mask-mask.result; words = c.in_ok-words.words; receivers = c.in_ok-receivers.receivers; by = record {} } in
    let begun = none_joined op c.low_mask-mask.result c.len.result c.in_ok-words.words.items c.in_ok-receivers.receivers (c.len.ensures ∙ sym long) c.in_ok-receivers.ensures in
    let come = c.deliver_mail.ensures.come c.in_default.is start begun in
    let is = joined_from op L m (operand L c.args.old.now) c.in_ok-words.words.items c.deliver_mail.new.inbox.words.items mail held (come.1.0 L c.requires.narrow c.low_mask-mask.ensures) in
    subst (λ l. All (λ x. x < 2 ^ L) l) (sym (c.deref.ensures.value ∙ is)) (joined_fit op L m c.args.addresses.now c.args.x.now c.args.old.now c.args.selected.now)

pub returns-clause-value : goal.returns-clause-value
returns-clause-value g c =
    let L : ℕ = c.args.bits in
    let op : Combiner = g.J.Join.operator in
    let m : ℕ = length c.args.old.now.numbers in
    let mail : List (ℕ × ℕ) = mail_in L c.args.addresses.now c.args.x.now c.args.selected.now in
    let held : c.in_ok-words.words.items ≡ everywhere m (operand L c.args.old.now) = c.in_ok-words.ensures.value in
    let long : length c.in_ok-words.words.items ≡ length c.args.x.now.numbers = ap length held ∙ length-everywhere m (operand L c.args.old.now) ∙ c.requires.old in
    let start : Joined _ = record { mask = c.low_mask-mask.result; words = c.in_ok-words.words; receivers = c.in_ok-receivers.receivers; by = record {} } in
    let begun = none_joined op c.low_mask-mask.result c.len.result c.in_ok-words.words.items c.in_ok-receivers.receivers (c.len.ensures ∙ sym long) c.in_ok-receivers.ensures in
    let come = c.deliver_mail.ensures.come c.in_default.is start begun in
    let is = joined_from op L m (operand L c.args.old.now) c.in_ok-words.words.items c.deliver_mail.new.inbox.words.items mail held (come.1.0 L c.requires.narrow c.low_mask-mask.ensures) in
    let field : List ℕ → FieldNumbers = λ l. record { width = L; numbers = l } in
    c.in_ok-value.ensures ∙ ap field (c.deref.ensures.value ∙ is)

pub returns-clause-receivers : goal.returns-clause-receivers
returns-clause-receivers g c =
    let L : ℕ = c.args.bits in
    let op : Combiner = g.J.Join.operator in
    let m : ℕ = length c.args.old.now.numbers in
    let mail : List (ℕ × ℕ) = mail_in L c.args.addresses.now c.args.x.now c.args.selected.now in
    let held : c.in_ok-words.words.items ≡ everywhere m (operand L c.args.old.now) = c.in_ok-words.ensures.value in
    let long : length c.in_ok-words.words.items ≡ length c.args.x.now.numbers = ap length held ∙ length-everywhere m (operand L c.args.old.now) ∙ c.requires.old in
    let start : Joined _ = record { mask = c.low_mask-mask.result; words = c.in_ok-words.words; receivers = c.in_ok-receivers.receivers; by = record {} } in
    let begun = none_joined op c.low_mask-mask.result c.len.result c.in_ok-words.words.items c.in_ok-receivers.receivers (c.len.ensures ∙ sym long) c.in_ok-receivers.ensures in
    let come = c.deliver_mail.ensures.come c.in_default.is start begun in
    c.from_plane-receivers.ensures ∙ come.1.1 ∙ ap (λ k. receivers_of k mail) long
