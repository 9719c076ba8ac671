use Rattle.std.specs.Prelude.{OnOk, is_err}
use Rattle.std.proofs.Common.{rules, ◌<◌, ℕ, Result, Ok, Err, false, ◌≡◌, [], ◌∷◌, ◌++◌, ◌+◌, ◌≤◌, length, None, List, refl, sym, ap, ◌∙◌, arith, subst, drop, length-append}
use mathlib.Core.List.{IsPrefix}
use Rattle.std.specs.Arc.{arc_value}
use Rattle.paris_records.specs.declared.records.Entry.{Entry}
use Rattle.paris_records.specs.declared.records.Receipt.{Receipt}
use Rattle.paris_desk.specs.Calls.{hold_fault}
use Rattle.paris_desk.specs.Rules.{IsSound, Posted, posted}
use Rattle.paris_desk.proofs.Histories.{none_due, recorded, state_next}
use Rattle.paris_desk.proofs.Joining.{part_called}
use Rattle.paris_desk.proofs.Prefixes.{prefix_snoc}
use Rattle.paris_desk.proofs.hold.Locked.hold.Goals as goal

-- what was reserved is there
room : {A E : Type 0} (r : Result A E) (len cap : ℕ) → is_err r ≡ false → OnOk r (len + 1 ≤ cap) → len < cap
room (Ok x) len cap is ok = omega (arith, ok)
room (Err e) len cap is ok = cc

pub invariant_of-self-in_default-add : goal.invariant_of-self-in_default-add
invariant_of-self-in_default-add g c = rw c.reserve.ensures.items c.self.invariant

pub push_reserved-requires : goal.push_reserved-requires
push_reserved-requires g c = room c.reserve.result _ _ (sym c.is_err.ensures.value ∙ c.if-is_err.false) c.reserve.ensures.ok

pub push_reserved-requires-2 : goal.push_reserved-requires-2
push_reserved-requires-2 g c = room c.reserve-else-is_err.result _ _ (sym c.is_err-else-is_err.ensures.value ∙ c.if-is_err-2.false) c.reserve-else-is_err.ensures.ok

pub new-requires : goal.new-requires
new-requires g c =
    let i = c.self.invariant in
    let k = c.in-Ok.ensures in
    state_next g.L.Office.profile c.self.inside.history.items c.self.inside.known c.in-Some-add.known c.deref.result.now (arc_value c.in-Ok.prepared.shown) c.in-Ok.prepared.entry c.args.event (c.deref.ensures ∙ i.1) i.7 c.in-Some-add.ensures (ap (λ (x : Entry). x.event) k.entry) k.state.1

pub publish-writer-requires-clause-shown : goal.publish-writer-requires-clause-shown
publish-writer-requires-clause-shown g c =
    let i = c.self.invariant in
    let h = c.self.inside.history.items in
    let e = c.in-Ok.prepared.entry in
    let shown : c.in-Some-take.writer.desk.shown.value ≡ posted g.L.Office.profile g.L.Office.log h = search rules in
    let a : c.in-Some-take.writer.desk.shown.value.history ≡ h = ap (λ (x : Posted). x.history) shown in
    let b : c.new.result.history ≡ h ++ e ∷ [] = ap (λ (x : Posted). x.history) c.new.ensures.shown ∙ c.in-Some-add.ensures ∙ ap (λ (l : List Entry). l ++ e ∷ []) i.7 in
    (ap (λ (x : Posted). x.log) c.new.ensures.shown, rw (a, b) (prefix_snoc h e), subst (IsSound g.L.Office.profile) (sym c.new.ensures.shown) (c.new.ensures.legal, refl))

pub invariant_of-self-2 : goal.invariant_of-self-2
invariant_of-self-2 g c =
    let i = c.self.invariant in
    let v = c.seat.invariant in
    let k = c.in-Ok.ensures in
    let h = c.self.inside.history.items in
    let e = c.in-Ok.prepared.entry in
    let due : hold_fault g.L.Office.limit (length h) c.seat.inside.front ≡ None = search rules in
    let fits = none_due g.L.Office.limit (length h) c.seat.inside.front i.3 due in
    let near : length c.seat.inside.known ≤ length h = omega (arith, v.2, fits.0) in
    let begins : IsPrefix c.seat.inside.known h = subst (λ (l : List Entry). IsPrefix c.seat.inside.known l) i.7 (c.compare.ensures (subst (λ (l : List Entry). length c.seat.inside.known ≤ length l) (sym i.7) near)) in
    let count : c.len.result + 1 ≡ length h + 1 = omega (arith, c.len.ensures, c.reserve.ensures.len) in
    let more = c.push_reserved.ensures.items ∙ ap (λ (l : List Entry). l ++ e ∷ []) c.reserve.ensures.items in
    let noted = c.push_reserved-2.ensures.items ∙ ap (λ (l : List Receipt). l ++ c.in-Ok.prepared.receipt ∷ []) c.reserve-else-is_err.ensures.items in
    let all = c.in-Some-add.ensures ∙ ap (λ (l : List Entry). l ++ e ∷ []) i.7 ∙ sym more in
    let r = recorded g.L.Office.profile g.L.Office.limit (c.len.result + 1) h c.push_reserved.new.self.items c.seat.inside.number c.seat.inside.front c.seat.inside.receipts.items c.push_reserved-2.new.self.items c.seat.inside.known c.again.result c.deref.result.now (arc_value c.in-Ok.prepared.kept) c.self.inside.tally.total c.add-2.new.self.total c.args.event c.in-Ok.prepared.given e c.in-Ok.prepared.receipt (i.0, c.deref.ensures ∙ i.1, i.2, i.3) count due begins k.given k.entry k.receipt k.state.0 c.add-2.ensures.total more noted (c.again.ensures ∙ all) in
    let writer : (c.publish-writer.result.desk.shown.value ≡ posted g.L.Office.profile g.L.Office.log c.push_reserved.new.self.items) × (drop c.publish-writer.result.behind c.publish-writer.result.log.items ≡ []) =
    (c.publish-writer.ensures.0 ∙ c.new.ensures.shown ∙ ap (λ (l : List Entry). posted g.L.Office.profile g.L.Office.log l) all, c.publish-writer.ensures.1) in
    (r.0.0, r.0.1, r.0.2, r.0.3, i.4, i.5, i.6, c.again-2.ensures ∙ all, rw c.replace.ensures.after writer)

pub invariant_of-seat-2 : goal.invariant_of-seat-2
invariant_of-seat-2 g c =
    let i = c.self.invariant in
    let v = c.seat.invariant in
    let k = c.in-Ok.ensures in
    let h = c.self.inside.history.items in
    let e = c.in-Ok.prepared.entry in
    let due : hold_fault g.L.Office.limit (length h) c.seat.inside.front ≡ None = search rules in
    let fits = none_due g.L.Office.limit (length h) c.seat.inside.front i.3 due in
    let near : length c.seat.inside.known ≤ length h = omega (arith, v.2, fits.0) in
    let begins : IsPrefix c.seat.inside.known h = subst (λ (l : List Entry). IsPrefix c.seat.inside.known l) i.7 (c.compare.ensures (subst (λ (l : List Entry). length c.seat.inside.known ≤ length l) (sym i.7) near)) in
    let count : c.len.result + 1 ≡ length h + 1 = omega (arith, c.len.ensures, c.reserve.ensures.len) in
    let noted = c.push_reserved-2.ensures.items ∙ ap (λ (l : List Receipt). l ++ c.in-Ok.prepared.receipt ∷ []) c.reserve-else-is_err.ensures.items in
    let knows = c.again.ensures ∙ c.in-Some-add.ensures ∙ ap (λ (l : List Entry). l ++ e ∷ []) i.7 in
    let part = part_called c.seat.inside.number (c.len.result + 1) h c.seat.inside.known c.again.result c.seat.inside.receipts.items c.push_reserved-2.new.self.items e c.in-Ok.prepared.receipt c.args.event _ count v.3 begins k.entry k.receipt noted knows in
    let long = ap length knows ∙ length-append h (e ∷ []) in
    let amount = ap length noted ∙ length-append c.seat.inside.receipts.items (c.in-Ok.prepared.receipt ∷ []) in
    (omega (arith, v.0, c.add-2.ensures), omega (arith, v.1, c.add-2.ensures, amount), omega (arith, long, count), part)

pub returns-clause-recorded : goal.returns-clause-recorded
returns-clause-recorded g c =
    let i = c.self.invariant in
    let v = c.seat.invariant in
    let k = c.in-Ok.ensures in
    let h = c.self.inside.history.items in
    let e = c.in-Ok.prepared.entry in
    let due : hold_fault g.L.Office.limit (length h) c.seat.inside.front ≡ None = search rules in
    let fits = none_due g.L.Office.limit (length h) c.seat.inside.front i.3 due in
    let near : length c.seat.inside.known ≤ length h = omega (arith, v.2, fits.0) in
    let begins : IsPrefix c.seat.inside.known h = subst (λ (l : List Entry). IsPrefix c.seat.inside.known l) i.7 (c.compare.ensures (subst (λ (l : List Entry). length c.seat.inside.known ≤ length l) (sym i.7) near)) in
    let count : c.len.result + 1 ≡ length h + 1 = omega (arith, c.len.ensures, c.reserve.ensures.len) in
    let more = c.push_reserved.ensures.items ∙ ap (λ (l : List Entry). l ++ e ∷ []) c.reserve.ensures.items in
    let noted = c.push_reserved-2.ensures.items ∙ ap (λ (l : List Receipt). l ++ c.in-Ok.prepared.receipt ∷ []) c.reserve-else-is_err.ensures.items in
    let all = c.in-Some-add.ensures ∙ ap (λ (l : List Entry). l ++ e ∷ []) i.7 ∙ sym more in
    let r = recorded g.L.Office.profile g.L.Office.limit (c.len.result + 1) h c.push_reserved.new.self.items c.seat.inside.number c.seat.inside.front c.seat.inside.receipts.items c.push_reserved-2.new.self.items c.seat.inside.known c.again.result c.deref.result.now (arc_value c.in-Ok.prepared.kept) c.self.inside.tally.total c.add-2.new.self.total c.args.event c.in-Ok.prepared.given e c.in-Ok.prepared.receipt (i.0, c.deref.ensures ∙ i.1, i.2, i.3) count due begins k.given k.entry k.receipt k.state.0 c.add-2.ensures.total more noted (c.again.ensures ∙ all) in
    rw (← c.self.view_is, ← c.seat.view_is) r.1
