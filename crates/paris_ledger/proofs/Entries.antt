-- A history with one more entry, and what an audit of a legal one says.
use Rattle.std.proofs.Common.{◌≡◌, List, [], ◌∷◌, ◌++◌, Bool, true, false, Result, Ok, Err, refl, sym, ◌∙◌, subst}
use Rattle.std.specs.Prelude.{◌↔◌, IsTrue, IfOk}
use Rattle.paris_events.specs.State.{State}
use Rattle.paris_events.specs.Events.{after, reply_to}
use Rattle.paris_records.specs.declared.records.Entry.{Entry}
use Rattle.paris_records.specs.History.{LegalFrom}
use Rattle.paris_audit.proofs.Agreements.{not_true}
use Rattle.paris_ledger.specs.Ledgers.{state_from}

legal_snoc : (s : State) (es : List Entry) (e : Entry) → LegalFrom s es → e.reply ≡ reply_to (state_from s es) e.event → LegalFrom s (es ++ e ∷ [])
legal_snoc s [] e legal is = (is, tt)
legal_snoc s (x ∷ es) e legal is = (legal.0, legal_snoc (after s x.event) es e legal.1 is)

state_snoc : (s : State) (es : List Entry) (e : Entry) → state_from s (es ++ e ∷ []) ≡ after (state_from s es) e.event
state_snoc s [] e = refl
state_snoc s (x ∷ es) e = state_snoc (after s x.event) es e

-- the history gets an entry with the machine's reply, and the book makes its event
pub adds : (s s' : State) (h h' : List Entry) (e : Entry) → h' ≡ h ++ e ∷ [] → LegalFrom s h → e.reply ≡ reply_to (state_from s h) e.event → s' ≡ after (state_from s h) e.event
    → LegalFrom s h' × (s' ≡ state_from s h')
adds s s' h h' e is legal answer step =
    subst (λ (g : List Entry). LegalFrom s g × (s' ≡ state_from s g)) (sym is) (legal_snoc s h e legal answer, step ∙ sym (state_snoc s h e))

-- an answer that is true exactly where a fact holds, which does
pub said_yes : (E P : Type 0) (r : Result Bool E) → IfOk r (λ answer. IsTrue answer ↔ P) → P → IfOk r (λ answer. answer ≡ true)
said_yes E P (Ok true) is fact = refl
said_yes E P (Ok false) is fact = absurd (not_true (is.1 fact))
said_yes E P (Err e) is fact = tt
