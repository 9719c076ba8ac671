-- The last part is answered line by line.
use Rattle.std.proofs.Common.{◌≡◌, ℕ, ◌+◌, ◌<◌, ◌≤◌, List, [], ◌∷◌, ◌++◌, length, get_or, drop, map, Vec, Global, sym, ap, ◌∙◌, arith, add-one, drop-cons}
use Rattle.std.proofs.lemmas.List.{get_or-map, length-map}
use Rattle.paris_events.specs.State.{State}
use Rattle.paris_events.specs.Settling.{all_settled}
use Rattle.paris_session.specs.Transcript.{Sitting, answer, after_lines, replies, start, with_book}
use Rattle.paris_session.proofs.WholeLemmas.{line_done, line_counted}

-- a session on a book that is settled
pub settled_first : (s s' : Sitting) (book : State) → s ≡ with_book start book [] → s' ≡ with_book s (all_settled s.state) s.hand.tray → s' ≡ with_book start (all_settled book) []
settled_first s s' book is settled = settled ∙ ap (λ (x : Sitting). with_book x (all_settled x.state) x.hand.tray) is

pub last_next : (s new : Sitting) (ls : List (Vec ℕ Global)) (i : ℕ) (line : Vec ℕ Global) (line' text reply more out : List ℕ) (end : Sitting) → i < length ls → line ≡ get_or ls i line
    → line' ≡ line.items → (new, reply) ≡ answer s line' → more ≡ text ++ reply → text ++ replies s (drop i (map (λ (v : Vec ℕ Global). v.items) ls)) ≡ out
    → after_lines s (drop i (map (λ (v : Vec ℕ Global). v.items) ls)) ≡ end → s.hand.commands ≤ i
    → (more ++ replies new (drop (i + 1) (map (λ (v : Vec ℕ Global). v.items) ls)) ≡ out) × (after_lines new (drop (i + 1) (map (λ (v : Vec ℕ Global). v.items) ls)) ≡ end) × (new.hand.commands ≤ i + 1)
last_next s new ls i line line' text reply more out end within is same answered longer said left few =
    let f : Vec ℕ Global → List ℕ = λ v. v.items in
    let all = map f ls in
    let inside : i < length all = (let long = length-map ls f in omega (arith, within, long)) in
    let at : line' ≡ get_or all i line' = same ∙ ap f is ∙ sym (get_or-map f ls i line line' within) in
    let first : drop i all ≡ line' ∷ drop (i + 1) all = (rw add-one (drop-cons all i line' inside)) ∙ ap (λ (l : List ℕ). l ∷ drop (i + 1) all) (sym at) in (
      line_done s new all i line' text reply more out inside at answered longer said,
      ap (λ (p : Sitting × List ℕ). after_lines p.0 (drop (i + 1) all)) answered ∙ sym (ap (after_lines s) first) ∙ left,
      line_counted s new i line' reply answered few,
    )
