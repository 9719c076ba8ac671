-- A script that is answered line by line, cut as a whole.
use Rattle.std.proofs.Common.{◌≡◌, ℕ, ◌+◌, ◌<◌, ◌≤◌, List, ◌∷◌, ◌++◌, length, drop, get_or, nat_eq, sym, ap, ◌∙◌, arith, append_assoc, append-nil, add-one, drop-cons}
use Rattle.std.proofs.lemmas.List.{drop_all}
use Rattle.std.proofs.lemmas.List.Splits.{length-slice_split}
use Rattle.std.proofs.lemmas.List.Sums.{count_by-le-length}
use Rattle.paris_session.specs.Transcript.{Sitting, answer, lines, replies}
use Rattle.paris_session.proofs.AnswerLemmas.{answer_count}

-- at most one line more than there are bytes
pub few_lines : (bytes : List ℕ) → length (lines bytes) ≤ length bytes + 1
few_lines bytes =
    let count = length-slice_split (λ b. nat_eq b 10) bytes in
    let less = count_by-le-length (λ b. nat_eq b 10) bytes in
    omega (arith, count, less)

-- what is written for the lines from one on begins with its reply
pub line_said : (s : Sitting) (all : List (List ℕ)) (i : ℕ) (line text out : List ℕ) → i < length all → line ≡ get_or all i line
    → text ++ replies s (drop i all) ≡ out → (text ++ (answer s line).1) ++ replies (answer s line).0 (drop (i + 1) all) ≡ out
line_said s all i line text out within is same =
    let first : drop i all ≡ line ∷ drop (i + 1) all =
    (rw add-one (drop-cons all i line within)) ∙ ap (λ (l : List ℕ). l ∷ drop (i + 1) all) (sym is) in
    append_assoc text (answer s line).1 (replies (answer s line).0 (drop (i + 1) all))
    ∙ ap (λ (ls : List (List ℕ)). text ++ replies s ls) (sym first) ∙ same

-- where no line is left, all is written
pub all_said : (s : Sitting) (all : List (List ℕ)) (i : ℕ) (text out : List ℕ) → length all ≤ i → text ++ replies s (drop i all) ≡ out → text ≡ out
all_said s all i text out over same =
    sym (append-nil text) ∙ ap (λ (ls : List (List ℕ)). text ++ replies s ls) (sym (drop_all i all over)) ∙ same

-- a line is answered, and its reply added to what was written
pub line_done : (s new : Sitting) (all : List (List ℕ)) (i : ℕ) (line text reply more out : List ℕ) → i < length all → line ≡ get_or all i line
    → (new, reply) ≡ answer s line → more ≡ text ++ reply → text ++ replies s (drop i all) ≡ out → more ++ replies new (drop (i + 1) all) ≡ out
line_done s new all i line text reply more out within is answered longer same =
    ap (λ (l : List ℕ). l ++ replies new (drop (i + 1) all)) longer
    ∙ ap (λ (p : Sitting × List ℕ). (text ++ p.1) ++ replies p.0 (drop (i + 1) all)) answered
    ∙ line_said s all i line text out within is same

pub line_counted : (s new : Sitting) (i : ℕ) (line reply : List ℕ) → (new, reply) ≡ answer s line → s.hand.commands ≤ i → new.hand.commands ≤ i + 1
line_counted s new i line reply answered few =
    let same : new.hand.commands ≡ (answer s line).0.hand.commands = ap (λ (p : Sitting × List ℕ). p.0.hand.commands) answered in
    omega (arith, same, answer_count s line)
