-- The lines that are kept while a script is read say what its lines say.
use Rattle.std.proofs.Common.{◌≡◌, ℕ, ◌<◌, ◌≤◌, List, [], ◌∷◌, ◌++◌, length, take, map, true, false, cond, nat_eq, nat_le, nat_lt, refl, sym, ap, ◌∙◌, arith, append_assoc, append-nil, if◌then◌else◌}
use Rattle.std.specs.Prelude.{Bool, slice_index}
use Rattle.std.specs.List.{onto_first}
use Rattle.std.proofs.lemmas.Bool.{ltb-true, ltb-false}
use Rattle.std.proofs.lemmas.Bool.Decides.{nat_tests}
use Rattle.std.proofs.lemmas.Grind.{common_steps}
use Rattle.std.proofs.lemmas.List.{take_all, length-take, take-append-le, length-append}
use Rattle.paris_session.specs.Transcript.{Sitting, start, after_lines, replies, answer, lines, all_but_last, transcript, transcript_of_ended, sitting_after}
use Rattle.paris_session.specs.Progress.{with_byte, ended_lines, open_line, said}

-- what is kept of a line
unfoldable pub kept : List ℕ → List ℕ
kept line = take 65537 line

kept_short : (line : List ℕ) → length line ≤ 65537 → kept line ≡ line
unfolding kept
kept_short line short = take_all 65537 line short

kept_nil : kept [] ≡ []
kept_nil = kept_short [] (omega arith)

kept_long : (line : List ℕ) → 65537 ≤ length line → length (kept line) ≡ 65537
unfolding kept
kept_long line long = omega (arith, length-take 65537 line)

kept_more : (line more : List ℕ) → 65537 ≤ length line → kept (line ++ more) ≡ kept line
unfolding kept
kept_more line more long = take-append-le 65537 line more long

first_of_take : (n : ℕ) (line : List ℕ) → 0 < n → slice_index (take n line) 0 ≡ slice_index line 0
first_of_take n line some = grind (arith, common_steps)

kept_first : (line : List ℕ) → slice_index (kept line) 0 ≡ slice_index line 0
unfolding kept
kept_first line = first_of_take 65537 line (omega arith)

with_byte_kept : (begun : List ℕ) (b : ℕ) → with_byte (kept begun) b ≡ kept (begun ++ b ∷ [])
with_byte_kept begun b = go (nat_lt 65536 (length begun)) refl
  where
    go : (t : Bool) → nat_lt 65536 (length begun) ≡ t → with_byte (kept begun) b ≡ kept (begun ++ b ∷ [])
    go true e =
        let long : 65536 < length begun = ltb-true 65536 (length begun) e in
        let enough : 65537 ≤ length begun = omega arith in
        let count = kept_long begun enough in
        let full : nat_le (length (kept begun)) 65536 ≡ false = rw count (grind (arith, nat_tests)) in
        rw (full, kept_more begun (b ∷ []) enough) refl
    go false e =
        let short : length begun ≤ 65536 = ltb-false 65536 (length begun) e in
        let here : nat_le (length begun) 65536 ≡ true = grind (arith, nat_tests) in
        let longer : length (begun ++ b ∷ []) ≤ 65537 = omega (arith, length-append begun (b ∷ [])) in
        rw (kept_short begun (omega arith), here, kept_short (begun ++ b ∷ []) longer) refl

-- no more of a line is wanted for its answer
answer_kept : (s : Sitting) (line : List ℕ) → answer s (kept line) ≡ answer s line
unfolding answer
answer_kept s line = go (nat_lt 65537 (length line)) refl
  where
    go : (t : Bool) → nat_lt 65537 (length line) ≡ t → answer s (kept line) ≡ answer s line
    go true e =
        let long : 65537 < length line = ltb-true 65537 (length line) e in
        let count = kept_long line (omega arith) in
        let some : nat_eq (length line) 0 ≡ false = grind (arith, nat_tests) in
        let over : nat_lt 65536 (length line) ≡ true = grind (arith, nat_tests) in
        rw (count, kept_first line, some, over) refl
    go false e =
        let short : length line ≤ 65537 = ltb-false 65537 (length line) e in
        ap (answer s) (kept_short line short)

-- a script cut at each line feed, where `begun` stands before it
abbrev pub cut : List ℕ → List ℕ → List (List ℕ)
cut begun [] = begun ∷ []
cut begun (b ∷ bs) = if nat_eq b 10 then begun ∷ cut [] bs else cut (begun ++ b ∷ []) bs

abbrev pub onto : List ℕ → List (List ℕ) → List (List ℕ)
onto begun [] = []
onto begun (line ∷ rest) = (begun ++ line) ∷ rest

onto_nil : (ls : List (List ℕ)) → onto [] ls ≡ ls
onto_nil [] = refl
onto_nil (line ∷ rest) = refl

some_line : (bs : List ℕ) → (line : List ℕ) × (rest : List (List ℕ)) × (lines bs ≡ line ∷ rest)
some_line [] = ([], [], refl)
some_line (b ∷ bs) =
    let (line, rest, e) = some_line bs in
    elim (nat_eq b 10) as (λ t. (l : List ℕ) × (r : List (List ℕ)) × (cond t ([] ∷ lines bs) (onto_first b (lines bs)) ≡ l ∷ r))
    [ true ↦ ([], lines bs, refl) | false ↦ (b ∷ line, rest, ap (onto_first b) e) ]

onto_first-onto : (begun : List ℕ) (b : ℕ) (bs : List ℕ) → onto (begun ++ b ∷ []) (lines bs) ≡ onto begun (onto_first b (lines bs))
onto_first-onto begun b bs =
    let (line, rest, e) = some_line bs in
    rw e (ap (λ (l : List ℕ). l ∷ rest) (append_assoc begun (b ∷ []) line))

cut-is : (begun bs : List ℕ) → cut begun bs ≡ onto begun (lines bs)
cut-is begun [] = ap (λ (l : List ℕ). l ∷ []) (sym (append-nil begun))
cut-is begun (b ∷ bs) =
    elim (nat_eq b 10) as (λ t. (if t then begun ∷ cut [] bs else cut (begun ++ b ∷ []) bs) ≡ onto begun (cond t ([] ∷ lines bs) (onto_first b (lines bs)))) [
      | true ↦ ap (λ (ls : List (List ℕ)). begun ∷ ls) (cut-is [] bs ∙ onto_nil (lines bs)) ∙ ap (λ (l : List ℕ). l ∷ lines bs) (sym (append-nil begun))
      | false ↦ cut-is (begun ++ b ∷ []) bs ∙ onto_first-onto begun b bs
    ]

kept_lines : (begun bs : List ℕ) → ended_lines (kept begun) bs ++ open_line (kept begun) bs ∷ [] ≡ map kept (cut begun bs)
kept_lines begun [] = refl
kept_lines begun (b ∷ bs) =
    elim (nat_eq b 10) as (λ t. (if t then kept begun ∷ ended_lines [] bs else ended_lines (with_byte (kept begun) b) bs)
    ++ (if t then open_line [] bs else open_line (with_byte (kept begun) b) bs) ∷ []
    ≡ map kept (if t then begun ∷ cut [] bs else cut (begun ++ b ∷ []) bs)) [
      | true ↦ ap (λ (ls : List (List ℕ)). kept begun ∷ ls) (rw kept_nil at (kept_lines [] bs))
      | false ↦ rw (with_byte_kept begun b) (kept_lines (begun ++ b ∷ []) bs)
    ]

-- the lines as they are read are the lines of the script, as far as they are kept
all_lines : (bs : List ℕ) → ended_lines [] bs ++ open_line [] bs ∷ [] ≡ map kept (lines bs)
all_lines bs = rw kept_nil at (kept_lines [] bs) ∙ ap (map kept) (cut-is [] bs ∙ onto_nil (lines bs))

replies_kept : (s : Sitting) (ls : List (List ℕ)) → replies s (map kept ls) ≡ replies s ls
replies_kept s [] = refl
replies_kept s (line ∷ rest) = rw (answer_kept s line) (ap (λ (l : List ℕ). (answer s line).1 ++ l) (replies_kept (answer s line).0 rest))

after_kept : (s : Sitting) (ls : List (List ℕ)) → after_lines s (map kept ls) ≡ after_lines s ls
after_kept s [] = refl
after_kept s (line ∷ rest) = ap (λ (p : Sitting × List ℕ). after_lines p.0 (map kept rest)) (answer_kept s line) ∙ after_kept (answer s line).0 rest

pub transcript_lines : (bs : List ℕ) → transcript bs ≡ replies start (ended_lines [] bs ++ open_line [] bs ∷ [])
unfolding transcript
transcript_lines bs = sym (ap (replies start) (all_lines bs) ∙ replies_kept start (lines bs))

pub sitting_lines : (bs : List ℕ) → sitting_after bs ≡ after_lines start (ended_lines [] bs ++ open_line [] bs ∷ [])
unfolding sitting_after
sitting_lines bs = sym (ap (after_lines start) (all_lines bs) ∙ after_kept start (lines bs))

ended_last : (ls : List (List ℕ)) (line : List ℕ) → all_but_last (ls ++ line ∷ []) ≡ ls
ended_last [] line = refl
ended_last (a ∷ []) line = refl
ended_last (a ∷ b ∷ ls) line = ap (λ (l : List (List ℕ)). a ∷ l) (ended_last (b ∷ ls) line)

ended_map : (ls : List (List ℕ)) → all_but_last (map kept ls) ≡ map kept (all_but_last ls)
ended_map [] = refl
ended_map (a ∷ []) = refl
ended_map (a ∷ b ∷ ls) = ap (λ (l : List (List ℕ)). kept a ∷ l) (ended_map (b ∷ ls))

pub ended_said : (bs : List ℕ) → said start [] bs ≡ transcript_of_ended bs
unfolding transcript_of_ended
ended_said bs =
    let same : ended_lines [] bs ≡ map kept (all_but_last (lines bs)) =
    sym (ended_last (ended_lines [] bs) (open_line [] bs)) ∙ ap all_but_last (all_lines bs) ∙ ended_map (lines bs) in
    ap (replies start) same ∙ replies_kept start (all_but_last (lines bs))
