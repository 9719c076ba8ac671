-- The parts of a script that was read are short.
use Rattle.std.proofs.Common.{◌≡◌, ℕ, ◌+◌, ◌*◌, ◌<◌, ◌≤◌, true, false, List, [], ◌∷◌, ◌++◌, length, refl, arith, length-append, if◌then◌else◌}
use Rattle.std.specs.List.{All}
use Rattle.std.proofs.lemmas.List.Elements.{All-cons, All-head, All-nil, All-tail}
use Rattle.paris_session.specs.Transcript.{lines}
use Rattle.paris_session.specs.Run.{most_reads}
use Rattle.paris_session.proofs.WholeLemmas.{few_lines}
use Rattle.paris_parts.specs.Parts.{IsShort, cut, is_cut_line, parts}

-- where there are few lines, each part is short
pub parts_short : (begun lines : List (List ℕ)) → length begun + length lines < 1125899906842624 → All IsShort (cut begun lines)
parts_short begun [] few = All-cons IsShort begun [] (omega (arith, few)) (All-nil IsShort)
parts_short begun (line ∷ rest) few =
    elim (is_cut_line line) as (λ t. All IsShort (if t then begun ∷ cut [] rest else cut (begun ++ line ∷ []) rest)) [
      | true ↦ All-cons IsShort begun (cut [] rest) (omega (arith, few)) (parts_short [] rest (omega (arith, few)))
      | false ↦ parts_short (begun ++ line ∷ []) rest (let long = length-append begun (line ∷ []) in omega (arith, few, long))
    ]

pub short_played : (played : List (List (List ℕ))) (last : List (List ℕ)) → All IsShort (played ++ last ∷ []) → All IsShort played × IsShort last
short_played [] last short = (All-nil IsShort, All-head IsShort last [] short)
short_played (p ∷ played) last short =
    let rest = short_played played last (All-tail IsShort p (played ++ last ∷ []) short) in
    (All-cons IsShort p played (All-head IsShort p (played ++ last ∷ []) short) rest.0, rest.1)

-- the parts of a script that was read are short
pub script_short : (script : List ℕ) → length script ≤ 4096 * most_reads → All IsShort (parts script)
unfolding parts
script_short script few =
    let lines_few = few_lines script in
    let most : most_reads ≡ 1073741824 = refl in
    parts_short [] (lines script) (omega (arith, few, lines_few, most))
