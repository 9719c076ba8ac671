-- The laws of the text of instructions.
use Rattle.std.proofs.Common.{◌≡◌, ℕ, List, Result, Ok, Err, sym, ◌∙◌, ap}
use Rattle.std.specs.List.{join_with_byte}
use Rattle.std.proofs.lemmas.List.Splits.{join_with_byte-slice_split}
use Rattle.std.proofs.lemmas.Result.{MatchResult-at_ok}
use Rattle.paris_text.specs.Words.{words}
use Rattle.paris_text.specs.Columns.{IsInstructionLine, IsColumn}
use Rattle.paris_text.specs.Spelling.{Instruction, IsInBounds, spelling, words_of}
use Rattle.paris_text.specs.Reading.{instr_at}
use Rattle.paris_text.specs.Laws.{SpellingsDiffer, LinesAreSpellings, ColumnsAreUnique, LinesHaveNoColumn}
use Rattle.paris_text.proofs.InstructionLemmas.{Answers, IsInstr, line_answers, instr_back, words_spelled}
use Rattle.paris_text.proofs.ColumnLemmas.{line_has_no_column, column_is_unique}

pub spellings_differ : SpellingsDiffer
spellings_differ i j fit fit' same =
    let ws : words_of i ≡ words_of j = sym (words_spelled i fit) ∙ ap words same ∙ words_spelled j fit' in
    let read : instr_at (1, words_of i) ≡ Ok i = instr_back i fit 1 in
    let read' : instr_at (1, words_of j) ≡ Ok j = instr_back j fit' 1 in
    let both = sym read ∙ ap (λ (l : List (List ℕ)). instr_at (1, l)) ws ∙ read' in
    cc

line_is_spelling : (line : List ℕ) (r : Result Instruction ℕ) → Answers r (words line) → IsInstructionLine (words line) → (i : Instruction) × IsInBounds i × (line ≡ spelling i)
unfolding spelling
line_is_spelling line (Ok i) h inside = (i, h.fit, sym (ap (join_with_byte 32) h.same ∙ join_with_byte-slice_split 32 line))
line_is_spelling line (Err e) h inside = absurd (line_has_no_column IsInstructionLine (words line) e inside h)

spelling_is_line : (line : List ℕ) → ((i : Instruction) × IsInBounds i × (line ≡ spelling i)) → IsInstructionLine (words line)
spelling_is_line line (i, fit, is) =
    let cut : words line ≡ words_of i = ap words is ∙ words_spelled i fit in
    let read : instr_at (1, words line) ≡ Ok i = rw cut (instr_back i fit 1) in
    (MatchResult-at_ok (IsInstr (words line)) (λ e. IsColumn IsInstructionLine (words line) e) i read (line_answers line)).inside

pub lines_are_spellings : LinesAreSpellings
lines_are_spellings line = (line_is_spelling line (instr_at (1, words line)) (line_answers line), spelling_is_line line)

pub columns_are_unique : ColumnsAreUnique
columns_are_unique ws a b h k = column_is_unique IsInstructionLine ws a b h k

pub lines_have_no_column : LinesHaveNoColumn
lines_have_no_column ws column line h = line_has_no_column IsInstructionLine ws column line h
