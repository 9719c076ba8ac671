-- Commands and their words: reading a line, and reading back what is spelled.
use Rattle.std.proofs.Common.{◌≡◌, ℕ, ◌+◌, List, [], ◌∷◌, length, Option, None, Some, Result, Ok, Err, true, false, refl, sym, ◌∙◌, ap, subst, arith, append-nil, codes, MatchResult}
use Rattle.std.specs.List.{join_with_byte, list_all}
use Rattle.std.proofs.lemmas.List.Splits.{join_with_byte-slice_split}
use Rattle.std.proofs.lemmas.Result.{MatchResult-at_ok, MatchResult-at_err}
use Rattle.paris_edits.specs.declared.edits.Edit.TheVariants as edit
use Rattle.paris_text.specs.declared.verbs.Verb.{Verb}
use Rattle.paris_text.specs.declared.verbs.Verb.TheVariants as verb
use Rattle.paris_text.specs.declared.verbs.Setting.{Setting}
use Rattle.paris_text.specs.declared.commands.Command.{Command}
use Rattle.paris_text.specs.declared.commands.Command.TheVariants as command
use Rattle.paris_text.specs.Words.{words}
use Rattle.paris_text.specs.Verbs.{verb_text, verb_in, allows}
use Rattle.paris_text.specs.Kinds.{key_text}
use Rattle.paris_text.specs.Columns.{IsColumn}
use Rattle.paris_text.specs.Shapes.{spot_words, shape_of, IsOf, IsCommandLine}
use Rattle.paris_text.specs.Commands.{command_words, command_spelling, IsCommandInBounds, verb_of, MayStand}
use Rattle.paris_text.specs.Reading.{◌>>=◌, read_word}
use Rattle.paris_text.specs.CommandReading.{ShapeMeaning, shape_at, command_from, verb_at, rest_at, command_at, command_in}
use Rattle.paris_text.specs.Laws.{CommandsAreRead, ColumnsOfCommands, CommandSpellingsDiffer, LinesAreCommands}
use Rattle.paris_text.proofs.JoinLemmas.{split_joined}
use Rattle.paris_text.proofs.MnemonicLemmas.{is_spaceless}
use Rattle.paris_text.proofs.VerbLemmas.{verb_found_in, found_verb_in, verb_spaceless, take_is_allowed}
use Rattle.paris_text.proofs.ColumnLemmas.{line_has_no_column, column_is_unique}
use Rattle.paris_text.proofs.StepLemmas.{goes_on, goes_behind, wrong_word, missing_word, after_word}
use Rattle.paris_text.proofs.ShapeLemmas.{shape_words, ShapeMeaningFits, IsMeant, shape_read, shape_back, shape_spaceless}

-- the words of the command that is made of some meanings
words_from : (v : Verb) (xs : ShapeMeaning (shape_of v)) → command_words (command_from v xs) ≡ verb_text v ∷ shape_words (shape_of v) xs
unfolding verb_text
words_from verb.Set xs = refl
words_from verb.Insert xs = refl
words_from verb.Show xs = ap (λ (ws : List (List ℕ)). codes "show" ∷ key_text xs.0 ∷ ws) (sym (append-nil (spot_words xs.1.0)))
words_from _ xs = refl

fits_from : (v : Verb) (xs : ShapeMeaning (shape_of v)) → ShapeMeaningFits (shape_of v) xs → IsCommandInBounds (command_from v xs)
fits_from verb.Set xs fit = (fit.0, fit.1.0)
fits_from verb.Field xs fit = (fit.0, fit.1.0, fit.1.1.0)
fits_from verb.Input xs fit = (fit.0, fit.1.0, fit.1.1.0, fit.1.1.1)
fits_from verb.Insert xs fit = (fit.0, fit.1)
fits_from verb.Delete xs fit = fit.0
fits_from verb.Replace xs fit = (fit.0, fit.1)
fits_from verb.Take xs fit = tt
fits_from verb.Bring xs fit = fit.0
fits_from verb.Release xs fit = tt
fits_from verb.Show xs fit = (fit.0, fit.1.0)
fits_from verb.List xs fit = tt
fits_from verb.Faults xs fit = tt
fits_from verb.Settle xs fit = tt
fits_from verb.Paris xs fit = tt

verb_from : (v : Verb) (xs : ShapeMeaning (shape_of v)) → verb_of (command_from v xs) ≡ v
verb_from verb.Set xs = refl
verb_from _ xs = refl

-- the meanings that a command is made of
record MadeOf (c : Command) : Type 0 where
  first : Verb
  means : ShapeMeaning (shape_of first)
  whole : command_from first means ≡ c
  fits : ShapeMeaningFits (shape_of first) means

made_of : (c : Command) → IsCommandInBounds c → MadeOf c
made_of (command.Edit (edit.AddSet name axes)) fit = record { first = verb.Set; means = (name, (axes, tt)); whole = refl; fits = (fit.0, (fit.1, tt)) }
made_of (command.Edit (edit.AddField name set width)) fit = record { first = verb.Field; means = (name, (set, (width, tt))); whole = refl; fits = (fit.0, (fit.1, (fit.2, tt))) }
made_of (command.Edit (edit.Input key from values)) fit = record { first = verb.Input; means = (key, (from, values)); whole = refl; fits = (fit.0, (fit.1, (fit.2, fit.3))) }
made_of (command.Edit (edit.Insert spot instr)) fit = record { first = verb.Insert; means = (spot, instr); whole = refl; fits = (fit.0, fit.1) }
made_of (command.Edit (edit.Delete row)) fit = record { first = verb.Delete; means = (row.0, tt); whole = refl; fits = (fit, tt) }
made_of (command.Edit (edit.Replace row instr)) fit = record { first = verb.Replace; means = (row.0, instr); whole = refl; fits = (fit.0, fit.1) }
made_of command.Take fit = record { first = verb.Take; means = tt; whole = refl; fits = tt }
made_of (command.Bring order) fit = record { first = verb.Bring; means = (order, tt); whole = refl; fits = (fit, tt) }
made_of command.Release fit = record { first = verb.Release; means = tt; whole = refl; fits = tt }
made_of (command.Show key spot) fit = record { first = verb.Show; means = (key, (spot, tt)); whole = refl; fits = (fit.0, (fit.1, tt)) }
made_of command.List fit = record { first = verb.List; means = tt; whole = refl; fits = tt }
made_of command.Faults fit = record { first = verb.Faults; means = tt; whole = refl; fits = tt }
made_of command.Settle fit = record { first = verb.Settle; means = tt; whole = refl; fits = tt }
made_of (command.Paris profile) fit = record { first = verb.Paris; means = (profile, tt); whole = refl; fits = (tt, tt) }

-- what these words read as
record IsReadAs (s : Setting) (ws : List (List ℕ)) (c : Command) : Type 0 where
  same : command_words c ≡ ws
  fit : MayStand s c
  inside : IsCommandLine s ws

abbrev Answers : Setting → List (List ℕ) → Result Command ℕ → Type 0
Answers s ws r = MatchResult r (IsReadAs s ws) (λ e. IsColumn (IsCommandLine s) ws e)

verb_is : (s : Setting) (v : Verb) (w : List ℕ) (xs : List (List ℕ)) → verb_in s w ≡ Some v → IsCommandLine s (w ∷ xs) → IsOf (shape_of v) xs
verb_is s v w xs found (u, is, may, all) =
    let again : verb_in s w ≡ Some u = subst (λ (t : List ℕ). verb_in s t ≡ Some u) (sym is) (verb_found_in s u may) in
    let same : v ≡ u = cc in
    subst (λ (t : Verb). IsOf (shape_of t) xs) (sym same) all

not_a_verb : (s : Setting) (w : List ℕ) (xs : List (List ℕ)) → verb_in s w ≡ None → IsCommandLine s (w ∷ xs) → ⊥
not_a_verb s w xs none (u, is, may, all) =
    let some : verb_in s w ≡ Some u = subst (λ (t : List ℕ). verb_in s t ≡ Some u) (sym is) (verb_found_in s u may) in
    let bad : None ≡ Some u = sym none ∙ some in
    cc

some_command : (s : Setting) → (ws : List (List ℕ)) × IsCommandLine s ws
some_command s = (verb_text verb.Take ∷ [], (verb.Take, refl, take_is_allowed s, tt))

command_read : (s : Setting) (ws : List (List ℕ)) → Answers s ws (command_at s (1, ws))
unfolding command_at verb_at rest_at
command_read s [] = missing_word (IsCommandLine s) [] (IsCommandLine s) (goes_on (IsCommandLine s)) (some_command s) 1 (λ line. line) refl
command_read s (w ∷ ws) = go (verb_in s w) refl
  where
    go : (o : Option Verb) → verb_in s w ≡ o → Answers s (w ∷ ws) (read_word o 1 w ws >>= λ x. rest_at x.0 x.1)
    go None none = wrong_word (IsCommandLine s) [] (IsCommandLine s) (goes_on (IsCommandLine s)) (some_command s) w ws 1 (λ xs line. not_a_verb s w xs none line) refl
    go (Some v) found =
        let has = found_verb_in s w v found in
        let first : verb_text v ≡ w = has.0 in
        let goes = goes_behind (IsCommandLine s) [] (IsCommandLine s) (IsOf (shape_of v)) w (goes_on (IsCommandLine s)) (λ xs all. (v, sym first, has.1, all)) (λ xs line. verb_is s v w xs found line) in
        after_word (command_from v) (IsMeant (shape_of v) ws) (IsReadAs s (w ∷ ws)) (λ e. IsColumn (IsCommandLine s) (w ∷ ws) e) (λ e. IsColumn (IsCommandLine s) (w ∷ ws) e) (shape_at (shape_of v) (1 + length w + 1, ws))
        (λ xs got. record { same = words_from v xs ∙ (let rest = got.0 in cc); fit = (ap (allows s) (verb_from v xs) ∙ has.1, fits_from v xs got.1); inside = (v, sym first, has.1, got.2) })
        (λ e stop. stop) (shape_read (shape_of v) (IsCommandLine s) (w ∷ []) goes ws (1 + length w + 1) (omega arith))

-- a command that may stand there is read back from its words
command_back : (s : Setting) (c : Command) → MayStand s c → command_at s (1, command_words c) ≡ Ok c
unfolding command_at verb_at rest_at
command_back s c (allowed, fit) =
    let m = made_of c fit in
    let first : verb_of c ≡ m.first = ap verb_of (sym m.whole) ∙ verb_from m.first m.means in
    let may : allows s m.first ≡ true = ap (allows s) (sym first) ∙ allowed in
    let spelt : command_words c ≡ verb_text m.first ∷ shape_words (shape_of m.first) m.means = ap command_words (sym m.whole) ∙ words_from m.first m.means in
    let read : command_at s (1, verb_text m.first ∷ shape_words (shape_of m.first) m.means) ≡ Ok (command_from m.first m.means) =
    rw (verb_found_in s m.first may, shape_back (shape_of m.first) m.means m.fits (1 + length (verb_text m.first) + 1)) refl in
    ap (λ (ws : List (List ℕ)). command_at s (1, ws)) spelt ∙ read ∙ ap Ok m.whole

words_spelled : (c : Command) → IsCommandInBounds c → words (command_spelling c) ≡ command_words c
unfolding command_spelling
words_spelled c fit =
    let m = made_of c fit in
    let spelt : command_words c ≡ verb_text m.first ∷ shape_words (shape_of m.first) m.means = ap command_words (sym m.whole) ∙ words_from m.first m.means in
    let plain : list_all is_spaceless (verb_text m.first ∷ shape_words (shape_of m.first) m.means) ≡ true =
    rw (verb_spaceless m.first, shape_spaceless (shape_of m.first) m.means m.fits) refl in
    ap (λ (ws : List (List ℕ)). words (join_with_byte 32 ws)) spelt ∙ split_joined 32 (verb_text m.first) (shape_words (shape_of m.first) m.means) plain ∙ sym spelt

read_back : (s : Setting) (line : List ℕ) (c : Command) → MayStand s c → line ≡ command_spelling c → command_in s line ≡ Ok c
unfolding command_in
read_back s line c fit is =
    let cut : words line ≡ command_words c = ap words is ∙ words_spelled c fit.1 in
    ap (λ (ws : List (List ℕ)). command_at s (1, ws)) cut ∙ command_back s c fit

line_answers : (s : Setting) (line : List ℕ) → Answers s (words line) (command_in s line)
unfolding command_in
line_answers s line = command_read s (words line)

read_as : (s : Setting) (line : List ℕ) (c : Command) → command_in s line ≡ Ok c → IsReadAs s (words line) c
read_as s line c read = MatchResult-at_ok (IsReadAs s (words line)) (λ e. IsColumn (IsCommandLine s) (words line) e) c read (line_answers s line)

pub commands_are_read : CommandsAreRead
unfolding command_spelling
commands_are_read s line c = (there, λ h. read_back s line c h.0 h.1)
  where
    there : command_in s line ≡ Ok c → MayStand s c × (line ≡ command_spelling c)
    there read =
        let got = read_as s line c read in
        (got.fit, sym (ap (join_with_byte 32) got.same ∙ join_with_byte-slice_split 32 line))

pub columns_of_commands : ColumnsOfCommands
columns_of_commands s line column = (there, λ leaves. back leaves (command_in s line) refl)
  where
    there : command_in s line ≡ Err column → IsColumn (IsCommandLine s) (words line) column
    there stops = MatchResult-at_err (IsReadAs s (words line)) (λ e. IsColumn (IsCommandLine s) (words line) e) column stops (line_answers s line)

    back : IsColumn (IsCommandLine s) (words line) column → (r : Result Command ℕ) → command_in s line ≡ r → command_in s line ≡ Err column
    back leaves (Ok c) read = absurd (line_has_no_column (IsCommandLine s) (words line) column (read_as s line c read).inside leaves)
    back leaves (Err e) stops =
        let other = MatchResult-at_err (IsReadAs s (words line)) (λ k. IsColumn (IsCommandLine s) (words line) k) e stops (line_answers s line) in
        stops ∙ ap Err (column_is_unique (IsCommandLine s) (words line) e column other leaves)

-- the first command of a script, in which any verb may stand
abbrev in_first : Setting
in_first = record { is_shared = false; is_first = true }

in_first_allows : (v : Verb) → allows in_first v ≡ true
in_first_allows verb.Set = refl
in_first_allows _ = refl

pub command_spellings_differ : CommandSpellingsDiffer
command_spellings_differ b c fit fit' same =
    let read : command_in in_first (command_spelling b) ≡ Ok b = read_back in_first (command_spelling b) b (in_first_allows (verb_of b), fit) refl in
    let read' : command_in in_first (command_spelling b) ≡ Ok c = read_back in_first (command_spelling b) c (in_first_allows (verb_of c), fit') same in
    cc

pub lines_are_commands : LinesAreCommands
lines_are_commands s line = (λ inside. there inside (command_in s line) refl, λ (c, fit, is). (read_as s line c (read_back s line c fit is)).inside)
  where
    there : IsCommandLine s (words line) → (r : Result Command ℕ) → command_in s line ≡ r → (c : Command) × MayStand s c × (line ≡ command_spelling c)
    there inside (Ok c) read = let h = (commands_are_read s line c).0 read in (c, h.0, h.1)
    there inside (Err e) stops = absurd (line_has_no_column (IsCommandLine s) (words line) e inside ((columns_of_commands s line e).0 stops))
