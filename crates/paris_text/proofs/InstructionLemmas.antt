-- Instructions and their words: reading a line, and reading back what is spelled.
use Rattle.std.proofs.Common.{◌≡◌, ℕ, ◌+◌, List, [], ◌∷◌, ◌++◌, length, Option, None, Some, Result, Ok, Err, true, refl, sym, ◌∙◌, ap, subst, MatchResult}
use Rattle.std.specs.Prelude.{IfOk, IfErr, map}
use Rattle.std.specs.List.{join_with_byte, AllByRecursion, list_all}
use Rattle.std.proofs.lemmas.List.Splits.{join_with_byte-slice_split}
use Rattle.std.proofs.lemmas.Result.{MatchResult-at_ok, MatchResult-at_err}
use Rattle.paris_model.specs.declared.actions.Action.TheVariants.{OnSelected, OnAll, ByNews, AlongLine, ByMail}
use Rattle.paris_model.specs.declared.actions.Conditional.TheVariants as conditional
use Rattle.paris_model.specs.declared.actions.Unconditional.TheVariants as unconditional
use Rattle.paris_model.specs.declared.actions.News.TheVariants as neighbour
use Rattle.paris_model.specs.declared.actions.Line.TheVariants as line
use Rattle.paris_model.specs.declared.actions.Mail.TheVariants as mail
use Rattle.paris_text.specs.declared.reader.Syntax.{Syntax}
use Rattle.paris_text.specs.declared.mnemonics.FlagAction.TheVariants.{SetTest}
use Rattle.paris_text.specs.declared.mnemonics.NewsMove.TheVariants as news
use Rattle.paris_text.specs.declared.mnemonics.Mnemonic.{Mnemonic}
use Rattle.paris_text.specs.declared.mnemonics.Mnemonic.TheVariants.{Flag, News, MyAddress}
use Rattle.paris_text.specs.Words.{words}
use Rattle.paris_text.specs.Mnemonics.{text, mnemonic_word}
use Rattle.paris_text.specs.Kinds.{spelled, Fits, Operand}
use Rattle.paris_text.specs.Columns.{expects, AreOfKinds, IsInstructionLine, width, IsColumn}
use Rattle.paris_text.specs.Spelling.{Instruction, Parts, instruction_parts, words_of, operand_words, spelling, IsInBounds}
use Rattle.paris_text.specs.Reading.{place, Gives, ◌>>=◌, read_word, mnemonic_at, Meanings, all_at, instr_of, operands_at, instr_at}
use Rattle.paris_text.proofs.JoinLemmas.{split_joined}
use Rattle.paris_text.proofs.MnemonicLemmas.{is_spaceless, text_found, found_text, text_spaceless}
use Rattle.paris_text.proofs.ReadingLemmas.{texts, MeaningsFit, operands, operands_spelled, operands_fit, fit_operands, IsRead, fault_at, all_read, all_back, texts_spaceless, samples, column_is}
use Rattle.paris_text.proofs.StepLemmas.{GoesOn, goes_on, goes_behind, column_behind, further, wrong_word, missing_word}
use Rattle.paris_text.proofs.PlaceLemmas.{place_start}

-- the parts of the instruction that is made of some meanings
parts_made : (m : Mnemonic) (xs : Meanings (expects m)) → instruction_parts (instr_of m xs) ≡ (m, operands (expects m) xs)
parts_made (Flag SetTest) xs = refl
parts_made (News news.Get) xs = refl
parts_made _ xs = refl

-- the meanings that an instruction is made of
record Made (i : Instruction) : Type 0 where
  means : Meanings (expects (instruction_parts i).0)
  whole : instr_of (instruction_parts i).0 means ≡ i
  same : operands (expects (instruction_parts i).0) means ≡ (instruction_parts i).1

made : (i : Instruction) → Made i
made (OnSelected (conditional.Binary o a b c d)) = record { means = (a, (b, (c, (d, tt)))); whole = refl; same = refl }
made (OnSelected (conditional.Unary o a b c)) = record { means = (a, (b, (c, tt))); whole = refl; same = refl }
made (OnSelected (conditional.MoveConstant a b c)) = record { means = (a, (b, (c, tt))); whole = refl; same = refl }
made (OnSelected (conditional.Resize o a b c d)) = record { means = (a, (b, (c, (d, tt)))); whole = refl; same = refl }
made (OnSelected (conditional.Compare o a b c)) = record { means = (a, (b, (c, tt))); whole = refl; same = refl }
made (OnSelected (conditional.MyCoordinate a b c)) = record { means = (a, (b, (c, tt))); whole = refl; same = refl }
made (OnSelected (conditional.MyAddress a b)) = record { means = (a, (b, tt)); whole = refl; same = refl }
made (OnSelected (conditional.SetTest a)) = record { means = (a, tt); whole = refl; same = refl }
made (OnSelected (conditional.ClearTest a)) = record { means = (a, tt); whole = refl; same = refl }
made (OnSelected (conditional.LoadTest a)) = record { means = (a, tt); whole = refl; same = refl }
made (OnSelected (conditional.StoreTest a)) = record { means = (a, tt); whole = refl; same = refl }
made (OnAll (unconditional.MoveAlways a b c)) = record { means = (a, (b, (c, tt))); whole = refl; same = refl }
made (OnAll (unconditional.SetContext a)) = record { means = (a, tt); whole = refl; same = refl }
made (OnAll (unconditional.ClearContext a)) = record { means = (a, tt); whole = refl; same = refl }
made (OnAll (unconditional.InvertContext a)) = record { means = (a, tt); whole = refl; same = refl }
made (OnAll (unconditional.LoadContext a)) = record { means = (a, tt); whole = refl; same = refl }
made (OnAll (unconditional.AndContext a)) = record { means = (a, tt); whole = refl; same = refl }
made (OnAll (unconditional.OrContext a)) = record { means = (a, tt); whole = refl; same = refl }
made (OnAll (unconditional.AndContextWithTest a)) = record { means = (a, tt); whole = refl; same = refl }
made (OnAll (unconditional.StoreContext a)) = record { means = (a, tt); whole = refl; same = refl }
made (ByNews (neighbour.Get a b c d e)) = record { means = (a, (b, (c, (d, (e, tt))))); whole = refl; same = refl }
made (ByNews (neighbour.Send a b c d e)) = record { means = (a, (b, (c, (d, (e, tt))))); whole = refl; same = refl }
made (AlongLine (line.Scan o a b c d e f g)) = record { means = (a, (b, (c, (d, (e, (f, (g, tt))))))); whole = refl; same = refl }
made (AlongLine (line.CopyScan a b c d e f)) = record { means = (a, (b, (c, (d, (e, (f, tt)))))); whole = refl; same = refl }
made (AlongLine (line.Spread o a b c d)) = record { means = (a, (b, (c, (d, tt)))); whole = refl; same = refl }
made (AlongLine (line.CopySpread a b c d e)) = record { means = (a, (b, (c, (d, (e, tt))))); whole = refl; same = refl }
made (AlongLine (line.Reduce o a b c d e)) = record { means = (a, (b, (c, (d, (e, tt))))); whole = refl; same = refl }
made (ByMail (mail.Get a b c d)) = record { means = (a, (b, (c, (d, tt)))); whole = refl; same = refl }
made (ByMail (mail.Send a b c d e)) = record { means = (a, (b, (c, (d, (e, tt))))); whole = refl; same = refl }
made (ByMail (mail.CombiningSend o a b c d e)) = record { means = (a, (b, (c, (d, (e, tt))))); whole = refl; same = refl }

abbrev Listed : Parts → List (List ℕ)
Listed p = text p.0 ∷ map (λ (o : Operand). spelled o.0 o.1) p.1

-- the words of the instruction that is made of some meanings
words_made : (m : Mnemonic) (xs : Meanings (expects m)) → words_of (instr_of m xs) ≡ text m ∷ texts (expects m) xs
words_made m xs = ap Listed (parts_made m xs) ∙ ap (λ (ws : List (List ℕ)). text m ∷ ws) (operands_spelled (expects m) xs)

made_is_spelled : (m : Mnemonic) (xs : Meanings (expects m)) → MeaningsFit (expects m) xs → IsInBounds (instr_of m xs)
made_is_spelled m xs fit =
    subst (λ (p : Parts). AllByRecursion (λ (o : Operand). Fits o.0 o.1) p.1) (sym (parts_made m xs)) (operands_fit (expects m) xs fit)

-- what these words read as
pub record IsInstr (ws : List (List ℕ)) (i : Instruction) : Type 0 where
  pub same : words_of i ≡ ws
  pub fit : IsInBounds i
  pub inside : IsInstructionLine ws

-- what reading an instruction behind the words `done` answers
abbrev pub AnswersAfter : (List (List ℕ) → Type 0) → List (List ℕ) → List (List ℕ) → Result Instruction ℕ → Type 0
AnswersAfter grammar done ws r = MatchResult r (IsInstr ws) (λ e. IsColumn grammar (done ++ ws) e)

-- a line of this mnemonic, and none of another
first_is : (m : Mnemonic) (w : List ℕ) (xs : List (List ℕ)) → mnemonic_word w ≡ Some m → IsInstructionLine (w ∷ xs) → AreOfKinds (expects m) xs
first_is m w xs found (n, is, all) =
    let again : mnemonic_word w ≡ Some n = subst (λ (v : List ℕ). mnemonic_word v ≡ Some n) (sym is) (text_found n) in
    let same : m ≡ n = cc in
    subst (λ (k : Mnemonic). AreOfKinds (expects k) xs) (sym same) all

after_all : (grammar : List (List ℕ) → Type 0) (done : List (List ℕ)) → GoesOn grammar done IsInstructionLine → (m : Mnemonic) (c : ℕ) (w : List ℕ) (ws : List (List ℕ)) → c ≡ 1 + width done
    → mnemonic_word w ≡ Some m → (r : Result (Meanings (expects m)) ℕ)
    → MatchResult r (IsRead (expects m) ws) (λ e. fault_at (c + length w + 1) (expects m) ws ≡ Some e) → AnswersAfter grammar done (w ∷ ws) (r >>= λ xs. Ok (instr_of m xs))
after_all grammar done goes m c w ws at found (Ok xs) h =
    let first : text m ≡ w = found_text w m found in
    record {
      same = words_made m xs ∙ (let rest = h.0 in cc);
      fit = made_is_spelled m xs h.1;
      inside = (m, sym first, h.2);
    }
after_all grammar done goes m c w ws at found (Err e) h =
    let goes' = goes_behind grammar done IsInstructionLine (AreOfKinds (expects m)) w goes (λ xs all. (m, sym (found_text w m found), all)) (λ xs line. first_is m w xs found line) in
    further grammar done w ws e (column_is grammar (done ++ w ∷ []) (expects m) goes' ws (c + length w + 1) e (column_behind done w c at) h)

-- some line of an instruction
pub some_line : (ws : List (List ℕ)) × IsInstructionLine ws
some_line = (text MyAddress ∷ (samples (expects MyAddress)).0, (MyAddress, refl, (samples (expects MyAddress)).1))

-- a word that is no mnemonic begins no line
no_mnemonic : (w : List ℕ) (ws : List (List ℕ)) → mnemonic_word w ≡ None → IsInstructionLine (w ∷ ws) → ⊥
no_mnemonic w ws none (m, is, all) =
    let some : mnemonic_word w ≡ Some m = subst (λ (v : List ℕ). mnemonic_word v ≡ Some m) (sym is) (text_found m) in
    let bad : None ≡ Some m = sym none ∙ some in
    cc

-- reading an instruction behind other words of a line
pub instr_read : (grammar : List (List ℕ) → Type 0) (done : List (List ℕ)) → GoesOn grammar done IsInstructionLine → (c : ℕ) (ws : List (List ℕ)) → c ≡ 1 + width done
    → AnswersAfter grammar done ws (instr_at (c, ws))
unfolding instr_at mnemonic_at operands_at
instr_read grammar done goes c [] at = missing_word grammar done IsInstructionLine goes some_line c (λ line. line) at
instr_read grammar done goes c (w ∷ ws) at = go (mnemonic_word w) refl
  where
    go : (o : Option Mnemonic) → mnemonic_word w ≡ o → AnswersAfter grammar done (w ∷ ws) (read_word o c w ws >>= (λ x. operands_at x.0 x.1))
    go None none = wrong_word grammar done IsInstructionLine goes some_line w ws c (λ xs line. no_mnemonic w xs none line) at
    go (Some m) some = after_all grammar done goes m c w ws at some (all_at (expects m) (c + length w + 1, ws)) (all_read (expects m) (c + length w + 1) ws)

abbrev pub Answers : Result Instruction ℕ → List (List ℕ) → Type 0
Answers r ws = AnswersAfter IsInstructionLine [] ws r

pub line_answers : (line : List ℕ) → Answers (instr_at (1, words line)) (words line)
line_answers line = instr_read IsInstructionLine [] (goes_on IsInstructionLine) 1 (words line) refl

-- what an instruction spells is read back
words_back : (m : Mnemonic) (xs : Meanings (expects m)) → MeaningsFit (expects m) xs → (c : ℕ) → instr_at (c, text m ∷ texts (expects m) xs) ≡ Ok (instr_of m xs)
unfolding instr_at mnemonic_at operands_at
words_back m xs fit c = rw (text_found m, all_back (expects m) xs fit (c + length (text m) + 1)) refl

-- an instruction's words are the words of its meanings, and these fit
abbrev MadeWords : Instruction → Type 0
MadeWords i = (xs : Meanings (expects (instruction_parts i).0)) × (instr_of (instruction_parts i).0 xs ≡ i) × (words_of i ≡ text (instruction_parts i).0 ∷ texts (expects (instruction_parts i).0) xs) × MeaningsFit (expects (instruction_parts i).0) xs

made_words : (i : Instruction) → IsInBounds i → MadeWords i
made_words i fit =
    let ks = expects (instruction_parts i).0 in
    let xs = (made i).means in
    let same : operands ks xs ≡ (instruction_parts i).1 = (made i).same in
    let all : AllByRecursion (λ (o : Operand). Fits o.0 o.1) (operands ks xs) = subst (AllByRecursion (λ (o : Operand). Fits o.0 o.1)) (sym same) fit in
    let spelt : words_of i ≡ text (instruction_parts i).0 ∷ texts ks xs =
    ap (λ (os : List Operand). text (instruction_parts i).0 ∷ map (λ (o : Operand). spelled o.0 o.1) os) (sym same) ∙ ap (λ (ws : List (List ℕ)). text (instruction_parts i).0 ∷ ws) (operands_spelled ks xs) in
    (xs, (made i).whole, spelt, fit_operands ks xs all)

pub instr_back : (i : Instruction) → IsInBounds i → (c : ℕ) → instr_at (c, words_of i) ≡ Ok i
instr_back i fit c =
    let h = made_words i fit in
    subst (λ (ws : List (List ℕ)). instr_at (c, ws) ≡ Ok i) (sym h.2) (words_back (instruction_parts i).0 h.0 h.3 c ∙ ap Ok h.1)

pub instr_spaceless : (i : Instruction) → IsInBounds i → list_all is_spaceless (words_of i) ≡ true
instr_spaceless i fit =
    let h = made_words i fit in
    let m = (instruction_parts i).0 in
    let plain : list_all is_spaceless (text m ∷ texts (expects m) h.0) ≡ true = rw (text_spaceless m, texts_spaceless (expects m) h.0 h.3) refl in
    subst (λ (ws : List (List ℕ)). list_all is_spaceless ws ≡ true) (sym h.2) plain

pub words_spelled : (i : Instruction) → IsInBounds i → words (spelling i) ≡ words_of i
unfolding spelling
words_spelled i fit = split_joined 32 (text (instruction_parts i).0) (operand_words (instruction_parts i).1) (instr_spaceless i fit)

-- what a reader of the code gave of a line, in the words of the line
pub gave_spelled : (r : Result Instruction Syntax) (line : List ℕ) → Gives (λ (x : Instruction). x) r (instr_at (place line 0)) → IfOk r (λ i. line ≡ spelling i)
unfolding spelling
gave_spelled (Err e) line h = tt
gave_spelled (Ok i) line h =
    let read : instr_at (1, words line) ≡ Ok i = rw place_start at h in
    let answer : IsInstr (words line) i = MatchResult-at_ok (IsInstr (words line)) (λ e. IsColumn IsInstructionLine (words line) e) i read (line_answers line) in
    sym (ap (join_with_byte 32) answer.same ∙ join_with_byte-slice_split 32 line)

pub gave_bounds : (r : Result Instruction Syntax) (line : List ℕ) → Gives (λ (x : Instruction). x) r (instr_at (place line 0)) → IfOk r (λ i. IsInBounds i)
gave_bounds (Err e) line h = tt
gave_bounds (Ok i) line h =
    let read : instr_at (1, words line) ≡ Ok i = rw place_start at h in
    (MatchResult-at_ok (IsInstr (words line)) (λ e. IsColumn IsInstructionLine (words line) e) i read (line_answers line)).fit

pub gave_column : (r : Result Instruction Syntax) (line : List ℕ) → Gives (λ (x : Instruction). x) r (instr_at (place line 0)) → IfErr r (λ e. IsColumn IsInstructionLine (words line) e.0)
gave_column (Ok i) line h = tt
gave_column (Err e) line h =
    let read : instr_at (1, words line) ≡ Err e.0 = rw place_start at h in
    MatchResult-at_err (IsInstr (words line)) (λ k. IsColumn IsInstructionLine (words line) k) e.0 read (line_answers line)

pub gave_back : (r : Result Instruction Syntax) (line : List ℕ) → Gives (λ (x : Instruction). x) r (instr_at (place line 0))
    → (i : Instruction) → IsInBounds i → line ≡ spelling i → r ≡ Ok i
gave_back r line h i fit is =
    let cut : words line ≡ words_of i = ap words is ∙ words_spelled i fit in
    let read : instr_at (place line 0) ≡ Ok i = rw (place_start, cut) (instr_back i fit 1) in
    go r h read
  where
    go : (q : Result Instruction Syntax) → Gives (λ (x : Instruction). x) q (instr_at (place line 0)) → instr_at (place line 0) ≡ Ok i → q ≡ Ok i
    go (Ok j) k e = let same : j ≡ i = cc in ap Ok same
    go (Err f) k e = cc
