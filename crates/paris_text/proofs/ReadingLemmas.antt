-- Reading words by kinds: what is read is spelled so, what is spelled is read back, and the column where reading stops.
use Rattle.std.proofs.Common.{◌≡◌, ℕ, ◌+◌, ◌-◌, List, [], ◌∷◌, ◌++◌, length, Option, None, Some, Result, Ok, true, false, if◌then◌else◌, refl, ap, MatchResult}
use Rattle.std.specs.Prelude.{is_some, map}
use Rattle.std.specs.List.{AllByRecursion, list_all}
use Rattle.paris_text.specs.Kinds.{Kind, Meaning, meaning, spelled, Fits, Operand}
use Rattle.paris_text.specs.Columns.{AreOfKinds, width, IsColumn}
use Rattle.paris_text.specs.Reading.{◌>>=◌, read_word, kind_at, end_at, Meanings, all_at}
use Rattle.paris_text.proofs.MnemonicLemmas.{is_spaceless}
use Rattle.paris_text.proofs.StepLemmas.{GoesOn, goes_behind, column_behind, further, wrong_word, missing_word, after_word}
use Rattle.paris_text.proofs.KindLemmas.{SpellsIt, meaning_spells, meaning_back, spelled_spaceless, sample}

-- the words of meanings
abbrev pub texts : (ks : List Kind) → Meanings ks → List (List ℕ)
texts [] xs = []
texts (k ∷ ks) xs = spelled k xs.0 ∷ texts ks xs.1

abbrev pub MeaningsFit : (ks : List Kind) → Meanings ks → Type 0
MeaningsFit [] xs = Unit {0}
MeaningsFit (k ∷ ks) xs = Fits k xs.0 × MeaningsFit ks xs.1

-- the meanings with their kinds
abbrev pub operands : (ks : List Kind) → Meanings ks → List Operand
operands [] xs = []
operands (k ∷ ks) xs = (k, xs.0) ∷ operands ks xs.1

pub operands_spelled : (ks : List Kind) (xs : Meanings ks) → map (λ (o : Operand). spelled o.0 o.1) (operands ks xs) ≡ texts ks xs
operands_spelled [] xs = refl
operands_spelled (k ∷ ks) xs = ap (λ (ws : List (List ℕ)). spelled k xs.0 ∷ ws) (operands_spelled ks xs.1)

pub operands_fit : (ks : List Kind) (xs : Meanings ks) → MeaningsFit ks xs → AllByRecursion (λ (o : Operand). Fits o.0 o.1) (operands ks xs)
operands_fit [] xs fit = tt
operands_fit (k ∷ ks) xs fit = (fit.0, operands_fit ks xs.1 fit.1)

pub fit_operands : (ks : List Kind) (xs : Meanings ks) → AllByRecursion (λ (o : Operand). Fits o.0 o.1) (operands ks xs) → MeaningsFit ks xs
fit_operands [] xs fit = tt
fit_operands (k ∷ ks) xs fit = (fit.0, fit_operands ks xs.1 fit.1)

-- where the words from column c on stop fitting
abbrev pub fault_at : ℕ → List Kind → List (List ℕ) → Option ℕ
fault_at c [] [] = None
fault_at c [] (w ∷ ws) = Some c
fault_at c (k ∷ ks) [] = Some (c - 1)
fault_at c (k ∷ ks) (w ∷ ws) = if is_some (meaning k w) then fault_at (c + length w + 1) ks ws else Some c

-- what was read of words
abbrev pub IsRead : (ks : List Kind) → List (List ℕ) → Meanings ks → Type 0
IsRead ks ws xs = (texts ks xs ≡ ws) × MeaningsFit ks xs × AreOfKinds ks ws

abbrev pub ReadsAll : (ks : List Kind) → ℕ → List (List ℕ) → Result (Meanings ks) ℕ → Type 0
ReadsAll ks c ws r = MatchResult r (IsRead ks ws) (λ e. fault_at c ks ws ≡ Some e)

pub all_read : (ks : List Kind) (c : ℕ) (ws : List (List ℕ)) → ReadsAll ks c ws (all_at ks (c, ws))
unfolding kind_at end_at
all_read [] c [] = (refl, tt, tt)
all_read [] c (w ∷ ws) = refl
all_read (k ∷ ks) c [] = refl
all_read (k ∷ ks) c (w ∷ ws) = go (meaning k w) (meaning_spells k w) (all_read ks (c + length w + 1) ws)
  where
    go : (o : Option (Meaning k)) → SpellsIt k w o → ReadsAll ks (c + length w + 1) ws (all_at ks (c + length w + 1, ws))
        → MatchResult {T = Meanings (k ∷ ks)} (read_word o c w ws >>= (λ x. all_at ks x.1 >>= λ xs. Ok (x.0, xs)))
        (λ xs. (spelled k xs.0 ∷ texts ks xs.1 ≡ w ∷ ws) × (Fits k xs.0 × MeaningsFit ks xs.1) × ((is_some o ≡ true) × AreOfKinds ks ws))
        (λ e. (if is_some o then fault_at (c + length w + 1) ks ws else Some c) ≡ Some e)
    go None h later = refl
    go (Some x) h later =
        let f : Meanings ks → Meanings (k ∷ ks) = λ xs. (x, xs) in
        after_word f (IsRead ks ws) _ _ _ (all_at ks (c + length w + 1, ws))
        (λ xs got. ((let a = h.0 in let b = got.0 in cc), (h.1, got.1), (refl, got.2))) (λ e stop. stop) later

-- meanings that fit are read back from their words
pub all_back : (ks : List Kind) (xs : Meanings ks) → MeaningsFit ks xs → (c : ℕ) → all_at ks (c, texts ks xs) ≡ Ok xs
unfolding kind_at end_at
all_back [] xs fit c = refl
all_back (k ∷ ks) xs fit c = rw (meaning_back k xs.0 fit.0, all_back ks xs.1 fit.1 (c + length (spelled k xs.0) + 1)) refl

pub texts_spaceless : (ks : List Kind) (xs : Meanings ks) → MeaningsFit ks xs → list_all is_spaceless (texts ks xs) ≡ true
texts_spaceless [] xs fit = refl
texts_spaceless (k ∷ ks) xs fit = rw (spelled_spaceless k xs.0 fit.0, texts_spaceless ks xs.1 fit.1) refl

-- some words of each list of kinds
pub samples : (ks : List Kind) → (ws : List (List ℕ)) × AreOfKinds ks ws
samples [] = ([], tt)
samples (k ∷ ks) = ((sample k).0 ∷ (samples ks).0, ((sample k).1, (samples ks).1))

-- Where the lines of a grammar go on with words of these kinds, the column at which the kinds stop fitting is the column at
-- which the line leaves the grammar.
pub column_is : (grammar : List (List ℕ) → Type 0) (done : List (List ℕ)) (ks : List Kind) → GoesOn grammar done (AreOfKinds ks) → (ws : List (List ℕ)) (c e : ℕ)
    → c ≡ 1 + width done → fault_at c ks ws ≡ Some e → IsColumn grammar (done ++ ws) e
column_is grammar done [] goes [] c e at h = absurd (cc)
column_is grammar done [] goes (w ∷ ws) c e at h =
    let same : c ≡ e = cc in
    rw (← same) (wrong_word grammar done (AreOfKinds []) goes ([], tt) w ws c (λ xs all. all) at)
column_is grammar done (k ∷ ks) goes [] c e at h =
    let same : c - 1 ≡ e = cc in
    rw (← same) (missing_word grammar done (AreOfKinds (k ∷ ks)) goes (samples (k ∷ ks)) c (λ all. all) at)
column_is grammar done (k ∷ ks) goes (w ∷ ws) c e at h =
    elim (is_some (meaning k w)) as (λ t. is_some (meaning k w) ≡ t → (if t then fault_at (c + length w + 1) ks ws else Some c) ≡ Some e → IsColumn grammar (done ++ w ∷ ws) e) [
      | true ↦ λ kw later.
          let goes' = goes_behind grammar done (AreOfKinds (k ∷ ks)) (AreOfKinds ks) w goes (λ xs all. (kw, all)) (λ xs all. all.1) in
          further grammar done w ws e (column_is grammar (done ++ w ∷ []) ks goes' ws (c + length w + 1) e (column_behind done w c at) later)
      | false ↦ λ kw here.
          let same : c ≡ e = cc in
          rw (← same) (wrong_word grammar done (AreOfKinds (k ∷ ks)) goes (samples (k ∷ ks)) w ws c (λ xs all. (let yes = all.0 in cc)) at)
    ] refl h
