-- Reading words by a shape: what is read is spelled so, what is spelled is read back, and the column where reading stops.
use Rattle.std.proofs.Common.{◌≡◌, ℕ, ◌+◌, List, [], ◌∷◌, ◌++◌, length, Option, None, Some, Result, Ok, Err, true, false, if◌then◌else◌, refl, sym, ◌∙◌, ap, subst, MatchResult, codes}
use Rattle.std.specs.Prelude.{Bool, ◌≢◌, is_some, map}
use Rattle.std.specs.List.{AllByRecursion, list_all}
use Rattle.std.specs.Str.{bytes_eq}
use Rattle.std.specs.Fmt.{decimal}
use Rattle.std.proofs.lemmas.Slice.Eq.{bytes_eq-Decides}
use Rattle.std.proofs.lemmas.Result.{MatchResult-weaker}
use Rattle.std.proofs.lemmas.List.Folds.{list_all-append}
use Rattle.paris_names.specs.declared.ids.Spot.{Spot}
use Rattle.paris_names.specs.declared.ids.Spot.TheVariants.{Start, After, End}
use Rattle.paris_text.specs.Kinds.{Kind, Meaning, meaning, spelled, Fits}
use Rattle.paris_text.specs.Kinds.Kind.{NumberWord}
use Rattle.paris_text.specs.Columns.{width, IsColumn}
use Rattle.paris_text.specs.Spelling.{words_of, IsInBounds}
use Rattle.paris_text.specs.Shapes.{Shape, spot_words, SpotFits, IsOf}
use Rattle.paris_text.specs.Shapes.Shape.{Done, One, Many, AtSpot, Whole}
use Rattle.paris_text.specs.Reading.{Place, ◌>>=◌, read_word, word_at, kind_at, end_at, instr_at}
use Rattle.paris_text.specs.CommandReading.{each_at, many_at, spot_at, ShapeMeaning, shape_at}
use Rattle.paris_text.proofs.MnemonicLemmas.{is_spaceless}
use Rattle.paris_text.proofs.KindLemmas.{SpellsIt, meaning_spells, meaning_back, spelled_spaceless, sample}
use Rattle.paris_text.proofs.StepLemmas.{GoesOn, goes_behind, column_behind, further, wrong_word, missing_word, after_word}
use Rattle.paris_text.proofs.InstructionLemmas.{IsInstr, instr_read, instr_back, instr_spaceless, some_line}

-- every word is of the kind
abbrev pub AreAll : Kind → List (List ℕ) → Type 0
AreAll k ws = AllByRecursion (λ w. is_some (meaning k w) ≡ true) ws

-- the words of what words of a shape stand for
abbrev pub shape_words : (s : Shape) → ShapeMeaning s → List (List ℕ)
shape_words Done xs = []
shape_words (One k rest) xs = spelled k xs.0 ∷ shape_words rest xs.1
shape_words (Many k) xs = map (spelled k) xs
shape_words (AtSpot rest) xs = spot_words xs.0 ++ shape_words rest xs.1
shape_words Whole xs = words_of xs

abbrev pub ShapeMeaningFits : (s : Shape) → ShapeMeaning s → Type 0
ShapeMeaningFits Done xs = Unit {0}
ShapeMeaningFits (One k rest) xs = Fits k xs.0 × ShapeMeaningFits rest xs.1
ShapeMeaningFits (Many k) xs = (xs ≢ []) × AllByRecursion (Fits k) xs
ShapeMeaningFits (AtSpot rest) xs = SpotFits xs.0 × ShapeMeaningFits rest xs.1
ShapeMeaningFits Whole xs = IsInBounds xs

-- some words of each shape
pub shape_sample : (s : Shape) → (ws : List (List ℕ)) × IsOf s ws
shape_sample Done = ([], tt)
shape_sample (One k rest) = ((sample k).0 ∷ (shape_sample rest).0, ((sample k).1, (shape_sample rest).1))
shape_sample (Many k) = ((sample k).0 ∷ [], ((sample k).1, tt))
shape_sample (AtSpot rest) = (codes "start" ∷ (shape_sample rest).0, (Start, (shape_sample rest).0, refl, tt, (shape_sample rest).1))
shape_sample Whole = some_line

-- what was read of words
abbrev pub IsMeant : (s : Shape) → List (List ℕ) → ShapeMeaning s → Type 0
IsMeant s ws xs = (shape_words s xs ≡ ws) × ShapeMeaningFits s xs × IsOf s ws

abbrev IsEach : (k : Kind) → List (List ℕ) → List (Meaning k) → Type 0
IsEach k ws xs = (map (spelled k) xs ≡ ws) × AllByRecursion (Fits k) xs × AreAll k ws

-- A word of a kind, and then what else is read: `f` makes the whole of both.
kind_step : (grammar : List (List ℕ) → Type 0) (done : List (List ℕ)) (rest later : List (List ℕ) → Type 0) → GoesOn grammar done rest → (xs : List (List ℕ)) × rest xs
    → (k : Kind) (w : List ℕ) (ws : List (List ℕ)) (c : ℕ) → c ≡ 1 + width done
    → ((xs : List (List ℕ)) → is_some (meaning k w) ≡ true → later xs → rest (w ∷ xs)) → ((xs : List (List ℕ)) → rest (w ∷ xs) → (is_some (meaning k w) ≡ true) × later xs)
    → {A B : Type 0} (more : Place → Result A ℕ) (f : Meaning k → A → B) (P : A → Type 0) (Q : B → Type 0)
    → (GoesOn grammar (done ++ w ∷ []) later → MatchResult (more (c + length w + 1, ws)) P (λ e. IsColumn grammar ((done ++ w ∷ []) ++ ws) e))
    → ((x : Meaning k) → spelled k x ≡ w → Fits k x → is_some (meaning k w) ≡ true → (a : A) → P a → Q (f x a))
    → MatchResult (read_word (meaning k w) c w ws >>= λ x. more x.1 >>= λ a. Ok (f x.0 a)) Q (λ e. IsColumn grammar (done ++ w ∷ ws) e)
kind_step grammar done rest later goes some k w ws c at there back {A = A} {B = B} more f P Q read join = go (meaning k w) refl (meaning_spells k w)
  where
    go : (o : Option (Meaning k)) → meaning k w ≡ o → SpellsIt k w o
        → MatchResult (read_word o c w ws >>= λ x. more x.1 >>= λ a. Ok (f x.0 a)) Q (λ e. IsColumn grammar (done ++ w ∷ ws) e)
    go None none h = wrong_word grammar done rest goes some w ws c (λ xs all. (let yes = (back xs all).0 in let no : is_some (meaning k w) ≡ false = rw none refl in cc)) at
    go (Some x) is h =
        let yes : is_some (meaning k w) ≡ true = rw is refl in
        let goes' = goes_behind grammar done rest later w goes (λ xs all. there xs yes all) (λ xs all. (back xs all).1) in
        after_word (f x) P Q (λ e. IsColumn grammar ((done ++ w ∷ []) ++ ws) e) (λ e. IsColumn grammar (done ++ w ∷ ws) e) (more (c + length w + 1, ws))
        (λ a got. join x h.0 h.1 yes a got) (λ e stop. further grammar done w ws e stop) (read goes')

each_read : (k : Kind) (grammar : List (List ℕ) → Type 0) (done : List (List ℕ)) → GoesOn grammar done (AreAll k) → (ws : List (List ℕ)) (c : ℕ) → c ≡ 1 + width done
    → MatchResult (each_at k c ws) (IsEach k ws) (λ e. IsColumn grammar (done ++ ws) e)
each_read k grammar done goes [] c at = (refl, tt, tt)
each_read k grammar done goes (w ∷ ws) c at =
    kind_step grammar done (AreAll k) (AreAll k) goes ([], tt) k w ws c at (λ xs yes all. (yes, all)) (λ xs all. all) (λ p. each_at k (c + length w + 1) ws) (λ x xs. x ∷ xs)
    (IsEach k ws) (IsEach k (w ∷ ws)) (λ goes'. each_read k grammar (done ++ w ∷ []) goes' ws (c + length w + 1) (column_behind done w c at))
    (λ x is fit yes xs got. ((let rest = got.0 in cc), (fit, got.1), (yes, got.2)))

-- the word of a place of the program that it is
spot_is : (w t : List ℕ) → bytes_eq w t ≡ true → w ≡ t
spot_is w t h = (bytes_eq-Decides w t).0 h

spot_is_not : (w t : List ℕ) → bytes_eq w t ≡ false → w ≡ t → ⊥
spot_is_not w t h same = let yes : bytes_eq w t ≡ true = (bytes_eq-Decides w t).1 same in cc

-- what words behind some words are read as, or the column of the whole
abbrev pub Reads : (s : Shape) → (List (List ℕ) → Type 0) → Type 0
Reads s grammar = (done : List (List ℕ)) → GoesOn grammar done (IsOf s) → (ws : List (List ℕ)) (c : ℕ) → c ≡ 1 + width done
    → MatchResult (shape_at s (c, ws)) (IsMeant s ws) (λ e. IsColumn grammar (done ++ ws) e)

one_read : (k : Kind) (rest : Shape) (grammar : List (List ℕ) → Type 0) → Reads rest grammar → Reads (One k rest) grammar
unfolding kind_at
one_read k rest grammar later done goes [] c at = missing_word grammar done (IsOf (One k rest)) goes (shape_sample (One k rest)) c (λ all. all) at
one_read k rest grammar later done goes (w ∷ ws) c at =
    kind_step grammar done (IsOf (One k rest)) (IsOf rest) goes (shape_sample (One k rest)) k w ws c at (λ xs yes all. (yes, all)) (λ xs all. all) (shape_at rest) (λ x xs. (x, xs))
    (IsMeant rest ws) (IsMeant (One k rest) (w ∷ ws)) (λ goes'. later (done ++ w ∷ []) goes' ws (c + length w + 1) (column_behind done w c at))
    (λ x is fit yes xs got. ((let more = got.0 in cc), (fit, got.1), (yes, got.2)))

many_read : (k : Kind) (grammar : List (List ℕ) → Type 0) → Reads (Many k) grammar
unfolding many_at kind_at
many_read k grammar done goes [] c at = missing_word grammar done (IsOf (Many k)) goes (shape_sample (Many k)) c (λ all. all) at
many_read k grammar done goes (w ∷ ws) c at =
    kind_step grammar done (IsOf (Many k)) (AreAll k) goes (shape_sample (Many k)) k w ws c at (λ xs yes all. (yes, all)) (λ xs all. all) (λ p. each_at k p.0 p.1) (λ x xs. x ∷ xs)
    (IsEach k ws) (IsMeant (Many k) (w ∷ ws)) (λ goes'. each_read k grammar (done ++ w ∷ []) goes' ws (c + length w + 1) (column_behind done w c at))
    (λ x is fit yes xs got. ((let rest = got.0 in cc), ((λ none. cc), (fit, got.1)), (yes, got.2)))

-- places of the program, by their first words
start_there : (rest : Shape) (w : List ℕ) → w ≡ codes "start" → (xs : List (List ℕ)) → IsOf rest xs → IsOf (AtSpot rest) (w ∷ xs)
start_there rest w is xs all = (Start, xs, ap (λ (v : List ℕ). v ∷ xs) is, tt, all)

start_back : (rest : Shape) (w : List ℕ) → w ≡ codes "start" → (xs : List (List ℕ)) → IsOf (AtSpot rest) (w ∷ xs) → IsOf rest xs
start_back rest w is xs (Start, more, same, fits, all) = let tail : xs ≡ more = cc in subst (IsOf rest) (sym tail) all
start_back rest w is xs (After row, more, same, fits, all) = let other : w ≡ codes "after" = cc in absurd (spot_is_not (codes "start") (codes "after") refl (sym is ∙ other))
start_back rest w is xs (End, more, same, fits, all) = let other : w ≡ codes "end" = cc in absurd (spot_is_not (codes "start") (codes "end") refl (sym is ∙ other))

end_there : (rest : Shape) (w : List ℕ) → w ≡ codes "end" → (xs : List (List ℕ)) → IsOf rest xs → IsOf (AtSpot rest) (w ∷ xs)
end_there rest w is xs all = (End, xs, ap (λ (v : List ℕ). v ∷ xs) is, tt, all)

end_back : (rest : Shape) (w : List ℕ) → w ≡ codes "end" → (xs : List (List ℕ)) → IsOf (AtSpot rest) (w ∷ xs) → IsOf rest xs
end_back rest w is xs (End, more, same, fits, all) = let tail : xs ≡ more = cc in subst (IsOf rest) (sym tail) all
end_back rest w is xs (After row, more, same, fits, all) = let other : w ≡ codes "after" = cc in absurd (spot_is_not (codes "end") (codes "after") refl (sym is ∙ other))
end_back rest w is xs (Start, more, same, fits, all) = let other : w ≡ codes "start" = cc in absurd (spot_is_not (codes "end") (codes "start") refl (sym is ∙ other))

after_there : (rest : Shape) (w : List ℕ) → w ≡ codes "after" → (xs : List (List ℕ)) → IsOf (One NumberWord rest) xs → IsOf (AtSpot rest) (w ∷ xs)
after_there rest w is [] all = absurd all
after_there rest w is (v ∷ vs) all = go (meaning NumberWord v) (meaning_spells NumberWord v) all.0
  where
    go : (o : Option ℕ) → SpellsIt NumberWord v o → is_some o ≡ true → IsOf (AtSpot rest) (w ∷ v ∷ vs)
    go None h number = cc
    go (Some n) h number = (After (record { 0 = n }), vs, (let same = h.0 in cc), h.1, all.1)

after_back : (rest : Shape) (w : List ℕ) → w ≡ codes "after" → (xs : List (List ℕ)) → IsOf (AtSpot rest) (w ∷ xs) → IsOf (One NumberWord rest) xs
after_back rest w is xs (After row, more, same, fits, all) =
    let tail : xs ≡ decimal row.0 ∷ more = cc in
    let number : is_some (meaning NumberWord (decimal row.0)) ≡ true = rw (meaning_back NumberWord row.0 fits) refl in
    subst (IsOf (One NumberWord rest)) (sym tail) (number, all)
after_back rest w is xs (Start, more, same, fits, all) = let other : w ≡ codes "start" = cc in absurd (spot_is_not (codes "after") (codes "start") refl (sym is ∙ other))
after_back rest w is xs (End, more, same, fits, all) = let other : w ≡ codes "end" = cc in absurd (spot_is_not (codes "after") (codes "end") refl (sym is ∙ other))

no_spot : (rest : Shape) (w : List ℕ) → bytes_eq w (codes "start") ≡ false → bytes_eq w (codes "after") ≡ false → bytes_eq w (codes "end") ≡ false
    → (xs : List (List ℕ)) → IsOf (AtSpot rest) (w ∷ xs) → ⊥
no_spot rest w a b c xs (Start, more, same, fits, all) = spot_is_not w (codes "start") a (cc)
no_spot rest w a b c xs (After row, more, same, fits, all) = spot_is_not w (codes "after") b (cc)
no_spot rest w a b c xs (End, more, same, fits, all) = spot_is_not w (codes "end") c (cc)

none_is_no_spot : (rest : Shape) → IsOf (AtSpot rest) [] → ⊥
none_is_no_spot rest (Start, more, same, fits, all) = cc
none_is_no_spot rest (After row, more, same, fits, all) = cc
none_is_no_spot rest (End, more, same, fits, all) = cc

-- the number behind `after`
abbrev after_number : (rest : Shape) → ℕ × ShapeMeaning rest → Spot × ShapeMeaning rest
after_number rest y = (After (record { 0 = y.0 }), y.1)

abbrev paired : {X Y : Type 0} → X → Y → Result (X × Y) ℕ
paired x y = Ok (x, y)

after_same : (rest : Shape) (r : Result (ℕ × Place) ℕ)
    → ((r >>= λ row. paired (After (record { 0 = row.0 })) row.1) >>= λ x. shape_at rest x.1 >>= λ xs. paired x.0 xs)
    ≡ ((r >>= λ x. shape_at rest x.1 >>= λ xs. paired x.0 xs) >>= λ y. Ok (after_number rest y))
after_same rest (Err e) = refl
after_same rest (Ok x) = go (shape_at rest x.1)
  where
    go : (q : Result (ShapeMeaning rest) ℕ) → (q >>= λ xs. paired (After (record { 0 = x.0 })) xs) ≡ ((q >>= λ xs. paired x.0 xs) >>= λ y. Ok (after_number rest y))
    go (Err e) = refl
    go (Ok xs) = refl

spot_read : (rest : Shape) (grammar : List (List ℕ) → Type 0) → Reads rest grammar → Reads (AtSpot rest) grammar
unfolding spot_at word_at
spot_read rest grammar later done goes [] c at = missing_word grammar done (IsOf (AtSpot rest)) goes (shape_sample (AtSpot rest)) c (none_is_no_spot rest) at
spot_read rest grammar later done goes (w ∷ ws) c at = go (bytes_eq w (codes "start")) refl (bytes_eq w (codes "after")) refl (bytes_eq w (codes "end")) refl
  where
    go : (a : Bool) → bytes_eq w (codes "start") ≡ a → (b : Bool) → bytes_eq w (codes "after") ≡ b → (d : Bool) → bytes_eq w (codes "end") ≡ d
        → MatchResult ((if a then paired Start (c + length w + 1, ws) else if b then (kind_at NumberWord (c + length w + 1, ws) >>= λ row. paired (After (record { 0 = row.0 })) row.1)
        else if d then paired End (c + length w + 1, ws) else Err c) >>= λ x. shape_at rest x.1 >>= λ xs. paired x.0 xs)
        (IsMeant (AtSpot rest) (w ∷ ws)) (λ e. IsColumn grammar (done ++ w ∷ ws) e)
    go true e b f d g =
        let is = spot_is w (codes "start") e in
        let goes' = goes_behind grammar done (IsOf (AtSpot rest)) (IsOf rest) w goes (start_there rest w is) (start_back rest w is) in
        after_word (λ xs. (Start, xs)) (IsMeant rest ws) (IsMeant (AtSpot rest) (w ∷ ws)) (λ e. IsColumn grammar ((done ++ w ∷ []) ++ ws) e) _ (shape_at rest (c + length w + 1, ws))
        (λ xs got. ((let same = got.0 in cc), (tt, got.1), start_there rest w is ws got.2)) (further grammar done w ws)
        (later (done ++ w ∷ []) goes' ws (c + length w + 1) (column_behind done w c at))
    go false e true f d g =
        let is = spot_is w (codes "after") f in
        let goes' = goes_behind grammar done (IsOf (AtSpot rest)) (IsOf (One NumberWord rest)) w goes (after_there rest w is) (after_back rest w is) in
        let read = one_read NumberWord rest grammar later (done ++ w ∷ []) goes' ws (c + length w + 1) (column_behind done w c at) in
        rw (after_same rest (kind_at NumberWord (c + length w + 1, ws)))
        (after_word (after_number rest) (IsMeant (One NumberWord rest) ws) (IsMeant (AtSpot rest) (w ∷ ws)) (λ e. IsColumn grammar ((done ++ w ∷ []) ++ ws) e) _ (shape_at (One NumberWord rest) (c + length w + 1, ws))
        (λ y got. ((let same = got.0 in cc), (got.1.0, got.1.1), after_there rest w is ws got.2)) (further grammar done w ws) read)
    go false e false f true g =
        let is = spot_is w (codes "end") g in
        let goes' = goes_behind grammar done (IsOf (AtSpot rest)) (IsOf rest) w goes (end_there rest w is) (end_back rest w is) in
        after_word (λ xs. (End, xs)) (IsMeant rest ws) (IsMeant (AtSpot rest) (w ∷ ws)) (λ e. IsColumn grammar ((done ++ w ∷ []) ++ ws) e) _ (shape_at rest (c + length w + 1, ws))
        (λ xs got. ((let same = got.0 in cc), (tt, got.1), end_there rest w is ws got.2)) (further grammar done w ws)
        (later (done ++ w ∷ []) goes' ws (c + length w + 1) (column_behind done w c at))
    go false e false f false g = wrong_word grammar done (IsOf (AtSpot rest)) goes (shape_sample (AtSpot rest)) w ws c (no_spot rest w e f g) at

pub shape_read : (s : Shape) (grammar : List (List ℕ) → Type 0) → Reads s grammar
unfolding end_at
shape_read Done grammar done goes [] c at = (refl, tt, tt)
shape_read Done grammar done goes (w ∷ ws) c at = wrong_word grammar done (IsOf Done) goes ([], tt) w ws c (λ xs all. all) at
shape_read (One k rest) grammar done goes ws c at = one_read k rest grammar (shape_read rest grammar) done goes ws c at
shape_read (Many k) grammar done goes ws c at = many_read k grammar done goes ws c at
shape_read (AtSpot rest) grammar done goes ws c at = spot_read rest grammar (shape_read rest grammar) done goes ws c at
shape_read Whole grammar done goes ws c at =
    let E : ℕ → Type 0 = λ e. IsColumn grammar (done ++ ws) e in
    MatchResult-weaker (instr_at (c, ws)) {P = IsInstr ws} {P' = IsMeant Whole ws} {Q = E} {Q' = E} (instr_read grammar done goes c ws at)
    (λ i got. (got.same, got.fit, got.inside)) (λ e stop. stop)

-- what words of a shape stand for is read back
each_back : (k : Kind) (xs : List (Meaning k)) → AllByRecursion (Fits k) xs → (c : ℕ) → each_at k c (map (spelled k) xs) ≡ Ok xs
each_back k [] fit c = refl
each_back k (x ∷ xs) fit c = rw (meaning_back k x fit.0, each_back k xs fit.1 (c + length (spelled k x) + 1)) refl

pub shape_back : (s : Shape) (xs : ShapeMeaning s) → ShapeMeaningFits s xs → (c : ℕ) → shape_at s (c, shape_words s xs) ≡ Ok xs
unfolding end_at kind_at many_at spot_at word_at
shape_back Done xs fit c = refl
shape_back (One k rest) xs fit c = rw (meaning_back k xs.0 fit.0, shape_back rest xs.1 fit.1 (c + length (spelled k xs.0) + 1)) refl
shape_back (Many k) [] fit c = absurd (fit.0 refl)
shape_back (Many k) (x ∷ xs) fit c = rw (meaning_back k x fit.1.0, each_back k xs fit.1.1 (c + length (spelled k x) + 1)) refl
shape_back (AtSpot rest) (Start, xs) fit c = rw (shape_back rest xs fit.1 (c + length (codes "start") + 1)) refl
shape_back (AtSpot rest) (After row, xs) fit c =
    let number : meaning NumberWord (decimal row.0) ≡ Some row.0 = meaning_back NumberWord row.0 fit.0 in
    rw (number, shape_back rest xs fit.1 (c + length (codes "after") + 1 + length (decimal row.0) + 1)) refl
shape_back (AtSpot rest) (End, xs) fit c = rw (shape_back rest xs fit.1 (c + length (codes "end") + 1)) refl
shape_back Whole xs fit c = instr_back xs fit c

-- and its words have no spaces
each_spaceless : (k : Kind) (xs : List (Meaning k)) → AllByRecursion (Fits k) xs → list_all is_spaceless (map (spelled k) xs) ≡ true
each_spaceless k [] fit = refl
each_spaceless k (x ∷ xs) fit = rw (spelled_spaceless k x fit.0, each_spaceless k xs fit.1) refl

spot_spaceless : (spot : Spot) → SpotFits spot → list_all is_spaceless (spot_words spot) ≡ true
spot_spaceless Start fit = refl
spot_spaceless (After row) fit = rw (spelled_spaceless NumberWord row.0 fit) refl
spot_spaceless End fit = refl

pub shape_spaceless : (s : Shape) (xs : ShapeMeaning s) → ShapeMeaningFits s xs → list_all is_spaceless (shape_words s xs) ≡ true
shape_spaceless Done xs fit = refl
shape_spaceless (One k rest) xs fit = rw (spelled_spaceless k xs.0 fit.0, shape_spaceless rest xs.1 fit.1) refl
shape_spaceless (Many k) xs fit = each_spaceless k xs fit.1
shape_spaceless (AtSpot rest) xs fit =
    list_all-append is_spaceless (spot_words xs.0) (shape_words rest xs.1) ∙ rw (spot_spaceless xs.0 fit.0, shape_spaceless rest xs.1 fit.1) refl
shape_spaceless Whole xs fit = instr_spaceless xs fit
