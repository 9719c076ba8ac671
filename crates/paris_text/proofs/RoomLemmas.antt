-- How many values are read.
use Rattle.std.proofs.Common.{◌≡◌, ℕ, ◌+◌, List, [], ◌∷◌, length, Option, None, Some, Result, Ok, Err, refl, ap, arith, option_map}
use Rattle.paris_text.specs.Words.{axes_word}
use Rattle.paris_text.specs.Kinds.Kind.{ValueWord, AxesWord}
use Rattle.paris_text.specs.Shapes.Shape.{Done, One}
use Rattle.paris_text.specs.Reading.{Place, place, ◌>>=◌, word_at, kind_at, end_at}
use Rattle.paris_text.specs.CommandReading.{many_at, shape_at}
use Rattle.paris_text.specs.Room.{values_room, axes_room}
use Rattle.paris_text.proofs.PlaceLemmas.{word_reads, word_fails}
use Rattle.paris_text.proofs.ManyLemmas.{behind, many_fails, many_last, many_more}

-- so many more
abbrev pub plus : ℕ → Result ℕ ℕ → Result ℕ ℕ
plus count r = r >>= λ n. Ok (count + n)

pub plus_more : (count : ℕ) (r : Result ℕ ℕ) → plus count (plus 1 r) ≡ plus (count + 1) r
plus_more count (Ok n) = ap Ok (omega arith)
plus_more count (Err e) = refl

one_more : (x : ℕ) (r : Result (List ℕ) ℕ) → (behind (x ∷ []) r >>= λ xs. Ok (length xs)) ≡ plus 1 (r >>= λ xs. Ok (length xs))
one_more x (Ok xs) = ap Ok (omega arith)
one_more x (Err e) = refl

pub room_fails : (p : Place) (e : ℕ) → kind_at ValueWord p ≡ Err e → values_room p ≡ Err e
room_fails p e h = rw (many_fails ValueWord p e h) refl

pub room_last : (p : Place) (x c : ℕ) → kind_at ValueWord p ≡ Ok (x, (c, [])) → values_room p ≡ Ok 1
room_last p x c h = rw (many_last ValueWord p x c h) refl

pub room_more : (p : Place) (x c : ℕ) (w : List ℕ) (ws : List (List ℕ)) → kind_at ValueWord p ≡ Ok (x, (c, w ∷ ws))
    → values_room p ≡ plus 1 (values_room (c, w ∷ ws))
room_more p x c w ws h = rw (many_more ValueWord p x c w ws h) (one_more x (many_at ValueWord (c, w ∷ ws)))

-- so many numbers, and one more behind them
pub lengths_on : (count n : ℕ) (o : Option (List ℕ)) → option_map (λ ns. count + length ns) (option_map (λ ns. n ∷ ns) o) ≡ option_map (λ ns. (count + 1) + length ns) o
lengths_on count n None = refl
lengths_on count n (Some ns) = ap Some (omega arith)

-- the axes that are counted, and those that aren't
pub axes_known : (w : List ℕ) (n : ℕ) → axes_room w ≡ Some n → (axes : List ℕ) × (axes_word w ≡ Some axes)
axes_known w n h = go (axes_word w) h
  where
    go : (o : Option (List ℕ)) → option_map length o ≡ Some n → (axes : List ℕ) × (o ≡ Some axes)
    go None k = absurd (cc)
    go (Some axes) k = (axes, refl)

pub axes_unknown : (w : List ℕ) → axes_room w ≡ None → axes_word w ≡ None
axes_unknown w h = go (axes_word w) h
  where
    go : (o : Option (List ℕ)) → option_map length o ≡ None → o ≡ None
    go None k = refl
    go (Some axes) k = cc

pub axes_read : (p : Place) (w : List ℕ) (more : Place) (axes : List ℕ) → word_at p ≡ Ok (w, more) → axes_word w ≡ Some axes → kind_at AxesWord p ≡ Ok (axes, more)
unfolding word_at kind_at
axes_read p w more axes e is = word_reads axes_word p w more axes e is

pub axes_fail : (line : List ℕ) (at : ℕ) (w : List ℕ) (more : Place) → word_at (place line at) ≡ Ok (w, more) → axes_word w ≡ None → kind_at AxesWord (place line at) ≡ Err (at + 1)
unfolding word_at kind_at
axes_fail line at w more e none = word_fails axes_word line at w more e none

pub last_fails : (p : Place) (e : ℕ) → kind_at AxesWord p ≡ Err e → shape_at (One AxesWord Done) p ≡ Err e
last_fails p e h = rw h refl

pub last_goes_on : (p more : Place) (axes : List ℕ) (e : ℕ) → kind_at AxesWord p ≡ Ok (axes, more) → end_at more ≡ Err e → shape_at (One AxesWord Done) p ≡ Err e
last_goes_on p more axes e h k = rw (h, k) refl

pub last_reads : (p more : Place) (axes : List ℕ) → kind_at AxesWord p ≡ Ok (axes, more) → end_at more ≡ Ok tt → shape_at (One AxesWord Done) p ≡ Ok (axes, tt)
last_reads p more axes h k = rw (h, k) refl
