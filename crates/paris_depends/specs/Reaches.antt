-- How far changed keys reach: from a place to the first row from there on that writes the key, by the places of the rows that read it.
use Rattle.std.specs.Prelude.{◌≡◌, ℕ, ◌+◌, ◌<◌, ◌≤◌, ◌&&◌, nat_lt, nat_le, nat_eq, List, [], ◌∷◌, Bool, true, false, if◌then◌else◌, length, min}
use Rattle.std.specs.List.{list_any}
use Rattle.paris_names.specs.declared.keys.Key.{Key}
use Rattle.paris_names.specs.Keys.{has_key, key_eq}
use Rattle.paris_depends.specs.Index.{Footprint, writes_key, reads_key}
use Rattle.paris_depends.specs.Places.{count_to, nth_place, at_place}
use Rattle.paris_depends.specs.declared.reaches.Reach.{Reach}

-- no place
abbrev pub never : ℕ
never = 18446744073709551615

module _ (rows : List (ℕ × Footprint)) where
  -- the place of a reader, if there is one there and it stands at the last place or before
  abbrev pub hit_at : ℕ → ℕ → ℕ
  hit_at at last = if nat_lt at (length rows) && nat_le at last then at else never

  -- the first row from a place on that writes the key, or the number of rows
  abbrev pub last_from : Key → ℕ → ℕ
  last_from k i = nth_place (writes_key k) rows (count_to (writes_key k) rows i)

  -- how far the key reaches that changes at a place
  abbrev pub reach_at : Key → ℕ → Reach
  reach_at k i = record {
    key = k;
    next = count_to (reads_key k) rows i;
    hit = hit_at (nth_place (reads_key k) rows (count_to (reads_key k) rows i)) (last_from k i);
    last = last_from k i;
  }

  -- the same, past the reader that is hit
  abbrev pub moved : Reach → Reach
  moved r = record {
    key = r.key;
    next = r.next + 1;
    hit = hit_at (nth_place (reads_key r.key) rows (r.next + 1)) r.last;
    last = r.last;
  }

  -- past the row at a place
  abbrev pub moved_past : ℕ → Reach → Reach
  moved_past i r = if nat_eq r.hit i then moved r else r

-- whether a reach goes on behind the row at a place
abbrev pub goes_on : ℕ → Reach → Bool
goes_on i r = nat_lt i r.last

-- the first place that is hit
abbrev pub first_hit : List Reach → ℕ
first_hit [] = never
first_hit (r ∷ rs) = min r.hit (first_hit rs)

-- the keys that are changed just before a place
abbrev pub open_at : List Reach → ℕ → Key → Bool
open_at reaches i k = list_any (λ r. key_eq k r.key && nat_le i r.last) reaches

-- whether a row reads a changed key, the keys that are changed after it, and the ids of the rows that read a changed key
abbrev pub touches_row : (Key → Bool) → Footprint → Bool
touches_row d f = list_any d f.read

abbrev pub spread_row : (Key → Bool) → Footprint → Key → Bool
spread_row d f k = if has_key f.written k then touches_row d f else d k

abbrev pub touched_rows : (Key → Bool) → List (ℕ × Footprint) → List ℕ
touched_rows d [] = []
touched_rows d (r ∷ rows) = let later = touched_rows (spread_row d r.1) rows in if touches_row d r.1 then r.0 ∷ later else later

-- what is known of a reach just before a place: no row writes the key before the last, which does, and none in reach reads it before
-- the hit, which does
pub record IsReach (rows : List (ℕ × Footprint)) (i : ℕ) (r : Reach) : Type 0 where
  pub behind : i ≤ r.hit
  pub within : r.last ≤ length rows
  pub clear : (j : ℕ) → i ≤ j → j < r.last → at_place (writes_key r.key) rows j ≡ false
  pub ends : i ≤ r.last → r.last < length rows → at_place (writes_key r.key) rows r.last ≡ true
  pub quiet : (j : ℕ) → i ≤ j → j ≤ r.last → j < r.hit → at_place (reads_key r.key) rows j ≡ false
  pub reads : r.hit < length rows → at_place (reads_key r.key) rows r.hit ≡ true
  pub counted : r.hit < length rows → count_to (reads_key r.key) rows r.hit ≡ r.next
  pub reached : r.hit < length rows → r.hit ≤ r.last
