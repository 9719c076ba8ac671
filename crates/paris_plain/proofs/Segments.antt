-- The last segment of a path.
use Rattle.std.proofs.Common.{◌≡◌, ℕ, zero, suc, ◌-◌, ◌<◌, ◌≤◌, Bool, true, false, List, [], ◌∷◌, length, get_or, take, drop, refl, sym, ap, ◌∙◌, arith, drop-cons, take_all, length-drop}
use Rattle.std.specs.List.{list_any}
use Rattle.std.proofs.lemmas.Bool.{or_left, or_right}
use Rattle.paris_model.specs.Lines.{from_last}
use Rattle.paris_model.proofs.Worlds.{or_false_second}

-- a path in which no segment begins after its first processor is one segment
from_last-first : (begins : ℕ → Bool) (u : ℕ) (us : List ℕ) → list_any begins us ≡ false → from_last begins (u ∷ us) ≡ u ∷ us
from_last-first begins u us h = simp h

pub from_last-none : (begins : ℕ → Bool) (us : List ℕ) → list_any begins us ≡ false → from_last begins us ≡ us
from_last-none begins [] h = refl
from_last-none begins (u ∷ us) h = from_last-first begins u us (or_false_second (begins u) (list_any begins us) h)

begins_there : (begins : ℕ → Bool) (us : List ℕ) (k : ℕ) → k < length us → begins (get_or us k 0) ≡ true → list_any begins us ≡ true
begins_there begins [] k there h = absurd (omega arith)
begins_there begins (u ∷ us) zero there h = or_left (begins u) (list_any begins us) h
begins_there begins (u ∷ us) (suc k) there h = or_right (begins u) (list_any begins us) (begins_there begins us k (omega arith) h)

-- the last segment begins at k, where one begins and none after it
from_last-at : (begins : ℕ → Bool) (us : List ℕ) (k : ℕ) → k < length us → begins (get_or us k 0) ≡ true → list_any begins (drop (suc k) us) ≡ false → from_last begins us ≡ drop k us
from_last-at begins [] k there h none = absurd (omega arith)
from_last-at begins (u ∷ us) zero there h none = from_last-first begins u us none
from_last-at begins (u ∷ us) (suc k) there h none =
    let later : list_any begins us ≡ true = begins_there begins us k (omega arith) h in
    simp later (from_last-at begins us k (omega arith) h none)

-- the part of a path from k - 1 on, as a slice
pub from_last-slice : (begins : ℕ → Bool) (us : List ℕ) (k : ℕ) → 0 < k → k ≤ length us → begins (get_or us (k - 1) 0) ≡ true → list_any begins (drop k us) ≡ false → take (length us - (k - 1)) (drop (k - 1) us) ≡ from_last begins us
from_last-slice begins us k some within h none =
    let next : suc (k - 1) ≡ k = omega arith in
    let all : length (drop (k - 1) us) ≤ length us - (k - 1) = omega (arith, length-drop (k - 1) us) in
    take_all (length us - (k - 1)) (drop (k - 1) us) all ∙ sym (from_last-at begins us (k - 1) (omega arith) h (rw next none))

-- one processor more in which none begins
pub none_before : (begins : ℕ → Bool) (us : List ℕ) (k : ℕ) → 0 < k → k ≤ length us → begins (get_or us (k - 1) 0) ≡ false → list_any begins (drop k us) ≡ false → list_any begins (drop (k - 1) us) ≡ false
none_before begins us k some within h none =
    let next : suc (k - 1) ≡ k = omega arith in
    let after : list_any begins (drop (suc (k - 1)) us) ≡ false = rw next none in
    ap (list_any begins) (drop-cons us (k - 1) 0 (omega arith)) ∙ simp h after
