-- A room in which what a function gives for the numbers from 0 on is put one by one.
use Rattle.std.proofs.Common.{◌≡◌, ℕ, ◌+◌, ◌<◌, ◌≤◌, List, [], ◌∷◌, ◌++◌, Bool, true, false, cond, get_or, length, map, slice_set, take, arith, ◌∙◌, sym, ap, refl}
use Rattle.std.specs.Int.{from_bool}
use Rattle.std.specs.List.{range_with_len}
use Rattle.std.proofs.lemmas.List.{take_all, take_more, take_more_set}
use Rattle.std.proofs.lemmas.List.FromFn.{get_or-map-range_with_len, length-map-range_with_len}

pub one_put : {X : Type 0} (f : ℕ → X) (n i : ℕ) (room : List X) (x : X) → length room ≡ n → i < n → x ≡ f i → take i room ≡ take i (map f (range_with_len 0 n)) → take (i + 1) (slice_set room i x) ≡ take (i + 1) (map f (range_with_len 0 n))
one_put f n i room x long below is done =
    let all = map f (range_with_len 0 n) in
    take_more_set room i x (omega (arith, long, below))
    ∙ ap (λ l. l ++ x ∷ []) done
    ∙ ap (λ y. take i all ++ y ∷ []) (is ∙ sym (get_or-map-range_with_len f 0 n i i x below (omega arith)))
    ∙ sym (take_more all i x (omega (arith, length-map-range_with_len f 0 n, below)))

pub all_put : {X : Type 0} (f : ℕ → X) (n i : ℕ) (room : List X) → length room ≡ n → n ≤ i → take i room ≡ take i (map f (range_with_len 0 n)) → room ≡ map f (range_with_len 0 n)
all_put f n i room long over done =
    sym (take_all i room (omega (arith, long, over))) ∙ done ∙ take_all i (map f (range_with_len 0 n)) (omega (arith, length-map-range_with_len f 0 n, over))

-- a test as a byte
pub byte_of : (b : Bool) → from_bool b ≡ cond b 1 0
byte_of true = refl
byte_of false = refl
