-- A list of events, one after another.
use Rattle.std.proofs.Common.{◌≡◌, ℕ, ◌+◌, List, [], ◌∷◌, ◌++◌, Some, refl, sym, ap, ◌∙◌, take, drop, slice_get, zero, suc, add-one}
use Rattle.paris_events.specs.State.{State}
use Rattle.paris_events.specs.Events.{reply_to, after, replies_to, after_all}
use Rattle.paris_events.specs.declared.events.Event.{Event}

pub replies-append : (s : State) (xs ys : List Event) → replies_to s (xs ++ ys) ≡ replies_to s xs ++ replies_to (after_all s xs) ys
replies-append s [] ys = refl
replies-append s (x ∷ xs) ys = ap (λ rs. reply_to s x ∷ rs) (replies-append (after s x) xs ys)

pub after-append : (s : State) (xs ys : List Event) → after_all s (xs ++ ys) ≡ after_all (after_all s xs) ys
after-append s [] ys = refl
after-append s (x ∷ xs) ys = after-append (after s x) xs ys

drop_next : {X : Type 0} (n : ℕ) (xs ys : List X) (x : X) → x ∷ ys ≡ drop n xs → (take (suc n) xs ≡ take n xs ++ x ∷ []) × (ys ≡ drop (suc n) xs)
drop_next zero [] ys x h = absurd (cc)
drop_next zero (y ∷ xs) ys x h = let head : x ≡ y = cc in let tail : ys ≡ xs = cc in (ap (λ z. z ∷ []) (sym head), tail)
drop_next (suc n) [] ys x h = absurd (cc)
drop_next (suc n) (y ∷ xs) ys x h = let rest = drop_next n xs ys x h in (ap (λ zs. y ∷ zs) rest.0, rest.1)

-- what stands first after a place
pub drop_more : {X : Type 0} (n : ℕ) (xs ys : List X) (x : X) → x ∷ ys ≡ drop n xs → (take (n + 1) xs ≡ take n xs ++ x ∷ []) × (ys ≡ drop (n + 1) xs)
drop_more n xs ys x h = let next = drop_next n xs ys x h in (ap (λ k. take k xs) (add-one n) ∙ next.0, next.1 ∙ sym (ap (λ k. drop k xs) (add-one n)))

-- what stands first from a place on stands at it
pub get_first : {X : Type 0} (n : ℕ) (xs ys : List X) (x : X) → x ∷ ys ≡ drop n xs → slice_get xs n ≡ Some x
get_first zero xs ys x h = ap (λ zs. slice_get zs 0) (sym h)
get_first (suc n) [] ys x h = absurd (cc)
get_first (suc n) (y ∷ xs) ys x h = get_first n xs ys x h
