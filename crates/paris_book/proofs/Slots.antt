-- The slots of a level: orders, and then their results.
use Rattle.std.proofs.Common.{◌≡◌, ℕ, ◌<◌, List, [], ◌∷◌, ◌++◌, ap, ◌∙◌, sym, subst, arith, take, drop, length, suc, slice_index_or}
use Rattle.std.proofs.Math.Seq.{take-append_seam}
use Rattle.paris_events.specs.State.{State}
use Rattle.paris_book.specs.Rounds.{Advances, HasRun, HoldsTask, HoldsOrder, HoldOrders, HoldResults}
use Rattle.paris_book.specs.declared.rounds.Slot.{Slot}
use Rattle.paris_book.proofs.Advancing.{task_stays}

-- what was true of slots before rows were settled is true after it
pub orders_stay : (n : ℕ) (s t : State) (slots : List Slot) → Advances n s t → HoldOrders s slots → HoldOrders t slots
orders_stay n s t [] a hold = tt
orders_stay n s t (slot ∷ slots) a hold = (λ x order. task_stays n s t slot.place x a (hold.0 x order), orders_stay n s t slots a hold.1)

pub results_stay : (n : ℕ) (s t : State) (slots : List Slot) → Advances n s t → HoldResults s slots → HoldResults t slots
results_stay n s t [] a hold = tt
results_stay n s t (slot ∷ slots) a hold = (λ x done. task_stays n s t slot.place x a (hold.0 x done), results_stay n s t slots a hold.1)

-- one slot more with an order
pub orders_with : (s : State) (slots : List Slot) (slot : Slot) → HoldOrders s slots → HoldsOrder s slot → HoldOrders s (slots ++ slot ∷ [])
orders_with s [] slot hold here = (here, tt)
orders_with s (x ∷ slots) slot hold here = (hold.0, orders_with s slots slot hold.1 here)

-- slots whose orders were executed hold their results
pub orders_executed : (s : State) (xs ys : List Slot) → length ys ≡ length xs → ((i : ℕ) (d : Slot) → i < length xs → HasRun (slice_index_or xs i d) (slice_index_or ys i d)) → HoldOrders s xs → HoldResults s ys
orders_executed s [] [] many each hold = tt
orders_executed s [] (y ∷ ys) many each hold = absurd (omega (arith, many))
orders_executed s (x ∷ xs) [] many each hold = absurd (omega (arith, many))
orders_executed s (x ∷ xs) (y ∷ ys) many each hold =
    let run : HasRun x y = each 0 x (omega arith) in (
      λ t done. subst (λ (p : ℕ). HoldsTask s p t) (sym run.place) (hold.0 t (run.done t done)),
      orders_executed s xs ys (omega (arith, many)) (λ i d within. each (suc i) d (omega (arith, within))) hold.1,
    )

-- the slots that are written back over a list of as many
pub written_back : (n : ℕ) (xs ys : List Slot) → length xs ≡ n → take n (xs ++ drop (length xs) ys) ≡ xs
written_back n xs ys e = ap (λ k. take k (xs ++ drop (length xs) ys)) (sym e) ∙ take-append_seam xs (drop (length xs) ys)
