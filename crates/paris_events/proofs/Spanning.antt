-- What a sweep may leave out: settled rows in front of the first unsettled one and behind the last.
use Rattle.std.proofs.Common.{◌≡◌, List, [], ◌∷◌, ◌++◌, Bool, true, false, cond, refl, ap, map}
use Rattle.std.specs.Prelude.{◌&&◌, ◌||◌, not}
use Rattle.std.specs.List.{list_all, list_any}
use Rattle.paris_names.specs.declared.keys.Key.{Key}
use Rattle.paris_names.specs.Keys.{has_key}
use Rattle.paris_model.specs.Frame.{World}
use Rattle.paris_model.specs.Instructions.{writes, one}
use Rattle.paris_model.specs.Run.{run}
use Rattle.paris_edits.specs.Rows.{is_settled}
use Rattle.paris_events.specs.State.{Row, row_plan}
use Rattle.paris_events.proofs.Passes.{cut_row, cut, firm_after}
use Rattle.paris_events.proofs.Passing.{firm_behind}
use Rattle.paris_events.proofs.Tests.{and_first, and_second}
use Rattle.paris_events.proofs.OnePass.{stays}
use Rattle.paris_events.proofs.Runs.{are_settled}

-- settled rows in front
pub from_first : (w : World) (h : Key → Bool) (front back : List Row) → are_settled front ≡ true → cut w h (front ++ back) ≡ front ++ cut (run w (map row_plan front)) (firm_behind h front) back
from_first w h [] back t = refl
from_first w h (r ∷ front) back t =
    let first : cut_row w h r ≡ r = stays w h r (and_first (is_settled r.status) (are_settled front) t) in
    rw first (ap (λ xs. r ∷ xs) (from_first (one r.plan w) (firm_after h r) front back (and_second (is_settled r.status) (are_settled front) t)))

-- behind them every key is firm
pub firm_settled : (h : Key → Bool) (front : List Row) → ((k : Key) → h k ≡ true) → are_settled front ≡ true → (k : Key) → firm_behind h front k ≡ true
firm_settled h [] a t k = a k
firm_settled h (r ∷ front) a t k = firm_settled (firm_after h r) front (past (and_first (is_settled r.status) (are_settled front) t)) (and_second (is_settled r.status) (are_settled front) t) k
  where
    past : is_settled r.status ≡ true → (j : Key) → firm_after h r j ≡ true
    past s j = unfold firm_after in by_has (has_key (writes r.plan) j) s
      where
        by_has : (b : Bool) → is_settled r.status ≡ true → cond b (is_settled r.status) (h j) ≡ true
        by_has true s = s
        by_has false s = a j

-- settled rows behind
pub settled_rest : (w : World) (h : Key → Bool) (rs : List Row) → are_settled rs ≡ true → cut w h rs ≡ rs
settled_rest w h [] t = refl
settled_rest w h (r ∷ rs) t =
    let first : cut_row w h r ≡ r = stays w h r (and_first (is_settled r.status) (are_settled rs) t) in
    rw first (ap (λ xs. r ∷ xs) (settled_rest (one r.plan w) (firm_after h r) rs (and_second (is_settled r.status) (are_settled rs) t)))

-- the test of origins by marks of the keys that wait
pub by_marks : (m h : Key → Bool) → ((k : Key) → m k ≡ not (h k)) → (ks : List Key) → not (list_any m ks) ≡ list_all h ks
by_marks m h e [] = refl
by_marks m h e (k ∷ ks) = rw (e k) (by_first (h k) (by_marks m h e ks))
  where
    by_first : (b : Bool) → not (list_any m ks) ≡ list_all h ks → not (not b || list_any m ks) ≡ (b && list_all h ks)
    by_first true rest = rest
    by_first false rest = refl
