-- The ids of rows that are run, in a room that is filled as they are.
use Rattle.std.proofs.Common.{◌≡◌, ℕ, ◌+◌, ◌<◌, ◌≤◌, List, [], ◌∷◌, ◌++◌, Bool, true, false, cond, Option, Some, None, refl, sym, ap, ◌∙◌, subst, arith, length, take, drop, set, zero, suc, slice_get}
use Rattle.std.proofs.Math.Path.{ap₂}
use Rattle.std.proofs.lemmas.List.{append-nil, append_assoc, length-append}
use Rattle.std.specs.Option.{option_map}
use Rattle.paris_names.specs.declared.ids.RowId.{RowId}
use Rattle.paris_board.specs.Board.{Board}
use Rattle.paris_exec.specs.Tasks.{Task}
use Rattle.paris_events.specs.Orders.{next_ready, order_of, take_reply}
use Rattle.paris_events.specs.Settling.{after_run, ran_orders}
use Rattle.paris_events.specs.State.{Inputs, Row, State}
use Rattle.paris_events.proofs.Tests.{and_second}
use Rattle.paris_book.specs.Entries.{Entry, machine_row, rows_seen}
use Rattle.paris_book.specs.RanIds.{id_ordered, ran_ids, turned_ids}
use Rattle.paris_book.specs.Steps.{is_free, is_left, is_run, order_on, runs_at, runs_on, turn_order, turned_at}
use Rattle.paris_book.specs.Unsettled.{filled}
use Rattle.paris_book.specs.Wanted.{turned_all}
use Rattle.paris_book.proofs.Inserts.{state_of}
use Rattle.paris_book.proofs.Takes.{next_found, next_is}
use Rattle.paris_book.proofs.TouchedIds.{filled_push}
use Rattle.paris_book.proofs.Wanting.{turned_last}

-- the id that is looked up with the row that is ready
same_id : (e : Entry) (found : Entry) (o : Option Entry) → o ≡ Some e → o ≡ Some found → (machine_row found).id ≡ (machine_row e).id
same_id e found o a b = let same : found ≡ e = cc in ap (λ x. (machine_row x).id) same

pub ready_id : (b : Board) (n m : ℕ) (inputs : Inputs) (es : List Entry) (s : State) → state_of b n m inputs es ≡ s → (k : ℕ) → Some k ≡ option_map (λ e. e.0) (next_ready (rows_seen es)) → (e : Entry) → slice_get es k ≡ Some e
    → Some (machine_row e).id ≡ option_map (λ (t : Task). t.id) (take_reply s)
ready_id b n m inputs es s y k found e at =
    let ready = next_found es k found in
    let next : next_ready s ≡ Some (k, machine_row ready.0) = ap next_ready (sym y) ∙ next_is b n m inputs es ∙ ready.1 in
    ap Some (same_id ready.0 e (slice_get es k) ready.2 at) ∙ ap (λ o. option_map (λ (t : Task). t.id) (option_map (order_of s) o)) (sym next)

ordered : (o : Option Task) (id : RowId) → Some id ≡ option_map (λ (t : Task). t.id) o → id_ordered o ≡ id.0 ∷ []
ordered None id e = absurd (cc)
ordered (Some t) id e = let same : id ≡ t.id = cc in ap (λ (i : RowId). i.0 ∷ []) (sym same)

-- one order more was run
pub ran_one : (s now next : State) (first room after : List ℕ) (n : ℕ) (id : RowId) → Some id ≡ option_map (λ (t : Task). t.id) (take_reply now) → now ≡ ran_orders n s → next ≡ after_run now
    → room ≡ filled first (ran_ids n s) → length (ran_ids n s) ≡ n → after ≡ set room n id.0
    → (next ≡ ran_orders (n + 1) s) × (after ≡ filled first (ran_ids (n + 1) s)) × (length (ran_ids (n + 1) s) ≡ n + 1)
ran_one s now next first room after n id ready state ran so_far count put =
    let one : suc n ≡ n + 1 = omega arith in
    let more : ran_ids (n + 1) s ≡ ran_ids n s ++ id.0 ∷ [] = ap (λ k. ran_ids k s) (sym one) ∙ ap (λ ids. ran_ids n s ++ ids) (ap (λ z. id_ordered (take_reply z)) (sym state) ∙ ordered (take_reply now) id ready) in
    let long : length (ran_ids n s ++ id.0 ∷ []) ≡ length (ran_ids n s) + 1 = length-append (ran_ids n s) (id.0 ∷ []) in (
      ran ∙ ap after_run state ∙ ap (λ k. ran_orders k s) one,
      put ∙ ap₂ (λ xs k. set xs k id.0) so_far (sym count) ∙ sym (filled_push first (ran_ids n s) id.0) ∙ sym (ap (filled first) more),
      let lengths = ap length more in omega (arith, lengths, long, count),
    )

-- the turn of a place that stands last in a list is the first
pub ids_last : (places : List ℕ) (n : ℕ) (s : State) → turned_ids (places ++ n ∷ []) s ≡ id_ordered (turn_order s n) ++ turned_ids places (turned_at s n)
ids_last [] n s = sym (append-nil (id_ordered (turn_order s n)))
ids_last (p ∷ places) n s =
    ap₂ (λ ids z. ids ++ id_ordered (turn_order z p)) (ids_last places n s) (turned_last places n s)
    ∙ append_assoc (id_ordered (turn_order s n)) (turned_ids places (turned_at s n)) (id_ordered (turn_order (turned_all places (turned_at s n)) p))

-- the order of a row that is run is its own
ids_run : (s : State) (place : ℕ) (o : Option Row) → runs_on s place o ≡ true → (id : RowId) × (Some id ≡ option_map (λ (r : Row). r.id) o) × (id_ordered (cond (runs_on s place o) (order_on s place o) None) ≡ id.0 ∷ [])
ids_run s place None runs = absurd (let x : false ≡ true = runs in cc)
ids_run s place (Some r) runs =
    let free : is_free s place r ≡ true = and_second (is_left s place r) (is_free s place r) runs in
    (r.id, refl, ap (λ b. id_ordered (cond b (order_on s place (Some r)) None)) runs ∙ ap (λ b. id_ordered (cond b (Some (order_of s (place, r))) None)) free)

-- a list of which so many items are passed, and the next one is known
take_next : (xs : List ℕ) (n x : ℕ) (rest : List ℕ) → drop n xs ≡ x ∷ rest → (take (suc n) xs ≡ take n xs ++ x ∷ []) × (drop (suc n) xs ≡ rest) × (suc n ≤ length xs)
take_next [] zero x rest e = absurd (cc)
take_next [] (suc n) x rest e = absurd (cc)
take_next (y ∷ xs) zero x rest e =
    let here : y ≡ x = cc in
    let behind : xs ≡ rest = cc in
    (ap (λ z. z ∷ []) here, behind, omega arith)
take_next (y ∷ xs) (suc n) x rest e =
    let next = take_next xs n x rest e in
    let few = next.2 in
    (ap (λ zs. y ∷ zs) next.0, next.1, omega (arith, few))

length_taken : (xs : List ℕ) (n : ℕ) → n ≤ length xs → length (take n xs) ≡ n
length_taken [] zero few = refl
length_taken [] (suc n) few = absurd (omega (arith, few))
length_taken (x ∷ xs) zero few = refl
length_taken (x ∷ xs) (suc n) few = ap suc (length_taken xs n (omega (arith, few)))

-- what stands in a room behind the turn of one row more
module _ (s : State) (place more ran : ℕ) (id : Option RowId) (first room after all rest : List ℕ) (told : more ≡ cond (runs_at s place) 1 0) (named : id ≡ option_map (λ (r : Row). r.id) (slice_get s.rows place))
    (none : more ≡ 0 → after ≡ room) (put : (i : RowId) → 0 < more → id ≡ Some i → after ≡ set room ran i.0) (so_far : room ≡ filled first (take ran all))
    (left : drop ran all ≡ id_ordered (turn_order s place) ++ rest) (few : ran ≤ length all) where
  abbrev Told : Type 0
  Told = (after ≡ filled first (take (ran + more) all)) × (drop (ran + more) all ≡ rest) × (ran + more ≤ length all)

  pub turn_told : Told
  turn_told = by_run (runs_at s place) refl
    where
      by_run : (b : Bool) → runs_at s place ≡ b → Told
      by_run false e =
          let zero_more : more ≡ 0 = told ∙ ap (λ b. cond b 1 0) e in
          let same : ran + more ≡ ran = omega (arith, zero_more) in (
            none zero_more ∙ so_far ∙ ap (λ n. filled first (take n all)) (sym same),
            ap (λ n. drop n all) same ∙ left ∙ ap (λ b. id_ordered (cond b (order_on s place (slice_get s.rows place)) None) ++ rest) e,
            omega (arith, same, few),
          )
      by_run true e =
          let one_more : more ≡ 1 = told ∙ ap (λ b. cond b 1 0) e in
          let next : ran + more ≡ suc ran = omega (arith, one_more) in
          let run = ids_run s place (slice_get s.rows place) e in
          let taken = take_next all ran run.0.0 rest (left ∙ ap (λ ids. ids ++ rest) run.2) in
          let at_end : length (take ran all) ≡ ran = length_taken all ran few in
          let within = taken.2 in (
            put run.0 (omega (arith, one_more)) (named ∙ sym run.1) ∙ ap₂ (λ xs n. set xs n run.0.0) so_far (sym at_end) ∙ sym (filled_push first (take ran all) run.0.0) ∙ ap (filled first) (sym taken.0) ∙ ap (λ n. filled first (take n all)) (sym next),
            ap (λ n. drop n all) next ∙ taken.1,
            omega (arith, next, within),
          )
