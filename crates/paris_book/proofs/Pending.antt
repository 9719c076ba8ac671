-- The first ready row, by marks of the keys whose origin is an unsettled row.
use Rattle.std.proofs.Common.{◌≡◌, ℕ, ◌+◌, List, [], ◌∷◌, ◌++◌, Bool, true, false, cond, Option, Some, None, refl, sym, ap, ◌∙◌, map, take, zero, suc, replicate, get_or, add-one, slice_get}
use Rattle.std.proofs.Math.Seq.{take-suc}
use Rattle.std.proofs.lemmas.Option.{slice_get_within, get_or_from_slice_get}
use Rattle.std.specs.Prelude.{not, ◌&&◌, ◌||◌}
use Rattle.std.proofs.lemmas.List.{take-map}
use Rattle.std.specs.Option.{option_map, option_or}
use Rattle.std.specs.List.{list_all, list_any, find, enumerate_from}
use Rattle.paris_names.specs.declared.keys.Key.{Key}
use Rattle.paris_names.specs.Keys.{has_key, key_slot}
use Rattle.paris_model.specs.Instructions.{reads, writes}
use Rattle.paris_model.specs.Recipe.{origin}
use Rattle.paris_depends.specs.Sweeps.{marked}
use Rattle.paris_depends.proofs.OriginLemmas.{origin-push}
use Rattle.paris_edits.specs.Rows.{is_settled, is_waiting}
use Rattle.paris_events.specs.Orders.{is_firm}
use Rattle.paris_book.specs.Entries.{Entry, entry_plan, machine_row}
use Rattle.paris_book.proofs.Among.{firm_among, ready_among, next_among}
use Rattle.paris_events.proofs.Runs.{are_settled, none_ready}
use Rattle.paris_events.proofs.Tests.{and_first, and_second}

-- a key is firm just after a row where the row is settled, if it writes the key, and else where it was before
pub firm_past : (es : List Entry) (i : ℕ) (e : Entry) (k : Key) → slice_get es i ≡ Some e → firm_among es (i + 1) k ≡ cond (has_key (writes e.1.plan) k) (is_settled e.1.status) (firm_among es i k)
firm_past es i e k at =
    ap (λ n. firm_among es n k) (add-one i)
    ∙ ap (λ xs. is_firm (option_map machine_row (origin entry_plan k xs))) (take-suc es i e (slice_get_within es i e at) ∙ ap (λ y. take i es ++ y ∷ []) (get_or_from_slice_get es i e e at))
    ∙ ap (λ o. is_firm (option_map machine_row o)) (origin-push entry_plan k (take i es) e)
    ∙ by_has (has_key (writes e.1.plan) k) (origin entry_plan k (take i es))
  where
    by_has : (b : Bool) (o : Option Entry) → is_firm (option_map machine_row (cond b (Some e) o)) ≡ cond b (is_settled e.1.status) (is_firm (option_map machine_row o))
    by_has true o = refl
    by_has false o = refl

-- the keys that a table marks are those whose origin at a place is unsettled
abbrev pub ArePending : List Bool → List Entry → ℕ → Type 0
ArePending table es place = (k : Key) → marked table k ≡ not (firm_among es place k)

pub none_marked : (n i : ℕ) → get_or (replicate n false) i false ≡ false
none_marked zero i = refl
none_marked (suc n) zero = refl
none_marked (suc n) (suc i) = none_marked n i

firm_settled : (es : List Entry) (k : Key) → are_settled (map machine_row es) ≡ true → is_firm (option_map machine_row (origin entry_plan k es)) ≡ true
firm_settled [] k h = refl
firm_settled (e ∷ es) k h = by_rest (origin entry_plan k es) (has_key (writes e.1.plan) k) (firm_settled es k (and_second (is_settled e.1.status) (are_settled (map machine_row es)) h))
  where
    by_rest : (o : Option Entry) (b : Bool) → is_firm (option_map machine_row o) ≡ true → is_firm (option_map machine_row (option_or o (cond b (Some e) None))) ≡ true
    by_rest None true t = and_first (is_settled e.1.status) (are_settled (map machine_row es)) h
    by_rest None false t = refl
    by_rest (Some x) b t = t

-- behind settled rows no origin is unsettled
pub none_pending : (n : ℕ) (es : List Entry) (i : ℕ) → are_settled (take i (map machine_row es)) ≡ true → ArePending (replicate n false) es i
none_pending n es i settled k = none_marked n (key_slot k) ∙ sym (ap not (firm_settled (take i es) k (ap are_settled (sym (take-map machine_row i es)) ∙ settled)))

-- and none of them is ready
pub none_ready_before : (es : List Entry) (i : ℕ) → are_settled (take i (map machine_row es)) ≡ true → find (ready_among es) (enumerate_from 0 (take i (map machine_row es))) ≡ None
none_ready_before es i settled = none_ready (λ e. list_all (firm_among es e.0) (reads e.1.plan)) (take i (map machine_row es)) 0 settled

pub none_ready_at_all : (es : List Entry) → are_settled (map machine_row es) ≡ true → next_among es ≡ None
none_ready_at_all es settled = none_ready (λ e. list_all (firm_among es e.0) (reads e.1.plan)) (map machine_row es) 0 settled

-- the marks are carried past a row
pub pending_past : (old new : List Bool) (es : List Entry) (i : ℕ) (e : Entry) → slice_get es i ≡ Some e → ArePending old es i
    → ((k : Key) → marked new k ≡ cond (has_key (writes e.1.plan) k) (not (is_settled e.1.status)) (marked old k)) → ArePending new es (i + 1)
pending_past old new es i e at before past k =
    past k
    ∙ ap (cond (has_key (writes e.1.plan) k) (not (is_settled e.1.status))) (before k)
    ∙ by_has (has_key (writes e.1.plan) k)
    ∙ ap not (sym (firm_past es i e k at))
  where
    by_has : (b : Bool) → cond b (not (is_settled e.1.status)) (not (firm_among es i k)) ≡ not (cond b (is_settled e.1.status) (firm_among es i k))
    by_has true = refl
    by_has false = refl

none_of_them : (m f : Key → Bool) → ((k : Key) → m k ≡ not (f k)) → (ks : List Key) → not (list_any m ks) ≡ list_all f ks
none_of_them m f h [] = refl
none_of_them m f h (k ∷ ks) = rw (h k) (by_first (f k) (none_of_them m f h ks))
  where
    by_first : (b : Bool) → not (list_any m ks) ≡ list_all f ks → not (not b || list_any m ks) ≡ (b && list_all f ks)
    by_first true rest = rest
    by_first false rest = refl

-- a row is ready that waits and reads no marked key
pub ready_is : (table : List Bool) (es : List Entry) (i : ℕ) (e : Entry) → ArePending table es i → ready_among es (i, machine_row e) ≡ (is_waiting e.1.status && not (list_any (marked table) (reads e.1.plan)))
ready_is table es i e pending = ap (λ b. is_waiting e.1.status && b) (sym (none_of_them (marked table) (firm_among es i) pending (reads e.1.plan)))
