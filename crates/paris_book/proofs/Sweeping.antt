-- A sweep behind a row that was settled: only rows that read what was settled since can be cut off.
use Rattle.std.proofs.Common.{◌≡◌, ℕ, ◌+◌, ◌-◌, ◌<◌, ◌≤◌, ◌⊎◌, inl, inr, List, [], ◌∷◌, ◌++◌, Bool, true, false, cond, Option, Some, None, refl, sym, ap, ◌∙◌, subst, arith, length, take, zero, suc, set, slice_get, add-one}
use Rattle.std.proofs.Math.Path.{ap₂, fun_ext}
use Rattle.std.proofs.Math.Seq.{take-suc}
use Rattle.std.proofs.lemmas.List.{take-set}
use Rattle.std.proofs.lemmas.Option.{slice_get_within, get_or_from_slice_get}
use Rattle.std.specs.Prelude.{◌&&◌, not}
use Rattle.std.specs.List.{list_all}
use Rattle.paris_names.specs.declared.keys.Key.{Key}
use Rattle.paris_names.specs.Keys.{has_key}
use Rattle.paris_model.specs.Frame.{World}
use Rattle.paris_model.specs.Instructions.{Plan, reads, writes}
use Rattle.paris_model.specs.Run.{run}
use Rattle.paris_model.specs.Recipe.{origin}
use Rattle.paris_depends.specs.Sweeps.{touches}
use Rattle.paris_edits.specs.Rows.{is_settled}
use Rattle.paris_events.specs.State.{Row, State, row_plan, start_world}
use Rattle.paris_events.specs.Show.{now, origin_at}
use Rattle.paris_events.specs.Orders.{is_firm}
use Rattle.paris_events.specs.CutOff.{is_cut, cut_found, cut_at, cut_to, cut_off, IsAtRest}
use Rattle.paris_events.specs.Settling.{is_same, settled_row}
use Rattle.paris_events.proofs.Passes.{is_cut_in, firm_after, from_start}
use Rattle.paris_events.proofs.Passing.{firm_behind, firm_start, firm_more, test_is}
use Rattle.paris_events.proofs.Ends.{rests_at, world_is}
use Rattle.paris_events.proofs.Rests.{at_rest}
use Rattle.paris_book.specs.Statuses.{next_unsettled}
use Rattle.paris_book.specs.Steps.{WasSettled, sweeps_on, sweeps_at, swept_on, swept_at}
use Rattle.paris_book.proofs.Advancing.{cut_means, plans_put, put_in}
use Rattle.paris_book.proofs.Cutting.{Passed, front_same, settled_uncut, passed_to, passed_one, passed_all}
use Rattle.paris_book.proofs.Finds.{entry_at}
use Rattle.paris_book.proofs.Values.{all_agree}

-- which keys are firm just after a row
pub firm_next : (s : State) (i : ℕ) (r : Row) (k : Key) → slice_get s.rows i ≡ Some r → is_firm (origin_at s (i + 1) k) ≡ cond (has_key (writes r.plan) k) (is_settled r.status) (is_firm (origin_at s i k))
firm_next s i r k at =
    ap (λ (h : Key → Bool). h k) (firm_start (take (i + 1) s.rows))
    ∙ ap (λ (rs : List Row). firm_behind from_start rs k) (ap (λ n. take n s.rows) (add-one i) ∙ take-suc s.rows i r (slice_get_within s.rows i r at) ∙ ap (λ (y : Row). take i s.rows ++ y ∷ []) (get_or_from_slice_get s.rows i r r at))
    ∙ ap (λ (h : Key → Bool). h k) (firm_more from_start (take i s.rows) r)
    ∙ past
    ∙ ap (λ b. cond (has_key (writes r.plan) k) (is_settled r.status) b) (sym (ap (λ (h : Key → Bool). h k) (firm_start (take i s.rows))))
  where
    past : firm_after (firm_behind from_start (take i s.rows)) r k ≡ cond (has_key (writes r.plan) k) (is_settled r.status) (firm_behind from_start (take i s.rows) k)
    past = unfold firm_after in refl

-- no row of a state at rest can be cut off
pub rest_uncut : (s : State) (i : ℕ) (r : Row) → IsAtRest s → slice_get s.rows i ≡ Some r → is_cut s i r ≡ false
rest_uncut s i r rests at =
    test_is s i r
    ∙ ap (λ (w : World). is_cut_in w (firm_behind from_start (take i s.rows)) r) (sym (world_is (start_world s.inputs) s.rows i r at))
    ∙ rests_at (start_world s.inputs) from_start s.rows i r at (at_rest s rests)

-- the sweep has come to a place: rows from there on are as they were in the state at rest, and so is which keys are firm there, but for those of d
pub record Swept (before first : State) (d : Key → Bool) (from : ℕ) (s : State) : Type 0 where
  pub passed : Passed first from s
  pub behind : (i : ℕ) → from ≤ i → slice_get s.rows i ≡ slice_get before.rows i
  pub worlds : (i : ℕ) → now s i ≡ now before i
  pub firm : (k : Key) → d k ≡ false → is_firm (origin_at s from k) ≡ is_firm (origin_at before from k)

get_past : (rs : List Row) (i k : ℕ) (x : Row) → i < k → slice_get (set rs i x) k ≡ slice_get rs k
get_past [] i k x l = refl
get_past (y ∷ rs) zero zero x l = absurd (omega (arith, l))
get_past (y ∷ rs) zero (suc k) x l = refl
get_past (y ∷ rs) (suc i) zero x l = absurd (omega (arith, l))
get_past (y ∷ rs) (suc i) (suc k) x l = get_past rs i k x (omega (arith, l))

get_here : (rs : List Row) (k : ℕ) (r x : Row) → slice_get rs k ≡ Some r → slice_get (set rs k x) k ≡ Some x
get_here [] k r x at = absurd (cc)
get_here (y ∷ rs) zero r x at = refl
get_here (y ∷ rs) (suc k) r x at = get_here rs k r x at

-- a row that reads no key of d can't be cut off
untouched : (before first : State) (d : Key → Bool) (from : ℕ) (s : State) (r : Row) → IsAtRest before → Swept before first d from s → slice_get s.rows from ≡ Some r → touches d r.plan ≡ false → is_cut s from r ≡ false
untouched before first d from s r rests w at t =
    cut_means s from r
    ∙ ap₂ (λ a (v : World). not (is_settled r.status) && (a && is_same v r)) (all_agree d (λ k. is_firm (origin_at s from k)) (λ k. is_firm (origin_at before from k)) w.firm (reads r.plan) t) (w.worlds from)
    ∙ sym (cut_means before from r)
    ∙ rest_uncut before from r rests (sym (w.behind from (omega arith)) ∙ at)

-- which keys are firm further on, but for those of d, where the rows up to there are as they were
firm_on : (before first : State) (d : Key → Bool) (from : ℕ) (s : State) → Swept before first d from s → (k : Key) → d k ≡ false → (gap j : ℕ) → j ≡ from + gap → j ≤ length s.rows → is_firm (origin_at s j k) ≡ is_firm (origin_at before j k)
firm_on before first d from s w k t zero j is less = let here : from ≡ j = omega (arith, is) in subst (λ (n : ℕ). is_firm (origin_at s n k) ≡ is_firm (origin_at before n k)) here (w.firm k t)
firm_on before first d from s w k t (suc gap) zero is less = absurd (omega (arith, is))
firm_on before first d from s w k t (suc gap) (suc j) is less =
    let last = entry_at s.rows j (omega (arith, less)) in
    let there : slice_get before.rows j ≡ Some last.0 = sym (w.behind j (omega (arith, is))) ∙ last.1 in
    let number : j + 1 ≡ suc j = add-one j in
    subst (λ (n : ℕ). is_firm (origin_at s n k) ≡ is_firm (origin_at before n k)) number
    (firm_next s j last.0 k last.1
    ∙ ap (λ b. cond (has_key (writes last.0.plan) k) (is_settled last.0.status) b) (firm_on before first d from s w k t gap j (omega (arith, is)) (omega (arith, less)))
    ∙ sym (firm_next before j last.0 k there))

-- where no key of d is left, no row from there on can be
none_touched : (before first : State) (d : Key → Bool) (from : ℕ) (s : State) → IsAtRest before → Swept before first d from s → ((k : Key) → d k ≡ false) → (i : ℕ) (r : Row) → from ≤ i → slice_get s.rows i ≡ Some r → is_cut s i r ≡ false
none_touched before first d from s rests w none i r more at =
    let within = slice_get_within s.rows i r at in
    cut_means s i r
    ∙ ap₂ (λ (h : Key → Bool) (v : World). not (is_settled r.status) && (list_all h (reads r.plan) && is_same v r)) (fun_ext (λ k. firm_on before first d from s w k (none k) (i - from) i (omega (arith, more)) (omega (arith, within)))) (w.worlds i)
    ∙ sym (cut_means before i r)
    ∙ rest_uncut before i r rests (sym (w.behind i more) ∙ at)

-- a state of which no row can be cut off is what the pass leaves
ends_pass : (first s : State) → cut_off s ≡ cut_off first → ((i : ℕ) (r : Row) → slice_get s.rows i ≡ Some r → is_cut s i r ≡ false) → s ≡ cut_off first
ends_pass first s whole none = sym (all_rests (length s.rows)) ∙ whole
  where
    here : (n : ℕ) (o : Option Row) → slice_get s.rows n ≡ o → cut_found s n o ≡ s
    here n None at = refl
    here n (Some r) at = ap (λ b. cond b (put_in s n (settled_row r)) s) (none n r at)

    all_rests : (n : ℕ) → cut_to n s ≡ s
    all_rests zero = refl
    all_rests (suc n) = ap (λ (z : State). cut_at z n) (all_rests n) ∙ here n (slice_get s.rows n) refl

before_or_beyond : (i k : ℕ) → (i < k) ⊎ (k ≤ i)
before_or_beyond i zero = inr (omega arith)
before_or_beyond zero (suc k) = inl (omega arith)
before_or_beyond (suc i) (suc k) = elim (before_or_beyond i k) [ inl h ↦ inl (omega (arith, h)) | inr h ↦ inr (omega (arith, h)) ]

-- ---- the sweep behind the row at a place

module _ (first : State) (place : ℕ) (was : WasSettled first place) where
  -- it begins just behind the row, with the keys that the row writes
  pub sweep_starts : (d : Key → Bool) → ((r : Row) (k : Key) → slice_get first.rows place ≡ Some r → d k ≡ cond (has_key (writes r.plan) k) true false) → Swept was.before first d (place + 1) first
  sweep_starts d marks =
      let b : State = was.before in
      let u : State = put_in b place was.next in
      let at : slice_get u.rows place ≡ Some was.next = get_here b.rows place was.row was.next was.here in
      let mine : (k : Key) → d k ≡ cond (has_key (writes was.next.plan) k) true false = λ k. marks was.next k (ap (λ (z : State). slice_get z.rows place) was.now ∙ at) in
      subst (λ (z : State). Swept b first d (place + 1) z) (sym was.now) (record {
        passed = record {
          as_many = sym (ap (λ (z : State). length z.rows) was.now);
          whole = ap cut_off (sym was.now);
          rests = λ i r less here. by_place i r here (before_or_beyond i place) less;
        };
        behind = λ i more. get_past b.rows place i was.next (omega (arith, more));
        worlds = λ i. ap (λ (ps : List Plan). run_of b ps) (plans_put b.rows place was.row was.next i was.here was.plan);
        firm = λ k t. firm_next u place was.next k at ∙ by_key k (has_key (writes was.next.plan) k) refl (sym (mine k) ∙ t) ∙ sym (firm_next b place was.row k was.here);
      })
    where
      run_of : State → List Plan → World
      run_of s ps = run (start_world s.inputs) ps

      by_place : (i : ℕ) (r : Row) → slice_get (set was.before.rows place was.next) i ≡ Some r → (i < place) ⊎ (place ≤ i) → i < place + 1 → is_cut (put_in was.before place was.next) i r ≡ false
      by_place i r here (inl l) less = front_same was.before i place was.next r (omega (arith, l)) ∙ rest_uncut was.before i r was.rests (sym (get_front was.before.rows i place was.next l) ∙ here)
        where
          get_front : (rs : List Row) (i k : ℕ) (x : Row) → i < k → slice_get (set rs k x) i ≡ slice_get rs i
          get_front [] i k x l = refl
          get_front (y ∷ rs) zero zero x l = absurd (omega (arith, l))
          get_front (y ∷ rs) zero (suc k) x l = refl
          get_front (y ∷ rs) (suc i) zero x l = absurd (omega (arith, l))
          get_front (y ∷ rs) (suc i) (suc k) x l = get_front rs i k x (omega (arith, l))
      by_place i r here (inr l) less =
          let there : slice_get (set was.before.rows place was.next) place ≡ Some r = let same : i ≡ place = omega (arith, l, less) in ap (slice_get (set was.before.rows place was.next)) (sym same) ∙ here in
          let mine : slice_get (set was.before.rows place was.next) place ≡ Some was.next = get_here was.before.rows place was.row was.next was.here in
          let same : was.next ≡ r = cc in
          settled_uncut (put_in was.before place was.next) i r (ap (λ (z : Row). is_settled z.status) (sym same) ∙ was.settled)

      by_key : (k : Key) (c : Bool) → has_key (writes was.next.plan) k ≡ c → cond c true false ≡ false → cond c (is_settled was.next.status) (is_firm (origin_at (put_in was.before place was.next) place k)) ≡ cond (has_key (writes was.row.plan) k) (is_settled was.row.status) (is_firm (origin_at was.before place k))
      by_key k true e t = absurd (let x : true ≡ false = t in cc)
      by_key k false e t =
          let old : has_key (writes was.row.plan) k ≡ false = ap (λ (p : Plan). has_key (writes p) k) (sym was.plan) ∙ e in
          ap (λ (rs : List Row). is_firm (origin_of rs k)) (take-set was.before.rows place was.next) ∙ ap (λ c. cond c (is_settled was.row.status) (is_firm (origin_at was.before place k))) (sym old)
        where
          origin_of : List Row → Key → Option Row
          origin_of rs k = origin row_plan k rs

  module _ (d d' : Key → Bool) (from : ℕ) (s t : State) (cut : Bool) (w : Swept was.before first d from s) where
    -- one row more
    pub sweep_more : (r : Row) → slice_get s.rows from ≡ Some r → cut ≡ sweeps_at d s from → t ≡ swept_at d s from → ((q : Row) (k : Key) → slice_get t.rows from ≡ Some q → d' k ≡ cond (has_key (writes q.plan) k) cut (d k)) → Swept was.before first d' (from + 1) t
    sweep_more r at is state marks = by_touch (touches d r.plan) refl
      where
        there : slice_get was.before.rows from ≡ Some r
        there = sym (w.behind from (omega arith)) ∙ at

        -- a row that isn't cut off
        kept : (c : Bool) → cut ≡ c → c ≡ false → t ≡ s → is_cut s from r ≡ false → Swept was.before first d' (from + 1) t
        kept c e stays same uncut =
            let none : cut ≡ false = e ∙ stays in
            let mine : (k : Key) → d' k ≡ cond (has_key (writes r.plan) k) false (d k) = λ k. marks r k (ap (λ (z : State). slice_get z.rows from) same ∙ at) ∙ ap (λ b. cond (has_key (writes r.plan) k) b (d k)) none in
            subst (λ (z : State). Swept was.before first d' (from + 1) z) (sym same) (record {
              passed = passed_one first s from w.passed r s at (ap (λ b. cond b (put_in s from (settled_row r)) s) (sym uncut) ∙ ap (cut_found s from) (sym at));
              behind = λ i more. w.behind i (omega (arith, more));
              worlds = w.worlds;
              firm = λ k t. firm_next s from r k at ∙ by_key k (has_key (writes r.plan) k) (sym (mine k) ∙ t) ∙ sym (firm_next was.before from r k there);
            })
          where
            by_key : (k : Key) (b : Bool) → cond b false (d k) ≡ false → cond b (is_settled r.status) (is_firm (origin_at s from k)) ≡ cond b (is_settled r.status) (is_firm (origin_at was.before from k))
            by_key k true t = refl
            by_key k false t = w.firm k t

        -- a row that is cut off
        gone : cut ≡ true → t ≡ put_in s from (settled_row r) → is_cut s from r ≡ true → Swept was.before first d' (from + 1) t
        gone settles same cut_here =
            let u : State = put_in s from (settled_row r) in
            let now_at : slice_get u.rows from ≡ Some (settled_row r) = get_here s.rows from r (settled_row r) at in
            let mine : (k : Key) → d' k ≡ cond (has_key (writes r.plan) k) true (d k) = λ k. marks (settled_row r) k (ap (λ (z : State). slice_get z.rows from) same ∙ now_at) ∙ ap (λ b. cond (has_key (writes r.plan) k) b (d k)) settles in
            subst (λ (z : State). Swept was.before first d' (from + 1) z) (sym same) (record {
              passed = passed_one first s from w.passed r u at (ap (λ b. cond b (put_in s from (settled_row r)) s) (sym cut_here) ∙ ap (cut_found s from) (sym at));
              behind = λ i more. get_past s.rows from i (settled_row r) (omega (arith, more)) ∙ w.behind i (omega (arith, more));
              worlds = λ i. ap (λ (ps : List Plan). run (start_world s.inputs) ps) (plans_put s.rows from r (settled_row r) i at refl) ∙ w.worlds i;
              firm = λ k t. firm_next u from (settled_row r) k now_at ∙ by_key k (has_key (writes r.plan) k) (sym (mine k) ∙ t) ∙ sym (firm_next was.before from r k there);
            })
          where
            by_key : (k : Key) (b : Bool) → cond b true (d k) ≡ false → cond b true (is_firm (origin_at (put_in s from (settled_row r)) from k)) ≡ cond b (is_settled r.status) (is_firm (origin_at was.before from k))
            by_key k true t = absurd (let x : true ≡ false = t in cc)
            by_key k false t = ap (λ (rs : List Row). is_firm (origin row_plan k rs)) (take-set s.rows from (settled_row r)) ∙ w.firm k t

        by_cut : (c : Bool) → is_cut s from r ≡ c → touches d r.plan ≡ true → Swept was.before first d' (from + 1) t
        by_cut true e touch = gone (is ∙ ap (sweeps_on d s from) at ∙ ap₂ (λ a b. a && b) touch e) (state ∙ ap (swept_on d s from) at ∙ ap₂ (λ a b. cond a (cond b (put_in s from (settled_row r)) s) s) touch e) e
        by_cut false e touch = kept cut refl (is ∙ ap (sweeps_on d s from) at ∙ ap₂ (λ a b. a && b) touch e) (state ∙ ap (swept_on d s from) at ∙ ap₂ (λ a b. cond a (cond b (put_in s from (settled_row r)) s) s) touch e) e

        by_touch : (b : Bool) → touches d r.plan ≡ b → Swept was.before first d' (from + 1) t
        by_touch true e = by_cut (is_cut s from r) refl e
        by_touch false e = kept cut refl (is ∙ ap (sweeps_on d s from) at ∙ ap (λ a. a && is_cut s from r) e) (state ∙ ap (swept_on d s from) at ∙ ap (λ a. cond a (cut_found s from (Some r)) s) e) (untouched was.before first d from s r was.rests w at e)

  module _ (d : Key → Bool) (from : ℕ) (s : State) (w : Swept was.before first d from s) where
    -- where no mark is left, or no row
    pub sweep_ends : ((k : Key) → d k ≡ false) → s ≡ cut_off first
    sweep_ends none = ends_pass first s w.passed.whole (λ i r at. elim (before_or_beyond i from) [
      | inl h ↦ w.passed.rests i r h at
      | inr h ↦ none_touched was.before first d from s was.rests w none i r h at
    ])

    -- past settled rows, with all keys of d
    pub sweep_skip : (place : ℕ) → next_unsettled s.rows from ≡ Some place → from ≤ place → place < length s.rows → Swept was.before first d place s
    sweep_skip place found more within = record {
      passed = passed_to first s from w.passed place found;
      behind = λ i later. w.behind i (omega (arith, more, later));
      worlds = w.worlds;
      firm = λ k t. firm_on was.before first d from s w k t (place - from) place (omega (arith, more)) (omega (arith, within));
    }

    -- where all rows from there on are settled
    pub sweep_all : next_unsettled s.rows from ≡ None → s ≡ cut_off first
    sweep_all none = passed_all first s from w.passed none
