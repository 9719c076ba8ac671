-- How a seat that works moves by each turn.
use Rattle.std.proofs.Common.{◌≡◌, ℕ, zero, suc, ◌+◌, ◌<◌, List, [], ◌∷◌, ◌++◌, Some, true, false, refl, sym, ap, subst, inl, inr, arith, append-nil}
use Rattle.paris_names.specs.declared.faults.Fault.{Fault}
use Rattle.paris_names.specs.declared.faults.Fault.TheVariants.{NoMemory}
use Rattle.paris_names.specs.declared.profiles.Profile.{Profile}
use Rattle.paris_exec.specs.Tasks.{Task}
use Rattle.paris_edits.specs.declared.verdicts.Verdict.{Verdict}
use Rattle.paris_events.specs.declared.events.Event.TheVariants as EventCase
use Rattle.paris_events.specs.declared.events.Reply.TheVariants as ReplyCase
use Rattle.paris_records.specs.declared.records.Receipt.{Receipt}
use Rattle.paris_desk.specs.Seats.{SeatState}
use Rattle.paris_desk.specs.Calls.{Called, Excused, Unrecorded}
use Rattle.paris_desk.specs.Work.{IsPair, Pairs, Ends, KnowsTo, MovesBy, Turn, Left, Worked, Stopped}
use Rattle.paris_desk.proofs.Moving.{by_call, by_more, by_none, knows_from, receipt_of}

-- an order was taken, and its result was brought
pub turn_run : (p : Profile) (s s1 s2 : SeatState) (order done : Task) (verdict : Verdict) → Called p s s1 EventCase.Take (ReplyCase.Take (Some order)) → done ≡ order → Called p s1 s2 (EventCase.Bring done) (ReplyCase.Bring verdict) → Turn true s s2
turn_run p s s1 s2 order done verdict t same b =
    let taken = receipt_of p s s1 EventCase.Take (ReplyCase.Take (Some order)) t in
    let brought = receipt_of p s1 s2 (EventCase.Bring done) (ReplyCase.Bring verdict) b in (
      taken,
      brought,
      (order, verdict, (refl, refl), ap (λ (x : Task). EventCase.Bring x) same, refl),
      by_more s s1 s2 (taken ∷ []) (brought ∷ []) (by_call p s s1 EventCase.Take (ReplyCase.Take (Some order)) t) (by_call p s1 s2 (EventCase.Bring done) (ReplyCase.Bring verdict) b),
    )

-- an order was taken, and its result was not brought
pub order_left : (p : Profile) (most : ℕ) (s s1 s2 : SeatState) (order : Task) (fault : Fault) → Called p s s1 EventCase.Take (ReplyCase.Take (Some order)) → Unrecorded most s1 s2 fault
    → Excused most s2.front fault × ((rs : List Receipt) × Left rs × MovesBy s s2 rs)
order_left p most s s1 s2 order fault t u =
    let taken = receipt_of p s s1 EventCase.Take (ReplyCase.Take (Some order)) t in (
      subst (λ (z : SeatState). Excused most z.front fault) (sym u.0) u.1,
      (taken ∷ [], inr (taken, order, (refl, refl), refl), subst (λ (z : SeatState). MovesBy s z (taken ∷ [])) (sym u.0) (by_call p s s1 EventCase.Take (ReplyCase.Take (Some order)) t)),
    )

-- an order was taken, and it was not executed for want of memory
pub order_kept : (p : Profile) (most : ℕ) (s s1 : SeatState) (order : Task) → Called p s s1 EventCase.Take (ReplyCase.Take (Some order)) → Excused most s1.front NoMemory × ((rs : List Receipt) × Left rs × MovesBy s s1 rs)
order_kept p most s s1 order t =
    let taken = receipt_of p s s1 EventCase.Take (ReplyCase.Take (Some order)) t in
    (inr (inr refl), (taken ∷ [], inr (taken, order, (refl, refl), refl), by_call p s s1 EventCase.Take (ReplyCase.Take (Some order)) t))

-- no order was taken, since the call was not recorded
pub order_refused : (most : ℕ) (s s1 : SeatState) (fault : Fault) → Unrecorded most s s1 fault → Excused most s1.front fault × ((rs : List Receipt) × Left rs × MovesBy s s1 rs)
order_refused most s s1 fault u =
    (subst (λ (z : SeatState). Excused most z.front fault) (sym u.0) u.1, ([], inl refl, subst (λ (z : SeatState). MovesBy s z []) (sym u.0) (by_none s)))

-- one pair more
pairs_more : (k : ℕ) (rs : List Receipt) (taken brought : Receipt) → Pairs k rs → IsPair taken brought → Pairs (suc k) (rs ++ taken ∷ brought ∷ [])
pairs_more zero rs taken brought none pair = subst (λ (l : List Receipt). Pairs 1 (l ++ taken ∷ brought ∷ [])) (sym none) (pair, refl)
pairs_more (suc k) [] taken brought p pair = absurd p
pairs_more (suc k) (a ∷ []) taken brought p pair = absurd p
pairs_more (suc k) (a ∷ b ∷ rs) taken brought p pair = (p.0, pairs_more k rs taken brought p.1 pair)

-- a seat has run so many orders
abbrev pub Ran : ℕ → SeatState → SeatState → Type 0
Ran k s s' = (rs : List Receipt) × Pairs k rs × MovesBy s s' rs

pub ran_none : (s : SeatState) → Ran 0 s s
ran_none s = ([], refl, by_none s)

pub ran_more : (k : ℕ) (s s1 s2 : SeatState) → Ran k s s1 → Turn true s1 s2 → Ran (k + 1) s s2
ran_more k s s1 s2 (rs, pairs, moved) (taken, brought, pair, more) =
    let on : suc k ≡ k + 1 = omega arith in (
      rs ++ taken ∷ brought ∷ [],
      subst (λ (n : ℕ). Pairs n (rs ++ taken ∷ brought ∷ [])) on (pairs_more k rs taken brought pairs pair),
      by_more s s1 s2 rs (taken ∷ brought ∷ []) moved more,
    )

pub worked_less : (limit k : ℕ) (s s1 s2 : SeatState) → k < limit → Ran k s s1 → Turn false s1 s2 → Worked limit k s s2
worked_less limit k s s1 s2 less (rs, pairs, moved) (taken, none, more) = record {
  few = omega (arith, less);
  pairs = rs;
  last = taken ∷ [];
  are_pairs = pairs;
  ends = inr (less, (taken, none, refl));
  moved = (by_more s s1 s2 rs (taken ∷ []) moved more).0;
  knows = (by_more s s1 s2 rs (taken ∷ []) moved more).1;
}

pub worked_all : (limit k : ℕ) (s s' : SeatState) → k ≡ limit → Ran k s s' → Worked limit limit s s'
worked_all limit k s s' all (rs, pairs, moved) = record {
  few = omega arith;
  pairs = rs;
  last = [];
  are_pairs = subst (λ (n : ℕ). Pairs n rs) all pairs;
  ends = inl (refl, refl);
  moved = (subst (λ (l : List Receipt). MovesBy s s' l) (sym (append-nil rs)) moved).0;
  knows = (subst (λ (l : List Receipt). MovesBy s s' l) (sym (append-nil rs)) moved).1;
}

pub stopped : (limit most k : ℕ) (s s1 s2 : SeatState) (fault : Fault) → k < limit → Ran k s s1
    → Excused most s2.front fault × ((rs : List Receipt) × Left rs × MovesBy s1 s2 rs) → Stopped limit most s s2 fault
stopped limit most k s s1 s2 fault less (rs, pairs, moved) (excused, (last, left, more)) = record {
  ran = k;
  few = less;
  pairs = rs;
  last = last;
  are_pairs = pairs;
  left = left;
  moved = (by_more s s1 s2 rs last moved more).0;
  knows = (by_more s s1 s2 rs last moved more).1;
  excused = excused;
}

some_call : (limit ran : ℕ) (pairs last : List Receipt) → 0 < limit → Pairs ran pairs → Ends limit ran last → (r : Receipt) × (rs : List Receipt) × (pairs ++ last ≡ r ∷ rs)
some_call limit ran (r ∷ pairs) last some are ends = (r, pairs ++ last, refl)
some_call limit ran [] last some are (inr (less, (taken, none, is))) = (taken, [], is)
some_call limit zero [] last some are (inl (all, none)) = absurd (omega (arith, all, some))
some_call limit (suc k) [] last some are (inl (all, none)) = absurd are

-- who worked made a call, so what it knows hangs on what it knew before no more
pub worked_knows : (limit ran : ℕ) (s t s' : SeatState) → 0 < limit → (w : Worked limit ran s s') → KnowsTo t s' (w.pairs ++ w.last)
worked_knows limit ran s t s' some w =
    let (r, rs, is) = some_call limit ran w.pairs w.last some w.are_pairs w.ends in
    subst (KnowsTo t s') (sym is) (knows_from s t s' rs r (subst (KnowsTo s s') is w.knows))
