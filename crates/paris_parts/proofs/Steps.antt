-- What a player does with its seat, step by step.
use Rattle.std.proofs.Common.{◌≡◌, ◌≤◌, List, [], ◌∷◌, ◌++◌, length, refl, sym, ap, ◌∙◌, subst, arith, append_assoc, append-nil}
use Rattle.std.specs.List.{All}
use Rattle.std.proofs.lemmas.List.Elements.{All-cons, All-nil}
use Rattle.paris_names.specs.declared.profiles.Profile.{Profile}
use Rattle.paris_events.specs.declared.events.Event.{Event}
use Rattle.paris_events.specs.declared.events.Reply.{Reply}
use Rattle.paris_records.specs.declared.records.Entry.{Entry}
use Rattle.paris_records.specs.declared.records.Receipt.{Receipt}
use Rattle.paris_records.specs.History.{entry}
use Rattle.paris_desk.specs.Calls.{Called}
use Rattle.paris_desk.specs.Seats.{SeatState, called}
use Rattle.paris_desk.specs.Work.{Moves}
use Rattle.paris_desk.proofs.Moving.{Behind, all_both, all_so, moves_call, moves_more, moves_none, receipt_of}
use Rattle.paris_desk.proofs.Prefixes.{prefix_length, prefix_self, prefix_snoc, prefix_trans}
use Rattle.paris_view.specs.Looks.{Looked}
use Rattle.paris_parts.specs.Moving.{MovesInTime, MovesSeeing}
use Rattle.paris_parts.specs.Seeing.{Glimpses, IsInTime}
use Rattle.paris_parts.proofs.Sights.{UpTo}

-- where there was no look, the past of before was seen
pub knew : (s s' : SeatState) (rs : List Receipt) → IsInTime s → MovesInTime s s' rs → MovesSeeing s s' rs s.past
knew s s' rs time m =
    let told = time.0 in (
      m,
      record {
        begins = prefix_self s.past;
        past = m.0.begins;
        later = rs;
        receipts = m.0.gained.1;
        before = time.1;
        behind = all_so (Behind s.front) (Behind (length s.past)) rs (λ r late. omega (arith, late, told)) m.0.late;
      },
    )

-- no call was made, and no look
pub stays : (s : SeatState) → IsInTime s → MovesInTime s s []
stays s time = (moves_none s, time)

-- a call was made
pub calls : (p : Profile) (s s' : SeatState) (event : Event) (reply : Reply) → Called p s s' event reply → IsInTime s → (r : Receipt) × MovesInTime s s' (r ∷ []) × (r.event ≡ event) × (r.reply ≡ reply)
calls p s s' event reply c time =
    let h : List Entry = c.history ++ entry s.number event reply ∷ [] in
    let own : Receipt = receipt_of p s s' event reply c in
    let longer : length s.past ≤ length h = prefix_length s.past h (prefix_trans s.past c.history h c.begins (prefix_snoc c.history (entry s.number event reply))) in
    let next : IsInTime (called s h event reply) = (
      omega arith,
      all_both (UpTo (length h)) s.receipts (own ∷ []) (all_so (UpTo (length s.past)) (UpTo (length h)) s.receipts (λ r low. omega (arith, low, longer)) time.1)
          (All-cons (UpTo (length h)) own [] (omega arith) (All-nil (UpTo (length h)))),
    ) in
    (own, (moves_call p s s' event reply c, subst IsInTime (sym c.seat) next), refl, refl)

-- a look was made
pub looks : (p : Profile) (s s' : SeatState) → Looked p s s' → IsInTime s → MovesSeeing s s' [] s'.past
looks p s s' l time =
    let longer : length s.past ≤ length s'.past = prefix_length s.past s'.past l.begins in
    let low : All (UpTo (length s'.past)) s.receipts = all_so (UpTo (length s.past)) (UpTo (length s'.past)) s.receipts (λ r few. omega (arith, few, longer)) time.1 in
    let told = l.front.1 in
    let moved : Moves s s' [] = record {
      gained = (l.same.0, l.same.1 ∙ sym (append-nil s.receipts));
      begins = l.begins;
      front = l.front.0;
      late = All-nil (Behind s.front);
    } in (
      (moved, (omega (arith, told), subst (All (UpTo (length s'.past))) (sym l.same.1) low)),
      record {
        begins = l.begins;
        past = prefix_self s'.past;
        later = [];
        receipts = l.same.1 ∙ sym (append-nil s.receipts);
        before = low;
        behind = All-nil (Behind (length s'.past));
      },
    )

-- one step after another
pub moves_on : (s s1 s2 : SeatState) (rs more : List Receipt) → MovesInTime s s1 rs → MovesInTime s1 s2 more → MovesInTime s s2 (rs ++ more)
moves_on s s1 s2 rs more m n = (moves_more s s1 s2 rs more m.0 n.0, n.1)

-- what was seen stays so
pub still : (first : List Entry) (s s' : SeatState) (rs made : List Receipt) (seen : List Entry) → IsInTime s → Moves s s' rs → Glimpses first s made seen → Glimpses first s' made seen
still first s s' rs made seen time m g =
    let few : length seen ≤ length s.past = prefix_length seen s.past g.past in
    let told = time.0 in record {
      begins = g.begins;
      past = prefix_trans seen s.past s'.past g.past m.begins;
      later = g.later ++ rs;
      receipts = m.gained.1 ∙ ap (λ (l : List Receipt). l ++ rs) g.receipts ∙ append_assoc made g.later rs;
      before = g.before;
      behind = all_both (Behind (length seen)) g.later rs g.behind (all_so (Behind s.front) (Behind (length seen)) rs (λ r late. omega (arith, late, few, told)) m.late);
    }

-- what is seen in a step is seen in all steps to it
pub from_first : (s s1 s2 : SeatState) (rs : List Receipt) (seen : List Entry) → Moves s s1 rs → Glimpses s1.past s2 s1.receipts seen → Glimpses s.past s2 (s.receipts ++ rs) seen
from_first s s1 s2 rs seen m g = record {
  begins = prefix_trans s.past s1.past seen m.begins g.begins;
  past = g.past;
  later = g.later;
  receipts = g.receipts ∙ ap (λ (l : List Receipt). l ++ g.later) m.gained.1;
  before = subst (All (UpTo (length seen))) m.gained.1 g.before;
  behind = g.behind;
}
