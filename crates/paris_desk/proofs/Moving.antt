-- A seat moves: step by step it gains receipts, and its past grows.
use Rattle.std.proofs.Common.{◌≡◌, ◌+◌, ◌<◌, ℕ, List, [], ◌∷◌, ◌++◌, length, refl, sym, ap, ◌∙◌, subst, arith, append_assoc, append-nil, length-append}
use Rattle.std.specs.List.{All}
use Rattle.std.proofs.lemmas.List.Elements.{All-cons, All-head, All-nil, All-tail}
use Rattle.paris_names.specs.declared.profiles.Profile.{Profile}
use Rattle.paris_events.specs.declared.events.Event.{Event}
use Rattle.paris_events.specs.declared.events.Reply.{Reply}
use Rattle.paris_records.specs.declared.records.Entry.{Entry}
use Rattle.paris_records.specs.declared.records.Receipt.{Receipt}
use Rattle.paris_records.specs.History.{entry, receipt}
use Rattle.paris_desk.specs.Calls.{Called}
use Rattle.paris_desk.specs.Seats.{SeatState, called}
use Rattle.paris_desk.specs.Work.{EndsBy, Gained, KnowsTo, Moves, MovesBy}
use Rattle.paris_desk.proofs.Prefixes.{prefix_self, prefix_snoc, prefix_trans}

pub all_so : {A : Type 0} (P Q : A → Type 0) (xs : List A) → ((x : A) → P x → Q x) → All P xs → All Q xs
all_so P Q [] so h = All-nil Q
all_so P Q (x ∷ xs) so h = All-cons Q x xs (so x (All-head P x xs h)) (all_so P Q xs so (All-tail P x xs h))

pub all_both : {A : Type 0} (P : A → Type 0) (xs ys : List A) → All P xs → All P ys → All P (xs ++ ys)
all_both P [] ys h g = g
all_both P (x ∷ xs) ys h g = All-cons P x (xs ++ ys) (All-head P x xs h) (all_both P xs ys (All-tail P x xs h) g)

-- receipts of entries behind the first so many
abbrev pub Behind : ℕ → Receipt → Type 0
Behind n r = n < r.number

-- a seat with no receipt more
gained_none : (s : SeatState) → Gained s s []
gained_none s = (refl, sym (append-nil s.receipts))

-- receipts gained one after another
gained_more : (s s1 s2 : SeatState) (rs more : List Receipt) → Gained s s1 rs → Gained s1 s2 more → Gained s s2 (rs ++ more)
gained_more s s1 s2 rs more first next =
    (next.0 ∙ first.0, next.1 ∙ ap (λ (l : List Receipt). l ++ more) first.1 ∙ append_assoc s.receipts rs more)

pub moves_none : (s : SeatState) → Moves s s []
moves_none s = record { gained = gained_none s; begins = prefix_self s.past; front = omega arith; late = All-nil (Behind s.front) }

-- one step after another
pub moves_more : (s s1 s2 : SeatState) (rs more : List Receipt) → Moves s s1 rs → Moves s1 s2 more → Moves s s2 (rs ++ more)
moves_more s s1 s2 rs more m n =
    let forth = m.front in
    let on = n.front in record {
      gained = gained_more s s1 s2 rs more m.gained n.gained;
      begins = prefix_trans s.past s1.past s2.past m.begins n.begins;
      front = omega (arith, forth, on);
      late = all_both (Behind s.front) rs more m.late (all_so (Behind s1.front) (Behind s.front) more (λ r late. omega (arith, late, forth)) n.late);
    }

-- the receipt of a recorded call
abbrev pub receipt_of : (p : Profile) (s s' : SeatState) (event : Event) (r : Reply) → Called p s s' event r → Receipt
receipt_of p s s' event r c = receipt s.number (length (c.history ++ entry s.number event r ∷ [])) event r

-- a call was recorded
pub moves_call : (p : Profile) (s s' : SeatState) (event : Event) (r : Reply) (c : Called p s s' event r) → Moves s s' (receipt_of p s s' event r c ∷ [])
moves_call p s s' event r c =
    let h : List Entry = c.history ++ entry s.number event r ∷ [] in
    let own : Receipt = receipt s.number (length h) event r in
    let more : length h ≡ length c.history + 1 = length-append c.history (entry s.number event r ∷ []) in
    let told = c.told in
    let moved : Moves s (called s h event r) (own ∷ []) = record {
      gained = (refl, refl);
      begins = prefix_trans s.past c.history h c.begins (prefix_snoc c.history (entry s.number event r));
      front = omega (arith, told, more);
      late = All-cons (Behind s.front) own [] (omega (arith, told, more)) (All-nil (Behind s.front));
    } in
    subst (λ (x : SeatState). Moves s x (own ∷ [])) (sym c.seat) moved

knows_more : (s s1 s2 : SeatState) (rs more : List Receipt) (r : Receipt) → KnowsTo s1 s2 (r ∷ more) → KnowsTo s s2 (rs ++ r ∷ more)
knows_more s s1 s2 [] [] r k = k
knows_more s s1 s2 [] (q ∷ more) r k = knows_more s s1 s2 [] more q k
knows_more s s1 s2 (a ∷ []) more r k = knows_more s s1 s2 [] more r k
knows_more s s1 s2 (a ∷ b ∷ rs) more r k = knows_more s s1 s2 (b ∷ rs) more r k

knows_same : (s s1 s2 : SeatState) (rs : List Receipt) → s1.number ≡ s2.number → KnowsTo s s1 rs → s2.past ≡ s1.past → s2.front ≡ s1.front → KnowsTo s s2 rs
knows_same s s1 s2 [] same k past front = (past ∙ k.0, front ∙ k.1)
knows_same s s1 s2 (r ∷ []) same (before, ends, at, told) past front =
    (before, past ∙ ends ∙ ap (λ (n : ℕ). before ++ entry n r.event r.reply ∷ []) same, at ∙ sym (ap length past), front ∙ told)
knows_same s s1 s2 (r ∷ q ∷ rs) same k past front = knows_same s s1 s2 (q ∷ rs) same k past front

knows_on : (s s1 s2 : SeatState) (rs more : List Receipt) → s1.number ≡ s2.number → KnowsTo s s1 rs → KnowsTo s1 s2 more → KnowsTo s s2 (rs ++ more)
knows_on s s1 s2 rs [] same k n = subst (λ (l : List Receipt). KnowsTo s s2 l) (sym (append-nil rs)) (knows_same s s1 s2 rs same k n.0 n.1)
knows_on s s1 s2 rs (r ∷ more) same k n = knows_more s s1 s2 rs more r n

-- what is known up to a last call hangs on what it was before no more
pub knows_from : (s t s' : SeatState) (rs : List Receipt) (r : Receipt) → KnowsTo s s' (r ∷ rs) → KnowsTo t s' (r ∷ rs)
knows_from s t s' [] r k = k
knows_from s t s' (q ∷ rs) r k = knows_from s t s' rs q k

pub by_none : (s : SeatState) → MovesBy s s []
by_none s = (moves_none s, (refl, refl))

-- some calls after others
pub by_more : (s s1 s2 : SeatState) (rs more : List Receipt) → MovesBy s s1 rs → MovesBy s1 s2 more → MovesBy s s2 (rs ++ more)
by_more s s1 s2 rs more m n = (moves_more s s1 s2 rs more m.0 n.0, knows_on s s1 s2 rs more (sym n.0.gained.0) m.1 n.1)

-- a call was recorded, with which the past ends
pub by_call : (p : Profile) (s s' : SeatState) (event : Event) (r : Reply) (c : Called p s s' event r) → MovesBy s s' (receipt_of p s s' event r c ∷ [])
by_call p s s' event r c =
    let h : List Entry = c.history ++ entry s.number event r ∷ [] in
    let ends : EndsBy (receipt_of p s s' event r c) (called s h event r) = (c.history, refl, refl, refl) in
    (moves_call p s s' event r c, subst (EndsBy (receipt_of p s s' event r c)) (sym c.seat) ends)
