-- What a seat saw by a look, and what that is of the closed history. On lists alone.
use Rattle.std.proofs.Common.{◌≡◌, ℕ, suc, ◌+◌, ◌<◌, ◌≤◌, Bool, true, false, List, [], ◌∷◌, ◌++◌, length, refl, sym, ap, ◌∙◌, arith, append-nil}
use Rattle.std.specs.Prelude.{◌==◌, if◌then◌else◌}
use Rattle.std.specs.List.{All}
use Rattle.std.proofs.lemmas.List.Elements.{All-cons, All-head, All-nil, All-tail}
use mathlib.Core.List.{IsPrefix}
use Rattle.paris_records.specs.declared.records.Entry.{Entry}
use Rattle.paris_records.specs.declared.records.Receipt.{Receipt}
use Rattle.paris_records.specs.History.{receipt}
use Rattle.paris_records.specs.Receipts.{receipts_in}
use Rattle.paris_desk.specs.Seats.{SeatState}
use Rattle.paris_desk.proofs.Moving.{Behind, all_so}
use Rattle.paris_desk.proofs.Prefixes.{prefix_length, prefix_trans}
use Rattle.paris_parts.specs.Seeing.{Glimpses, SeesWhenClosed}

-- receipts of the first so many entries
abbrev pub UpTo : ℕ → Receipt → Type 0
UpTo n r = r.number ≤ n

-- a list has one cut between what is up to a number and what is behind it
cut_once : (n : ℕ) (xs ys us vs : List Receipt) → xs ++ ys ≡ us ++ vs → All (UpTo n) xs → All (Behind n) ys → All (UpTo n) us → All (Behind n) vs → xs ≡ us
cut_once n [] ys [] vs same low high low' high' = refl
cut_once n [] [] (u ∷ us) vs same low high low' high' = cc
cut_once n [] (y ∷ ys) (u ∷ us) vs same low high low' high' =
    let first : y ≡ u = cc in
    let behind : n < y.number = All-head (Behind n) y ys high in
    let upto : u.number ≤ n = All-head (UpTo n) u us low' in
    let at : y.number ≡ u.number = ap (λ (r : Receipt). r.number) first in
    absurd (omega (arith, behind, upto, at))
cut_once n (x ∷ xs) ys [] [] same low high low' high' = cc
cut_once n (x ∷ xs) ys [] (v ∷ vs) same low high low' high' =
    let first : x ≡ v = cc in
    let upto : x.number ≤ n = All-head (UpTo n) x xs low in
    let behind : n < v.number = All-head (Behind n) v vs high' in
    let at : x.number ≡ v.number = ap (λ (r : Receipt). r.number) first in
    absurd (omega (arith, behind, upto, at))
cut_once n (x ∷ xs) ys (u ∷ us) vs same low high low' high' =
    let first : x ≡ u = cc in
    let rest : xs ++ ys ≡ us ++ vs = cc in
    let others = cut_once n xs ys us vs rest (All-tail (UpTo n) x xs low) high (All-tail (UpTo n) u us low') high' in
    λ i. first i ∷ others i

-- a seat's receipts in a history and in more behind it
receipts_apart : (s n : ℕ) (es more : List Entry) → receipts_in s n (es ++ more) ≡ receipts_in s n es ++ receipts_in s (n + length es) more
receipts_apart s n [] more = let at : n ≡ n + 0 = omega arith in ap (λ (k : ℕ). receipts_in s k more) at
receipts_apart s n (e ∷ es) more = by_test (e.seat == s) (receipts_apart s (n + 1) es more)
  where
    by_test : (b : Bool) → receipts_in s (n + 1) (es ++ more) ≡ receipts_in s (n + 1) es ++ receipts_in s (n + 1 + length es) more
        → (if b then receipt s (n + 1) e.event e.reply ∷ receipts_in s (n + 1) (es ++ more) else receipts_in s (n + 1) (es ++ more))
        ≡ (if b then receipt s (n + 1) e.event e.reply ∷ receipts_in s (n + 1) es else receipts_in s (n + 1) es) ++ receipts_in s (n + suc (length es)) more
    by_test true rest =
        let at : n + 1 + length es ≡ n + suc (length es) = omega arith in
        ap (λ (l : List Receipt). receipt s (n + 1) e.event e.reply ∷ l) (rest ∙ ap (λ (k : ℕ). receipts_in s (n + 1) es ++ receipts_in s k more) at)
    by_test false rest =
        let at : n + 1 + length es ≡ n + suc (length es) = omega arith in
        rest ∙ ap (λ (k : ℕ). receipts_in s (n + 1) es ++ receipts_in s k more) at

receipts_upto : (s n m : ℕ) (es : List Entry) → n + length es ≤ m → All (UpTo m) (receipts_in s n es)
receipts_upto s n m [] few = All-nil (UpTo m)
receipts_upto s n m (e ∷ es) few = by_test (e.seat == s) (receipts_upto s (n + 1) m es (omega (arith, few)))
  where
    by_test : (b : Bool) → All (UpTo m) (receipts_in s (n + 1) es) → All (UpTo m) (if b then receipt s (n + 1) e.event e.reply ∷ receipts_in s (n + 1) es else receipts_in s (n + 1) es)
    by_test true rest = All-cons (UpTo m) (receipt s (n + 1) e.event e.reply) (receipts_in s (n + 1) es) (omega (arith, few)) rest
    by_test false rest = rest

receipts_behind : (s n m : ℕ) (es : List Entry) → m ≤ n → All (Behind m) (receipts_in s n es)
receipts_behind s n m [] less = All-nil (Behind m)
receipts_behind s n m (e ∷ es) less = by_test (e.seat == s) (receipts_behind s (n + 1) m es (omega (arith, less)))
  where
    by_test : (b : Bool) → All (Behind m) (receipts_in s (n + 1) es) → All (Behind m) (if b then receipt s (n + 1) e.event e.reply ∷ receipts_in s (n + 1) es else receipts_in s (n + 1) es)
    by_test true rest = All-cons (Behind m) (receipt s (n + 1) e.event e.reply) (receipts_in s (n + 1) es) (omega (arith, less)) rest
    by_test false rest = rest

-- a beginning of a history has just those of a seat's receipts that are of its entries
pub begun_receipts : (s : ℕ) (h seen : List Entry) (made later : List Receipt) → IsPrefix seen h → receipts_in s 0 h ≡ made ++ later
    → All (UpTo (length seen)) made → All (Behind (length seen)) later → receipts_in s 0 seen ≡ made
begun_receipts s h seen made later begins are before behind =
    let apart : receipts_in s 0 seen ++ receipts_in s (0 + length seen) begins.0 ≡ made ++ later =
    sym (receipts_apart s 0 seen begins.0) ∙ ap (receipts_in s 0) begins.1 ∙ are in
    cut_once (length seen) (receipts_in s 0 seen) (receipts_in s (0 + length seen) begins.0) made later apart
    (receipts_upto s 0 (length seen) seen (omega arith)) (receipts_behind s (0 + length seen) (length seen) begins.0 (omega arith)) before behind

-- what a seat saw is seen in the closed history
pub seen_so : (h : List Entry) (n : ℕ) (s : SeatState) (begun known : List Entry) (calls : List Receipt) → IsPrefix s.past h → s.receipts ≡ receipts_in n 0 h
    → (1 ≤ n → IsPrefix known begun) → All (UpTo (length known)) calls → calls ≡ receipts_in 0 0 h
    → (made : List Receipt) (seen : List Entry) → Glimpses begun s made seen → SeesWhenClosed h n made seen
seen_so h n s begun known calls past own first upto all made seen g =
    let begins : IsPrefix seen h = prefix_trans seen s.past h g.past past in record {
      begins = begins;
      own = begun_receipts n h seen made g.later begins (sym own ∙ g.receipts) g.before g.behind;
      first = λ other. (
          let inside : IsPrefix known seen = prefix_trans known begun seen (first other) g.begins in
          let few : length known ≤ length seen = prefix_length known seen inside in
          begun_receipts 0 h seen calls [] begins (sym all ∙ sym (append-nil calls))
          (all_so (UpTo (length known)) (UpTo (length seen)) calls (λ r low. omega (arith, low, few)) upto) (All-nil (Behind (length seen)))
          ∙ all);
    }
