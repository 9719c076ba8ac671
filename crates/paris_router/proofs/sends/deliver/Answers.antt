use Rattle.std.proofs.Common.{◌≡◌, ◌<◌, ◌∙◌, ℕ, List, Bool, ap, sym, arith, get_or, length, set, true, false, refl}
use Rattle.std.specs.Prelude.{nat_lt}
use Rattle.std.proofs.lemmas.List.{get_or_read}
use Rattle.paris_field.proofs.Places.{length-bits_everywhere}
use Rattle.paris_field.specs.Numbers.{has}
use Rattle.paris_model.specs.Mail.{arrivals, messages}
use Rattle.paris_router.specs.Mail.{first_numbers, number_of_first, receivers_of, crowded_in}
use Rattle.paris_router.proofs.Posted.{first_comes, first_stays, get_or-seen, none_seen, one_now, seen_kept, seen_sent, some_more, two_now}
use Rattle.paris_router.proofs.Sent.{sent, silent}
use Rattle.paris_router.proofs.sends.deliver.Goals as goal
use Rattle.paris_router.proofs.sends.deliver.Goals.{then-get+then-get-2, then-get+else-get-2, else-get}

abbrev some : ℕ → List ℕ → Bool
some r xs = nat_lt 0 (length xs)

abbrev more : ℕ → List ℕ → Bool
more r xs = nat_lt 1 (length xs)

pub loop-p-init : goal.loop-p-init
loop-p-init g c =
    record {
      values = λ zero empty. empty ∙ none_seen (λ (r : ℕ) (xs : List ℕ). number_of_first c.args.numbers.now zero xs) (length c.args.values.now) zero (λ r. refl);
      receivers = c.requires.none ∙ none_seen some (length c.args.values.now) false (λ r. refl);
      crowded = c.requires.alone ∙ none_seen more (length c.args.values.now) false (λ r. refl);
    }

pub get-requires-then-get : goal.get-requires-then-get
get-requires-then-get g c =
    let inside : get_or c.args.addresses.now c.loop-p.p 0 < length c.args.values.now = c.requires.within c.loop-p.p 0 (omega arith) in
    omega (arith, inside, ap length c.loop-p.invariant.receivers ∙ length-bits_everywhere _ _)

pub set-requires-else-get-2 : goal.set-requires-else-get-2
set-requires-else-get-2 g c =
    let inside : get_or c.args.addresses.now c.loop-p.p 0 < length c.args.values.now = c.requires.within c.loop-p.p 0 (omega arith) in
    omega (arith, inside, ap length c.loop-p.invariant.receivers ∙ length-bits_everywhere _ _)

pub loop-p-preserved : goal.loop-p-preserved
loop-p-preserved g c =
    let n : ℕ = length c.args.values.now in
    let p : ℕ = c.loop-p.p in
    let selected = has c.args.selected.now in
    let address : ℕ → ℕ = λ v. get_or c.args.addresses.now v 0 in
    let itself : ℕ → ℕ = λ v. v in
    let numbers = c.args.numbers.now in
    let mail : List (ℕ × ℕ) = messages p selected address itself in
    let r : ℕ = address p in
    let message : ℕ × ℕ = (r, p) in
    let inside : r < n = c.requires.within p 0 (omega arith) in
    let before : List ℕ = arrivals mail r in
    let has_one = ap (λ l. get_or l r false) c.loop-p.invariant.receivers ∙ get_or-seen some n mail r false inside in
    elim c.if-get.branch [
      | then-get+then-get-2 w ↦
          let next = sym (sent p selected address itself (sym c.get.ensures ∙ w.if-get.true)) in
          let there : nat_lt 0 (length before) ≡ true = sym (w.get-then-get.ensures ∙ has_one) ∙ w.if-get-2.true in
          record {
            values = λ zero empty.
                w.values-is ∙ c.loop-p.invariant.values zero empty
                ∙ seen_kept (λ (r : ℕ) (xs : List ℕ). number_of_first numbers zero xs) n mail message zero (first_stays numbers zero before p there)
                ∙ ap (first_numbers n numbers zero) next;
            receivers = w.receivers-is ∙ c.loop-p.invariant.receivers ∙ seen_kept some n mail message false (some_more before p ∙ sym there) ∙ ap (receivers_of n) next;
            crowded = w.crowded-is ∙ w.set.ensures ∙ ap (λ l. set l r true) c.loop-p.invariant.crowded ∙ seen_sent more n mail message true inside (two_now before p there) ∙ ap (crowded_in n) next;
          }
      | then-get+else-get-2 w ↦
          let next = sym (sent p selected address itself (sym c.get.ensures ∙ w.if-get.true)) in
          let none : nat_lt 0 (length before) ≡ false = sym (w.get-then-get.ensures ∙ has_one) ∙ w.if-get-2.false in
          record {
            values = λ zero empty.
                let reading : get_or numbers p zero ≡ w.index-numbers-p.result = sym (get_or_read numbers p w.index-numbers-p.result (omega arith) w.index-numbers-p.is zero) in
                w.values-is ∙ ap (λ l. set l r w.index-numbers-p.result) (c.loop-p.invariant.values zero empty)
                ∙ seen_sent (λ (r : ℕ) (xs : List ℕ). number_of_first numbers zero xs) n mail message w.index-numbers-p.result inside (first_comes numbers zero before p none ∙ reading)
                ∙ ap (first_numbers n numbers zero) next;
            receivers = w.receivers-is ∙ w.set-else-get-2.ensures ∙ ap (λ l. set l r true) c.loop-p.invariant.receivers ∙ seen_sent some n mail message true inside (some_more before p) ∙ ap (receivers_of n) next;
            crowded = w.crowded-is ∙ c.loop-p.invariant.crowded ∙ seen_kept more n mail message false (one_now before p none) ∙ ap (crowded_in n) next;
          }
      | else-get w ↦
          let next = sym (silent p selected address itself (sym c.get.ensures ∙ w.if-get.false)) in
          record {
            values = λ zero empty. w.values-is ∙ c.loop-p.invariant.values zero empty ∙ ap (first_numbers n numbers zero) next;
            receivers = w.receivers-is ∙ c.loop-p.invariant.receivers ∙ ap (receivers_of n) next;
            crowded = w.crowded-is ∙ c.loop-p.invariant.crowded ∙ ap (crowded_in n) next;
          }
    ]
