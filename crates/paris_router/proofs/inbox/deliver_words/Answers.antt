use Rattle.std.proofs.Common.{◌/◌, ◌%◌, ◌≡◌, ℕ, ◌+◌, ◌++◌, ◌∷◌, [], ◌∙◌, Bool, List, ap, arith, false, get_or, subst, sym, true}
use Rattle.std.specs.Prelude.{◌&&◌, nat_le}
use Rattle.std.proofs.lemmas.List.{append_assoc}
use Rattle.paris_model.specs.Mail.{messages}
use Rattle.paris_plane.specs.Bits.{word_bit}
use Rattle.paris_router.proofs.Fetched.{bit_none, bit_one}
use Rattle.paris_router.proofs.Least.{is_inside, is_outside, least_above, least_here}
use Rattle.paris_router.proofs.Sent.{sent, silent}
use Rattle.paris_router.proofs.inbox.deliver_words.Goals as goal
use Rattle.paris_router.proofs.inbox.deliver_words.Goals.{then-chosen-i-eq1+else-address-vps, else-chosen-i-eq1}

pub returns-then-address-vps-clause-bad : goal.returns-then-address-vps-clause-bad
returns-then-address-vps-clause-bad g c =
    let i : ℕ = c.loop-i.i in
    let n : ℕ = g.I.Inbox.count c.args.inbox.now in
    let test : ℕ → Bool = λ j. word_bit (get_or c.args.chosen.now (j / 64) 0) (j % 64) && nat_le n (get_or c.args.addresses.now j 0) in
    let bad : test i ≡ true = is_outside (word_bit (get_or c.args.chosen.now (i / 64) 0) (i % 64)) (get_or c.args.addresses.now i 0) n (bit_one (get_or c.args.chosen.now (i / 64) 0) (i % 64) c.if-chosen-i-eq1.true) (omega (arith, c.len-vps.ensures, c.if-address-vps.true)) in
    sym (c.loop-i.invariant.least ∙ least_here test i c.args.count (omega arith) bad)

pub loop-i-preserved : goal.loop-i-preserved
loop-i-preserved g c =
    let i : ℕ = c.loop-i.i in
    let n : ℕ = g.I.Inbox.count c.args.inbox.now in
    let selected : ℕ → Bool = (λ i. word_bit (get_or c.args.chosen.now (i / 64) 0) (i % 64)) in
    let address : ℕ → ℕ = λ j. get_or c.args.addresses.now j 0 in
    let value : ℕ → ℕ = λ j. get_or c.args.words.now j 0 in
    let test : ℕ → Bool = λ j. selected j && nat_le n (address j) in
    elim c.if-chosen-i-eq1.branch [
      | then-chosen-i-eq1+else-address-vps w ↦
          let does : selected i ≡ true = bit_one (get_or c.args.chosen.now (i / 64) 0) (i % 64) w.if-chosen-i-eq1.true in
          let good : test i ≡ false = is_inside (selected i) (address i) n (omega (arith, c.len-vps.ensures, w.if-address-vps.false)) in
          record {
            whole = subst g.I.Inbox.IsWhole (sym w.inbox-is) w.accept.ensures.whole;
            count = ap g.I.Inbox.count w.inbox-is ∙ w.accept.ensures.count ∙ c.loop-i.invariant.count;
            least = c.loop-i.invariant.least ∙ least_above test i c.args.count (omega arith) good;
            come = λ start mail h.
                let before : List (ℕ × ℕ) = mail ++ messages i selected address value in
                let one : List (ℕ × ℕ) = (address i, value i) ∷ [] in
                let next : before ++ one ≡ mail ++ messages (i + 1) selected address value = append_assoc mail (messages i selected address value) one ∙ ap (λ l. mail ++ l) (sym (sent i selected address value does)) in
                let done = subst (λ l. g.I.Inbox.HasHad start l w.accept.new.self) next (w.accept.ensures.come start before (c.loop-i.invariant.come start mail h)) in
                subst (g.I.Inbox.HasHad start (mail ++ messages (i + 1) selected address value)) (sym w.inbox-is) done;
          }
      | else-chosen-i-eq1 w ↦
          let stays : selected i ≡ false = bit_none (get_or c.args.chosen.now (i / 64) 0) (i % 64) w.if-chosen-i-eq1.false in
          let good : test i ≡ false = ap (λ b. b && nat_le n (address i)) stays in
          record {
            whole = subst g.I.Inbox.IsWhole (sym w.inbox-is) c.loop-i.invariant.whole;
            count = ap g.I.Inbox.count w.inbox-is ∙ c.loop-i.invariant.count;
            least = c.loop-i.invariant.least ∙ least_above test i c.args.count (omega arith) good;
            come = λ start mail h.
                let next : mail ++ messages i selected address value ≡ mail ++ messages (i + 1) selected address value = ap (λ l. mail ++ l) (sym (silent i selected address value stays)) in
                subst (g.I.Inbox.HasHad start (mail ++ messages (i + 1) selected address value)) (sym w.inbox-is)
                (subst (λ l. g.I.Inbox.HasHad start l c.loop-i.inbox) next (c.loop-i.invariant.come start mail h));
          }
    ]
