use Rattle.std.proofs.Common.{◌≡◌, ◌≢◌, ℕ, Bool, ◌∙◌, arith, below_more, false, get_or, length, refl, sym, true}
use Rattle.std.specs.Prelude.{nat_le}
use Rattle.std.proofs.lemmas.Grind.{get_or-set_at}
use Rattle.std.proofs.lemmas.List.{get_or-set_other, length-set}
use Rattle.paris_router.proofs.Least.{is_inside, is_outside, least_above, least_here, least_none}
use Rattle.paris_router.proofs.gets.fetch_every_word.Goals as goal

pub returns-then-address-words-clause-bad : goal.returns-then-address-words-clause-bad
returns-then-address-words-clause-bad c =
    let i : ℕ = c.loop-i.i in
    let n : ℕ = length c.args.words.now in
    let test : ℕ → Bool = λ j. nat_le n (get_or c.args.addresses.now j 0) in
    let bad : test i ≡ true = is_outside true (get_or c.args.addresses.now i 0) n refl (omega arith) in
    sym (c.loop-i.invariant.least ∙ least_here test i 256 (omega arith) bad)

pub loop-i-preserved : goal.loop-i-preserved
loop-i-preserved c =
    let i : ℕ = c.loop-i.i in
    let n : ℕ = length c.args.words.now in
    let place : ℕ = get_or c.args.addresses.now i 0 in
    let word : ℕ = get_or c.args.words.now place 0 in
    let test : ℕ → Bool = λ j. nat_le n (get_or c.args.addresses.now j 0) in
    let good : test i ≡ false = is_inside true place n (omega arith) in
    record {
      long = length-set c.loop-i.fetched i word ∙ c.loop-i.invariant.long;
      least = c.loop-i.invariant.least ∙ least_above test i 256 (omega arith) good;
      done = below_more _ _
          (λ j h. let ne : j ≢ i = omega arith in
          get_or-set_other c.loop-i.fetched i j word 0 ne ∙ c.loop-i.invariant.done j h)
          (get_or-set_at c.loop-i.fetched i i word 0 refl (omega arith));
    }

pub returns-clause-bad : goal.returns-clause-bad
returns-clause-bad c =
    let n : ℕ = length c.args.words.now in
    let test : ℕ → Bool = λ j. nat_le n (get_or c.args.addresses.now j 0) in
    sym (c.loop-i.invariant.least ∙ least_none test c.loop-i.i 256 (omega arith))
