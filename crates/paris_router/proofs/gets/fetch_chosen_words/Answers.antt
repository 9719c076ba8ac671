use Rattle.std.proofs.Common.{◌/◌, ◌%◌, ◌≡◌, ◌≢◌, ℕ, Bool, ◌∙◌, arith, below_more, false, get_or, length, refl, sym, true}
use Rattle.std.specs.Prelude.{◌&&◌, nat_le}
use Rattle.std.proofs.lemmas.Grind.{get_or-set_at}
use Rattle.std.proofs.lemmas.List.{get_or-set_other, length-set}
use Rattle.paris_plane.specs.Bits.{word_bit}
use Rattle.paris_router.proofs.Fetched.{chosen_at}
use Rattle.paris_router.proofs.Least.{chosen_bad, chosen_good, least_above, least_here, least_none}
use Rattle.paris_router.proofs.gets.fetch_chosen_words.Goals as goal

pub returns-then-address-words-clause-bad : goal.returns-then-address-words-clause-bad
returns-then-address-words-clause-bad c =
    let i : ℕ = c.loop-i.i in
    let n : ℕ = length c.args.words.now in
    let test : ℕ → Bool = λ j. word_bit (get_or c.args.chosen.now (j / 64) 0) (j % 64) && nat_le n (get_or c.args.addresses.now j 0) in
    let bad : test i ≡ true = chosen_bad (word_bit (get_or c.args.chosen.now (i / 64) 0) (i % 64)) (get_or c.args.addresses.now i 0) n c.chosen_word-address.result c.chosen_word-address.ensures (omega arith) c.requires.some in
    sym (c.loop-i.invariant.least ∙ least_here test i c.args.count (omega arith) bad)

pub loop-i-preserved : goal.loop-i-preserved
loop-i-preserved c =
    let i : ℕ = c.loop-i.i in
    let n : ℕ = length c.args.words.now in
    let address : ℕ = c.chosen_word-address.result in
    let word : ℕ = c.chosen_word-word.result in
    let place : ℕ = get_or c.args.addresses.now i 0 in
    let test : ℕ → Bool = λ j. word_bit (get_or c.args.chosen.now (j / 64) 0) (j % 64) && nat_le n (get_or c.args.addresses.now j 0) in
    let good : test i ≡ false = chosen_good (word_bit (get_or c.args.chosen.now (i / 64) 0) (i % 64)) place n address c.chosen_word-address.ensures (omega arith) in
    record {
      long = length-set c.loop-i.fetched i word ∙ c.loop-i.invariant.long;
      least = c.loop-i.invariant.least ∙ least_above test i c.args.count (omega arith) good;
      done = below_more _ _
          (λ j h. let ne : j ≢ i = omega arith in
          get_or-set_other c.loop-i.fetched i j word 0 ne ∙ c.loop-i.invariant.done j h)
          (get_or-set_at c.loop-i.fetched i i word 0 refl (omega arith) ∙ c.chosen_word-word.ensures ∙ chosen_at (word_bit (get_or c.args.chosen.now (i / 64) 0) (i % 64)) c.args.words.now place address c.chosen_word-address.ensures);
    }

pub returns-clause-bad : goal.returns-clause-bad
returns-clause-bad c =
    let n : ℕ = length c.args.words.now in
    let test : ℕ → Bool = λ j. word_bit (get_or c.args.chosen.now (j / 64) 0) (j % 64) && nat_le n (get_or c.args.addresses.now j 0) in
    sym (c.loop-i.invariant.least ∙ least_none test c.loop-i.i c.args.count (omega arith))
