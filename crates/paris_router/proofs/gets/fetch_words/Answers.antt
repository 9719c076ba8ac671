use Rattle.std.proofs.Common.{◌≡◌, ℕ, ◌<◌, ◌-◌, ◌/◌, ◌%◌, ◌^◌, ◌∙◌, Bool, List, ap, arith, cond, get_or, length, sym, true}
use Rattle.std.specs.Prelude.{◌&&◌, find, nat_le}
use Rattle.paris_geometry.specs.Geometry.{numbers_below}
use Rattle.paris_plane.specs.Bits.{word_bit}
use Rattle.paris_plane.specs.Words.{ones_bit}
use Rattle.paris_router.proofs.Least.{find_below}
use Rattle.paris_router.proofs.gets.fetch_words.Goals as goal

every_bit : (chosen : List ℕ) → ((q : ℕ) → q < 4 → get_or chosen q 0 ≡ 2 ^ 64 - 1) → (i : ℕ) → i < 256 → word_bit (get_or chosen (i / 64) 0) (i % 64) ≡ true
every_bit chosen ones i h = ap (λ w. word_bit w (i % 64)) (ones (i / 64) (omega (arith, h))) ∙ ones_bit (i % 64) (omega arith)

pub returns-then-are_all_ones-clause-bad : goal.returns-then-are_all_ones-clause-bad
returns-then-are_all_ones-clause-bad c =
    let n : ℕ = length c.args.words.now in
    let f : ℕ → Bool = λ i. nat_le n (get_or c.args.addresses.now i 0) in
    let g : ℕ → Bool = λ i. word_bit (get_or c.args.chosen.now (i / 64) 0) (i % 64) && f i in
    let count : 256 ≡ c.args.count = omega arith in
    c.fetch_every_word.ensures.bad
    ∙ find_below f g 256 (λ i h. sym (ap (λ b. b && f i) (every_bit c.args.chosen.now (c.are_all_ones.ensures c.if-are_all_ones.true) i h)))
    ∙ ap (λ k. find g (numbers_below k)) count

pub returns-then-are_all_ones-clause-values : goal.returns-then-are_all_ones-clause-values
returns-then-are_all_ones-clause-values c =
    λ none i h.
    let inside : i < 256 = omega arith in
    c.fetch_every_word.ensures.values none i inside
    ∙ sym (ap (λ b. cond b (get_or c.args.words.now (get_or c.args.addresses.now i 0) 0) 0) (every_bit c.args.chosen.now (c.are_all_ones.ensures c.if-are_all_ones.true) i inside))
