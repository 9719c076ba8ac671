use Rattle.std.proofs.Common.{ℕ, Bool, ◌+◌, ◌*◌, ◌/◌, ◌%◌, ◌∙◌, ap, arith, cond, get_or, length}
use Rattle.std.specs.Prelude.{◌&&◌, find, nat_le}
use Rattle.paris_geometry.specs.Geometry.{numbers_below}
use Rattle.paris_model.specs.Store.{low}
use Rattle.paris_plane.specs.Bits.{word_bit}
use Rattle.paris_field.specs.Numbers.{has, number_at}
use Rattle.paris_router.proofs.Least.{find_below}
use Rattle.paris_router.proofs.gets.fetch_quad.Goals as goal

pub returns-clause-bad : goal.returns-clause-bad
returns-clause-bad c =
    let n : ℕ = length c.args.words.now in
    let b : ℕ = c.args.quad in
    let count : ℕ = c.min-count.result in
    let f : ℕ → Bool = λ i. word_bit (get_or c.quad_chosen-chosen.result (i / 64) 0) (i % 64) && nat_le n (get_or c.quad_words.new.words i 0) in
    let g : ℕ → Bool = λ i. has c.args.selected.now (256 * b + i) && nat_le n (number_at c.args.addresses.now (256 * b + i)) in
    c.fetch_words-bad.ensures.bad
    ∙ find_below f g count (λ i h.
    ap (λ s. s && nat_le n (get_or c.quad_words.new.words i 0)) (c.quad_chosen-chosen.ensures i (omega arith) (omega (arith, c.requires.selected)))
    ∙ ap (λ a. has c.args.selected.now (256 * b + i) && nat_le n a) (c.quad_words.ensures i (omega arith) (omega arith)))
    ∙ ap (λ k. find g (numbers_below k)) (omega arith)

pub returns-clause-values : goal.returns-clause-values
returns-clause-values c =
    λ none i hi within.
    let b : ℕ = c.args.quad in
    let v : ℕ = 256 * b + i in
    let L : ℕ = length c.args.values.now in
    let read : ℕ → ℕ = λ a. get_or c.args.words.now a 0 in
    c.put_quad_words.ensures.numbers i hi within
    ∙ ap (low L) (c.fetch_words-bad.ensures.values none i (omega arith)
    ∙ ap (λ s. cond s (read (get_or c.quad_words.new.words i 0)) 0) (c.quad_chosen-chosen.ensures i hi (omega (arith, c.requires.selected)))
    ∙ ap (λ a. cond (has c.args.selected.now v) (read a) 0) (c.quad_words.ensures i hi within))
