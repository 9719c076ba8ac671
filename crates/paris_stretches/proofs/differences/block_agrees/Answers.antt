use Rattle.std.proofs.Common.{◌≡◌, ℕ, ◌+◌, ◌*◌, ◌<◌, List, Bool, [], false, ap, sym, ◌∙◌, refl, arith, get_or, length}
use Rattle.std.proofs.lemmas.Bool.{false≢true}
use Rattle.std.proofs.lemmas.List.{get_or_read}
use Rattle.paris_plane.specs.Bits.{word_bit}
use Rattle.paris_field.specs.Numbers.{plane_at}
use Rattle.paris_field.proofs.Halves.{same_number, word_bit-number_at}
use Rattle.paris_stretches.proofs.differences.block_agrees.Goals as goal

pub returns-then-not-word_agrees : goal.returns-then-not-word_agrees
returns-then-not-word_agrees c =
    let k : ℕ = c.loop-k.k in
    let b : ℕ = c.args.block in
    let ps : List (List Bool) = c.args.xs.now in
    let qs : List (List Bool) = c.args.ys.now in
    let x : List Bool = c.index-xs-k.result in
    let y : List Bool = c.index-ys-k.result in
    let in_x : k < length ps = omega (arith, c.loop-k-test.true, c.loop-k.auto) in
    let in_y : k < length qs = omega (arith, in_x, c.requires.width) in
    let at_x : x ≡ plane_at ps k = get_or_read ps k x in_x c.index-xs-k.is [] in
    let at_y : y ≡ plane_at qs k = get_or_read qs k y in_y c.index-ys-k.is [] in (
      λ t. absurd (false≢true t),
      λ each.
          let same : (i : ℕ) → i < c.args.count → word_bit c.word.result (c.args.from + i) ≡ word_bit c.word-in-loop-k.result (c.args.from + i) = λ i h.
          let v : ℕ = 64 * b + (c.args.from + i) in
          c.word.ensures (c.args.from + i) (omega (arith, h, c.requires.block)) (omega (arith, h, c.requires.processors, ap length at_x, c.requires.x k in_x))
          ∙ ap (λ p. get_or p v false) at_x ∙ sym (word_bit-number_at ps k v) ∙ ap (λ n. word_bit n k) (each i h) ∙ word_bit-number_at qs k v ∙ sym (ap (λ p. get_or p v false) at_y)
          ∙ sym (c.word-in-loop-k.ensures (c.args.from + i) (omega (arith, h, c.requires.block)) (omega (arith, h, c.requires.processors, ap length at_y, c.requires.y k in_y))) in
          absurd (false≢true (sym c.if-not-word_agrees.true ∙ c.word_agrees.ensures.1 same)),
    )

pub returns : goal.returns
returns c = (
  λ t i h. same_number c.args.xs.now c.args.ys.now (64 * c.args.block + (c.args.from + i)) c.requires.width (λ k u. c.loop-k.invariant k (omega (arith, u, c.loop-k-test.false, c.loop-k.auto, c.requires.width)) i h),
  λ each. refl,
)
