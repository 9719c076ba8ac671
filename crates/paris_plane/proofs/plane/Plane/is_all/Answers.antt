use Rattle.std.proofs.Common.{◌≡◌, ℕ, ◌+◌, ◌<◌, ◌*◌, ◌/◌, ◌%◌, ◌^◌, ◌∙◌, ap, sym, arith, get_or, bit_xor, List, refl, length, replicate, Bool}
use Rattle.std.proofs.lemmas.Simd.{get_or-replicate, length-replicate}
use Rattle.paris_plane.specs.Bits.{bits, word_bit}
use Rattle.paris_plane.specs.Equal.{low_same, low_zero}
use Rattle.paris_plane.proofs.Bits.{bits_replicate, long_of}
use Rattle.paris_plane.proofs.Agree.{planes_agree, words_agree, is_zero, zero_is_true, never, shifted}
use Rattle.paris_plane.proofs.plane.Plane.is_all.Goals as goal

-- words that are all one word, bit by bit
all_words : (w k i : ℕ) → i < k → get_or (replicate k w) i 0 ≡ w
all_words w k i h = get_or-replicate k i w 0 h

pub are_all-requires : goal.are_all-requires
are_all-requires c = omega (arith, c.self.invariant, ap length c.deref.ensures)

pub returns-then-not-are_all : goal.returns-then-not-are_all
returns-then-not-are_all c =
    let n : ℕ = c.self.inside.len in
    let k : ℕ = (n + 63) / 64 in
    let w : ℕ = c.word_of-word.result in
    let ws : List ℕ = c.deref.result.now in
    let is_ws : bits n ws ≡ c.args.self.now = ap (bits n) c.deref.ensures ∙ c.self.view_is in
    let is_vs : bits n (replicate k w) ≡ replicate n c.args.bit = bits_replicate w c.args.bit n (replicate k w) c.word_of-word.ensures refl in
    let same : length c.args.self.now ≡ n = long_of _ c.self.view_is in (
      never,
      λ e. c.if-not-are_all.ensures.1 (λ i j h m.
          words_agree n n ws (replicate k w) _ _ refl is_ws is_vs (e ∙ ap (λ (t : ℕ). replicate t c.args.bit) same) i j m (omega arith) ∙ ap (λ x. word_bit x j) (all_words w k i (omega arith))),
    )

pub returns-then-rest-eq0 : goal.returns-then-rest-eq0
returns-then-rest-eq0 c =
    let n : ℕ = c.self.inside.len in
    let k : ℕ = (n + 63) / 64 in
    let w : ℕ = c.word_of-word.result in
    let ws : List ℕ = c.deref.result.now in
    let is_ws : bits n ws ≡ c.args.self.now = ap (bits n) c.deref.ensures ∙ c.self.view_is in
    let is_vs : bits n (replicate k w) ≡ replicate n c.args.bit = bits_replicate w c.args.bit n (replicate k w) c.word_of-word.ensures refl in
    let same : n ≡ length c.args.self.now = sym (long_of _ c.self.view_is) in (
      λ _. planes_agree n n ws (replicate k w) _ _ refl is_ws is_vs
          (λ i j h m. c.if-not-are_all.ensures.0 refl i j h m ∙ sym (ap (λ x. word_bit x j) (all_words w k i (omega arith))))
          (λ j h. absurd (omega arith)) ∙ ap (λ (t : ℕ). replicate t c.args.bit) same,
      λ _. refl,
    )

pub returns : goal.returns
returns c =
    let n : ℕ = c.self.inside.len in
    let k : ℕ = (n + 63) / 64 in
    let w : ℕ = c.word_of-word.result in
    let ws : List ℕ = c.deref.result.now in
    let is_ws : bits n ws ≡ c.args.self.now = ap (bits n) c.deref.ensures ∙ c.self.view_is in
    let is_vs : bits n (replicate k w) ≡ replicate n c.args.bit = bits_replicate w c.args.bit n (replicate k w) c.word_of-word.ensures refl in
    let same : n ≡ length c.args.self.now = sym (long_of _ c.self.view_is) in
    let r : ℕ = n % 64 in
    let below : r < 64 = omega arith in
    let last : get_or (replicate k w) (n / 64) 0 ≡ w = all_words w k (n / 64) (omega arith) in
    let u : ℕ = get_or c.deref-2.result.now (n / 64) 0 in
    let eu : u ≡ get_or ws (n / 64) 0 = ap (λ l. get_or l (n / 64) 0) (c.deref-2.ensures ∙ sym c.deref.ensures) in
    let to : bit_xor u w % (1 * 2 ^ r % 2 ^ 64) ≡ bit_xor u w % 2 ^ r = ap (λ p. bit_xor u w % p) (shifted r below) in (
      λ h. planes_agree n n ws (replicate k w) _ _ refl is_ws is_vs
          (λ i j m t. c.if-not-are_all.ensures.0 refl i j m t ∙ sym (ap (λ x. word_bit x j) (all_words w k i (omega arith))))
          (λ j m. sym (ap (λ x. word_bit x j) eu) ∙ low_same u w r j (is_zero _ _ to h) m ∙ sym (ap (λ x. word_bit x j) last)) ∙ ap (λ (t : ℕ). replicate t c.args.bit) same,
      λ e. zero_is_true _ _ to (low_zero u w r (λ j m.
          ap (λ x. word_bit x j) eu ∙ words_agree n n ws (replicate k w) _ _ refl is_ws is_vs (e ∙ ap (λ (t : ℕ). replicate t c.args.bit) (sym same)) (n / 64) j (omega arith) (omega arith) ∙ ap (λ x. word_bit x j) last)),
    )
