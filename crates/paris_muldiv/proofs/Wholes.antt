-- Whole products by words, and their low bits.
use Rattle.std.proofs.Common.{◌≡◌, ◌≤◌, ℕ, ◌+◌, ◌-◌, ◌*◌, ◌%◌, ◌^◌, ◌<◌, arith, ◌∙◌, sym, ap}
use Rattle.std.proofs.Math.Nat.{mul_comm}
use Rattle.std.proofs.Math.Pow.{mod-mod-pow}
use Rattle.std.proofs.lemmas.Nat.{mod-mul-add}

-- the product of two numbers of two words, from the four products of their words
pub whole : (a b c d p0 p1 q0 q1 r0 r1 s0 s1 : ℕ) → p0 + p1 * 2 ^ 64 ≡ a * c + 0 + 0 → q0 + q1 * 2 ^ 64 ≡ b * c + p1 + 0 → r0 + r1 * 2 ^ 64 ≡ a * d + q0 + 0 → s0 + s1 * 2 ^ 64 ≡ b * d + q1 + r1 → (p0 + 2 ^ 64 * r0) + 2 ^ 128 * (s0 + 2 ^ 64 * s1) ≡ (a + 2 ^ 64 * b) * (c + 2 ^ 64 * d)
whole a b c d p0 p1 q0 q1 r0 r1 s0 s1 p q r s = omega (arith, p, q, r, s)

-- the low bits of a number are those of its low W bits
pub low_of_whole : (W L low high p : ℕ) → L ≤ W → low < 2 ^ W → low + 2 ^ W * high ≡ p → low % 2 ^ L ≡ p % 2 ^ L
low_of_whole W L low high p narrow fits e =
    let turned : high * 2 ^ W + low ≡ p = omega (arith, e, mul_comm high (2 ^ W)) in
    let cut : p % 2 ^ W ≡ low = ap (λ t. t % 2 ^ W) (sym turned) ∙ mod-mul-add high (2 ^ W) low fits in
    let parts : (W - L) + L ≡ W = omega (arith, narrow) in
    ap (λ t. t % 2 ^ L) (sym cut) ∙ ap (λ k. p % 2 ^ k % 2 ^ L) (sym parts) ∙ mod-mod-pow p (W - L) L

-- no bits among the low W are none among fewer
pub none_of_whole : (W L t : ℕ) → L ≤ W → t % 2 ^ W ≡ 0 → t % 2 ^ L ≡ 0
none_of_whole W L t narrow none =
    let parts : (W - L) + L ≡ W = omega (arith, narrow) in
    sym (mod-mod-pow t (W - L) L) ∙ ap (λ k. t % 2 ^ k % 2 ^ L) parts ∙ ap (λ r. r % 2 ^ L) none ∙ omega arith
