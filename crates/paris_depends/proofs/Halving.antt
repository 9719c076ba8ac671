-- What is left after looks that each halve it.
use Rattle.std.proofs.Common.{◌≡◌, ℕ, zero, suc, ◌<◌, ◌≤◌, ◌+◌, ◌*◌, ◌^◌, arith, refl}
use Rattle.std.proofs.Math.Nat.{pow-succ'}

-- of a number below a power of two, as many halvings as the looks since `start` have left this
pub record IsHalved (whole start now left : ℕ) : Type 0 where
  pub more : start ≤ now
  pub bound : (b : ℕ) → whole < 2 ^ b → (t : ℕ) × (now + t ≡ start + b) × (left < 2 ^ t)

two_more : (t : ℕ) → 2 ^ suc t ≡ 2 * 2 ^ t
two_more t = pow-succ' 2 t

-- one more look leaves at most half
pub halved-more : (whole start now left left' : ℕ) → IsHalved whole start now left → 0 < left → 2 * left' ≤ left → IsHalved whole start (now + 1) left'
halved-more whole start now left left' h some half = record {
  more = let m : start ≤ now = h.more in omega arith;
  bound = λ b below. by_left b (h.bound b below).0 (h.bound b below).1 (h.bound b below).2;
}
  where
    by_left : (b t : ℕ) → now + t ≡ start + b → left < 2 ^ t → (t' : ℕ) × (now + 1 + t' ≡ start + b) × (left' < 2 ^ t')
    by_left b zero e lt = absurd (let l : left < 1 = lt in let z : left ≡ 0 = omega arith in omega arith)
    by_left b (suc t) e lt = (t, omega arith, let two : 2 ^ suc t ≡ 2 * 2 ^ t = two_more t in omega arith)

-- so it takes at most as many looks as the power has
pub halved-looks : (whole start now left b : ℕ) → IsHalved whole start now left → whole < 2 ^ b → now ≤ start + b
halved-looks whole start now left b h below = let e = (h.bound b below).1 in omega (arith, e)

-- at first nothing is halved
pub halved-none : (whole start left : ℕ) → left ≤ whole → IsHalved whole start start left
halved-none whole start left few = record { more = omega arith; bound = λ b below. (b, refl, omega arith) }

-- where something is left, one look more stays below that
pub halved-some : (whole start now left b : ℕ) → IsHalved whole start now left → whole < 2 ^ b → 0 < left → now < start + b
halved-some whole start now left b h below some = by_left (h.bound b below).0 (h.bound b below).1 (h.bound b below).2
  where
    by_left : (t : ℕ) → now + t ≡ start + b → left < 2 ^ t → now < start + b
    by_left zero e lt = absurd (let l : left < 1 = lt in let z : left ≡ 0 = omega arith in omega arith)
    by_left (suc t) e lt = omega arith
