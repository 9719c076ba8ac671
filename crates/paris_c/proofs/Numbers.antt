-- Statuses are different numbers.
use Rattle.std.proofs.Common.{◌≡◌, ℕ, ◌⊎◌, inl, inr, arith}

pub partly_is_neither : {A : Type 0} → (◌≡◌ {A = ℕ} 107 19) ⊎ (◌≡◌ {A = ℕ} 107 105) → A
partly_is_neither (inl e) = absurd (omega (arith, e))
partly_is_neither (inr e) = absurd (omega (arith, e))
