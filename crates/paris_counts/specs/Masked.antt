-- Sums over processors.
use Rattle.std.specs.Prelude.{ℕ, zero, suc, ◌+◌, Bool, cond}

-- the sum of what f gives for those of the n numbers from a on that pass the test
unfoldable pub masked_sum : (ℕ → Bool) → (ℕ → ℕ) → ℕ → ℕ → ℕ
masked_sum who f a zero = 0
masked_sum who f a (suc n) = cond (who a) (f a) 0 + masked_sum who f (a + 1) n
