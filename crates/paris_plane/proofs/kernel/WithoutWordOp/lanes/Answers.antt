use Rattle.std.proofs.Common.{◌≡◌, ℕ, List, [], ◌∷◌, ap, refl, bit_and}
use Rattle.std.specs.Int.Bits.{bit_xor}
use Rattle.std.specs.Simd.Lanes.{zip2}
use Rattle.paris_plane.proofs.kernel.WithoutWordOp.lanes.Goals as goal

zip2_nested : (f g : ℕ → ℕ → ℕ) (xs ys : List ℕ) → zip2 f xs (zip2 g xs ys) ≡ zip2 (λ x y. f x (g x y)) xs ys
zip2_nested f g [] ys = refl
zip2_nested f g (x ∷ xs) [] = refl
zip2_nested f g (x ∷ xs) (y ∷ ys) = ap (λ l. f x (g x y) ∷ l) (zip2_nested f g xs ys)

pub returns : goal.returns
returns c = zip2_nested bit_xor bit_and c.args.x c.args.y
