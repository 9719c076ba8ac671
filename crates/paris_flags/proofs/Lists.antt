-- Lists made of the items of one list or of two, as made of those of two or of three.
use Rattle.std.proofs.Common.{◌≡◌, ◌∙◌, List, [], ◌∷◌, Bool, true, false, length, map, replicate, refl, ap, arith}
use Rattle.std.specs.Prelude.{not, cond, ◌||◌}
use Rattle.std.specs.Simd.Lanes.{zip2}
use Rattle.std.proofs.Math.Nat.{suc_inj}
use Rattle.paris_plane.specs.Bits.{zip3}

-- the second list isn't looked at
pub replicate_beside : (b : Bool) (xs ys : List Bool) → length xs ≡ length ys → replicate (length xs) b ≡ zip2 (λ _ _. b) xs ys
replicate_beside b [] ys h = refl
replicate_beside b (x ∷ xs) [] h = absurd (omega (arith, h))
replicate_beside b (x ∷ xs) (y ∷ ys) h = ap (λ bs. b ∷ bs) (replicate_beside b xs ys (suc_inj h))

pub not_beside : (xs ys : List Bool) → length xs ≡ length ys → map not xs ≡ zip2 (λ x _. not x) xs ys
not_beside [] ys h = refl
not_beside (x ∷ xs) [] h = absurd (omega (arith, h))
not_beside (x ∷ xs) (y ∷ ys) h = ap (λ bs. not x ∷ bs) (not_beside xs ys (suc_inj h))

-- the first list isn't looked at
pub second_of : (xs ys : List Bool) → length xs ≡ length ys → ys ≡ zip2 (λ _ y. y) xs ys
second_of [] [] h = refl
second_of [] (y ∷ ys) h = absurd (omega (arith, h))
second_of (x ∷ xs) [] h = absurd (omega (arith, h))
second_of (x ∷ xs) (y ∷ ys) h = ap (λ bs. y ∷ bs) (second_of xs ys (suc_inj h))

set_bit : (x z : Bool) → (x || z) ≡ cond z true x
set_bit true true = refl
set_bit true false = refl
set_bit false true = refl
set_bit false false = refl

-- ones where the third list has ones
pub set_where : (xs ys zs : List Bool) → length xs ≡ length ys → length xs ≡ length zs → zip2 (λ x z. x || z) xs zs ≡ zip3 (λ x _ z. cond z true x) xs ys zs
unfolding zip3
set_where [] ys zs hy hz = refl
set_where (x ∷ xs) [] zs hy hz = absurd (omega (arith, hy))
set_where (x ∷ xs) (y ∷ ys) [] hy hz = absurd (omega (arith, hz))
set_where (x ∷ xs) (y ∷ ys) (z ∷ zs) hy hz =
    ap (λ b. b ∷ zip2 (λ x z. x || z) xs zs) (set_bit x z) ∙ ap (λ bs. cond z true x ∷ bs) (set_where xs ys zs (suc_inj hy) (suc_inj hz))

-- zeros where the third list has ones
pub cleared_where : (xs ys zs : List Bool) → length xs ≡ length ys → length xs ≡ length zs → zip2 (λ x z. cond z false x) xs zs ≡ zip3 (λ x _ z. cond z false x) xs ys zs
unfolding zip3
cleared_where [] ys zs hy hz = refl
cleared_where (x ∷ xs) [] zs hy hz = absurd (omega (arith, hy))
cleared_where (x ∷ xs) (y ∷ ys) [] hy hz = absurd (omega (arith, hz))
cleared_where (x ∷ xs) (y ∷ ys) (z ∷ zs) hy hz = ap (λ bs. cond z false x ∷ bs) (cleared_where xs ys zs (suc_inj hy) (suc_inj hz))
