-- Two rows whose processors lie between each other, and the row that they make.
use Rattle.std.proofs.Common.{arith, ap, ◌∙◌, sym, refl}
use Rattle.std.specs.Prelude.{◌≡◌, ℕ, zero, suc, ◌+◌, ◌*◌, ◌^◌, List, ◌++◌, sum, nat_le}
use Rattle.paris_model.specs.Store.{bit, low}
use Rattle.paris_model.specs.Combine.{combine, combined}
use Rattle.paris_model.specs.declared.operators.Combiner.{Combiner}
use Rattle.paris_model.specs.declared.operators.Combiner.TheVariants.{BitOr, BitXor, Maximum}
use Rattle.paris_model.proofs.Combining.{associates, commutes}
use Rattle.paris_scan.specs.Blocks.{row}
use Rattle.paris_scan.specs.Laws.{combined_append, maximum_zero, or_zero, sum_append, xor_zero}
use Rattle.paris_scan.specs.Sums.{sum_shown}

-- the two make it where neither order nor grouping matters
four : (g : ℕ → ℕ → ℕ) → ((x y : ℕ) → g x y ≡ g y x) → ((x y z : ℕ) → g (g x y) z ≡ g x (g y z)) → (a p b q : ℕ) → g (g a p) (g b q) ≡ g b (g a (g p q))
four g swap group a p b q = swap (g a p) (g b q) ∙ group b q (g a p) ∙ ap (g b) (swap q (g a p) ∙ group a p q)

mixed : (f : List ℕ → ℕ) (g : ℕ → ℕ → ℕ) → ((xs ys : List ℕ) → f (xs ++ ys) ≡ g (f xs) (f ys)) → ((x y : ℕ) → g x y ≡ g y x) → ((x y z : ℕ) → g (g x y) z ≡ g x (g y z))
    → (own : ℕ → List ℕ) (s k u : ℕ) → f (row own (2 * s) k (u + s) ++ row own (2 * s) k u) ≡ f (row own s (2 * k) u)
unfolding row
mixed f g both swap group own s zero u = refl
mixed f g both swap group own s (suc k) u =
    let a : List ℕ = own (u + s) in
    let b : List ℕ = own u in
    let p : List ℕ = row own (2 * s) k (u + s + 2 * s) in
    let q : List ℕ = row own (2 * s) k (u + 2 * s) in
    let rest : List ℕ = row own s (2 * k) (u + 2 * s) in
    let later : u + s + 2 * s ≡ u + 2 * s + s = omega arith in
    let next : u + 2 * s ≡ u + s + s = omega arith in
    let more : suc (suc (2 * k)) ≡ 2 * suc k = omega arith in
    let pairs : f (p ++ q) ≡ f rest = ap (λ v. f (row own (2 * s) k v ++ q)) later ∙ mixed f g both swap group own s k (u + 2 * s) in
    both (a ++ p) (b ++ q) ∙ ap (λ x. g x (f (b ++ q))) (both a p) ∙ ap (g (g (f a) (f p))) (both b q)
    ∙ four g swap group (f a) (f p) (f b) (f q)
    ∙ ap (λ x. g (f b) (g (f a) x)) (sym (both p q) ∙ pairs)
    ∙ ap (g (f b)) (sym (both a rest)) ∙ sym (both b (a ++ rest))
    ∙ ap (λ v. f (b ++ (a ++ row own s (2 * k) v))) next
    ∙ ap (λ n. f (row own s n u)) more

pub mixed_sum : (L s k u : ℕ) (own : ℕ → List ℕ) → sum_shown L (row own (2 * s) k (u + s) ++ row own (2 * s) k u) ≡ sum_shown L (row own s (2 * k) u)
unfolding sum_shown
mixed_sum L s k u own =
    ap (λ t. low L t + 2 ^ L * bit (nat_le (2 ^ L) t)) (mixed sum (λ x y. x + y) sum_append (λ x y. (let e : x + y ≡ y + x = omega arith in e)) (λ x y z. (let e : x + y + z ≡ x + (y + z) = omega arith in e)) own s k u)

mixed_values : (op : Combiner) (L : ℕ) → ((x : ℕ) → combine op L 0 x ≡ x) → (s k u : ℕ) (own : ℕ → List ℕ) → combined op L 0 (row own (2 * s) k (u + s) ++ row own (2 * s) k u) ≡ combined op L 0 (row own s (2 * k) u)
mixed_values op L none s k u own = mixed (combined op L 0) (combine op L) (combined_append op L none) (commutes op L) (associates op L) own s k u

pub mixed_or : (L s k u : ℕ) (own : ℕ → List ℕ) → combined BitOr L 0 (row own (2 * s) k (u + s) ++ row own (2 * s) k u) ≡ combined BitOr L 0 (row own s (2 * k) u)
mixed_or L = mixed_values BitOr L (or_zero L)

pub mixed_xor : (L s k u : ℕ) (own : ℕ → List ℕ) → combined BitXor L 0 (row own (2 * s) k (u + s) ++ row own (2 * s) k u) ≡ combined BitXor L 0 (row own s (2 * k) u)
mixed_xor L = mixed_values BitXor L (xor_zero L)

pub mixed_maximum : (L s k u : ℕ) (own : ℕ → List ℕ) → combined Maximum L 0 (row own (2 * s) k (u + s) ++ row own (2 * s) k u) ≡ combined Maximum L 0 (row own s (2 * k) u)
mixed_maximum L = mixed_values Maximum L (maximum_zero L)
