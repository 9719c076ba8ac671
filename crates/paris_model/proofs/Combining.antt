-- The combiners: closed on numbers of L bits, commutative, associative, with a unit.
use Rattle.std.proofs.Common.{◌≡◌, ℕ, ◌+◌, ◌-◌, ◌%◌, ◌^◌, ◌<◌, sym, ap, ◌∙◌, arith}
use Rattle.std.specs.Prelude.{bit_or}
use Rattle.std.proofs.Math.Nat.{mod-eq_of_lt, mod-add-mod, add-mod-mod}
use Rattle.std.proofs.lemmas.Nat.{and_assoc, and_comm, or_comm, xor_comm, and_mask}
use Rattle.std.proofs.lemmas.Nat.Bits.{bit_at_or, same_from_bits}
use Rattle.std.specs.Int.Bits.{or_lt, xor_lt, and_lt, xor_assoc, or_zero_l, xor_zero_l}
use lib.Pow.{pow_pos}
use Rattle.paris_model.specs.declared.operators.Combiner.{Combiner}
use Rattle.paris_model.specs.declared.operators.Combiner.TheVariants.{Sum, BitOr, BitAnd, BitXor, Maximum, Minimum}
use Rattle.paris_model.specs.Combine.{combine, unit}

or_assoc : (a b c : ℕ) → bit_or (bit_or a b) c ≡ bit_or a (bit_or b c)
or_assoc a b c = same_from_bits _ _ (λ i. omega (arith, bit_at_or (bit_or a b) c i, bit_at_or a b i, bit_at_or a (bit_or b c) i, bit_at_or b c i))

pub combined_fit : (op : Combiner) (L x y : ℕ) → x < 2 ^ L → y < 2 ^ L → combine op L x y < 2 ^ L
combined_fit Sum L x y small small' = let some = pow_pos L in omega arith
combined_fit BitOr L x y small small' = or_lt L x y small small'
combined_fit BitAnd L x y small small' = and_lt L x y small small'
combined_fit BitXor L x y small small' = xor_lt L x y small small'
combined_fit Maximum L x y small small' = omega arith
combined_fit Minimum L x y small small' = omega arith

pub commutes : (op : Combiner) (L x y : ℕ) → combine op L x y ≡ combine op L y x
commutes Sum L x y = ap (λ (z : ℕ). z % 2 ^ L) (let e : x + y ≡ y + x = omega arith in e)
commutes BitOr L x y = or_comm x y
commutes BitAnd L x y = and_comm x y
commutes BitXor L x y = xor_comm x y
commutes Maximum L x y = omega arith
commutes Minimum L x y = omega arith

pub associates : (op : Combiner) (L x y z : ℕ) → combine op L (combine op L x y) z ≡ combine op L x (combine op L y z)
associates Sum L x y z =
    let regrouped : (x + y) + z ≡ x + (y + z) = omega arith in
    mod-add-mod (x + y) (2 ^ L) z ∙ ap (λ (u : ℕ). u % 2 ^ L) regrouped ∙ sym (add-mod-mod x (y + z) (2 ^ L))
associates BitOr L x y z = or_assoc x y z
associates BitAnd L x y z = and_assoc z x y
associates BitXor L x y z = xor_assoc x y z
associates Maximum L x y z = omega arith
associates Minimum L x y z = omega arith

pub unit_first : (op : Combiner) (L x : ℕ) → x < 2 ^ L → combine op L (unit op L) x ≡ x
unit_first Sum L x small = let e : 0 + x ≡ x = omega arith in ap (λ (z : ℕ). z % 2 ^ L) e ∙ mod-eq_of_lt small
unit_first BitOr L x small = or_zero_l x
unit_first BitAnd L x small = and_comm (2 ^ L - 1) x ∙ and_mask x L ∙ mod-eq_of_lt small
unit_first BitXor L x small = xor_zero_l x
unit_first Maximum L x small = omega arith
unit_first Minimum L x small = omega arith
