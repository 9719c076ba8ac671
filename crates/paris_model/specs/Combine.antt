-- The operators of scans, spreads, reduces and combining sends, on numbers of L bits.
use Rattle.std.specs.Prelude.{ℕ, ◌+◌, ◌-◌, ◌^◌, max, min, bit_and, bit_or, bit_xor, List, fold}
use Rattle.paris_model.specs.declared.operators.Combiner.{Combiner}
use Rattle.paris_model.specs.declared.operators.Combiner.TheVariants.{Sum, BitOr, BitAnd, BitXor, Maximum, Minimum}
use Rattle.paris_model.specs.Store.{low}

-- two values combined
abbrev pub combine : Combiner → ℕ → ℕ → ℕ → ℕ
combine Sum L x y = low L (x + y)
combine BitOr L x y = bit_or x y
combine BitAnd L x y = bit_and x y
combine BitXor L x y = bit_xor x y
combine Maximum L x y = max x y
combine Minimum L x y = min x y

-- the value that changes nothing
abbrev pub unit : Combiner → ℕ → ℕ
unit BitAnd L = 2 ^ L - 1
unit Minimum L = 2 ^ L - 1
unit _ L = 0

-- the values of a list, combined with a first one, one at a time
abbrev pub combined : Combiner → ℕ → ℕ → List ℕ → ℕ
combined op L start values = fold (combine op L) start values
