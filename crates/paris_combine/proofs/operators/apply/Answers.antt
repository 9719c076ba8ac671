use Rattle.std.proofs.Common.{◌≡◌, ◌≤◌, ◌+◌, ◌-◌, ◌%◌, ◌^◌, ◌∙◌, ℕ, ap, arith, sym}
use Rattle.std.specs.Int.Bits.{bit_and}
use Rattle.std.proofs.Math.Pow.{mod-mod-pow}
use Rattle.std.proofs.lemmas.Nat.{and_mask, or_lt, xor_lt}
use Rattle.paris_model.specs.Combine.{combine}
use Rattle.paris_combine.proofs.operators.apply.Goals as goal

wrapped : (x k : ℕ) → k ≤ 128 → x % 2 ^ 128 % 2 ^ k ≡ x % 2 ^ k
wrapped x k h =
    let e : 128 - k + k ≡ 128 = omega arith in
    ap (λ m. x % 2 ^ m % 2 ^ k) (sym e) ∙ mod-mod-pow x (128 - k) k

pub returns-in-Sum-clause-value : goal.returns-in-Sum-clause-value
returns-in-Sum-clause-value c =
    let total : ℕ = (c.args.x + c.args.y) % 2 ^ 128 in
    ap (bit_and total) c.low_mask.ensures ∙ and_mask total c.args.bits
    ∙ wrapped (c.args.x + c.args.y) c.args.bits c.requires.narrow
    ∙ sym (ap (λ o. combine o c.args.bits c.args.x c.args.y) c.in-Sum.is)

pub returns-in-BitOr-clause-fits : goal.returns-in-BitOr-clause-fits
returns-in-BitOr-clause-fits c = or_lt _ _ _ c.requires.x_fits c.requires.y_fits

pub returns-in-BitXor-clause-fits : goal.returns-in-BitXor-clause-fits
returns-in-BitXor-clause-fits c = xor_lt _ _ _ c.requires.x_fits c.requires.y_fits
