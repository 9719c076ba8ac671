use Rattle.std.proofs.Common.{◌≡◌, ◌≤◌, ◌+◌, ◌-◌, ◌%◌, ◌^◌, ◌∙◌, ℕ, ap, arith, sym}
use Rattle.std.specs.Int.Bits.{bit_and}
use Rattle.std.proofs.Math.Pow.{mod-mod-pow}
use Rattle.std.proofs.lemmas.Nat.{and_mask}
use Rattle.paris_combine.proofs.operators.SumsJoin.join.Goals as goal

wrapped : (x k : ℕ) → k ≤ 64 → x % 2 ^ 64 % 2 ^ k ≡ x % 2 ^ k
wrapped x k h =
    let e : 64 - k + k ≡ 64 = omega arith in
    ap (λ m. x % 2 ^ m % 2 ^ k) (sym e) ∙ mod-mod-pow x (64 - k) k

pub returns : goal.returns
returns c =
    λ L narrow is.
    let total : ℕ = (c.args.held + c.args.sent) % 2 ^ 64 in
    ap (bit_and total) is ∙ and_mask total L ∙ wrapped (c.args.held + c.args.sent) L narrow
