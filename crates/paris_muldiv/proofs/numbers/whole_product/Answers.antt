use Rattle.std.proofs.Common.{ℕ, ◌+◌, ◌*◌, ◌^◌, ◌∙◌, ap}
use Rattle.paris_muldiv.proofs.Wholes.{whole}
use Rattle.paris_muldiv.proofs.numbers.whole_product.Goals as goal

pub returns : goal.returns
returns c =
    let first : ℕ = c.carrying_mul_add-first.result.0 in
    let second : ℕ = c.carrying_mul_add-second.result.0 in
    let y : ℕ = c.words-y_low.result.0 + 2 ^ 64 * c.words-y_low.result.1 in
    ap (λ t. t + 2 ^ 128 * c.joined-2.result) c.joined.ensures
    ∙ ap (λ t. (first + 2 ^ 64 * second) + 2 ^ 128 * t) c.joined-2.ensures
    ∙ whole _ _ _ _ _ _ _ _ _ _ _ _ c.carrying_mul_add-first.ensures c.carrying_mul_add-middle.ensures c.carrying_mul_add-second.ensures c.carrying_mul_add-third.ensures
    ∙ ap (λ t. t * y) c.words-x_low.ensures
    ∙ ap (λ t. c.args.x * t) c.words-y_low.ensures
