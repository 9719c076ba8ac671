use Rattle.std.proofs.Common.{◌≡◌, ℕ, ◌+◌, ◌*◌, ◌/◌, ◌%◌, ◌<◌, ◌∙◌, ap, arith, get_or}
use Rattle.paris_plane.specs.Bits.{word_bit}
use Rattle.paris_field.proofs.blocks.turned.Goals as goal

pub returns-then-count-le16 : goal.returns-then-count-le16
returns-then-count-le16 c =
    λ k i hk hi.
    let place : ℕ = i / 16 * 16 + k in
    let few : k < 16 = omega arith in
    let word : place / 16 * 16 + i % 16 ≡ i = omega arith in
    let bit : place % 16 ≡ k = omega arith in
    c.transpose16.ensures k i few hi
    ∙ c.side_by_side-few.ensures (i % 16) place (omega arith) (omega arith)
    ∙ ap (λ v. word_bit (get_or c.args.words v 0) (place % 16)) word
    ∙ ap (word_bit (get_or c.args.words i 0)) bit

pub returns-then-count-le32 : goal.returns-then-count-le32
returns-then-count-le32 c =
    λ k i hk hi.
    let place : ℕ = i / 32 * 32 + k in
    let some : k < 32 = omega arith in
    let word : place / 32 * 32 + i % 32 ≡ i = omega arith in
    let bit : place % 32 ≡ k = omega arith in
    c.transpose32.ensures k i some hi
    ∙ c.two_by_two-some.ensures (i % 32) place (omega arith) (omega arith)
    ∙ ap (λ v. word_bit (get_or c.args.words v 0) (place % 32)) word
    ∙ ap (word_bit (get_or c.args.words i 0)) bit
