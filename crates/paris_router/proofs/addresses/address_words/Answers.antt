use Rattle.std.proofs.Common.{◌≤◌, ◌∙◌, arith}
use Rattle.paris_router.proofs.Fetched.{clipped_all}
use Rattle.paris_router.proofs.addresses.address_words.Goals as goal

pub returns-then-width-le64 : goal.returns-then-width-le64
returns-then-width-le64 c =
    let narrow : c.args.addresses.now.width ≤ 64 = omega (arith, c.width.ensures.value, c.if-width-le64.true) in
    c.in_ok-words.ensures.value ∙ clipped_all c.args.addresses.now.width c.args.addresses.now.numbers narrow c.in_ok-words.ensures.fit
