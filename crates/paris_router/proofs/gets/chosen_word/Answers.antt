use Rattle.std.proofs.Common.{ap, cond, eq-eqb, sym}
use Rattle.std.proofs.lemmas.Bool.{ne_eqb}
use Rattle.paris_plane.specs.Bits.{word_bit}
use Rattle.paris_router.proofs.gets.chosen_word.Goals as goal

pub returns-then-chosen-i-eq1 : goal.returns-then-chosen-i-eq1
unfolding word_bit
returns-then-chosen-i-eq1 c = sym (ap (λ b. cond b c.args.word 0) (eq-eqb _ 1 c.if-chosen-i-eq1.true))

pub returns-else-chosen-i-eq1 : goal.returns-else-chosen-i-eq1
unfolding word_bit
returns-else-chosen-i-eq1 c = sym (ap (λ b. cond b c.args.word 0) (ne_eqb _ 1 c.if-chosen-i-eq1.false))
