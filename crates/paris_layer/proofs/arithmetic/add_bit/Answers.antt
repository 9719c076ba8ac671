use Rattle.std.proofs.Common.{◌∙◌, ◌&&◌, ◌||◌, ap, length, sym}
use Rattle.std.proofs.lemmas.Simd.{length-zip2}
use Rattle.paris_layer.proofs.AllSame.{carry_plain, carry_full, carry_in_place}
use Rattle.paris_layer.proofs.arithmetic.add_bit.Goals as goal

pub returns-then-bit-clause-long : goal.returns-then-bit-clause-long
returns-then-bit-clause-long c = ap length c.in_ok-put.ensures.ok ∙ length-zip2 (λ a b. a || b) c.args.carry.now c.args.x.now (sym c.requires)

pub returns-then-bit-clause-carries : goal.returns-then-bit-clause-carries
returns-then-bit-clause-carries c =
    c.in_ok-put.ensures.ok ∙ carry_full c.args.bit c.args.carry.now c.args.x.now c.if-bit.true ∙ carry_in_place c.args.bit c.args.x.now c.args.carry.now

pub returns-clause-long : goal.returns-clause-long
returns-clause-long c = ap length c.in_ok-put-2.ensures.ok ∙ length-zip2 (λ a b. a && b) c.args.carry.now c.args.x.now (sym c.requires)

pub returns-clause-carries : goal.returns-clause-carries
returns-clause-carries c =
    c.in_ok-put-2.ensures.ok ∙ carry_plain c.args.bit c.args.carry.now c.args.x.now c.if-bit.false ∙ carry_in_place c.args.bit c.args.x.now c.args.carry.now
