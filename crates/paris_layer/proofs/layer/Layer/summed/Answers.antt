use Rattle.std.proofs.Common.{◌∙◌, ap, length, sym}
use Rattle.std.proofs.lemmas.Result.{IfOk-weaker}
use Rattle.std.proofs.lemmas.Simd.{length-zip2}
use Rattle.paris_plane.specs.Bits.{sum_bit, carry_bit}
use Rattle.paris_layer.specs.Forms.{form_bits}
use Rattle.paris_layer.proofs.AllSame.{zip2_alike, zip3_left, zip3_middle, zip3_right, sum_second, sum_third, carry_second, carry_third}
use Rattle.paris_layer.proofs.layer.Layer.summed.Goals as goal

pub returns-in_ok-result-in-Same-clause-long : goal.returns-in_ok-result-in-Same-clause-long
returns-in_ok-result-in-Same-clause-long c =
    ap length (c.next.view_is ∙ c.in_ok-result-in-Same.ensures.carries)
    ∙ length-zip2 (carry_bit c.in-Same.bit) c.args.x.now c.args.y.now c.requires.second ∙ c.requires.carries

pub returns-in_ok-result-in-Same-clause-sums : goal.returns-in_ok-result-in-Same-clause-sums
returns-in_ok-result-in-Same-clause-sums c =
    let s = c.in-Same in
    c.in_ok-result-in-Same.ensures.sums
    ∙ zip2_alike (sum_bit s.bit) (λ x y. sum_bit x y s.bit) c.args.x.now c.args.y.now (λ x y. sym (sum_third x y s.bit))
    ∙ sym (zip3_right sum_bit s.field-0 s.bit c.args.x.now c.args.y.now c.args.carry.now (sym (ap form_bits s.is) ∙ c.carry.view_is) c.requires.second c.requires.carries)

pub returns-in_ok-result-in-Same-clause-carries : goal.returns-in_ok-result-in-Same-clause-carries
returns-in_ok-result-in-Same-clause-carries c =
    let s = c.in-Same in
    c.next.view_is ∙ c.in_ok-result-in-Same.ensures.carries
    ∙ zip2_alike (carry_bit s.bit) (λ x y. carry_bit x y s.bit) c.args.x.now c.args.y.now (λ x y. sym (carry_third x y s.bit))
    ∙ sym (zip3_right carry_bit s.field-0 s.bit c.args.x.now c.args.y.now c.args.carry.now (sym (ap form_bits s.is) ∙ c.carry.view_is) c.requires.second c.requires.carries)

pub returns-in-Words-Same-clause-sums : goal.returns-in-Words-Same-clause-sums
returns-in-Words-Same-clause-sums c =
    let s = c.in-Words-Same in
    IfOk-weaker c.add_bit.result _ _
    (λ r e. e ∙ zip2_alike (sum_bit s.bit) (λ x z. sum_bit x s.bit z) c.args.x.now c.args.carry.now (λ x z. sym (sum_second x s.bit z))
    ∙ sym (zip3_middle sum_bit s.field-0-1 s.bit c.args.x.now c.args.y.now c.args.carry.now (sym (ap form_bits s.is-1) ∙ c.y.view_is) c.requires.second))
    c.add_bit.ensures.sums

pub returns-in-Words-Same-clause-carries : goal.returns-in-Words-Same-clause-carries
returns-in-Words-Same-clause-carries c =
    let s = c.in-Words-Same in
    IfOk-weaker c.add_bit.result _ _
    (λ r e. e ∙ zip2_alike (carry_bit s.bit) (λ x z. carry_bit x s.bit z) c.args.x.now c.args.carry.now (λ x z. sym (carry_second x s.bit z))
    ∙ sym (zip3_middle carry_bit s.field-0-1 s.bit c.args.x.now c.args.y.now c.args.carry.now (sym (ap form_bits s.is-1) ∙ c.y.view_is) c.requires.second))
    c.add_bit.ensures.carries

pub returns-in-Same-default-clause-sums : goal.returns-in-Same-default-clause-sums
returns-in-Same-default-clause-sums c =
    let s = c.in-Same-default in
    IfOk-weaker c.add_bit-in-Same-default.result _ _
    (λ r e. e ∙ sym (zip3_left sum_bit s.field-0-0 s.bit c.args.x.now c.args.y.now c.args.carry.now (sym (ap form_bits s.is-0) ∙ c.x.view_is) c.requires.second))
    c.add_bit-in-Same-default.ensures.sums

pub returns-in-Same-default-clause-carries : goal.returns-in-Same-default-clause-carries
returns-in-Same-default-clause-carries c =
    let s = c.in-Same-default in
    IfOk-weaker c.add_bit-in-Same-default.result _ _
    (λ r e. e ∙ sym (zip3_left carry_bit s.field-0-0 s.bit c.args.x.now c.args.y.now c.args.carry.now (sym (ap form_bits s.is-0) ∙ c.x.view_is) c.requires.second))
    c.add_bit-in-Same-default.ensures.carries
