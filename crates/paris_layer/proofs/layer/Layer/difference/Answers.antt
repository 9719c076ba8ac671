use Rattle.std.proofs.Common.{◌∙◌, ap, length, sym}
use Rattle.std.proofs.lemmas.Result.{IfOk-weaker}
use Rattle.std.proofs.lemmas.Simd.{length-zip2}
use Rattle.paris_plane.specs.Bits.{sum_bit, borrow_bit}
use Rattle.paris_layer.specs.Forms.{form_bits}
use Rattle.paris_layer.proofs.AllSame.{zip2_alike, zip2_turned, zip3_left, zip3_middle, zip3_right, sum_second, sum_third}
use Rattle.paris_layer.proofs.layer.Layer.difference.Goals as goal

pub returns-in_ok-result-in-Same-clause-long : goal.returns-in_ok-result-in-Same-clause-long
returns-in_ok-result-in-Same-clause-long c =
    ap length (c.next.view_is ∙ c.in_ok-result-in-Same.ensures.borrows)
    ∙ length-zip2 (borrow_bit c.in-Same.bit) c.args.x.now c.args.y.now c.requires.second ∙ c.requires.borrows

pub returns-in_ok-result-in-Same-clause-differences : goal.returns-in_ok-result-in-Same-clause-differences
returns-in_ok-result-in-Same-clause-differences c =
    let s = c.in-Same in
    c.in_ok-result-in-Same.ensures.differences
    ∙ zip2_alike (sum_bit s.bit) (λ x y. sum_bit x y s.bit) c.args.x.now c.args.y.now (λ x y. sym (sum_third x y s.bit))
    ∙ sym (zip3_right sum_bit s.field-0 s.bit c.args.x.now c.args.y.now c.args.borrow.now (sym (ap form_bits s.is) ∙ c.borrow.view_is) c.requires.second c.requires.borrows)

pub returns-in_ok-result-in-Same-clause-borrows : goal.returns-in_ok-result-in-Same-clause-borrows
returns-in_ok-result-in-Same-clause-borrows c =
    let s = c.in-Same in
    c.next.view_is ∙ c.in_ok-result-in-Same.ensures.borrows
    ∙ sym (zip3_left borrow_bit s.field-0 s.bit c.args.borrow.now c.args.x.now c.args.y.now (sym (ap form_bits s.is) ∙ c.borrow.view_is) (sym c.requires.borrows))

pub returns-in-Words-Same-clause-differences : goal.returns-in-Words-Same-clause-differences
returns-in-Words-Same-clause-differences c =
    let s = c.in-Words-Same in
    IfOk-weaker c.take_bit.result _ _
    (λ r e. e ∙ zip2_alike (sum_bit s.bit) (λ x z. sum_bit x s.bit z) c.args.x.now c.args.borrow.now (λ x z. sym (sum_second x s.bit z))
    ∙ sym (zip3_middle sum_bit s.field-0-1 s.bit c.args.x.now c.args.y.now c.args.borrow.now (sym (ap form_bits s.is-1) ∙ c.y.view_is) c.requires.second))
    c.take_bit.ensures.differences

pub returns-in-Words-Same-clause-borrows : goal.returns-in-Words-Same-clause-borrows
returns-in-Words-Same-clause-borrows c =
    let s = c.in-Words-Same in
    IfOk-weaker c.take_bit.result _ _
    (λ r e. e ∙ zip2_turned (λ x b. borrow_bit b x s.bit) c.args.x.now c.args.borrow.now
    ∙ sym (zip3_right borrow_bit s.field-0-1 s.bit c.args.borrow.now c.args.x.now c.args.y.now (sym (ap form_bits s.is-1) ∙ c.y.view_is) (sym c.requires.borrows) (sym c.requires.borrows ∙ c.requires.second)))
    c.take_bit.ensures.borrows

pub returns-in-Same-default-clause-differences : goal.returns-in-Same-default-clause-differences
returns-in-Same-default-clause-differences c =
    let s = c.in-Same-default in
    IfOk-weaker c.take_from_bit.result _ _
    (λ r e. e ∙ sym (zip3_left sum_bit s.field-0-0 s.bit c.args.x.now c.args.y.now c.args.borrow.now (sym (ap form_bits s.is-0) ∙ c.x.view_is) c.requires.second))
    c.take_from_bit.ensures.differences

pub returns-in-Same-default-clause-borrows : goal.returns-in-Same-default-clause-borrows
returns-in-Same-default-clause-borrows c =
    let s = c.in-Same-default in
    IfOk-weaker c.take_from_bit.result _ _
    (λ r e. e ∙ zip2_turned (λ y b. borrow_bit b s.bit y) c.args.y.now c.args.borrow.now
    ∙ sym (zip3_middle borrow_bit s.field-0-0 s.bit c.args.borrow.now c.args.x.now c.args.y.now (sym (ap form_bits s.is-0) ∙ c.x.view_is) (sym c.requires.borrows)))
    c.take_from_bit.ensures.borrows
