use Rattle.std.proofs.Common.{◌∙◌, ◌&&◌, ap, cond, false, length, map, not, sym}
use Rattle.std.specs.Simd.Lanes.{zip2}
use Rattle.std.proofs.lemmas.Simd.{length-zip2}
use Rattle.std.proofs.lemmas.List.{length-map}
use Rattle.paris_layer.proofs.AllSame.{borrow_in_place, borrow_with_all, borrow_with_none, turned_and}
use Rattle.paris_layer.proofs.arithmetic.take_bit.Goals as goal

pub returns-then-bit-clause-long : goal.returns-then-bit-clause-long
returns-then-bit-clause-long c =
    let turned = ap length c.not_in.ensures ∙ length-map c.args.borrow.now not in
    ap length c.not_in-then-bit.ensures ∙ length-map c.put.new.self not ∙ ap length c.in_ok-put.ensures.ok
    ∙ length-zip2 (λ a b. a && b) c.not_in.new.self c.args.x.now (turned ∙ sym c.requires) ∙ turned

pub returns-then-bit-clause-borrows : goal.returns-then-bit-clause-borrows
returns-then-bit-clause-borrows c =
    c.not_in-then-bit.ensures
    ∙ ap (map not) (c.in_ok-put.ensures.ok ∙ ap (λ l. zip2 (λ a b. a && b) l c.args.x.now) c.not_in.ensures ∙ turned_and c.args.borrow.now c.args.x.now)
    ∙ borrow_with_all c.args.bit c.args.x.now c.args.borrow.now c.if-bit.true ∙ borrow_in_place c.args.bit c.args.x.now c.args.borrow.now

pub returns-clause-long : goal.returns-clause-long
returns-clause-long c = ap length c.in_ok-put-2.ensures.ok ∙ length-zip2 (λ a b. cond b false a) c.args.borrow.now c.args.x.now (sym c.requires)

pub returns-clause-borrows : goal.returns-clause-borrows
returns-clause-borrows c =
    c.in_ok-put-2.ensures.ok ∙ borrow_with_none c.args.bit c.args.x.now c.args.borrow.now c.if-bit.false ∙ borrow_in_place c.args.bit c.args.x.now c.args.borrow.now
