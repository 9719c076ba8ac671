use Rattle.std.proofs.Common.{◌≡◌, ℕ, ◌/◌, ◌∙◌, ap, arith, List, length}
use Rattle.std.specs.Prelude.{slice_index}
use Rattle.std.proofs.lemmas.Result.{IfOk-weaker}
use Rattle.std.proofs.Math.Nat.{mod-eq_of_lt}
use Rattle.paris_field.specs.Fields.{FieldNumbers}
use Rattle.paris_field.proofs.Places.{field_is}
use Rattle.paris_scan.specs.Adjacent.{lines_field}
use Rattle.paris_scan.proofs.OneLine.{constant_is}
use Rattle.paris_scan.proofs.Spans.{line_below}
use Rattle.paris_scan.proofs.repeated.line_value.Goals as goal

pub returns-then-numbers-eq1 : goal.returns-then-numbers-eq1
returns-then-numbers-eq1 c =
    let n : ℕ = c.args.count in
    let xs : List ℕ = c.args.numbers.now in
    let field : List ℕ → FieldNumbers = λ ys. record { width = c.args.width; numbers = ys } in
    IfOk-weaker c.constant.result _ (λ (value : FieldNumbers). value ≡ lines_field c.args.width n c.args.vps xs)
    (λ value is.
    is ∙ ap field (constant_is c.args.vps (slice_index xs 0) (λ v. slice_index xs (v / n)) (λ v h.
    ap (slice_index xs) (let e : 0 ≡ v / n = omega (arith, line_below (length xs) n v c.requires.some (omega (arith, h, c.requires.all)), c.if-numbers-eq1.true) in e)))) c.constant.ensures

pub returns : goal.returns
returns c =
    let n : ℕ = c.args.count in
    let xs : List ℕ = c.args.numbers.now in
    c.in_ok-value.ensures
    ∙ field_is c.args.vps c.args.width c.in_ok-planes.planes.items (λ v. slice_index xs (v / n)) c.in_ok-planes.ensures.width
    (λ v h. c.in_ok-planes.ensures.numbers v h ∙ mod-eq_of_lt (c.requires.fit (v / n) (line_below (length xs) n v c.requires.some (omega (arith, h, c.requires.all)))))
