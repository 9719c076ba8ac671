use Rattle.std.proofs.Common.{◌≡◌, ℕ, ◌∙◌, ap, eqb, length, List, Bool, refl, sym}
use Rattle.std.proofs.lemmas.Result.{IfOk-weaker}
use Rattle.paris_model.specs.declared.operators.Comparison.{Comparison}
use Rattle.paris_model.specs.Elementwise.{is_less}
use Rattle.paris_field.specs.Fields.{operand}
use Rattle.paris_alu.specs.Alu.{comparison_plane}
use Rattle.paris_field.proofs.Places.{Holds, held}
use Rattle.paris_alu.proofs.Compares.{less_mask, turned, turned_twice, unlike_plane}
use Rattle.paris_alu.proofs.comparisons.compare.Goals as goal

pub returns-in_ok-unlike-in-Equal : goal.returns-in_ok-unlike-in-Equal
returns-in_ok-unlike-in-Equal c =
    let n : ℕ = length c.args.x.now.numbers in
    let L : ℕ = c.args.bits in
    let f : ℕ → ℕ = operand L c.args.x.now in
    let g : ℕ → ℕ = operand L c.args.y.now in
    let xs : List (List Bool) = c.low-xs.result.now in
    let ys : List (List Bool) = c.low-ys.result.now in
    let hx : Holds n L f xs = held n n L f xs refl c.low-xs.ensures.count c.low-xs.ensures.long c.low-xs.ensures.at in
    let hy : Holds n L g ys = held n (length c.args.y.now.numbers) L g ys (sym c.requires.same) c.low-ys.ensures.count c.low-ys.ensures.long c.low-ys.ensures.at in
    let by : Comparison → List Bool = λ k. comparison_plane k L c.args.x.now c.args.y.now in
    turned_twice n (λ v. eqb (f v) (g v)) c.in_ok-unlike-in-Equal.field-0 c.inverted.result (unlike_plane n c.len-vps.result L f g xs ys c.in_ok-unlike-in-Equal.field-0 c.len-vps.ensures hx hy c.in_ok-unlike-in-Equal.ensures) c.inverted.ensures ∙ ap by (sym c.in-Equal.is)

pub returns-in-NotEqual : goal.returns-in-NotEqual
returns-in-NotEqual c =
    let n : ℕ = length c.args.x.now.numbers in
    let L : ℕ = c.args.bits in
    let f : ℕ → ℕ = operand L c.args.x.now in
    let g : ℕ → ℕ = operand L c.args.y.now in
    let xs : List (List Bool) = c.low-xs.result.now in
    let ys : List (List Bool) = c.low-ys.result.now in
    let hx : Holds n L f xs = held n n L f xs refl c.low-xs.ensures.count c.low-xs.ensures.long c.low-xs.ensures.at in
    let hy : Holds n L g ys = held n (length c.args.y.now.numbers) L g ys (sym c.requires.same) c.low-ys.ensures.count c.low-ys.ensures.long c.low-ys.ensures.at in
    let by : Comparison → List Bool = λ k. comparison_plane k L c.args.x.now c.args.y.now in
    IfOk-weaker c.unlike-in-NotEqual.result _ (λ (p : List Bool). p ≡ by c.args.comparison) (λ p is. unlike_plane n c.len-vps.result L f g xs ys p c.len-vps.ensures hx hy is ∙ ap by (sym c.in-NotEqual.is)) c.unlike-in-NotEqual.ensures

pub returns-in-Less : goal.returns-in-Less
returns-in-Less c =
    let n : ℕ = length c.args.x.now.numbers in
    let L : ℕ = c.args.bits in
    let f : ℕ → ℕ = operand L c.args.x.now in
    let g : ℕ → ℕ = operand L c.args.y.now in
    let xs : List (List Bool) = c.low-xs.result.now in
    let ys : List (List Bool) = c.low-ys.result.now in
    let hx : Holds n L f xs = held n n L f xs refl c.low-xs.ensures.count c.low-xs.ensures.long c.low-xs.ensures.at in
    let hy : Holds n L g ys = held n (length c.args.y.now.numbers) L g ys (sym c.requires.same) c.low-ys.ensures.count c.low-ys.ensures.long c.low-ys.ensures.at in
    let by : Comparison → List Bool = λ k. comparison_plane k L c.args.x.now c.args.y.now in
    IfOk-weaker c.less.result _ (λ (p : List Bool). p ≡ by c.args.comparison) (λ p is. less_mask c.in-Less.sign n c.len-vps.result L f g xs ys p c.len-vps.ensures hx hy is ∙ ap by (sym c.in-Less.is)) c.less.ensures

pub returns-in_ok-less-in-LessOrEqual : goal.returns-in_ok-less-in-LessOrEqual
returns-in_ok-less-in-LessOrEqual c =
    let n : ℕ = length c.args.x.now.numbers in
    let L : ℕ = c.args.bits in
    let f : ℕ → ℕ = operand L c.args.x.now in
    let g : ℕ → ℕ = operand L c.args.y.now in
    let xs : List (List Bool) = c.low-xs.result.now in
    let ys : List (List Bool) = c.low-ys.result.now in
    let hx : Holds n L f xs = held n n L f xs refl c.low-xs.ensures.count c.low-xs.ensures.long c.low-xs.ensures.at in
    let hy : Holds n L g ys = held n (length c.args.y.now.numbers) L g ys (sym c.requires.same) c.low-ys.ensures.count c.low-ys.ensures.long c.low-ys.ensures.at in
    let by : Comparison → List Bool = λ k. comparison_plane k L c.args.x.now c.args.y.now in
    turned n (λ v. is_less c.in-LessOrEqual.sign L (g v) (f v)) c.in_ok-less-in-LessOrEqual.field-0 c.inverted-in-LessOrEqual.result (less_mask c.in-LessOrEqual.sign n c.len-vps.result L g f ys xs c.in_ok-less-in-LessOrEqual.field-0 c.len-vps.ensures hy hx c.in_ok-less-in-LessOrEqual.ensures) c.inverted-in-LessOrEqual.ensures ∙ ap by (sym c.in-LessOrEqual.is)

pub returns-in-Greater : goal.returns-in-Greater
returns-in-Greater c =
    let n : ℕ = length c.args.x.now.numbers in
    let L : ℕ = c.args.bits in
    let f : ℕ → ℕ = operand L c.args.x.now in
    let g : ℕ → ℕ = operand L c.args.y.now in
    let xs : List (List Bool) = c.low-xs.result.now in
    let ys : List (List Bool) = c.low-ys.result.now in
    let hx : Holds n L f xs = held n n L f xs refl c.low-xs.ensures.count c.low-xs.ensures.long c.low-xs.ensures.at in
    let hy : Holds n L g ys = held n (length c.args.y.now.numbers) L g ys (sym c.requires.same) c.low-ys.ensures.count c.low-ys.ensures.long c.low-ys.ensures.at in
    let by : Comparison → List Bool = λ k. comparison_plane k L c.args.x.now c.args.y.now in
    IfOk-weaker c.less-in-Greater.result _ (λ (p : List Bool). p ≡ by c.args.comparison) (λ p is. less_mask c.in-Greater.sign n c.len-vps.result L g f ys xs p c.len-vps.ensures hy hx is ∙ ap by (sym c.in-Greater.is)) c.less-in-Greater.ensures

pub returns-in_ok-less-in-GreaterOrEqual : goal.returns-in_ok-less-in-GreaterOrEqual
returns-in_ok-less-in-GreaterOrEqual c =
    let n : ℕ = length c.args.x.now.numbers in
    let L : ℕ = c.args.bits in
    let f : ℕ → ℕ = operand L c.args.x.now in
    let g : ℕ → ℕ = operand L c.args.y.now in
    let xs : List (List Bool) = c.low-xs.result.now in
    let ys : List (List Bool) = c.low-ys.result.now in
    let hx : Holds n L f xs = held n n L f xs refl c.low-xs.ensures.count c.low-xs.ensures.long c.low-xs.ensures.at in
    let hy : Holds n L g ys = held n (length c.args.y.now.numbers) L g ys (sym c.requires.same) c.low-ys.ensures.count c.low-ys.ensures.long c.low-ys.ensures.at in
    let by : Comparison → List Bool = λ k. comparison_plane k L c.args.x.now c.args.y.now in
    turned n (λ v. is_less c.in-GreaterOrEqual.sign L (f v) (g v)) c.in_ok-less-in-GreaterOrEqual.field-0 c.inverted-in-GreaterOrEqual.result (less_mask c.in-GreaterOrEqual.sign n c.len-vps.result L f g xs ys c.in_ok-less-in-GreaterOrEqual.field-0 c.len-vps.ensures hx hy c.in_ok-less-in-GreaterOrEqual.ensures) c.inverted-in-GreaterOrEqual.ensures ∙ ap by (sym c.in-GreaterOrEqual.is)
