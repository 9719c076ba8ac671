use Rattle.std.proofs.Common.{◌≡◌, ℕ, ◌+◌, ◌*◌, ◌/◌, ◌^◌, ◌<◌, ◌≤◌, ◌∙◌, List, Bool, length, sym, ap, arith, subst}
use Rattle.std.specs.Prelude.{slice_index}
use Rattle.std.proofs.lemmas.List.{length_push}
use Rattle.paris_field.specs.Numbers.{has, number_at}
use Rattle.paris_scan.specs.Adjacent.{values_of_line}
use Rattle.paris_scan.proofs.OneLine.{chosen_same}
use Rattle.paris_scan.proofs.Spans.{each_pushed, line_within, next_line, whole_start}
use Rattle.paris_scan.proofs.adjacent.line_totals.Goals as goal

pub loop-line-init : goal.loop-line-init
loop-line-init g c =
    let none : length c.in_ok-totals.totals.items ≡ 0 = ap length c.in_ok-totals.ensures.items in
    record {
      lines = none;
      values = λ i h. absurd (omega (arith, h, none));
      fit = λ i h. absurd (omega (arith, h, none));
      long = ap length c.in_ok-left.ensures;
      behind = λ v l h. ap (λ p. has p v) c.in_ok-left.ensures;
    }

pub total-requires-clause-long : goal.total-requires-clause-long
total-requires-clause-long g c = λ k h. c.requires.long k h ∙ sym c.loop-line.invariant.long

pub total-requires-clause-start : goal.total-requires-clause-start
total-requires-clause-start g c = whole_start c.loop-line.line c.args.count c.requires.whole

pub total-requires-clause-within : goal.total-requires-clause-within
total-requires-clause-within g c =
    let n : ℕ = c.args.count in
    let line : c.loop-line.line < length c.args.selected.now / n = subst (λ m. c.loop-line.line < m / n) c.len.ensures c.loop-line-test.true in
    omega (arith, c.loop-line.invariant.long, line_within c.loop-line.line (length c.args.selected.now) n c.requires.some line)

pub loop-line-preserved : goal.loop-line-preserved
loop-line-preserved g c =
    let i : ℕ = c.loop-line.line in
    let n : ℕ = c.args.count in
    let ps : List (List Bool) = c.args.planes.now in
    let shows : ℕ → List ℕ → ℕ = g.T.Combine.shows in
    let values : ℕ → List ℕ = values_of_line n c.args.selected.now (number_at ps) in
    let totals : List ℕ = c.loop-line.totals.items in
    let total : ℕ = c.total.result in
    let line : i < length c.args.selected.now / n = subst (λ m. i < m / n) c.len.ensures c.loop-line-test.true in
    let within : i * n + n ≤ length c.args.selected.now = line_within i (length c.args.selected.now) n c.requires.some line in
    let here : total ≡ shows (length ps) (values (length totals)) =
    c.total.ensures.value
    ∙ ap (shows (length ps)) (chosen_same (has c.loop-line.left) (has c.args.selected.now) (number_at ps) (i * n) n (λ v l u. c.loop-line.invariant.behind v l (omega (arith, u, within)))
    ∙ ap values (sym c.loop-line.invariant.lines)) in
    record {
      lines = ap length c.in_ok-push.ensures.items ∙ length_push totals total ∙ ap (λ j. j + 1) c.loop-line.invariant.lines;
      values = subst (λ (xs : List ℕ). (j : ℕ) → j < length xs → slice_index xs j ≡ shows (length ps) (values j)) (sym c.in_ok-push.ensures.items)
          (each_pushed (λ j x. x ≡ shows (length ps) (values j)) totals total c.loop-line.invariant.values here);
      fit = subst (λ (xs : List ℕ). (j : ℕ) → j < length xs → slice_index xs j < 2 ^ length ps) (sym c.in_ok-push.ensures.items)
          (each_pushed (λ j x. x < 2 ^ length ps) totals total c.loop-line.invariant.fit c.total.ensures.fits);
      long = c.total.ensures.long ∙ c.loop-line.invariant.long;
      behind = λ v l h.
          c.total.ensures.behind v (omega (arith, l, next_line i n)) (omega (arith, h, c.loop-line.invariant.long))
          ∙ c.loop-line.invariant.behind v (omega (arith, l, next_line i n)) h;
    }

pub returns-clause-lines : goal.returns-clause-lines
returns-clause-lines g c =
    c.loop-line.invariant.lines ∙ (let e : c.loop-line.line ≡ c.len.result / c.args.count = omega (arith, c.loop-line-test.false, c.loop-line.auto.line-end) in e) ∙ ap (λ m. m / c.args.count) c.len.ensures

pub returns-clause-values : goal.returns-clause-values
returns-clause-values g c = c.loop-line.invariant.values

pub returns-clause-fit : goal.returns-clause-fit
returns-clause-fit g c = c.loop-line.invariant.fit
