use Rattle.std.proofs.Common.{◌≡◌, ℕ, ◌+◌, ◌<◌, ◌∙◌, ap, sym, arith, length, List, not}
use Rattle.std.specs.Prelude.{nat_eq}
use Rattle.std.specs.Cmp.Lexicographic.{pointwise}
use Rattle.std.specs.List.{slice_range}
use Rattle.paris_field.specs.Fields.{FieldNumbers}
use Rattle.paris_field.specs.Numbers.{number_at}
use Rattle.paris_stretches.specs.Stretches.{bound, stretch}
use Rattle.paris_stretches.proofs.Rising.{bound_grows}
use Rattle.paris_stretches.proofs.Same.{agreement, equal_told}
use Rattle.paris_stretches.proofs.differences.differs.Goals as goal

pub returns : goal.returns
returns c =
    let xs : List ℕ = c.args.x.now.numbers in
    let ys : List ℕ = c.args.y.now.numbers in
    let parts : ℕ = c.args.parts in
    let start : ℕ = c.bound-start.result in
    let stop : ℕ = c.bound-stop.result in
    let is_start : start ≡ bound (length xs) parts c.args.i = c.bound-start.ensures.place ∙ ap (λ n. bound n parts c.args.i) c.len-count.ensures in
    let is_stop : stop ≡ bound (length xs) parts (c.args.i + 1) = c.bound-stop.ensures.place ∙ ap (λ n. bound n parts (c.args.i + 1)) c.len-count.ensures in
    let same = agreement c.agrees.result (number_at c.planes.result.now) (number_at c.planes-2.result.now) xs ys start stop
    (omega (arith, is_start, is_stop, bound_grows (length xs) parts c.args.i (omega (arith, c.requires.within))))
    (omega (arith, c.bound-stop.ensures.within, c.len-count.ensures))
    c.requires.count c.planes.ensures.at c.planes-2.ensures.at c.agrees.ensures in
    ap not same
    ∙ ap (λ s. not (pointwise nat_eq (slice_range xs s stop) (slice_range ys s stop))) is_start
    ∙ ap (λ t. not (pointwise nat_eq (slice_range xs (bound (length xs) parts c.args.i) t) (slice_range ys (bound (length xs) parts c.args.i) t))) is_stop
    ∙ ap (λ n. not (pointwise nat_eq (slice_range xs (bound (length xs) parts c.args.i) (bound (length xs) parts (c.args.i + 1))) (slice_range ys (bound n parts c.args.i) (bound n parts (c.args.i + 1))))) c.requires.count

pub returns-then-equal : goal.returns-then-equal
returns-then-equal c =
    let xs : List ℕ = c.args.x.now.numbers in
    let ys : List ℕ = c.args.y.now.numbers in
    ap not (equal_told (stretch c.args.parts xs c.args.i) (stretch c.args.parts ys c.args.i) (ap (λ (f : FieldNumbers). stretch c.args.parts f.numbers c.args.i) (c.requires.equal c.if-equal.true)))
