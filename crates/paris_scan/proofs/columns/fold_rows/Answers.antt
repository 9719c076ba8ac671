use Rattle.std.proofs.Common.{◌≡◌, ◌∙◌, ℕ, ◌+◌, ◌*◌, ◌/◌, ◌%◌, ◌^◌, ◌<◌, ap, sym, arith, length, List, Bool, subst, refl}
use Rattle.std.specs.Prelude.{All}
use Rattle.paris_field.specs.Numbers.{AllOf, number_at}
use Rattle.paris_scan.specs.Blocks.{row}
use Rattle.paris_scan.proofs.Gathered.{row_all}
use Rattle.paris_scan.proofs.Rows.{Folded, all_places, folded_more, half_power, half_rows, periods, power_some, row_one}
use Rattle.paris_scan.proofs.columns.fold_rows.Goals as goal

pub loop-places-init : goal.loop-places-init
loop-places-init g c =
    let n : ℕ = c.args.count in
    let s : ℕ = 64 * c.args.words in
    let some : 0 < n = power_some n c.requires.power in
    let one = all_places n some in
    record {
      power = c.requires.power;
      some = some;
      whole = one.1;
      planes = refl;
      period = c.requires.period;
      small = c.requires.small;
      long = c.requires.state;
      lines = λ L own count fits shown p o hp ho.
          let v : ℕ = p * (n * s) + o in
          shown v (omega (arith, ho, periods (n * s) p c.args.periods hp))
          ∙ ap (g.C.Combine.shows L) (sym (row_one own (n * s) v))
          ∙ ap (λ k. g.C.Combine.shows L (row own (n * s) k v)) (sym one.0);
    }

pub halved-requires-clause-state : goal.halved-requires-clause-state
halved-requires-clause-state g c =
    let m : ℕ = c.loop-places.places in
    let s : ℕ = 64 * c.args.words in
    let twice : m ≡ 2 * (m / 2) = (half_power m c.loop-places.invariant.power c.loop-places-test.true).1 in
    let size : c.args.periods * (m * s) ≡ c.args.periods * (128 * (m / 2 * c.args.words)) = ap (λ x. c.args.periods * (x * s)) twice ∙ omega arith in
    subst (AllOf (c.args.periods * (128 * (m / 2 * c.args.words)))) (sym c.deref.ensures.value) (subst (λ k. AllOf k c.loop-places.state.items) size c.loop-places.invariant.long)

pub halved-requires-clause-run : goal.halved-requires-clause-run
halved-requires-clause-run g c =
    let twice = (half_power c.loop-places.places c.loop-places.invariant.power c.loop-places-test.true).1 in
    omega (arith, ap (λ x. x * (64 * c.args.words)) twice, c.loop-places.invariant.period)

pub halved-requires-clause-small : goal.halved-requires-clause-small
halved-requires-clause-small g c =
    let twice = (half_power c.loop-places.places c.loop-places.invariant.power c.loop-places-test.true).1 in
    omega (arith, ap (λ x. c.args.periods * (x * (64 * c.args.words))) twice, c.loop-places.invariant.small)

pub loop-places-preserved : goal.loop-places-preserved
loop-places-preserved g c =
    let n : ℕ = c.args.count in
    let m : ℕ = c.loop-places.places in
    let h : ℕ = m / 2 in
    let w : ℕ = c.args.words in
    let old : List (List Bool) = c.loop-places.state.items in
    let new : List (List Bool) = c.in_ok-state.state.items in
    let half = half_power m c.loop-places.invariant.power c.loop-places-test.true in
    let twice : m ≡ 2 * h = half.1 in
    let some : 0 < h = omega (arith, twice, c.loop-places.invariant.some) in
    let scaled : m * (64 * w) ≡ 2 * h * (64 * w) = ap (λ x. x * (64 * w)) twice in
    let all : c.args.periods * (m * (64 * w)) ≡ c.args.periods * (2 * h * (64 * w)) = ap (λ x. c.args.periods * x) scaled in
    let size : c.args.periods * (64 * (h * w)) ≡ c.args.periods * (h * (64 * w)) = omega arith in
    let is : c.deref.result.now ≡ old = c.deref.ensures.value in
    record {
      power = half.0;
      some = some;
      whole = (half_rows n h some (ap (λ x. n % x) (sym twice) ∙ c.loop-places.invariant.whole)).1;
      planes = c.in_ok-state.ensures.count ∙ ap length is ∙ c.loop-places.invariant.planes;
      period = omega (arith, scaled, c.loop-places.invariant.period);
      small = omega (arith, all, c.loop-places.invariant.small);
      long = subst (λ k. AllOf k new) size c.in_ok-state.ensures.long;
      lines = λ L own count fits shown.
          folded_more (g.C.Combine.shows L) own (All (λ x. x < 2 ^ L)) (number_at old) (number_at new) w n c.args.periods m h
          (λ k u. g.met.C.JoinHalves.mixed L (h * (64 * w)) k u own)
          (λ t k u. row_all (λ x. x < 2 ^ L) own t k u fits) some twice c.loop-places.invariant.whole
          (λ p o xs ys hp ho fx fy ex ey. c.in_ok-state.ensures.joined L p o xs ys (ap length is ∙ c.loop-places.invariant.planes ∙ count) hp ho fx fy
          (ap (λ (ps : List (List Bool)). number_at ps (p * (128 * (h * w)) + (64 * (h * w) + o))) is ∙ ex)
          (ap (λ (ps : List (List Bool)). number_at ps (p * (128 * (h * w)) + o)) is ∙ ey))
          (c.loop-places.invariant.lines L own count fits shown);
    }

pub returns-clause-long : goal.returns-clause-long
returns-clause-long g c =
    let one : c.loop-places.places ≡ 1 = omega (arith, c.loop-places.invariant.some, c.loop-places-test.false) in
    let size : c.args.periods * (c.loop-places.places * (64 * c.args.words)) ≡ c.args.periods * (64 * c.args.words) = ap (λ x. c.args.periods * (x * (64 * c.args.words))) one ∙ omega arith in
    subst (λ k. AllOf k c.loop-places.state.items) size c.loop-places.invariant.long

pub returns-clause-lines : goal.returns-clause-lines
returns-clause-lines g c =
    λ L own count fits shown p o hp ho.
    let n : ℕ = c.args.count in
    let s : ℕ = 64 * c.args.words in
    let number : ℕ → ℕ = number_at c.loop-places.state.items in
    let one : c.loop-places.places ≡ 1 = omega (arith, c.loop-places.invariant.some, c.loop-places-test.false) in
    let last : Folded (g.C.Combine.shows L) own number s n c.args.periods 1 = subst (λ k. Folded (g.C.Combine.shows L) own number s n c.args.periods k) one (c.loop-places.invariant.lines L own count fits shown) in
    let run : 1 * s ≡ s = omega arith in
    let times : n / 1 ≡ n = omega arith in
    ap (λ x. number (p * x + o)) (sym run) ∙ last p o hp (omega (arith, ho))
    ∙ ap (λ x. g.C.Combine.shows L (row own x (n / 1) (p * (n * s) + o))) run
    ∙ ap (λ k. g.C.Combine.shows L (row own s k (p * (n * s) + o))) times
