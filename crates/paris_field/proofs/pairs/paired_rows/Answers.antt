use Rattle.std.proofs.Common.{◌≡◌, ◌≢◌, ℕ, ◌+◌, ◌*◌, ◌∙◌, List, ap, arith, below_more, get_or, length, refl, set, inl, inr}
use Rattle.std.proofs.lemmas.Bool.{cases_lt}
use Rattle.std.proofs.lemmas.Grind.{get_or-set_at}
use Rattle.std.proofs.lemmas.List.{get_or-set_other, length-set}
use Rattle.std.proofs.lemmas.Simd.{get_or-replicate}
use Rattle.std.proofs.lemmas.List.{length-replicate}
use Rattle.paris_plane.specs.Bits.{word_bit}
use Rattle.paris_field.proofs.HalfWords.{no_row}
use Rattle.paris_field.proofs.pairs.paired_rows.Goals as goal

pub loop-k-init : goal.loop-k-init
loop-k-init g c =
    let none : ℕ = 0 in
    record {
      long = length-replicate 64 none;
      low = λ j h. absurd (omega (arith, h));
      high = λ j h. absurd (omega (arith, h));
      low_rest = λ j _ h. get_or-replicate 64 j 0 0 (omega (arith, h));
      high_rest = λ j _ h. get_or-replicate 64 (g.row.HIGH + j) 0 0 (omega (arith, h));
    }

pub loop-k-preserved : goal.loop-k-preserved
loop-k-preserved g c =
    let k : ℕ = c.loop-k.k in
    let rows : List ℕ = c.loop-k.rows in
    let x : ℕ = c.word_of.result in
    let y : ℕ = c.word_of-in-loop-k.result in
    let one : List ℕ = set rows k x in
    let long : length one ≡ 64 = length-set rows k x ∙ c.loop-k.invariant.long in
    let low_other : (j : ℕ) → j ≢ k → j ≢ g.row.HIGH + k → get_or (set one (g.row.HIGH + k) y) j 0 ≡ get_or rows j 0 = λ j ne other. get_or-set_other one (g.row.HIGH + k) j y 0 other ∙ get_or-set_other rows k j x 0 ne in
    record {
      long = length-set one (g.row.HIGH + k) y ∙ long;
      low = below_more _ _
          (λ j h i hi below.
          let ne : j ≢ k = omega arith in
          let under : j ≢ g.row.HIGH + k = omega arith in
          ap (λ w. word_bit w i) (low_other j ne under) ∙ c.loop-k.invariant.low j h i hi below)
          (λ i hi below.
          let under : k ≢ g.row.HIGH + k = omega arith in
          ap (λ w. word_bit w i) (get_or-set_other one (g.row.HIGH + k) k y 0 under ∙ get_or-set_at rows k k x 0 refl (omega arith)) ∙ c.word_of.ensures i hi below);
      high = below_more _ _
          (λ j h i hi below.
          let ne : g.row.HIGH + j ≢ k = omega arith in
          let other : g.row.HIGH + j ≢ g.row.HIGH + k = omega arith in
          ap (λ w. word_bit w i) (low_other (g.row.HIGH + j) ne other) ∙ c.loop-k.invariant.high j h i hi below)
          (λ i hi below. ap (λ w. word_bit w i) (get_or-set_at one (g.row.HIGH + k) (g.row.HIGH + k) y 0 refl (omega (arith, long))) ∙ c.word_of-in-loop-k.ensures i hi below);
      low_rest = λ j from h.
          let ne : j ≢ k = omega (arith, from) in
          let under : j ≢ g.row.HIGH + k = omega (arith, h) in
          low_other j ne under ∙ c.loop-k.invariant.low_rest j (omega (arith, from)) h;
      high_rest = λ j from h.
          let ne : g.row.HIGH + j ≢ k = omega (arith, from) in
          let other : g.row.HIGH + j ≢ g.row.HIGH + k = omega (arith, from) in
          low_other (g.row.HIGH + j) ne other ∙ c.loop-k.invariant.high_rest j (omega (arith, from)) h;
    }

pub returns-clause-low : goal.returns-clause-low
returns-clause-low g c = λ k i hk hi below.
    elim (cases_lt k c.loop-k.k) [
      | inl made ↦ c.loop-k.invariant.low k made i hi below
      | inr past ↦ no_row c.args.xs.now k i (64 * c.args.block + i) _ hi (omega (arith, past)) (c.loop-k.invariant.low_rest k past hk)
    ]

pub returns-clause-high : goal.returns-clause-high
returns-clause-high g c = λ k i hk hi below.
    elim (cases_lt k c.loop-k.k) [
      | inl made ↦ c.loop-k.invariant.high k made i hi below
      | inr past ↦ no_row c.args.ys.now k i (64 * c.args.block + i) _ hi (omega (arith, past)) (c.loop-k.invariant.high_rest k past hk)
    ]
