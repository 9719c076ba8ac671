use Rattle.std.proofs.Common.{◌≡◌, ◌≢◌, ◌∙◌, ℕ, ◌+◌, ◌*◌, ◌/◌, ◌%◌, ◌<◌, Bool, List, ap, arith, cond, get_or, inl, inr, length, refl, sym}
use Rattle.std.proofs.lemmas.Bool.{cases_eq}
use Rattle.paris_geometry.specs.declared.direction.Direction.{Direction}
use Rattle.paris_model.specs.Combine.{combine}
use Rattle.paris_model.specs.declared.operators.Combiner.{Combiner}
use Rattle.paris_field.specs.Numbers.{has}
use Rattle.paris_scan.specs.Running.{AreRunning, GoOn, processors_of, taken, value_before, walked}
use Rattle.paris_scan.proofs.OneByOne.{forward}
use Rattle.paris_scan.proofs.Neighbours.{earlier_block, held_behind, held_in, no_place, place_is}
use Rattle.paris_scan.proofs.extremes.near_words.Goals as goal

pub loop-place-init : goal.loop-place-init
loop-place-init g c =
    record {
      count = refl;
      rest = λ v _ _. refl;
      made = λ L values runs v _ h. absurd (omega (arith, h));
      held = λ L values runs _ some. absurd (omega (arith, some, no_place c.args.steps.now.direction (length c.args.words.now) c.div_ceil-blocks.result (omega arith)));
    }

pub loop-place-preserved : goal.loop-place-preserved
loop-place-preserved g c =
    let op : Combiner = g.E.Extreme.operator in
    let n : ℕ = length c.args.words.now in
    let d : Direction = c.args.steps.now.direction in
    let begins : ℕ → Bool = has c.args.steps.now.begins in
    let selected : ℕ → Bool = has c.args.selected.now in
    let blocks : ℕ = c.div_ceil-blocks.result in
    let words : List ℕ = c.loop-place.words in
    let m : ℕ = length words in
    let k : ℕ = c.loop-place.place in
    let block : ℕ = c.walked-block.result in
    let at : block ≡ walked d blocks k = c.walked-block.ensures.value in
    let inside : k < blocks = c.loop-place-test.true in
    let same : m ≡ n = c.loop-place.invariant.count in
    let here : walked d blocks block ≡ k = place_is d blocks block k inside at in
    let Runs : ℕ → (ℕ → ℕ) → Type 0 = λ L. AreRunning (taken op L selected c.args.words.now) c.args.none d c.args.steps.now.by n begins in
    let goes : (L : ℕ) (values : ℕ → ℕ) → Runs L values → GoOn (λ x. c.loop-place.last ≡ x) (taken op L selected words) c.args.none block d m begins values = λ L values runs.
    record {
      runs = λ i h.
          let v : ℕ = 64 * block + i in
          let below : v < n = omega (arith, h, same) in
          let mine : v / 64 ≡ block = omega (arith, h) in
          let left : ℕ = value_before c.args.none d 1 begins values v in
          runs v below
          ∙ ap (λ by. taken op L selected c.args.words.now v (value_before c.args.none d by begins values v)) c.requires.near
          ∙ ap (λ w. cond (selected v) (combine op L left w) left) (sym (c.loop-place.invariant.rest v below (omega (arith, ap (walked d blocks) mine, here))));
      held = held_in (λ x. c.loop-place.last ≡ x) d n m blocks k block values same at (c.loop-place.invariant.held L values runs inside);
    } in
    let is : (v : ℕ) → v / 64 ≡ block → v ≡ 64 * block + v % 64 = λ v e. omega (arith, e) in
    let inside_of : (v : ℕ) → v < n → v / 64 ≡ block → v % 64 < processors_of m block = λ v below e. omega (arith, below, e, same) in
    record {
      count = c.block_words-last.ensures.long ∙ same;
      rest = λ v below later.
          let other : v / 64 ≢ block = λ e. omega (arith, later, ap (walked d blocks) e, here) in
          c.block_words-last.ensures.others v other ∙ c.loop-place.invariant.rest v below (omega (arith, later));
      made = λ L values runs v below h. elim (cases_eq (v / 64) block) [
        | inl e ↦ ap (λ u. get_or c.block_words-last.new.words u 0) (is v e) ∙ c.block_words-last.ensures.words L values (goes L values runs) (v % 64) (inside_of v below e) ∙ ap values (sym (is v e))
        | inr other ↦ c.block_words-last.ensures.others v other ∙ c.loop-place.invariant.made L values runs v below (earlier_block d n blocks k block v (omega arith) below at other h)
      ];
      held = λ L values runs more. held_behind (λ x. c.block_words-last.result ≡ x) d n m blocks k block values same at (omega arith) (omega arith) more (c.block_words-last.ensures.last L values (goes L values runs));
    }

pub returns-clause-words : goal.returns-clause-words
returns-clause-words g c =
    λ L values runs v below.
    c.loop-place.invariant.made L values runs v below
    (let w : walked c.args.steps.now.direction c.div_ceil-blocks.result (v / 64) < c.div_ceil-blocks.result = (forward c.args.steps.now.direction c.div_ceil-blocks.result).within (v / 64) (omega (arith, below)) in omega (arith, w, c.loop-place-test.false, c.loop-place.auto.place-end))
