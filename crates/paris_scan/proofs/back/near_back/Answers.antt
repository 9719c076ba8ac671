use Rattle.std.proofs.Common.{◌≡◌, ◌≢◌, ◌∙◌, ℕ, ◌+◌, ◌*◌, ◌/◌, ◌%◌, ◌<◌, Bool, List, ap, arith, get_or, inl, inr, length, refl, sym}
use Rattle.std.proofs.lemmas.Bool.{cases_eq}
use Rattle.paris_geometry.specs.declared.direction.Direction.{Direction}
use Rattle.paris_field.specs.Numbers.{has}
use Rattle.paris_scan.specs.Running.{GoOn, processors_of, value_before, walked}
use Rattle.paris_scan.proofs.OneByOne.{forward}
use Rattle.paris_scan.proofs.Neighbours.{earlier_block, held_behind, held_in, no_place, place_is}
use Rattle.paris_scan.proofs.back.near_back.Goals as goal

pub loop-place-init : goal.loop-place-init
loop-place-init c =
    record {
      count = refl;
      rest = λ v _ _. refl;
      moved = λ v _ h. absurd (omega (arith, h));
      held = λ _ some. absurd (omega (arith, some, no_place c.args.steps.now.direction (length c.args.words.now) c.div_ceil-blocks.result (omega arith)));
    }

pub loop-place-preserved : goal.loop-place-preserved
loop-place-preserved c =
    let n : ℕ = length c.args.words.now in
    let d : Direction = c.args.steps.now.direction in
    let begins : ℕ → Bool = has c.args.steps.now.begins in
    let old : ℕ → ℕ = λ u. get_or c.args.words.now u 0 in
    let blocks : ℕ = c.div_ceil-blocks.result in
    let words : List ℕ = c.loop-place.words in
    let m : ℕ = length words in
    let k : ℕ = c.loop-place.place in
    let block : ℕ = c.walked-block.result in
    let at : block ≡ walked d blocks k = c.walked-block.ensures.value in
    let inside : k < blocks = c.loop-place-test.true in
    let same : m ≡ n = c.loop-place.invariant.count in
    let here : walked d blocks block ≡ k = place_is d blocks block k inside at in
    let goes : GoOn (λ x. c.loop-place.last ≡ x) (λ v _. get_or words v 0) c.args.none block d m begins old =
    record {
      runs = λ i h.
          let v : ℕ = 64 * block + i in
          let below : v < n = omega (arith, h, same) in
          let mine : v / 64 ≡ block = omega (arith, h) in
          sym (c.loop-place.invariant.rest v below (omega (arith, ap (walked d blocks) mine, here)));
      held = held_in (λ x. c.loop-place.last ≡ x) d n m blocks k block old same at (c.loop-place.invariant.held inside);
    } in
    let is : (v : ℕ) → v / 64 ≡ block → v ≡ 64 * block + v % 64 = λ v e. omega (arith, e) in
    let inside_of : (v : ℕ) → v < n → v / 64 ≡ block → v % 64 < processors_of m block = λ v below e. omega (arith, below, e, same) in
    record {
      count = c.block_back-last.ensures.long ∙ same;
      rest = λ v below later.
          let other : v / 64 ≢ block = λ e. omega (arith, later, ap (walked d blocks) e, here) in
          c.block_back-last.ensures.others v other ∙ c.loop-place.invariant.rest v below (omega (arith, later));
      moved = λ v below h. elim (cases_eq (v / 64) block) [
        | inl e ↦ ap (λ u. get_or c.block_back-last.new.words u 0) (is v e) ∙ c.block_back-last.ensures.words old goes (v % 64) (inside_of v below e) ∙ ap (value_before c.args.none d 1 begins old) (sym (is v e))
        | inr other ↦ c.block_back-last.ensures.others v other ∙ c.loop-place.invariant.moved v below (earlier_block d n blocks k block v (omega arith) below at other h)
      ];
      held = λ more. held_behind (λ x. c.block_back-last.result ≡ x) d n m blocks k block old same at (omega arith) (omega arith) more (c.block_back-last.ensures.last old goes);
    }

pub returns-clause-words : goal.returns-clause-words
returns-clause-words c =
    λ v below.
    let d : Direction = c.args.steps.now.direction in
    c.loop-place.invariant.moved v below
    (let w : walked d c.div_ceil-blocks.result (v / 64) < c.div_ceil-blocks.result = (forward d c.div_ceil-blocks.result).within (v / 64) (omega (arith, below)) in omega (arith, w, c.loop-place-test.false, c.loop-place.auto.place-end))
    ∙ ap (λ by. value_before c.args.none d by (has c.args.steps.now.begins) (λ u. get_or c.args.words.now u 0) v) (sym c.requires.near)
