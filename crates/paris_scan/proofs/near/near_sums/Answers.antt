use Rattle.std.proofs.Common.{◌≡◌, ◌≢◌, ◌∙◌, ℕ, ◌+◌, ◌-◌, ◌*◌, ◌/◌, ◌%◌, ◌^◌, ◌<◌, Bool, false, List, ap, arith, cond, get_or, inl, inr, leb, length, refl, sym}
use Rattle.std.proofs.lemmas.Bool.{cases_eq}
use Rattle.std.proofs.lemmas.List.FromFn.{fill_by_all}
use Rattle.paris_geometry.specs.declared.direction.Direction.{Direction}
use Rattle.paris_model.specs.Store.{low}
use Rattle.paris_field.specs.Numbers.{has}
use Rattle.paris_field.proofs.Places.{plane_is}
use Rattle.paris_scan.specs.Running.{AreRunning, GoOn, IsKept, added, own_word, processors_of, value_before, walked}
use Rattle.paris_scan.proofs.OneByOne.{forward}
use Rattle.paris_scan.proofs.Neighbours.{earlier_block, held_behind, held_in, no_place, place_is}
use Rattle.paris_scan.proofs.near.near_sums.Goals as goal

pub loop-place-init : goal.loop-place-init
loop-place-init c =
    let n : ℕ = length c.args.words.now in
    let d : Direction = c.args.steps.now.direction in
    record {
      count = refl;
      long = c.requires.overflow;
      rest = λ v _ _. refl;
      low = λ sums runs v _ h. absurd (omega (arith, h));
      over = λ sums runs v _ h. absurd (omega (arith, h));
      kept = λ sums runs _ some. absurd (omega (arith, some, no_place d n c.div_ceil-blocks.result (omega arith)));
    }

pub loop-place-preserved : goal.loop-place-preserved
loop-place-preserved c =
    let n : ℕ = length c.args.words.now in
    let d : Direction = c.args.steps.now.direction in
    let bits : ℕ = c.args.bits in
    let begins : ℕ → Bool = has c.args.steps.now.begins in
    let selected : ℕ → Bool = has c.args.selected.now in
    let blocks : ℕ = c.div_ceil-blocks.result in
    let words : List ℕ = c.loop-place.words in
    let m : ℕ = length words in
    let k : ℕ = c.loop-place.place in
    let block : ℕ = c.walked-block.result in
    let at : block ≡ walked d blocks k = c.walked-block.ensures.value in
    let inside : k < blocks = c.loop-place-test.true in
    let same : m ≡ n = c.loop-place.invariant.count in
    let here : walked d blocks block ≡ k = place_is d blocks block k inside at in
    let Runs : (ℕ → ℕ) → Type 0 = AreRunning (added (own_word selected c.args.words.now)) 0 d c.args.steps.now.by n begins in
    let goes : (sums : ℕ → ℕ) → Runs sums → GoOn (IsKept bits c.loop-place.sum.low c.loop-place.sum.over) (added (own_word selected words)) 0 block d m begins sums = λ sums runs.
    record {
      runs = λ i h.
          let v : ℕ = 64 * block + i in
          let below : v < n = omega (arith, h, same) in
          let mine : v / 64 ≡ block = omega (arith, h) in
          runs v below
          ∙ ap (λ by. value_before 0 d by begins sums v + own_word selected c.args.words.now v) c.requires.near
          ∙ ap (λ w. value_before 0 d 1 begins sums v + cond (selected v) w 0) (sym (c.loop-place.invariant.rest v below (omega (arith, ap (walked d blocks) mine, here))));
      held = held_in (IsKept bits c.loop-place.sum.low c.loop-place.sum.over) d n m blocks k block sums same at (c.loop-place.invariant.kept sums runs inside);
    } in
    let is : (v : ℕ) → v / 64 ≡ block → v ≡ 64 * block + v % 64 = λ v e. omega (arith, e) in
    let inside_of : (v : ℕ) → v < n → v / 64 ≡ block → v % 64 < processors_of m block = λ v below e. omega (arith, below, e, same) in
    record {
      count = c.block_sums-over.ensures.long ∙ same;
      long = c.set_word.ensures.long ∙ c.loop-place.invariant.long;
      rest = λ v below later.
          let other : v / 64 ≢ block = λ e. omega (arith, later, ap (walked d blocks) e, here) in
          c.block_sums-over.ensures.others v other ∙ c.loop-place.invariant.rest v below (omega (arith, later));
      low = λ sums runs v below h. elim (cases_eq (v / 64) block) [
        | inl e ↦ ap (λ u. get_or c.block_sums-over.new.words u 0) (is v e) ∙ c.block_sums-over.ensures.words sums (goes sums runs) (v % 64) (inside_of v below e) ∙ ap (λ u. low bits (sums u)) (sym (is v e))
        | inr other ↦ c.block_sums-over.ensures.others v other ∙ c.loop-place.invariant.low sums runs v below (earlier_block d n blocks k block v (omega arith) below at other h)
      ];
      over = λ sums runs v below h. elim (cases_eq (v / 64) block) [
        | inl e ↦
            let inner : 64 * block + v % 64 < length c.loop-place.overflow = omega (arith, below, e, c.loop-place.invariant.long) in
            ap (has c.set_word.new.self) (is v e) ∙ c.set_word.ensures.bits (v % 64) (omega arith) inner ∙ c.block_sums-over.ensures.over sums (goes sums runs) (v % 64) (inside_of v below e) ∙ ap (λ u. leb (2 ^ bits) (sums u)) (sym (is v e))
        | inr other ↦ c.set_word.ensures.others v (omega (arith, below, c.loop-place.invariant.long)) other ∙ c.loop-place.invariant.over sums runs v below (earlier_block d n blocks k block v (omega arith) below at other h)
      ];
      kept = λ sums runs more. held_behind (IsKept bits c.block_sums-over.result.0.low c.block_sums-over.result.0.over) d n m blocks k block sums same at (omega arith) (omega arith) more (c.block_sums-over.ensures.last sums (goes sums runs));
    }

pub returns-clause-words : goal.returns-clause-words
returns-clause-words c =
    λ sums runs.
    let n : ℕ = length c.args.words.now in
    let d : Direction = c.args.steps.now.direction in
    fill_by_all (λ v. low c.args.bits (sums v)) c.loop-place.words n 0 c.loop-place.invariant.count
    (λ v below. c.loop-place.invariant.low sums runs v below
    (let w : walked d c.div_ceil-blocks.result (v / 64) < c.div_ceil-blocks.result = (forward d c.div_ceil-blocks.result).within (v / 64) (omega (arith, below)) in omega (arith, w, c.loop-place-test.false, c.loop-place.auto.place-end)))

pub returns-clause-overflow : goal.returns-clause-overflow
returns-clause-overflow c =
    λ sums runs.
    let n : ℕ = length c.args.words.now in
    let d : Direction = c.args.steps.now.direction in
    plane_is c.loop-place.overflow n (λ v. leb (2 ^ c.args.bits) (sums v)) c.loop-place.invariant.long
    (λ v below. c.loop-place.invariant.over sums runs v below
    (let w : walked d c.div_ceil-blocks.result (v / 64) < c.div_ceil-blocks.result = (forward d c.div_ceil-blocks.result).within (v / 64) (omega (arith, below)) in omega (arith, w, c.loop-place-test.false, c.loop-place.auto.place-end)))
