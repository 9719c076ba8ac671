use Rattle.std.proofs.Common.{◌≡◌, ◌≢◌, ℕ, ◌+◌, ◌-◌, ◌*◌, ◌/◌, ◌∙◌, ap, sym, arith, get_or, drop, length, inl, inr}
use Rattle.std.proofs.lemmas.Bool.{cases_lt}
use Rattle.std.proofs.lemmas.List.{get_or-drop, get_or-take}
use Rattle.paris_model.specs.Store.{low}
use Rattle.paris_field.specs.Numbers.{number_at}
use Rattle.paris_field.proofs.blocks.put_all.Goals as goal

pub loop-block-preserved : goal.loop-block-preserved
loop-block-preserved c =
    record {
      long = c.put_block.ensures.long;
      numbers = λ v within below.
          elim (cases_lt v (64 * c.loop-block.block)) [
            | inl under ↦
                let ne : v / 64 ≢ c.loop-block.block = omega arith in
                c.put_block.ensures.others v within ne ∙ c.loop-block.invariant.numbers v within under
            | inr here ↦
                let i : ℕ = v - 64 * c.loop-block.block in
                let there : 64 * c.loop-block.block + i ≡ v = omega arith in
                ap (number_at c.put_block.new.planes) (sym there)
                ∙ c.put_block.ensures.numbers i (omega arith) (omega arith)
                ∙ ap (λ x. low (length c.loop-block.planes) x) (get_or-take _ (drop (64 * c.loop-block.block) c.args.list.now) i 0 (omega arith) ∙ get_or-drop (64 * c.loop-block.block) c.args.list.now i 0 ∙ ap (λ u. get_or c.args.list.now u 0) there)
                ∙ ap (λ n. low n (get_or c.args.list.now v 0)) (omega arith)
          ];
    }
