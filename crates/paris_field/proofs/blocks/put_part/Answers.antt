use Rattle.std.proofs.Common.{◌≡◌, ◌≢◌, ◌+◌, ◌*◌, ◌/◌, ◌%◌, ◌^◌, ◌∙◌, ap, arith, below_more, get_or, refl}
use Rattle.std.proofs.Math.Nat.{mod-eq_of_lt}
use Rattle.std.proofs.Math.Pow.{pow-lt}
use Rattle.std.proofs.lemmas.Grind.{get_or-set_at}
use Rattle.std.proofs.lemmas.List.{get_or-set_other, length-set}
use Rattle.paris_field.proofs.blocks.put_part.Goals as goal

pub loop-j-preserved : goal.loop-j-preserved
loop-j-preserved g c =
    let place = g.row.FROM + c.loop-j.j in
    let weight : 1 * 2 ^ g.row.W % 2 ^ 64 ≡ 2 ^ g.row.W = mod-eq_of_lt (omega (arith, pow-lt c.requires.narrow)) ∙ omega arith in
    record {
      long = length-set c.loop-j.numbers place _ ∙ c.loop-j.invariant.long;
      part = below_more _ _
          (λ j h. let ne : g.row.FROM + j ≢ place = omega arith in
          get_or-set_other c.loop-j.numbers place (g.row.FROM + j) _ 0 ne ∙ c.loop-j.invariant.part j h)
          (get_or-set_at c.loop-j.numbers place place _ 0 refl (omega arith) ∙ ap (λ m. get_or c.args.rows.now c.loop-j.j 0 / 2 ^ g.row.FROM % m) weight);
      others = λ i outside.
          let ne : i ≢ place = λ same. omega (arith, same, outside (omega (arith, same))) in
          get_or-set_other c.loop-j.numbers place i _ 0 ne ∙ c.loop-j.invariant.others i (λ above. omega (arith, outside above));
    }
