use Rattle.std.proofs.Common.{◌≡◌, ◌≢◌, ℕ, ◌+◌, ◌-◌, ◌*◌, ◌/◌, ◌%◌, ◌^◌, ◌∙◌, ap, arith, drop, get_or, length, sym, inl, inr}
use Rattle.std.proofs.lemmas.Bool.{cases_lt}
use Rattle.std.proofs.lemmas.List.{get_or-drop, get_or-take}
use Rattle.paris_field.specs.Numbers.{number_at}
use Rattle.paris_field.proofs.words.put_quads.Goals as goal

pub loop-quad-preserved : goal.loop-quad-preserved
loop-quad-preserved c =
    record {
      long = c.put_whole_quad.ensures.long;
      put = λ v below.
          elim (cases_lt v (256 * c.loop-quad.quad)) [
            | inl under ↦
                let ne : v / 256 ≢ c.loop-quad.quad = omega (arith, under) in
                c.put_whole_quad.ensures.others v (omega arith) ne ∙ c.loop-quad.invariant.put v under
            | inr here ↦
                let i : ℕ = v - 256 * c.loop-quad.quad in
                let there : 256 * c.loop-quad.quad + i ≡ v = omega (arith, here) in
                ap (number_at c.put_whole_quad.new.planes) (sym there)
                ∙ c.put_whole_quad.ensures.numbers i (omega (arith, here, below))
                ∙ ap (λ x. x % 2 ^ length c.loop-quad.planes) (get_or-take _ (drop (256 * c.loop-quad.quad) c.args.words.now) i 0 (omega arith) ∙ get_or-drop (256 * c.loop-quad.quad) c.args.words.now i 0 ∙ ap (λ u. get_or c.args.words.now u 0) there)
                ∙ ap (λ n. get_or c.args.words.now v 0 % 2 ^ n) (omega arith)
          ];
    }
