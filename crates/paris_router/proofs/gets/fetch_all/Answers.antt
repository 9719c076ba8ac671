use Rattle.std.proofs.Common.{◌≡◌, ◌≢◌, ℕ, Bool, ◌+◌, ◌-◌, ◌*◌, ◌/◌, ◌∙◌, ap, arith, cond, get_or, length, sym, inl, inr}
use Rattle.std.specs.Prelude.{◌&&◌, nat_le}
use Rattle.std.proofs.lemmas.Bool.{cases_lt}
use Rattle.paris_model.specs.Store.{low}
use Rattle.paris_field.specs.Numbers.{has, number_at}
use Rattle.paris_router.proofs.Least.{quad_least, quad_passed}
use Rattle.paris_router.proofs.gets.fetch_all.Goals as goal

pub loop-quad-preserved : goal.loop-quad-preserved
loop-quad-preserved c =
    let b : ℕ = c.loop-quad.quad in
    let n : ℕ = length c.args.words.now in
    let test : ℕ → Bool = λ v. has c.args.selected.now v && nat_le n (number_at c.args.addresses.now v) in
    let value : ℕ → ℕ → ℕ = λ L v. low L (cond (has c.args.selected.now v) (get_or c.args.words.now (number_at c.args.addresses.now v) 0) 0) in
    record {
      long = c.fetch_quad.ensures.long;
      least = c.loop-quad.invariant.least ∙ quad_passed test b n (sym c.fetch_quad.ensures.bad ∙ c.in_default.is);
      values = λ v within below.
          elim (cases_lt v (256 * b)) [
            | inl under ↦
                let ne : v / 256 ≢ b = omega arith in
                c.fetch_quad.ensures.others v within ne ∙ c.loop-quad.invariant.values v within under
            | inr here ↦
                let there : 256 * b + (v - 256 * b) ≡ v = omega arith in
                ap (number_at c.fetch_quad.new.values) (sym there)
                ∙ c.fetch_quad.ensures.values c.in_default.is (v - 256 * b) (omega arith) (omega arith)
                ∙ ap (value (length c.loop-quad.values)) there
                ∙ ap (λ L. value L v) c.loop-quad.auto.values
          ];
    }

pub returns-in-Some-clause-bad : goal.returns-in-Some-clause-bad
returns-in-Some-clause-bad c =
    let n : ℕ = length c.args.words.now in
    let test : ℕ → Bool = λ v. has c.args.selected.now v && nat_le n (number_at c.args.addresses.now v) in
    sym (c.loop-quad.invariant.least ∙ quad_least test c.loop-quad.quad n c.in-Some.i (sym c.fetch_quad.ensures.bad ∙ c.in-Some.is))
