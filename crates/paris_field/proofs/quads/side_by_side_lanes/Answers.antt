use Rattle.std.proofs.Common.{◌≡◌, ◌≢◌, ℕ, ◌+◌, ◌*◌, ◌<◌, ◌∙◌, List, [], ◌∷◌, ap, arith, below_more, get_or, length, refl, replicate, inl, inr}
use Rattle.std.proofs.lemmas.Bool.{cases_eq}
use Rattle.std.proofs.lemmas.Grind.{get_or-set_at}
use Rattle.std.proofs.lemmas.List.{get_or-replicate, get_or-set_other, length-replicate, length-set}
use Rattle.paris_field.proofs.Spread.{each_of_four}
use Rattle.paris_field.proofs.quads.side_by_side_lanes.Goals as goal

pub loop-j-init : goal.loop-j-init
loop-j-init c =
    let none : List ℕ = replicate 4 0 in
    record {
      long = length-replicate 64 none;
      four = λ k h. ap length (get_or-replicate 64 k none [] h) ∙ length-replicate {A = ℕ} 4 0;
      done = λ k h. absurd (omega (arith, h));
    }

pub loop-j-preserved : goal.loop-j-preserved
loop-j-preserved c =
    let j : ℕ = c.loop-j.j in
    let word : ℕ → ℕ = λ v. get_or c.args.words.now v 0 in
    let row : List ℕ = word j ∷ word (64 + j) ∷ word (128 + j) ∷ word (192 + j) ∷ [] in
    let room : j < length c.loop-j.rows = omega arith in
    record {
      long = length-set c.loop-j.rows j row ∙ c.loop-j.invariant.long;
      four = λ k h.
          elim (cases_eq k j) [
            | inl e ↦ ap length (get_or-set_at c.loop-j.rows j k row [] e room)
            | inr n ↦ ap length (get_or-set_other c.loop-j.rows j k row [] n) ∙ c.loop-j.invariant.four k h
          ];
      done = below_more _ _
          (λ k h q hq. let ne : k ≢ j = omega (arith, h) in
          ap (λ r. get_or r q 0) (get_or-set_other c.loop-j.rows j k row [] ne) ∙ c.loop-j.invariant.done k h q hq)
          (λ q hq. ap (λ r. get_or r q 0) (get_or-set_at c.loop-j.rows j j row [] refl room)
          ∙ each_of_four (λ q. get_or row q 0 ≡ word (64 * q + j)) (ap word (omega arith)) refl refl refl q hq);
    }

pub returns : goal.returns
returns c =
    record {
      four = c.loop-j.invariant.four;
      words = λ q j hq hj. c.loop-j.invariant.done j (omega arith) q hq;
    }
