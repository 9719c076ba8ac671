use Rattle.std.proofs.Common.{◌≡◌, ℕ, ◌+◌, ◌-◌, ◌*◌, ◌%◌, ◌^◌, ◌∙◌, ap, arith, drop, get_or, length, sym, inl, inr}
use Rattle.std.proofs.lemmas.Bool.{cases_lt}
use Rattle.std.proofs.lemmas.List.{get_or-drop, get_or-take}
use Rattle.paris_field.specs.Numbers.{number_at}
use Rattle.paris_field.proofs.words.put_all_words.Goals as goal

pub returns-clause-put : goal.returns-clause-put
returns-clause-put c =
    λ v within.
    elim (cases_lt v (256 * c.whole_quads-quads.result)) [
      | inl under ↦
          c.put_words_from-2.ensures.others v within (λ above. absurd (omega (arith, under, above))) ∙ c.put_quads.ensures.put v under
      | inr here ↦
          let i : ℕ = v - 256 * c.whole_quads-quads.result in
          let there : 256 * c.whole_quads-quads.result + i ≡ v = omega (arith, here) in
          ap (number_at c.put_words_from-2.new.planes) (sym there)
          ∙ c.put_words_from-2.ensures.put i (omega (arith, here, within))
          ∙ ap (λ x. x % 2 ^ length c.put_quads.new.planes) (get_or-take _ (drop (256 * c.whole_quads-quads.result) c.args.words.now) i 0 (omega arith) ∙ get_or-drop (256 * c.whole_quads-quads.result) c.args.words.now i 0 ∙ ap (λ u. get_or c.args.words.now u 0) there)
          ∙ ap (λ n. get_or c.args.words.now v 0 % 2 ^ n) (omega arith)
    ]
