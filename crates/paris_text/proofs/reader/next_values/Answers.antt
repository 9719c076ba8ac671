use Rattle.std.proofs.Common.{◌≡◌, ◌+◌, ◌<◌, ◌≤◌, length, rules, arith, refl, sym, ap, ◌∙◌, List, ℕ, ◌∷◌, [], Ok, Err}
use Rattle.paris_text.specs.Kinds.Kind.{ValueWord}
use Rattle.paris_text.specs.Reading.{place, kind_at}
use Rattle.paris_text.specs.CommandReading.{many_at}
use Rattle.paris_text.proofs.PlaceLemmas.{place_over, place_step}
use Rattle.paris_text.proofs.RefusalLemmas.{column_given}
use Rattle.paris_text.proofs.ManyLemmas.{behind, behind_more, left_less, many_fails, many_last, many_more}
use Rattle.paris_text.proofs.reader.next_values.Goals as goal

pub push_reserved-requires : goal.push_reserved-requires
push_reserved-requires c =
    let fewer = left_less ValueWord c.args.line.now c.loop-values.next c.in_ok-value.after c.in_ok-value.value c.in_ok-value.ensures.gives in
    omega (arith, fewer, c.loop-values.invariant.room)

pub returns-in_err-value : goal.returns-in_err-value
returns-in_err-value c =
    let line = c.args.line.now in
    let here = place line c.loop-values.next in
    let e = c.in_err-value.field-0.0.0 in
    let stops : many_at ValueWord here ≡ Err e = many_fails ValueWord here e c.in_err-value.ensures.gives in
    column_given _ c.from_residual-in_err-value.result _ e c.from_residual-in_err-value.ensures.1 (c.loop-values.invariant.same ∙ rw stops refl)

pub returns-then-after-line : goal.returns-then-after-line
returns-then-after-line c =
    let line = c.args.line.now in
    let here = place line c.loop-values.next in
    let value = c.in_ok-value.value in
    let after = c.in_ok-value.after in
    let past : length line < after = search rules in
    let gives : kind_at ValueWord here ≡ Ok (value, (after + 1, [])) = rw (place_over line after past) at c.in_ok-value.ensures.gives in
    let last : many_at ValueWord here ≡ Ok (value ∷ []) = many_last ValueWord here value (after + 1) gives in
    c.loop-values.invariant.same ∙ ap (behind c.loop-values.values.items) last ∙ ap Ok (sym (c.new.ensures ∙ c.push_reserved.ensures.items))

pub loop-values-preserved : goal.loop-values-preserved
loop-values-preserved c =
    let line = c.args.line.now in
    let here = place line c.loop-values.next in
    let value = c.in_ok-value.value in
    let after = c.in_ok-value.after in
    let done = c.loop-values.values.items in
    let within : after ≤ length line = search rules in
    let step = place_step line after within in
    let fewer = left_less ValueWord line c.loop-values.next after value c.in_ok-value.ensures.gives in
    let more : many_at ValueWord here ≡ behind (value ∷ []) (many_at ValueWord (place line after)) =
    rw step (many_more ValueWord here value _ _ _ (rw step at c.in_ok-value.ensures.gives)) in
    record {
      within = c.in_ok-value.ensures.within.0;
      room = omega (arith, fewer, c.loop-values.invariant.room, c.push_reserved.ensures.len, c.push_reserved.ensures.capacity);
      same = c.loop-values.invariant.same ∙ ap (behind done) more ∙ behind_more done value (many_at ValueWord (place line after))
          ∙ ap (λ (vs : List ℕ). behind vs (many_at ValueWord (place line after))) (sym c.push_reserved.ensures.items);
    }
