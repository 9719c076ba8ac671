use Rattle.std.proofs.Common.{◌≡◌, ◌<◌, ◌∙◌, ◌++◌, ◌∷◌, [], ℕ, ap, sym, arith, get_or, cond, length, map}
use Rattle.std.proofs.lemmas.List.{get_or_read}
use Rattle.std.proofs.lemmas.List.FromFn.{map-range_with_len_more}
use Rattle.paris_geometry.specs.Geometry.{numbers_below}
use Rattle.paris_field.specs.Numbers.{has}
use Rattle.paris_router.proofs.gets.fetched.Goals as goal
use Rattle.paris_router.proofs.gets.fetched.Goals.{then-get, else-get}

pub loop-v-preserved : goal.loop-v-preserved
loop-v-preserved g c =
    let v : ℕ = c.loop-v.v in
    let place : ℕ = get_or c.args.addresses.now v 0 in
    let inside : place < length c.args.numbers.now = c.requires.within v 0 (omega arith) in
    let number = get_or c.args.numbers.now place c.args.zero in
    let f = λ (v : ℕ). cond (has c.args.selected.now v) (get_or c.args.numbers.now (get_or c.args.addresses.now v 0) c.args.zero) c.args.zero in
    let value : c.if-get.number ≡ f v =
    elim c.if-get.branch [
      | then-get w ↦
          w.number-is ∙ get_or_read c.args.numbers.now place w.index-numbers-addresses.result inside w.index-numbers-addresses.is c.args.zero
          ∙ ap (λ b. cond b number c.args.zero) (sym (sym c.get.ensures ∙ w.if-get.true))
      | else-get w ↦ w.number-is ∙ ap (λ b. cond b number c.args.zero) (sym (sym c.get.ensures ∙ w.if-get.false))
    ] in
    record {
      long = omega (arith, c.push_reserved.ensures.len, c.loop-v.invariant.long);
      room = omega (arith, c.push_reserved.ensures.capacity, c.loop-v.invariant.room);
      value =
          c.push_reserved.ensures.items ∙ ap (λ l. l ++ c.if-get.number ∷ []) c.loop-v.invariant.value
          ∙ ap (λ x. map f (numbers_below v) ++ x ∷ []) value
          ∙ sym (map-range_with_len_more f 0 v v (omega arith));
    }
