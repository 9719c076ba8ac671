use Rattle.std.proofs.Common.{◌≡◌, ℕ, ◌+◌, ◌-◌, ◌<◌, ◌∙◌, sym, ap, arith, List, Bool, [], length, drop}
use Rattle.std.proofs.lemmas.List.{get_or_read}
use Rattle.paris_model.specs.Store.{bit}
use Rattle.paris_field.specs.Numbers.{bit_in, number_at, plane_at}
use Rattle.paris_field.proofs.Numbers.{none_above, room_above, number_at_from}
use Rattle.paris_field.proofs.planes.number_in.Goals as goal
use Rattle.paris_field.proofs.planes.number_in.Goals.{then-get, else-get}

pub loop-k-init : goal.loop-k-init
loop-k-init c = sym (none_above c.args.layers.now c.args.v)

pub overflow_mul-number : goal.overflow_mul-number
overflow_mul-number c =
    let k : ℕ = c.loop-k.k - 1 in
    let above : c.loop-k.number ≡ number_at (drop (k + 1) c.args.layers.now) c.args.v = c.loop-k.invariant ∙ ap (λ j. number_at (drop j c.args.layers.now) c.args.v) (omega arith) in
    let below : k < length c.args.layers.now = omega arith in
    omega (arith, above, room_above c.args.layers.now k c.args.v below c.requires.narrow)

pub overflow_add-number : goal.overflow_add-number
overflow_add-number c =
    let k : ℕ = c.loop-k.k - 1 in
    let above : c.loop-k.number ≡ number_at (drop (k + 1) c.args.layers.now) c.args.v = c.loop-k.invariant ∙ ap (λ j. number_at (drop j c.args.layers.now) c.args.v) (omega arith) in
    let below : k < length c.args.layers.now = omega arith in
    let room = room_above c.args.layers.now k c.args.v below c.requires.narrow in
    elim c.if-get.branch [ then-get w ↦ omega (arith, above, room, w.number-is) | else-get w ↦ omega (arith, above, room, w.number-is) ]

pub loop-k-preserved : goal.loop-k-preserved
loop-k-preserved c =
    let k : ℕ = c.loop-k.k - 1 in
    let above : c.loop-k.number ≡ number_at (drop (k + 1) c.args.layers.now) c.args.v = c.loop-k.invariant ∙ ap (λ j. number_at (drop j c.args.layers.now) c.args.v) (omega arith) in
    let below : k < length c.args.layers.now = omega arith in
    let x : List Bool = c.index-layers-k.result in
    let at : x ≡ plane_at c.args.layers.now k = get_or_read c.args.layers.now k x below c.index-layers-k.is [] in
    let taken : c.if-get.number ≡ bit_in x c.args.v = elim c.if-get.branch [
      | then-get w ↦ w.number-is ∙ sym (ap bit (sym c.get.ensures ∙ w.if-get.true))
      | else-get w ↦ w.number-is ∙ sym (ap bit (sym c.get.ensures ∙ w.if-get.false))
    ] in
    omega (arith, above, taken, number_at_from c.args.layers.now k c.args.v x below at)
