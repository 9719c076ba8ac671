use Rattle.std.proofs.Common.{◌≡◌, ◌<◌, ℕ, ◌^◌, ◌%◌, ◌∙◌, ap, arith, length, replicate, false, get_or, refl}
use Rattle.std.proofs.Math.Nat.{mod-eq_of_lt}
use Rattle.std.proofs.lemmas.Simd.{length-replicate}
use Rattle.std.proofs.lemmas.List.Elements.{All-get_or}
use Rattle.paris_plane.proofs.Bits.{written}
use Rattle.paris_field.specs.Numbers.{value_of_planes}
use Rattle.paris_field.proofs.Values.{value_is}
use Rattle.std.proofs.lemmas.Result.{IfOk-weaker}
use Rattle.paris_field.proofs.field.FieldValue.from_words.Goals as goal

pub returns : goal.returns
returns c =
    let n : ℕ = length c.args.words.now in
    let width : length c.deref_mut.result.now ≡ c.args.width = ap length (c.deref_mut.ensures.value ∙ c.in_ok-planes.ensures) ∙ length-replicate c.args.width (replicate n false) in
    IfOk-weaker c.from_planes.result _ _
    (λ r e. e ∙ ap (value_of_planes n) (written _ c.put_all_words.new.planes _ (c.put_all_words.auto.planes ∙ c.deref_mut.ensures.len))
    ∙ value_is n c.args.width c.put_all_words.new.planes c.args.words.now
    (c.put_all_words.auto.planes ∙ width) refl (λ v h.
    c.put_all_words.ensures.put v h
    ∙ ap (λ w. get_or c.args.words.now v 0 % 2 ^ w) width
    ∙ mod-eq_of_lt (All-get_or (λ x. x < 2 ^ c.args.width) c.args.words.now v 0 (omega arith) c.requires.fit)))
    c.from_planes.ensures
