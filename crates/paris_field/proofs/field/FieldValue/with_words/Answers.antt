use Rattle.std.proofs.Common.{◌≡◌, ◌<◌, ◌^◌, ◌%◌, ◌∙◌, ap, arith, length, get_or}
use Rattle.std.proofs.Math.Nat.{mod-eq_of_lt}
use Rattle.std.proofs.lemmas.List.Elements.{All-get_or}
use Rattle.paris_plane.proofs.Bits.{written}
use Rattle.paris_field.specs.Fields.{overwritten}
use Rattle.paris_field.specs.Numbers.{value_of_planes, number_at}
use Rattle.paris_field.proofs.Values.{width_is, whole_value, vps_is, at_is, value_is, put_is, length-overwritten}
use Rattle.std.proofs.lemmas.Result.{IfOk-weaker}
use Rattle.paris_field.proofs.field.FieldValue.with_words.Goals as goal

pub put_words_from-requires-clause-within : goal.put_words_from-requires-clause-within
put_words_from-requires-clause-within c = omega (arith, c.requires.within, vps_is c.self.inside.vps c.self.inside.planes.items c.self.view_is)

pub returns : goal.returns
returns c =
    let same : c.deref_mut.result.now ≡ c.self.inside.planes.items = c.deref_mut.ensures.value ∙ c.in_ok-planes.ensures ∙ c.deref.ensures.value in
    let width : length c.deref_mut.result.now ≡ c.args.self.now.width = ap length same ∙ width_is c.self.inside.vps c.self.inside.planes.items c.self.view_is in
    let many : length c.args.self.now.numbers ≡ c.self.inside.vps = vps_is c.self.inside.vps c.self.inside.planes.items c.self.view_is in
    IfOk-weaker c.from_planes.result _ _
    (λ r e. e ∙ ap (value_of_planes c.self.inside.vps) (written _ c.put_words_from.new.planes _ (c.put_words_from.auto.planes ∙ c.deref_mut.ensures.len))
    ∙ value_is c.self.inside.vps c.args.self.now.width c.put_words_from.new.planes (overwritten c.args.self.now.numbers c.args.from c.args.words.now)
    (c.put_words_from.auto.planes ∙ width)
    (length-overwritten c.args.self.now.numbers c.args.words.now c.args.from c.requires.within ∙ many)
    (λ v h. put_is (number_at c.deref_mut.result.now) (number_at c.put_words_from.new.planes) c.args.self.now.numbers c.args.words.now c.args.from c.requires.within
    (λ u g. ap (λ ps. number_at ps u) same ∙ at_is c.self.inside.vps c.self.inside.planes.items c.self.view_is u (omega arith))
    (λ i g. c.put_words_from.ensures.put i g ∙ ap (λ w. get_or c.args.words.now i 0 % 2 ^ w) width ∙ mod-eq_of_lt (All-get_or (λ x. x < 2 ^ c.args.self.now.width) c.args.words.now i 0 g c.requires.fit))
    (λ u h outside. c.put_words_from.ensures.others u (omega (arith, h, many)) outside) v (omega arith)))
    c.from_planes.ensures

pub returns-then-words-self : goal.returns-then-words-self
returns-then-words-self c =
    let many : length c.args.self.now.numbers ≡ c.self.inside.vps = vps_is c.self.inside.vps c.self.inside.planes.items c.self.view_is in
    let whole : length c.args.words.now ≡ length c.args.self.now.numbers = omega (arith, c.if-words-self.true, many) in
    IfOk-weaker c.from_words.result _ _
    (λ r e. whole_value c.width.result c.args.self.now.width c.args.self.now.numbers c.args.words.now c.args.from c.requires.within whole c.width.ensures.value e)
    c.from_words.ensures
