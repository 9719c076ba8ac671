use Rattle.std.proofs.Common.{◌*◌, ◌∙◌, ◌++◌, ap, arith, sym}
use Rattle.std.proofs.lemmas.List.{take_all}
use Rattle.paris_field.specs.Numbers.{numbers}
use Rattle.paris_field.proofs.Lists.{numbers_append}
use Rattle.paris_field.proofs.blocks.push_quad.Goals as goal

pub returns : goal.returns
returns c =
    let words = c.whole_quad_words.new.words in
    c.in_ok-extend_from_slice.ensures.items ∙ ap (λ l. l ++ words) c.requires.below
    ∙ ap (λ l. numbers (256 * c.args.quad) c.args.layers.now ++ l) (sym (take_all 256 words (omega arith)))
    ∙ numbers_append (256 * c.args.quad) 256 c.args.layers.now words (omega arith) (λ i h. c.whole_quad_words.ensures i h)
