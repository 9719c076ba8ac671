use Rattle.std.proofs.Common.{◌+◌, ◌*◌, ◌^◌, ◌∙◌, ap, arith}
use Rattle.std.specs.Prelude.{unsigned_abs}
use Rattle.paris_model.specs.Store.{signed}
use Rattle.paris_muldiv.proofs.Signs.{word_value, word_overflow}
use Rattle.paris_muldiv.proofs.numbers.SignedProductNumberOp.apply_words.Goals as goal

pub returns-clause-value : goal.returns-clause-value
returns-clause-value c =
    word_value c.args.bits c.args.x c.args.y c.word_product-low.result.0 c.signed_word.result c.word_product-low.result.1 c.have_unlike_signs-unlike.result c.requires.narrow (omega arith)
    (c.word_product-low.ensures ∙ ap (λ t. t * c.absolute_word-2.result) c.absolute_word.ensures ∙ ap (λ t. unsigned_abs (signed c.args.bits c.args.x) * t) c.absolute_word-2.ensures)
    c.have_unlike_signs-unlike.ensures c.signed_word.ensures.same c.signed_word.ensures.opposite

pub returns-clause-overflow : goal.returns-clause-overflow
returns-clause-overflow c =
    word_overflow c.args.bits c.args.x c.args.y (c.word_product-low.result.0 + 2 ^ 64 * c.word_product-low.result.1) c.least_outside.result c.have_unlike_signs-unlike.result c.word_reaches-overflows.result
    (c.word_product-low.ensures ∙ ap (λ t. t * c.absolute_word-2.result) c.absolute_word.ensures ∙ ap (λ t. unsigned_abs (signed c.args.bits c.args.x) * t) c.absolute_word-2.ensures)
    c.have_unlike_signs-unlike.ensures c.least_outside.ensures c.word_reaches-overflows.ensures
