use Rattle.std.proofs.Common.{◌∙◌, ap}
use Rattle.paris_plane.specs.Bits.{differ}
use Rattle.paris_muldiv.proofs.Signs.{unlike_test}
use Rattle.paris_muldiv.proofs.words.have_unlike_signs.Goals as goal

pub returns : goal.returns
returns c =
    unlike_test c.is_negative_word.result c.is_negative_word-2.result ∙ ap (λ a. differ a c.is_negative_word-2.result) c.is_negative_word.ensures ∙ ap (differ _) c.is_negative_word-2.ensures
