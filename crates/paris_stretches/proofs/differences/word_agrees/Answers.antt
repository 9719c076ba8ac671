use Rattle.std.proofs.Common.{◌≡◌, ◌∙◌, sym}
use Rattle.std.proofs.lemmas.Bool.Decides.{Decides-eqb, Decides-like}
use Rattle.paris_stretches.proofs.Words.{bits_same, none_apart}
use Rattle.paris_stretches.proofs.differences.word_agrees.Goals as goal

pub returns : goal.returns
returns c =
    Decides-like _ (λ e i h. bits_same c.args.x c.args.y c.args.from c.args.count i (sym c.low_bits.ensures ∙ e) h)
    (λ each. c.low_bits.ensures ∙ none_apart c.args.x c.args.y c.args.from c.args.count each)
    (Decides-eqb c.low_bits.result 0)
