use Rattle.paris_text.proofs.ColumnLemmas.{line_width}
use Rattle.paris_text.proofs.laws.width_is_length.Goals as goal

pub returns : goal.returns
returns c = line_width
