use Rattle.paris_text.proofs.LawLemmas.{columns_are_unique, lines_have_no_column}
use Rattle.paris_text.proofs.laws.one_column.Goals as goal

pub returns-clause-unique : goal.returns-clause-unique
returns-clause-unique c = columns_are_unique

pub returns-clause-none : goal.returns-clause-none
returns-clause-none c = lines_have_no_column
