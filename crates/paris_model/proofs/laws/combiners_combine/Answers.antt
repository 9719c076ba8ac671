use Rattle.paris_model.proofs.Combining.{combined_fit, commutes, associates, unit_first}
use Rattle.paris_model.proofs.laws.combiners_combine.Goals as goal

pub returns : goal.returns
returns c = record { fit = combined_fit; commute = commutes; associate = associates; unit = unit_first }
