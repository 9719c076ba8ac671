use Rattle.paris_model.proofs.Meanings.{same_recipe}
use Rattle.paris_model.proofs.laws.same_recipe_same_value.Goals as goal

pub returns : goal.returns
returns c = same_recipe
