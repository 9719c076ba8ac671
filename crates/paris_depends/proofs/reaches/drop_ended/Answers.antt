use Rattle.std.proofs.Common.{rules}
use Rattle.std.proofs.lemmas.Fn.{filter_same}
use Rattle.paris_depends.specs.Reaches.{goes_on}
use Rattle.paris_depends.proofs.reaches.drop_ended.Goals as goal

pub returns : goal.returns
returns c = filter_same _ (goes_on c.args.place) _ (λ x b f' k. search rules) _ _ c.retain.ensures.filtered
