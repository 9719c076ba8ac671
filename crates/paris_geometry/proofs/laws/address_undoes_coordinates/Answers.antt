use Rattle.paris_geometry.proofs.Addresses.{own_coordinates, address_own}
use Rattle.paris_geometry.proofs.laws.address_undoes_coordinates.Goals as goal

pub returns : goal.returns
returns c = λ axes v sound below. (own_coordinates axes v sound, address_own axes v sound below)
