use Rattle.paris_geometry.proofs.Addresses.{address_below, coordinate_of}
use Rattle.paris_geometry.proofs.laws.coordinates_undo_address.Goals as goal

pub returns : goal.returns
returns c = λ axes cs a are within. (address_below axes cs are, coordinate_of axes cs a are within)
