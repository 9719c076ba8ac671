-- A layer that is kept as one bit, or in words, and the words of a layer that are lent.
use Rattle.std.specs.Prelude.{List, Bool, replicate}
use Rattle.paris_layer.specs.declared.layer.Form.{Form}
use Rattle.paris_layer.specs.declared.layer.Form.TheVariants.{Same, Words}
use Rattle.paris_layer.specs.declared.layer.Owner.{Owner}
use Rattle.paris_layer.specs.declared.layer.Owner.TheVariants.{Made, Of}

abbrev pub form_bits : Form → List Bool
form_bits (Same len bit) = replicate len bit
form_bits (Words plane) = plane

abbrev pub owned_bits : Owner → List Bool
owned_bits (Made plane) = plane
owned_bits (Of plane) = plane.now
