use Rattle.std.proofs.Common.{sym}
use Rattle.paris_field.proofs.Values.{vps_is}
use Rattle.paris_field.proofs.field.FieldValue.len.Goals as goal

pub returns : goal.returns
returns c = sym (vps_is c.self.inside.vps c.self.inside.planes.items c.self.view_is)
