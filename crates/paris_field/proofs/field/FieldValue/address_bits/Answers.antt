use Rattle.std.proofs.Common.{◌/◌, ◌%◌, ◌^◌, ◌∙◌, sym}
use Rattle.paris_model.specs.Store.{everywhere}
use Rattle.paris_model.proofs.Stores.{length-everywhere, everywhere-at}
use Rattle.paris_field.proofs.Values.{value_is}
use Rattle.paris_field.proofs.field.FieldValue.address_bits.Goals as goal

pub returns : goal.returns
returns c =
    value_is c.args.vps c.args.width c.in_ok-planes.planes.items (everywhere c.args.vps (λ v. v / 2 ^ c.args.from % 2 ^ c.args.count))
    c.in_ok-planes.ensures.width
    (length-everywhere c.args.vps (λ v. v / 2 ^ c.args.from % 2 ^ c.args.count))
    (λ v h. c.in_ok-planes.ensures.numbers v h ∙ sym (everywhere-at c.args.vps (λ v. v / 2 ^ c.args.from % 2 ^ c.args.count) v h))
