use Rattle.std.proofs.Common.{◌∙◌, sym, ap, arith, length}
use Rattle.paris_field.specs.Numbers.{numbers}
use Rattle.paris_field.specs.Fields.{FieldNumbers}
use Rattle.paris_field.proofs.Lists.{length-numbers, merged_are}
use Rattle.paris_field.proofs.Values.{width_is, vps_is, all_of}
use Rattle.paris_field.proofs.field.FieldValue.merged.Goals as goal

pub merged_layers-requires-clause-old : goal.merged_layers-requires-clause-old
merged_layers-requires-clause-old c =
    all_of c.self.inside.vps (length c.args.mask.now) c.self.inside.planes.items c.deref.result.now c.deref.ensures.value
    (sym (vps_is c.self.inside.vps c.self.inside.planes.items c.self.view_is) ∙ sym c.requires.mask) c.self.invariant.1

pub invariant_of-result : goal.invariant_of-result
invariant_of-result c = (
  omega (arith, c.in_ok-planes.ensures.count, ap length c.deref.ensures.value, c.self.invariant.0),
  λ k h. c.in_ok-planes.ensures.long k h ∙ c.requires.mask ∙ vps_is c.self.inside.vps c.self.inside.planes.items c.self.view_is,
)

pub returns-clause-count : goal.returns-clause-count
returns-clause-count c = length-numbers c.self.inside.vps _ ∙ sym (vps_is c.self.inside.vps c.self.inside.planes.items c.self.view_is)

pub returns-clause-numbers : goal.returns-clause-numbers
returns-clause-numbers c =
    merged_are c.self.inside.vps c.args.bits c.deref.result.now c.in_ok-planes.planes.items c.args.other.now c.args.self.now.numbers c.args.mask.now
    (ap (numbers c.self.inside.vps) c.deref.ensures.value ∙ ap (λ (f : FieldNumbers). f.numbers) c.self.view_is)
    c.requires.mask
    (omega (arith, c.requires.room, ap length c.deref.ensures.value, width_is c.self.inside.vps c.self.inside.planes.items c.self.view_is))
    c.requires.there
    c.in_ok-planes.ensures.low c.in_ok-planes.ensures.high
