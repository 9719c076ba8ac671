use Rattle.std.proofs.Common.{◌∙◌, sym, ap, arith, length, Result, Ok, Err}
use Rattle.std.specs.Prelude.{OnOk}
use Rattle.paris_plane.proofs.Bits.{written}
use Rattle.paris_field.specs.Numbers.{numbers}
use Rattle.paris_field.specs.Fields.{FieldNumbers}
use Rattle.paris_field.proofs.Lists.{length-numbers, merged_are}
use Rattle.paris_field.proofs.Values.{width_is, vps_is, all_of}
use Rattle.paris_field.proofs.field.FieldValue.merge_in.Goals as goal

pub merge_layers-requires-clause-layers : goal.merge_layers-requires-clause-layers
merge_layers-requires-clause-layers c =
    all_of c.self.inside.vps (length c.args.mask.now) c.self.inside.planes.items c.deref_mut.result.now c.deref_mut.ensures.value
    (sym (vps_is c.self.inside.vps c.self.inside.planes.items c.self.view_is) ∙ sym c.requires.mask) c.self.invariant.1

pub merge_layers-requires-clause-others : goal.merge_layers-requires-clause-others
merge_layers-requires-clause-others c = λ k h. c.requires.others k h ∙ sym c.requires.mask

pub invariant_of-self : goal.invariant_of-self
invariant_of-self c =
    let same = written _ c.merge_layers.new.layers _ (c.merge_layers.auto.layers ∙ c.deref_mut.ensures.len) in (
      omega (arith, ap length same, c.merge_layers.auto.layers, ap length c.deref_mut.ensures.value, c.self.invariant.0),
      all_of (length c.args.mask.now) c.self.inside.vps c.merge_layers.new.layers _ same
          (c.requires.mask ∙ vps_is c.self.inside.vps c.self.inside.planes.items c.self.view_is) c.merge_layers.ensures.layers,
    )

pub returns-clause-count : goal.returns-clause-count
returns-clause-count c = length-numbers c.self.inside.vps _ ∙ sym (vps_is c.self.inside.vps c.self.inside.planes.items c.self.view_is)

also : {T E : Type 0} {P Q R : Type 0} (r : Result T E) → OnOk r P → OnOk r Q → (P → Q → R) → OnOk r R
also (Ok x) p q more = more p q
also (Err e) p q more = tt

pub returns-clause-numbers : goal.returns-clause-numbers
returns-clause-numbers c =
    also c.merge_layers.result c.merge_layers.ensures.low c.merge_layers.ensures.high (λ low high.
    ap (numbers c.self.inside.vps) (written _ c.merge_layers.new.layers _ (c.merge_layers.auto.layers ∙ c.deref_mut.ensures.len))
    ∙ merged_are c.self.inside.vps c.args.bits c.deref_mut.result.now c.merge_layers.new.layers c.args.other.now c.args.self.now.numbers c.args.mask.now
    (ap (numbers c.self.inside.vps) c.deref_mut.ensures.value ∙ ap (λ (f : FieldNumbers). f.numbers) c.self.view_is)
    c.requires.mask
    (omega (arith, c.requires.room, ap length c.deref_mut.ensures.value, width_is c.self.inside.vps c.self.inside.planes.items c.self.view_is))
    c.requires.there
    low high)
