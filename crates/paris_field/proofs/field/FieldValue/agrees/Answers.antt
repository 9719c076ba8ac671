use Rattle.std.proofs.Common.{◌≡◌, ◌∙◌, sym, arith}
use Rattle.paris_field.proofs.Values.{same_vps, same_fields, equal_fields}
use Rattle.paris_field.proofs.field.FieldValue.agrees.Goals as goal

pub returns-then-self-other : goal.returns-then-self-other
returns-then-self-other c =
    (λ h. cc, λ e. absurd (c.if-self-other.true (same_vps c.self.inside.vps c.other.inside.vps c.self.inside.planes.items c.other.inside.planes.items _ _ c.self.view_is c.other.view_is e)))

pub returns : goal.returns
returns c =
    let vps : c.self.inside.vps ≡ c.other.inside.vps = omega arith in (
      λ h. equal_fields c.self.inside.vps c.other.inside.vps c.self.inside.planes.items c.other.inside.planes.items _ _ c.self.view_is c.other.view_is vps
          (sym c.deref.ensures.value ∙ c.same_layers.ensures.0 h ∙ c.deref-2.ensures.value),
      λ e. c.same_layers.ensures.1 (c.deref.ensures.value
          ∙ same_fields c.self.inside.vps c.other.inside.vps c.self.inside.planes.items c.other.inside.planes.items _ _ c.self.view_is c.other.view_is vps c.self.invariant.1 c.other.invariant.1 e
          ∙ sym c.deref-2.ensures.value),
    )
