-- A value that is changed, or that is only read and may have several owners.
use Rattle.std.specs.Prelude.{◌≡◌, Bool, true, false, Option, Some, None, is_some}
use Rattle.std.specs.Global.{Global}
use Rattle.std.specs.Arc.{arc_value}
use Rattle.std.specs.declared.sync.Arc.{Arc}
use Rattle.paris_shared.specs.declared.held.Held.TheInside.{Inside}

-- the value; whether it may be changed; and whether there is a place for it where others can have it too
pub record Held (V : Type 0) : Type 0 where
  pub value : V
  pub own : Bool
  pub place : Bool

module _ {V : Type 0} where
  abbrev pub value_of : Bool → V → Option (Arc V Global) → V
  value_of true own place = own
  value_of false own None = own
  value_of false own (Some place) = arc_value place

  abbrev pub held_of : Inside V → Held V
  held_of h = record { value = value_of h.is_own h.own h.place; own = h.is_own; place = is_some h.place }

  -- one that may not be changed lies in its place
  abbrev pub IsHeld : Inside V → Type 0
  IsHeld h = h.is_own ≡ false → is_some h.place ≡ true
