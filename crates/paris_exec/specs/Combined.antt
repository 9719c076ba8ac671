-- What instructions along lines and by mail store where a plane tells: a result with its overflow flags, and mail with its notice.
use Rattle.std.specs.Prelude.{ℕ, Bool, nat_lt, List, [], ◌∷◌, Option, Some, None, if◌then◌else◌}
use Rattle.paris_names.specs.declared.keys.FlagName.{FlagName}
use Rattle.paris_names.specs.declared.keys.FlagName.TheVariants.{Overflow}
use Rattle.paris_names.specs.declared.keys.Key.TheVariants.{Field, Flag}
use Rattle.paris_model.specs.declared.actions.Operand.{Operand}
use Rattle.paris_model.specs.declared.actions.Mail.{Mail}
use Rattle.paris_model.specs.declared.actions.Mail.TheVariants.{Get, Send, CombiningSend}
use Rattle.paris_field.specs.Fields.{FieldNumbers}
use Rattle.paris_field.specs.Numbers.{has}
use Rattle.paris_router.specs.declared.sends.Delivery.{Delivery}
use Rattle.paris_exec.specs.Planes.{flag_value}
use Rattle.paris_exec.specs.Tasks.{Task, put_value_where}

-- overflow flags of this key alone, if there are any
abbrev pub overflow_values : Task → (ℕ → Bool) → Option (List Bool) → List FieldNumbers
overflow_values t who None = []
overflow_values t who (Some bits) = put_value_where t who (Flag t.plan.set_no Overflow) (flag_value bits) ∷ []

-- the flags that are set with them
abbrev pub overflow_flags : {X : Type 0} → Option X → List FlagName
overflow_flags None = []
overflow_flags (Some bits) = Overflow ∷ []

-- two values, by the numbers of their fields
abbrev pub by_field : ℕ → FieldNumbers → ℕ → FieldNumbers → List FieldNumbers
by_field f x g y = if nat_lt g f then y ∷ x ∷ [] else x ∷ y ∷ []

-- what receivers store: the mail, and in every processor whether it got some
abbrev pub delivered_values : Task → ℕ → Option Operand → Delivery → List FieldNumbers
delivered_values t f None new = put_value_where t (has new.receivers) (Field f) new.value ∷ []
delivered_values t f (Some N) new = by_field f (put_value_where t (has new.receivers) (Field f) new.value) N.field (flag_value new.receivers)

-- the source of mail
abbrev pub mail_source : Mail Operand → Operand
mail_source (Get D B A L) = A
mail_source (Send D B A L N) = A
mail_source (CombiningSend op D B A L N) = A

-- how many of its bits are moved
abbrev pub mail_length : Mail Operand → ℕ
mail_length (Get D B A L) = L
mail_length (Send D B A L N) = L
mail_length (CombiningSend op D B A L N) = L
