-- Moves by send address. D is the destination, B the field of addresses, A the source, L a length, N the notify field.
use Rattle.std.specs.Prelude.{ℕ, Bool, ◌==◌, ◌&&◌, nat_le, nat_lt, List, [], ◌∷◌, map, filter, find, length, Option, Some, None, if◌then◌else◌, slice_index}
use Rattle.paris_names.specs.declared.keys.Key.{Key}
use Rattle.paris_names.specs.declared.keys.Key.TheVariants.{Field, Flag}
use Rattle.paris_geometry.specs.Geometry.{numbers_below, processor_count}
use Rattle.paris_model.specs.declared.actions.Refusal.{Refusal}
use Rattle.paris_model.specs.declared.actions.Refusal.TheVariants.{Collision, BadAddress}
use Rattle.paris_model.specs.declared.actions.Operand.{Operand}
use Rattle.paris_model.specs.declared.actions.Mail.{Mail}
use Rattle.paris_model.specs.declared.actions.Mail.TheVariants.{Get, Send, CombiningSend}
use Rattle.paris_model.specs.Store.{bit, everywhere}
use Rattle.paris_model.specs.Combine.{combined}
use Rattle.paris_model.specs.Frame.{Frame, low_at, field_at, is_selected, put_where, put_selected}

-- the least number below n that passes the test, if there is one
abbrev pub least_below : ℕ → (ℕ → Bool) → Option ℕ
least_below n test = find test (numbers_below n)

-- the messages of n processors, by sender: address and value
abbrev pub messages : ℕ → (ℕ → Bool) → (ℕ → ℕ) → (ℕ → ℕ) → List (ℕ × ℕ)
messages n selected address value = map (λ p. (address p, value p)) (filter selected (numbers_below n))

-- the values that arrive at r, by sender
abbrev pub arrivals : List (ℕ × ℕ) → ℕ → List ℕ
arrivals mail r = map (λ message. message.1) (filter (λ message. message.0 == r) mail)

-- whether mail arrives at r
abbrev pub gets_mail : List (ℕ × ℕ) → ℕ → Bool
gets_mail mail r = nat_lt 0 (length (arrivals mail r))

-- the least selected processor that holds an address outside the set
abbrev pub bad_sender : ℕ → (ℕ → Bool) → (ℕ → ℕ) → Option ℕ
bad_sender n selected address = least_below n (λ v. selected v && nat_le n (address v))

-- the least processor at which two messages meet
abbrev pub collision_at : ℕ → List (ℕ × ℕ) → Option ℕ
collision_at n mail = least_below n (λ r. nat_lt 1 (length (arrivals mail r)))

-- the first cause, if there is one: a bad address comes before a collision
abbrev pub first_cause : Option ℕ → Option ℕ → Option Refusal
first_cause (Some v) collision = Some (BadAddress v)
first_cause None (Some r) = Some (Collision r)
first_cause None None = None

-- the messages of an instruction
abbrev pub mail_of : Frame → Operand → Operand → ℕ → List (ℕ × ℕ)
mail_of m B A L = messages (processor_count m.axes) (is_selected m) (field_at m B) (low_at m A L)

abbrev pub bad_sender_in : Frame → Operand → Option ℕ
bad_sender_in m B = bad_sender (processor_count m.axes) (is_selected m) (field_at m B)

-- why the instruction is refused, if it is
abbrev pub mail_refusal : Frame → Mail Operand → Option Refusal
mail_refusal m (Get D B A L) = first_cause (bad_sender_in m B) None
mail_refusal m (Send D B A L N) = first_cause (bad_sender_in m B) (collision_at (processor_count m.axes) (mail_of m B A L))
mail_refusal m (CombiningSend op D B A L N) = first_cause (bad_sender_in m B) None

abbrev pub notify_targets : Option Operand → List Operand
notify_targets None = []
notify_targets (Some N) = N ∷ []

-- the fields that it stores to, the destination first
abbrev pub mail_targets : Mail Operand → List Operand
mail_targets (Get D B A L) = D ∷ []
mail_targets (Send D B A L N) = D ∷ notify_targets N
mail_targets (CombiningSend op D B A L N) = D ∷ notify_targets N

abbrev pub mail_sources : Mail Operand → List Operand
mail_sources (Get D B A L) = B ∷ A ∷ []
mail_sources (Send D B A L N) = B ∷ A ∷ []
mail_sources (CombiningSend op D B A L N) = B ∷ A ∷ []

-- 1 where mail arrives, else 0
abbrev pub notified : ℕ → List (ℕ × ℕ) → List ℕ
notified n mail = everywhere n (λ r. bit (gets_mail mail r))

-- the numbers at the field f, which is the destination or the notify field, where mail arrives with these values
abbrev pub delivered : Frame → List (ℕ × ℕ) → Operand → ℕ → (ℕ → ℕ) → ℕ → List ℕ
delivered m mail D L value f =
    if f == D.field
    then put_where m (gets_mail mail) (Field f) L value
    else notified (processor_count m.axes) mail

-- the numbers at a key that it writes, where it isn't refused: a receiver stores whatever its context
abbrev pub mail_after : Frame → Mail Operand → Key → List ℕ
mail_after m (Get D B A L) (Field f) = put_selected m (Field f) L (λ v. low_at m A L (field_at m B v))
mail_after m (Send D B A L N) (Field f) =
    delivered m (mail_of m B A L) D L (λ r. slice_index (arrivals (mail_of m B A L) r) 0) f
mail_after m (CombiningSend op D B A L N) (Field f) =
    delivered m (mail_of m B A L) D L (λ r. combined op L (low_at m D L r) (arrivals (mail_of m B A L) r)) f
mail_after m i (Flag s flag) = m.world (Flag s flag)
