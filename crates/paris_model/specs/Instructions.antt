-- Plans: what an instruction reads and writes, when it is refused, and the world after it.
use Rattle.std.specs.Prelude.{ℕ, ◌==◌, Bool, false, List, [], ◌∷◌, ◌++◌, map, Option, Some, None, Result, Ok, Err, if◌then◌else◌}
use Rattle.paris_names.specs.declared.keys.FlagName.{FlagName}
use Rattle.paris_names.specs.declared.keys.FlagName.TheVariants.{Context}
use Rattle.paris_names.specs.declared.keys.Key.{Key}
use Rattle.paris_names.specs.declared.keys.Key.TheVariants.{Field, Flag}
use Rattle.paris_names.specs.Keys.{in_order, has_key, key_eq}
use Rattle.paris_model.specs.declared.actions.Refusal.{Refusal}
use Rattle.paris_model.specs.declared.actions.Operand.{Operand}
use Rattle.paris_model.specs.declared.actions.Action.{Action}
use Rattle.paris_model.specs.declared.actions.Action.TheVariants.{OnSelected, OnAll, ByNews, AlongLine, ByMail}
use Rattle.paris_model.specs.Frame.{Frame, World}
use Rattle.paris_model.specs.Conditional.{conditional_targets, conditional_flags, conditional_sources, conditional_source_flags, conditional_after}
use Rattle.paris_model.specs.Unconditional.{unconditional_targets, unconditional_flags, unconditional_sources, unconditional_source_flags, unconditional_after, is_overwrite}
use Rattle.paris_model.specs.News.{news_target, news_source, news_after}
use Rattle.paris_model.specs.Lines.{line_target, line_flags, line_sources, line_after}
use Rattle.paris_model.specs.Mail.{mail_targets, mail_sources, mail_refusal, mail_after}

-- a resolved instruction: as it is written, its set, the set's axes, and the action with operands for the names
pub record Plan : Type 0 where
  pub instr : Action (List ℕ) (List ℕ)
  pub set_no : ℕ
  pub axes : List ℕ
  pub action : Action Operand ℕ

abbrev pub target_fields : Action Operand ℕ → List Operand
target_fields (OnSelected i) = conditional_targets i
target_fields (OnAll i) = unconditional_targets i
target_fields (ByNews i) = news_target i ∷ []
target_fields (AlongLine i) = line_target i ∷ []
target_fields (ByMail i) = mail_targets i

abbrev pub target_flags : Action Operand ℕ → List FlagName
target_flags (OnSelected i) = conditional_flags i
target_flags (OnAll i) = unconditional_flags i
target_flags (ByNews i) = []
target_flags (AlongLine i) = line_flags i
target_flags (ByMail i) = []

abbrev pub source_fields : Action Operand ℕ → List Operand
source_fields (OnSelected i) = conditional_sources i
source_fields (OnAll i) = unconditional_sources i
source_fields (ByNews i) = news_source i ∷ []
source_fields (AlongLine i) = line_sources i
source_fields (ByMail i) = mail_sources i

abbrev pub source_flags : Action Operand ℕ → List FlagName
source_flags (OnSelected i) = conditional_source_flags i
source_flags (OnAll i) = unconditional_source_flags i
source_flags (ByNews i) = Context ∷ []
source_flags (AlongLine i) = Context ∷ []
source_flags (ByMail i) = Context ∷ []

-- whether it stores all bits of each key that it writes, in every processor
abbrev pub stores_all_bits : Action Operand ℕ → Bool
stores_all_bits (OnAll i) = is_overwrite i
stores_all_bits _ = false

-- all its operands
abbrev pub operands : Action Operand ℕ → List Operand
operands i = target_fields i ++ source_fields i

abbrev pub field_keys : List Operand → List Key
field_keys fields = map (λ (o : Operand). Field o.field) fields

abbrev pub flag_keys : ℕ → List FlagName → List Key
flag_keys s flags = map (Flag s) flags

abbrev pub target_keys : ℕ → Action Operand ℕ → List Key
target_keys s i = field_keys (target_fields i) ++ flag_keys s (target_flags i)

abbrev pub source_keys : ℕ → Action Operand ℕ → List Key
source_keys s i = field_keys (source_fields i) ++ flag_keys s (source_flags i)

-- what an action in a set reads: its sources, and what it writes unless it stores all bits of that
abbrev pub read_keys : ℕ → Action Operand ℕ → List Key
read_keys s i = source_keys s i ++ (if stores_all_bits i then [] else target_keys s i)

-- the keys that the plan writes, in order
unfoldable pub writes : Plan → List Key
writes p = in_order (target_keys p.set_no p.action)

-- the keys that it reads, in order
unfoldable pub reads : Plan → List Key
reads p = in_order (read_keys p.set_no p.action)

-- the width of a field among operands
abbrev pub width_among : List Operand → ℕ → ℕ
width_among [] f = 0
width_among (o ∷ os) f = if o.field == f then o.width else width_among os f

-- the width of a key of the plan: a flag is one bit wide
unfoldable pub key_width : Plan → Key → ℕ
key_width p (Field f) = width_among (operands p.action) f
key_width p (Flag s flag) = 1

abbrev pub frame_of : Plan → World → Frame
frame_of p w = record { set_no = p.set_no; axes = p.axes; world = w }

-- why the action is refused in the frame, if it is
abbrev pub refusal_in : Frame → Action Operand ℕ → Option Refusal
refusal_in m (ByMail i) = mail_refusal m i
refusal_in m _ = None

-- the numbers that the action leaves at a key that it writes, where it isn't refused
abbrev pub after_in : Frame → Action Operand ℕ → Key → List ℕ
after_in m (OnSelected i) k = conditional_after m i k
after_in m (OnAll i) k = unconditional_after m i k
after_in m (ByNews i) k = news_after m i k
after_in m (AlongLine i) k = line_after m i k
after_in m (ByMail i) k = mail_after m i k

abbrev pub refusal : Plan → World → Option Refusal
refusal p w = refusal_in (frame_of p w) p.action

abbrev pub after_plan : Plan → World → Key → List ℕ
after_plan p w k = after_in (frame_of p w) p.action k

-- the values beside the keys of a list, and none elsewhere
abbrev pub value_at : List Key → List (List ℕ) → World
value_at [] values k = []
value_at (j ∷ js) [] k = []
value_at (j ∷ js) (x ∷ xs) k = if key_eq k j then x else value_at js xs k

-- what a plan gives in a world, where the reason to refuse it is known
abbrev pub outcome_in : Plan → World → Option Refusal → Result (List (List ℕ)) Refusal
outcome_in p w None = Ok (map (after_plan p w) (writes p))
outcome_in p w (Some cause) = Err cause

-- what a plan gives on these inputs at its reads: its values at its writes, or its refusal
unfoldable pub outcome : Plan → List (List ℕ) → Result (List (List ℕ)) Refusal
outcome p inputs = outcome_in p (value_at (reads p) inputs) (refusal p (value_at (reads p) inputs))

-- a world with an outcome put in: a refused plan leaves it
abbrev pub with_outcome : Result (List (List ℕ)) Refusal → Plan → World → World
with_outcome (Err cause) p w k = w k
with_outcome (Ok values) p w k = if has_key (writes p) k then value_at (writes p) values k else w k

-- the world after the plan
unfoldable pub one : Plan → World → World
one p w = with_outcome (outcome p (map w (reads p))) p w

-- what a result holds at a key that its plan writes: of a refused one, the value that was read
abbrev pub held : Result (List (List ℕ)) Refusal → Plan → List (List ℕ) → World
held (Err cause) p inputs = value_at (reads p) inputs
held (Ok values) p inputs = value_at (writes p) values

-- what a plan leaves at a key that it writes, by the values at its reads
abbrev pub given : Plan → List (List ℕ) → World
given p inputs = held (outcome p inputs) p inputs
