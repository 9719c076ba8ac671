-- The input data and the rows of a book meet what the law of direct runs wants.
use Rattle.std.proofs.Common.{◌≡◌, ℕ, ◌+◌, List, [], ◌∷◌, Option, Some, None, All, refl, sym, ap, ◌∙◌, subst, map, take, slice_get}
use Rattle.std.proofs.lemmas.List.{take-map}
use Rattle.std.proofs.lemmas.List.Elements.{All-nil, All-head, All-tail, All-take, All-get_or, All-more}
use Rattle.std.proofs.lemmas.Option.{slice_get_within, get_or_from_slice_get}
use Rattle.std.specs.Option.{option_map}
use Rattle.paris_names.specs.declared.keys.FlagName.{FlagName}
use Rattle.paris_names.specs.declared.keys.FlagName.TheVariants.{Context, Test, Carry, Overflow}
use Rattle.paris_names.specs.declared.keys.Key.{Key}
use Rattle.paris_names.specs.declared.keys.Key.TheVariants.{Field, Flag}
use Rattle.paris_board.specs.Board.{Board}
use Rattle.paris_model.specs.Laws.{WorldFits, PlansFit, RunIsDirect}
use Rattle.paris_field.specs.Fields.{AllFit}
use Rattle.paris_events.specs.declared.inputs.Input.{Input}
use Rattle.paris_events.specs.declared.inputs.FlagInputs.{FlagInputs}
use Rattle.paris_book.specs.Entries.{Entry, entry_plan, machine_row}
use Rattle.paris_events.specs.State.{Row, Inputs, State, flag_input, input_of, numbers_in, start_world, row_plan}
use Rattle.paris_book.specs.Whole.{input_shape, shape_in, AllFitted, IsWhole}
use Rattle.paris_book.specs.Among.{width_in_shape}
use Rattle.paris_book.specs.Laws.{InputFits, FlagsFit, InputsFit, ActionFits, ActionsFit, NowIsDirect}
use Rattle.paris_book.proofs.Inserts.{state_of, fitted-take}
use Rattle.paris_book.proofs.Shows.{map-row}

-- the width of a key's input data, and 0 where there is none
abbrev pub width_at : Inputs → Key → ℕ
width_at inputs k = width_in_shape (shape_in inputs k)

pub all_at : {X : Type 0} (P : X → Type 0) (xs : List X) (i : ℕ) (x : X) → All P xs → slice_get xs i ≡ Some x → P x
all_at P xs i x all at = subst P (get_or_from_slice_get xs i x x at) (All-get_or P xs i x (slice_get_within xs i x at) all)

fits_if_there : (o : Option Input) → ((i : Input) → o ≡ Some i → InputFits i) → AllFit (width_in_shape (input_shape o)) (numbers_in o)
fits_if_there None there = All-nil _
fits_if_there (Some i) there = there i refl

flag_fits : (flags : List FlagInputs) (s : ℕ) (flag : FlagName) → All FlagsFit flags → (o : Option FlagInputs) → slice_get flags s ≡ o → (i : Input) → option_map (λ x. flag_input x flag) o ≡ Some i → InputFits i
flag_fits flags s flag all None e i is = absurd (cc)
flag_fits flags s flag all (Some x) e i is = let same : flag_input x flag ≡ i = cc in subst InputFits same (all_at FlagsFit flags s x all e flag)

pub start_fits : (inputs : Inputs) → InputsFit inputs → WorldFits (width_at inputs) (start_world inputs)
start_fits inputs fit (Field f) = fits_if_there (slice_get inputs.fields f) (λ i e. all_at InputFits inputs.fields f i fit.fields e)
start_fits inputs fit (Flag s flag) = fits_if_there (input_of inputs (Flag s flag)) (flag_fits inputs.flags s flag fit.flags (slice_get inputs.flags s) refl)

pub plans_fit : (inputs : Inputs) (es : List Entry) → AllFitted inputs es → ActionsFit es → PlansFit (width_at inputs) (map entry_plan es)
plans_fit inputs [] fitted fit = tt
plans_fit inputs (e ∷ es) fitted fit =
    (record { action = All-head ActionFits e es fit; widths = λ k t. sym (ap width_in_shape (fitted.0 k t)) }, plans_fit inputs es fitted.1 (All-tail ActionFits e es fit))

-- each flag's input data fits, where that of the four does
pub each_flag_fits : (x : FlagInputs) → InputFits x.context → InputFits x.test → InputFits x.carry → InputFits x.overflow → FlagsFit x
each_flag_fits x context test carry overflow Context = context
each_flag_fits x context test carry overflow Test = test
each_flag_fits x context test carry overflow Carry = carry
each_flag_fits x context test carry overflow Overflow = overflow

-- one row further
pub actions_more : (es : List Entry) (i : ℕ) (e : Entry) → slice_get es i ≡ Some e → ActionsFit (take i es) → ActionFits e → ActionsFit (take (i + 1) es)
actions_more es i e at before fit =
    All-more ActionFits es i e (slice_get_within es i e at) before (subst ActionFits (sym (get_or_from_slice_get es i e e at)) fit)

-- those of a book
pub now_direct : (b : Board) (n m : ℕ) (inputs : Inputs) (es : List Entry) (s : State) → state_of b n m inputs es ≡ s → IsWhole b n m inputs es → InputsFit inputs → ActionsFit es → RunIsDirect → NowIsDirect s
now_direct b n m inputs es s y w fit actions law = subst NowIsDirect y at_each
  where
    plans_at : (place : ℕ) → map row_plan (take place (map machine_row es)) ≡ map entry_plan (take place es)
    plans_at place = ap (λ (rs : List Row). map row_plan rs) (take-map machine_row place es) ∙ map-row (take place es)

    at_each : NowIsDirect (state_of b n m inputs es)
    at_each place k =
        law (width_at inputs) (start_world inputs) (map row_plan (take place (map machine_row es))) (start_fits inputs fit)
        (subst (PlansFit (width_at inputs)) (sym (plans_at place)) (plans_fit inputs (take place es) (fitted-take inputs es place w.fitted) (All-take ActionFits place es actions)))
        k
