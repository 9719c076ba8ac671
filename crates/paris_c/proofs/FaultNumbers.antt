-- The numbers of faults are from 1 to 23, and tell what is due.
use Rattle.std.proofs.Common.{◌≡◌, ◌≤◌, ◌+◌, ◌^◌, ℕ, List, [], ◌∷◌, length, Bool, true, false, cond, Option, None, Some, Result, Ok, Err, refl, sym, ap, ◌∙◌, arith}
use Rattle.std.proofs.Math.ListN.{length-map}
use Rattle.std.proofs.Math.Path.{ap₂}
use Rattle.std.specs.Prelude.{◌==◌, ◌||◌, not, nat_le, nat_lt, position}
use Rattle.std.specs.List.{position_or_len}
use Rattle.std.specs.Option.{option_map}
use Rattle.paris_names.specs.declared.ids.Spot.{Spot}
use Rattle.paris_names.specs.declared.keys.Key.{Key}
use Rattle.paris_names.specs.declared.limits.TheConstants.{MAX_EDITS}
use Rattle.paris_names.specs.declared.names.KeyName.{KeyName}
use Rattle.paris_board.specs.Board.{key_named, width_of, count_of}
use Rattle.paris_edits.specs.declared.edits.Edit.{Edit}
use Rattle.paris_edits.specs.declared.edits.Edit.TheVariants.{Input}
use Rattle.paris_events.specs.Edits.{edit_fault, input_fault}
use Rattle.paris_events.specs.Show.{show_from, show_key, show_reply}
use Rattle.paris_events.specs.State.{State, place_of_spot}
use Rattle.paris_book.specs.InputWidths.{width_for, input_width}
use Rattle.paris_book.proofs.DueFaults.{edit_number}
use Rattle.paris_c.specs.declared.wide.Wide.{Wide}
use Rattle.paris_c.specs.Calls.{wide_number, wide_numbers}
use Rattle.paris_names.specs.Faults.{number_of, IsFaultOf}
use Rattle.paris_c.specs.Calls.{IsNumberOf}
use Rattle.paris_names.specs.declared.faults.Fault.{Fault}
use Rattle.paris_names.specs.declared.faults.Fault.TheVariants.{SetsFull, BadAxes, NameTaken, NoSet, FieldsFull, BadWidth, NoField, WrongCount, TooWide, NoRow, RowsFull, BadLength, WrongSet, BadAxis, BadOperand, Overlap, EditionsSpent, HistoryFull, NoMemory, Syntax, StrangeSeat, NoOrder, NoEntry}

pub number_small : (fault : Fault) → (1 ≤ number_of fault) × (number_of fault ≤ 23)
number_small SetsFull = (omega arith, omega arith)
number_small BadAxes = (omega arith, omega arith)
number_small NameTaken = (omega arith, omega arith)
number_small NoSet = (omega arith, omega arith)
number_small FieldsFull = (omega arith, omega arith)
number_small BadWidth = (omega arith, omega arith)
number_small NoField = (omega arith, omega arith)
number_small WrongCount = (omega arith, omega arith)
number_small (TooWide a) = (omega arith, omega arith)
number_small NoRow = (omega arith, omega arith)
number_small RowsFull = (omega arith, omega arith)
number_small BadLength = (omega arith, omega arith)
number_small WrongSet = (omega arith, omega arith)
number_small BadAxis = (omega arith, omega arith)
number_small BadOperand = (omega arith, omega arith)
number_small Overlap = (omega arith, omega arith)
number_small EditionsSpent = (omega arith, omega arith)
number_small (HistoryFull a) = (omega arith, omega arith)
number_small NoMemory = (omega arith, omega arith)
number_small (Syntax a) = (omega arith, omega arith)
number_small (StrangeSeat a b) = (omega arith, omega arith)
number_small NoOrder = (omega arith, omega arith)
number_small NoEntry = (omega arith, omega arith)

-- the number of what an edit is refused by, which isn't want of memory, is that of the fault that is due
pub due_numbered : (due : Option Fault) (fault : Fault) (number : ℕ) → IsFaultOf due fault → number ≡ number_of fault → (number ≡ 19 → ⊥) → IsNumberOf due number
due_numbered None fault number given is other = absurd (other (is ∙ ap number_of given))
due_numbered (Some due) fault number given is other = is ∙ ap number_of given

-- ---- want of memory is due to nothing

look_by_place : (s : State) (k : Key) (o : Option ℕ) (fault : Fault) → Err fault ≡ show_from s k o → number_of fault ≡ 19 → ⊥
look_by_place s k None fault e n =
    let same : fault ≡ NoRow = cc in
    let wrong : 10 ≡ 19 = sym (ap number_of same) ∙ n in
    omega (arith, wrong)
look_by_place s k (Some place) fault e n = absurd (cc)

look_by_key : (s : State) (spot : Spot) (o : Option Key) (fault : Fault) → Err fault ≡ show_key s spot o → number_of fault ≡ 19 → ⊥
look_by_key s spot None fault e n =
    let same : fault ≡ NoField = cc in
    let wrong : 7 ≡ 19 = sym (ap number_of same) ∙ n in
    omega (arith, wrong)
look_by_key s spot (Some k) fault e n = look_by_place s k (place_of_spot s spot) fault e n

-- a look is refused by another fault
pub look_fits : (s : State) (key : KeyName) (spot : Spot) (fault : Fault) → Err fault ≡ show_reply s key spot → number_of fault ≡ 19 → ⊥
look_fits s key spot fault e n = look_by_key s spot (key_named s.board key) fault e n

by_due : (o : Option Fault) → ((due : Fault) → o ≡ Some due → number_of due ≤ 17) → (fault : Fault) → IsFaultOf o fault → number_of fault ≡ 19 → o ≡ None
by_due None small fault given n = refl
by_due (Some due) small fault given n =
    let same : number_of fault ≡ number_of due = ap number_of given in
    let few = small due refl in
    absurd (omega (arith, same, few, n))

-- where an edit is refused for want of memory, no fault is due
pub none_due : (s : State) (e : Edit) (fault : Fault) → IsFaultOf (edit_fault s e) fault → number_of fault ≡ 19 → edit_fault s e ≡ None
none_due s e fault given n = by_due (edit_fault s e) (edit_number s e) fault given n

-- the fault of an edit isn't want of memory
pub edit_fits : (s : State) (e : Edit) (fault : Fault) → Some fault ≡ edit_fault s e → number_of fault ≡ 19 → ⊥
edit_fits s e fault is n = let few = edit_number s e fault (sym is) in omega (arith, few, n)

first_place : (test : ℕ → Bool) (words : List Wide) → position_or_len (λ (w : Wide). test (wide_number w)) words ≡ position_or_len test (wide_numbers words)
first_place test [] = refl
first_place test (w ∷ words) = ap (λ n. cond (not (test (wide_number w))) (1 + n) 0) (first_place test words)

-- ---- the fault of numbers, by the width that they have to fit

abbrev fault_by_width : ℕ → List ℕ → Result ℕ Fault → Option Fault
fault_by_width from numbers (Err fault) = Some fault
fault_by_width from numbers (Ok width) = option_map (λ i. TooWide (from + i)) (position (λ x. nat_le (2 ^ width) x) numbers)

by_count : (s : State) (k : Key) (from : ℕ) (numbers : List ℕ) (b : Bool)
    → fault_by_width from numbers (cond b (Err WrongCount) (Ok (width_of s.board k))) ≡ cond b (Some WrongCount) (option_map (λ i. TooWide (from + i)) (position (λ x. nat_le (2 ^ width_of s.board k) x) numbers))
by_count s k from numbers true = refl
by_count s k from numbers false = refl

by_key : (s : State) (from : ℕ) (numbers : List ℕ) (o : Option Key) → fault_by_width from numbers (width_for s from (length numbers) o) ≡ input_fault s from numbers o
by_key s from numbers None = refl
by_key s from numbers (Some k) = by_count s k from numbers ((length numbers == 0) || nat_lt (count_of s.board k) (from + length numbers))

by_spent : (s : State) (from : ℕ) (numbers : List ℕ) (o : Option Key) (b : Bool)
    → fault_by_width from numbers (cond b (Err EditionsSpent) (width_for s from (length numbers) o)) ≡ cond b (Some EditionsSpent) (input_fault s from numbers o)
by_spent s from numbers o true = refl
by_spent s from numbers o false = by_key s from numbers o

fault_is : (s : State) (key : KeyName) (from : ℕ) (numbers : List ℕ) → fault_by_width from numbers (input_width s key from (length numbers)) ≡ edit_fault s (Input key from numbers)
fault_is s key from numbers = by_spent s from numbers (key_named s.board key) (nat_le MAX_EDITS s.edits)

module _ (s : State) (key : KeyName) (from : ℕ) (given : List Wide) (count : ℕ) (as_many : count ≡ length given) where
  whole : (r : Result ℕ Fault) → r ≡ input_width s key from count → fault_by_width from (wide_numbers given) r ≡ edit_fault s (Input key from (wide_numbers given))
  whole r is = ap (fault_by_width from (wide_numbers given)) (is ∙ ap (input_width s key from) (as_many ∙ sym (length-map given wide_number))) ∙ fault_is s key from (wide_numbers given)

  pub wide_refused : (fault : Fault) → Err fault ≡ input_width s key from count → Some fault ≡ edit_fault s (Input key from (wide_numbers given))
  wide_refused fault is = whole (Err fault) is

  pub wide_told : (width : ℕ) → Ok width ≡ input_width s key from count
      → option_map (λ i. TooWide (from + i)) (position (λ (words : Wide). nat_le (2 ^ width) (wide_number words)) given) ≡ edit_fault s (Input key from (wide_numbers given))
  wide_told width is = ap (option_map (λ i. TooWide (from + i))) (place (λ x. nat_le (2 ^ width) x) given) ∙ whole (Ok width) is
    where
      place : (test : ℕ → Bool) (words : List Wide) → position (λ (w : Wide). test (wide_number w)) words ≡ position test (wide_numbers words)
      place test words = ap₂ (λ n m. cond (nat_lt n m) (Some n) None) (first_place test words) (sym (length-map words wide_number))
