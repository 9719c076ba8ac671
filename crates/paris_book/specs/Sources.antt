-- What a row's sources name, and that it is never another value than the one by which the row's last result was computed.
use Rattle.std.specs.Prelude.{◌≡◌, ℕ, ◌≤◌, List, true, false, Option, Some, None, take, slice_get}
use Rattle.paris_names.specs.declared.keys.Key.{Key}
use Rattle.paris_model.specs.Instructions.{Plan, reads}
use Rattle.paris_model.specs.Recipe.{origin}
use Rattle.paris_field.specs.Fields.{FieldNumbers}
use Rattle.paris_exec.specs.Tasks.{Task, field_of, task_value}
use Rattle.paris_edits.specs.Rows.{is_settled}
use Rattle.paris_names.specs.declared.ids.Edition.{Edition}
use Rattle.paris_events.specs.State.{Inputs, input_of, number_in}
use Rattle.paris_events.specs.Show.{now}
use Rattle.paris_events.specs.declared.inputs.Input.{Input}
use Rattle.paris_book.specs.Entries.{Entry, id_of, entry_plan, seen}
use Rattle.paris_book.specs.SourceLists.{IsKnownAt}
use Rattle.paris_book.specs.declared.sources.Source.{Source}
use Rattle.paris_book.specs.declared.sources.Source.TheVariants.{Unknown, Input as FromInput, Row as FromRow}

-- the number that a source tells: of the edit that gave the input data, or of the result's edition
abbrev pub number_told : Source → ℕ
number_told Unknown = 0
number_told (FromInput n) = n
number_told (FromRow id edition) = edition.0

-- no number that a row keeps is above the count of edits
pub record IsNumbered (n : ℕ) (e : Entry) : Type 0 where
  pub edition : e.1.edition.0 ≤ n
  pub result : (d : Task) → e.1.done ≡ Some d → d.edition.0 ≤ n
  pub sources : (i : ℕ) (s : Source) → slice_get e.1.sources i ≡ Some s → number_told s ≤ n

-- a row doesn't name the result that another one, which is unsettled, would keep now
abbrev pub LeavesFree : Entry → Entry → Type 0
LeavesFree x e = (i : ℕ) → is_settled e.1.status ≡ false → slice_get x.1.sources i ≡ Some (FromRow (id_of e) e.1.edition) → ⊥

-- a row's last result was computed by this value at the key of this number and name
abbrev pub ComputedBy : Entry → ℕ → Key → FieldNumbers → Type 0
ComputedBy x i k v = (d : Task) → x.1.done ≡ Some d → slice_get (reads d.plan) i ≡ Some k → slice_get d.inputs i ≡ Some v

-- where a row names input data that is still there, its result was computed by that
abbrev pub NamesInput : Inputs → Entry → Type 0
NamesInput inputs x = (i n : ℕ) (k : Key) (v : Input) → slice_get x.1.sources i ≡ Some (FromInput n) → input_of inputs k ≡ Some v → v.number ≡ n → ComputedBy x i k v.value

-- and where it names a result that a row still keeps, by what that one left at the key
abbrev pub NamesResult : Entry → Entry → Type 0
NamesResult x e = (i : ℕ) (k : Key) (edition : Edition) (t : Task) → slice_get x.1.sources i ≡ Some (FromRow (id_of e) edition) → e.1.done ≡ Some t → t.edition ≡ edition → ComputedBy x i k (task_value t k)

-- so it is with all rows
pub record AreNamed (inputs : Inputs) (rows : List Entry) : Type 0 where
  pub given : (p : ℕ) (x : Entry) → slice_get rows p ≡ Some x → NamesInput inputs x
  pub kept : (p q : ℕ) (x e : Entry) → slice_get rows p ≡ Some x → slice_get rows q ≡ Some e → NamesResult x e

pub record IsSourced (n : ℕ) (inputs : Inputs) (rows : List Entry) : Type 0 where
  pub numbers : (p : ℕ) (x : Entry) → slice_get rows p ≡ Some x → IsNumbered n x
  pub free : (p q : ℕ) (x e : Entry) → slice_get rows p ≡ Some x → slice_get rows q ≡ Some e → LeavesFree x e
  pub named : AreNamed inputs rows

-- a source is unknown, or tells the result that a settled row keeps
abbrev pub TellsResult : Entry → Source → Type 0
TellsResult e Unknown = Unit {0}
TellsResult e (FromInput n) = ⊥
TellsResult e (FromRow id edition) = (id ≡ id_of e) × (is_settled e.1.status ≡ true) × ((t : Task) × (e.1.done ≡ Some t) × (t.edition ≡ edition))

-- a source is unknown, or is where the value of a key comes from at a place: the input data, or the result of a settled row
abbrev pub IsSource : Inputs → List Entry → ℕ → Key → Source → Type 0
IsSource inputs rows place k Unknown = Unit {0}
IsSource inputs rows place k (FromInput n) = (origin entry_plan k (take place rows) ≡ None) × (number_in (input_of inputs k) ≡ n)
IsSource inputs rows place k (FromRow id edition) = (e : Entry) × (origin entry_plan k (take place rows) ≡ Some e) × TellsResult e (FromRow id edition)

abbrev pub IsSourceOf : Inputs → List Entry → ℕ → Option Key → Source → Type 0
IsSourceOf inputs rows place None s = s ≡ Unknown
IsSourceOf inputs rows place (Some k) s = IsSource inputs rows place k s

-- so it is with the source beside each key, and beside no key it is unknown
abbrev pub AreSources : Inputs → List Entry → ℕ → List Key → List Source → Type 0
AreSources inputs rows place keys sources = (i : ℕ) (s : Source) → slice_get sources i ≡ Some s → IsSourceOf inputs rows place (slice_get keys i) s

-- where a row's known source is where the value comes from now, the value of before is the present one
abbrev pub KnownArePresent : Inputs → List Entry → ℕ → Plan → List FieldNumbers → List Source → Type 0
KnownArePresent inputs rows place p values kept =
    (i : ℕ) (k : Key) (s : Source) → IsKnownAt kept i s → IsSource inputs rows place k s → slice_get (reads p) i ≡ Some k → slice_get values i ≡ Some (field_of p k (now (seen inputs rows) place k))
