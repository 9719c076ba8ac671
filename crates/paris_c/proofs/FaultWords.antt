-- The words of the listed rows are those of the refused ones, three for each.
use Rattle.std.proofs.Common.{◌≡◌, ℕ, ◌*◌, ◌/◌, List, [], ◌∷◌, ◌++◌, length, refl, ap, sym, ◌∙◌, arith}
use Rattle.std.specs.Prelude.{flat_map}
use Rattle.std.proofs.lemmas.Grind.{flat_map-append}
use Rattle.paris_model.specs.Frame.{World}
use Rattle.paris_model.specs.Instructions.{one}
use Rattle.paris_edits.specs.declared.rows.RowFault.{RowFault}
use Rattle.paris_events.specs.State.{Row, State, start_world}
use Rattle.paris_events.specs.Lists.{cause_in, fault_by, faults_in, faults_of, listed_in, listed_row, list_of}
use Rattle.paris_c.specs.Calls.{fault_words, row_words}

words_in : (w : World) (rs : List Row) → flat_map row_words (listed_in w rs) ≡ flat_map fault_words (faults_in w rs)
words_in w [] = refl
words_in w (r ∷ rs) =
    ap (λ (l : List ℕ). row_words (listed_row w r) ++ l) (words_in (one r.plan w) rs)
    ∙ sym (flat_map-append fault_words (fault_by r.id (cause_in w r)) (faults_in (one r.plan w) rs))

pub words_are : (s : State) → flat_map row_words (list_of s) ≡ flat_map fault_words (faults_of s)
words_are s = words_in (start_world s.inputs) s.rows

three_words : (faults : List RowFault) → length (flat_map fault_words faults) ≡ 3 * length faults
three_words [] = refl
three_words (fault ∷ faults) = let e = three_words faults in omega (arith, e)

pub three_each : (faults : List RowFault) → length (flat_map fault_words faults) / 3 ≡ length faults
three_each faults = let e = three_words faults in omega (arith, e)
