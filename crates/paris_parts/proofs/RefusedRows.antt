-- The rows of a list that are refused, row by row.
use Rattle.std.proofs.Common.{◌≡◌, ℕ, ◌+◌, ◌<◌, List, ◌∷◌, ◌++◌, length, get_or, drop, sym, ap, ◌∙◌, append_assoc, add-one, drop-cons}
use Rattle.paris_edits.specs.declared.rows.RowFault.{RowFault}
use Rattle.paris_edits.specs.declared.rows.RowLook.{RowLook}
use Rattle.paris_events.specs.Lists.{fault_by}
use Rattle.paris_session.specs.Hands.{faults_among}

-- the row of a list that comes next, refused or not
pub fault_next : (looks : List RowLook) (i : ℕ) (look : RowLook) (done more : List RowFault) (out : List RowFault) → i < length looks → look ≡ get_or looks i look
    → more ≡ done ++ fault_by look.id look.cause → done ++ faults_among (drop i looks) ≡ out → more ++ faults_among (drop (i + 1) looks) ≡ out
fault_next looks i look done more out within is added same =
    let first : drop i looks ≡ look ∷ drop (i + 1) looks = (rw add-one (drop-cons looks i look within)) ∙ ap (λ (l : RowLook). l ∷ drop (i + 1) looks) (sym is) in
    ap (λ (l : List RowFault). l ++ faults_among (drop (i + 1) looks)) added
    ∙ append_assoc done (fault_by look.id look.cause) (faults_among (drop (i + 1) looks))
    ∙ ap (λ (l : List RowLook). done ++ faults_among l) (sym first) ∙ same
