-- Where no segment begins, nothing is cut.
use Rattle.std.proofs.Common.{◌≡◌, ℕ, Bool, false, List, [], ◌∷◌, length, Some, None, inl, inr, refl, sym, ap, ◌∙◌}
use Rattle.std.specs.Prelude.{◌==◌, ◌||◌, ◌&&◌, not}
use Rattle.std.specs.List.{list_any}
use Rattle.std.proofs.lemmas.Bool.{cases_lt}
use Rattle.std.proofs.lemmas.List.{get_or_past}
use Rattle.paris_names.specs.declared.keys.Key.TheVariants.{Field}
use Rattle.paris_geometry.specs.declared.direction.Direction.{Direction}
use Rattle.paris_geometry.specs.Geometry.{line_until}
use Rattle.paris_model.specs.declared.operators.Combiner.{Combiner}
use Rattle.paris_model.specs.declared.operators.Inclusion.{Inclusion}
use Rattle.paris_model.specs.declared.operators.Inclusion.TheVariants.{Inclusive}
use Rattle.paris_model.specs.declared.actions.Operand.{Operand}
use Rattle.paris_model.specs.declared.actions.Line.TheVariants.{Scan, CopyScan}
use Rattle.paris_model.specs.Frame.{Frame, is_selected, low_at}
use Rattle.paris_model.specs.Lines.{from_last, is_inclusive, values_where, scan_values, begins_segment, combined_values}
use Rattle.paris_model.specs.Laws.{IsOneNowhere}

none_begins : (begins : ℕ → Bool) → ((u : ℕ) → begins u ≡ false) → (us : List ℕ) → list_any begins us ≡ false
none_begins begins none [] = refl
none_begins begins none (u ∷ us) = simp (none u, none_begins begins none us)

from_last-none : (begins : ℕ → Bool) → ((u : ℕ) → begins u ≡ false) → (us : List ℕ) → from_last begins us ≡ us
from_last-none begins none [] = refl
from_last-none begins none (u ∷ us) = simp (none_begins begins none us)

scan_uncut : (axes : List ℕ) (X : ℕ) (direction : Direction) (kind : Inclusion) (begins selected : ℕ → Bool) (value : ℕ → ℕ) (v : ℕ) → ((u : ℕ) → begins u ≡ false) → scan_values axes X direction kind begins selected value v ≡ scan_values axes X direction kind (λ u. false) selected value v
scan_uncut axes X direction kind begins selected value v none =
    ap (λ us. values_where (λ u. selected u && (is_inclusive kind || not (u == v))) value us)
    (from_last-none begins none (line_until axes X direction v) ∙ sym (from_last-none (λ u. false) (λ u. refl) (line_until axes X direction v)))

-- a field that is 1 nowhere begins no segment
begins_none : (m : Frame) (G : Operand) → IsOneNowhere m G → (u : ℕ) → begins_segment m (Some G) u ≡ false
begins_none m G nowhere u =
    elim (cases_lt u (length (m.world (Field G.field)))) [
      | inl within ↦ nowhere u 0 within
      | inr beyond ↦ ap (λ x. x == 1) (get_or_past (m.world (Field G.field)) u 0 beyond)
    ]

pub scan_is_uncut : (m : Frame) (op : Combiner) (D A G : Operand) (X L : ℕ) (direction : Direction) (kind : Inclusion) (v : ℕ) → IsOneNowhere m G → combined_values m (Scan op D A X L direction kind (Some G)) v ≡ combined_values m (Scan op D A X L direction kind None) v
scan_is_uncut m op D A G X L direction kind v nowhere = scan_uncut m.axes X direction kind (begins_segment m (Some G)) (is_selected m) (low_at m A L) v (begins_none m G nowhere)

pub copy_scan_is_uncut : (m : Frame) (D A G : Operand) (X L : ℕ) (direction : Direction) (v : ℕ) → IsOneNowhere m G → combined_values m (CopyScan D A X L direction (Some G)) v ≡ combined_values m (CopyScan D A X L direction None) v
copy_scan_is_uncut m D A G X L direction v nowhere = scan_uncut m.axes X direction Inclusive (begins_segment m (Some G)) (is_selected m) (low_at m A L) v (begins_none m G nowhere)
