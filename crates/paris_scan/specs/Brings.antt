-- What comes to a processor from another one.
use Rattle.std.specs.Prelude.{ℕ, ◌+◌, ◌^◌, ◌<◌, ◌≡◌, false, true, List, Bool, slice_index_or, length}
use Rattle.std.specs.Int.{IsPowerOfTwo}
use Rattle.paris_plane.specs.Digits.{digit}
use Rattle.paris_field.specs.Numbers.{number_at}
use Rattle.paris_scan.specs.declared.partner.Partner.{Partner}
use Rattle.paris_scan.specs.declared.partner.Partner.TheVariants.{Before, Across}
use Rattle.paris_scan.specs.Runs.{Reaches, before}

-- n processors have such partners
abbrev pub Among : ℕ → Partner → Type 0
Among n (Before direction by begun) = length begun.now ≡ n
Among n (Across distance) = IsPowerOfTwo distance

-- x may come to v, one of n processors, from its partner's of what they hold, or it is `none` where a segment began
abbrev pub Brings : {X : Type 0} → X → Partner → ℕ → (ℕ → X) → ℕ → X → Type 0
Brings none (Before direction by begun) n held v x =
    (slice_index_or begun.now v false ≡ true → x ≡ none) × (slice_index_or begun.now v false ≡ false → Reaches direction by n v → x ≡ held (before direction by v))
Brings none (Across distance) n held v x =
    (digit distance v ≡ 0 → v + distance < n → x ≡ held (v + distance)) × ((u : ℕ) → digit distance u ≡ 0 → v ≡ u + distance → x ≡ held u)

-- a number that comes to v, of planes of which there are k, and the number that v holds there make this sum
abbrev pub SumBrought : Partner → ℕ → List (List Bool) → ℕ → ℕ → ℕ → Type 0
SumBrought partner n planes k v total = (x : ℕ) × ((Brings 0 partner n (number_at planes) v x) × ((x < 2 ^ k) × (total ≡ x + number_at planes v)))
