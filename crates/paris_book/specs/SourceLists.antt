-- Sources of values, and when two of them name the same value.
use Rattle.std.specs.Prelude.{◌≡◌, ℕ, ◌==◌, List, Bool, true, false, ◌&&◌, Some, replicate, slice_get}
use Rattle.paris_book.specs.declared.sources.Source.{Source}
use Rattle.paris_book.specs.declared.sources.Source.TheVariants.{Unknown, Input as FromInput, Row as FromRow}

abbrev pub is_known : Source → Bool
is_known Unknown = false
is_known (FromInput n) = true
is_known (FromRow id edition) = true

-- whether two sources are known and the same
abbrev pub same_source : Source → Source → Bool
same_source Unknown t = false
same_source (FromInput n) Unknown = false
same_source (FromInput n) (FromInput m) = n == m
same_source (FromInput n) (FromRow id edition) = false
same_source (FromRow id edition) Unknown = false
same_source (FromRow id edition) (FromInput m) = false
same_source (FromRow id edition) (FromRow j other) = (id.0 == j.0) && (edition.0 == other.0)

-- no source is known
abbrev pub no_sources : List Source
no_sources = replicate 8 Unknown

-- at a place of a list there is this source, and it is known
abbrev pub IsKnownAt : List Source → ℕ → Source → Type 0
IsKnownAt xs i s = (slice_get xs i ≡ Some s) × (is_known s ≡ true)
