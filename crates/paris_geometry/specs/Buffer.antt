-- A buffer of four, filled with zeros.
use Rattle.std.specs.Prelude.{ℕ, ◌-◌, List, ◌++◌, length, replicate}

-- the lengths of the axes in their buffer
abbrev pub axes_buffer : List ℕ → List ℕ
axes_buffer axes = axes ++ replicate (4 - length axes) 0
