-- The lines that are left choose what all lines choose.
use Rattle.std.proofs.Common.{◌≡◌, drop, map}
use Rattle.paris_parts.specs.Beginning.{profile_of}
use Rattle.paris_parts.proofs.choosing.profile_of.Given as goal

abbrev pub invariant-loop-line : goal.invariant-loop-line
invariant-loop-line l = profile_of (map (λ line. line.items) (drop l.line-index l.lines)) ≡ profile_of l.fn.part
