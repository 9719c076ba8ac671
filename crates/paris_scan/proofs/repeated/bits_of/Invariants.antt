-- The bits so far.
use Rattle.std.proofs.Common.{◌≡◌, ◌^◌, ◌/◌, ◌%◌, eqb, map, take}
use Rattle.paris_scan.proofs.repeated.bits_of.Given as goal

abbrev pub invariant-loop-number : goal.invariant-loop-number
invariant-loop-number l = l.bits.items ≡ map (λ x. eqb (x / 2 ^ l.k % 2) 1) (take l.number-index l.numbers)
