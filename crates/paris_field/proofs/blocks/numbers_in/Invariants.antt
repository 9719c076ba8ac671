use Rattle.std.proofs.Common.{◌≡◌, ◌*◌, min}
use Rattle.paris_field.specs.Numbers.{numbers}
use Rattle.paris_field.proofs.blocks.numbers_in.Given as goal

abbrev pub invariant-loop-block : goal.invariant-loop-block
invariant-loop-block l = l.list.items ≡ numbers (min (64 * l.block) l.vps) l.layers
