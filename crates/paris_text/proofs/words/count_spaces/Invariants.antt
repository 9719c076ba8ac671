use Rattle.std.proofs.Common.{◌≡◌, take, nat_eq}
use Rattle.std.specs.List.{count_by}
use Rattle.paris_text.proofs.words.count_spaces.Given as goal

abbrev pub invariant-loop-byte : goal.invariant-loop-byte
invariant-loop-byte l = l.count ≡ count_by (λ b. nat_eq b 32) (take l.byte-index l.bytes)
