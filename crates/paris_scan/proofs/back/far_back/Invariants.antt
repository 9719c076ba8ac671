use Rattle.std.proofs.Common.{◌≡◌, length, get_or}
use Rattle.paris_field.specs.Numbers.{has}
use Rattle.paris_scan.specs.Running.{value_before}
use Rattle.paris_scan.proofs.OneByOne.{Walked, returned}
use Rattle.paris_scan.proofs.back.far_back.Given as goal

abbrev pub invariant-loop-place : goal.invariant-loop-place
invariant-loop-place l = record {
  count : length l.words ≡ length l.fn.words;
  moved : Walked (length l.fn.words) (returned l.steps.direction (length l.fn.words)) l.place (value_before l.none l.steps.direction l.steps.by (has l.steps.begins) (λ v. get_or l.fn.words v 0)) (λ v. get_or l.fn.words v 0) 0 l.words;
}
