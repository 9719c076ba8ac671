-- The fields so far are copied.
use Rattle.std.proofs.Common.{◌≡◌, take}
use Rattle.paris_book.proofs.snapshot.copies_of_fields.Given as goal

abbrev pub invariant-loop-input : goal.invariant-loop-input
invariant-loop-input l = l.copies.items ≡ take l.input-index l.fields
