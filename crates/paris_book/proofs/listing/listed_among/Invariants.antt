-- The rows so far, as they are listed.
use Rattle.std.proofs.Common.{◌≡◌, take}
use Rattle.paris_book.specs.Among.{looks_kept}
use Rattle.paris_book.proofs.listing.listed_among.Given as goal

abbrev pub invariant-loop-place : goal.invariant-loop-place
invariant-loop-place l = l.looks.items ≡ looks_kept (take l.place l.rows.rows)
