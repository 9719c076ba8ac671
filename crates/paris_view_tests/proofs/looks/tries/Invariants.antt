use Rattle.paris_view_tests.proofs.looks.tries.Given as goal

abbrev pub ghosts-opens-L-Ledger : goal.ghosts-opens-L-Ledger
ghosts-opens-L-Ledger g a = record { name = a.opening.blank.name; parts = a.opening.blank.parts }

abbrev pub ghosts-opens-L-Office : goal.ghosts-opens-L-Office
ghosts-opens-L-Office g a = record { seats = a.seats; limit = a.limit; profile = a.profile; log = a.opening.seen.book }
