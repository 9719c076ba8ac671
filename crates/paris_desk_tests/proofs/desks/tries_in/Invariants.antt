use Rattle.paris_desk_tests.proofs.desks.tries_in.Given as goal

abbrev pub ghosts-opens-L-Ledger : goal.ghosts-opens-L-Ledger
ghosts-opens-L-Ledger g a = record { name = a.opening.blank.name; parts = a.opening.blank.parts }

abbrev pub ghosts-opens-L-Office : goal.ghosts-opens-L-Office
ghosts-opens-L-Office g a = record { seats = a.size.0; limit = a.size.1; profile = a.profile; log = a.opening.seen.book }
