use Rattle.paris_parts.proofs.run.run_parts.Given as goal

abbrev pub ghosts-play_all-L-Ledger : goal.ghosts-play_all-L-Ledger
ghosts-play_all-L-Ledger g a = record { name = a.opening.blank.name; parts = a.opening.blank.parts }

abbrev pub ghosts-play_all-L-Office : goal.ghosts-play_all-L-Office
ghosts-play_all-L-Office g a = record { seats = a.seats; limit = a.limit; profile = a.profile; log = a.opening.seen.book }
