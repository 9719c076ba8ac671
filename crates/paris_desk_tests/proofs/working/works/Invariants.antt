use Rattle.paris_names.specs.declared.profiles.Profile.TheVariants.{One}
use Rattle.paris_desk_tests.proofs.working.works.Given as goal

abbrev pub ghosts-opens-L-Ledger : goal.ghosts-opens-L-Ledger
ghosts-opens-L-Ledger g a = record { name = a.opening.blank.name; parts = a.opening.blank.parts }

abbrev pub ghosts-opens-L-Office : goal.ghosts-opens-L-Office
ghosts-opens-L-Office g a = record { seats = a.seats; limit = a.limit; profile = One; log = a.opening.seen.book }
