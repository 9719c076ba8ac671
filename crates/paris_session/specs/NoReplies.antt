-- What is left of a session where memory was refused, so that a line has no reply.
use Rattle.std.specs.Prelude.{◌≡◌, ℕ}
use Rattle.paris_book.specs.Stopped.{IsStopped}
use Rattle.paris_session.specs.declared.answers.NoReply.{NoReply}
use Rattle.paris_session.specs.declared.answers.NoReply.TheVariants.{Unchanged, Partly}
use Rattle.paris_session.specs.declared.asked.Asked.{Asked}
use Rattle.paris_session.specs.declared.asked.Asked.TheVariants.{Settle}
use Rattle.paris_session.specs.Transcript.{Sitting, with_book}

-- the session is as it was. At `settle` alone its book may be settled in part, and all else is as it was
abbrev pub IsLeft : NoReply → Sitting → Sitting → Asked → Type 0
IsLeft Unchanged old new asked = new ≡ old
IsLeft Partly old new asked =
    (asked ≡ Settle) × (new ≡ with_book old new.state old.hand.tray) × (ran : ℕ) × IsStopped ran old.state new.state
