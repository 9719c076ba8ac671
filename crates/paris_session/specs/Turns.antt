-- What a session is once it ran orders itself.
use Rattle.std.specs.Prelude.{ℕ, zero, suc}
use Rattle.paris_events.specs.Settling.{ran_orders}
use Rattle.paris_session.specs.Transcript.{Sitting, with_book}

-- the session after so many orders were run; it is as it was where none was
abbrev pub after_runs : ℕ → Sitting → Sitting
after_runs zero s = s
after_runs (suc n) s = with_book s (ran_orders (suc n) s.state) s.hand.tray
