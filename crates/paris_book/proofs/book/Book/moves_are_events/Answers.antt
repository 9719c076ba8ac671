use Rattle.paris_events.specs.Plays.{start_of}
use Rattle.paris_book.proofs.Playing.{moves_are_events}
use Rattle.paris_book.proofs.book.Book.moves_are_events.Goals as goal

pub returns : goal.returns
returns c moves = moves_are_events (start_of c.args.self.now) moves
