use Rattle.std.proofs.Common.{◌≡◌, ◌∙◌, Option, Some, None, refl, ap}
use Rattle.std.specs.Prelude.{is_some}
use Rattle.std.specs.Option.{option_map}
use Rattle.paris_exec.specs.Tasks.{Task}
use Rattle.paris_events.specs.Orders.{take_reply}
use Rattle.paris_book.proofs.book.Book.has_ready.Goals as goal

mapped : (o : Option Task) → is_some (option_map (λ (t : Task). t.id) o) ≡ is_some o
mapped None = refl
mapped (Some t) = refl

pub returns : goal.returns
returns c = c.is_some.ensures ∙ ap is_some c.ready_row.ensures ∙ mapped (take_reply c.self.inside.loose) ∙ ap (λ s. is_some (take_reply s)) c.self.view_is
