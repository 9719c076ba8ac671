-- Moves to and from the neighbour along an axis. D is the destination, A the source, X the axis, L a length.
use Rattle.std.specs.Prelude.{ℕ, List}
use Rattle.paris_names.specs.declared.keys.Key.{Key}
use Rattle.paris_geometry.specs.declared.direction.Direction.{Direction}
use Rattle.paris_geometry.specs.Geometry.{neighbour, opposite}
use Rattle.paris_model.specs.declared.actions.Operand.{Operand}
use Rattle.paris_model.specs.declared.actions.News.{News}
use Rattle.paris_model.specs.declared.actions.News.TheVariants.{Get, Send}
use Rattle.paris_model.specs.Frame.{Frame, low_at, is_selected, put_where, put_selected}

abbrev pub news_target : News Operand → Operand
news_target (Get D A X direction L) = D
news_target (Send D A X direction L) = D

abbrev pub news_source : News Operand → Operand
news_source (Get D A X direction L) = A
news_source (Send D A X direction L) = A

-- the processor whose value r gets of a send in the direction: the one whose neighbour r is
abbrev pub news_sender : List ℕ → ℕ → Direction → ℕ → ℕ
news_sender axes X direction r = neighbour axes X (opposite direction) r

-- the destination's numbers after it: a get goes by the receiver's context, and a send by that of its sender
abbrev pub news_after : Frame → News Operand → Key → List ℕ
news_after m (Get D A X direction L) k = put_selected m k L (λ v. low_at m A L (neighbour m.axes X direction v))
news_after m (Send D A X direction L) k =
    put_where m (λ r. is_selected m (news_sender m.axes X direction r)) k L (λ r. low_at m A L (news_sender m.axes X direction r))
