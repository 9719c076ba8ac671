use Rattle.paris_model.proofs.Stores.{push_everywhere}
use Rattle.paris_plain.proofs.lines.field_after.Goals as goal

pub loop-v-preserved : goal.loop-v-preserved
loop-v-preserved c =
    push_everywhere _ _ c.loop-v.v _ _ c.loop-v.invariant c.in_ok-push.ensures.items (cc (c.stored_at.ensures, c.stores-stores.ensures, c.line_length.ensures, c.in_ok-new.ensures))
