-- States after events are at rest.
use Rattle.std.proofs.Common.{◌≡◌, ℕ, List, [], ◌∷◌}
use Rattle.paris_events.specs.State.{State, empty_state}
use Rattle.paris_events.specs.CutOff.{cut_off}
use Rattle.paris_events.proofs.Passes.{AtRest}
use Rattle.paris_events.specs.Events.{after, after_all}
use Rattle.paris_events.specs.declared.events.Event.{Event}
use Rattle.paris_events.specs.declared.events.Event.TheVariants.{Edit, Take, Bring, Release, Show, List as ListRows}
use Rattle.paris_events.proofs.Rests.{off_stays, empty_rests, take_rests, release_rests, bring_rests, edit_rests}

pub after_rests : (s : State) (e : Event) → AtRest s → AtRest (after s e)
after_rests s (Edit e) h = edit_rests s e h
after_rests s Take h = take_rests s h
after_rests s (Bring t) h = bring_rests s t h
after_rests s Release h = release_rests s h
after_rests s (Show name spot) h = h
after_rests s ListRows h = h

pub all_rest : (s : State) (es : List Event) → AtRest s → AtRest (after_all s es)
all_rest s [] h = h
all_rest s (e ∷ es) h = all_rest (after s e) es (after_rests s e h)

-- so after each event of any list, from the empty book on, one more pass changes nothing
pub pass_after_each : (n : ℕ) (es : List Event) → cut_off (after_all (empty_state n) es) ≡ after_all (empty_state n) es
pass_after_each n es = off_stays (after_all (empty_state n) es) (all_rest (empty_state n) es (empty_rests n))
