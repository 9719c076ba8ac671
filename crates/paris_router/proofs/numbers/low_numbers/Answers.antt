use Rattle.std.proofs.Common.{◌<◌, ◌^◌, ◌∙◌, ap, map, subst, sym, All}
use Rattle.paris_model.specs.Store.{low}
use Rattle.paris_plane.proofs.Bits.{written}
use Rattle.paris_router.proofs.Fetched.{cut_everywhere, cut_fit}
use Rattle.paris_router.proofs.numbers.low_numbers.Goals as goal

pub returns-clause-value : goal.returns-clause-value
returns-clause-value c =
    written _ c.keep_low.new.numbers _ (c.keep_low.auto.numbers ∙ c.deref_mut.ensures.len)
    ∙ c.keep_low.ensures ∙ ap (map (low c.args.bits)) (c.deref_mut.ensures.value ∙ c.in_ok-numbers.ensures.value)
    ∙ cut_everywhere c.args.bits c.args.x.now.numbers

pub returns-clause-fit : goal.returns-clause-fit
returns-clause-fit c =
    subst (λ l. All (λ x. x < 2 ^ c.args.bits) l)
    (sym (written _ c.keep_low.new.numbers _ (c.keep_low.auto.numbers ∙ c.deref_mut.ensures.len) ∙ c.keep_low.ensures))
    (cut_fit c.args.bits c.deref_mut.result.now)
