use Rattle.std.proofs.Common.{◌≡◌, ◌∙◌, ap, length, map, slice_index, slice_index_or, false, true, Bool, List}
use Rattle.std.proofs.lemmas.List.{get_or-replicate}
use Rattle.std.specs.Prelude.{not}
use Rattle.paris_model.specs.Store.{low, stored}
use Rattle.paris_field.specs.Numbers.{number_at}
use Rattle.paris_field.proofs.Values.{all_fit}
use Rattle.paris_exec.proofs.Puts.{full_is, kept_is}
use Rattle.paris_exec.proofs.planes.keep_others.Goals as goal

pub returns : goal.returns
returns c =
    let wide : length c.planes.result.now ≡ c.args.old.now.width = c.planes.ensures.count ∙ c.requires.width in
    kept_is c.args.selected.now c.not_in.new.self c.args.old.now c.args.new c.merge_in.new.self c.low-kept.result.now c.requires.mask c.requires.width c.requires.count c.low-kept.ensures.fit
    (all_fit (length c.args.new.numbers) c.planes.result.now c.planes.ensures.value)
    (c.not_in.ensures ∙ ap (map not) c.in_ok-others.ensures)
    (λ v below. c.low-kept.ensures.at v below ∙ ap (λ w. low w (slice_index c.args.old.now.numbers v)) wide)
    c.merge_in.ensures.width
    (c.in_ok-merge_in.ensures.numbers ∙ ap (λ w. stored (length c.args.new.numbers) (λ v. slice_index_or c.not_in.new.self v false) (slice_index c.args.new.numbers) w (number_at c.low-kept.result.now)) wide)

pub returns-then-is_all : goal.returns-then-is_all
returns-then-is_all c =
    full_is c.args.selected.now c.args.old.now c.args.new c.requires.mask c.requires.width c.requires.count c.low-kept.ensures.fit
    (all_fit (length c.args.new.numbers) c.planes.result.now c.planes.ensures.value)
    (λ v below. ap (λ (bs : List Bool). slice_index_or bs v false) (c.is_all.ensures.0 c.if-is_all.true) ∙ get_or-replicate (length c.args.selected.now) v true false below)
