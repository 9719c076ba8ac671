use Rattle.std.proofs.Common.{ap, ◌∙◌}
use Rattle.std.specs.Prelude.{remove}
use Rattle.paris_names.specs.declared.ids.RowId.{RowId}
use Rattle.paris_depends.specs.ListsInside.{numbers}
use Rattle.paris_depends.proofs.Slots.{map-remove}
use Rattle.paris_depends.proofs.id_list.IdList.take_out.Goals as goal

pub returns-clause-ids : goal.returns-clause-ids
returns-clause-ids c =
    let same = ap (λ v. numbers v.items) c.get_mut.ensures.value in
    ap numbers c.remove-id.ensures.items ∙ map-remove (λ (id : RowId). id.0) c.get_mut.result.now.items c.args.i ∙ ap (λ l. remove l c.args.i) same
