use Rattle.std.proofs.Common.{ap, ◌∙◌}
use Rattle.std.specs.Prelude.{insert}
use Rattle.paris_names.specs.declared.ids.RowId.{RowId}
use Rattle.paris_depends.specs.ListsInside.{numbers}
use Rattle.paris_depends.proofs.Slots.{map-insert}
use Rattle.paris_depends.proofs.id_list.IdList.put.Goals as goal

pub returns : goal.returns
returns c =
    let same = ap (λ v. numbers v.items) c.get_mut.ensures.value in
    ap numbers c.in-Ok.ensures.items ∙ map-insert (λ (id : RowId). id.0) c.get_mut.result.now.items c.args.i c.args.id ∙ ap (λ l. insert l c.args.i c.args.id.0) same
