use Rattle.std.proofs.Common.{◌≡◌, ◌∙◌, ap, length}
use Rattle.paris_events.specs.CutOff.{cut_off}
use Rattle.paris_book.specs.Marks.{ids_in}
use Rattle.paris_book.specs.Touched.{cut_listed}
use Rattle.paris_book.proofs.MostRead.{reads_rise, touched_behind}
use Rattle.paris_book.proofs.loose.Loose.insert.Goals as goal

pub returns-clause-read : goal.returns-clause-read
returns-clause-read c =
    let off : c.cut_listed.new.self ≡ cut_off c.insert_plan.new.self = c.cut_listed.ensures ∙ ap (λ js. cut_listed (ids_in js) c.insert_plan.new.self) c.as_slice.ensures.value ∙ c.in_ok-id.ensures.enough in
    reads_rise c.args.looks.now c.insert_plan.new.looks (length c.in_ok-id.ids.items) _ c.in_ok-id.ensures.read (touched_behind c.args.self.now.edits (length c.in_ok-id.ids.items) c.insert_plan.new.self c.cut_listed.new.self c.in_ok-id.ensures.touched off)
