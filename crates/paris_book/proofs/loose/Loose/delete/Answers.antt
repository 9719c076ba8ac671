use Rattle.std.proofs.Common.{◌≡◌, ◌∙◌, ap, length}
use Rattle.paris_events.specs.CutOff.{cut_off}
use Rattle.paris_book.specs.Marks.{ids_in}
use Rattle.paris_book.specs.Touched.{cut_listed}
use Rattle.paris_book.proofs.MostRead.{reads_rise, touched_behind}
use Rattle.paris_book.proofs.loose.Loose.delete.Goals as goal

pub returns-clause-read : goal.returns-clause-read
returns-clause-read c =
    let off : c.cut_listed.new.self ≡ cut_off c.take_out.new.self = c.cut_listed.ensures ∙ ap (λ js. cut_listed (ids_in js) c.take_out.new.self) c.as_slice.ensures.value ∙ c.in_ok-ids.ensures.enough in
    reads_rise c.args.looks.now c.take_out.new.looks (length c.in_ok-ids.ids.items) _ c.in_ok-ids.ensures.read (touched_behind c.args.self.now.edits (length c.in_ok-ids.ids.items) c.take_out.new.self c.cut_listed.new.self c.in_ok-ids.ensures.touched off)
