use Rattle.std.proofs.Common.{◌≡◌, sym, None, Some, Err, refl}
use Rattle.paris_text.specs.Words.{axes_word}
use Rattle.paris_text.specs.Kinds.Kind.{AxesWord}
use Rattle.paris_text.specs.Reading.{word_at, kind_at, place}
use Rattle.paris_text.specs.Room.{axes_room}
use Rattle.paris_text.proofs.PlaceLemmas.{no_next_word}
use Rattle.paris_text.proofs.RefusalLemmas.{column_given}
use Rattle.paris_text.proofs.RoomLemmas.{axes_known, axes_unknown, axes_read, axes_fail, last_fails, last_goes_on, last_reads}
use Rattle.paris_text.proofs.reader.last_axes.Goals as goal

pub returns-in_err-word : goal.returns-in_err-word
unfolding word_at kind_at
returns-in_err-word c =
    let p = place c.args.line.now c.args.at in
    let e = c.in_err-word.field-0.0.0 in
    let stops : kind_at AxesWord p ≡ Err e = no_next_word axes_word p e c.in_err-word.ensures.gives in
    column_given _ c.from_residual.result _ e c.from_residual.ensures.1 (last_fails p e stops)

pub returns-in_default : goal.returns-in_default
returns-in_default c =
    let line = c.args.line.now in
    let w = c.in_ok-word.word.now in
    let none : axes_room w ≡ None = cc in
    rw (last_fails (place line c.args.at) _ (axes_fail line c.args.at w _ c.in_ok-word.ensures.gives (axes_unknown w none))) refl

pub returns-in_err-line_end : goal.returns-in_err-line_end
returns-in_err-line_end c =
    let line = c.args.line.now in
    let w = c.in_ok-word.word.now in
    let p = place line c.args.at in
    let e = c.in_err-line_end.field-0.0.0 in
    let some : axes_room w ≡ Some c.in-Some.count = cc in
    let known = axes_known w c.in-Some.count some in
    let here = axes_read p w (place line c.in_ok-word.next) known.0 c.in_ok-word.ensures.gives known.1 in
    column_given _ c.from_residual-in_err-line_end.result _ e c.from_residual-in_err-line_end.ensures.1 (last_goes_on p _ known.0 e here c.in_err-line_end.ensures)

pub returns-in-Ok-Some : goal.returns-in-Ok-Some
returns-in-Ok-Some c =
    let line = c.args.line.now in
    let w = c.in_ok-word.word.now in
    let p = place line c.args.at in
    let is : axes_word w ≡ Some c.in-Ok-Some.axes = sym (rw c.in-Ok-Some.field-0-is at c.in-Ok-Some.ensures) in
    let here = axes_read p w (place line c.in_ok-word.next) c.in-Ok-Some.axes c.in_ok-word.ensures.gives is in
    last_reads p _ c.in-Ok-Some.axes here c.in_ok-line_end.ensures

pub returns-in-Err : goal.returns-in-Err
returns-in-Err c =
    let line = c.args.line.now in
    let w = c.in_ok-word.word.now in
    let p = place line c.args.at in
    let some : axes_room w ≡ Some c.in-Some.count = cc in
    let known = axes_known w c.in-Some.count some in
    let here = axes_read p w (place line c.in_ok-word.next) known.0 c.in_ok-word.ensures.gives known.1 in
    rw (last_reads p _ known.0 here c.in_ok-line_end.ensures) refl
