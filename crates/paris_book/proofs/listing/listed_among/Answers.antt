use Rattle.std.proofs.Common.{◌≡◌, List, [], ◌∷◌, ◌++◌, sym, ap, ◌∙◌, arith, length, take}
use Rattle.std.proofs.Math.Seq.{take-length}
use Rattle.paris_book.specs.Among.{looks_kept}
use Rattle.paris_edits.specs.declared.rows.RowLook.{RowLook}
use Rattle.paris_book.specs.Entries.{Entry}
use Rattle.paris_book.proofs.Listed.{looks_more}
use Rattle.paris_book.proofs.listing.listed_among.Goals as goal

pub loop-place-preserved : goal.loop-place-preserved
loop-place-preserved c =
    let rows = c.args.rows.now.rows in
    let i = c.loop-place.place in
    let r : Entry = (c.at.result.0.0, c.at.result.1.now) in
    let more = looks_more rows i r c.at.ensures.value in
    c.in_ok-extend_from_slice.ensures.items
    ∙ ap (λ (look : RowLook). c.loop-place.looks.items ++ look ∷ []) c.listed.ensures
    ∙ ap (λ (looks : List RowLook). looks ++ looks_kept (r ∷ [])) c.loop-place.invariant
    ∙ sym more

pub returns : goal.returns
returns c =
    let rows = c.args.rows.now.rows in
    let last : c.loop-place.place ≡ length rows = omega arith in
    c.loop-place.invariant ∙ ap looks_kept (ap (λ k. take k rows) last ∙ take-length rows)
