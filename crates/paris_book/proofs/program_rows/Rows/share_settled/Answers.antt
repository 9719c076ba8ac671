use Rattle.std.proofs.Common.{List, sym, ◌∙◌, subst}
use Rattle.paris_program.specs.Program.{NoneWithin}
use Rattle.paris_book.specs.Entries.{Entry}
use Rattle.paris_book.specs.Indexed.{IsIndexed, is_unsettled_entry}
use Rattle.paris_book.specs.SharedIndexes.{indexed_in}
use Rattle.paris_book.proofs.Holding.{none_outside}
use Rattle.paris_book.proofs.program_rows.Rows.share_settled.Goals as goal

pub invariant_of-self : goal.invariant_of-self
invariant_of-self c =
    let ends = c.ends-start.result in
    let none = none_outside c.self.inside.program (indexed_in c.self.inside.index) c.self.inside.statuses c.self.invariant ends.0 ends.1 c.ends-start.ensures c.len.result in
    let same = c.share.ensures.rows in
    record {
      listed = subst (λ (l : List Entry). IsIndexed l (indexed_in c.self.inside.index) c.self.inside.statuses) (sym (c.share-2.ensures.rows ∙ same)) c.self.invariant.listed;
      own = c.share-2.ensures.own is_unsettled_entry (subst (λ (l : List Entry). NoneWithin ends.1 c.len.result l is_unsettled_entry) (sym same) none.1) (c.share.ensures.own is_unsettled_entry none.0 c.self.invariant.own);
    }
