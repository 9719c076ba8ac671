use Rattle.std.proofs.Common.{ℕ, List, arith, length, sym, ap, ◌∙◌}
use Rattle.std.proofs.lemmas.Result.{IfOk-weaker}
use Rattle.paris_program.specs.Program.{ids_of}
use Rattle.paris_depends.specs.Index.{Footprint}
use Rattle.paris_depends.proofs.CallerLemmas.{ids-footprints, few_looks}
use Rattle.paris_book.specs.Marks.{data_plan}
use Rattle.paris_book.proofs.MostRead.{reads_few}
use Rattle.paris_book.proofs.program_rows.Rows.affected.Goals as goal

pub affected-requires-clause-of : goal.affected-requires-clause-of
affected-requires-clause-of c = sym (ids-footprints data_plan c.self.inside.program.rows) ∙ ap (λ (l : List (ℕ × Footprint)). ids_of l) (c.self.invariant.listed.indexed ∙ sym c.get.ensures)

pub affected-requires-clause-few : goal.affected-requires-clause-few
affected-requires-clause-few c =
    let most = few_looks (length c.args.keys.now) (length c.self.inside.program.rows) c.requires.few c.self.invariant.listed.few in
    omega (arith, c.requires.looks, most)

pub returns-clause-ids : goal.returns-clause-ids
returns-clause-ids c = rw (← c.self.view_is) (IfOk-weaker c.affected.result _ _ (λ ids touched. touched data_plan (c.self.invariant.listed.indexed ∙ sym c.get.ensures)) c.affected.ensures.touched)

pub returns-clause-read : goal.returns-clause-read
returns-clause-read c =
    IfOk-weaker c.affected.result _ _
    (λ ids read. reads_few c.args.looks.now c.affected.new.looks (length c.args.keys.now) (length ids.items) c.requires.few (read c.self.invariant.listed.few))
    c.affected.ensures.looks
