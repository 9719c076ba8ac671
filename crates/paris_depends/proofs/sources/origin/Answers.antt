use Rattle.std.proofs.Common.{ℕ, List, ◌∙◌, sym, ap, arith}
use Rattle.std.specs.List.{filter}
use Rattle.std.specs.Map.{keys_of}
use Rattle.paris_depends.specs.Index.{Footprint, writes_key}
use Rattle.paris_depends.specs.Places.{count_to}
use Rattle.paris_depends.specs.Sides.{entry_before}
use Rattle.paris_depends.proofs.LastWriter.{origin_is}
use Rattle.paris_depends.proofs.sources.origin.Goals as goal

pub returns-clause-value : goal.returns-clause-value
returns-clause-value g c = λ plan same.
    c.look_around.ensures.last
    ∙ ap (entry_before _) c.look_around.ensures.before
    ∙ ap (λ (rows : List (ℕ × Footprint)). entry_before (keys_of (filter (writes_key c.args.key) rows)) (count_to (writes_key c.args.key) rows c.args.place)) (sym same)
    ∙ sym (origin_is plan c.args.key c.args.program.now.rows c.args.place)

pub returns-clause-looks : goal.returns-clause-looks
returns-clause-looks g c = λ few. c.look_around.ensures.looks 13 (omega arith)
