use Rattle.std.proofs.Common.{ℕ, List, ◌∙◌, ap, slice_get}
use Rattle.paris_program.specs.Program.{IsOwnRow}
use Rattle.paris_depends.proofs.Places.{nat_eq-self}
use Rattle.paris_tests.proofs.Indexed.{held_on}
use Rattle.paris_tests.proofs.programs.raise_at.Goals as goal

pub at_mut-row-requires : goal.at_mut-row-requires
at_mut-row-requires g c =
    let own : IsOwnRow c.own.new.self c.at.result.0.0 = held_on c.own.result c.ok.result c.expect.result (IsOwnRow c.own.new.self c.at.result.0.0) c.ok.ensures.value c.expect.ensures c.own.ensures.ok in
    own c.args.place (c.at.result.0.0, c.at.result.1.now) (ap (λ (l : List (ℕ × ℕ)). slice_get l c.args.place) c.own.ensures.rows ∙ c.at.ensures.value) (nat_eq-self c.at.result.0.0)
