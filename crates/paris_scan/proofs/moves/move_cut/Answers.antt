use Rattle.std.proofs.Common.{◌∙◌, ap, sym, arith, length, get_or, false, subst, refl}
use Rattle.paris_scan.specs.Runs.{Reaches}
use Rattle.paris_scan.proofs.Carried.{without, without_at, without_long}
use Rattle.paris_scan.proofs.moves.move_cut.Goals as goal

pub returns-clause-long : goal.returns-clause-long
returns-clause-long c =
    without_long (length c.args.begun.now) c.move_plane.new.out c.args.begun.now c.put.new.self (c.move_plane.ensures.long ∙ c.requires.out) refl c.put.ensures

pub returns-clause-cut : goal.returns-clause-cut
returns-clause-cut c =
    λ v h b.
    without_at (length c.args.begun.now) v c.move_plane.new.out c.args.begun.now c.put.new.self (c.move_plane.ensures.long ∙ c.requires.out) refl c.put.ensures h
    ∙ ap (without (get_or c.move_plane.new.out v false)) b

pub returns-clause-moved : goal.returns-clause-moved
returns-clause-moved c =
    λ v h b reach.
    without_at (length c.args.begun.now) v c.move_plane.new.out c.args.begun.now c.put.new.self (c.move_plane.ensures.long ∙ c.requires.out) refl c.put.ensures h
    ∙ ap (without (get_or c.move_plane.new.out v false)) b
    ∙ c.move_plane.ensures.at v (omega (arith, h, c.requires.source)) (subst (λ n. Reaches c.args.direction c.args.by n v) (sym c.requires.source) reach)
