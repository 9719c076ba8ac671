use Rattle.std.proofs.Common.{◌∙◌, ℕ, ◌∷◌, [], ap, length, List, Bool}
use Rattle.paris_model.specs.Lines.{values_where}
use Rattle.paris_field.specs.Numbers.{number_at}
use Rattle.paris_plane.proofs.Bits.{written}
use Rattle.paris_scan.proofs.Added.{own_fits}
use Rattle.paris_scan.proofs.Gathered.{block_line}
use Rattle.paris_scan.proofs.butterfly.turned_planes.Goals as goal

pub returns-clause-shows : goal.returns-clause-shows
returns-clause-shows g c =
    λ L selected value count fits shown v h.
    let own : ℕ → List ℕ = λ u. values_where selected value (u ∷ []) in
    ap (λ (ps : List (List Bool)). number_at ps v) (written _ c.gather.new.state _ (c.gather.auto.state ∙ c.deref_mut.ensures.len))
    ∙ c.gather.ensures.lines L own (ap length c.deref_mut.ensures.value ∙ count) (λ u. own_fits selected value L u (fits u)) (λ u below. ap (λ (ps : List (List Bool)). number_at ps u) c.deref_mut.ensures.value ∙ shown u below) v h
    ∙ ap (g.C.Combine.shows L) (block_line c.args.geometry c.args.axis selected value v)
