use Rattle.std.proofs.Common.{◌≡◌, ◌∙◌, ℕ, ◌+◌, ◌*◌, ◌<◌, ap, arith, length, List, Bool, false}
use Rattle.std.proofs.lemmas.Simd.{length-replicate}
use Rattle.paris_plane.proofs.Bits.{written}
use Rattle.paris_field.specs.Numbers.{number_at}
use Rattle.paris_scan.proofs.Rows.{periods}
use Rattle.paris_scan.proofs.columns.halved.Goals as goal

pub returns-clause-joined : goal.returns-clause-joined
returns-clause-joined g c =
    λ L p o xs ys count hp ho fx fy ex ey.
    let w : ℕ = c.args.words in
    let v : ℕ = p * (64 * w) + o in
    let below : v < c.args.count * (64 * w) = omega (arith, ho, periods (64 * w) p c.args.count hp) in
    let low : p * (128 * w) + (64 * 0 + o) ≡ p * (128 * w) + o = omega arith in
    ap (λ (ps : List (List Bool)). number_at ps v) (written _ c.join_halves.new.lower _ (c.join_halves.auto.lower ∙ c.deref_mut.ensures.len))
    ∙ c.join_halves.ensures.joined L v xs ys (ap length c.deref.ensures.value ∙ c.in_ok-upper.ensures.count ∙ count) (omega (arith, below, ap length c.in_ok-spare.ensures, length-replicate (c.args.count * (64 * w)) false)) fx fy
    (ap (λ (ps : List (List Bool)). number_at ps v) c.deref.ensures.value ∙ c.in_ok-upper.ensures.numbers p o hp ho ∙ ex)
    (ap (λ (ps : List (List Bool)). number_at ps v) c.deref_mut.ensures.value ∙ c.in_ok-lower.ensures.numbers p o hp ho ∙ ap (number_at c.args.state.now) low ∙ ey)
