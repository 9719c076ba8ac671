use Rattle.std.proofs.Common.{◌≡◌, ◌∙◌, ap, arith, take, ◌-◌, Some, ℕ, List, Bool, []}
use Rattle.std.specs.Prelude.{Option}
use Rattle.paris_model.specs.declared.operators.Combiner.TheVariants.{Sum}
use Rattle.paris_field.specs.Numbers.{plane_at}
use Rattle.paris_field.specs.Fields.{FieldNumbers}
use Rattle.paris_scan.specs.declared.results.Combined.{Combined}
use Rattle.paris_scan.specs.Lines.{combined_field}
use Rattle.paris_scan.proofs.Summed.{sum_bits, sum_field}
use Rattle.paris_scan.proofs.results.sum_value.Goals as goal

pub returns : goal.returns
returns c =
    λ L values long each.
    let planes = c.args.planes in
    let below : planes.len - 1 ≡ L = omega (arith, long, planes.ok) in
    let made : FieldNumbers → Option (List Bool) → Combined = λ v o. record { value = v; overflow = o } in
    ap (λ v. made v c.as_layer-overflow.result) (c.in_ok-value.ensures ∙ sum_field c.args.vps L c.args.planes.items c.pop-top.new.self.items values long (c.pop-top.ensures.rest ∙ ap (λ (k : ℕ). take k c.args.planes.items) below) each)
    ∙ ap (made (combined_field Sum L c.args.vps values)) (c.as_layer-overflow.ensures ∙ sum_bits c.args.vps L c.args.planes.items c.pop-top.result values long c.requires.long (c.pop-top.ensures.value [] (omega (arith, long, planes.ok)) ∙ ap (λ (k : ℕ). Some (plane_at c.args.planes.items k)) below) each)
