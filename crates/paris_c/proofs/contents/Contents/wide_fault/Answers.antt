use Rattle.std.proofs.Common.{◌∙◌, ◌+◌, ap, length, refl, sym}
use Rattle.std.specs.Option.{option_map}
use Rattle.paris_names.specs.declared.faults.Fault.TheVariants.{TooWide}
use Rattle.paris_c.proofs.FaultNumbers.{wide_refused, wide_told}
use Rattle.paris_c.proofs.contents.Contents.wide_fault.Goals as goal

pub returns-in-Err : goal.returns-in-Err
returns-in-Err c = wide_refused c.args.self.now.session.state c.args.key c.args.from c.args.given.now (length c.args.given.now) refl c.in-Err.fault (sym c.in-Err.is ∙ c.input_width.ensures.width)

pub returns-in-Some : goal.returns-in-Some
returns-in-Some c =
    ap (option_map (λ i. TooWide (c.args.from + i))) (sym c.in-Some.is ∙ c.first_too_wide.ensures)
    ∙ wide_told c.args.self.now.session.state c.args.key c.args.from c.args.given.now (length c.args.given.now) refl c.in-Ok.width c.in-Ok.ensures.width

pub returns-in-None : goal.returns-in-None
returns-in-None c =
    ap (option_map (λ i. TooWide (c.args.from + i))) (sym c.in-None.is ∙ c.first_too_wide.ensures)
    ∙ wide_told c.args.self.now.session.state c.args.key c.args.from c.args.given.now (length c.args.given.now) refl c.in-Ok.width c.in-Ok.ensures.width
