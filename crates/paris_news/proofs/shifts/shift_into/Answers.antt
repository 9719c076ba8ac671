use Rattle.std.proofs.Common.{◌≡◌, ◌∙◌, ◌*◌, ◌%◌, ap, arith, sym, ℕ, subst}
use Rattle.std.specs.Int.{IsPowerOfTwo}
use Rattle.paris_geometry.specs.Geometry.{axis_length}
use Rattle.paris_geometry.proofs.Powers.{stride_power}
use Rattle.paris_news.proofs.Shifted.{period_power, shifted_upward, shifted_downward, whole_lines}
use Rattle.paris_news.proofs.shifts.shift_into.Goals as goal

pub turn_down_from-requires-clause-by : goal.turn_down_from-requires-clause-by
turn_down_from-requires-clause-by c = subst IsPowerOfTwo (sym c.stride-stride.ensures.value) (stride_power c.args.geometry c.args.axis c.stride-stride.ensures.sound)

pub turn_down_from-requires-clause-period : goal.turn_down_from-requires-clause-period
turn_down_from-requires-clause-period c =
    let s : ℕ = c.stride-stride.result in
    let ep : c.len.result * s ≡ axis_length c.args.geometry c.args.axis * s = ap (λ x. x * s) c.len.ensures in
    period_power c.args.geometry c.args.axis s (c.len.result * s) c.stride-stride.ensures.sound c.requires.axis c.stride-stride.ensures.value ep

pub turn_down_from-requires-clause-whole : goal.turn_down_from-requires-clause-whole
turn_down_from-requires-clause-whole c =
    let s : ℕ = c.stride-stride.result in
    let ep : c.len.result * s ≡ axis_length c.args.geometry c.args.axis * s = ap (λ x. x * s) c.len.ensures in
    ap (λ n. n % (c.len.result * s)) c.requires.out
    ∙ whole_lines c.args.geometry c.args.axis s (c.len.result * s) c.stride-stride.ensures.sound c.requires.axis c.stride-stride.ensures.value ep

pub turn_up_from-requires-clause-by : goal.turn_up_from-requires-clause-by
turn_up_from-requires-clause-by c = subst IsPowerOfTwo (sym c.stride-stride.ensures.value) (stride_power c.args.geometry c.args.axis c.stride-stride.ensures.sound)

pub turn_up_from-requires-clause-period : goal.turn_up_from-requires-clause-period
turn_up_from-requires-clause-period c =
    let s : ℕ = c.stride-stride.result in
    let ep : c.len.result * s ≡ axis_length c.args.geometry c.args.axis * s = ap (λ x. x * s) c.len.ensures in
    period_power c.args.geometry c.args.axis s (c.len.result * s) c.stride-stride.ensures.sound c.requires.axis c.stride-stride.ensures.value ep

pub turn_up_from-requires-clause-whole : goal.turn_up_from-requires-clause-whole
turn_up_from-requires-clause-whole c =
    let s : ℕ = c.stride-stride.result in
    let ep : c.len.result * s ≡ axis_length c.args.geometry c.args.axis * s = ap (λ x. x * s) c.len.ensures in
    ap (λ n. n % (c.len.result * s)) c.requires.out
    ∙ whole_lines c.args.geometry c.args.axis s (c.len.result * s) c.stride-stride.ensures.sound c.requires.axis c.stride-stride.ensures.value ep

pub returns-in-Upward : goal.returns-in-Upward
returns-in-Upward c =
    let s : ℕ = c.stride-stride.result in
    let ep : c.len.result * s ≡ axis_length c.args.geometry c.args.axis * s = ap (λ x. x * s) c.len.ensures in
    shifted_upward c.args.geometry c.args.axis c.args.direction s (c.len.result * s) c.args.source.now c.turn_down_from.new.self c.in-Upward.is c.stride-stride.ensures.sound c.requires.axis c.stride-stride.ensures.value ep
    (record {
      long = c.turn_down_from.ensures.long ∙ c.requires.out;
      inside = λ v h. c.turn_down_from.ensures.inside v (omega (arith, h, c.requires.out));
      round = λ v h. c.turn_down_from.ensures.round v (omega (arith, h, c.requires.out));
    })

pub returns-in-Downward : goal.returns-in-Downward
returns-in-Downward c =
    let s : ℕ = c.stride-stride.result in
    let ep : c.len.result * s ≡ axis_length c.args.geometry c.args.axis * s = ap (λ x. x * s) c.len.ensures in
    shifted_downward c.args.geometry c.args.axis c.args.direction s (c.len.result * s) c.args.source.now c.turn_up_from.new.self c.in-Downward.is c.stride-stride.ensures.sound c.requires.axis c.stride-stride.ensures.value ep
    (record {
      long = c.turn_up_from.ensures.long ∙ c.requires.out;
      inside = λ v h. c.turn_up_from.ensures.inside v (omega (arith, h, c.requires.out));
      round = λ v h. c.turn_up_from.ensures.round v (omega (arith, h, c.requires.out));
    })
