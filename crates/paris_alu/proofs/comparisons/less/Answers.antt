use Rattle.std.proofs.Common.{◌<◌, ◌-◌, ℕ, ◌∙◌, ap, arith, length, List, Bool, [], sym}
use Rattle.std.proofs.lemmas.List.{get_or_read}
use Rattle.paris_model.specs.declared.operators.Sign.{Sign}
use Rattle.paris_model.specs.Elementwise.{is_less}
use Rattle.paris_field.specs.Numbers.{number_at, bits_everywhere}
use Rattle.paris_field.proofs.Places.{length-bits_everywhere, read_long}
use Rattle.paris_alu.proofs.Compares.{less_signed, less_unsigned}
use Rattle.paris_alu.proofs.comparisons.less.Goals.{in-Unsigned+in_ok-put_triple-in-Unsigned, in-Signed+in_ok-put_triple-in-Signed}
use Rattle.paris_alu.proofs.comparisons.less.Goals as goal

pub put_triple-requires-clause-second : goal.put_triple-requires-clause-second
put_triple-requires-clause-second c =
    ap length c.in_ok-less.ensures ∙ length-bits_everywhere c.args.vps _
    ∙ sym (read_long c.args.x.now (length c.args.x.now - 1) c.index-x-top.result c.requires.x_planes (omega (arith, c.requires.positive)) c.index-x-top.is)

pub put_triple-requires-clause-third : goal.put_triple-requires-clause-third
put_triple-requires-clause-third c =
    ap length c.in_ok-less.ensures ∙ length-bits_everywhere c.args.vps _
    ∙ sym (read_long c.args.y.now (length c.args.x.now - 1) c.index-y-top.result c.requires.y_planes (omega (arith, c.requires.positive, c.requires.same)) c.index-y-top.is)

pub put_triple-requires-in-Signed-clause-second : goal.put_triple-requires-in-Signed-clause-second
put_triple-requires-in-Signed-clause-second c =
    ap length c.in_ok-less.ensures ∙ length-bits_everywhere c.args.vps _
    ∙ sym (read_long c.args.y.now (length c.args.x.now - 1) c.index-y-top-in-Signed.result c.requires.y_planes (omega (arith, c.requires.positive, c.requires.same)) c.index-y-top-in-Signed.is)

pub put_triple-requires-in-Signed-clause-third : goal.put_triple-requires-in-Signed-clause-third
put_triple-requires-in-Signed-clause-third c =
    ap length c.in_ok-less.ensures ∙ length-bits_everywhere c.args.vps _
    ∙ sym (read_long c.args.x.now (length c.args.x.now - 1) c.index-x-top-in-Signed.result c.requires.x_planes (omega (arith, c.requires.positive)) c.index-x-top-in-Signed.is)

pub returns : goal.returns
returns c =
    let n : ℕ = c.args.vps in
    let xs : List (List Bool) = c.args.x.now in
    let ys : List (List Bool) = c.args.y.now in
    let top : ℕ = length xs - 1 in
    let inx : top < length xs = omega (arith, c.requires.positive) in
    let iny : top < length ys = omega (arith, c.requires.positive, c.requires.same) in
    let by : Sign → List Bool = λ s. bits_everywhere n (λ v. is_less s (length xs) (number_at xs v) (number_at ys v)) in
    elim c.match-sign.branch [
      | in-Unsigned+in_ok-put_triple-in-Unsigned w ↦
          w.less-is
          ∙ less_unsigned n xs ys w.index-x-top.result w.index-y-top.result c.in_ok-less.less w.put_triple.new.self c.requires.positive c.requires.same
          (get_or_read xs top w.index-x-top.result inx w.index-x-top.is []) (get_or_read ys top w.index-y-top.result iny w.index-y-top.is [])
          c.requires.x_planes c.requires.y_planes c.in_ok-less.ensures w.in_ok-put_triple-in-Unsigned.ensures.ok
          ∙ ap by (sym w.in-Unsigned.is)
      | in-Signed+in_ok-put_triple-in-Signed w ↦
          w.less-is
          ∙ less_signed n xs ys w.index-x-top-in-Signed.result w.index-y-top-in-Signed.result c.in_ok-less.less w.put_triple-in-Signed.new.self c.requires.positive c.requires.same
          (get_or_read xs top w.index-x-top-in-Signed.result inx w.index-x-top-in-Signed.is []) (get_or_read ys top w.index-y-top-in-Signed.result iny w.index-y-top-in-Signed.is [])
          c.requires.x_planes c.requires.y_planes c.in_ok-less.ensures w.in_ok-put_triple-in-Signed.ensures.ok
          ∙ ap by (sym w.in-Signed.is)
    ]
