use Rattle.std.proofs.Common.{◌∙◌, sym, arith}
use Rattle.paris_exec.proofs.Addresses.{stride_more}
use Rattle.paris_exec.proofs.elementwise.first_bit.Goals as goal

pub loop-lower-preserved : goal.loop-lower-preserved
loop-lower-preserved c =
    record {
      value = stride_more c.args.geometry c.loop-lower.lower c.loop-lower.from c.exponent-from.result (omega arith) c.loop-lower.invariant.value (sym c.len.ensures ∙ c.exponent-from.ensures.value);
      small = omega arith;
    }
