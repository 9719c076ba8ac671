use Rattle.paris_book.proofs.Directly.{each_flag_fits}
use Rattle.paris_book.proofs.laws.flags_fit.Goals as goal

pub returns : goal.returns
returns c = each_flag_fits c.args.flags.now c.input_fits.ensures c.input_fits-2.ensures c.input_fits-3.ensures c.input_fits-4.ensures
