use Rattle.work_trace.proofs.OneWriter.{writer-fits}
use Rattle.work_trace.proofs.laws.one_writer_fits.Goals as goal

pub returns : goal.returns
returns c = writer-fits
