use Rattle.data_regions.proofs.VersionOne.{one-apart, one-within, one-plain, one-places}
use Rattle.data_regions.proofs.laws.version_one_is_laid_out.Goals as goal

pub returns : goal.returns
returns c = record { fits = (one-apart, one-within); places = one-places; plain = one-plain }
