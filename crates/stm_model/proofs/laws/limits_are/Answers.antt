use Rattle.std.proofs.Common.{refl}
use Rattle.stm_model.proofs.laws.limits_are.Goals as goal

pub returns : goal.returns
returns c = record {
  words = refl;
  records = refl;
  least_ring = refl;
  ring = refl;
  callers = refl;
  log = refl;
  most_words = refl;
  most_records = refl;
  most_ring = refl;
  most_callers = refl;
  most_log = refl;
  most_marks = refl;
  small_words = refl;
  small_callers = refl;
  block = refl;
  clock = refl;
}
