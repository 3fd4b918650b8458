use Rattle.std.proofs.Common.{slice_index}
use Rattle.stm_logs.proofs.FilterLemmas.{shared-meet}
use Rattle.stm_logs.proofs.filter.Filter.meets.Goals as goal

pub returns-clause-shared : goal.returns-clause-shared
returns-clause-shared c = rw (c.parts_meet.ensures, ← c.self.view_is, ← c.other.view_is) (λ a h j. shared-meet a (slice_index c.self.inside.words) (slice_index c.other.inside.words) h j)
