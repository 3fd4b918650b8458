use Rattle.stm_rule.specs.Kept.{good_of}
use Rattle.stm_rule.specs.Runs.NoteRun.{core_notes_lem}
use Rattle.stm_rule.proofs.laws.core_notes.Goals as goal

pub returns : goal.returns
returns g c = λ rule config. core_notes_lem (good_of g.K.MemRule.good config rule) config
