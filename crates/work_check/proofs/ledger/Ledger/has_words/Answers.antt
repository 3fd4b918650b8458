use Rattle.std.proofs.Common.{List, subst}
use Rattle.stm_model.specs.declared.plain.PlainWord.{PlainWord}
use Rattle.stm_model.specs.Memories.{AreWords}
use Rattle.stm_model.specs.Plains.{openings}
use Rattle.work_check.proofs.ledger.Ledger.has_words.Goals as goal

pub returns : goal.returns
returns c = subst (λ (ws : List PlainWord). AreWords (openings ws)) c.self.view_is c.self.invariant.2
