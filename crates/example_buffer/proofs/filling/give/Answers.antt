use Rattle.std.proofs.Common.{◌∙◌, ℕ, List, ap}
use Rattle.nekchhaul.specs.Memories.{overlay}
use Rattle.example_buffer.proofs.DayLaws.{filled, filling-good}
use Rattle.example_buffer.proofs.filling.give.Goals as goal

pub give_back-requires-clause-keeps : goal.give_back-requires-clause-keeps
give_back-requires-clause-keeps g c = λ some m fine len same small.
    filling-good c.args.x _ c.requires.one (ap (λ (ws : List (ℕ × ℕ)). overlay m ws) (ap (λ f. f.log.writes) c.close_alone.ensures.grew.fenced ∙ c.requires.writes) ∙ filled c.args.x m (len ∙ c.requires.words))
