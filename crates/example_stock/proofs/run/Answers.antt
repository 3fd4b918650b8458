use Rattle.std.proofs.Common.{◌+◌, arith}
use Rattle.nekchhaul.specs.EffectLaws.{zero-at}
use Rattle.example_stock.proofs.run.Goals as goal

pub with_memory-requires-clause-good : goal.with_memory-requires-clause-good
with_memory-requires-clause-good g c κs within = rw c.sizes.ensures.words
    (λ item at. let supplied = zero-at 64 item in let stock = zero-at 64 (16 + item) in let reserved = zero-at 64 (32 + item) in let sold = zero-at 64 (48 + item) in ((omega arith), (omega arith)))
