use Rattle.std.proofs.Common.{◌+◌, ◌∙◌, [], ◌∷◌, ◌++◌, refl, ap, arith}
use Rattle.nekchhaul.specs.Alg.TheVariants.{Tml}
use Rattle.nekchhaul.specs.EffectLaws.{zero-at}
use Rattle.nekchhaul.specs.StoryLaws.{by-came, story}
use Rattle.example_bucket.proofs.run.Goals as goal

pub with_memory-requires-clause-good : goal.with_memory-requires-clause-good
with_memory-requires-clause-good g c κs within =
    rw c.sizes.ensures.words ((λ client lt. let e = zero-at 33 (16 + client) in omega arith), refl)

pub returns-clause-installs : goal.returns-clause-installs
returns-clause-installs g c =
    by-came c.with_memory.result c.with_memory.ensures.came (λ done came.
    let s = (story came 0 (let four = c.sizes.ensures.callers in omega arith)).1 in
    s.installed ∙ (s.told refl ∙ ap (λ l. l ++ Tml ∷ []) s.begun))
