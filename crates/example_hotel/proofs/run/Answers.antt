use Rattle.std.proofs.Common.{◌+◌, arith, refl}
use Rattle.nekchhaul.specs.EffectLaws.{zero-at}
use Rattle.nekchhaul.specs.StoryLaws.{by-came}
use Rattle.example_hotel.proofs.run.Goals as goal

pub with_memory-requires-clause-good : goal.with_memory-requires-clause-good
with_memory-requires-clause-good g c κs within = rw c.sizes.ensures.words
    (record {
      once = λ a b low-a low-b some same. let none = zero-at 18 a in absurd (omega (arith, none, some));
      free = λ room at none. zero-at 18 (8 + room);
      two = λ room at. let none = zero-at 18 (8 + room) in omega (arith, none);
      taken = refl;
      out = refl;
    })

pub returns-clause-rounds : goal.returns-clause-rounds
returns-clause-rounds g c =
    by-came c.with_memory.result c.with_memory.ensures.came
    (λ closed came i d lt few.
    let four = c.sizes.ensures.callers in
    let story = came.stories i d (omega (arith, lt, four)) in
    let full = story.told.2 few in
    let found = story.found in
    omega (arith, full, found))
