-- What a proof of jobs names, in one place.
pub use Rattle.stm_model.specs.declared.alg.Alg.{Alg}
pub use Rattle.stm_model.specs.declared.config.Config.{Config}
pub use Rattle.stm_model.specs.Histories.{Entry, IsLegal, made_by, memory_at, memory_after}
pub use Rattle.stm_model.specs.Logs.{Log, SameMemories}
pub use Rattle.stm_model.specs.Memories.{overlay, written}
pub use Rattle.data_effects.specs.Effects.{Effect, DoesOver, Under}
pub use Rattle.tx_jobs.specs.Known.{Known, Seat, Grows}
pub use Rattle.tx_jobs.specs.Moments.{Took, Happened, zeros}
pub use Rattle.tx_jobs.specs.MomentLaws.{happened, stood, took-at}
pub use Rattle.tx_jobs.specs.Repeats.{MadeOne, MadeAll, Answered}
pub use Rattle.tx_jobs.specs.Gathered.{listed, Gathered}
pub use Rattle.tx_jobs.specs.Stories.{Past, IsStory, Came}
pub use Rattle.tx_jobs.specs.StoryLaws.{story, by-came}
pub use Rattle.tx_jobs.specs.Deeds.{IsDeed, AreDeeds, HasDone, deeds_by, Leads, over, InOrder, InOneOrder}
pub use Rattle.tx_jobs.specs.DeedLaws.{done-none, done-then, did, did-nothing, gathered-did, gathered-are, gathered-range, in-order, in-one-order, conserved}
pub use Rattle.tx_jobs.specs.Counts.{sum-mapped, sum-nothing, times, times-first, times-last, hit, times-range, over-same, over-most, over-list}
