-- Every list of RingSW's steps keeps the rule.
use Rattle.std.proofs.Common.{ℕ, sym, subst}
use Rattle.stm_model.specs.declared.config.Config.{Config}
use Rattle.rule_base.proofs.Lemmas.RunLemmas.{keeps-along}
use Rattle.rule_base.specs.StepKinds.{world_after}
use Rattle.rule_base.specs.World.{World}
use Rattle.rule_ring.specs.Filters.{Filters}
use Rattle.rule_ring.proofs.RingCommitLaws as commit
use Rattle.rule_ring.specs.RingReadLaws as read
use Rattle.rule_ring.specs.RingRule.{RingWorld}
use Rattle.rule_ring.specs.RingSteps.{ring_word, ring_again, ring_slot}
use Rattle.rule_ring.specs.RingRuns.{RingStep, ring_kind, RingMay, RingKeepsAlong}
use Rattle.rule_ring.specs.RingRuns.RingStep.{ring_begins, ring_loads, ring_looks, ring_words, ring_agains, ring_moves, ring_locks, ring_ticks, ring_slots, ring_enters, ring_writes, ring_dones, ring_frees}

one_step : (F : Filters) (good : (ℕ → ℕ) → Type 0) (c : Config) (n : ℕ) (s : RingStep) (w : World) → RingWorld F good c w → RingMay F good c n s (w.views n) → RingWorld F good c (world_after (ring_kind F n s) n w)
one_step F good c n ring_begins w r m = (read.ring_begins F good c n w r m.1).rule
one_step F good c n (ring_loads a) w r m = (read.ring_loads F good c n a w r m.1).rule
one_step F good c n ring_looks w r m = (read.ring_looks F good c n w r m.1).rule
one_step F good c n (ring_words k e i) w r m = subst (λ (q : ℕ). RingWorld F good c (world_after (ring_word q e i) n w)) (sym m.1.0) (read.ring_words F good c n e i w r m.1.1).rule
one_step F good c n (ring_agains k) w r m = subst (λ (q : ℕ). RingWorld F good c (world_after (ring_again q) n w)) (sym m.1.0) (read.ring_agains F good c n w r m.1.1).rule
one_step F good c n ring_moves w r m = (read.ring_moves F good c n w r m.1).rule
one_step F good c n ring_locks w r m = (commit.ring_locks F good c n w r m.1).rule
one_step F good c n ring_ticks w r m = (commit.ring_ticks F good c n w r m.1).rule
one_step F good c n (ring_slots k e i ws) w r m = subst (λ (q : ℕ). RingWorld F good c (world_after (ring_slot F q e i ws) n w)) (sym m.1.0) (commit.ring_slots F good c n e i ws w r m.1.1).rule
one_step F good c n (ring_enters t) w r m = (commit.ring_enters F good c n t m.0 w r m.1).rule
one_step F good c n (ring_writes a x) w r m = (commit.ring_writes F good c n a x w r m.1).rule
one_step F good c n (ring_dones t) w r m = (commit.ring_dones F good c n t w r m.1).rule
one_step F good c n ring_frees w r m = (commit.ring_frees F good c n w r m.1).rule

pub ring_keeps_along_lem : (F : Filters) (good : (ℕ → ℕ) → Type 0) (c : Config) → RingKeepsAlong F good c
ring_keeps_along_lem F good c = keeps-along (ring_kind F) (RingMay F good c) (RingWorld F good c) (one_step F good c)
