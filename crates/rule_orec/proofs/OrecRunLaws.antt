-- Every list of steps of the record algorithms keeps the rule, and no stamp falls.
use Rattle.std.proofs.Common.{ℕ}
use Rattle.stm_model.specs.declared.config.Config.{Config}
use Rattle.rule_base.proofs.Lemmas.RunLemmas.{keeps-along}
use Rattle.rule_base.specs.StepKinds.{world_after}
use Rattle.rule_base.specs.World.{World}
use Rattle.rule_orec.specs.OrecRule.{orec_projection, OrecWorld}
use Rattle.rule_orec.specs.OrecRely.{stamp-grows}
use Rattle.rule_orec.specs.OrecRuns.{OrecStep, orec_kind, OrecMay, OrecKeepsAlong, StampsGrow}
use Rattle.rule_orec.specs.OrecRuns.OrecStep.{orec_begins, orec_samples, orec_loads, orec_confirms, orec_clocks, orec_clocks_all, orec_passes, orec_lasts, orec_looks, orec_limits, orec_locks, orec_commits, orec_writes_back, orec_times, orec_olds, orec_ups, orec_own_loads, orec_saves, orec_places, orec_restores, orec_raises_clock}
use Rattle.rule_orec.specs.OrecLaws.{Ranks}
use Rattle.rule_orec.specs.OrecLaws as laws

one_step : (good : (ℕ → ℕ) → Type 0) (c : Config) (n : ℕ) (s : OrecStep) (w : World) → OrecWorld good c w → OrecMay good c n s (w.views n) → OrecWorld good c (world_after (orec_kind n s) n w)
one_step good c n orec_begins w g m = (laws.orec_begins good c n w g m.1).rule
one_step good c n (orec_samples r a) w g m = (laws.orec_samples good c n r a w g m.1).rule
one_step good c n (orec_loads a) w g m = (laws.orec_loads good c n a w g m.1).rule
one_step good c n (orec_confirms r) w g m = (laws.orec_confirms good c n r w g m.1).rule
one_step good c n (orec_clocks todo) w g m = (laws.orec_clocks good c n todo w g m.1).rule
one_step good c n orec_clocks_all w g m = (laws.orec_clocks_all good c n w g m.1).rule
one_step good c n (orec_passes r b) w g m = (laws.orec_passes good c n r b w g m.1).rule
one_step good c n (orec_lasts r b) w g m = (laws.orec_lasts good c n r b w g m.1).rule
one_step good c n (orec_looks r) w g m = (laws.orec_looks good c n r w g m.1).rule
one_step good c n orec_limits w g m = (laws.orec_limits good c n w g m.1).rule
one_step good c n (orec_locks r version) w g m = (laws.orec_locks good c n r version w g m.1).rule
one_step good c n (orec_commits start writes back) w g m = (laws.orec_commits good c n start writes back m.0 w g m.1).rule
one_step good c n (orec_writes_back a x) w g m = (laws.orec_writes_back good c n a x w g m.1).rule
one_step good c n (orec_times r version) w g m = (laws.orec_times good c n r version w g m.1).rule
one_step good c n (orec_olds r version) w g m = (laws.orec_olds good c n r version w g m.1).rule
one_step good c n (orec_ups r version) w g m = (laws.orec_ups good c n r version w g m.1).rule
one_step good c n (orec_own_loads a) w g m = (laws.orec_own_loads good c n a w g m.1).rule
one_step good c n (orec_saves a) w g m = (laws.orec_saves good c n a w g m.1).rule
one_step good c n (orec_places a x) w g m = (laws.orec_places good c n a x w g m.1).rule
one_step good c n (orec_restores a x) w g m = (laws.orec_restores good c n a x w g m.1).rule
one_step good c n (orec_raises_clock least) w g m = (laws.orec_raises_clock good c n least m.0 w g m.1).rule

pub orec_keeps_along_lem : (good : (ℕ → ℕ) → Type 0) (c : Config) → OrecKeepsAlong good c
orec_keeps_along_lem good c = keeps-along orec_kind (OrecMay good c) (OrecWorld good c) (one_step good c)

ranks : (good : (ℕ → ℕ) → Type 0) (c : Config) (n : ℕ) (s : OrecStep) (w : World) → OrecWorld good c w → OrecMay good c n s (w.views n) → Ranks good c n w (world_after (orec_kind n s) n w)
ranks good c n orec_begins w g m = laws.orec_begins-ranks good c n w g m.1
ranks good c n (orec_samples r a) w g m = laws.orec_samples-ranks good c n r a w g m.1
ranks good c n (orec_loads a) w g m = laws.orec_loads-ranks good c n a w g m.1
ranks good c n (orec_confirms r) w g m = laws.orec_confirms-ranks good c n r w g m.1
ranks good c n (orec_clocks todo) w g m = laws.orec_clocks-ranks good c n todo w g m.1
ranks good c n orec_clocks_all w g m = laws.orec_clocks_all-ranks good c n w g m.1
ranks good c n (orec_passes r b) w g m = laws.orec_passes-ranks good c n r b w g m.1
ranks good c n (orec_lasts r b) w g m = laws.orec_lasts-ranks good c n r b w g m.1
ranks good c n (orec_looks r) w g m = laws.orec_looks-ranks good c n r w g m.1
ranks good c n orec_limits w g m = laws.orec_limits-ranks good c n w g m.1
ranks good c n (orec_locks r version) w g m = laws.orec_locks-ranks good c n r version w g m.1
ranks good c n (orec_commits start writes back) w g m = laws.orec_commits-ranks good c n start writes back m.0 w g m.1
ranks good c n (orec_writes_back a x) w g m = laws.orec_writes_back-ranks good c n a x w g m.1
ranks good c n (orec_times r version) w g m = laws.orec_times-ranks good c n r version w g m.1
ranks good c n (orec_olds r version) w g m = laws.orec_olds-ranks good c n r version w g m.1
ranks good c n (orec_ups r version) w g m = laws.orec_ups-ranks good c n r version w g m.1
ranks good c n (orec_own_loads a) w g m = laws.orec_own_loads-ranks good c n a w g m.1
ranks good c n (orec_saves a) w g m = laws.orec_saves-ranks good c n a w g m.1
ranks good c n (orec_places a x) w g m = laws.orec_places-ranks good c n a x w g m.1
ranks good c n (orec_restores a x) w g m = laws.orec_restores-ranks good c n a x w g m.1
ranks good c n (orec_raises_clock least) w g m = laws.orec_raises_clock-ranks good c n least w g m.1

pub stamps_grow_lem : (good : (ℕ → ℕ) → Type 0) (c : Config) → StampsGrow good c
stamps_grow_lem good c n s w r m q = stamp-grows (orec_projection w) (orec_projection (world_after (orec_kind n s) n w)) q (ranks good c n s w r m q)
