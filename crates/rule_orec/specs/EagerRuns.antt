-- A roll back in an attempt of OrecEager, by the kinds of step that there are: the record stays held until the commit,
-- which gives it back as a rollback does.
use Rattle.std.specs.Prelude.{ℕ, ◌≡◌, ◌<◌, List, [], ◌∷◌, false}
use Rattle.stm_model.specs.declared.alg.Alg.TheVariants.{OrecEager}
use Rattle.stm_model.specs.declared.config.Config.{Config}
use Rattle.rule_base.specs.declared.views.GateView.{GateView}
use Rattle.rule_base.specs.declared.views.Phase.TheVariants.{In}
use Rattle.rule_base.specs.Encodings.{free_record}
use Rattle.rule_base.specs.Ranks.{home_of}
use Rattle.rule_base.specs.Runs.{run, Allowed}
use Rattle.rule_base.specs.World.{World}
use Rattle.rule_seq.specs.CglRuns.{opened_with}
use Rattle.rule_orec.specs.OrecRuns.{OrecStep, orec_kind, OrecMay}
use Rattle.rule_orec.specs.OrecRuns.OrecStep.{orec_begins, orec_locks, orec_saves, orec_places, orec_restores, orec_own_loads, orec_raises_clock, orec_ups}

-- caller 0 takes record 0, and after a mark stores 1 in word 0, 2 there again, and rolls back; it reads the word under
-- its own lock, and commits, with nothing written
abbrev pub eager_back : List (ℕ × OrecStep)
eager_back = (0, orec_begins) ∷ (0, orec_locks 0 0) ∷ (0, orec_saves 0) ∷ (0, orec_places 0 1) ∷ (0, orec_places 0 2) ∷ (0, orec_restores 0 0) ∷ (0, orec_own_loads 0) ∷ (0, orec_raises_clock 1) ∷ (0, orec_ups 0 1) ∷ []

abbrev pub eager_end : ((ℕ → ℕ) → Type 0) → Config → (ℕ → GateView) → World
eager_end good c gates = run orec_kind (OrecMay good c) eager_back (opened_with c gates)

-- all these steps are allowed; after them the word is as it was and was read so, the record is free one version later,
-- and there is no entry
abbrev pub EagerRollsBack : ((ℕ → ℕ) → Type 0) → Config → Type 0
EagerRollsBack good c = (gates : ℕ → GateView) → (gates 0).phase ≡ In → (gates 0).algorithm ≡ OrecEager → (gates 0).granted ≡ false → (gates 0).quiescent ≡ false → 0 < c.callers → 0 < c.words → home_of c 0 ≡ 0
    → Allowed orec_kind (OrecMay good c) eager_back (opened_with c gates) × ((eager_end good c gates).heap 0 ≡ 0) × ((eager_end good c gates).records 0 ≡ free_record 1) × ((eager_end good c gates).history ≡ [])
    × (((eager_end good c gates).views 0).owned.held ≡ []) × (((eager_end good c gates).views 0).attempt.reads ≡ record { at = 0; value = 0 } ∷ [])
