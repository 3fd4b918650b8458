-- A promoted attempt that holds a record of a word that it took back, and wrote nothing: it ends as a rollback does,
-- without an entry. It raises the clock, and gives the record back one version later.
use Rattle.std.proofs.Common.{◌≡◌, ◌<◌, ℕ, List, [], ◌∷◌, Bool, true, false, refl, arith}
use Rattle.std.specs.Prelude.{◌==◌, if◌then◌else◌}
use Rattle.stm_model.specs.declared.alg.Alg.TheVariants.{OrecEager}
use Rattle.stm_model.specs.declared.config.Config.{Config}
use Rattle.rule_base.specs.Encodings.{free_record}
use Rattle.rule_base.specs.Lemmas.EncodingLemmas.{fenced-none}
use Rattle.rule_base.specs.History.{over}
use Rattle.rule_base.specs.Opening.{opening_world}
use Rattle.rule_base.specs.Runs.{run, Allowed}
use Rattle.rule_base.specs.World.{World}
use Rattle.rule_orec.specs.OrecRuns.OrecStep.{orec_begins, orec_looks, orec_locks, orec_saves, orec_places, orec_restores}
use Rattle.stm_rule.specs.Runs.CoreRuns.{CoreStep, core_kind, CoreMay, small_config}
use Rattle.stm_rule.specs.Runs.CoreRuns.CoreStep.{announces, loads_gate, departs, aims, takes_gate, reopens, settles, stores_base, stores_done, installs, of_orec, looks_gate, seizes, orec_grants_all, direct_raises_clock, direct_ups, returns}

-- caller 0 installs OrecEager, takes record 0, stores x in word 0 and takes it back, is promoted and quits
abbrev pub quitting : ℕ → List (ℕ × CoreStep)
quitting x =
    (0, announces) ∷ (0, aims) ∷ (0, takes_gate 0) ∷ (0, departs) ∷ (0, settles) ∷ (0, stores_base 0) ∷ (0, stores_done 0)
    ∷ (0, installs 0 OrecEager) ∷ (0, reopens 0 OrecEager) ∷ (0, announces) ∷ (0, loads_gate) ∷ (0, of_orec orec_begins)
    ∷ (0, of_orec (orec_looks 0)) ∷ (0, of_orec (orec_locks 0 0)) ∷ (0, of_orec (orec_saves 0)) ∷ (0, of_orec (orec_places 0 x))
    ∷ (0, of_orec (orec_restores 0 0)) ∷ (0, looks_gate) ∷ (0, seizes 0 OrecEager) ∷ (0, settles) ∷ (0, orec_grants_all)
    ∷ (0, direct_raises_clock 1) ∷ (0, direct_ups 0 1) ∷ (0, returns 0 OrecEager) ∷ (0, departs) ∷ []

abbrev pub quit_end : ((ℕ → ℕ) → Type 0) → Config → ℕ → World
quit_end good c x = run core_kind (CoreMay good (small_config c)) (quitting x) (opening_world (small_config c))

-- with one caller and one record and from clock 0 these steps are allowed; after them there is no entry, the clock is 1
-- and the record free since 1, BASE and DONE are as they were installed, and word 0 is as it was
abbrev pub CoreQuits : ((ℕ → ℕ) → Type 0) → Config → Type 0
CoreQuits good c = (x : ℕ)
    → Allowed core_kind (CoreMay good (small_config c)) (quitting x) (opening_world (small_config c))
    × ((quit_end good c x).history ≡ []) × ((quit_end good c x).clock ≡ 1) × ((quit_end good c x).base ≡ 0) × ((quit_end good c x).done ≡ 0)
    × ((quit_end good c x).records 0 ≡ free_record 1) × ((quit_end good c x).heap 0 ≡ 0)

-- the old version of the one record is 0
low : (r : ℕ) → over (record { at = 0; value = 0 } ∷ []) r 0 < 1
low r = by (0 == r)
  where
    by : (t : Bool) → (if t then 0 else 0) < 1
    by true = omega arith
    by false = omega arith

pub core_quits_lem : (good : (ℕ → ℕ) → Type 0) (c : Config) → CoreQuits good c
core_quits_lem good c x = (
  (
    (omega arith, refl),
    (
      (omega arith, refl),
      (
        (omega arith, record { phase = refl; aimed = refl }),
        (
          (omega arith, record { phase = refl; reopened = λ e. absurd cc; unlocked = refl; disowned = refl; unwritten = refl; uncommitted = refl; unentered = λ e. refl }),
          (
            (omega arith, record { holds = refl; quiet = λ k l o. absurd (o (omega arith)) }),
            (
              (omega arith, record { closing = λ e. refl; quiescent = refl; time = refl }),
              (
                (omega arith, record { closing = λ e. refl; quiescent = refl; time = refl }),
                (
                  (omega arith, record { phase = refl; guarded = refl; ungiven = refl; quiescent = refl; rebased = refl; completed = refl; even = λ e. absurd cc }),
                  (
                    (omega arith, record { phase = refl; absent = refl; named = refl; guarded = refl; ungiven = refl; unentered = refl }),
                    (
                      (omega arith, refl),
                      (
                        (omega arith, refl),
                        (
                          (omega arith, record { runs = record { phase = refl; algorithm = refl; plain = refl }; disowned = refl }),
                          (
                            (omega arith, record { runs = record { phase = refl; algorithm = refl; plain = refl }; inside = refl }),
                            (
                              (omega arith, record { opens = record { has = record { runs = record { phase = refl; algorithm = refl; plain = refl }; inside = refl }; open_yet = refl }; unraised = refl; new = λ e. omega arith }),
                              (
                                (omega arith, (record { opens = record { has = record { runs = record { phase = refl; algorithm = refl; plain = refl }; inside = refl }; open_yet = refl }; held = refl; unwritten = refl }, fenced-none 0)),
                                (
                                  (omega arith, record { opens = record { has = record { runs = record { phase = refl; algorithm = refl; plain = refl }; inside = refl }; open_yet = refl }; eager = refl; undoable = refl }),
                                  (
                                    (omega arith, record { has = record { runs = record { phase = refl; algorithm = refl; plain = refl }; inside = refl }; logged = refl; value = refl }),
                                    (
                                      (omega arith, refl),
                                      (
                                        (omega arith, record { phase = refl; named = refl; spared = refl; free = refl }),
                                        (
                                          (omega arith, record { holds = refl; quiet = λ k l o. absurd (o (omega arith)) }),
                                          (
                                            (
                                              omega arith,
                                              record {
                                                all = record {
                                                  opens = record {
                                                    has =
                                                        record { runs = record { phase = refl; algorithm = refl; plain = refl }; inside = refl };
                                                    open_yet = refl;
                                                  };
                                                  mine = λ a t f. absurd cc;
                                                  old = λ a t f. absurd cc;
                                                };
                                                holds = refl;
                                                quiet = λ k l o. absurd (o (omega arith));
                                                stores = record { unlocked = refl; inside = λ a t. absurd cc; small = λ a d l. l };
                                              },
                                            ),
                                            (
                                              (omega arith, record { phase = refl; granted = refl; named = refl; unwritten = refl; unentered = refl; limit = omega arith; above = λ r t. low r; greatest = (0, refl, refl) }),
                                              (
                                                (omega arith, record { phase = refl; granted = refl; named = refl; unentered = refl; held = refl; raised = refl; next = refl }),
                                                (
                                                  (
                                                    omega arith,
                                                    record {
                                                      phase = refl;
                                                      holds = refl;
                                                      named = refl;
                                                      spared = refl;
                                                      marked = λ e. absurd cc;
                                                      unstored = refl;
                                                      unlocked = refl;
                                                      disowned = refl;
                                                      unwritten = refl;
                                                      uncommitted = refl;
                                                      plain = λ e. absurd cc;
                                                    },
                                                  ),
                                                  (
                                                    (omega arith, record { phase = refl; reopened = λ e. refl; unlocked = refl; disowned = refl; unwritten = refl; uncommitted = refl; unentered = λ e. refl }),
                                                    tt,
                                                  ),
                                                ),
                                              ),
                                            ),
                                          ),
                                        ),
                                      ),
                                    ),
                                  ),
                                ),
                              ),
                            ),
                          ),
                        ),
                      ),
                    ),
                  ),
                ),
              ),
            ),
          ),
        ),
      ),
    ),
  ),
  refl,
  refl,
  refl,
  refl,
  refl,
  refl,
)
