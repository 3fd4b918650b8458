use Rattle.std.proofs.Common.{ℕ, ◌≡◌, true, false, refl, ap, arith}
use Rattle.stm_model.specs.Algorithms.{takes_lock, irrevocable_under}
use Rattle.stm_model.specs.declared.alg.Alg.{Alg}
use Rattle.stm_model.specs.declared.config.Config.{Config}
use Rattle.rule_base.specs.Bridge.{of_words}
use Rattle.rule_seq.specs.SerialRuns.{SerialRollsBack}
use Rattle.rule_seq.proofs.laws.serial_rolls_back.Goals as goal

serial_rolls_back_lem : (good : (ℕ → ℕ) → Type 0) (c : Config) → SerialRollsBack good c
serial_rolls_back_lem good c gates phase alg unheld callers clock words keeps =
    let locks : takes_lock (gates 0).algorithm ≡ true = ap takes_lock alg in
    let open_yet : irrevocable_under (gates 0).algorithm false false ≡ false = ap (λ (a : Alg). irrevocable_under a false false) alg in (
      (
        (callers, record { phase = phase; algorithm = locks; free = refl }),
        (
          (callers, record { has = record { phase = phase; algorithm = locks; taken = refl }; unstarted = refl }),
          (
            (callers, record { has = record { phase = phase; algorithm = locks; taken = refl }; started = refl }),
            (
              (callers, record { has = record { phase = phase; algorithm = locks; taken = refl }; started = refl; revocable = open_yet; fresh = refl }),
              (
                (callers, record { has = record { phase = phase; algorithm = locks; taken = refl }; started = refl; inside = omega arith; small = omega arith; undoable = λ e. refl }),
                (
                  (callers, record { has = record { phase = phase; algorithm = locks; taken = refl }; started = refl; inside = omega arith }),
                  (
                    (callers, record { has = record { phase = phase; algorithm = locks; taken = refl }; started = refl; inside = omega arith; small = omega arith; undoable = λ e. refl }),
                    (
                      (callers, record { has = record { phase = phase; algorithm = locks; taken = refl }; started = refl; revocable = open_yet; fresh = refl }),
                      (
                        (callers, record { has = record { phase = phase; algorithm = locks; taken = refl }; started = refl; inside = words; small = omega arith; undoable = λ e. refl }),
                        (
                          (callers, record { has = record { phase = phase; algorithm = locks; taken = refl }; started = refl; inside = omega arith; small = omega arith; undoable = λ e. refl }),
                          (
                            (callers, record { has = record { phase = phase; algorithm = locks; taken = refl }; started = refl; logged = refl; value = refl }),
                            (
                              (callers, record { has = record { phase = phase; algorithm = locks; taken = refl }; started = refl; free = unheld; time = refl; limit = omega arith; wrote = λ e. cc; keeps = keeps }),
                              ((callers, record { has = record { phase = phase; algorithm = locks; taken = refl }; unstored = refl }), tt),
                            ),
                          ),
                        ),
                      ),
                    ),
                  ),
                ),
              ),
            ),
          ),
        ),
      ),
      refl,
      refl,
      refl,
    )

pub returns : goal.returns
returns g c = λ rule config. serial_rolls_back_lem (of_words (g.K.MemRule.good rule) config.words) config
