-- What is told and learnt: caller 0 commits an entry and tells, and caller 1, which learns the note, has seen it.
use Rattle.std.proofs.Common.{◌≡◌, ℕ, ◌<◌, List, [], ◌∷◌, refl, arith}
use Rattle.std.specs.Prelude.{◌^◌}
use Rattle.stm_model.specs.declared.config.Config.{Config}
use Rattle.rule_base.specs.Lemmas.EncodingLemmas.{fenced-none}
use Rattle.rule_base.specs.History.{Keeps}
use Rattle.rule_base.specs.Opening.{opening_world}
use Rattle.rule_seq.specs.CglRuns.CglStep.{acquires_lock, loads_start, loads_heap, stores_heap, stores_clock, frees_lock}
use Rattle.stm_rule.specs.Runs.CoreRuns.{one_cell}
use Rattle.stm_rule.specs.Runs.CoreRuns.CoreStep.{announces, loads_gate, departs, of_cgl, hears}
use Rattle.stm_rule.specs.Runs.NoteRuns.{Shared, Deed, AllMay, after_deeds}
use Rattle.stm_rule.specs.Runs.NoteRuns.Deed.{steps, tells, learns}

abbrev pub told_run : ℕ → List (ℕ × Deed)
told_run x =
    (0, steps announces) ∷ (0, steps loads_gate) ∷ (0, steps (of_cgl acquires_lock)) ∷ (0, steps (of_cgl loads_start))
    ∷ (0, steps (of_cgl (loads_heap 0))) ∷ (0, steps (of_cgl (stores_heap 0 x))) ∷ (0, steps (of_cgl (stores_clock 1)))
    ∷ (0, steps (of_cgl frees_lock)) ∷ (0, steps departs) ∷ (0, tells) ∷ (1, learns 0) ∷ (1, steps hears) ∷ []

abbrev pub opening_shared : Config → Shared
opening_shared c = record { world = opening_world c; notes = [] }

abbrev pub two_callers : Config → Config
two_callers c = record c { callers = 2; clock = 0 }

-- with two callers and from clock 0 these deeds are allowed, and caller 1 has then seen the entry
abbrev pub CoreNotes : ((ℕ → ℕ) → Type 0) → Config → Type 0
CoreNotes good c = (x : ℕ) → 0 < c.words → x < 2 ^ 64 → Keeps good (one_cell 0) (one_cell x)
    → AllMay good (two_callers c) (told_run x) (opening_shared (two_callers c))
    × (((after_deeds good (two_callers c) (told_run x) (opening_shared (two_callers c))).world.views 1).history.seen
    ≡ record { time = 1; caller = 0; number = 0; reads = one_cell 0; writes = one_cell x } ∷ [])

pub core_notes_lem : (good : (ℕ → ℕ) → Type 0) (c : Config) → CoreNotes good c
core_notes_lem good c x inside small keeps = (
  (
    (omega arith, refl),
    (
      (omega arith, refl),
      (
        (omega arith, record { phase = refl; algorithm = refl; free = refl }),
        (
          (omega arith, record { has = record { phase = refl; algorithm = refl; taken = refl }; unstarted = refl }),
          (
            (omega arith, (record { has = record { phase = refl; algorithm = refl; taken = refl }; started = refl; inside = inside }, fenced-none 0)),
            (
              (omega arith, (record { has = record { phase = refl; algorithm = refl; taken = refl }; started = refl; inside = inside; small = small; undoable = λ e. absurd cc }, fenced-none 0)),
              (
                (omega arith, record { has = record { phase = refl; algorithm = refl; taken = refl }; started = refl; free = refl; time = refl; limit = omega arith; wrote = λ e. cc; keeps = keeps }),
                (
                  (omega arith, record { has = record { phase = refl; algorithm = refl; taken = refl }; unstored = refl }),
                  (
                    (omega arith, record { phase = refl; reopened = λ e. refl; unlocked = refl; disowned = refl; unwritten = refl; uncommitted = refl; unentered = λ e. refl }),
                    (
                      refl,
                      (
                        (omega arith, refl),
                        (
                          (omega arith, tt),
                          tt,
                        ),
                      ),
                    ),
                  ),
                ),
              ),
            ),
          ),
        ),
      ),
    ),
  ),
  refl,
)
