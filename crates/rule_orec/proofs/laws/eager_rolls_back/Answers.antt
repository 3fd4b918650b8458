use Rattle.std.proofs.Common.{ℕ, ◌≡◌, ◌<◌, List, [], ◌∷◌, Bool, true, false, refl, sym, ap, ◌∙◌, arith}
use Rattle.std.specs.Prelude.{◌==◌, ◌%◌, if◌then◌else◌}
use Rattle.stm_model.specs.Algorithms.{has_records}
use Rattle.stm_model.specs.declared.config.Config.{Config}
use Rattle.rule_base.specs.declared.entries.Cell.{Cell}
use Rattle.rule_base.specs.Bridge.{of_words}
use Rattle.rule_base.specs.History.{touches, over}
use Rattle.rule_orec.specs.OrecSteps.{is_eager}
use Rattle.rule_orec.specs.EagerRuns.{EagerRollsBack}
use Rattle.rule_orec.proofs.laws.eager_rolls_back.Goals as goal

abbrev one_held : List Cell
one_held = record { at = 0; value = 0 } ∷ []

low : (r : ℕ) → over one_held r 0 < 1
low r = by (0 == r)
  where
    by : (t : Bool) → (if t then 0 else 0) < 1
    by true = omega arith
    by false = omega arith

eager_rolls_back_lem : (good : (ℕ → ℕ) → Type 0) (c : Config) → EagerRollsBack good c
eager_rolls_back_lem good c gates phase alg plain quiescent callers words home =
    let recs : has_records (gates 0).algorithm ≡ true = ap has_records alg in
    let eager : is_eager (gates 0).algorithm ≡ true = ap is_eager alg in
    let held : touches one_held (0 % c.records) ≡ true = ap (touches one_held) home in (
      (
        (callers, record { runs = record { phase = phase; algorithm = recs; plain = plain }; disowned = refl }),
        (
          (callers, record { opens = record { has = record { runs = record { phase = phase; algorithm = recs; plain = plain }; inside = refl }; open_yet = refl }; unraised = refl; new = λ e. omega arith }),
          (
            (callers, record { opens = record { has = record { runs = record { phase = phase; algorithm = recs; plain = plain }; inside = refl }; open_yet = refl }; held = held; unwritten = refl }),
            (
              (callers, record { opens = record { has = record { runs = record { phase = phase; algorithm = recs; plain = plain }; inside = refl }; open_yet = refl }; eager = eager; undoable = refl }),
              (
                (callers, record { opens = record { has = record { runs = record { phase = phase; algorithm = recs; plain = plain }; inside = refl }; open_yet = refl }; eager = eager; undoable = refl }),
                (
                  (callers, record { has = record { runs = record { phase = phase; algorithm = recs; plain = plain }; inside = refl }; logged = refl; value = refl }),
                  (
                    (callers, record { opens = record { has = record { runs = record { phase = phase; algorithm = recs; plain = plain }; inside = refl }; open_yet = refl }; eager = eager; held = held; unwritten = refl; inside = words }),
                    (
                      (
                        callers,
                        record {
                          has = record { runs = record { phase = phase; algorithm = recs; plain = plain }; inside = refl };
                          restored = refl;
                          not_quiescent = λ e. absurd (let f : true ≡ false = sym e ∙ quiescent in cc);
                          limit = omega arith;
                          above = λ r e. low r;
                          greatest = (0, refl, refl);
                        },
                      ),
                      (
                        (
                          callers,
                          record {
                            gives = record {
                              has =
                                  record { runs = record { phase = phase; algorithm = recs; plain = plain }; inside = refl };
                              held = refl;
                              clear = record { back = λ a e. refl; undo = λ a e. refl };
                            };
                            undone = refl;
                            raised = refl;
                            next = refl;
                          },
                        ),
                        tt,
                      ),
                    ),
                  ),
                ),
              ),
            ),
          ),
        ),
      ),
      refl,
      refl,
      refl,
      refl,
      refl,
    )

pub returns : goal.returns
returns g c = λ rule config. eager_rolls_back_lem (of_words (g.K.MemRule.good rule) config.words) config
