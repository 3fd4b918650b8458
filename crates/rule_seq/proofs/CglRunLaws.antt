-- Every list of CGL's steps keeps the rule, which holds at the opening.
use Rattle.std.proofs.Common.{ℕ, List, replicate, true, false, ◌≡◌, refl, sym, subst, ap, ◌∙◌, arith}
use Rattle.stm_model.specs.declared.config.Config.{Config}
use Rattle.rule_base.specs.Bridge.{of_words}
use Rattle.rule_base.specs.Lemmas.BridgeLemmas.{words_of-zeros}
use Rattle.stm_model.specs.Configs.{IsConfig}
use Rattle.rule_base.proofs.Lemmas.RunLemmas.{keeps-along}
use Rattle.rule_base.specs.StepKinds.{world_after}
use Rattle.rule_base.specs.World.{World}
use Rattle.rule_seq.specs.CglRule.{CglWorld}
use Rattle.stm_model.specs.declared.alg.Alg.{Alg}
use Rattle.stm_model.specs.Algorithms.{takes_lock, irrevocable_under}
use Rattle.rule_seq.specs.CglRuns.{CglStep, cgl_kind, CglMay, CglKeepsAlong, CglOpens, CglCommits}
use Rattle.rule_seq.specs.CglRuns.CglStep.{acquires_lock, loads_start, loads_heap, stores_heap, stores_clock, frees_lock, loads_undo, loads_limit, stores_back}
use Rattle.rule_seq.proofs.CglOpening.{cgl_world-opening}
use Rattle.rule_seq.specs.CglLaws as laws

one_step : (good : (ℕ → ℕ) → Type 0) (c : Config) (n : ℕ) (s : CglStep) (w : World) → CglWorld good c w → CglMay good c n s (w.views n) → CglWorld good c (world_after (cgl_kind n s) n w)
one_step good c n acquires_lock w r m = (laws.acquires_lock good c n w r m.1).rule
one_step good c n loads_start w r m = (laws.loads_start good c n w r m.1).rule
one_step good c n (loads_heap a) w r m = (laws.loads_heap good c n a w r m.1).rule
one_step good c n (stores_heap a x) w r m = (laws.stores_heap good c n a x w r m.1).rule
one_step good c n (stores_clock t) w r m = (laws.stores_clock good c n t m.0 w r m.1).rule
one_step good c n frees_lock w r m = (laws.frees_lock good c n w r m.1).rule
one_step good c n (loads_undo a) w r m = (laws.loads_undo good c n a w r m.1).rule
one_step good c n (loads_limit grants) w r m = (laws.loads_limit good c n grants w r m.1).rule
one_step good c n (stores_back a x) w r m = (laws.stores_back good c n a x w r m.1).rule

pub cgl_keeps_along_lem : (good : (ℕ → ℕ) → Type 0) (c : Config) → CglKeepsAlong good c
cgl_keeps_along_lem good c = keeps-along cgl_kind (CglMay good c) (CglWorld good c) (one_step good c)

pub cgl_opens_lem : (good : List ℕ → Type 0) (c : Config) → IsConfig c → good (replicate c.words 0) → CglOpens (of_words good c.words) c
cgl_opens_lem good c config start = cgl_world-opening (of_words good c.words) c config (subst good (sym (words_of-zeros c.words)) start)

pub cgl_commits_lem : (good : (ℕ → ℕ) → Type 0) (c : Config) → CglCommits good c
cgl_commits_lem good c gates a x phase alg unheld callers clock inside small keeps = (
  (
    (callers, record { phase = phase; algorithm = ap takes_lock alg; free = refl }),
    (
      (callers, record { has = record { phase = phase; algorithm = ap takes_lock alg; taken = refl }; unstarted = refl }),
      (
        (callers, record { has = record { phase = phase; algorithm = ap takes_lock alg; taken = refl }; started = refl; inside = inside }),
        (
          (
            callers,
            record {
              has = record { phase = phase; algorithm = ap takes_lock alg; taken = refl };
              started = refl;
              inside = inside;
              small = small;
              undoable = λ e.
                  absurd (let f : irrevocable_under (gates 0).algorithm false false ≡ true =
                  ap (λ (a : Alg). irrevocable_under a false false) alg in
                  let g : true ≡ false = sym f ∙ e in cc);
            },
          ),
          (
            (callers, record { has = record { phase = phase; algorithm = ap takes_lock alg; taken = refl }; started = refl; free = unheld; time = refl; limit = omega arith; wrote = λ e. cc; keeps = keeps }),
            (
              (callers, record { has = record { phase = phase; algorithm = ap takes_lock alg; taken = refl }; unstored = refl }),
              tt,
            ),
          ),
        ),
      ),
    ),
  ),
  refl,
)
