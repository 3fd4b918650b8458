-- The records' steps are taken: a run that commits under OrecLazy, and promoted under OrecEager.
use Rattle.std.proofs.Common.{◌≡◌, ℕ, ◌<◌, ◌≤◌, [], ◌∷◌, true, false, refl, sym, subst, ap, ◌∙◌, le_refl, drop, arith}
use Rattle.std.specs.Prelude.{◌^◌}
use Rattle.stm_model.specs.declared.alg.Alg.TheVariants.{OrecLazy}
use Rattle.stm_model.specs.declared.config.Config.{Config}
use Rattle.rule_base.specs.Lemmas.EncodingLemmas.{fenced-none}
use Rattle.rule_base.specs.History.{over, touches, Inside, Small}
use Rattle.rule_base.specs.Ranks.{home_of}
use Rattle.stm_rule.specs.Runs.CoreRuns.{CoreRecords, small_config, record_steps}
use Rattle.stm_rule.proofs.Taken.{◌▸◌, may-install}

low : (c : Config) (a : ℕ) → home_of (small_config c) a ≡ 0
low c a = omega arith

pub core_records_lem : (good : (ℕ → ℕ) → Type 0) (c : Config) → CoreRecords good c
core_records_lem good c x inside small keeps keeps_twice = (
  may-install good c 1 OrecLazy (drop 11 (record_steps x)) (
      (omega arith, record { runs = record { phase = refl; algorithm = refl; plain = refl }; disowned = refl })
      ▸ (omega arith, record { has = record { runs = record { phase = refl; algorithm = refl; plain = refl }; inside = refl }; its = refl })
      ▸ (omega arith, (record { has = record { runs = record { phase = refl; algorithm = refl; plain = refl }; inside = refl }; sampled = refl; from = refl; version = omega arith }, fenced-none 0))
      ▸ (omega arith, record { opens = record { has = record { runs = record { phase = refl; algorithm = refl; plain = refl }; inside = refl }; open_yet = refl }; loaded = refl; its = refl; inside = inside })
      ▸ (omega arith, record { runs = record { phase = refl; algorithm = refl; plain = refl }; inside = refl })
      ▸ (omega arith, record { opens = record { has = record { runs = record { phase = refl; algorithm = refl; plain = refl }; inside = refl }; open_yet = refl }; unraised = refl; new = λ e. absurd cc })
      ▸ (
        omega arith,
        (
          record {
            has = record { runs = record { phase = refl; algorithm = refl; plain = refl }; inside = refl };
            not_quiescent = refl;
            from = refl;
            limit = omega arith;
            ready = record {
              open_yet = refl;
              unraised = refl;
              covered = λ a t. ap (λ (k : ℕ). touches (record { at = 0; value = 0 } ∷ []) k) (low c a);
              backed = λ a t. t;
              backs = λ a d. grind arith;
              there = λ a d f. grind (arith, f);
            };
            wrote = λ e. cc;
            writes_inside = stores_in x inside;
            writes_small = stores_low x small;
            keeps = keeps 0;
          },
          λ b e. fenced-none b,
        ),
      )
      ▸ (omega arith, record { has = record { runs = record { phase = refl; algorithm = refl; plain = refl }; inside = refl }; owed = refl; value = refl })
      ▸ (omega arith, record { gives = record { has = record { runs = record { phase = refl; algorithm = refl; plain = refl }; inside = refl }; held = refl; clear = record { back = λ a e. refl; undo = λ a e. refl } }; done = refl; time = refl })
      ▸ (omega arith, record { phase = refl; reopened = λ e. refl; unlocked = refl; disowned = refl; unwritten = refl; uncommitted = refl; unentered = λ e. refl })
      ▸ (omega arith, refl)
      ▸ (omega arith, refl)
      ▸ (omega arith, record { phase = refl; aimed = refl })
      ▸ (omega arith, record { phase = refl; reopened = λ e. absurd cc; unlocked = refl; disowned = refl; unwritten = refl; uncommitted = refl; unentered = λ e. refl })
      ▸ (omega arith, record { holds = refl; quiet = λ k l o. absurd (o (omega arith)) })
      ▸ (omega arith, record { closing = λ e. refl; quiescent = refl; time = refl })
      ▸ (omega arith, record { closing = λ e. refl; quiescent = refl; time = refl })
      ▸ (omega arith, record { phase = refl; guarded = refl; ungiven = refl; quiescent = refl; rebased = refl; completed = refl; even = λ e. absurd cc })
      ▸ (omega arith, record { phase = refl; absent = refl; named = refl; guarded = refl; ungiven = refl; unentered = refl })
      ▸ (omega arith, refl)
      ▸ (omega arith, refl)
      ▸ (omega arith, record { runs = record { phase = refl; algorithm = refl; plain = refl }; disowned = refl })
      ▸ (omega arith, record { has = record { runs = record { phase = refl; algorithm = refl; plain = refl }; inside = refl }; its = refl })
      ▸ (omega arith, (record { has = record { runs = record { phase = refl; algorithm = refl; plain = refl }; inside = refl }; sampled = refl; from = refl; version = omega arith }, fenced-none 0))
      ▸ (omega arith, record { opens = record { has = record { runs = record { phase = refl; algorithm = refl; plain = refl }; inside = refl }; open_yet = refl }; loaded = refl; its = refl; inside = inside })
      ▸ (omega arith, record { runs = record { phase = refl; algorithm = refl; plain = refl }; inside = refl })
      ▸ (omega arith, record { runs = record { phase = refl; algorithm = refl; plain = refl }; inside = refl })
      ▸ (omega arith, record { opens = record { has = record { runs = record { phase = refl; algorithm = refl; plain = refl }; inside = refl }; open_yet = refl }; unraised = refl; new = λ e. omega arith })
      ▸ (omega arith, (record { opens = record { has = record { runs = record { phase = refl; algorithm = refl; plain = refl }; inside = refl }; open_yet = refl }; held = refl; unwritten = refl }, fenced-none 0))
      ▸ (omega arith, record { opens = record { has = record { runs = record { phase = refl; algorithm = refl; plain = refl }; inside = refl }; open_yet = refl }; eager = refl; undoable = refl })
      ▸ (omega arith, refl)
      ▸ (omega arith, record { phase = refl; named = refl; spared = refl; free = refl })
      ▸ (omega arith, record { holds = refl; quiet = λ k l o. absurd (o (omega arith)) })
      ▸ (
        omega arith,
        record {
          all = record {
            opens =
                record { has = record { runs = record { phase = refl; algorithm = refl; plain = refl }; inside = refl }; open_yet = refl };
            mine = λ a t f. ap (λ (k : ℕ). touches (record { at = 0; value = 1 } ∷ []) k) (low c a);
            old = λ a t f. subst (λ (k : ℕ). over (record { at = 0; value = 1 } ∷ []) k 0 ≤ 1) (sym (low c a)) (le_refl 1);
          };
          holds = refl;
          quiet = λ k l o. absurd (o (omega arith));
          stores = record { unlocked = refl; inside = stores_in x inside; small = stores_low x small };
        },
      )
      ▸ (omega arith, (record { granted = refl; inside = inside }, fenced-none 0))
      ▸ (omega arith, (record { granted = refl; inside = inside; small = small }, fenced-none 0))
      ▸ (omega arith, record { phase = refl; granted = refl; named = refl; time = refl; limit = omega arith; wrote = λ e. cc; keeps = keeps_twice })
      ▸ (omega arith, record { granted = refl; algorithm = refl; entered = refl; held = refl; time = refl })
      ▸ (omega arith, record { closing = λ e. absurd cc; quiescent = refl; time = refl })
      ▸ (omega arith, record { closing = λ e. absurd cc; quiescent = refl; time = refl })
      ▸ (omega arith, record { phase = refl; holds = refl; named = refl; spared = refl; marked = λ e. (refl, refl); unstored = refl; unlocked = refl; disowned = refl; unwritten = refl; uncommitted = refl; plain = λ e. absurd cc })
      ▸ (omega arith, record { phase = refl; reopened = λ e. refl; unlocked = refl; disowned = refl; unwritten = refl; uncommitted = refl; unentered = λ e. refl })
      ▸ (omega arith, refl)
      ▸ (omega arith, refl)
      ▸ (omega arith, record { runs = record { phase = refl; algorithm = refl; plain = refl }; disowned = refl })
      ▸ (omega arith, record { has = record { runs = record { phase = refl; algorithm = refl; plain = refl }; inside = refl }; its = refl })
      ▸ (omega arith, (record { has = record { runs = record { phase = refl; algorithm = refl; plain = refl }; inside = refl }; sampled = refl; from = refl; version = omega arith }, fenced-none 0))
      ▸ (omega arith, record { opens = record { has = record { runs = record { phase = refl; algorithm = refl; plain = refl }; inside = refl }; open_yet = refl }; loaded = refl; its = refl; inside = inside })
      ▸ (omega arith, refl)
      ▸ (omega arith, record { phase = refl; named = refl; spared = refl; free = refl })
      ▸ (omega arith, record { holds = refl; quiet = λ k l o. absurd (o (omega arith)) })
      ▸ (
        omega arith,
        record {
          opens =
              record { has = record { runs = record { phase = refl; algorithm = refl; plain = refl }; inside = refl }; open_yet = refl };
          mine = λ a t f. absurd (let g : true ≡ false = sym t ∙ f in cc);
          old = λ a t f. absurd (let g : true ≡ false = sym t ∙ f in cc);
        },
      )
      ▸ (
        omega arith,
        record {
          last = record {
            opens =
                record { has = record { runs = record { phase = refl; algorithm = refl; plain = refl }; inside = refl }; open_yet = refl };
            its = refl;
            checking = refl;
            rest = λ a t. refl;
          };
          quiescent = refl;
          upto = refl;
          stores = record { unlocked = refl; inside = λ a t. absurd cc; small = λ a d l. l };
        },
      )
      ▸ (omega arith, (record { granted = refl; inside = inside; small = small }, fenced-none 0))
      ▸ (omega arith, record { phase = refl; granted = refl; named = refl; time = refl; limit = omega arith; wrote = λ e. cc; keeps = keeps x })
      ▸ (omega arith, record { closing = λ e. absurd cc; quiescent = refl; time = refl })
      ▸ (omega arith, record { closing = λ e. absurd cc; quiescent = refl; time = refl })
      ▸ (omega arith, record { phase = refl; holds = refl; named = refl; spared = refl; marked = λ e. (refl, refl); unstored = refl; unlocked = refl; disowned = refl; unwritten = refl; uncommitted = refl; plain = λ e. absurd cc })
      ▸ (omega arith, record { phase = refl; reopened = λ e. refl; unlocked = refl; disowned = refl; unwritten = refl; uncommitted = refl; unentered = λ e. refl })
      ▸ tt
      ),
  refl,
)
  where
    stores_in : (x : ℕ) → 0 < c.words → Inside c.words (record { at = 0; value = x } ∷ [])
    stores_in x l a t = grind (arith, t, l)

    stores_low : (x : ℕ) → x < 2 ^ 64 → Small (record { at = 0; value = x } ∷ [])
    stores_low x l a d k = grind (arith, l, k)
