-- What the steps by which OrecEager takes an attempt back come to.
use Rattle.std.proofs.Common.{ℕ, ◌≡◌, ◌<◌, ◌≤◌, ◌+◌, List, [], ◌∷◌, ◌++◌, length, Bool, true, false, refl, sym, ap, ◌∙◌, arith, subst, append_assoc}
use Rattle.std.specs.Prelude.{Some, ltb, if◌then◌else◌}
use Rattle.stm_model.specs.declared.config.Config.{Config}
use Rattle.stm_model.specs.declared.config.TheConstants.{CLOCK_LIMIT}
use Rattle.stm_model.specs.Memories.{item_at}
use Rattle.rule_base.specs.declared.entries.Cell.{Cell}
use Rattle.rule_base.specs.declared.layout.At.TheVariants.{Clock}
use Rattle.rule_base.specs.declared.views.Act.TheVariants.{Raise}
use Rattle.rule_base.specs.declared.views.TracedStep.{TracedStep}
use Rattle.rule_base.specs.declared.views.View.{View}
use Rattle.rule_base.specs.Bridge.{items}
use Rattle.rule_base.specs.Lemmas.BridgeLemmas.{item-some}
use Rattle.rule_base.specs.History.{over, touches}
use Rattle.rule_base.specs.StepKinds.{Tells}
use Rattle.rule_orec.specs.OrecOwning.{clock_raised}
use Rattle.rule_orec.specs.OrecSteps.{orec_raise_clock, CanOrecRaiseClock}
use Rattle.stm_gate.specs.Leaving.{CanLeave, left}
use Rattle.stm_gate.specs.LeavingLaws.{IsUnmade}
use Rattle.stm_gate.specs.Logging.{item-touched}
use Rattle.stm_gate.proofs.Peeling.{no-items}
use Rattle.stm_rule.specs.declared.local.Local.{Local}
use Rattle.stm_rule.specs.Attempts.{IsOutside}
use Rattle.alg_orec.specs.RecordFindings.{FindsClock}
use Rattle.alg_orec.specs.EagerEnding.{restoring, AllBelow, CanRestoreAll, RestoresAll, IsNewest, CanReleaseAbove, CanGiveBack, GivesBack, CanAbortEager, AbortsEager}
use Rattle.alg_orec.specs.Locking.{holding_still, ReleasesAll}

pub length-none : (ws : List (ℕ × ℕ)) → length ws ≡ 0 → ws ≡ []
length-none [] e = refl
length-none (w ∷ ws) e = absurd (omega arith)

-- THE NEWEST of the versions that the records had
module _ (ws : List (ℕ × ℕ)) (held : List Cell) (is : ws ≡ items held) (x : ℕ) (top : IsNewest x ws) where
  pub newest-most : (r : ℕ) → touches held r ≡ true → over held r 0 ≤ x
  newest-most r t = top.0 r (over held r 0) (ap (item_at r) is ∙ item-touched held r t)

  pub newest-one : 0 < length ws → (r : ℕ) × (touches held r ≡ true) × (over held r 0 ≡ x)
  newest-one some = let p = top.1 some in let q = item-some held p.0 x (sym (ap (item_at p.0) is) ∙ p.1) in (p.0, q.0, q.1)

  pub newest-low : 0 < length ws → AllBelow CLOCK_LIMIT held → x < CLOCK_LIMIT
  newest-low some below = let o = newest-one some in let b = below o.0 o.1 in let e = o.2 in omega arith

-- the clock was found, and raised where it was lower
abbrev pub raise_clock_item : ℕ → ℕ → TracedStep
raise_clock_item least found = record { place = Clock; act = Raise least; found = Some found }

module _ (c : Config) (l : Local) (v : View) (k : CanGiveBack c l v) where
  -- no record is held
  pub gives-none : length l.locks.items ≡ 0 → GivesBack v v
  gives-none none =
      record {
        owned = v.owned;
        rises = v.steps.rises;
        more = [];
        is = refl;
        handed = no-items v.owned.held (sym k.locks ∙ length-none l.locks.items none);
        rose = (omega arith, omega arith);
        level = λ e. refl;
      }

  pub may-restore : CanRestoreAll c l v
  may-restore = record { has = k.opens.has; undo = k.undo; undoable = k.undoable; words = k.words }

  module _ (some : 0 < length l.locks.items) (x : ℕ) (top : IsNewest x l.locks.items) (u : View) (h : RestoresAll v u) where
    most : (r : ℕ) → touches v.owned.held r ≡ true → over v.owned.held r 0 ≤ x
    most = newest-most l.locks.items v.owned.held k.locks x top

    one : (r : ℕ) × (touches v.owned.held r ≡ true) × (over v.owned.held r 0 ≡ x)
    one = newest-one l.locks.items v.owned.held k.locks x top some

    pub low : x < CLOCK_LIMIT
    low = newest-low l.locks.items v.owned.held k.locks x top some k.below

    pub may-raise_clock : (least : ℕ) → least ≡ x + 1 → CanOrecRaiseClock least u
    may-raise_clock least is = subst (CanOrecRaiseClock least) (sym h.is) (record {
      has = record { runs = record { phase = k.opens.has.runs.phase; algorithm = k.opens.has.runs.algorithm; plain = k.opens.has.runs.plain }; inside = k.opens.has.inside };
      restored = refl;
      not_quiescent = λ quiescent. (let b = k.earlier quiescent one.0 one.1 in let e = one.2 in omega arith);
      limit = (let b = low in omega arith);
      above = λ r t. (let m = most r t in omega arith);
      greatest = (one.0, one.1, (let e = one.2 in omega arith));
    })

    module _ (least found : ℕ) (w : View) (t : Tells (orec_raise_clock least) (FindsClock c) u found w) where
      abbrev restored : View
      restored = restoring v [] h.more

      abbrev raised : Bool → ℕ
      raised b = if b then v.steps.rises + 1 else v.steps.rises

      abbrev risen : Bool → View
      risen b = record v { owned = record v.owned { in_place = []; undo = []; raised = true }; steps = record v.steps { rises = raised b; step_trace = raise_clock_item least found ∷ (h.more ++ v.steps.step_trace) } }

      raise_clock_path : w ≡ risen (ltb found least)
      raise_clock_path =
          t.2
          ∙ (ap (λ (y : View).
          record y {
            owned = clock_raised y.owned;
            steps = record (if ltb found least then record y.steps { rises = y.steps.rises + 1 } else y.steps) {
              step_trace =
                  raise_clock_item least found ∷ (if ltb found least then record y.steps { rises = y.steps.rises + 1 } else y.steps).step_trace;
            };
          })
          h.is ∙ by (ltb found least))
        where
          by : (b : Bool)
              → record restored {
                owned = clock_raised restored.owned;
                steps = record (if b then record restored.steps { rises = restored.steps.rises + 1 } else restored.steps) {
                  step_trace = raise_clock_item least found
                      ∷ (if b then record restored.steps { rises = restored.steps.rises + 1 } else restored.steps).step_trace;
                };
              } ≡ risen b
          by true = refl
          by false = refl

      pub may-release : CanReleaseAbove c l w
      may-release = subst (CanReleaseAbove c l) (sym raise_clock_path) (record {
        has = record { runs = record { phase = k.opens.has.runs.phase; algorithm = k.opens.has.runs.algorithm; plain = k.opens.has.runs.plain }; inside = k.opens.has.inside };
        open_yet = k.opens.open_yet;
        raised = refl;
        repaid = k.repaid;
        undone = refl;
        locks = k.locks;
        places = k.places;
        below = k.below;
      })

      pub gives-all : (z : View) → ReleasesAll w z → GivesBack v z
      gives-all z q = record {
        owned = record v.owned { in_place = []; undo = []; raised = true; held = [] };
        rises = raised (ltb found least);
        more = q.more ++ raise_clock_item least found ∷ h.more;
        is = q.is ∙ (ap (λ (y : View). holding_still y [] q.more) raise_clock_path
            ∙ ap
            (λ (s : List TracedStep).
            record v {
              owned = record v.owned { in_place = []; undo = []; raised = true; held = [] };
              steps = record v.steps { rises = raised (ltb found least); step_trace = s };
            })
            (sym (append_assoc q.more (raise_clock_item least found ∷ h.more) v.steps.step_trace)));
        handed = refl;
        rose = by (ltb found least);
        level = λ e. absurd (let f : l.locks.items ≡ [] = k.locks ∙ ap items e in let g = ap (λ (ws : List (ℕ × ℕ)). length ws) f in omega arith);
      }
        where
          by : (b : Bool) → (v.steps.rises ≤ raised b) × (raised b ≤ v.steps.rises + 1)
          by true = (omega arith, omega arith)
          by false = (omega arith, omega arith)

-- the attempt ends
module _ (c : Config) (l : Local) (v : View) (k : CanAbortEager c l v) (u : View) (h : GivesBack v u) where
  pub may-leave : CanLeave u
  may-leave = subst CanLeave (sym h.is) (record {
    phase = k.gives.opens.has.runs.phase;
    unlocked = k.unlocked;
    unfixed = k.unfixed;
    disowned = h.handed;
    unwritten = k.unwritten;
    uncommitted = k.uncommitted;
    ungranted = λ e. k.gives.opens.has.runs.plain;
    plain = λ e. k.unentered;
    unstored = λ e. k.unstored;
    marked = λ e q. absurd (let f : true ≡ false = sym q ∙ k.unentered in cc);
  })

  pub takes-back : (n : ℕ) (z : View) → IsOutside z → z ≡ left n u → AbortsEager n v z
  takes-back n z out is = record {
    outside = out;
    before = u;
    unmade =
        subst (IsUnmade v) (sym h.is)
        (record {
          carried = record {
            named = refl;
            base = refl;
            installs = refl;
            fence = refl;
            step_trace = (h.more, refl);
            unlocked = k.unlocked;
            unwritten = k.unwritten;
          };
          history = refl;
        });
    rose = subst (λ (y : View). (v.steps.rises ≤ y.steps.rises) × (y.steps.rises ≤ v.steps.rises + 1)) (sym h.is) h.rose;
    level = λ e. ap (λ (y : View). y.steps.rises) h.is ∙ h.level e;
    is = is;
  }
