-- The end without an entry of a promoted attempt that holds records keeps its clauses.
use Rattle.std.proofs.Common.{◌≡◌, ℕ, ◌+◌, ◌*◌, ◌<◌, ◌≤◌, List, Bool, true, false, arith, refl, sym, subst, ap, ◌∙◌, le_refl, le_trans}
use Rattle.std.specs.Prelude.{max, ltb, if◌then◌else◌}
use Rattle.std.proofs.lemmas.Bool.Decides.{nat_tests}
use Rattle.stm_model.specs.declared.alg.Alg.TheVariants.{OrecEager}
use Rattle.stm_model.specs.declared.config.Config.{Config}
use Rattle.stm_model.specs.declared.config.TheConstants.{CLOCK_LIMIT}
use Rattle.rule_base.specs.declared.entries.Cell.{Cell}
use Rattle.rule_base.specs.declared.views.Ownership.{Ownership}
use Rattle.rule_base.specs.declared.views.View.{View}
use Rattle.rule_base.specs.Encodings.{free_record}
use Rattle.rule_base.specs.History.{over, touches, without, upto, word_now, last_write}
use Rattle.rule_base.specs.Lemmas.HistoryLemmas.{upto-all, touches-without, over-without}
use Rattle.rule_base.specs.HistoryRule.{history_projection}
use Rattle.rule_base.specs.Lemmas.HistoryRuleLemmas.{advances-same, history-kept, history-seen, history-raised}
use Rattle.rule_base.specs.Ranks.{Rec, rec_of, rank_one, home_of}
use Rattle.rule_base.specs.Ranks.Rec.{Free, Taken}
use Rattle.rule_base.specs.Lemmas.RecordLemmas.{records-stay, records-given}
use Rattle.rule_base.specs.StepKinds.{view_after, world_after, Nothing, StepLaw}
use Rattle.rule_base.specs.Lemmas.StepsLemmas.{steps-kept, steps-raised}
use Rattle.rule_base.specs.StepsRule.{steps_projection, StepsRule}
use Rattle.rule_base.specs.World.{World}
use Rattle.rule_seq.specs.AttemptLemmas.{attempts-stay, attempts-in}
use Rattle.rule_seq.specs.LockRule.{LockRule}
use Rattle.rule_seq.specs.LockLemmas.{lock_projection-kept}
use Rattle.rule_orec.specs.OrecOwning.{clock_raised}
use Rattle.rule_promoted.proofs.PromotedLaws.{direct_projection-own, suit_projection-own}
use Rattle.rule_promoted.specs.PromotedRule.{direct_projection, DirectRule, OrecSuits, DirectWorld, suit_projection}
use Rattle.rule_promoted.specs.RaisingSteps.{direct_raise_clock, CanDirectRaiseClock, direct_up, CanDirectUp}
use Rattle.rule_promoted.proofs.ReleaseRanks.{next-covers, release-stamps}

rank-clock_raised : (o : Ownership) (r : ℕ) (k : Rec) → rank_one o r k ≡ rank_one (clock_raised o) r k
rank-clock_raised o r (Free u) = refl
rank-clock_raised o r (Taken m) = refl

module _ (good : (ℕ → ℕ) → Type 0) (c : Config) (n : ℕ) where
  -- the clock is raised, and nothing else: what was stored was taken back before
  pub direct_raises_clock : (least : ℕ) → n < c.callers → StepLaw (DirectWorld good c OrecEager n) (direct_raise_clock least) Nothing n (CanDirectRaiseClock least)
  direct_raises_clock least low w r may = record {
    rule = record {
      history = history-seen good c (record w { clock = t }) x n v refl refl refl (λ i. record (w.views n).history { seen = whole i; front = t }) (history-raised good c (history_projection w) t up limit r.history);
      steps = steps (ltb w.clock least) refl;
      lock = subst LockRule (sym (lock_projection-kept w x n v refl refl refl refl)) r.lock;
      attempts = attempts-in w x n v refl may.phase r.attempts;
      records = records-stay w x n v refl up refl refl refl r.records;
      runs = record {
        direct = subst (DirectRule c.words) (sym (direct_projection-own w x n v refl)) (record {
          stored = λ a. d.stored a ∙ ap (λ (k : List Cell). over k a (word_now w.history a)) may.unwritten;
          start = refl;
          front = refl;
          sees = λ a. refl;
          reads_inside = λ a f. absurd cc;
          stores_inside = λ a f. absurd cc;
          stores_small = λ a d l. l;
          unlocked = d.unlocked;
        });
        suits = subst (OrecSuits (home_of c)) (sym (suit_projection-own w x n v refl)) (record {
          stamped = λ e a b. subst (λ (k : ℕ). 2 * last_write w.history a ≤ k) (rank-clock_raised (w.views n).owned (home_of c a) (rec_of (w.records (home_of c a)))) (suits.stamped may.unentered a b);
          uncommitted = suits.uncommitted;
          olds = λ q h. le_trans (suits.olds q h) up;
          older = λ e. absurd cc;
          raised = λ e q h. let k = may.above q h in grind (arith, nat_tests, k);
          locked = suits.locked;
        });
        ring = λ q. absurd cc;
      };
    };
    advances = advances-same w x refl up (le_refl w.done) refl;
    shown = tt;
  }
    where
      t : ℕ
      t = max w.clock least

      x : World
      x = world_after (direct_raise_clock least) n w

      v : View
      v = view_after (direct_raise_clock least) w (w.views n) w.clock

      d : DirectRule c.words (direct_projection n w)
      d = r.runs.direct

      suits : OrecSuits (home_of c) (suit_projection n w)
      suits = r.runs.suits

      up : w.clock ≤ max w.clock least
      up = grind (arith, nat_tests)

      limit : max w.clock least ≤ CLOCK_LIMIT
      limit = let l = may.limit in let k = r.history.limit in grind (arith, nat_tests, l, k)

      -- at most one more
      most : least ≤ w.clock + 1
      most = let g = may.greatest in let o = suits.olds g.0 g.1 in let e = g.2 in omega arith

      -- it has seen the whole history
      whole : (w.views n).history.seen ≡ w.history
      whole = (r.history.known n).seen ∙ (ap (upto w.history) d.front ∙ upto-all w.history (w.clock + 1) w.clock r.history.below (le_refl (w.clock + 1)))

      step_trace : (b : Bool) → (if b then record (w.views n).steps { rises = (w.views n).steps.rises + 1 } else (w.views n).steps).step_trace ≡ (w.views n).steps.step_trace
      step_trace true = refl
      step_trace false = refl

      steps : (b : Bool) → ltb w.clock least ≡ b → StepsRule c (steps_projection x)
      steps true q =
          steps-raised c (direct_raise_clock least) n w 1 low (let m = most in grind (arith, nat_tests, q, m))
          (step_trace (ltb w.clock least))
          (ap (λ (b : Bool). (if b then record (w.views n).steps { rises = (w.views n).steps.rises + 1 } else (w.views n).steps).rises) q)
          r.steps
      steps false q =
          steps-kept c (direct_raise_clock least) n w (grind (arith, nat_tests, q)) (step_trace (ltb w.clock least))
          (ap (λ (b : Bool). (if b then record (w.views n).steps { rises = (w.views n).steps.rises + 1 } else (w.views n).steps).rises) q)
          r.steps

  -- THE STORE OF A RECORD with its old version and one more
  pub direct_ups : (q t : ℕ) → StepLaw (DirectWorld good c OrecEager n) (direct_up q t) Nothing n (CanDirectUp q t)
  direct_ups q t w r may = record {
    rule = record {
      history = history-kept good c w x n v refl refl refl refl r.history;
      steps = steps-kept c (direct_up q t) n w refl refl refl r.steps;
      lock = subst LockRule (sym (lock_projection-kept w x n v refl refl refl refl)) r.lock;
      attempts = attempts-stay w x n v refl refl refl refl r.attempts;
      records = records-given w x n q t v refl refl refl refl refl (let k = suits.raised may.raised q may.held in let e = may.next in omega arith) r.records;
      runs = record {
        direct =
            subst (DirectRule c.words) (sym (direct_projection-own w x n v refl))
            (record {
              stored = d.stored;
              start = d.start;
              front = d.front;
              sees = d.sees;
              reads_inside = d.reads_inside;
              stores_inside = d.stores_inside;
              stores_small = d.stores_small;
              unlocked = d.unlocked;
            });
        suits = subst (OrecSuits (home_of c)) (sym (suit_projection-own w x n v refl)) (record {
          stamped = λ e a b. release-stamps n q t w (next-covers (home_of c) n q t w suits may.held may.next) (2 * last_write w.history a) (home_of c a) (suits.stamped e a b);
          uncommitted = suits.uncommitted;
          olds = λ i h. let k = suits.olds i (was i h) in grind (arith, h, k, touches-without (w.views n).owned.held q i, over-without (w.views n).owned.held q i 0);
          older = λ e. absurd (let f : true ≡ false = sym e ∙ may.unentered in cc);
          raised = λ e i h. let k = suits.raised e i (was i h) in grind (arith, h, k, touches-without (w.views n).owned.held q i, over-without (w.views n).owned.held q i 0);
          locked = λ i h. let k = suits.locked i (was i h) in grind (arith, h, k, touches-without (w.views n).owned.held q i);
        });
        ring = λ e. absurd cc;
      };
    };
    advances = advances-same w x refl (le_refl w.clock) (le_refl w.done) refl;
    shown = tt;
  }
    where
      x : World
      x = world_after (direct_up q t) n w

      v : View
      v = view_after (direct_up q t) w (w.views n) (free_record t)

      d : DirectRule c.words (direct_projection n w)
      d = r.runs.direct

      suits : OrecSuits (home_of c) (suit_projection n w)
      suits = r.runs.suits

      -- what is held still was held
      was : (i : ℕ) → touches (without (w.views n).owned.held q) i ≡ true → touches (w.views n).owned.held i ≡ true
      was i h = grind (arith, h, touches-without (w.views n).owned.held q i)
