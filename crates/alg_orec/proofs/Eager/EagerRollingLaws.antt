-- What a roll back in place of OrecEager comes to.
use Rattle.std.proofs.Common.{ℕ, ◌≡◌, ◌<◌, ◌≤◌, List, ◌∷◌, ◌++◌, length, take, Bool, true, false, refl, sym, ap, ◌∙◌, arith, subst, append_assoc}
use Rattle.std.specs.Prelude.{◌^◌, ◌==◌, not, if◌then◌else◌}
use Rattle.std.proofs.lemmas.List.{length-take-le}
use Rattle.stm_model.specs.Algorithms.{has_records}
use Rattle.stm_model.specs.declared.alg.Alg.{Alg}
use Rattle.stm_model.specs.declared.alg.Alg.TheVariants.{OrecEager}
use Rattle.stm_model.specs.declared.config.Config.{Config}
use Rattle.stm_model.specs.Memories.{is_empty}
use Rattle.rule_base.specs.declared.entries.Cell.{Cell}
use Rattle.rule_base.specs.declared.seats.SeatView.{SeatView}
use Rattle.rule_base.specs.declared.views.TracedStep.{TracedStep}
use Rattle.rule_base.specs.declared.views.View.{View}
use Rattle.rule_base.specs.Bridge.{addresses, items}
use Rattle.rule_base.specs.History.{over, touches, without, Inside, Small}
use Rattle.rule_base.specs.Lemmas.HistoryLemmas.{over-without}
use Rattle.rule_base.specs.StepKinds.{view_after}
use Rattle.rule_base.specs.World.{World}
use Rattle.rule_orec.specs.OrecSteps.{HasOpen, orec_place}
use Rattle.stm_rule.specs.declared.local.Local.{Local}
use Rattle.stm_rule.specs.Attempts.{own_of, IsInside, Keeps, Stands}
use Rattle.stm_rule.specs.EagerKept.{IsEager}
use Rattle.stm_answers.specs.declared.answers.Roll.TheVariants.{Rolled}
use Rattle.stm_answers.specs.Answers.{Rolls, kept_rolled}
use Rattle.stm_answers.specs.Causes.{has_item}
use Rattle.stm_answers.specs.CallerState.{CallerState, known_of, kept_under, written_under}
use Rattle.stm_logs.specs.LogStates.{LogState, rolled, firsts}
use Rattle.stm_gate.proofs.Peeling.{has-touched}
use Rattle.stm_gate.proofs.RollItems.{has-by, has-take, first-addresses, first-fewer}
use Rattle.stm_gate.proofs.Told.{stands-on}
use Rattle.alg_orec.proofs.Eager.EagerNestingLaws.{kept}
use Rattle.alg_orec.proofs.Eager.EagerProving.{plain-of}
use Rattle.alg_orec.proofs.Eager.EagerReleasing.{restore_item}
use Rattle.alg_orec.proofs.NestingOpening.{GoesOn, inside-at, rolls-log}
use Rattle.alg_orec.specs.EagerEnding.{restoring}
use Rattle.alg_orec.specs.EagerNesting.{CanRestoreAfter, RestoresAfter, CanPlaceAgain, PlacesAgain}

-- a word is stored again
pub again-step : {K : Type 0} → (first s t : SeatView K) (more : List TracedStep) (a x y : ℕ) (m : World)
    → s ≡ record first { view = restoring first.view s.view.owned.in_place more }
    → t ≡ record s { view = view_after (orec_place a x) m s.view y }
    → t ≡ record first { view = restoring first.view t.view.owned.in_place (restore_item a x ∷ more) }
again-step {K} first s t more a x y m e p = p ∙ (ap (λ (z : SeatView K). record z { view = view_after (orec_place a x) m z.view y }) e
    ∙ (λ j. record first { view = restoring first.view (sym in_place j) (restore_item a x ∷ more) }))
  where
    in_place : t.view.owned.in_place ≡ record { at = a; value = x } ∷ s.view.owned.in_place
    in_place = ap (λ (z : SeatView K). z.view.owned.in_place) p

pub small-without : (a : ℕ) (cs : List Cell) → Small cs → Small (without cs a)
small-without a cs h b d low = subst (λ (x : ℕ). x < 2 ^ 64) (sym (over-without cs a b d)) (by (a == b))
  where
    by : (q : Bool) → (if q then d else over cs b d) < 2 ^ 64
    by true = low
    by false = h b d low

module _ {good : List ℕ → Type 0} {c : Config} {n : ℕ} {l : Local} {v : View} {q : CallerState} (a : GoesOn good c n l v q) (named : q.alg ≡ OrecEager) (revocable : q.granted ≡ false) where
  eager : v.gate.algorithm ≡ OrecEager
  eager = ap (λ (p : CallerState). p.alg) (sym a.knows) ∙ named

  plain : l.granted ≡ false
  plain = plain-of good c n l v a.inside eager (own_of l) (ap (λ (p : CallerState). p.granted) (sym a.knows) ∙ revocable)

  k : IsEager c l v
  k = kept a named plain

  pub marked : length l.writes.marks ≡ l.depth
  marked = k.marked

  -- no more words are written than the undo log may have items
  pub within : length l.writes.items ≤ l.undo.len
  within = let a = k.shorter in let b = k.most in omega arith

  pub may-restore : CanRestoreAfter c.words l.undo.items l.writes.items v
  may-restore = record {
    has = record { runs = record { phase = a.inside.phase; algorithm = ap has_records eager; plain = k.optimistic.ungranted }; inside = k.inside };
    undo = k.undo;
    placed = k.writes;
    undoable = k.undoable;
    within = k.old_words;
    small = k.small;
  }

  module _ (log : LogState) (d : ℕ) (low : 1 ≤ d) (high : d ≤ l.depth) (is : log ≡ rolled d l.writes) (prefix : firsts log.items ≡ take (length log.items) (firsts l.writes.items)) where
    abbrev left : ℕ
    left = length log.items

    pub fewer : left ≤ length l.writes.items
    fewer = first-fewer log.items l.writes.items prefix

    of-place : addresses log.items ≡ addresses (take left l.writes.items)
    of-place = first-addresses log.items l.writes.items prefix

    was-placed : (a : ℕ) → has_item a log.items ≡ true → touches v.owned.in_place a ≡ true
    was-placed a h = has-touched a v.owned.in_place ∙ (ap (has_item a) (sym k.writes) ∙ has-take a left l.writes.items (sym (has-by a log.items (take left l.writes.items) of-place) ∙ h))

    -- the first words are stored still
    module _ (u : View) (back : RestoresAfter left l.writes.items v u) where
      undo-same : u.owned.undo ≡ v.owned.undo
      undo-same = ap (λ (y : View). y.owned.undo) back.is

      pub may-place-again : CanPlaceAgain c.words log.items u
      may-place-again = record {
        opens = opens-still;
        eager = ap (λ (y : View). y.owned.eager) back.is ∙ k.eager;
        within = subst (λ (cs : List Cell). Inside c.words cs) (sym undo-same) k.old_words;
        placed = of-place ∙ ap addresses (sym back.in_place);
        undoable = λ a h. ap (λ (cs : List Cell). touches cs a) undo-same ∙ k.undoable a (was-placed a h);
        small = back.small;
      }
        where
          opens-still : HasOpen u
          opens-still =
              subst HasOpen (sym back.is)
              (record {
                has = record {
                  runs =
                      record { phase = a.inside.phase; algorithm = ap has_records eager; plain = k.optimistic.ungranted };
                  inside = k.inside;
                };
                open_yet = k.open_yet;
              })

      -- and have the values that they had at the mark
      module _ (w : View) (again : PlacesAgain log.items u w) (wrote : Bool) (some : wrote ≡ not (is_empty log.items)) where
        abbrev m : Local
        m = record l { writes = log; wrote = wrote; depth = d }

        abbrev more : List TracedStep
        more = again.more ++ back.more

        abbrev after : List Cell → View
        after in_place = restoring v in_place more

        path : w ≡ after w.owned.in_place
        path = again.is ∙ ((λ j. restoring (back.is j) w.owned.in_place again.more)
            ∙ (λ j. record v { owned = record v.owned { in_place = w.owned.in_place }; steps = record v.steps { step_trace = sym (append_assoc again.more back.more v.steps.step_trace) j } }))

        keeps-at : (in_place : List Cell) → items in_place ≡ log.items → Small in_place → Keeps c l.algorithm l.granted m (after in_place)
        keeps-at in_place placed small =
            subst (λ (a : Alg). Keeps c a l.granted m (after in_place)) (sym (sym a.inside.named ∙ eager)) (subst (λ (b : Bool). Keeps c OrecEager b m (after in_place)) (sym plain) keeps)
          where
            of-now : (a : ℕ) → touches in_place a ≡ true → touches v.owned.in_place a ≡ true
            of-now a t = was-placed a (ap (has_item a) (sym placed) ∙ (sym (has-touched a in_place) ∙ t))

            keeps : IsEager c m (after in_place)
            keeps = record {
              optimistic =
                  record {
                    unlocked = k.optimistic.unlocked;
                    unfixed = k.optimistic.unfixed;
                    unwritten = k.optimistic.unwritten;
                    uncommitted = k.optimistic.uncommitted;
                    ungranted = k.optimistic.ungranted;
                    not_quiescent = k.optimistic.not_quiescent;
                    unstored = k.optimistic.unstored;
                    rises = k.optimistic.rises;
                  };
              inside = k.inside;
              eager = k.eager;
              open_yet = k.open_yet;
              unraised = k.unraised;
              repaid = k.repaid;
              reads = k.reads;
              locks = k.locks;
              writes = sym placed;
              undo = k.undo;
              wrote = some;
              undoable = λ a t. k.undoable a (of-now a t);
              shorter = (let f = fewer in let h = k.shorter in omega arith);
              most = k.most;
              words = λ a t. k.words a (of-now a t);
              small = small;
              old_words = k.old_words;
              covered = k.covered;
              few = k.few;
              places = k.places;
              olds = k.olds;
              below = k.below;
              committing = λ e. absurd (let no : false ≡ true = sym a.quiet ∙ e in cc);
              marked = ap (λ (q : LogState). length q.marks) is ∙ length-take-le d l.writes.marks (let h = k.marked in omega arith);
              sole = k.sole;
            }

        inside : IsInside good c n m (after w.owned.in_place)
        inside = inside-at a log wrote d w.owned.in_place more (keeps-at w.owned.in_place again.in_place again.small)

        pub stands-rolled : Stands good c n (record l { writes = log; wrote = wrote; depth = d }) w
        stands-rolled =
            stands-on good c n l m v w a.inside.phase a.stands refl refl
            (ap (λ (y : LogState). y.len) is ∙ a.stands.lengths.0, a.stands.lengths.1) (ap (λ (y : View). y.gate.holds) path)
            (subst (λ (y : View). IsInside good c n m y) (sym path) inside)

        pub rolls-back : Rolls good c n d Rolled (known_of v (own_of l)) (known_of w (own_of (record l { writes = log; wrote = wrote; depth = d })))
        rolls-back = subst (λ (y : View). Rolls good c n d Rolled (known_of v (own_of l)) (known_of y (own_of m))) (sym path)
            (rolls-log a (ap has_records eager) plain log wrote d w.owned.in_place more is (let h = k.marked in omega arith) kept-still
            ((λ j. written_under (eager j) (k.optimistic.ungranted j) (after w.owned.in_place) (own_of m)) ∙ again.in_place) inside)
          where
            kept-still : (known_of (after w.owned.in_place) (own_of m)).kept ≡ kept_rolled v.gate.algorithm (known_of v (own_of l)).kept (known_of (after w.owned.in_place) (own_of m)).log.writes
            kept-still = ap (λ (b : Alg). kept_under b (after w.owned.in_place) (own_of m)) eager
                ∙ sym (λ j. kept_rolled (eager j) (kept_under (eager j) v (own_of l)) (known_of (after w.owned.in_place) (own_of m)).log.writes)
