-- The law of each kind of step of RingSW with all that it shows, by the one rule.
use Rattle.std.proofs.Common.{◌≡◌, ℕ, ◌+◌, ◌-◌, ◌≤◌, Bool, true, false, arith, refl, sym, subst, ap, ◌∙◌, le_trans}
use Rattle.std.specs.Prelude.{not, if◌then◌else◌}
use Rattle.std.proofs.lemmas.Bool.Decides.{nat_tests}
use Rattle.stm_model.specs.declared.config.Config.{Config}
use Rattle.rule_base.specs.declared.views.Phase.TheVariants.{Idle, In}
use Rattle.rule_base.specs.declared.views.View.{View}
use Rattle.rule_base.specs.GateRule.{may_hold}
use Rattle.rule_base.specs.History.{over, touches, upto, word_at, word_now, Explains}
use Rattle.rule_base.specs.Lemmas.HistoryLemmas.{over-miss, word_now-upto}
use Rattle.rule_base.specs.InstallLaws.{nobody-quiescent}
use Rattle.rule_base.specs.InstallSteps.{HasChecked}
use Rattle.rule_base.specs.Regime.{Regime}
use Rattle.rule_base.specs.Regime.Regime.{Running}
use Rattle.rule_base.specs.Lemmas.RegimeLemmas.{regime-inside}
use Rattle.rule_base.specs.RunProjection.{run_projection}
use Rattle.rule_base.specs.StepKinds.{StepLaw}
use Rattle.rule_base.specs.World.{World}
use Rattle.rule_promoted.specs.PromotedSteps.{ring_look_grant, CanRingGrant, ring_move_grant, CanRingMoveGrant}
use Rattle.rule_ring.specs.RingRule.{late, ring_part, RingReader, RingRule}
use Rattle.rule_ring.specs.RingSteps.{RunsRing, HasRing, ring_begin, CanRingBegin, ring_look, CanRingLook, ring_again, CanRingAgain, moved, ring_move, CanRingMove, ring_tick, HasTurn}
use Rattle.rule_ring.specs.SlotFilter.{slot_filter}
use Rattle.rule_ring.specs.Slots.{writes_of, untouched, clear}
use Rattle.rule_seq.specs.AttemptLemmas.{busy-turn}
use Rattle.stm_rule.proofs.KindLaws.BesideLaws.{sole-of, not_quiescent}
use Rattle.stm_rule.specs.Kinds.Frames.{is-caller, only-caller}
use Rattle.stm_rule.specs.Product.{Runs, Core, Invariant}
use Rattle.stm_rule.proofs.KindLaws.RestLaws.{nobody-commits, nobody-enters}
use Rattle.rule_base.specs.Fence.{without_fence}
use Rattle.stm_rule.proofs.KindLaws.Lifted.{ring_begins, ring_looks, ring_agains, ring_moves, ring_ticks, look_grants, move_grants}
use Rattle.alg_ring.specs.RingFindings.{FindsStart, FindsLook, FindsAgain, FindsMove, FindsLevel, FindsTick}

module _ (good : (ℕ → ℕ) → Type 0) (c : Config) (n : ℕ) where
  -- the clauses of RingSW stand while an attempt of it isn't promoted
  rule-of : (w : World) → Core good c w → RunsRing (w.views n) → RingRule slot_filter c.ring c.words (ring_part (run_projection w))
  rule-of w g m = subst (λ (q : Regime). Runs c q (run_projection w)) (regime-inside c w n g.gate g.install m.phase m.plain ∙ ap Running m.algorithm) g.running

  reader-of : (w : World) → Core good c w → HasRing (w.views n) → RingReader slot_filter c.ring c.words w.clock w.done w.base w.history ((ring_part (run_projection w)).views n)
  reader-of w g m = (rule-of w g m.runs).reader n m.inside

  -- who has no entry to write back isn't late
  unlate : (w : World) (m : ℕ) → ((w.views m).ring_commit.committed ≡ true → ⊥) → late ((ring_part (run_projection w)).views m) ≡ false
  unlate w m none = go (w.views m).ring_commit.committed none
    where
      go : (b : Bool) → (b ≡ true → ⊥) → (if b then not (w.views m).ring_commit.finished else false) ≡ false
      go true h = absurd (h refl)
      go false h = refl

  -- with one caller alone, who is not idle is that one
  same-caller : (w : World) → Core good c w → (w.views n).gate.phase ≡ In → c.callers ≡ 1 → (m : ℕ) → ((w.views m).gate.phase ≡ Idle → ⊥) → n ≡ m
  same-caller w g inside one m busy = let k = is-caller good c w g m busy in let z = only-caller good c w n g inside one in omega arith

  -- with one caller alone, who has no entry under way, DONE is the clock
  done-sole : (w : World) → Core good c w → RunsRing (w.views n) → (w.views n).ring_commit.committed ≡ false → (w.views n).attempt.entered ≡ false → c.callers ≡ 1 → w.done ≡ w.clock
  done-sole w g runs early plain one = (rule-of w g runs).level
      (λ m.
      unlate w m (λ t.
      let same =
      same-caller w g runs.phase one m (λ idle. let i : In ≡ Idle = sym (g.attempts.busy m (busy-turn (w.views m) t)) ∙ idle in cc) in
      let f : true ≡ false = sym t ∙ (ap (λ (k : ℕ). (w.views k).ring_commit.committed) (sym same) ∙ early) in cc))
      (λ m. by m (w.views m).attempt.entered refl)
    where
      by : (m : ℕ) (b : Bool) → (w.views m).attempt.entered ≡ b → b ≡ false
      by m true t =
          absurd (let same =
          same-caller w g runs.phase one m (λ idle. let f : true ≡ false = sym (g.attempts.entered m t) ∙ ap may_hold idle in cc) in
          let f : true ≡ false = sym t ∙ (ap (λ (k : ℕ). (w.views k).attempt.entered) (sym same) ∙ plain) in cc)
      by m false t = refl

  -- nobody has raised the clock as the gate's holder while an attempt runs that doesn't know it so
  unraised : (w : World) → Core good c w → RunsRing (w.views n) → (w.views n).gate.quiescent ≡ false → (m : ℕ) → (w.views m).attempt.entered ≡ false
  unraised w g runs free m = by (w.views m).attempt.entered refl
    where
      by : (b : Bool) → (w.views m).attempt.entered ≡ b → b ≡ false
      by true t = absurd (nobody-quiescent c w n runs.phase free g.gate g.install (is-caller good c w g n (λ idle. let i : In ≡ Idle = sym runs.phase ∙ idle in cc)) m (g.raised (g.gate.named n runs.phase ∙ runs.algorithm) m t))
      by false t = refl

  -- the clock stands under the lock
  stands : (w : World) → Core good c w → RunsRing (w.views n) → (w.views n).lock.taken ≡ true → (w.views n).ring_commit.ticked ≡ true → w.clock ≡ (w.views n).ring_commit.clock
  stands w g runs taken ticked = sym (((rule-of w g runs).turn n taken).tick ticked)

  -- what was read is the memory at the start
  reads-stand : (w : World) → Core good c w → HasRing (w.views n) → Explains (word_now (upto w.history (w.views n).attempt.start)) (w.views n).attempt.reads
  reads-stand w g m a = subst (λ (k : ℕ). over (w.views n).attempt.reads a k ≡ k) (sym (word_now-upto w.history (w.views n).attempt.start a)) ((reader-of w g m).sees a)

  -- what is watched is the same at all times from the start to the clock that the check loaded
  still : (w : World) → Core good c w → CanRingMove slot_filter (w.views n) → (t a : ℕ) → (w.views n).attempt.start ≤ t
      → t ≤ (w.views n).ring_read.clock → touches (w.views n).ring_read.watched a ≡ true
      → word_at w.history t a ≡ word_at w.history (w.views n).attempt.start a
  still w g may t a low up watched =
      let sum : t ≡ (w.views n).attempt.start + (t - (w.views n).attempt.start) = omega arith in
      ap (λ (s : ℕ). word_at w.history s a) sum ∙ clear slot_filter w.history (w.clock + 1) (w.views n).attempt.start a g.history.below (t - (w.views n).attempt.start)
      (λ e l m. untouched slot_filter w.history e a (w.views n).ring_read.watched (λ h. may.clear e l (omega arith) (slot_filter.word (writes_of w.history e)) (λ i low has. (reader-of w g may.has).sure e i may.checking may.sure l has h)) watched)

  -- the new start lies between the old one and the clock that the check loaded
  moved-between : (v : View) (done : ℕ) → v.attempt.start ≤ done → v.attempt.start ≤ v.ring_read.clock → (v.attempt.start ≤ moved v done) × (moved v done ≤ v.ring_read.clock)
  moved-between v done p q = (grind (arith, nat_tests, p, q), grind (arith, nat_tests, p, q))

  -- so what was read is the memory at the new start
  reads-move : (w : World) → Core good c w → CanRingMove slot_filter (w.views n) → Explains (word_now (upto w.history (moved (w.views n) w.done))) (w.views n).attempt.reads
  reads-move w g may a = subst (λ (k : ℕ). over (w.views n).attempt.reads a k ≡ k) (sym (word_now-upto w.history (moved (w.views n) w.done) a)) (by (touches (w.views n).attempt.reads a) refl)
    where
      between : ((w.views n).attempt.start ≤ moved (w.views n) w.done) × (moved (w.views n) w.done ≤ (w.views n).ring_read.clock)
      between = moved-between (w.views n) w.done (reader-of w g may.has).start ((reader-of w g may.has).onward may.checking)

      by : (b : Bool) → touches (w.views n).attempt.reads a ≡ b → over (w.views n).attempt.reads a (word_at w.history (moved (w.views n) w.done) a) ≡ word_at w.history (moved (w.views n) w.done) a
      by true t = subst (λ (k : ℕ). over (w.views n).attempt.reads a k ≡ k) (sym (still w g may (moved (w.views n) w.done) a between.0 between.1 ((reader-of w g may.has).watched a t))) ((reader-of w g may.has).sees a)
      by false t = over-miss (w.views n).attempt.reads a (word_at w.history (moved (w.views n) w.done) a) t

  pub begins_beside : StepLaw (Invariant good c) ring_begin (FindsStart good c) n CanRingBegin
  begins_beside w g may = let o = ring_begins good c n w g may in record {
    rule = o.rule;
    advances = o.advances;
    shown = record {
      begins = o.shown;
      sole = λ early plain one. done-sole (without_fence w) g.core may.runs early plain one ∙ sole-of good c n (without_fence w) g.core may.runs.phase one;
      not_quiescent = λ free. not_quiescent good c n (without_fence w) g.core free (w.views n).gate.quiescent refl;
    };
  }

  pub looks_beside : StepLaw (Invariant good c) ring_look (FindsLook good c) n CanRingLook
  looks_beside w g may = let o = ring_looks good c n w g may in record {
    rule = o.rule;
    advances = o.advances;
    shown = record { looks = o.shown; sole = sole-of good c n (without_fence w) g.core may.has.runs.phase; ticked = stands (without_fence w) g.core may.has.runs; settled = g.core.install.time n; kept = reads-stand (without_fence w) g.core may.has };
  }

  pub agains_beside : StepLaw (Invariant good c) (ring_again c.ring) (FindsAgain good c) n CanRingAgain
  agains_beside w g may = let o = ring_agains good c n w g may in record {
    rule = o.rule;
    advances = o.advances;
    shown = record { later = le_trans (reader-of (without_fence w) g.core may.has).start (rule-of (without_fence w) g.core may.has.runs).done };
  }

  pub moves_beside : StepLaw (Invariant good c) ring_move (FindsMove good c) n (CanRingMove slot_filter)
  moves_beside w g may = let o = ring_moves good c n w g may in record {
    rule = o.rule;
    advances = o.advances;
    shown = record { moves = o.shown; kept = reads-move (without_fence w) g.core may; level = λ taken early ticked free. o.shown.level taken early ticked (unraised (without_fence w) g.core may.has.runs free) };
  }

  pub ticks_beside : StepLaw (Invariant good c) ring_tick (FindsTick good c) n HasTurn
  ticks_beside w g may = let o = ring_ticks good c n w g may in record {
    rule = o.rule;
    advances = o.advances;
    shown = record { sole = sole-of good c n (without_fence w) g.core may.has.runs.phase; within = g.core.history.limit; later = le_trans (reader-of (without_fence w) g.core may.has).start (rule-of (without_fence w) g.core may.has.runs).done };
  }

  pub look_grants_beside : StepLaw (Invariant good c) ring_look_grant (FindsLook good c) n CanRingGrant
  look_grants_beside w g may = let o = look_grants good c n w g may in record {
    rule = o.rule;
    advances = o.advances;
    shown = record { looks = o.shown; sole = sole-of good c n (without_fence w) g.core may.has.runs.phase; ticked = stands (without_fence w) g.core may.has.runs; settled = g.core.install.time n; kept = reads-stand (without_fence w) g.core may.has };
  }

  pub move_grants_beside : StepLaw (Invariant good c) ring_move_grant (FindsLevel good c) n (CanRingMoveGrant slot_filter)
  move_grants_beside w g may = let o = move_grants good c n w g may in record {
    rule = o.rule;
    advances = o.advances;
    shown = record {
      moves = o.shown;
      kept = reads-move (without_fence w) g.core may.move;
      level = λ plain. (rule-of (without_fence w) g.core may.grant.has.runs).level
          (λ m. unlate (without_fence w) m (λ t. nobody-commits good c n (without_fence w) g.core checked may.grant.unlocked may.grant.unwritten may.grant.uncommitted m t))
          (nobody-enters good c n (without_fence w) g.core checked plain) ∙ g.core.install.time n may.grant.quiescent;
    };
  }
    where
      checked : HasChecked c.callers n (w.views n)
      checked k low other = g.core.install.alone n k may.grant.quiescent low other
