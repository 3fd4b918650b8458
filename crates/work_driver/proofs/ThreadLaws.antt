-- A turn that finds the clock at its limit.
use Rattle.std.proofs.Common.{ℕ, ◌≡◌, ◌<◌, ◌≤◌, ◌+◌, ◌^◌, false, List, [], ◌∷◌, length, arith, sym, ap, ◌∙◌, subst, inl, inr}
use Rattle.std.specs.Prelude.{Option, Some, None, MatchOption}
use Rattle.work_script.specs.declared.workload.Item.{Item}
use Rattle.stm_model.specs.declared.stop.Stop.TheVariants as stops
use Rattle.stm_answers.specs.declared.answers.Begin.TheVariants as begins
use Rattle.stm_answers.specs.declared.answers.Commit.TheVariants as commits
use Rattle.stm_answers.specs.declared.answers.Irrev.TheVariants as irrevs
use Rattle.stm_rule.specs.declared.stm.Stm.{Stm}
use Rattle.stm_tx.specs.Descs.{known}
use Rattle.work_trace.specs.declared.said.Phase.{Phase}
use Rattle.work_trace.specs.declared.said.Phase.TheVariants.{Between, Inside}
use Rattle.work_trace.specs.declared.said.Said.{Said}
use Rattle.work_trace.specs.declared.said.Said.TheVariants.{TryBegin, Reply, Stopped, TryCancel, TryIrrevocable, TryCommit, TryClose, Looked, Installed, Reserved, Idle, Dropped, Reopened}
use Rattle.work_trace.specs.Places.{CallerProgress, after, clock_of}
use Rattle.work_trace.specs.Turns.{BeforeTx, IsOver, MaySay}
use Rattle.work_worker.specs.declared.worker.Worker.{Worker}
use Rattle.work_worker.specs.Workers.{IsSame, IsUnderWay, Loaded, Sound, Starved, Turned, WhenInside, place_of}
use Rattle.work_worker.specs.RiseCovers.{CountsNext, CoversBut, uncovered_at, uncovered_by}
use Rattle.work_worker.proofs.RiseCoverLaws.{alone-covers-but, none-failed, covers-all, covers-left, same-uncovered, turned-counts, turned-covers-but}
use Rattle.work_driver.specs.AllWorkers.{Enough, IsCovered, MetLimit}
use Rattle.work_driver.proofs.ScheduleLaws.{full-between, self-same}

-- a transaction is still to do
full-before : (at : CallerProgress) (said : Said) (clock : ℕ) → clock_of said ≡ Some clock → MaySay at said → (at.phase ≡ Inside → BeforeTx at.left) → BeforeTx (after at said).left
full-before at (TryBegin (begins.Begun alg)) clock e m here = absurd cc
full-before at (TryBegin (begins.Closed gate)) clock e m here = absurd cc
full-before at (TryBegin (begins.Held word)) clock e m here = absurd cc
full-before at (TryBegin (begins.ClockFull c)) clock e m here = m.1
full-before at (Reply op reply) clock e m here = absurd cc
full-before at (Stopped op (stops.Conflict cause)) clock e m here = absurd cc
full-before at (Stopped op (stops.Full limit)) clock e m here = absurd cc
full-before at (Stopped op (stops.ClockFull c)) clock e m here = here m.0.0
full-before at (TryCancel c) clock e m here = absurd cc
full-before at (TryIrrevocable irrevs.Granted) clock e m here = absurd cc
full-before at (TryIrrevocable (irrevs.Busy caller status)) clock e m here = absurd cc
full-before at (TryIrrevocable (irrevs.Taken gate)) clock e m here = absurd cc
full-before at (TryIrrevocable (irrevs.Conflict cause)) clock e m here = absurd cc
full-before at (TryIrrevocable (irrevs.ClockFull c)) clock e (inl m) here = here m.0
full-before at (TryIrrevocable (irrevs.ClockFull c)) clock e (inr m) here = here m.0
full-before at (TryCommit (commits.Committed time)) clock e m here = absurd cc
full-before at (TryCommit (commits.ReadOnly time)) clock e m here = absurd cc
full-before at (TryCommit (commits.Conflict cause)) clock e m here = absurd cc
full-before at (TryCommit (commits.Again word had now)) clock e m here = absurd cc
full-before at (TryCommit (commits.ClockFull c)) clock e m here = here m.0
full-before at (TryClose c) clock e m here = absurd cc
full-before at (Looked l) clock e m here = absurd cc
full-before at (Installed alg) clock e m here = absurd cc
full-before at (Reserved reads writes) clock e m here = absurd cc
full-before at Idle clock e m here = absurd cc
full-before at Dropped clock e m here = absurd m
full-before at Reopened clock e m here = absurd m

module _ {K : Type 0} (good : List ℕ → Type 0) (stm : Stm K) (u w : Worker K) (said : Said) (clock : ℕ) (s : Sound good stm u) (t : Turned good stm MaySay u said w) (full : clock_of said ≡ Some clock) where
  pub halts-between : w.phase ≡ Between
  halts-between = ap (λ (p : CallerProgress). p.phase) t.now ∙ full-between (place_of u) said clock full t.here

  pub halts-limit : MetLimit w clock
  halts-limit =
      let found = subst (λ o. MatchOption o (Unit {0}) (λ c. (2 ^ 62 ≤ c) × Loaded (known w.desc) c)) full t.found in
      let way : (u.phase ≡ Inside) → IsUnderWay good stm.config.words u = λ e. subst (λ (p : Phase). WhenInside p (IsUnderWay good stm.config.words u)) e s.under_way in
      (found.0, found.1, subst BeforeTx (sym (ap (λ (p : CallerProgress). p.left) t.now)) (full-before (place_of u) said clock full t.here (λ e. (way e).here)))

-- one that was refused memory stands as it did
module _ {K : Type 0} (good : List ℕ → Type 0) (stm : Stm K) (u w : Worker K) (t : Starved good stm u w) where
  pub starved-same : IsSame false u w
  starved-same = subst (IsSame false u) (sym t.still) (self-same u)

-- who says that nothing is left has nothing to do, by its text or by its policy
pub idle-through : {K : Type 0} (good : List ℕ → Type 0) (stm : Stm K) (u w : Worker K) (said : Said) → Turned good stm MaySay u said w → said ≡ Idle → (w.items_left.now ≡ []) × (w.chosen ≡ None)
idle-through good stm u w said t is =
    let now : place_of w ≡ place_of u = t.now ∙ ap (after (place_of u)) is in
    let over : IsOver (place_of u) = subst (MaySay (place_of u)) is t.here in
    (ap (λ (p : CallerProgress). p.left) now ∙ over.1, ap (λ (p : CallerProgress). p.chosen) now ∙ over.2)

-- what stays so of a worker from turn to turn: what is uncovered, and what is counted
pub record KeepsCovered {K : Type 0} (stm : Stm K) (u w : Worker K) : Type 0 where
  pub covers : (uncovered each most : ℕ) → Enough stm most u → most + 3 ≤ each → CoversBut uncovered each most u → CoversBut uncovered each most w
  pub enough : (most : ℕ) → Enough stm most u → Enough stm most w
  pub counts : CountsNext u → CountsNext w

pub covered-self : {K : Type 0} (stm : Stm K) (u : Worker K) → KeepsCovered stm u u
covered-self stm u = record { covers = λ uncovered each most e wide p. p; enough = λ most e. e; counts = λ h. h }

some-items : (left : List Item) → BeforeTx left → 0 < length left
some-items [] b = absurd b
some-items (i ∷ items) b = omega arith

module _ {K : Type 0} (good : List ℕ → Type 0) (stm : Stm K) where
  few-failed : (w : Worker K) (most : ℕ) → Sound good stm w → Enough stm most w → w.must ≡ false → w.failed ≤ most
  few-failed w most s (inl much) off = let f = s.counted off in omega arith
  few-failed w most s (inr e) off = let f = e.1 in omega arith

  -- what stays so covers all that is done
  pub covered-kept : (first w : Worker K) → Sound good stm w → KeepsCovered stm first w → IsCovered stm first w
  covered-kept first w s k = record {
    all = λ uncovered each most e wide counts p. covers-all uncovered each most w (k.counts counts) (few-failed w most s (k.enough most e)) (omega (arith, wide)) (k.covers uncovered each most e wide p);
  }

  pub covered-starved : (first u w : Worker K) → Starved good stm u w → KeepsCovered stm first u → IsCovered stm first w
  covered-starved first u w t k = covered-kept first w t.sound (subst (KeepsCovered stm first) (sym t.still) k)

  module _ (first u w : Worker K) (said : Said) (s : Sound good stm u) (t : Turned good stm MaySay u said w) (kept : KeepsCovered stm first u) where
    enough-next : (most : ℕ) → Enough stm most u → Enough stm most w
    enough-next most (inl much) = inl much
    enough-next most (inr e) = inr (e.0, none-failed good stm u said w s MaySay t e.0 e.1, e.2)

    covers-next : (uncovered each most : ℕ) → Enough stm most u → most + 3 ≤ each → CoversBut uncovered each most u → CoversBut (uncovered + uncovered_by said) each most w
    covers-next uncovered each most (inl much) wide p = turned-covers-but good stm u said w s uncovered each most t much wide p
    covers-next uncovered each most (inr e) wide p = alone-covers-but good stm u said w s uncovered each most t e.1 e.2 wide p

    covers-after : (uncovered each most : ℕ) (clock : Option ℕ) → clock_of said ≡ clock → Enough stm most u → most + 3 ≤ each → CoversBut uncovered each most u → CoversBut (uncovered + uncovered_at clock) each most w
    covers-after uncovered each most clock is e wide p =
        subst (λ k. CoversBut (uncovered + k) each most w) (same-uncovered (place_of u) said t.here ∙ ap uncovered_at is) (covers-next uncovered each most e wide p)

    -- a turn that found no full clock
    pub covered-next : clock_of said ≡ None → KeepsCovered stm first w
    covered-next calm = record {
      covers = λ uncovered each most e wide p. (let h = covers-after uncovered each most None calm (kept.enough most e) wide (kept.covers uncovered each most e wide p) in omega (arith, h));
      enough = λ most e. enough-next most (kept.enough most e);
      counts = λ h. turned-counts good stm u said w s t (kept.counts h);
    }

    -- one that found it full is the last, and leaves an item that covers it
    pub covered-full : (clock : ℕ) → clock_of said ≡ Some clock → BeforeTx w.items_left.now → IsCovered stm first w
    covered-full clock full left = record {
      all = λ uncovered each most e wide counts p.
          let h = covers-after uncovered each most (Some clock) full (kept.enough most e) wide (kept.covers uncovered each most e wide p) in
          let r = covers-left (uncovered + 1) each most w (some-items w.items_left.now left) (few-failed w most t.sound (enough-next most (kept.enough most e))) (omega (arith, wide)) h in
          omega (arith, r);
    }

    -- nothing is left
    pub covered-over : clock_of said ≡ None → IsCovered stm first w
    covered-over calm = covered-kept first w t.sound (covered-next calm)
