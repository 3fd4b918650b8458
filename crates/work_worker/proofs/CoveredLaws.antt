-- What each answer raised the clock by, and what covers it at the place of its turn.
use Rattle.std.proofs.Common.{ℕ, suc, ◌≡◌, ◌≤◌, ◌+◌, ◌*◌, Bool, true, false, List, [], ◌∷◌, length, refl, sym, ap, ◌∙◌, arith, subst, inl, inr}
use Rattle.std.proofs.Math.Nat.{mul-suc}
use Rattle.std.specs.Prelude.{◌⊎◌, ◌&&◌, not, leb, Option, Some, None, ◌||◌}
use Rattle.stm_model.specs.Algorithms.{entry_rise, quit_rise}
use Rattle.stm_model.specs.AlgorithmLaws.{entry-low, install-low, quit-low, quit-none}
use Rattle.stm_model.specs.Memories.{is_empty}
use Rattle.stm_model.specs.declared.alg.Alg.{Alg}
use Rattle.stm_model.specs.declared.stop.Stop.{Stop}
use Rattle.stm_model.specs.declared.stop.Stop.TheVariants as stops
use Rattle.work_profile.specs.declared.outcome.Outcome.TheVariants as outcomes
use Rattle.work_profile.specs.declared.policy.Policy.{Policy}
use Rattle.work_profile.specs.declared.policy.Policy.TheVariants.{Fixed}
use Rattle.work_profile.specs.Profiles.{with_outcome}
use Rattle.stm_rule.specs.declared.stm.Stm.{Stm}
use Rattle.work_script.specs.declared.op.Op.{Op}
use Rattle.work_script.specs.declared.report.Kind.{Kind}
use Rattle.work_script.specs.declared.report.Kind.TheVariants.{W, R, C}
use Rattle.work_script.specs.declared.workload.Item.{Item}
use Rattle.work_script.specs.declared.workload.Item.TheVariants.{Tx, Switch, Reserve}
use Rattle.stm_answers.specs.Answers.{Quits, Stays}
use Rattle.stm_answers.specs.CallerState.{CallerState, caller_of, is_irrevocable, is_none, has_written}
use Rattle.stm_answers.specs.declared.answers.Begin.TheVariants as begins
use Rattle.stm_answers.specs.declared.answers.Cancel.TheVariants as cancels
use Rattle.stm_answers.specs.declared.answers.CloseGate.TheVariants as closes
use Rattle.stm_answers.specs.declared.answers.Commit.TheVariants as commits
use Rattle.stm_answers.specs.declared.answers.Irrev.{Irrev}
use Rattle.stm_answers.specs.declared.answers.Irrev.TheVariants as irrevs
use Rattle.stm_answers.specs.declared.answers.Look.TheVariants as looks
use Rattle.stm_tx.specs.Descs.{known}
use Rattle.work_trace.specs.Adapting.{asked_by, outcome_of}
use Rattle.work_trace.specs.declared.said.Phase.TheVariants.{Between, Inside, Closing, Quiet}
use Rattle.work_trace.specs.declared.said.Said.{Said}
use Rattle.work_trace.specs.declared.said.Said.TheVariants.{TryBegin, Reply, Stopped, TryCancel, TryIrrevocable, TryCommit, TryClose, Looked, Installed, Reserved, Idle, Dropped, Reopened}
use Rattle.work_trace.specs.Places.{after, ended, failed_next, given_up, granted_at, in_the_way, is_forced, most_failed, must_next, rest_of, irrevocable, switched}
use Rattle.work_trace.specs.Turns.{BeforeTx, Comes, Lengthens, MaySay, MayWind, MustSwitchTo, SwitchesTo}
use Rattle.work_worker.specs.declared.worker.Worker.{Worker}
use Rattle.work_worker.specs.RiseCovers.{raised, failed_rises, Covered, dropped_of, due_of, uncovered_by}
use Rattle.work_worker.proofs.RiseLaws.{raised-in, raised-out, stops-quits}
use Rattle.work_worker.specs.Tellings.{Tells, StoppedBy}
use Rattle.work_worker.specs.Workers.{place_of, IsAt, IsUnderWay, Sound, WhenInside}

-- an attempt that had to be irrevocable before it went on, and went on, is so
irrevocable-then : (must certain : Bool) → (must && not certain) ≡ false → must ≡ true → certain ≡ true
irrevocable-then true true h e = refl
irrevocable-then true false h e = absurd cc
irrevocable-then false certain h e = absurd cc

-- one item less to do
pub each-item : (each : ℕ) (left : List Item) → length left ≡ suc (length (rest_of left)) → each * length left ≡ each * length (rest_of left) + each
each-item each left e = ap (λ n. each * n) e ∙ mul-suc each (length (rest_of left))

pub tx-less : (left : List Item) → BeforeTx left → length left ≡ suc (length (rest_of left))
tx-less [] b = absurd b
tx-less (Tx caller script ∷ items) b = refl
tx-less (Switch caller alg ∷ items) b = absurd b
tx-less (Reserve caller reads writes ∷ items) b = absurd b

-- a policy asks for one switch at most
due-low : (c : Option Alg) → due_of c ≤ 1
due-low None = omega arith
due-low (Some alg) = omega arith

switch-less : (alg : Alg) (left : List Item) → SwitchesTo alg left → length left ≡ suc (length (rest_of left))
switch-less alg [] b = absurd b
switch-less alg (Tx caller script ∷ items) b = absurd b
switch-less alg (Switch caller to ∷ items) b = refl
switch-less alg (Reserve caller reads writes ∷ items) b = absurd b

reserve-less : (reads writes : ℕ) (left : List Item) → Lengthens reads writes left → length left ≡ suc (length (rest_of left))
reserve-less reads writes [] b = absurd b
reserve-less reads writes (Tx caller script ∷ items) b = absurd b
reserve-less reads writes (Switch caller alg ∷ items) b = absurd b
reserve-less reads writes (Reserve caller r w ∷ items) b = refl

-- at most `most` rises are those of attempts of one item
pub failed_rises-low : (most failed : ℕ) (must : Bool) → (must ≡ false → failed ≤ most) → failed_rises most failed must ≤ most
failed_rises-low most failed true few = omega arith
failed_rises-low most failed false few = few refl

-- an attempt that is counted covers one rise; one that must be irrevocable has none to cover
way-covers : (most failed rise : ℕ) (must : Bool) → (must ≡ false → failed + 1 ≤ most) → rise ≤ 1 → (must ≡ true → rise ≡ 0)
    → failed_rises most failed must + rise ≤ failed_rises most (failed_next must failed) (must_next must failed)
way-covers most failed rise true few low none = let e = none refl in omega arith
way-covers most failed rise false few low none = by (leb most_failed (failed + 1))
  where
    by : (b : Bool) → failed + rise ≤ failed_rises most (failed + 1) b
    by true = let f = few refl in omega arith
    by false = omega arith

-- and so does one whose log was too short
full-covers : (most failed rise : ℕ) (must : Bool) → must ≡ false → (must ≡ false → failed + 1 ≤ most) → rise ≤ 1 → failed_rises most failed must + rise ≤ most
full-covers most failed rise true e few low = absurd cc
full-covers most failed rise false e few low = let f = few refl in omega arith

module _ {K : Type 0} (good : List ℕ → Type 0) (stm : Stm K) (u : Worker K) (s : Sound good stm u) where
  pub under : u.phase ≡ Inside → IsUnderWay good stm.config.words u
  under e = subst (λ p. WhenInside p (IsUnderWay good stm.config.words u)) e s.under_way

  pub runs : u.phase ≡ Inside → (known u.desc).running ≡ true
  runs e = subst (λ p. IsAt good stm.config (caller_of u.desc.who.role) p (known u.desc)) e s.at

  idles : u.phase ≡ Between → (known u.desc).running ≡ false
  idles e = (subst (λ p. IsAt good stm.config (caller_of u.desc.who.role) p (known u.desc)) e s.at).1

  closing-now : u.phase ≡ Closing → (known u.desc).running ≡ false
  closing-now e = (subst (λ p. IsAt good stm.config (caller_of u.desc.who.role) p (known u.desc)) e s.at).running

  quiets : u.phase ≡ Quiet → (known u.desc).running ≡ false
  quiets e = (subst (λ p. IsAt good stm.config (caller_of u.desc.who.role) p (known u.desc)) e s.at).0.running

  -- an attempt that must become irrevocable and is not yet has written nothing
  unwritten : u.phase ≡ Inside → u.must ≡ true → is_irrevocable (known u.desc) ≡ false → has_written (known u.desc) ≡ false
  unwritten e must off = let a = under e in let clean = sym a.going.writer ∙ a.waits must (a.going.irrevocable ∙ off) in (λ j. clean j || not (is_none (a.unrolled clean j)))

  -- an operation stops no attempt that must not fail
  unforced : (op : Op) (stop : Stop) (x : CallerState) → Comes op (place_of u) → StoppedBy good stm.config (caller_of u.desc.who.role) op stop (known u.desc) x → u.must ≡ false
  unforced op stop x comes t = by u.must refl
    where
      by : (b : Bool) → u.must ≡ b → b ≡ false
      by false e = refl
      by true e =
          let certain = sym (under comes.0).going.irrevocable ∙ irrevocable-then u.must (irrevocable (place_of u)) comes.1 e in
          let still = (t.carries.irrevocable (runs comes.0) certain).1 in
          let q = stops-quits good stm.config (caller_of u.desc.who.role) t.address stop t.before x t.stops in
          absurd (let f : true ≡ false = sym still ∙ q.revocable in cc)

  asked-inside : MaySay (place_of u) (TryIrrevocable irrevs.Granted) → u.phase ≡ Inside
  asked-inside (inl forced) = forced.0
  asked-inside (inr comes) = comes.0

  module _ (uncovered each most all : ℕ) (few : u.must ≡ false → u.failed + 1 ≤ most) (wide : most + 3 ≤ each) (covers : Covered uncovered each most all (known u.desc) (place_of u)) where
    -- it raised nothing, and nothing is counted
    same-covered : (x : CallerState) → raised x ≡ raised (known u.desc) → Covered (uncovered + 0) each most all x (place_of u)
    same-covered x e = omega (arith, e, covers)

    stays-covered : (x : CallerState) → u.phase ≡ Between → Stays stm.config (known u.desc) x → Covered (uncovered + 0) each most all x (place_of u)
    stays-covered x e t = same-covered x (raised-out x t.idle.1 ∙ (t.rises ∙ sym (raised-out (known u.desc) (idles e))))

    goes-covered : (x : CallerState) → u.phase ≡ Inside → x.running ≡ true → x.base ≡ (known u.desc).base → Covered (uncovered + 0) each most all x (place_of u)
    goes-covered x e now base = same-covered x (raised-in x now ∙ (base ∙ sym (raised-in (known u.desc) (runs e))))

    granted-covered : (b : Bool) (x : CallerState) → Covered (uncovered + 0) each most all x (place_of u) → Covered (uncovered + 0) each most all x (granted_at b (place_of u))
    granted-covered true x h = h
    granted-covered false x h = h

    -- the attempt is over: it was counted, or it was not, or its log was too short, or the item is done
    way-covered : (x : CallerState) (rise : ℕ) → u.phase ≡ Inside → x.running ≡ false → x.rises ≤ (known u.desc).base + rise → rise ≤ 1
        → (u.must ≡ true → rise ≡ 0) → Covered (uncovered + 0) each most all x (in_the_way outcomes.Conflict (place_of u))
    way-covered x rise e out r low none =
        let a = raised-in (known u.desc) (runs e) in
        let b = raised-out x out in
        let m = way-covers most u.failed rise u.must few low none in
        omega (arith, a, b, m, r, covers)

    quit-covered : (x : CallerState) (rise : ℕ) → u.phase ≡ Inside → x.running ≡ false → x.rises ≤ (known u.desc).base + rise → rise ≤ 1 → Covered (uncovered + 1) each most all x (given_up (place_of u))
    quit-covered x rise e out r low =
        let a = raised-in (known u.desc) (runs e) in
        let b = raised-out x out in
        omega (arith, a, b, r, covers)

    full-covered : (x : CallerState) (rise : ℕ) → u.phase ≡ Inside → u.must ≡ false → x.running ≡ false
        → x.rises ≤ (known u.desc).base + rise → rise ≤ 1
        → Covered (uncovered + 0) each most all x (record (given_up (place_of u)) { must = true })
    full-covered x rise e free out r low =
        let a = raised-in (known u.desc) (runs e) in
        let b = raised-out x out in
        let m = full-covers most u.failed rise u.must free few low in
        omega (arith, a, b, m, r, covers)

    row-covered : (kind : Kind) (x : CallerState) (rise : ℕ) → u.phase ≡ Inside → x.running ≡ false → x.rises ≤ (known u.desc).base + rise → rise ≤ 2 → Covered (uncovered + 0) each most all x (ended kind 0 (place_of u))
    row-covered kind x rise e out r low =
        let a = raised-in (known u.desc) (runs e) in
        let b = raised-out x out in
        let m = failed_rises-low most u.failed u.must (λ off. let f = few off in omega arith) in
        let one = each-item each u.items_left.now (tx-less u.items_left.now (under e).here) in
        let due = due-low (ended kind 0 (place_of u)).chosen in
        omega (arith, a, b, m, one, due, r, covers)

    stopped-covered : (op : Op) (stop : Stop) (x : CallerState) → Comes op (place_of u)
        → StoppedBy good stm.config (caller_of u.desc.who.role) op stop (known u.desc) x
        → Covered (uncovered + uncovered_by (Stopped op stop)) each most all x (after (place_of u) (Stopped op stop))
    stopped-covered op stop x comes t = by stop (unforced op stop x comes t) (stops-quits good stm.config (caller_of u.desc.who.role) t.address stop t.before x t.stops)
      where
        by : (stop : Stop) → u.must ≡ false → Quits t.before x → Covered (uncovered + uncovered_by (Stopped op stop)) each most all x (after (place_of u) (Stopped op stop))
        by (stops.Conflict cause) free q =
            way-covered x (quit_rise t.before.alg (has_written t.before)) comes.0 q.ends.idle.1
            (let r = q.rises.1 in let e = t.carries.base in omega arith) (quit-low t.before.alg (has_written t.before)) (λ must.
            absurd (let f : true ≡ false = sym must ∙ free in cc))
        by (stops.Full limit) free q =
            full-covered x (quit_rise t.before.alg (has_written t.before)) comes.0 free q.ends.idle.1 (let r = q.rises.1 in let e = t.carries.base in omega arith) (quit-low t.before.alg (has_written t.before))
        by (stops.ClockFull clock) free q =
            quit-covered x (quit_rise t.before.alg (has_written t.before)) comes.0 q.ends.idle.1 (let r = q.rises.1 in let e = t.carries.base in omega arith) (quit-low t.before.alg (has_written t.before))

    -- it was refused where it could have been cancelled
    refused-covered : (x : CallerState) → u.phase ≡ Inside → Quits (known u.desc) x → Covered (uncovered + 0) each most all x (in_the_way outcomes.Conflict (place_of u))
    refused-covered x e q = way-covered x (quit_rise (known u.desc).alg (has_written (known u.desc))) e q.ends.idle.1 q.rises.1 (quit-low (known u.desc).alg (has_written (known u.desc)))
        (λ must. quit-none (known u.desc).alg (has_written (known u.desc)) (unwritten e must q.revocable))

    irrevocable-covered : (r : Irrev) (x : CallerState) → u.phase ≡ Inside
        → Tells good stm.config (caller_of u.desc.who.role) (TryIrrevocable r) (known u.desc) x
        → Covered (uncovered + uncovered_by (TryIrrevocable r)) each most all x (after (place_of u) (TryIrrevocable r))
    irrevocable-covered irrevs.Granted x e t = granted-covered (is_forced (place_of u)) x (goes-covered x e t.continues.running t.continues.base)
    irrevocable-covered (irrevs.Busy caller status) x e t = goes-covered x e t.0.continues.running t.0.continues.base
    irrevocable-covered (irrevs.Taken gate) x e t =
        let y = t.0 in
        let i = t.1.0 in
        let c = t.2.1 in
        way-covered x (quit_rise y.alg (has_written y)) e c.0.ends.idle.1 (let r = c.2 in let b = i.continues.base in omega arith) (quit-low y.alg (has_written y))
        (λ must. quit-none y.alg (has_written y) ((λ j. not (is_empty (i.log j).writes) || not (is_none (i.kept j))) ∙ unwritten e must i.revocable))
    irrevocable-covered (irrevs.Conflict cause) x e t = refused-covered x e t.0
    irrevocable-covered (irrevs.ClockFull clock) x e t = quit-covered x (quit_rise (known u.desc).alg (has_written (known u.desc))) e t.0.ends.idle.1 t.0.rises.1 (quit-low (known u.desc).alg (has_written (known u.desc)))

    -- a switch is an item that is done, or it was due
    switched-covered : (alg : Alg) (x : CallerState) (c : Option Alg) → u.chosen ≡ c → MustSwitchTo alg c u.items_left.now
        → raised x ≤ raised (known u.desc) + 1 → Covered (uncovered + 0) each most all x (switched c (place_of u))
    switched-covered alg x None e to r = let one = each-item each u.items_left.now (switch-less alg u.items_left.now to) in omega (arith, r, one, covers)
    switched-covered alg x (Some chosen) e to r = let due : due_of u.chosen ≡ 1 = ap due_of e in omega (arith, r, due, covers)

    pub said-covered : (said : Said) (x : CallerState) → MaySay (place_of u) said
        → Tells good stm.config (caller_of u.desc.who.role) said (known u.desc) x
        → Covered (uncovered + uncovered_by said) each most all x (after (place_of u) said)
    said-covered (TryBegin (begins.Begun alg)) x may t = same-covered x (raised-in x t.running ∙ (t.base ∙ sym (raised-out (known u.desc) (idles may.0))))
    said-covered (TryBegin (begins.Closed gate)) x may t = stays-covered x may.0 t.0
    said-covered (TryBegin (begins.Held word)) x may t = stays-covered x may.0 t.0
    said-covered (TryBegin (begins.ClockFull clock)) x may t = (let h = stays-covered x may.0 t.0 in omega (arith, h))
    said-covered (Reply op reply) x may t = goes-covered x may.0.0 t.1.0 t.0.base
    said-covered (Stopped op stop) x may t = stopped-covered op stop x may.0 t
    said-covered (TryCancel (cancels.Cancelled time)) x may t =
        row-covered C x (quit_rise (known u.desc).alg (has_written (known u.desc))) may.0 t.0.ends.idle.1 t.2 (let l = quit-low (known u.desc).alg (has_written (known u.desc)) in omega arith)
    said-covered (TryCancel cancels.Irrevocable) x may t = same-covered x (ap raised t.0)
    said-covered (TryIrrevocable r) x may t = irrevocable-covered r x (asked-inside may) t
    said-covered (TryCommit (commits.Committed time)) x may t = row-covered W x (entry_rise (known u.desc).alg) may.0 t.ends.idle.1 (let r = t.rises in omega arith) (entry-low (known u.desc).alg)
    said-covered (TryCommit (commits.ReadOnly time)) x may t =
        row-covered R x (quit_rise (known u.desc).alg (has_written (known u.desc))) may.0 t.0.ends.idle.1 t.1.1
        (let l = quit-low (known u.desc).alg (has_written (known u.desc)) in omega arith)
    said-covered (TryCommit (commits.Conflict cause)) x may t = refused-covered x may.0 t.0
    said-covered (TryCommit (commits.Again word had now)) x may t = goes-covered x may.0 t.0.continues.running t.0.continues.base
    said-covered (TryCommit (commits.ClockFull clock)) x may t =
        quit-covered x (quit_rise (known u.desc).alg (has_written (known u.desc))) may.0 t.0.ends.idle.1 t.0.rises.1
        (quit-low (known u.desc).alg (has_written (known u.desc)))
    said-covered (TryClose closes.Closed) x may t = same-covered x (raised-out x t.holds.running ∙ (t.rises ∙ sym (raised-out (known u.desc) (idles may.0))))
    said-covered (TryClose (closes.Taken gate)) x may t = stays-covered x may.0 t.0
    said-covered (Looked looks.Quiet) x may t = same-covered x (raised-out x t.0.closed.holds.running ∙ (t.0.rises ∙ sym (raised-out (known u.desc) (closing-now may))))
    said-covered (Looked (looks.Busy caller status)) x may t = same-covered x (raised-out x t.0.closed.holds.running ∙ (t.0.rises ∙ sym (raised-out (known u.desc) (closing-now may))))
    said-covered (Installed alg) x may t =
        let a = raised-out (known u.desc) (quiets may.0) in
        let b = raised-out x t.2.idle.1 in
        let r = t.2.rises in
        let i = t.1.rises.1 in
        let l = install-low alg in
        switched-covered alg x u.chosen refl may.1 (omega (arith, a, b))
    said-covered (Reserved reads writes) x may t =
        let e : raised x ≡ raised (known u.desc) = ap raised t.1 in
        let one = each-item each u.items_left.now (reserve-less reads writes u.items_left.now may.1) in
        omega (arith, e, one, covers)
    said-covered Idle x may t = same-covered x (ap raised t)
    said-covered Dropped x may t = absurd may
    said-covered Reopened x may t = absurd may

    -- and after the schedule, where an attempt is dropped that nothing counts
    pub wound-covered : (said : Said) (x : CallerState) → MayWind (place_of u) said
        → Tells good stm.config (caller_of u.desc.who.role) said (known u.desc) x
        → Covered (uncovered + uncovered_by said) each most all x (after (place_of u) said)
    wound-covered (TryBegin b) x may t = said-covered (TryBegin b) x may.2 t
    wound-covered (Reply op reply) x may t = said-covered (Reply op reply) x may.2 t
    wound-covered (Stopped op stop) x may t = said-covered (Stopped op stop) x may.2 t
    wound-covered (TryCancel c) x may t = said-covered (TryCancel c) x may.2 t
    wound-covered (TryIrrevocable r) x may t = said-covered (TryIrrevocable r) x may.2 t
    wound-covered (TryCommit c) x may t = said-covered (TryCommit c) x may.2 t
    wound-covered (TryClose c) x may t = said-covered (TryClose c) x may.2 t
    wound-covered (Looked l) x may t = said-covered (Looked l) x may.2 t
    wound-covered (Installed alg) x may t = said-covered (Installed alg) x may.2 t
    wound-covered (Reserved reads writes) x may t = said-covered (Reserved reads writes) x may.2 t
    wound-covered Idle x may t = said-covered Idle x may.2 t
    wound-covered Dropped x may t =
        let c = t.1 in
        quit-covered x (quit_rise (known u.desc).alg (has_written (known u.desc))) may.0 c.0.ends.idle.1 c.2 (quit-low (known u.desc).alg (has_written (known u.desc)))
    wound-covered Reopened x may t = same-covered x (raised-out x t.idle.1 ∙ (t.rises ∙ sym (raised-out (known u.desc) (closed may))))
      where
        closed : (u.phase ≡ Closing) ⊎ (u.phase ≡ Quiet) → (known u.desc).running ≡ false
        closed (inl e) = closing-now e
        closed (inr e) = quiets e

pub dropped-low : (left : List Item) → dropped_of left ≤ 1
dropped-low [] = omega arith
dropped-low (Tx caller script ∷ items) = omega arith
dropped-low (Switch caller alg ∷ items) = omega arith
dropped-low (Reserve caller reads writes ∷ items) = omega arith

pub dropped-tx : (left : List Item) → BeforeTx left → dropped_of left ≡ 1
dropped-tx [] b = absurd b
dropped-tx (Tx caller script ∷ items) b = refl
dropped-tx (Switch caller alg ∷ items) b = absurd b
dropped-tx (Reserve caller reads writes ∷ items) b = absurd b

dropped-switch : (alg : Alg) (left : List Item) → SwitchesTo alg left → dropped_of left ≡ 0
dropped-switch alg [] b = absurd b
dropped-switch alg (Tx caller script ∷ items) b = absurd b
dropped-switch alg (Switch caller to ∷ items) b = refl
dropped-switch alg (Reserve caller reads writes ∷ items) b = absurd b

dropped-reserve : (reads writes : ℕ) (left : List Item) → Lengthens reads writes left → dropped_of left ≡ 0
dropped-reserve reads writes [] b = absurd b
dropped-reserve reads writes (Tx caller script ∷ items) b = absurd b
dropped-reserve reads writes (Switch caller alg ∷ items) b = absurd b
dropped-reserve reads writes (Reserve caller r w ∷ items) b = refl

-- an item that is done covers an attempt of it that was dropped, too
module _ {K : Type 0} (good : List ℕ → Type 0) (stm : Stm K) (u : Worker K) (s : Sound good stm u) (fixed : u.policy ≡ Fixed) (each most all : ℕ) (few : u.must ≡ false → u.failed + 1 ≤ most) (wide : most + 3 ≤ each)
    (covers : Covered (dropped_of u.items_left.now) each most all (known u.desc) (place_of u)) where
  as-said : (said : Said) (x : CallerState) → MaySay (place_of u) said
      → Tells good stm.config (caller_of u.desc.who.role) said (known u.desc) x
      → Covered (dropped_of u.items_left.now + uncovered_by said) each most all x (after (place_of u) said)
  as-said said x may t = said-covered good stm u s (dropped_of u.items_left.now) each most all few wide covers said x may t

  -- no switch is due then
  no-due : (kind : Kind) → due_of (ended kind 0 (place_of u)).chosen ≡ 0
  no-due kind = ap (λ (p : Policy). due_of (asked_by p (with_outcome u.profile (outcome_of kind)) u.alg)) fixed

  row-settles : (kind : Kind) (x : CallerState) (rise : ℕ) → u.phase ≡ Inside → x.running ≡ false → x.rises ≤ (known u.desc).base + rise
      → rise ≤ 2 → Covered (dropped_of (rest_of u.items_left.now) + 0) each most all x (ended kind 0 (place_of u))
  row-settles kind x rise e out r low =
      let a = raised-in (known u.desc) (runs good stm u s e) in
      let b = raised-out x out in
      let m = failed_rises-low most u.failed u.must (λ off. let f = few off in omega arith) in
      let one = each-item each u.items_left.now (tx-less u.items_left.now (under good stm u s e).here) in
      let d = dropped-low u.items_left.now in
      let due = no-due kind in
      omega (arith, a, b, m, one, d, due, r, covers)

  granted-left : (b : Bool) (x : CallerState) → Covered (dropped_of u.items_left.now + 0) each most all x (granted_at b (place_of u))
      → Covered (dropped_of (granted_at b (place_of u)).left + 0) each most all x (granted_at b (place_of u))
  granted-left true x h = h
  granted-left false x h = h

  switched-left : (alg : Alg) (x : CallerState) (c : Option Alg) → MustSwitchTo alg c u.items_left.now
      → Covered (dropped_of u.items_left.now + 0) each most all x (switched c (place_of u))
      → Covered (dropped_of (switched c (place_of u)).left + 0) each most all x (switched c (place_of u))
  switched-left alg x None to h = let none = dropped-switch alg u.items_left.now to in omega (arith, h, none)
  switched-left alg x (Some chosen) to h = h

  pub settles : (said : Said) (x : CallerState) → MaySay (place_of u) said
      → Tells good stm.config (caller_of u.desc.who.role) said (known u.desc) x
      → Covered (dropped_of (after (place_of u) said).left + uncovered_by said) each most all x (after (place_of u) said)
  settles (TryBegin (begins.Begun alg)) x may t = as-said (TryBegin (begins.Begun alg)) x may t
  settles (TryBegin (begins.Closed gate)) x may t = as-said (TryBegin (begins.Closed gate)) x may t
  settles (TryBegin (begins.Held word)) x may t = as-said (TryBegin (begins.Held word)) x may t
  settles (TryBegin (begins.ClockFull clock)) x may t = as-said (TryBegin (begins.ClockFull clock)) x may t
  settles (Reply op reply) x may t = as-said (Reply op reply) x may t
  settles (Stopped op (stops.Conflict cause)) x may t = as-said (Stopped op (stops.Conflict cause)) x may t
  settles (Stopped op (stops.Full limit)) x may t = as-said (Stopped op (stops.Full limit)) x may t
  settles (Stopped op (stops.ClockFull clock)) x may t = as-said (Stopped op (stops.ClockFull clock)) x may t
  settles (TryCancel (cancels.Cancelled time)) x may t =
      row-settles C x (quit_rise (known u.desc).alg (has_written (known u.desc))) may.0 t.0.ends.idle.1 t.2 (let l = quit-low (known u.desc).alg (has_written (known u.desc)) in omega arith)
  settles (TryCancel cancels.Irrevocable) x may t = as-said (TryCancel cancels.Irrevocable) x may t
  settles (TryIrrevocable irrevs.Granted) x may t = granted-left (is_forced (place_of u)) x (as-said (TryIrrevocable irrevs.Granted) x may t)
  settles (TryIrrevocable (irrevs.Busy caller status)) x may t = as-said (TryIrrevocable (irrevs.Busy caller status)) x may t
  settles (TryIrrevocable (irrevs.Taken gate)) x may t = as-said (TryIrrevocable (irrevs.Taken gate)) x may t
  settles (TryIrrevocable (irrevs.Conflict cause)) x may t = as-said (TryIrrevocable (irrevs.Conflict cause)) x may t
  settles (TryIrrevocable (irrevs.ClockFull clock)) x may t = as-said (TryIrrevocable (irrevs.ClockFull clock)) x may t
  settles (TryCommit (commits.Committed time)) x may t = row-settles W x (entry_rise (known u.desc).alg) may.0 t.ends.idle.1 (let r = t.rises in omega arith) (entry-low (known u.desc).alg)
  settles (TryCommit (commits.ReadOnly time)) x may t =
      row-settles R x (quit_rise (known u.desc).alg (has_written (known u.desc))) may.0 t.0.ends.idle.1 t.1.1
      (let l = quit-low (known u.desc).alg (has_written (known u.desc)) in omega arith)
  settles (TryCommit (commits.Conflict cause)) x may t = as-said (TryCommit (commits.Conflict cause)) x may t
  settles (TryCommit (commits.Again word had now)) x may t = as-said (TryCommit (commits.Again word had now)) x may t
  settles (TryCommit (commits.ClockFull clock)) x may t = as-said (TryCommit (commits.ClockFull clock)) x may t
  settles (TryClose closes.Closed) x may t = as-said (TryClose closes.Closed) x may t
  settles (TryClose (closes.Taken gate)) x may t = as-said (TryClose (closes.Taken gate)) x may t
  settles (Looked looks.Quiet) x may t = as-said (Looked looks.Quiet) x may t
  settles (Looked (looks.Busy caller status)) x may t = as-said (Looked (looks.Busy caller status)) x may t
  settles (Installed alg) x may t = switched-left alg x u.chosen may.1 (as-said (Installed alg) x may t)
  settles (Reserved reads writes) x may t =
      let h = as-said (Reserved reads writes) x may t in
      let none = dropped-reserve reads writes u.items_left.now may.1 in
      omega (arith, h, none)
  settles Idle x may t = as-said Idle x may t
  settles Dropped x may t = absurd may
  settles Reopened x may t = absurd may
