-- What follows of what a call tells: the numbers of its line, the clock's rises, the clock that was found full, and the
-- installs.
use Rattle.std.proofs.Common.{ℕ, ◌≡◌, ◌≤◌, ◌+◌, ◌^◌, Bool, true, false, List, [], ◌∷◌, ◌++◌, refl, sym, ap, ◌∙◌, arith, subst}
use Rattle.std.proofs.lemmas.List.{append-nil}
use Rattle.std.proofs.lemmas.List.Elements.{Contains-append_left}
use Rattle.std.specs.Prelude.{MatchOption, Some, Contains, if◌then◌else◌}
use Rattle.rule_base.specs.declared.layout.At.TheVariants.{Clock}
use Rattle.stm_model.specs.Algorithms.{entry_rise, quit_rise}
use Rattle.stm_model.specs.AlgorithmLaws.{entry-low, install-low, quit-low}
use Rattle.stm_model.specs.Configs.{IsConfig}
use Rattle.stm_model.specs.declared.alg.Alg.{Alg}
use Rattle.stm_model.specs.declared.config.Config.{Config}
use Rattle.stm_model.specs.declared.stop.Stop.{Stop}
use Rattle.stm_model.specs.declared.stop.Stop.TheVariants as stops
use Rattle.work_script.specs.declared.workload.Header.{Header}
use Rattle.work_trace.specs.declared.said.Said.{Said}
use Rattle.work_trace.specs.declared.said.Said.TheVariants.{TryBegin, Reply, Stopped, TryCancel, TryIrrevocable, TryCommit, TryClose, Looked, Installed, Reserved, Idle, Dropped, Reopened}
use Rattle.work_trace.proofs.FairLaws.{IsPlaceOf, fair-begin, fair-close, fair-look, fair-cancel, fair-irrevocable, fair-commit, fair-stop}
use Rattle.work_trace.specs.Places.{CallerProgress, clock_of}
use Rattle.work_trace.specs.Turns.{HasSizes, IsFair}
use Rattle.stm_answers.specs.Answers.{Stays, Quits, Ends, Stops}
use Rattle.stm_answers.specs.Causes.{FindsFull}
use Rattle.stm_answers.specs.CallerState.{CallerState, is_irrevocable, owed, has_written}
use Rattle.stm_answers.specs.CallerStateLaws.{Carries}
use Rattle.stm_answers.specs.declared.answers.Begin.TheVariants as begins
use Rattle.stm_answers.specs.declared.answers.Cancel.TheVariants as cancels
use Rattle.stm_answers.specs.declared.answers.CloseGate.TheVariants as closes
use Rattle.stm_answers.specs.declared.answers.Commit.TheVariants as commits
use Rattle.stm_answers.specs.declared.answers.Irrev.TheVariants as irrevs
use Rattle.stm_answers.specs.declared.answers.Look.TheVariants as looks
use Rattle.work_worker.specs.Tellings.{Tells}
use Rattle.work_worker.specs.Courses.{Knows, installed}
use Rattle.work_worker.specs.Workers.{Loaded}

pub owed-in : (v : CallerState) → v.running ≡ true → owed v ≡ v.base + 2
owed-in v e = ap (λ b. if b then v.base + 2 else v.rises) e

pub owed-out : (v : CallerState) → v.running ≡ false → owed v ≡ v.rises
owed-out v e = ap (λ b. if b then v.base + 2 else v.rises) e

-- whether an attempt is open where it may be said
abbrev pub Asks : Said → CallerState → Type 0
Asks (TryBegin b) v = v.running ≡ false
Asks (Reply op reply) v = v.running ≡ true
Asks (Stopped op stop) v = v.running ≡ true
Asks (TryCancel r) v = v.running ≡ true
Asks (TryIrrevocable r) v = v.running ≡ true
Asks (TryCommit r) v = v.running ≡ true
Asks (TryClose r) v = v.running ≡ false
Asks (Looked l) v = v.running ≡ false
Asks (Installed alg) v = v.running ≡ false
Asks (Reserved reads writes) v = v.running ≡ false
Asks Idle v = Unit {0}
Asks Dropped v = v.running ≡ true
Asks Reopened v = v.running ≡ false

stays-owed : (c : Config) (v w : CallerState) → v.running ≡ false → Stays c v w → owed w ≤ owed v + 2
stays-owed c v w out h = let a = owed-out v out in let b = owed-out w h.idle.1 in let r = h.rises in omega arith

pub quits-owed : (v w : CallerState) → v.running ≡ true → Quits v w → owed w ≤ owed v
quits-owed v w inside h = let a = owed-in v inside in let b = owed-out w h.ends.idle.1 in let r = h.rises.1 in let l = quit-low v.alg (has_written v) in omega arith

ends-owed : (v w : CallerState) (by : ℕ) → v.running ≡ true → Ends v w → w.rises ≤ v.base + by → by ≤ 2 → owed w ≤ owed v + 2
ends-owed v w by inside h r l = let a = owed-in v inside in let b = owed-out w h.idle.1 in omega arith

goes-owed : (v w : CallerState) → v.running ≡ true → w.running ≡ true → w.base ≡ v.base → owed w ≤ owed v + 2
goes-owed v w inside still base = let a = owed-in v inside in let b = owed-in w still in omega arith

le-two : (a b : ℕ) → a ≤ b → a ≤ b + 2
le-two a b h = omega (arith, h)

loaded : (clock : ℕ) (v w : CallerState) → FindsFull clock v w → (2 ^ 62 ≤ clock) × Loaded w clock
loaded clock v w h =
    let f = h.found in
    (h.limit, (f.2, subst (λ t. Contains t (record { place = Clock; act = f.2; found = Some clock })) (sym f.1) (Contains-append_left f.0 v.step_trace (record { place = Clock; act = f.2; found = Some clock }) f.3)))

none : (xs ys : List Alg) → xs ≡ ys → xs ≡ ys ++ []
none xs ys e = e ∙ sym (append-nil ys)

module _ (good : List ℕ → Type 0) (c : Config) (n : ℕ) where
  pub stops-quits : (a : ℕ) (stop : Stop) (v w : CallerState) → Stops good c n a stop v w → Quits v w
  stops-quits a (stops.Conflict cause) v w t = t.0
  stops-quits a (stops.Full limit) v w t = t.0
  stops-quits a (stops.ClockFull clock) v w t = t.0

  pub tells-owed : (said : Said) (v w : CallerState) → Asks said v → Tells good c n said v w → owed w ≤ owed v + 2
  tells-owed (TryBegin (begins.Begun alg)) v w out t = let a = owed-out v out in let b = owed-in w t.running in let r = t.base in omega arith
  tells-owed (TryBegin (begins.Closed gate)) v w out t = stays-owed c v w out t.0
  tells-owed (TryBegin (begins.Held word)) v w out t = stays-owed c v w out t.0
  tells-owed (TryBegin (begins.ClockFull clock)) v w out t = stays-owed c v w out t.0
  tells-owed (Reply op reply) v w inside t = le-two (owed w) (owed v) t.0.owes
  tells-owed (Stopped op stop) v w inside t =
      let q = quits-owed t.before w t.running (stops-quits t.address stop t.before w t.stops) in let p = t.carries.owes in omega (arith, q, p)
  tells-owed (TryCancel (cancels.Cancelled time)) v w inside t = ends-owed v w (quit_rise v.alg (has_written v)) inside t.0.ends t.2 (let l = quit-low v.alg (has_written v) in omega arith)
  tells-owed (TryCancel cancels.Irrevocable) v w inside t = (let e : owed w ≡ owed v = ap owed t.0 in omega (arith, e))
  tells-owed (TryIrrevocable irrevs.Granted) v w inside t = goes-owed v w inside t.continues.running t.continues.base
  tells-owed (TryIrrevocable (irrevs.Busy caller status)) v w inside t = goes-owed v w inside t.0.continues.running t.0.continues.base
  tells-owed (TryIrrevocable (irrevs.Taken gate)) v w inside t =
      let u = t.0 in let i = t.1.0 in let x = t.2.1 in
      let a = owed-in v inside in let b = owed-out w x.0.ends.idle.1 in let r = x.2 in let l = quit-low u.alg (has_written u) in let e = i.continues.base in omega arith
  tells-owed (TryIrrevocable (irrevs.Conflict cause)) v w inside t = le-two (owed w) (owed v) (quits-owed v w inside t.0)
  tells-owed (TryIrrevocable (irrevs.ClockFull clock)) v w inside t = le-two (owed w) (owed v) (quits-owed v w inside t.0)
  tells-owed (TryCommit (commits.Committed time)) v w inside t = ends-owed v w (entry_rise v.alg) inside t.ends (let r = t.rises in omega arith) (entry-low v.alg)
  tells-owed (TryCommit (commits.ReadOnly time)) v w inside t = ends-owed v w (quit_rise v.alg (has_written v)) inside t.0.ends t.1.1 (let l = quit-low v.alg (has_written v) in omega arith)
  tells-owed (TryCommit (commits.Conflict cause)) v w inside t = le-two (owed w) (owed v) (quits-owed v w inside t.0)
  tells-owed (TryCommit (commits.Again word had now)) v w inside t = goes-owed v w inside t.0.continues.running t.0.continues.base
  tells-owed (TryCommit (commits.ClockFull clock)) v w inside t = le-two (owed w) (owed v) (quits-owed v w inside t.0)
  tells-owed (TryClose closes.Closed) v w out t = let a = owed-out v out in let b = owed-out w t.holds.running in let r = t.rises in omega arith
  tells-owed (TryClose (closes.Taken gate)) v w out t = stays-owed c v w out t.0
  tells-owed (Looked looks.Quiet) v w out t = let a = owed-out v out in let b = owed-out w t.0.closed.holds.running in let r = t.0.rises in omega arith
  tells-owed (Looked (looks.Busy caller status)) v w out t = let a = owed-out v out in let b = owed-out w t.0.closed.holds.running in let r = t.0.rises in omega arith
  tells-owed (Installed alg) v w out t =
      let a = owed-out v out in let b = owed-out w t.2.idle.1 in let r = t.2.rises in let i = t.1.rises.1 in let l = install-low alg in omega arith
  tells-owed (Reserved reads writes) v w out t =
      let a = owed-out v out in let b = owed-out w (ap (λ (k : CallerState). k.running) t.1 ∙ out) in let r : w.rises ≡ v.rises = ap (λ (k : CallerState). k.rises) t.1 in omega arith
  tells-owed Idle v w any t = (let e : owed w ≡ owed v = ap owed t in omega (arith, e))
  tells-owed Dropped v w inside t = let x = t.1 in ends-owed v w (quit_rise v.alg (has_written v)) inside x.0.ends x.2 (let l = quit-low v.alg (has_written v) in omega arith)
  tells-owed Reopened v w out t = stays-owed c v w out t

  pub tells-found : (said : Said) (v w : CallerState) → Tells good c n said v w → MatchOption (clock_of said) (Unit {0}) (λ clock. (2 ^ 62 ≤ clock) × Loaded w clock)
  tells-found (TryBegin (begins.Begun alg)) v w t = tt
  tells-found (TryBegin (begins.Closed gate)) v w t = tt
  tells-found (TryBegin (begins.Held word)) v w t = tt
  tells-found (TryBegin (begins.ClockFull clock)) v w t = loaded clock v w t.3
  tells-found (Reply op reply) v w t = tt
  tells-found (Stopped op (stops.Conflict cause)) v w t = tt
  tells-found (Stopped op (stops.Full limit)) v w t = tt
  tells-found (Stopped op (stops.ClockFull clock)) v w t = loaded clock t.before w t.stops.2
  tells-found (TryCancel r) v w t = tt
  tells-found (TryIrrevocable irrevs.Granted) v w t = tt
  tells-found (TryIrrevocable (irrevs.Busy caller status)) v w t = tt
  tells-found (TryIrrevocable (irrevs.Taken gate)) v w t = tt
  tells-found (TryIrrevocable (irrevs.Conflict cause)) v w t = tt
  tells-found (TryIrrevocable (irrevs.ClockFull clock)) v w t = loaded clock v w t.2
  tells-found (TryCommit (commits.Committed time)) v w t = tt
  tells-found (TryCommit (commits.ReadOnly time)) v w t = tt
  tells-found (TryCommit (commits.Conflict cause)) v w t = tt
  tells-found (TryCommit (commits.Again word had now)) v w t = tt
  tells-found (TryCommit (commits.ClockFull clock)) v w t = loaded clock v w t.3
  tells-found (TryClose r) v w t = tt
  tells-found (Looked l) v w t = tt
  tells-found (Installed alg) v w t = tt
  tells-found (Reserved reads writes) v w t = tt
  tells-found Idle v w t = tt
  tells-found Dropped v w t = tt
  tells-found Reopened v w t = tt

  pub tells-installs : (said : Said) (v w : CallerState) → Tells good c n said v w → w.installs ≡ v.installs ++ installed said
  tells-installs (TryBegin (begins.Begun alg)) v w t = none w.installs v.installs t.installs
  tells-installs (TryBegin (begins.Closed gate)) v w t = none w.installs v.installs t.0.installs
  tells-installs (TryBegin (begins.Held word)) v w t = none w.installs v.installs t.0.installs
  tells-installs (TryBegin (begins.ClockFull clock)) v w t = none w.installs v.installs t.0.installs
  tells-installs (Reply op reply) v w t = none w.installs v.installs t.0.installs
  tells-installs (Stopped op stop) v w t = none w.installs v.installs ((stops-quits t.address stop t.before w t.stops).ends.installs ∙ t.carries.installs)
  tells-installs (TryCancel (cancels.Cancelled time)) v w t = none w.installs v.installs t.0.ends.installs
  tells-installs (TryCancel cancels.Irrevocable) v w t = none w.installs v.installs (ap (λ (k : CallerState). k.installs) t.0)
  tells-installs (TryIrrevocable irrevs.Granted) v w t = none w.installs v.installs t.continues.installs
  tells-installs (TryIrrevocable (irrevs.Busy caller status)) v w t = none w.installs v.installs t.0.continues.installs
  tells-installs (TryIrrevocable (irrevs.Taken gate)) v w t = none w.installs v.installs (t.2.1.0.ends.installs ∙ t.1.0.continues.installs)
  tells-installs (TryIrrevocable (irrevs.Conflict cause)) v w t = none w.installs v.installs t.0.ends.installs
  tells-installs (TryIrrevocable (irrevs.ClockFull clock)) v w t = none w.installs v.installs t.0.ends.installs
  tells-installs (TryCommit (commits.Committed time)) v w t = none w.installs v.installs t.ends.installs
  tells-installs (TryCommit (commits.ReadOnly time)) v w t = none w.installs v.installs t.0.ends.installs
  tells-installs (TryCommit (commits.Conflict cause)) v w t = none w.installs v.installs t.0.ends.installs
  tells-installs (TryCommit (commits.Again word had now)) v w t = none w.installs v.installs t.0.continues.installs
  tells-installs (TryCommit (commits.ClockFull clock)) v w t = none w.installs v.installs t.0.ends.installs
  tells-installs (TryClose closes.Closed) v w t = none w.installs v.installs t.installs
  tells-installs (TryClose (closes.Taken gate)) v w t = none w.installs v.installs t.0.installs
  tells-installs (Looked looks.Quiet) v w t = none w.installs v.installs t.0.installs
  tells-installs (Looked (looks.Busy caller status)) v w t = none w.installs v.installs t.0.installs
  tells-installs (Installed alg) v w t = t.2.installs ∙ t.1.installs
  tells-installs (Reserved reads writes) v w t = none w.installs v.installs (ap (λ (k : CallerState). k.installs) t.1)
  tells-installs Idle v w t = none w.installs v.installs (ap (λ (k : CallerState). k.installs) t)
  tells-installs Dropped v w t = none w.installs v.installs t.1.0.ends.installs
  tells-installs Reopened v w t = none w.installs v.installs t.installs

  -- who is alone begins under what it knows, and knows after a turn what it installed in it, or what it knew
  pub tells-knows : (said : Said) (v w : CallerState) → c.callers ≡ 1 → Tells good c n said v w → Knows v.alg (said ∷ []) w.alg
  tells-knows (TryBegin (begins.Begun alg)) v w one t = (t.sole one, t.named ∙ t.sole one)
  tells-knows (TryBegin (begins.Closed gate)) v w one t = (tt, t.0.sole one)
  tells-knows (TryBegin (begins.Held word)) v w one t = (tt, t.0.sole one)
  tells-knows (TryBegin (begins.ClockFull clock)) v w one t = (tt, t.0.sole one)
  tells-knows (Reply op reply) v w one t = (tt, t.0.alg)
  tells-knows (Stopped op stop) v w one t = (tt, (stops-quits t.address stop t.before w t.stops).ends.alg ∙ t.carries.alg)
  tells-knows (TryCancel (cancels.Cancelled time)) v w one t = (tt, t.0.ends.alg)
  tells-knows (TryCancel cancels.Irrevocable) v w one t = (tt, ap (λ (k : CallerState). k.alg) t.0)
  tells-knows (TryIrrevocable irrevs.Granted) v w one t = (tt, t.continues.alg)
  tells-knows (TryIrrevocable (irrevs.Busy caller status)) v w one t = (tt, t.0.continues.alg)
  tells-knows (TryIrrevocable (irrevs.Taken gate)) v w one t = (tt, t.2.1.0.ends.alg ∙ t.1.0.continues.alg)
  tells-knows (TryIrrevocable (irrevs.Conflict cause)) v w one t = (tt, t.0.ends.alg)
  tells-knows (TryIrrevocable (irrevs.ClockFull clock)) v w one t = (tt, t.0.ends.alg)
  tells-knows (TryCommit (commits.Committed time)) v w one t = (tt, t.ends.alg)
  tells-knows (TryCommit (commits.ReadOnly time)) v w one t = (tt, t.0.ends.alg)
  tells-knows (TryCommit (commits.Conflict cause)) v w one t = (tt, t.0.ends.alg)
  tells-knows (TryCommit (commits.Again word had now)) v w one t = (tt, t.0.continues.alg)
  tells-knows (TryCommit (commits.ClockFull clock)) v w one t = (tt, t.0.ends.alg)
  tells-knows (TryClose closes.Closed) v w one t = (tt, t.sole one)
  tells-knows (TryClose (closes.Taken gate)) v w one t = (tt, t.0.sole one)
  tells-knows (Looked looks.Quiet) v w one t = (tt, t.0.alg)
  tells-knows (Looked (looks.Busy caller status)) v w one t = (tt, t.0.alg)
  tells-knows (Installed alg) v w one t = (tt, t.2.sole one ∙ t.1.named)
  tells-knows (Reserved reads writes) v w one t = (tt, ap (λ (k : CallerState). k.alg) t.1)
  tells-knows Idle v w one t = (tt, ap (λ (k : CallerState). k.alg) t)
  tells-knows Dropped v w one t = (tt, t.1.0.ends.alg)
  tells-knows Reopened v w one t = (tt, t.sole one)

  -- the place is that of what the caller knows
  module _ (h : Header) (at : CallerProgress) (ranges : IsConfig c) (sizes : HasSizes c h) (caller : at.caller ≡ n) where
    not-irrevocable : (v : CallerState) (u : CallerState) → v.running ≡ true → Carries v u → is_irrevocable u ≡ false → is_irrevocable v ≡ false
    not-irrevocable v u inside k off = by (is_irrevocable v) refl
      where
        by : (b : Bool) → is_irrevocable v ≡ b → b ≡ false
        by true e = absurd (let t : true ≡ false = sym (k.irrevocable inside e).1 ∙ off in cc)
        by false e = refl

    pub tells-fair : (said : Said) (v w : CallerState) → Asks said v → (v.running ≡ true → IsPlaceOf v at)
        → (v.reads_limit ≡ at.reads_limit) × (v.writes_limit ≡ at.writes_limit) → Tells good c n said v w → IsFair h at said
    tells-fair (TryBegin b) v w out is lengths t = fair-begin good c n h at ranges sizes caller b v w t
    tells-fair (Reply op reply) v w inside is lengths t = tt
    tells-fair (Stopped op stop) v w inside is lengths t =
        let place = is inside in
        let k = t.carries in
        fair-stop good c n h at ranges sizes caller t.before (record { alg = place.alg ∙ sym k.alg; revocable = λ e. place.irrevocable ∙ not-irrevocable v t.before inside k e })
        (k.grows.reads_limit ∙ lengths.0) (k.grows.writes_limit ∙ lengths.1)
        op t.address stop w t.writes t.stops
    tells-fair (TryCancel r) v w inside is lengths t = fair-cancel good c n h at ranges sizes caller v (is inside) r w t
    tells-fair (TryIrrevocable irrevs.Granted) v w inside is lengths t = tt
    tells-fair (TryIrrevocable (irrevs.Busy k status)) v w inside is lengths t = fair-irrevocable good c n h at ranges sizes caller v (is inside) (irrevs.Busy k status) w t
    tells-fair (TryIrrevocable (irrevs.Taken gate)) v w inside is lengths t = fair-irrevocable good c n h at ranges sizes caller v (is inside) (irrevs.Taken gate) t.0 t.1
    tells-fair (TryIrrevocable (irrevs.Conflict cause)) v w inside is lengths t = fair-irrevocable good c n h at ranges sizes caller v (is inside) (irrevs.Conflict cause) w t
    tells-fair (TryIrrevocable (irrevs.ClockFull clock)) v w inside is lengths t = fair-irrevocable good c n h at ranges sizes caller v (is inside) (irrevs.ClockFull clock) w t
    tells-fair (TryCommit r) v w inside is lengths t = fair-commit good c n h at ranges sizes caller v (is inside) r w t
    tells-fair (TryClose r) v w out is lengths t = fair-close good c n h at ranges sizes caller r v w t
    tells-fair (Looked l) v w out is lengths t = fair-look good c n h at ranges sizes caller l v w t
    tells-fair (Installed alg) v w out is lengths t = tt
    tells-fair (Reserved reads writes) v w out is lengths t = tt
    tells-fair Idle v w any is lengths t = tt
    tells-fair Dropped v w inside is lengths t = tt
    tells-fair Reopened v w out is lengths t = tt
