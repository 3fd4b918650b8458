-- A step of one family keeps the clauses of the others.
use Rattle.std.proofs.Common.{◌≡◌, ℕ, ◌<◌, ◌≤◌, Bool, true, false, refl, sym, subst, ap, ◌∙◌, arith, le_refl, inl, inr, ⊎_elim}
use Rattle.std.specs.Prelude.{if◌then◌else◌, ltb, ◌⊎◌, Some}
use Rattle.std.proofs.lemmas.Bool.Decides.{nat_tests}
use Rattle.stm_model.specs.declared.alg.Alg.{Alg}
use Rattle.stm_model.specs.declared.alg.Alg.TheVariants.{Cgl, Tml, OrecLazy, OrecEager, RingSw, Serial}
use Rattle.stm_model.specs.declared.config.Config.{Config}
use Rattle.rule_base.specs.declared.views.GateView.{GateView}
use Rattle.rule_base.specs.declared.views.Phase.TheVariants.{Idle, In, Closing}
use Rattle.rule_base.specs.declared.views.View.{View}
use Rattle.rule_base.specs.Encodings.{alg_of}
use Rattle.stm_model.specs.Algorithms.{has_ring, has_records, takes_lock}
use Rattle.rule_base.specs.GateRule.{gate_projection, GateRule, may_hold}
use Rattle.rule_base.specs.GateLaws.{gate_projection-kept, gate-marked}
use Rattle.rule_base.specs.History.{upto, touches}
use Rattle.rule_base.specs.Lemmas.HistoryRuleLemmas.{choice-grows, history-kept}
use Rattle.rule_base.specs.InstallLaws.{not-quiescent, install-raised, install-done, install_projection-kept, nobody-quiescent, ticked-install}
use Rattle.rule_base.specs.Ranks.{rec_of, home_of}
use Rattle.rule_base.specs.Ranks.Rec.{Taken}
use Rattle.rule_base.specs.InstallRule.{install_projection, InstallRule}
use Rattle.rule_base.specs.Lemmas.RecordLemmas.{records-after}
use Rattle.rule_base.specs.Regime.{Regime, mode_of, regime, named_in}
use Rattle.rule_base.specs.Regime.Regime.{Running, Promoted}
use Rattle.rule_base.specs.Lemmas.RegimeLemmas.{named-regime, regime-kept, regime-inside, regime-granted}
use Rattle.rule_base.specs.RunProjection.{RunView, run_view, RunProjection, run_projection}
use Rattle.rule_base.specs.Lemmas.StepsLemmas.{steps-kept}
use Rattle.rule_base.specs.StepKinds.{StepKind, Advances, answer, view_after, world_after, StepOutcome, StepLaw}
use Rattle.rule_base.specs.World.{World, horizon}
use Rattle.rule_seq.specs.AttemptLemmas.{busy-owned, busy-tml, busy-writer, busy-ring, busy-turn, attempts-after}
use Rattle.rule_seq.specs.AttemptRule.{is_busy}
use Rattle.rule_seq.specs.CglRule.{CglWorld}
use Rattle.rule_seq.specs.LockLemmas.{lock-phase}
use Rattle.rule_promoted.specs.PromotedRule.{Suits, DirectRuns, suit_part}
use Rattle.rule_seq.specs.RunWorld.{RunWorld}
use Rattle.rule_orec.specs.OrecRule.{OrecRuns, OrecWorld}
use Rattle.rule_orec.specs.OrecSteps.{RunsOrec}
use Rattle.rule_orec.specs.OrecLaws.{taken-rec}
use Rattle.stm_rule.specs.Alone.{left_at, alone-kept}
use Rattle.stm_rule.specs.Kinds.Raised.{Raised, raised-put}
use Rattle.stm_rule.specs.Product.{Runs, Core}
use Rattle.stm_rule.specs.Kinds.Running.{runs-fresh, runs-stays, run_projection-kept}

-- the number from which starts are loaded, where the algorithm stays
pub same-horizon : (w x : World) → alg_of x.gate ≡ alg_of w.gate → w.clock ≤ x.clock → w.done ≤ x.done → horizon w ≤ horizon x
same-horizon w x alg clock done = subst (λ (a : Alg). horizon w ≤ (if has_ring a then x.done else x.clock)) (sym alg) (choice-grows (has_ring (alg_of w.gate)) w.done w.clock x.done x.clock done clock)

-- it is at most the clock, and it is the clock where DONE is
pub horizon-low : (w : World) → w.done ≤ w.clock → horizon w ≤ w.clock
horizon-low w done = go (has_ring (alg_of w.gate))
  where
    go : (b : Bool) → (if b then w.done else w.clock) ≤ w.clock
    go true = done
    go false = le_refl w.clock

pub horizon-level : (w : World) → w.done ≡ w.clock → horizon w ≡ w.clock
horizon-level w done = go (has_ring (alg_of w.gate))
  where
    go : (b : Bool) → (if b then w.done else w.clock) ≡ w.clock
    go true = done
    go false = refl

pub ring-named : (a : Alg) → has_ring a ≡ true → a ≡ RingSw
ring-named Cgl e = absurd cc
ring-named Tml e = absurd cc
ring-named OrecLazy e = absurd cc
ring-named OrecEager e = absurd cc
ring-named RingSw e = refl
ring-named Serial e = absurd cc

-- who is between no entry and its DONE, and owes no DONE as the gate's holder,
-- has seen no more than the number from which starts are loaded
pub front-within : (good : (ℕ → ℕ) → Type 0) (c : Config) (w : World) (n : ℕ) → Core good c w → (w.views n).ring_commit.committed ≡ false → (w.views n).attempt.entered ≡ false → (w.views n).history.front ≤ horizon w
front-within good c w n g early apart = go (has_ring (alg_of w.gate)) refl
  where
    go : (b : Bool) → has_ring (alg_of w.gate) ≡ b → (w.views n).history.front ≤ (if b then w.done else w.clock)
    go true e = runs-fresh c (regime w) (run_projection w) n g.running (named-regime w ∙ ring-named (alg_of w.gate) e) early apart
    go false e = (g.history.known n).front

-- who has no attempt has no lock
pub unlocked : (good : (ℕ → ℕ) → Type 0) (c : Config) (w : World) (n : ℕ) → Core good c w → ((w.views n).gate.phase ≡ In → ⊥) → (w.views n).lock.taken ≡ false
unlocked good c w n g out = go (w.views n).lock.taken refl
  where
    go : (b : Bool) → (w.views n).lock.taken ≡ b → b ≡ false
    go true t = absurd (out (g.lock.inside n t))
    go false t = refl

-- and has no part in any algorithm
pub idle : (good : (ℕ → ℕ) → Type 0) (c : Config) (w : World) (n : ℕ) → Core good c w → ((w.views n).gate.phase ≡ In → ⊥) → is_busy (w.views n) ≡ false
idle good c w n g out = go (is_busy (w.views n)) refl
  where
    go : (b : Bool) → is_busy (w.views n) ≡ b → b ≡ false
    go true t = absurd (out (g.attempts.busy n t))
    go false t = refl

not-flag : (a b : Bool) → (a ≡ true → b ≡ true) → b ≡ false → a ≡ false
not-flag true b up e = absurd (let f : true ≡ false = sym (up refl) ∙ e in cc)
not-flag false b up e = refl

pub unwritten : (good : (ℕ → ℕ) → Type 0) (c : Config) (w : World) (n : ℕ) → Core good c w → ((w.views n).gate.phase ≡ In → ⊥) → (w.views n).tml.writer ≡ false
unwritten good c w n g out = not-flag (w.views n).tml.writer (is_busy (w.views n)) (busy-writer (w.views n)) (idle good c w n g out)

pub outside : (good : (ℕ → ℕ) → Type 0) (c : Config) (w : World) (n : ℕ) → Core good c w → ((w.views n).gate.phase ≡ In → ⊥) → (w.views n).tml.inside ≡ false
outside good c w n g out = not-flag (w.views n).tml.inside (is_busy (w.views n)) (busy-tml (w.views n)) (idle good c w n g out)

pub outside-records : (good : (ℕ → ℕ) → Type 0) (c : Config) (w : World) (n : ℕ) → Core good c w → ((w.views n).gate.phase ≡ In → ⊥) → (w.views n).owned.inside ≡ false
outside-records good c w n g out = not-flag (w.views n).owned.inside (is_busy (w.views n)) (busy-owned (w.views n)) (idle good c w n g out)

pub unread : (good : (ℕ → ℕ) → Type 0) (c : Config) (w : World) (n : ℕ) → Core good c w → ((w.views n).gate.phase ≡ In → ⊥) → (w.views n).ring_read.inside ≡ false
unread good c w n g out = not-flag (w.views n).ring_read.inside (is_busy (w.views n)) (busy-ring (w.views n)) (idle good c w n g out)

pub uncommitted : (good : (ℕ → ℕ) → Type 0) (c : Config) (w : World) (n : ℕ) → Core good c w → ((w.views n).gate.phase ≡ In → ⊥) → (w.views n).ring_commit.committed ≡ false
uncommitted good c w n g out = not-flag (w.views n).ring_commit.committed (is_busy (w.views n)) (busy-turn (w.views n)) (idle good c w n g out)

-- who may not hold the gate hasn't raised the clock as its holder
pub unentered : (good : (ℕ → ℕ) → Type 0) (c : Config) (w : World) (n : ℕ) → Core good c w → may_hold (w.views n).gate.phase ≡ false → (w.views n).attempt.entered ≡ true → ⊥
unentered good c w n g out e = let f : true ≡ false = sym (g.attempts.entered n e) ∙ out in cc

-- and owns no record
pub bare : (good : (ℕ → ℕ) → Type 0) (c : Config) (w : World) (n : ℕ) → Core good c w → ((w.views n).gate.phase ≡ In → ⊥) → (r : ℕ) → touches (w.views n).owned.held r ≡ false
bare good c w n g out r = go (touches (w.views n).owned.held r) refl
  where
    go : (b : Bool) → touches (w.views n).owned.held r ≡ b → b ≡ false
    go true t = absurd (out (g.records.inside n r t))
    go false t = refl

-- a record is owned by who holds it
pub owner-holds : (good : (ℕ → ℕ) → Type 0) (c : Config) (w : World) → Core good c w → (r m : ℕ) → rec_of (w.records r) ≡ Taken m → touches (w.views m).owned.held r ≡ true
owner-holds good c w g r m e = let k = taken-rec (w.records r) m e in subst (λ (u : ℕ). touches (w.views u).owned.held r ≡ true) k.1 (g.records.owned r k.0)

-- who holds none owns none
pub none-apart : (good : (ℕ → ℕ) → Type 0) (c : Config) (w : World) (n : ℕ) → Core good c w → ((r : ℕ) → touches (w.views n).owned.held r ≡ false) → (r : ℕ) → rec_of (w.records r) ≡ Taken n → ⊥
none-apart good c w n g none r e = let f : true ≡ false = sym (owner-holds good c w g r n e) ∙ none r in cc

-- who may not hold the gate doesn't
pub unheld : (good : (ℕ → ℕ) → Type 0) (c : Config) (w : World) (n : ℕ) → Core good c w → may_hold (w.views n).gate.phase ≡ false → (w.views n).gate.holds ≡ false
unheld good c w n g out = go (w.views n).gate.holds refl
  where
    go : (b : Bool) → (w.views n).gate.holds ≡ b → b ≡ false
    go true h = absurd (let e : true ≡ false = sym (g.gate.holding n h) ∙ out in cc)
    go false h = refl

-- who holds no gate isn't promoted
pub ungranted : (good : (ℕ → ℕ) → Type 0) (c : Config) (w : World) (n : ℕ) → Core good c w → (w.views n).gate.holds ≡ false → (w.views n).gate.granted ≡ false
ungranted good c w n g free = (not-quiescent c (install_projection w) n g.install free).3

-- nor is who is in no attempt
pub ungranted-out : (good : (ℕ → ℕ) → Type 0) (c : Config) (w : World) (n : ℕ) → Core good c w → ((w.views n).gate.phase ≡ In → ⊥) → (w.views n).gate.granted ≡ false
ungranted-out good c w n g out = go (w.views n).gate.granted refl
  where
    go : (b : Bool) → (w.views n).gate.granted ≡ b → b ≡ false
    go true t = absurd (out (g.install.promoted n t).1)
    go false t = refl

-- who holds no gate gives nothing back
pub ungiven : (good : (ℕ → ℕ) → Type 0) (c : Config) (w : World) (n : ℕ) → Core good c w → (w.views n).gate.holds ≡ false → (w.views n).gate.giving ≡ false
ungiven good c w n g free = (not-quiescent c (install_projection w) n g.install free).4

-- nor does who isn't closing
pub ungiven-out : (good : (ℕ → ℕ) → Type 0) (c : Config) (w : World) (n : ℕ) → Core good c w → ((w.views n).gate.phase ≡ Closing → ⊥) → (w.views n).gate.giving ≡ false
ungiven-out good c w n g out = go (w.views n).gate.giving refl
  where
    go : (b : Bool) → (w.views n).gate.giving ≡ b → b ≡ false
    go true t = absurd (out (g.install.giving n t).1)
    go false t = refl

-- a caller that does something is one of the callers
pub is-caller : (good : (ℕ → ℕ) → Type 0) (c : Config) (w : World) → Core good c w → (k : ℕ) → ((w.views k).gate.phase ≡ Idle → ⊥) → k < c.callers
is-caller good c w g k busy = go (ltb k c.callers) refl
  where
    go : (t : Bool) → ltb k c.callers ≡ t → k < c.callers
    go true q = grind (arith, nat_tests)
    go false q = absurd (busy (g.gate.far k (grind (arith, nat_tests))))

-- the rule of the records while an attempt of theirs isn't promoted
pub orec-world : (good : (ℕ → ℕ) → Type 0) (c : Config) (w : World) (n : ℕ) → Core good c w → RunsOrec (w.views n) → OrecWorld good c w
orec-world good c w n g may =
    record {
      history = g.history;
      steps = g.steps;
      records = g.records;
      lock = g.lock;
      attempts = g.attempts;
      runs = by (w.views n).gate.algorithm may.algorithm
          (subst (λ (r : Regime). Runs c r (run_projection w)) (regime-inside c w n g.gate g.install may.phase may.plain) g.running);
    }
  where
    by : (a : Alg) → has_records a ≡ true → Runs c (Running a) (run_projection w) → OrecRuns c (run_projection w)
    by Cgl e k = absurd cc
    by Tml e k = absurd cc
    by OrecLazy e k = k
    by OrecEager e k = k
    by RingSw e k = absurd cc
    by Serial e k = absurd cc

-- the step leaves the gate, the statuses and what the caller knows of them alone, and BASE and DONE
pub record LeavesGate (kind : StepKind) (n : ℕ) : Type 0 where
  pub gate : (w : World) → (world_after kind n w).gate ≡ w.gate
  pub status : (w : World) → (world_after kind n w).status ≡ w.status
  pub view : (w : World) → (kind.after w (w.views n) (answer kind w)).gate ≡ (w.views n).gate
  pub marks : (w : World) → ((world_after kind n w).base ≡ w.base) × ((world_after kind n w).done ≡ w.done)
  pub step_trace : (w : World) → (kind.after w (w.views n) (answer kind w)).steps.step_trace ≡ (w.views n).steps.step_trace

-- the step raises the clock, and what the caller knows as the gate's holder is of its new time;
-- it leaves the other words alone
pub record RaisesClock (kind : StepKind) (n : ℕ) : Type 0 where
  pub gate : (w : World) → (world_after kind n w).gate ≡ w.gate
  pub status : (w : World) → (world_after kind n w).status ≡ w.status
  pub records : (w : World) → (world_after kind n w).records ≡ w.records
  pub view : (w : World) → (kind.after w (w.views n) (answer kind w)).gate ≡ record (w.views n).gate { time = (world_after kind n w).clock; rebased = false; completed = false }
  pub marks : (w : World) → ((world_after kind n w).base ≡ w.base) × ((world_after kind n w).done ≡ w.done)
  pub step_trace : (w : World) → (kind.after w (w.views n) (answer kind w)).steps.step_trace ≡ (w.views n).steps.step_trace

-- a rise that is taken or not leaves the step trace
pub risen-step_trace : (b : Bool) (v : View) (n : ℕ) → (if b then record v.steps { rises = n } else v.steps).step_trace ≡ v.steps.step_trace
risen-step_trace true v n = refl
risen-step_trace false v n = refl

-- the step leaves the clock, the lock, the records and the history alone, and of what the caller knows the history,
-- the rises and what it holds
pub record LeavesCommon (kind : StepKind) (n : ℕ) : Type 0 where
  pub words : (w : World) → ((world_after kind n w).clock ≡ w.clock) × ((world_after kind n w).lock ≡ w.lock) × ((world_after kind n w).records ≡ w.records)
  pub history : (w : World) → ((world_after kind n w).history ≡ w.history) × ((kind.after w (w.views n) (answer kind w)).history ≡ (w.views n).history)
  pub steps : (w : World) → ((kind.after w (w.views n) (answer kind w)).steps.step_trace ≡ (w.views n).steps.step_trace) × ((kind.after w (w.views n) (answer kind w)).steps.rises ≡ (w.views n).steps.rises)
  pub held : (w : World) → ((kind.after w (w.views n) (answer kind w)).lock.taken ≡ (w.views n).lock.taken) × ((kind.after w (w.views n) (answer kind w)).owned.held ≡ (w.views n).owned.held)
  pub busy : (w : World) → is_busy (kind.after w (w.views n) (answer kind w)) ≡ is_busy (w.views n)

-- the step leaves all alone that the clauses of what runs see
pub record LeavesRuns (kind : StepKind) (n : ℕ) : Type 0 where
  pub common : LeavesCommon kind n
  pub marks : (w : World) → ((world_after kind n w).base ≡ w.base) × ((world_after kind n w).done ≡ w.done)
  pub memory : (w : World) → ((world_after kind n w).heap ≡ w.heap) × ((world_after kind n w).slots ≡ w.slots)
  pub view : (w : World) → run_view (kind.after w (w.views n) (answer kind w)) ≡ run_view (w.views n)

module _ (good : (ℕ → ℕ) → Type 0) (c : Config) (kind : StepKind) (n : ℕ) (w : World) where
  -- a step at the gate, after which these clauses stand of what runs
  pub by-running : LeavesCommon kind n → Core good c w
      → ((w.views n).gate.phase ≡ In → (kind.after w (w.views n) (answer kind w)).gate.phase ≡ In)
      → ((kind.after w (w.views n) (answer kind w)).attempt.entered ≡ true
      → may_hold (kind.after w (w.views n) (answer kind w)).gate.phase ≡ true) → Raised (world_after kind n w)
      → horizon w ≤ horizon (world_after kind n w)
      → GateRule c.callers (gate_projection (world_after kind n w)) → InstallRule c (install_projection (world_after kind n w)) → Runs c (regime (world_after kind n w)) (run_projection (world_after kind n w))
      → Core good c (world_after kind n w) × Advances w (world_after kind n w)
  by-running leaves g phase entered raised level gate install running = (
    record {
      history = history-kept good c w x n v refl (leaves.words w).0 (leaves.history w).0 (leaves.history w).1 g.history;
      steps = steps-kept c kind n w (leaves.words w).0 (leaves.steps w).0 (leaves.steps w).1 g.steps;
      gate = gate;
      install = install;
      records = records-after w x n v refl up (leaves.words w).2 (leaves.held w).1 (λ r t. phase (g.records.inside n r t)) g.records;
      lock = lock-phase w x n v refl (leaves.words w).1 (leaves.held w).0 (λ t. phase (g.lock.inside n (sym (leaves.held w).0 ∙ t))) g.lock;
      attempts = attempts-after w x n v refl (λ e. phase (g.attempts.busy n (sym (leaves.busy w) ∙ e))) entered g.attempts;
      running = running;
      alone = alone-kept c kind n w (leaves.steps w).0 (λ sole. inr (leaves.words w).2) g.alone;
      raised = raised;
    },
    record { clock = up; horizon = level; seen = λ f l. ap (λ h. upto h f) (leaves.history w).0 },
  )
    where
      x : World
      x = world_after kind n w

      v : View
      v = view_after kind w (w.views n) (answer kind w)

      up : w.clock ≤ x.clock
      up = subst (λ (k : ℕ). w.clock ≤ k) (sym (leaves.words w).0) (le_refl w.clock)

  -- a step at the gate that leaves what runs alone
  pub by-gate : LeavesRuns kind n → Core good c w
      → ((w.views n).gate.phase ≡ In → (kind.after w (w.views n) (answer kind w)).gate.phase ≡ In)
      → ((w.views n).attempt.entered ≡ true → may_hold (kind.after w (w.views n) (answer kind w)).gate.phase ≡ true)
      → ((w.views n).gate.quiescent ≡ true → (w.views n).attempt.entered ≡ true
      → (kind.after w (w.views n) (answer kind w)).gate.quiescent ≡ true)
      → GateRule c.callers (gate_projection (world_after kind n w)) → InstallRule c (install_projection (world_after kind n w)) → regime (world_after kind n w) ≡ regime w
      → Core good c (world_after kind n w) × Advances w (world_after kind n w)
  by-gate leaves g phase entered quiescent gate install same = by-running leaves.common g phase (λ e. entered (sym (ap (λ (u : RunView). u.attempt.entered) (leaves.view w)) ∙ e))
      (raised-put w x n v refl (λ e. sym (named-regime w) ∙ (sym (ap named_in same) ∙ (named-regime x ∙ e)))
      (λ e k.
      let t = sym (ap (λ (u : RunView). u.attempt.entered) (leaves.view w)) ∙ k in
      quiescent (g.raised (sym (named-regime w) ∙ (sym (ap named_in same) ∙ (named-regime x ∙ e))) n t) t) g.raised)
      (same-horizon w x (sym (named-regime x) ∙ (ap named_in same ∙ named-regime w))
      (subst (λ (k : ℕ). w.clock ≤ k) (sym (leaves.common.words w).0) (le_refl w.clock))
      (subst (λ (k : ℕ). w.done ≤ k) (sym (leaves.marks w).1) (le_refl w.done)))
      gate install
      (runs-stays c (regime w) (regime x) (run_projection w) (run_projection x) same
      (run_projection-kept w x n v refl (leaves.common.words w).0 (leaves.common.words w).1 (leaves.marks w).0 (leaves.marks w).1
      (leaves.common.words w).2 (leaves.memory w).1 (leaves.memory w).0 (leaves.common.history w).0 (leaves.view w)) g.running)
    where
      x : World
      x = world_after kind n w

      v : View
      v = view_after kind w (w.views n) (answer kind w)

-- with one caller alone, who is in an attempt is that one
pub only-caller : (good : (ℕ → ℕ) → Type 0) (c : Config) (w : World) (n : ℕ) → Core good c w → (w.views n).gate.phase ≡ In → c.callers ≡ 1 → n ≡ 0
only-caller good c w n g inside sole = let low : n < c.callers = is-caller good c w g n (λ idle. let e : In ≡ Idle = sym inside ∙ idle in cc) in omega arith

-- and finds each record as its last step there left it
pub as-left : (good : (ℕ → ℕ) → Type 0) (c : Config) (w : World) (n r x : ℕ) → Core good c w → (w.views n).gate.phase ≡ In → c.callers ≡ 1 → left_at r (w.views n).steps.step_trace ≡ Some x → w.records r ≡ x
as-left good c w n r x g inside sole e = g.alone sole r x (subst (λ (m : ℕ). left_at r (w.views m).steps.step_trace ≡ Some x) (only-caller good c w n g inside sole) e)

-- which clauses of what runs a step of an attempt keeps
pub record Opens (good : (ℕ → ℕ) → Type 0) (c : Config) (kind : StepKind) (shows : World → View → ℕ → Type 0) (n : ℕ) (May : View → Type 0) (w : World) : Type 0 where
  pub runs : Regime
  pub is : regime w ≡ runs
  pub inside : (w.views n).gate.phase ≡ In
  pub law : StepLaw (RunWorld (Runs c runs) good c) kind shows n May
  pub raised : alg_of w.gate ≡ RingSw → (kind.after w (w.views n) (answer kind w)).attempt.entered ≡ true → (w.views n).gate.quiescent ≡ true
  -- what the gate's holders know outlasts the step
  pub stands : ((m : ℕ) → (w.views m).gate.quiescent ≡ true → ⊥) ⊎ ((world_after kind n w).clock ≡ w.clock)

-- a step of an attempt, of whichever algorithm, promoted or not
pub by-attempt : (good : (ℕ → ℕ) → Type 0) (c : Config) (kind : StepKind) (shows : World → View → ℕ → Type 0) (n : ℕ) (May : View → Type 0)
    → LeavesGate kind n → ((w : World) → Core good c w → May (w.views n) → Opens good c kind shows n May w)
    → StepLaw (Core good c) kind shows n May
by-attempt good c kind shows n May leaves opens w g may =
    let p = opens w g may in
    let o = p.law w (record { history = g.history; steps = g.steps; records = g.records; lock = g.lock; attempts = g.attempts; runs = subst (λ (r : Regime). Runs c r (run_projection w)) p.is g.running }) may in record {
      rule = record {
        history = o.rule.history;
        steps = o.rule.steps;
        gate = subst (GateRule c.callers) (sym (gate_projection-kept w x n v refl (leaves.status w) (leaves.gate w) (leaves.view w))) g.gate;
        install = ⊎_elim
            (λ nobody. install-raised c w x n v refl o.advances.clock (leaves.marks w).0 (leaves.marks w).1 (leaves.view w) nobody g.install)
            (λ same. subst (InstallRule c) (sym (install_projection-kept w x n v refl same (leaves.marks w).0 (leaves.marks w).1 (leaves.view w))) g.install)
            p.stands;
        records = o.rule.records;
        lock = o.rule.lock;
        attempts = o.rule.attempts;
        running = subst (λ (r : Regime). Runs c r (run_projection x)) (sym (regime-kept w x n v refl (leaves.gate w) (ap mode_of (leaves.view w)) ∙ p.is)) o.rule.runs;
        alone = alone-kept c kind n w (leaves.step_trace w) (λ sole. inl (only-caller good c w n g p.inside sole)) g.alone;
        raised = raised-put w x n v refl (λ e. sym (ap alg_of (leaves.gate w)) ∙ e) (λ e k. ap (λ (q : GateView). q.quiescent) (leaves.view w) ∙ p.raised (sym (ap alg_of (leaves.gate w)) ∙ e) k) g.raised;
      };
      advances = o.advances;
      shown = o.shown;
    }
  where
    x : World
    x = world_after kind n w

    v : View
    v = view_after kind w (w.views n) (answer kind w)

module _ (good : (ℕ → ℕ) → Type 0) (c : Config) (kind : StepKind) (shows : World → View → ℕ → Type 0) (n : ℕ) (May : View → Type 0) where
  -- nobody knows the clock as the gate's holder while an attempt runs that doesn't know it so
  plain : (w : World) → Core good c w → (w.views n).gate.phase ≡ In → (w.views n).gate.quiescent ≡ false → (m : ℕ) → (w.views m).gate.quiescent ≡ true → ⊥
  plain w g inside free = nobody-quiescent c w n inside free g.gate g.install (is-caller good c w g n (λ idle. let e : In ≡ Idle = sym inside ∙ idle in cc))

  -- the step leaves the clock alone, or its caller doesn't hold the gate, or doesn't know the clock as its holder
  abbrev pub Calms : Type 0
  Calms = (w : World) → Core good c w → May (w.views n) → (((w.views n).gate.holds ≡ false) ⊎ ((w.views n).gate.quiescent ≡ false)) ⊎ ((world_after kind n w).clock ≡ w.clock)

  calms : (w : World) → Core good c w → (w.views n).gate.phase ≡ In
      → (((w.views n).gate.holds ≡ false) ⊎ ((w.views n).gate.quiescent ≡ false)) ⊎ ((world_after kind n w).clock ≡ w.clock)
      → ((m : ℕ) → (w.views m).gate.quiescent ≡ true → ⊥) ⊎ ((world_after kind n w).clock ≡ w.clock)
  calms w g inside e = ⊎_elim (λ k. inl (⊎_elim (λ free. plain w g inside (not-quiescent c (install_projection w) n g.install free).0) (λ free. plain w g inside free) k)) (λ same. inr same) e

  -- under CGL and Serial nothing is promoted
  never : (w : World) → Core good c w → takes_lock (w.views n).gate.algorithm ≡ true → (w.views n).gate.granted ≡ false
  never w g single = go (w.views n).gate.granted refl
    where
      by : (a : Alg) → takes_lock a ≡ true → Suits (home_of c) a (suit_part n (run_projection w)) → ⊥
      by Cgl e k = k
      by Tml e k = cc
      by OrecLazy e k = cc
      by OrecEager e k = cc
      by RingSw e k = cc
      by Serial e k = k

      go : (b : Bool) → (w.views n).gate.granted ≡ b → b ≡ false
      go true e =
          absurd (let k : DirectRuns c (w.views n).gate.algorithm n (run_projection w) =
          subst (λ (r : Regime). Runs c r (run_projection w)) (regime-granted c w n g.gate g.install e) g.running in
          by (w.views n).gate.algorithm single k.suits)
      go false e = refl

  -- a step of CGL or Serial
  pub by-cgl : LeavesGate kind n → Calms → ((v : View) → May v → (v.gate.phase ≡ In) × (takes_lock v.gate.algorithm ≡ true)) → StepLaw (CglWorld good c) kind shows n May → StepLaw (Core good c) kind shows n May
  by-cgl leaves clock inside law = by-attempt good c kind shows n May leaves opens
    where
      opens : (w : World) → Core good c w → May (w.views n) → Opens good c kind shows n May w
      opens w g may =
          let i = inside (w.views n) may in
          let free = never w g i.1 in
          by (w.views n).gate.algorithm i.1 (regime-inside c w n g.gate g.install i.0 free) (calms w g i.0 (clock w g may))
        where
          other : alg_of w.gate ≡ RingSw → (kind.after w (w.views n) (answer kind w)).attempt.entered ≡ true → (w.views n).gate.quiescent ≡ true
          other e t = absurd (let i = inside (w.views n) may in let f : true ≡ false = sym i.1 ∙ ap takes_lock (sym (g.gate.named n i.0) ∙ e) in cc)

          by : (a : Alg) → takes_lock a ≡ true → regime w ≡ Running a → ((m : ℕ) → (w.views m).gate.quiescent ≡ true → ⊥) ⊎ ((world_after kind n w).clock ≡ w.clock) → Opens good c kind shows n May w
          by Cgl e is stands = record { runs = Running Cgl; is = is; inside = (inside (w.views n) may).0; raised = other; law = law; stands = stands }
          by Tml e is stands = absurd cc
          by OrecLazy e is stands = absurd cc
          by OrecEager e is stands = absurd cc
          by RingSw e is stands = absurd cc
          by Serial e is stands = record { runs = Running Serial; is = is; inside = (inside (w.views n) may).0; raised = other; law = law; stands = stands }

  -- a step of OrecLazy or OrecEager
  pub by-orec : LeavesGate kind n → Calms → ((v : View) → May v → RunsOrec v) → StepLaw (OrecWorld good c) kind shows n May → StepLaw (Core good c) kind shows n May
  by-orec leaves clock inside law = by-attempt good c kind shows n May leaves opens
    where
      opens : (w : World) → Core good c w → May (w.views n) → Opens good c kind shows n May w
      opens w g may =
          let i = inside (w.views n) may in
          by (w.views n).gate.algorithm i.algorithm (regime-inside c w n g.gate g.install i.phase i.plain) (calms w g i.phase (clock w g may))
        where
          other : alg_of w.gate ≡ RingSw → (kind.after w (w.views n) (answer kind w)).attempt.entered ≡ true → (w.views n).gate.quiescent ≡ true
          other e t = absurd (let i = inside (w.views n) may in let f : true ≡ false = sym i.algorithm ∙ ap has_records (sym (g.gate.named n i.phase) ∙ e) in cc)

          by : (a : Alg) → has_records a ≡ true → regime w ≡ Running a → ((m : ℕ) → (w.views m).gate.quiescent ≡ true → ⊥) ⊎ ((world_after kind n w).clock ≡ w.clock) → Opens good c kind shows n May w
          by Cgl e is stands = absurd cc
          by Tml e is stands = absurd cc
          by OrecLazy e is stands = record { runs = Running OrecLazy; is = is; inside = (inside (w.views n) may).phase; raised = other; law = law; stands = stands }
          by OrecEager e is stands = record { runs = Running OrecEager; is = is; inside = (inside (w.views n) may).phase; raised = other; law = law; stands = stands }
          by RingSw e is stands = absurd cc
          by Serial e is stands = absurd cc

  -- a step of one algorithm that isn't promoted
  pub by-running-of : (a : Alg) → LeavesGate kind n → Calms
      → ((v : View) → May v → (v.gate.phase ≡ In) × (v.gate.algorithm ≡ a) × (v.gate.granted ≡ false))
      → (a ≡ RingSw → (w : World) → (kind.after w (w.views n) (answer kind w)).attempt.entered ≡ true → (w.views n).attempt.entered ≡ true)
      → StepLaw (RunWorld (Runs c (Running a)) good c) kind shows n May → StepLaw (Core good c) kind shows n May
  by-running-of a leaves clock inside entered law = by-attempt good c kind shows n May leaves (λ w g may.
      let i = inside (w.views n) may in
      record {
        runs = Running a;
        is = regime-inside c w n g.gate g.install i.0 i.2 ∙ ap Running i.1;
        inside = i.0;
        raised = λ e t. g.raised e n (entered (sym i.1 ∙ (sym (g.gate.named n i.0) ∙ e)) w t);
        law = law;
        stands = calms w g i.0 (clock w g may);
      })

  -- a step of a promoted attempt that leaves the clock alone
  pub by-direct : LeavesGate kind n → ((w : World) → (world_after kind n w).clock ≡ w.clock) → ((v : View) → May v → v.gate.granted ≡ true)
      → ((v : View) → May v → StepLaw (RunWorld (Runs c (Promoted v.gate.algorithm n)) good c) kind shows n May)
      → StepLaw (Core good c) kind shows n May
  by-direct leaves clock inside law = by-attempt good c kind shows n May leaves (λ w g may.
      record {
        runs = Promoted (w.views n).gate.algorithm n;
        is = regime-granted c w n g.gate g.install (inside (w.views n) may);
        inside = (g.install.promoted n (inside (w.views n) may)).1;
        raised = λ e t. (g.install.promoted n (inside (w.views n) may)).0;
        law = law (w.views n) may;
        stands = inr (clock w);
      })

-- a step by which a promoted attempt raises the clock, with an entry or without one
pub by-raise : (good : (ℕ → ℕ) → Type 0) (c : Config) (kind : StepKind) (shows : World → View → ℕ → Type 0) (n : ℕ) (May : View → Type 0)
    (alg : Alg) → RaisesClock kind n → ((v : View) → May v → (v.gate.granted ≡ true) × (v.gate.algorithm ≡ alg))
    → StepLaw (RunWorld (Runs c (Promoted alg n)) good c) kind shows n May → StepLaw (Core good c) kind shows n May
by-raise good c kind shows n May alg raises inside law w g may = record {
  rule = record {
    history = o.rule.history;
    steps = o.rule.steps;
    gate =
        gate-marked c.callers w x n v refl (raises.status w) (raises.gate w) (known (λ q. q.phase)) (known (λ q. q.present))
        (known (λ q. q.algorithm)) (known (λ q. q.fence)) (known (λ q. q.aim)) (known (λ q. q.holds)) (known (λ q. q.checked)) g.gate;
    install = ticked-install c w x n x.clock v refl refl (raises.marks w).0 (raises.marks w).1 (raises.view w) o.advances.clock quiescent g.gate g.install;
    records = o.rule.records;
    lock = o.rule.lock;
    attempts = o.rule.attempts;
    running = subst (λ (r : Regime). Runs c r (run_projection x)) (sym (regime-kept w x n v refl (raises.gate w) (known mode_of) ∙ is)) o.rule.runs;
    alone = alone-kept c kind n w (raises.step_trace w) (λ sole. inr (raises.records w)) g.alone;
    raised = raised-put w x n v refl (λ e. sym (ap alg_of (raises.gate w)) ∙ e) (λ e k. known (λ q. q.quiescent) ∙ quiescent) g.raised;
  };
  advances = o.advances;
  shown = o.shown;
}
  where
    x : World
    x = world_after kind n w

    v : View
    v = view_after kind w (w.views n) (answer kind w)

    -- a part of what the caller knows of the gate that the time is not in
    known : {A : Type 0} (part : GateView → A) → part v.gate ≡ part (record (w.views n).gate { time = x.clock; rebased = false; completed = false })
    known part = ap part (raises.view w)

    quiescent : (w.views n).gate.quiescent ≡ true
    quiescent = (g.install.promoted n (inside (w.views n) may).0).0

    is : regime w ≡ Promoted alg n
    is = regime-granted c w n g.gate g.install (inside (w.views n) may).0 ∙ ap (λ (a : Alg). Promoted a n) (inside (w.views n) may).1

    o : StepOutcome (RunWorld (Runs c (Promoted alg n)) good c) kind shows n w
    o = law w (record { history = g.history; steps = g.steps; records = g.records; lock = g.lock; attempts = g.attempts; runs = subst (λ (r : Regime). Runs c r (run_projection w)) is g.running }) may

-- a step by which an attempt that isn't promoted raises DONE, while nobody knows the clock as the gate's holder
pub by-done : (good : (ℕ → ℕ) → Type 0) (c : Config) (kind : StepKind) (shows : World → View → ℕ → Type 0) (n : ℕ) (May : View → Type 0)
    (a : Alg)
    → ((w : World)
    → ((world_after kind n w).gate ≡ w.gate) × ((world_after kind n w).status ≡ w.status)
    × ((kind.after w (w.views n) (answer kind w)).gate ≡ (w.views n).gate) × ((world_after kind n w).base ≡ w.base)
    × ((kind.after w (w.views n) (answer kind w)).steps.step_trace ≡ (w.views n).steps.step_trace)
    × ((kind.after w (w.views n) (answer kind w)).attempt.entered ≡ (w.views n).attempt.entered)) → has_ring a ≡ true
    → ((v : View) → May v → (v.gate.phase ≡ In) × (v.gate.algorithm ≡ a) × (v.gate.granted ≡ false) × (v.gate.quiescent ≡ false))
    → ((s : RunProjection) → Runs c (Running a) s → s.done ≤ s.clock) → StepLaw (RunWorld (Runs c (Running a)) good c) kind shows n May
    → StepLaw (Core good c) kind shows n May
by-done good c kind shows n May a leaves ring inside low law w g may =
    let i = inside (w.views n) may in
    let is : regime w ≡ Running a = regime-inside c w n g.gate g.install i.0 i.2 ∙ ap Running i.1 in
    let o = law w (record { history = g.history; steps = g.steps; records = g.records; lock = g.lock; attempts = g.attempts; runs = subst (λ (r : Regime). Runs c r (run_projection w)) is g.running }) may in record {
      rule = record {
        history = o.rule.history;
        steps = o.rule.steps;
        gate = subst (GateRule c.callers) (sym (gate_projection-kept w x n v refl (leaves w).1 (leaves w).0 (leaves w).2)) g.gate;
        install = install-done c w x n v refl o.advances.clock (leaves w).3 (low (run_projection x) o.rule.runs) (up o.advances.horizon) (leaves w).2
            (nobody-quiescent c w n i.0 i.3 g.gate g.install (is-caller good c w g n (λ idle. let e : In ≡ Idle = sym i.0 ∙ idle in cc))) g.install;
        records = o.rule.records;
        lock = o.rule.lock;
        attempts = o.rule.attempts;
        running = subst (λ (r : Regime). Runs c r (run_projection x)) (sym (regime-kept w x n v refl (leaves w).0 (ap mode_of (leaves w).2) ∙ is)) o.rule.runs;
        alone = alone-kept c kind n w (leaves w).4 (λ sole. inl (only-caller good c w n g i.0 sole)) g.alone;
        raised = raised-put w x n v refl (λ e. sym (ap alg_of (leaves w).0) ∙ e) (λ e k. ap (λ (q : GateView). q.quiescent) (leaves w).2 ∙ g.raised (sym (ap alg_of (leaves w).0) ∙ e) n (sym (leaves w).5 ∙ k)) g.raised;
      };
      advances = o.advances;
      shown = o.shown;
    }
  where
    x : World
    x = world_after kind n w

    v : View
    v = view_after kind w (w.views n) (answer kind w)

    named : has_ring (alg_of w.gate) ≡ true
    named = let i = inside (w.views n) may in ap has_ring (g.gate.named n i.0 ∙ i.1) ∙ ring

    up : horizon w ≤ horizon x → w.done ≤ x.done
    up l =
        let before : horizon w ≡ w.done = ap (λ (b : Bool). if b then w.done else w.clock) named in
        let after : horizon x ≡ x.done = ap (λ (b : Bool). if b then x.done else x.clock) (ap (λ (k : ℕ). has_ring (alg_of k)) (leaves w).0 ∙ named) in
        omega arith
