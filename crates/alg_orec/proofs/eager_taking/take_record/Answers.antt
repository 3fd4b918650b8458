use Rattle.std.proofs.Common.{ℕ, ◌≡◌, ◌<◌, ◌∙◌, true, subst, sym, ap, arith, rules}
use Rattle.std.specs.Prelude.{◌%◌, None}
use Rattle.std.specs.Option.{is_some}
use Rattle.stm_model.specs.declared.config.TheConstants.{CLOCK_LIMIT}
use Rattle.stm_model.specs.Memories.{item_at}
use Rattle.rule_base.specs.Encodings.{version_of}
use Rattle.rule_base.specs.StepKinds.{Tells}
use Rattle.rule_orec.specs.OrecSteps.{orec_limit, orec_lock, CanOrecLock}
use Rattle.stm_rule.specs.declared.local.Local.{Local}
use Rattle.stm_rule.specs.Kept.{good_of}
use Rattle.stm_rule.proofs.StandLemmas.{tells-of}
use Rattle.alg_orec.specs.RecordFindings.{FindsRecord, FindsClock}
use Rattle.stm_logs.specs.LogStates.{Pushes, keep}
use Rattle.alg_orec.proofs.LockingLaws.{unheld-of}
use Rattle.alg_orec.proofs.Eager.EagerTakingLaws as laws
use Rattle.alg_orec.proofs.eager_taking.take_record.Goals.{After-limit-clock, In-Ok, After-lock-found}
use Rattle.alg_orec.proofs.eager_taking.take_record.Goals as goal

clocked : (g : _) (c : After-limit-clock g)
    → laws.HasClock (good_of g.K.MemRule.good c.args.stm.now.config c.args.stm.now.rule) c.args.stm.now.config c.args.caller c.args.a
    c.args.local.now c.args.seat.now.me.0.view c.limit-clock.result c.limit-clock.new.seat.me.0.view
clocked g c =
    let none : item_at c.record_of-index.result c.args.local.now.locks.items ≡ None = search rules in
    let its = subst (λ (r : ℕ). item_at r c.args.local.now.locks.items ≡ None) c.record_of-index.ensures none in
    record { low = c.requires.caller; can = c.requires.view; unheld = unheld-of _ _ _ c.requires.view.can.locks its; tells = tells-of orec_limit (FindsClock c.args.stm.now.config) _ _ _ c.limit-clock.ensures.step }

free : (g : _) (c : In-Ok g)
    → laws.HasFree (good_of g.K.MemRule.good c.args.stm.now.config c.args.stm.now.rule) c.args.stm.now.config c.args.caller c.args.a
    c.args.local.now c.limit-clock.result c.limit-clock.new.seat.me.0.view c.in-Ok.word c.sample_valid.new.local
    c.sample_valid.new.seat.me.0.view
free g c = record { below = search rules; sampled = c.in-Ok.ensures.samples }

-- the version that the record was locked at is that of its word
version : (g : _) (c : After-lock-found g) → c.version_of-version.result ≡ version_of c.in-Ok.word
version g c = search rules

locked : (g : _) (c : After-lock-found g)
    → Tells (orec_lock c.args.caller (c.args.a % c.args.stm.now.config.records) (version_of c.in-Ok.word))
    (FindsRecord c.args.stm.now.config c.args.caller (c.args.a % c.args.stm.now.config.records)) c.sample_valid.new.seat.me.0.view
    c.lock-found.result c.lock-found.new.seat.me.0.view
locked g c =
    let r = c.args.a % c.args.stm.now.config.records in
    subst (λ (x : ℕ). Tells (orec_lock c.args.caller r x) (FindsRecord c.args.stm.now.config c.args.caller r) c.sample_valid.new.seat.me.0.view c.lock-found.result c.lock-found.new.seat.me.0.view) (version g c)
    (subst (λ (i : ℕ).
    Tells (orec_lock c.args.caller i c.version_of-version.result) (FindsRecord c.args.stm.now.config c.args.caller i)
    c.sample_valid.new.seat.me.0.view c.lock-found.result c.lock-found.new.seat.me.0.view) c.record_of-index.ensures
    (tells-of (orec_lock c.args.caller c.record_of-index.result c.version_of-version.result) (FindsRecord c.args.stm.now.config c.args.caller c.record_of-index.result) _ _ _ c.lock-found.ensures.step))

pub returns-then-is_some-clause-takes : goal.returns-then-is_some-clause-takes
returns-then-is_some-clause-takes g c =
    let some : is_some (item_at c.record_of-index.result c.args.local.now.locks.items) ≡ true = search rules in
    let its = subst (λ (r : ℕ). is_some (item_at r c.args.local.now.locks.items) ≡ true) c.record_of-index.ensures some in
    laws.taken-before c.requires.view (laws.held-where _ _ _ c.requires.view.can.locks its)

pub limit-clock-requires-clause-view : goal.limit-clock-requires-clause-view
limit-clock-requires-clause-view g c = c.requires.view.can.opens.has

pub returns-then-clock-ge-CLOCK_LIMIT-clause-takes : goal.returns-then-clock-ge-CLOCK_LIMIT-clause-takes
returns-then-clock-ge-CLOCK_LIMIT-clause-takes g c = laws.full-before (clocked g (goal.at.returns-then-clock-ge-CLOCK_LIMIT-clause-takes g c).After-limit-clock) (search rules)

pub sample_valid-requires-clause-view : goal.sample_valid-requires-clause-view
sample_valid-requires-clause-view g c = laws.may-sample (clocked g (goal.at.sample_valid-requires-clause-view g c).After-limit-clock)

pub returns-in-Err-clause-takes : goal.returns-in-Err-clause-takes
returns-in-Err-clause-takes g c = laws.refused-sample (clocked g (goal.at.returns-in-Err-clause-takes g c).After-limit-clock) c.in-Err.cause _ _ c.in-Err.ensures.samples

pub returns-then-local-ge-CLOCK_LIMIT-clause-takes : goal.returns-then-local-ge-CLOCK_LIMIT-clause-takes
returns-then-local-ge-CLOCK_LIMIT-clause-takes g c =
    let at = goal.at.returns-then-local-ge-CLOCK_LIMIT-clause-takes g c in
    laws.full-later (clocked g at.After-limit-clock) (free g at.In-Ok) (search rules)

pub lock-found-requires-clause-limit : goal.lock-found-requires-clause-limit
lock-found-requires-clause-limit g c =
    let at = goal.at.lock-found-requires-clause-limit g c in
    let is : c.version_of-version.result ≡ version_of c.in-Ok.word = search rules in
    let under : c.sample_valid.new.local.start < CLOCK_LIMIT = search rules in
    let old = laws.version-old (clocked g at.After-limit-clock) (free g at.In-Ok) in
    omega arith

pub lock-found-requires-clause-view : goal.lock-found-requires-clause-view
lock-found-requires-clause-view g c =
    let at = goal.at.lock-found-requires-clause-view g c in
    let is : c.version_of-version.result ≡ version_of c.in-Ok.word = search rules in
    subst (λ (x : ℕ). CanOrecLock x c.sample_valid.new.seat.me.0.view) (sym is) (laws.may-lock (clocked g at.After-limit-clock) (free g at.In-Ok))

pub returns-then-found-word-clause-takes : goal.returns-then-found-word-clause-takes
returns-then-found-word-clause-takes g c =
    let at = goal.at.returns-then-found-word-clause-takes g c in
    rw c.record_of-index.ensures (laws.refused-lock (clocked g at.After-limit-clock) (free g at.In-Ok) c.lock-found.result _ (locked g at.After-lock-found) (search rules))

pub push_new-requires : goal.push_new-requires
push_new-requires g c =
    let none : item_at c.record_of-index.result c.args.local.now.locks.items ≡ None = search rules in
    record { new = ap (λ (l : Local). item_at c.record_of-index.result l.locks.items) c.in-Ok.ensures.samples.local ∙ none }

pub returns-clause-takes : goal.returns-clause-takes
returns-clause-takes g c =
    let at = goal.at.returns-clause-takes g c in
    let r = c.args.a % c.args.stm.now.config.records in
    laws.taken-now (clocked g at.After-limit-clock) (free g at.In-Ok) c.lock-found.result _ (locked g at.After-lock-found) c.push_new.result c.push_new.new.self (search rules) (search rules)
    (subst (λ (x : ℕ). Pushes c.sample_valid.new.local.locks r (keep r x c.sample_valid.new.local.locks.items) c.push_new.result c.push_new.new.self) (version g at.After-lock-found)
    (subst (λ (i : ℕ). Pushes c.sample_valid.new.local.locks i (keep i c.version_of-version.result c.sample_valid.new.local.locks.items) c.push_new.result c.push_new.new.self) c.record_of-index.ensures c.push_new.ensures))
