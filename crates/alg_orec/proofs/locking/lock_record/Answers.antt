use Rattle.std.proofs.Common.{◌≡◌, ℕ, sym, subst, ap, rules, arith, false}
use Rattle.std.specs.Prelude.{Ok}
use Rattle.rule_base.specs.declared.seats.SeatView.{SeatView}
use Rattle.rule_base.specs.Encodings.{is_owned, version_of}
use Rattle.rule_base.specs.History.{touches}
use Rattle.rule_base.specs.StepKinds.{Tells}
use Rattle.rule_orec.specs.OrecSteps.{orec_look, orec_lock}
use Rattle.alg_orec.specs.RecordFindings.{FindsRecord}
use Rattle.stm_logs.specs.LogStates.{Pushes, keep}
use Rattle.alg_orec.specs.Locking.{LocksOne}
use Rattle.alg_orec.proofs.LockingLaws as laws
use Rattle.alg_orec.proofs.locking.lock_record.Goals.{After-look-word, After-lock-found}
use Rattle.alg_orec.proofs.locking.lock_record.Goals as goal

-- the attempt doesn't hold the record
unheld : (g : _) (c : After-look-word g) → touches c.args.seat.now.me.0.view.owned.held c.args.r ≡ false
unheld g c = laws.unheld-of c.args.seat.now.me.0.view.owned.held c.args.local.now.locks.items c.args.r
    c.requires.view.locks c.requires.new

looked : (g : _) (c : After-look-word g) → Tells (orec_look c.args.r)
    (FindsRecord c.args.stm.now.config c.args.caller c.args.r) c.args.seat.now.me.0.view c.look-word.result
    c.look-word.new.seat.me.0.view
looked g c = let h = c.look-word.ensures.step in (h.0, h.1, ap (λ (x : SeatView g.row.K.Denot). x.view) h.3)

-- it tried to take it at the version that it saw
tried : (g : _) (c : After-lock-found g) → c.version_of-version.result ≡ version_of c.look-word.result
    → Tells (orec_lock c.args.caller c.args.r (version_of c.look-word.result))
    (FindsRecord c.args.stm.now.config c.args.caller c.args.r) c.look-word.new.seat.me.0.view c.lock-found.result
    c.lock-found.new.seat.me.0.view
tried g c is = let h = c.lock-found.ensures.step in
    subst (λ (x : ℕ). Tells (orec_lock c.args.caller c.args.r x)
    (FindsRecord c.args.stm.now.config c.args.caller c.args.r) c.look-word.new.seat.me.0.view c.lock-found.result
    c.lock-found.new.seat.me.0.view) is
    (h.0, h.1, ap (λ (x : SeatView g.row.K.Denot). x.view) h.3)

pub look-word-requires-clause-view : goal.look-word-requires-clause-view
look-word-requires-clause-view g c = c.requires.view.opens.has

pub lock-found-requires-clause-limit : goal.lock-found-requires-clause-limit
lock-found-requires-clause-limit g c =
    let free : is_owned c.look-word.result ≡ false = search rules in
    let within = (looked g (goal.at.lock-found-requires-clause-limit g c).After-look-word).1.within free in
    let is : c.version_of-version.result ≡ version_of c.look-word.result = search rules in
    omega arith

pub lock-found-requires-clause-view : goal.lock-found-requires-clause-view
lock-found-requires-clause-view g c =
    let a = (goal.at.lock-found-requires-clause-view g c).After-look-word in
    laws.may-lock _ _ _ c.requires.caller _ _ c.requires.view (unheld g a) c.look-word.result
    c.version_of-version.result _ (looked g a)

pub returns-then-is_owned-clause-locks : goal.returns-then-is_owned-clause-locks
returns-then-is_owned-clause-locks g c =
    let a = (goal.at.returns-then-is_owned-clause-locks g c).After-look-word in
    laws.refuses-owned _ _ _ c.requires.caller _ _ c.requires.view (unheld g a) c.look-word.result _ (search rules)
    (looked g a)

pub returns-then-found-word-clause-locks : goal.returns-then-found-word-clause-locks
returns-then-found-word-clause-locks g c =
    let at = goal.at.returns-then-found-word-clause-locks g c in
    laws.refuses-moved _ _ _ c.requires.caller _ _ c.requires.view (unheld g at.After-look-word) c.look-word.result
    c.lock-found.result _ _ (search rules) (search rules) (looked g at.After-look-word)
    (tried g at.After-lock-found (search rules))

pub returns-clause-locks : goal.returns-clause-locks
returns-clause-locks g c =
    let at = goal.at.returns-clause-locks g c in
    let l = c.args.local.now in
    let is : c.version_of-version.result ≡ version_of c.look-word.result = search rules in
    subst (λ (x : ℕ). LocksOne c.args.stm.now.config c.args.caller c.args.r (Ok x) l c.args.seat.now.me.0.view
    (record l { locks = c.push_new.new.self }) c.lock-found.new.seat.me.0.view) (sym is)
    (laws.has-locked _ _ _ c.requires.caller _ _ c.requires.view (unheld g at.After-look-word) c.look-word.result
    c.lock-found.result _ _ c.push_new.result c.push_new.new.self (search rules) (search rules)
    (looked g at.After-look-word)
    (tried g at.After-lock-found is)
    (subst (λ (x : ℕ). Pushes l.locks c.args.r (keep c.args.r x l.locks.items) c.push_new.result c.push_new.new.self) is
    c.push_new.ensures) c.requires.new c.requires.room)
