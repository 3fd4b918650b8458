use Rattle.std.proofs.Common.{◌≡◌, true, false, ap, ◌∙◌, rules}
use Rattle.std.specs.Prelude.{None}
use Rattle.stm_model.specs.Memories.{item_at}
use Rattle.stm_model.specs.Algorithms.{takes_lock, irrevocable_under}
use Rattle.rule_base.specs.StepKinds.{Nothing}
use Rattle.rule_seq.specs.CglSteps.{load_undo}
use Rattle.stm_rule.specs.Attempts.{IsLocked}
use Rattle.stm_rule.proofs.StandLemmas.{tells-of}
use Rattle.stm_answers.specs.Causes.{is_some}
use Rattle.alg_seq.proofs.Locked.{locked}
use Rattle.alg_seq.proofs.Pushing.{in-undo, pushed, fresh-undo, new-write, logs-else, logs-then}
use Rattle.alg_seq.proofs.serial.log_old.Goals.{Start, Else-is_some}
use Rattle.alg_seq.proofs.serial.log_old.Goals as goal

lock : (g : _) (c : Start g) → IsLocked c.args.stm.now.config c.args.local.now c.args.seat.now.me.0.view
lock g c =
    locked (g.K.MemRule.good c.args.stm.now.rule) c.args.stm.now.config c.args.caller c.args.local.now c.args.seat.now.me.0.view
    (ap takes_lock (c.requires.attempt.named ∙ c.requires.serial.0)) c.requires.attempt

revocable : (g : _) (c : Start g) → c.args.seat.now.me.0.view.lock.irrevocable ≡ false
revocable g c = (lock g c).irrevocable ∙ (ap (λ a. irrevocable_under a c.args.local.now.granted c.args.local.now.wrote) c.requires.serial.0 ∙ c.requires.serial.1)

-- what the lookup found
none : (g : _) (c : Else-is_some g) → item_at c.args.a c.args.local.now.undo.items ≡ None
none g c = search rules

pub load_undo-old-requires-clause-view : goal.load_undo-old-requires-clause-view
load_undo-old-requires-clause-view g c =
    let at = goal.at.load_undo-old-requires-clause-view g c in
    let j = lock g at.Start in
    let rev = revocable g at.Start in
    record {
      has = record { phase = c.requires.attempt.phase; algorithm = ap takes_lock (c.requires.attempt.named ∙ c.requires.serial.0); taken = j.taken };
      started = j.started;
      revocable = rev;
      fresh = fresh-undo c.args.stm.now.config c.args.a c.args.x c.args.local.now c.args.seat.now.me.0.view j rev (none g at.Else-is_some);
    }

pub push_new-requires-2 : goal.push_new-requires-2
push_new-requires-2 g c =
    let at = goal.at.push_new-requires-2 g c in
    record { new = new-write c.args.stm.now.config c.args.a c.args.x c.args.local.now c.args.seat.now.me.0.view (lock g at.Start) (revocable g at.Start) (none g at.Else-is_some) }

pub returns-then-is_some-clause-logs : goal.returns-then-is_some-clause-logs
returns-then-is_some-clause-logs g c =
    let at = goal.at.returns-then-is_some-clause-logs g c in
    let j = lock g at.Start in
    let rev = revocable g at.Start in
    let there : is_some (item_at c.args.a c.args.local.now.undo.items) ≡ true = search rules in
    logs-else c.args.stm.now.config c.args.a c.args.x c.args.local.now c.args.seat.now.me.0.view j rev c.push.new.self
    (pushed c.args.stm.now.config c.args.a c.args.x c.args.local.now c.args.seat.now.me.0.view j rev c.push.result c.push.new.self c.requires.lengths c.requires.place c.push.ensures)
    (in-undo c.args.stm.now.config c.args.a c.args.x c.args.local.now c.args.seat.now.me.0.view j rev ∙ there)

pub returns-clause-logs : goal.returns-clause-logs
returns-clause-logs g c =
    let at = goal.at.returns-clause-logs g c in
    let j = lock g at.Start in
    let rev = revocable g at.Start in
    logs-then c.args.stm.now.config c.args.a c.args.x c.args.local.now c.args.seat.now.me.0.view j rev c.push_new.result
    c.push_new-2.new.self c.push_new.new.self c.load_undo-old.result c.load_undo-old.new.seat.me.0.view c.requires.inside
    (pushed c.args.stm.now.config c.args.a c.args.x c.args.local.now c.args.seat.now.me.0.view j rev c.push_new-2.result c.push_new-2.new.self c.requires.lengths c.requires.place c.push_new-2.ensures) c.requires.place
    (none g at.Else-is_some) c.push_new.ensures (tells-of (load_undo c.args.a) Nothing _ _ _ c.load_undo-old.ensures.step)
