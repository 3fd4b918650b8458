use Rattle.std.proofs.Common.{ℕ, suc, ◌≡◌, ◌∙◌, List, rules, refl, ap, sym, subst}
use Rattle.std.specs.Prelude.{Option, Some, None}
use Rattle.stm_model.specs.declared.config.Config.{Config}
use Rattle.stm_model.specs.Logs.{Log, Keeps}
use Rattle.stm_answers.specs.Answers.{Commits}
use Rattle.stm_answers.specs.CallerStateLaws.{carries-refl}
use Rattle.stm_tx.specs.Descs.{known, number, serves-on}
use Rattle.tx_atomic.specs.AttemptLaws.{commits-grow, same-number, took-by}
use Rattle.stm_answers.specs.CallerState.{CallerState}
use Rattle.tx_atomic.specs.declared.tally.Ended.{Ended}
use Rattle.tx_atomic.specs.declared.tally.Ended.TheVariants as ends
use Rattle.tx_atomic.specs.declared.tally.Ended.TheVariants.{Again}
use Rattle.tx_atomic.specs.Accounts.{Account, account, met, met_times, told}
use Rattle.tx_atomic.specs.Tries.{EndsRun, FindsAgain, Finishes}
use Rattle.tx_atomic.specs.TryLaws.{again-more, commit-full, commit-done}
use Rattle.tx_atomic.proofs.attempts.end.Goals as goal

pub commit-answer-requires-clause-served : goal.commit-answer-requires-clause-served
commit-answer-requires-clause-served g c = serves-on g.C.Calls.acts_as (known c.args.desc.now) (known c.loop.desc) c.loop.invariant.alg c.loop.invariant.granted c.requires.served

pub commit-answer-requires-clause-keeps : goal.commit-answer-requires-clause-keeps
commit-answer-requires-clause-keeps g c =
    let stm = c.args.stm.now in
    λ wrote. subst (λ (l : Log). Keeps (g.K.MemRule.good stm.rule) stm.config.words l) (sym c.loop.invariant.log) c.requires.may.1

pub returns-in-Committed-clause-took : goal.returns-in-Committed-clause-took
returns-in-Committed-clause-took g c =
    let stm = c.args.stm.now in
    let good = g.K.MemRule.good stm.rule in
    let inv = c.loop.invariant in
    let now = subst (λ n. Commits good stm.config n c.commit-answer.result.answer (known c.loop.desc) (known c.commit-answer.new.desc)) (same-number c.args.desc.now c.loop.desc inv.same) c.commit-answer.ensures.commits in
    took-by good stm.config (number c.args.desc.now) _ c.commit-answer.result.answer _ (known c.args.desc.now) (known c.loop.desc) (known c.commit-answer.new.desc) inv.log inv.made inv.grew inv.later now c.in-Committed.is

pub loop-init : goal.loop-init
loop-init g c =
    let grew = (carries-refl (known c.args.desc.now)).grows in
    let again : (k : ℕ) × FindsAgain (g.K.MemRule.good c.args.stm.now.rule) c.args.stm.now.config (number c.args.desc.now) k
    (known c.args.desc.now) (known c.args.desc.now) × (account g.O.Observer.heard c.args.pace.now ≡ met_times g.O.Observer.hears k Again (account g.O.Observer.heard c.args.pace.now)) =
    (0, refl, refl) in
    search (rules, grew, again)

pub loop-preserved : goal.loop-preserved
loop-preserved g c =
    let stm = c.args.stm.now in
    let good = g.K.MemRule.good stm.rule in
    let n = number c.args.desc.now in
    let u = known c.args.desc.now in
    let v = known c.loop.desc in
    let w = known c.commit-answer.new.desc in
    let inv = c.loop.invariant in
    let grew = commits-grow good stm.config (number c.loop.desc) c.commit-answer.result.answer u v w inv.grew c.commit-answer.ensures.commits in
    let went = subst (λ r. Commits good stm.config (number c.loop.desc) r v w) c.in-Again.is c.commit-answer.ensures.commits in
    let more = again-more good stm.config n inv.again.0 (number c.loop.desc) c.commit-answer.result.answer _ _ _ u v w (same-number c.args.desc.now c.loop.desc inv.same) inv.again.1 c.in-Again.is c.commit-answer.ensures.commits in
    let again : (k : ℕ) × FindsAgain good stm.config n k u w × (account g.O.Observer.heard c.wait_at_commit.new.self ≡ met_times g.O.Observer.hears k Again (account g.O.Observer.heard c.args.pace.now))
    = (suc inv.again.0, more, c.wait_at_commit.ensures.noted ∙ ap (met g.O.Observer.hears Again) inv.again.2) in
    search (rules, grew, went, again)

module _ {H : Type 0} (hears : Ended → Option ℕ → H → H) (good : List ℕ → Type 0) (config : Config) where
  -- what came of the calls, and the last of them
  finishes : (n m : ℕ) (o : Option Ended) (u v w : CallerState) (s t t' : Account H) → t' ≡ told hears o None t → m ≡ n
      → (k : ℕ) × FindsAgain good config n k u v × (t ≡ met_times hears k Again s) → EndsRun good config m None o v w
      → Finishes good config n hears o u w s t'
  finishes n m o u v w s t t' told' same again h = record {
    again = again.0;
    before = v;
    waits = again.1;
    last = subst (λ i. EndsRun good config i None o v w) same h;
    counted = told' ∙ ap (told hears o None) again.2;
  }

  -- the same of a refusal, which the pacing keeps
  refused : (n m : ℕ) (e last : Ended) (u v w : CallerState) (s t t' : Account H) → last ≡ e → t' ≡ told hears (Some e) None t → m ≡ n
      → (k : ℕ) × FindsAgain good config n k u v × (t ≡ met_times hears k Again s) → EndsRun good config m None (Some e) v w
      → Finishes good config n hears (Some last) u w s t'
  refused n m e last u v w s t t' is told' same again h =
      subst (λ (d : Ended). Finishes good config n hears (Some d) u w s t') (sym is) (finishes n m (Some e) u v w s t t' told' same again h)

pub returns-in-Committed-clause-finishes : goal.returns-in-Committed-clause-finishes
returns-in-Committed-clause-finishes g c =
    let stm = c.args.stm.now in
    finishes g.O.Observer.hears (g.K.MemRule.good stm.rule) stm.config (number c.args.desc.now) (number c.loop.desc) None (known c.args.desc.now)
    (known c.loop.desc) (known c.commit-answer.new.desc) (account g.O.Observer.heard c.args.pace.now) (account g.O.Observer.heard c.loop.pace) (account g.O.Observer.heard c.loop.pace) refl
    (same-number c.args.desc.now c.loop.desc c.loop.invariant.same) c.loop.invariant.again
    (commit-done (g.K.MemRule.good stm.rule) stm.config (number c.loop.desc) c.commit-answer.result.answer (known c.loop.desc) (known c.commit-answer.new.desc)
    c.in-Committed.is c.commit-answer.ensures.commits)

pub returns-in-Conflict-clause-finishes : goal.returns-in-Conflict-clause-finishes
returns-in-Conflict-clause-finishes g c =
    let stm = c.args.stm.now in
    refused g.O.Observer.hears (g.K.MemRule.good stm.rule) stm.config (number c.args.desc.now) (number c.loop.desc) (ends.Conflict c.in-Conflict.cause)
    c.refuse.new.self.last (known c.args.desc.now) (known c.loop.desc) (known c.commit-answer.new.desc) (account g.O.Observer.heard c.args.pace.now) (account g.O.Observer.heard c.loop.pace)
    (account g.O.Observer.heard c.refuse.new.self) c.refuse.ensures.last c.refuse.ensures.told (same-number c.args.desc.now c.loop.desc c.loop.invariant.same)
    c.loop.invariant.again
    (subst (λ r. Commits (g.K.MemRule.good stm.rule) stm.config (number c.loop.desc) r (known c.loop.desc) (known c.commit-answer.new.desc)) c.in-Conflict.is c.commit-answer.ensures.commits)

pub returns-in-ClockFull-clause-finishes : goal.returns-in-ClockFull-clause-finishes
returns-in-ClockFull-clause-finishes g c =
    let stm = c.args.stm.now in
    refused g.O.Observer.hears (g.K.MemRule.good stm.rule) stm.config (number c.args.desc.now) (number c.loop.desc) ends.ClockFull
    c.refuse-in-ClockFull.new.self.last (known c.args.desc.now) (known c.loop.desc) (known c.commit-answer.new.desc) (account g.O.Observer.heard c.args.pace.now)
    (account g.O.Observer.heard c.loop.pace) (account g.O.Observer.heard c.refuse-in-ClockFull.new.self) c.refuse-in-ClockFull.ensures.last c.refuse-in-ClockFull.ensures.told
    (same-number c.args.desc.now c.loop.desc c.loop.invariant.same) c.loop.invariant.again
    (commit-full (g.K.MemRule.good stm.rule) stm.config (number c.loop.desc) c.commit-answer.result.answer _ (known c.loop.desc) (known c.commit-answer.new.desc)
    c.in-ClockFull.is c.commit-answer.ensures.commits)

pub returns-in-Committed-clause-grew : goal.returns-in-Committed-clause-grew
returns-in-Committed-clause-grew g c =
    commits-grow (g.K.MemRule.good c.args.stm.now.rule) c.args.stm.now.config (number c.loop.desc) c.commit-answer.result.answer (known c.args.desc.now)
    (known c.loop.desc) (known c.commit-answer.new.desc) c.loop.invariant.grew c.commit-answer.ensures.commits

pub returns-in-Conflict-clause-grew : goal.returns-in-Conflict-clause-grew
returns-in-Conflict-clause-grew g c =
    commits-grow (g.K.MemRule.good c.args.stm.now.rule) c.args.stm.now.config (number c.loop.desc) c.commit-answer.result.answer (known c.args.desc.now)
    (known c.loop.desc) (known c.commit-answer.new.desc) c.loop.invariant.grew c.commit-answer.ensures.commits

pub returns-in-ClockFull-clause-grew : goal.returns-in-ClockFull-clause-grew
returns-in-ClockFull-clause-grew g c =
    commits-grow (g.K.MemRule.good c.args.stm.now.rule) c.args.stm.now.config (number c.loop.desc) c.commit-answer.result.answer (known c.args.desc.now)
    (known c.loop.desc) (known c.commit-answer.new.desc) c.loop.invariant.grew c.commit-answer.ensures.commits
