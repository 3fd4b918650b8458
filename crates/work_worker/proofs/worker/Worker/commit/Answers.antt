use Rattle.std.proofs.Common.{true, refl, sym, subst}
use Rattle.work_profile.specs.declared.outcome.Outcome.TheVariants as outcomes
use Rattle.work_profile.specs.Profiles.{with_outcome}
use Rattle.work_trace.specs.Turns.{MaySay}
use Rattle.work_worker.specs.Workers.{Turned, cleared}
use Rattle.work_trace.specs.declared.said.Said.TheVariants.{TryCommit}
use Rattle.work_trace.specs.Places.{failed_next, must_next}
use Rattle.stm_answers.specs.Answers.{Commits}
use Rattle.stm_answers.specs.declared.answers.Commit.{Commit}
use Rattle.stm_answers.specs.declared.answers.Commit.TheVariants.{Conflict, ClockFull}
use Rattle.stm_tx.specs.Descs.{known, number}
use Rattle.work_worker.proofs.TurnLaws.{turned-committed, turned-readonly, turned-again, turned-quit, few-next, runs-now}
use Rattle.work_worker.proofs.worker.Worker.commit.Goals as goal

pub returns-in-Committed : goal.returns-in-Committed
returns-in-Committed g c =
    let good = g.K.MemRule.good c.args.stm.now.rule in
    let stm = c.args.stm.now in
    let u = c.args.self.now in
    let s = c.requires.sound in
    let came = subst (λ (a : Commit). Commits good stm.config (number u.desc) a (known u.desc) (known c.commit-answer.new.desc)) c.in-Committed.is c.commit-answer.ensures.commits in
    record {
      turned = turned-committed good stm u s c.commit-answer.new.desc c.commit-answer.ensures.same c.in-Committed.time true c.end.new.self
          c.requires.inside c.requires.over c.requires.unforced came c.end.ensures.ends;
    }

pub returns-in-ReadOnly : goal.returns-in-ReadOnly
returns-in-ReadOnly g c =
    let good = g.K.MemRule.good c.args.stm.now.rule in
    let stm = c.args.stm.now in
    let u = c.args.self.now in
    let s = c.requires.sound in
    let came = subst (λ (a : Commit). Commits good stm.config (number u.desc) a (known u.desc) (known c.commit-answer.new.desc)) c.in-ReadOnly.is c.commit-answer.ensures.commits in
    record {
      turned = turned-readonly good stm u s c.commit-answer.new.desc c.commit-answer.ensures.same c.in-ReadOnly.time true
          c.end-in-ReadOnly.new.self c.requires.inside c.requires.over c.requires.unforced came
          c.end-in-ReadOnly.ensures.ends;
    }

pub returns-in-Again : goal.returns-in-Again
returns-in-Again g c =
    let good = g.K.MemRule.good c.args.stm.now.rule in
    let stm = c.args.stm.now in
    let u = c.args.self.now in
    let s = c.requires.sound in
    let came = subst (λ (a : Commit). Commits good stm.config (number u.desc) a (known u.desc) (known c.commit-answer.new.desc)) c.in-Again.is c.commit-answer.ensures.commits in
    record {
      turned = turned-again good stm u s c.commit-answer.new.desc c.commit-answer.ensures.same c.in-Again.word c.in-Again.had c.in-Again.now true
          c.requires.inside c.requires.over c.requires.unforced came;
    }

pub returns-in-Conflict : goal.returns-in-Conflict
returns-in-Conflict g c =
    let good = g.K.MemRule.good c.args.stm.now.rule in
    let stm = c.args.stm.now in
    let u = c.args.self.now in
    let s = c.requires.sound in
    let said = Conflict c.in-Conflict.cause in
    let came = subst (λ (a : Commit). Commits good stm.config (number u.desc) a (known u.desc) (known c.commit-answer.new.desc)) c.in-Conflict.is c.commit-answer.ensures.commits in
    record {
      turned = subst (Turned good stm MaySay u (TryCommit said)) (sym c.make_way.ensures)
          (turned-quit good stm u s c.commit-answer.new.desc c.commit-answer.ensures.same (TryCommit said) (with_outcome u.profile outcomes.Conflict)
          (must_next u.must u.failed) true (failed_next u.must u.failed) (cleared u.out) c.requires.inside
          (c.requires.inside, c.requires.unforced, c.requires.over)
          came (runs-now good stm u s c.requires.inside) refl came.0 refl (few-next good stm u s c.commit-answer.new.desc c.commit-answer.ensures.same));
    }

pub returns-in-ClockFull : goal.returns-in-ClockFull
returns-in-ClockFull g c =
    let good = g.K.MemRule.good c.args.stm.now.rule in
    let stm = c.args.stm.now in
    let u = c.args.self.now in
    let s = c.requires.sound in
    let said = ClockFull c.in-ClockFull.clock in
    let came = subst (λ (a : Commit). Commits good stm.config (number u.desc) a (known u.desc) (known c.commit-answer.new.desc)) c.in-ClockFull.is c.commit-answer.ensures.commits in
    record {
      turned = subst (Turned good stm MaySay u (TryCommit said)) (sym c.give_up.ensures)
          (turned-quit good stm u s c.commit-answer.new.desc c.commit-answer.ensures.same (TryCommit said) u.profile u.must true u.failed (cleared u.out) c.requires.inside (c.requires.inside, c.requires.unforced, c.requires.over)
          came (runs-now good stm u s c.requires.inside) refl came.0 refl s.counted);
    }
