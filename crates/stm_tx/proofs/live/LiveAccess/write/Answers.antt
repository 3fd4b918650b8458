use Rattle.std.proofs.Common.{◌≡◌, ◌∙◌, true, false, refl, sym, ap}
use Rattle.std.specs.Prelude.{is_none, Some}
use Rattle.stm_answers.specs.CallerStateLaws.{in-attempt, carries-wrote}
use Rattle.rule_base.specs.Lemmas.EncodingLemmas.{fenced-none}
use Rattle.rule_base.specs.Encodings.{fenced}
use Rattle.stm_tx.specs.Descs.{known, number, serves-on}
use Rattle.stm_tx.proofs.Stopping.{write-stopped, write-went, stops-quits, going, since-stopped, since-at, since-going}
use Rattle.stm_tx.proofs.live.LiveAccess.write.Goals as goal

pub write-requires-clause-served : goal.write-requires-clause-served
write-requires-clause-served g c = let me = c.args.self.now in me.served (ap is_none (going me.stopped c.requires.going))

pub write-requires-clause-spared : goal.write-requires-clause-spared
write-requires-clause-spared g c = let me = c.args.self.now in ap (λ k. fenced k c.args.a) (me.unfenced (ap is_none (going me.stopped c.requires.going))) ∙ fenced-none c.args.a

pub invariant_of-self : goal.invariant_of-self
invariant_of-self g c =
    let me = c.args.self.now in
    let good = g.K.MemRule.good me.stm.now.rule in
    let f = me.stm.now.config in
    let n = number me.desc.now in
    let v = known me.desc.now in
    let w = known c.write.new.desc in
    let h = write-went good f n c.args.a v w c.args.v c.write.result (sym c.as_write.ensures ∙ c.in-Ok.is) c.write.ensures.write in
    let same = c.write.ensures.same in
    let runs = ap is_none (going me.stopped c.requires.going) in
    record {
      own = record { table = same.table ∙ me.own.table; config = ap (λ q. q.config) same.who ∙ me.own.config; rule = ap (λ q. q.rule) same.who ∙ me.own.rule };
      runs = h.0.continues.running ∙ sym runs;
      served = λ e. serves-on g.C.Calls.acts_as v w h.0.continues.alg h.0.granted (me.served runs);
      «open» = λ e. h.1;
      unfenced = λ e. h.0.continues.fence ∙ me.unfenced runs;
    }

pub invariant_of-self-in-Err : goal.invariant_of-self-in-Err
invariant_of-self-in-Err g c =
    let me = c.args.self.now in
    let good = g.K.MemRule.good me.stm.now.rule in
    let f = me.stm.now.config in
    let n = number me.desc.now in
    let v = known me.desc.now in
    let w = known c.write.new.desc in
    let h = write-stopped good f n c.args.a v w c.args.v c.write.result c.in-Err.stop (sym c.as_write.ensures ∙ c.in-Err.is) c.write.ensures.write in
    let q = stops-quits good f n c.args.a v w c.in-Err.stop h in
    let same = c.write.ensures.same in
    record {
      own = record { table = same.table ∙ me.own.table; config = ap (λ q. q.config) same.who ∙ me.own.config; rule = ap (λ q. q.rule) same.who ∙ me.own.rule };
      runs = q.ends.idle.1;
      served = λ e. absurd (let no : false ≡ true = e in cc);
      «open» = λ e. absurd (let no : false ≡ true = e in cc);
      unfenced = λ e. absurd (let no : false ≡ true = e in cc);
    }

pub returns-in-Err-clause-keeps : goal.returns-in-Err-clause-keeps
returns-in-Err-clause-keeps g c =
    let me = c.args.self.now in
    let good = g.K.MemRule.good me.stm.now.rule in
    let f = me.stm.now.config in
    let n = number me.desc.now in
    let v = known me.desc.now in
    let w = known c.write.new.desc in
    let h = write-stopped good f n c.args.a v w c.args.v c.write.result c.in-Err.stop (sym c.as_write.ensures ∙ c.in-Err.is) c.write.ensures.write in
    let running : v.running ≡ true = me.runs ∙ ap is_none (going me.stopped c.requires.going) in (
      (
        c.write.ensures.same,
        since-at good f n me.stopped _ v w (going me.stopped c.requires.going)
            (since-stopped good f n c.args.a v w c.in-Err.stop running (in-attempt me.desc.now.view.gate.phase running) h),
      ),
      refl,
      refl,
    )

pub returns-in-Ok-clause-keeps : goal.returns-in-Ok-clause-keeps
returns-in-Ok-clause-keeps g c =
    let me = c.args.self.now in
    let good = g.K.MemRule.good me.stm.now.rule in
    let f = me.stm.now.config in
    let n = number me.desc.now in
    let v = known me.desc.now in
    let w = known c.write.new.desc in
    let h = write-went good f n c.args.a v w c.args.v c.write.result (sym c.as_write.ensures ∙ c.in-Ok.is) c.write.ensures.write in
    let running : v.running ≡ true = me.runs ∙ ap is_none (going me.stopped c.requires.going) in
    ((c.write.ensures.same, since-going good f n me.stopped v w (going me.stopped c.requires.going) (carries-wrote v w c.args.a c.args.v running (in-attempt me.desc.now.view.gate.phase running) h.0 h.2)), refl, refl)
