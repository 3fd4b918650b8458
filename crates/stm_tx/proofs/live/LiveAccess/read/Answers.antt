use Rattle.std.proofs.Common.{◌≡◌, ◌∙◌, true, false, refl, sym, ap}
use Rattle.std.specs.Prelude.{is_none, Some}
use Rattle.stm_answers.specs.CallerStateLaws.{in-attempt}
use Rattle.rule_base.specs.Lemmas.EncodingLemmas.{fenced-none}
use Rattle.rule_base.specs.Encodings.{fenced}
use Rattle.stm_tx.specs.Descs.{known, number, serves-on}
use Rattle.stm_tx.proofs.Stopping.{read-went, read-stopped, stops-quits, going, since-stopped, since-at}
use Rattle.stm_tx.proofs.live.LiveAccess.read.Goals as goal

pub read-requires-clause-served : goal.read-requires-clause-served
read-requires-clause-served g c = let me = c.args.self.now in me.served (ap is_none (going me.stopped c.requires.going))

pub read-requires-clause-spared : goal.read-requires-clause-spared
read-requires-clause-spared g c = let me = c.args.self.now in ap (λ k. fenced k c.args.a) (me.unfenced (ap is_none (going me.stopped c.requires.going))) ∙ fenced-none c.args.a

pub invariant_of-self : goal.invariant_of-self
invariant_of-self g c =
    let me = c.args.self.now in
    let good = g.K.MemRule.good me.stm.now.rule in
    let f = me.stm.now.config in
    let n = number me.desc.now in
    let v = known me.desc.now in
    let w = known c.read.new.desc in
    let h = read-went good f n c.args.a v w c.in-Ok.value c.read.result (sym c.as_read.ensures ∙ c.in-Ok.is) c.read.ensures.read in
    let same = c.read.ensures.same in
    let runs = ap is_none (going me.stopped c.requires.going) in
    record {
      own = record { table = same.table ∙ me.own.table; config = ap (λ q. q.config) same.who ∙ me.own.config; rule = ap (λ q. q.rule) same.who ∙ me.own.rule };
      runs = h.0.continues.running ∙ sym runs;
      served = λ e. serves-on g.C.Calls.acts_as v w h.0.continues.alg h.0.granted (me.served runs);
      «open» = λ e. h.1;
      unfenced = λ e. h.0.continues.fence ∙ me.unfenced runs;
    }

pub invariant_of-self-in-Err : goal.invariant_of-self-in-Err
invariant_of-self-in-Err g c =
    let me = c.args.self.now in
    let good = g.K.MemRule.good me.stm.now.rule in
    let f = me.stm.now.config in
    let n = number me.desc.now in
    let v = known me.desc.now in
    let w = known c.read.new.desc in
    let h = read-stopped good f n c.args.a v w c.read.result c.in-Err.stop (sym c.as_read.ensures ∙ c.in-Err.is) c.read.ensures.read in
    let q = stops-quits good f n c.args.a v w c.in-Err.stop h in
    let same = c.read.ensures.same in
    record {
      own = record { table = same.table ∙ me.own.table; config = ap (λ q. q.config) same.who ∙ me.own.config; rule = ap (λ q. q.rule) same.who ∙ me.own.rule };
      runs = q.ends.idle.1;
      served = λ e. absurd (let no : false ≡ true = e in cc);
      «open» = λ e. absurd (let no : false ≡ true = e in cc);
      unfenced = λ e. absurd (let no : false ≡ true = e in cc);
    }

pub returns-in-Err-clause-keeps : goal.returns-in-Err-clause-keeps
returns-in-Err-clause-keeps g c =
    let me = c.args.self.now in
    let good = g.K.MemRule.good me.stm.now.rule in
    let f = me.stm.now.config in
    let n = number me.desc.now in
    let v = known me.desc.now in
    let w = known c.read.new.desc in
    let h = read-stopped good f n c.args.a v w c.read.result c.in-Err.stop (sym c.as_read.ensures ∙ c.in-Err.is) c.read.ensures.read in
    let running : v.running ≡ true = me.runs ∙ ap is_none (going me.stopped c.requires.going) in (
      (
        c.read.ensures.same,
        since-at good f n me.stopped _ v w (going me.stopped c.requires.going)
            (since-stopped good f n c.args.a v w c.in-Err.stop running (in-attempt me.desc.now.view.gate.phase running) h),
      ),
      refl,
      refl,
    )
