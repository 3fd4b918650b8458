use Rattle.std.proofs.Common.{ℕ, ◌≡◌, subst, sym, ap, false, ◌∙◌}
use Rattle.std.specs.Prelude.{Option, Ok}
use Rattle.stm_model.specs.declared.alg.Alg.TheVariants.{OrecEager}
use Rattle.rule_base.specs.Encodings.{fenced}
use Rattle.stm_rule.specs.Callers.{Handle}
use Rattle.stm_answers.specs.Answers.{HasRead}
use Rattle.stm_answers.specs.CallerState.{IsRunning}
use Rattle.stm_gate.specs.Knowing.{known, number}
use Rattle.alg_orec.proofs.Eager.EagerReadLaws as laws
use Rattle.alg_orec.specs.EagerReading.{HoldsRecord, IsNew, Samples}
use Rattle.alg_orec.specs.Loading.{HasPlace}
use Rattle.alg_orec.proofs.orec_eager.first_read.Goals as goal

pub load-x-requires-clause-running : goal.load-x-requires-clause-running
load-x-requires-clause-running g c =
    let f = c.args.stm.now.config in
    let good = g.K.MemRule.good c.args.stm.now.rule in
    let d = c.args.desc.now in
    let s = c.sample.new.desc in
    let sampled = subst (λ (m : Option ℕ). Samples good f (number d) c.args.a (Ok m) d s) c.in-Ok-Some.field-0-is c.in-Ok-Some.ensures.samples in
    (sampled.0.2.goes.continues.running, sampled.0.2.uncommitted)

pub load-x-requires-clause-algorithm : goal.load-x-requires-clause-algorithm
load-x-requires-clause-algorithm g c =
    let f = c.args.stm.now.config in
    let good = g.K.MemRule.good c.args.stm.now.rule in
    let d = c.args.desc.now in
    let s = c.sample.new.desc in
    let sampled = subst (λ (m : Option ℕ). Samples good f (number d) c.args.a (Ok m) d s) c.in-Ok-Some.field-0-is c.in-Ok-Some.ensures.samples in
    sampled.0.2.goes.continues.alg ∙ c.requires.algorithm

pub load-x-requires-clause-spared : goal.load-x-requires-clause-spared
load-x-requires-clause-spared g c =
    let f = c.args.stm.now.config in
    let good = g.K.MemRule.good c.args.stm.now.rule in
    let d = c.args.desc.now in
    let s = c.sample.new.desc in
    let sampled = subst (λ (m : Option ℕ). Samples good f (number d) c.args.a (Ok m) d s) c.in-Ok-Some.field-0-is c.in-Ok-Some.ensures.samples in
    ap (λ k. fenced k c.args.a) sampled.0.2.goes.continues.fence ∙ c.requires.spared

pub load-x-requires-clause-revocable : goal.load-x-requires-clause-revocable
load-x-requires-clause-revocable g c =
    let f = c.args.stm.now.config in
    let good = g.K.MemRule.good c.args.stm.now.rule in
    let d = c.args.desc.now in
    let s = c.sample.new.desc in
    let sampled = subst (λ (m : Option ℕ). Samples good f (number d) c.args.a (Ok m) d s) c.in-Ok-Some.field-0-is c.in-Ok-Some.ensures.samples in
    sampled.0.2.goes.granted ∙ c.requires.revocable

pub load-x-requires-clause-fresh : goal.load-x-requires-clause-fresh
load-x-requires-clause-fresh g c =
    let f = c.args.stm.now.config in
    let good = g.K.MemRule.good c.args.stm.now.rule in
    let d = c.args.desc.now in
    let s = c.sample.new.desc in
    let sampled = subst (λ (m : Option ℕ). Samples good f (number d) c.args.a (Ok m) d s) c.in-Ok-Some.field-0-is c.in-Ok-Some.ensures.samples in
    sampled.0.2.fresh

pub load-x-requires-clause-sampled : goal.load-x-requires-clause-sampled
load-x-requires-clause-sampled g c =
    let f = c.args.stm.now.config in
    let good = g.K.MemRule.good c.args.stm.now.rule in
    let d = c.args.desc.now in
    let s = c.sample.new.desc in
    let sampled = subst (λ (m : Option ℕ). Samples good f (number d) c.args.a (Ok m) d s) c.in-Ok-Some.field-0-is c.in-Ok-Some.ensures.samples in
    sampled.1.has

pub confirm-requires-clause-running : goal.confirm-requires-clause-running
confirm-requires-clause-running g c =
    let e = c.load-x.ensures.goes in
    (e.goes.continues.running, e.uncommitted)

pub confirm-requires-clause-algorithm : goal.confirm-requires-clause-algorithm
confirm-requires-clause-algorithm g c =
    let f = c.args.stm.now.config in
    let good = g.K.MemRule.good c.args.stm.now.rule in
    let d = c.args.desc.now in
    let s = c.sample.new.desc in
    let sampled = subst (λ (m : Option ℕ). Samples good f (number d) c.args.a (Ok m) d s) c.in-Ok-Some.field-0-is c.in-Ok-Some.ensures.samples in
    c.load-x.ensures.goes.goes.continues.alg ∙ (sampled.0.2.goes.continues.alg ∙ c.requires.algorithm)

pub confirm-requires-clause-spared : goal.confirm-requires-clause-spared
confirm-requires-clause-spared g c =
    let f = c.args.stm.now.config in
    let good = g.K.MemRule.good c.args.stm.now.rule in
    let d = c.args.desc.now in
    let s = c.sample.new.desc in
    let sampled = subst (λ (m : Option ℕ). Samples good f (number d) c.args.a (Ok m) d s) c.in-Ok-Some.field-0-is c.in-Ok-Some.ensures.samples in
    ap (λ k. fenced k c.args.a) (c.load-x.ensures.goes.goes.continues.fence ∙ sampled.0.2.goes.continues.fence) ∙ c.requires.spared

pub confirm-requires-clause-revocable : goal.confirm-requires-clause-revocable
confirm-requires-clause-revocable g c =
    let f = c.args.stm.now.config in
    let good = g.K.MemRule.good c.args.stm.now.rule in
    let d = c.args.desc.now in
    let s = c.sample.new.desc in
    let sampled = subst (λ (m : Option ℕ). Samples good f (number d) c.args.a (Ok m) d s) c.in-Ok-Some.field-0-is c.in-Ok-Some.ensures.samples in
    c.load-x.ensures.goes.goes.granted ∙ (sampled.0.2.goes.granted ∙ c.requires.revocable)

pub confirm-requires-clause-fresh : goal.confirm-requires-clause-fresh
confirm-requires-clause-fresh g c =
    c.load-x.ensures.goes.fresh

pub confirm-requires-clause-loaded : goal.confirm-requires-clause-loaded
confirm-requires-clause-loaded g c =
    let f = c.args.stm.now.config in
    let good = g.K.MemRule.good c.args.stm.now.rule in
    let d = c.args.desc.now in
    let s = c.sample.new.desc in
    let sampled = subst (λ (m : Option ℕ). Samples good f (number d) c.args.a (Ok m) d s) c.in-Ok-Some.field-0-is c.in-Ok-Some.ensures.samples in
    c.load-x.ensures.loads c.in-Ok-Some.word sampled.1

pub confirm-requires-clause-place : goal.confirm-requires-clause-place
confirm-requires-clause-place g c =
    let f = c.args.stm.now.config in
    let good = g.K.MemRule.good c.args.stm.now.rule in
    let d = c.args.desc.now in
    let s = c.sample.new.desc in
    let sampled = subst (λ (m : Option ℕ). Samples good f (number d) c.args.a (Ok m) d s) c.in-Ok-Some.field-0-is c.in-Ok-Some.ensures.samples in
    let found = sampled.0.2 in
    let e = c.load-x.ensures.goes in
    laws.same-place c.args.a c.args.place (known s) (known c.load-x.new.desc) e.goes e.log (laws.same-place c.args.a c.args.place (known d) (known s) found.goes found.log c.requires.place)

pub returns-in-Ok-Some-clause-read : goal.returns-in-Ok-Some-clause-read
returns-in-Ok-Some-clause-read g c =
    let f = c.args.stm.now.config in
    let good = g.K.MemRule.good c.args.stm.now.rule in
    let d = c.args.desc.now in
    let s = c.sample.new.desc in
    let sampled = subst (λ (m : Option ℕ). Samples good f (number d) c.args.a (Ok m) d s) c.in-Ok-Some.field-0-is c.in-Ok-Some.ensures.samples in
    laws.reads-together good f c.args.a c.in-Ok-Some.word c.load-x.result c.confirm.result d s c.load-x.new.desc c.confirm.new.desc
    c.sample.ensures.same c.load-x.ensures.same c.requires.algorithm sampled.0 c.load-x.ensures.goes c.confirm.ensures.confirms

pub read_held-requires-clause-running : goal.read_held-requires-clause-running
read_held-requires-clause-running g c =
    let f = c.args.stm.now.config in
    let good = g.K.MemRule.good c.args.stm.now.rule in
    let d = c.args.desc.now in
    let s = c.sample.new.desc in
    let sampled = subst (λ (m : Option ℕ). Samples good f (number d) c.args.a (Ok m) d s) c.in-Ok-None.field-0-is c.in-Ok-None.ensures.samples in
    subst (λ (h : Handle g.row.K.Denot). IsRunning (known h)) (sym sampled.0) c.requires.running

pub read_held-requires-clause-algorithm : goal.read_held-requires-clause-algorithm
read_held-requires-clause-algorithm g c =
    let f = c.args.stm.now.config in
    let good = g.K.MemRule.good c.args.stm.now.rule in
    let d = c.args.desc.now in
    let s = c.sample.new.desc in
    let sampled = subst (λ (m : Option ℕ). Samples good f (number d) c.args.a (Ok m) d s) c.in-Ok-None.field-0-is c.in-Ok-None.ensures.samples in
    subst (λ (h : Handle g.row.K.Denot). (known h).alg ≡ OrecEager) (sym sampled.0) c.requires.algorithm

pub read_held-requires-clause-revocable : goal.read_held-requires-clause-revocable
read_held-requires-clause-revocable g c =
    let f = c.args.stm.now.config in
    let good = g.K.MemRule.good c.args.stm.now.rule in
    let d = c.args.desc.now in
    let s = c.sample.new.desc in
    let sampled = subst (λ (m : Option ℕ). Samples good f (number d) c.args.a (Ok m) d s) c.in-Ok-None.field-0-is c.in-Ok-None.ensures.samples in
    subst (λ (h : Handle g.row.K.Denot). (known h).granted ≡ false) (sym sampled.0) c.requires.revocable

pub read_held-requires-clause-fresh : goal.read_held-requires-clause-fresh
read_held-requires-clause-fresh g c =
    let f = c.args.stm.now.config in
    let good = g.K.MemRule.good c.args.stm.now.rule in
    let d = c.args.desc.now in
    let s = c.sample.new.desc in
    let sampled = subst (λ (m : Option ℕ). Samples good f (number d) c.args.a (Ok m) d s) c.in-Ok-None.field-0-is c.in-Ok-None.ensures.samples in
    subst (λ (h : Handle g.row.K.Denot). IsNew c.args.a (known h)) (sym sampled.0) sampled.2

pub read_held-requires-clause-held : goal.read_held-requires-clause-held
read_held-requires-clause-held g c =
    let f = c.args.stm.now.config in
    let good = g.K.MemRule.good c.args.stm.now.rule in
    let d = c.args.desc.now in
    let s = c.sample.new.desc in
    let sampled = subst (λ (m : Option ℕ). Samples good f (number d) c.args.a (Ok m) d s) c.in-Ok-None.field-0-is c.in-Ok-None.ensures.samples in
    subst (λ (h : Handle g.row.K.Denot). HoldsRecord f c.args.a h.view) (sym sampled.0) sampled.1

pub read_held-requires-clause-place : goal.read_held-requires-clause-place
read_held-requires-clause-place g c =
    let f = c.args.stm.now.config in
    let good = g.K.MemRule.good c.args.stm.now.rule in
    let d = c.args.desc.now in
    let s = c.sample.new.desc in
    let sampled = subst (λ (m : Option ℕ). Samples good f (number d) c.args.a (Ok m) d s) c.in-Ok-None.field-0-is c.in-Ok-None.ensures.samples in
    subst (λ (h : Handle g.row.K.Denot). HasPlace c.args.a c.args.place (known h)) (sym sampled.0) c.requires.place

pub returns-in-Ok-None-clause-read : goal.returns-in-Ok-None-clause-read
returns-in-Ok-None-clause-read g c =
    let f = c.args.stm.now.config in
    let good = g.K.MemRule.good c.args.stm.now.rule in
    let d = c.args.desc.now in
    let s = c.sample.new.desc in
    let sampled = subst (λ (m : Option ℕ). Samples good f (number d) c.args.a (Ok m) d s) c.in-Ok-None.field-0-is c.in-Ok-None.ensures.samples in
    subst (λ (h : Handle g.row.K.Denot). HasRead good f (number h) c.args.a c.read_held.result (known h) (known c.read_held.new.desc)) sampled.0 c.read_held.ensures.read

pub returns-in-Err-clause-read : goal.returns-in-Err-clause-read
returns-in-Err-clause-read g c =
    let f = c.args.stm.now.config in
    let good = g.K.MemRule.good c.args.stm.now.rule in
    let d = c.args.desc.now in
    laws.refused-first good f c.args.a (number d) c.in-Err.refusal d c.sample.new.desc c.in-Err.ensures.samples
