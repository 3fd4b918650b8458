use Rattle.std.proofs.Common.{subst, sym, ◌≡◌, true, ap, ◌∙◌}
use Rattle.stm_model.specs.Algorithms.{takes_lock}
use Rattle.stm_rule.specs.Attempts.{own_of}
use Rattle.stm_rule.specs.Callers.{Handle}
use Rattle.stm_rule.specs.Kept.{good_of}
use Rattle.stm_rule.proofs.StandLemmas.{tells-of}
use Rattle.stm_gate.specs.Knowing.{known}
use Rattle.stm_gate.proofs.Standing.{runs-of, who-of}
use Rattle.rule_seq.specs.CglSteps.{load_heap, Loads}
use Rattle.stm_answers.specs.declared.answers.Read.TheVariants.{Value}
use Rattle.stm_answers.specs.Answers.{HasRead}
use Rattle.alg_seq.proofs.Locked.{tells-read}
use Rattle.stm_gate.proofs.Told.{told}
use Rattle.alg_seq.proofs.serial.SerialAlgorithm.read.Goals as goal

pub returns-clause-read : goal.returns-clause-read
returns-clause-read g c =
    let shows = Loads (good_of g.K.MemRule.good c.args.stm.now.config c.args.stm.now.rule) c.args.stm.now.config c.args.a in
    told (λ n v w. HasRead (g.K.MemRule.good c.args.stm.now.rule) c.args.stm.now.config n c.args.a (Value c.load_heap.result) v w) _ _ _ c.load_heap.new.seat.me.0 c.desc.inside.local c.desc.view_is
    (who-of (load_heap c.args.a) shows c.desc.inside.seat.me.0 c.load_heap.result c.load_heap.new.seat.me.0 c.load_heap.ensures.step) c.desc.invariant.0.named
    (tells-read _ _ _ c.args.a c.load_heap.result c.desc.inside.local c.desc.inside.seat.me.0.view c.load_heap.new.seat.me.0.view
    (own_of c.desc.inside.local) c.requires.inside
    (runs-of g.K.MemRule.good _ _ _ _ _ _ c.desc.view_is c.requires.stm.config c.requires.stm.rule c.requires.running.0 c.desc.invariant.1)
    (subst (λ (h : Handle g.row.K.Denot). takes_lock (known h).alg ≡ true) (sym c.desc.view_is) (ap takes_lock c.requires.algorithm))
    (ap (λ (p : Handle g.row.K.Denot). (known p).committing) c.desc.view_is ∙ c.requires.running.1)
    (tells-of (load_heap c.args.a) shows _ _ _ c.load_heap.ensures.step))
