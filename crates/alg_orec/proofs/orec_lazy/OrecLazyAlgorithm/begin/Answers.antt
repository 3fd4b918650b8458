use Rattle.std.proofs.Common.{refl, inl}
use Rattle.rule_orec.specs.OrecSteps.{orec_begin}
use Rattle.stm_rule.specs.Kept.{good_of}
use Rattle.stm_rule.proofs.StandLemmas.{tells-of}
use Rattle.alg_orec.specs.RecordFindings.{FindsStart}
use Rattle.alg_orec.proofs.Lazy.LazyLaws.{tells-started}
use Rattle.alg_orec.proofs.RecordReads.{may-begin}
use Rattle.alg_orec.proofs.orec_lazy.OrecLazyAlgorithm.begin.Goals as goal

pub begin-requires-clause-view : goal.begin-requires-clause-view
begin-requires-clause-view g c = may-begin _ (inl refl) c.args.seat.now.me.0.view c.requires.view

pub returns-clause-begins : goal.returns-clause-begins
returns-clause-begins g c = tells-started (g.K.MemRule.good c.args.stm.now.rule) _ c.args.caller _ c.requires.view _ _
    (tells-of orec_begin (FindsStart (good_of g.K.MemRule.good c.args.stm.now.config c.args.stm.now.rule) c.args.stm.now.config) _ _ _ c.begin.ensures.step)
