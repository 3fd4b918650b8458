use Rattle.draw_core.specs.Asking.{texts_of}
use Rattle.draw_core.proofs.EndLaws.{ends_by}
use Rattle.draw_core.proofs.program.exits.Goals as goal

pub returns-clause-ends : goal.returns-clause-ends
returns-clause-ends g c =
    ends_by g.S.Source.left g.S.Source.faults _ _ (texts_of c.args.words.now) g.K.Sink.held g.K.Sink.faults _ _ c.draw-status.result _ c.draw-status.ensures c.ending.ensures
