use Rattle.std.proofs.Common.{refl, sym, ◌∙◌}
use Rattle.draw_core.specs.Asking.{ask_of, texts_of}
use Rattle.draw_core.proofs.Saids.{ok-says}
use Rattle.draw_core.proofs.draw.saying_of_words.Goals as goal

pub returns-in-Some-asked-clause-says : goal.returns-in-Some-asked-clause-says
returns-in-Some-asked-clause-says g c =
    ok-says g.S.Source.left g.S.Source.faults c.args.source.now _ (texts_of c.args.words.now) c.in-Some-asked.ask.part (ask_of c.in-Some-asked.ask)
    (sym c.help_of.ensures ∙ c.in_default.is) (sym c.in-Some-asked.ensures) refl c.saying_of_source.result c.saying_of_source.ensures.says
