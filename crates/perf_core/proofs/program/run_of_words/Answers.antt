use Rattle.std.proofs.Common.{rules, ◌≡◌, refl, subst, sym}
use Rattle.std.specs.Prelude.{None}
use Rattle.perf_core.specs.Endings.{EndsBy}
use Rattle.perf_core.specs.Helping.{help_of, texts_of}
use Rattle.perf_core.specs.declared.ending.Ending.{Ending}
use Rattle.perf_core.proofs.EndLaws.{ran-ends}
use Rattle.perf_core.proofs.program.run_of_words.Goals as goal

pub returns : goal.returns
returns g c =
    let words = texts_of c.args.words.now in
    let report = c.in-Ok.report in
    let none : help_of words ≡ None = search rules in
    subst (λ (e : Ending). EndsBy words e) (sym c.of.ensures) (ran-ends words report.right none (report, c.in-Ok.ensures.is, refl))
