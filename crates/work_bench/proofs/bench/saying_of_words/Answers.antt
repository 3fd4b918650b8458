use Rattle.std.proofs.Common.{refl, subst, sym}
use Rattle.std.specs.Prelude.{Option, MatchOption}
use Rattle.work_cli.specs.declared.command.Command.{Command}
use Rattle.work_cli.specs.declared.command.Command.TheVariants as commands
use Rattle.work_cli.specs.Asking.{Asks, texts_of}
use Rattle.work_profile.specs.declared.policy.Policy.TheVariants.{Fixed}
use Rattle.work_text.specs.declared.parse.Mode.TheVariants.{Run, Step as Stepwise}
use Rattle.work_bench.specs.Outcomes.{IsUntouched, SaidOfMade, SaysRead, SaysChecked, SaysAlone}
use Rattle.work_bench.proofs.Sayings.{command-asked, spared-asked, still, took-more, took-none, with-fact, with-two}
use Rattle.work_bench.proofs.bench.saying_of_words.Goals as goal

pub returns-in-Run-clause-says : goal.returns-in-Run-clause-says
returns-in-Run-clause-says g c =
    let words = c.args.words.now in
    let some = subst (λ (r : Option Command). MatchOption r ((command : Command) → Asks (texts_of words) command → ⊥) (Asks (texts_of words))) c.in-Some-2.is c.in_ok-command.ensures in
    let asks = subst (Asks (texts_of words)) c.in-Run.is some in
    command-asked g.S.Source.left g.S.Source.faults c.args.source.now _ c.args.report.now c.args.report.now words (commands.Run c.in-Run.policy) c.words_ask_once.ensures (sym c.in_default.ensures) asks c.saying_of_source.result (with-fact c.saying_of_source.result (λ s. SaysRead g.S.Source.left g.S.Source.faults c.args.source.now _ Run c.in-Run.policy s.status s.closed s.text.items) (IsUntouched g.S.Source.left g.S.Source.faults c.args.report.now c.args.report.now) c.saying_of_source.ensures.says (record { same = refl; calm = refl }))

pub returns-in-Step-clause-says : goal.returns-in-Step-clause-says
returns-in-Step-clause-says g c =
    let words = c.args.words.now in
    let some = subst (λ (r : Option Command). MatchOption r ((command : Command) → Asks (texts_of words) command → ⊥) (Asks (texts_of words))) c.in-Some-2.is c.in_ok-command.ensures in
    let asks = subst (Asks (texts_of words)) c.in-Step.is some in
    command-asked g.S.Source.left g.S.Source.faults c.args.source.now _ c.args.report.now c.args.report.now words commands.Step c.words_ask_once.ensures (sym c.in_default.ensures) asks c.saying_of_source-in-Step.result (with-fact c.saying_of_source-in-Step.result (λ s. SaysRead g.S.Source.left g.S.Source.faults c.args.source.now _ Stepwise Fixed s.status s.closed s.text.items) (IsUntouched g.S.Source.left g.S.Source.faults c.args.report.now c.args.report.now) c.saying_of_source-in-Step.ensures.says (record { same = refl; calm = refl }))

pub returns-in-Check-clause-says : goal.returns-in-Check-clause-says
returns-in-Check-clause-says g c =
    let words = c.args.words.now in
    let some = subst (λ (r : Option Command). MatchOption r ((command : Command) → Asks (texts_of words) command → ⊥) (Asks (texts_of words))) c.in-Some-2.is c.in_ok-command.ensures in
    let asks = subst (Asks (texts_of words)) c.in-Check.is some in
    command-asked g.S.Source.left g.S.Source.faults c.args.source.now _ c.args.report.now c.args.report.now words commands.Check c.words_ask_once.ensures (sym c.in_default.ensures) asks c.saying_of_check.result (with-fact c.saying_of_check.result (λ s. SaysChecked g.S.Source.left g.S.Source.faults c.args.source.now _ s.status s.closed s.text.items) (IsUntouched g.S.Source.left g.S.Source.faults c.args.report.now c.args.report.now) c.saying_of_check.ensures.says (record { same = refl; calm = refl }))

pub returns-in-CheckWorkload-clause-says : goal.returns-in-CheckWorkload-clause-says
returns-in-CheckWorkload-clause-says g c =
    let words = c.args.words.now in
    let some = subst (λ (r : Option Command). MatchOption r ((command : Command) → Asks (texts_of words) command → ⊥) (Asks (texts_of words))) c.in-Some-2.is c.in_ok-command.ensures in
    let asks = subst (Asks (texts_of words)) c.in-CheckWorkload.is some in
    command-asked g.S.Source.left g.S.Source.faults c.args.source.now _ c.args.report.now c.args.report.now words commands.CheckWorkload c.words_ask_once.ensures (sym c.in_default.ensures) asks c.saying_of_workload.result (with-fact c.saying_of_workload.result (λ s. SaysAlone g.S.Source.left g.S.Source.faults c.args.source.now _ s.status s.closed s.text.items) (IsUntouched g.S.Source.left g.S.Source.faults c.args.report.now c.args.report.now) c.saying_of_workload.ensures.says (record { same = refl; calm = refl }))

pub returns-in-CheckApart-clause-says : goal.returns-in-CheckApart-clause-says
returns-in-CheckApart-clause-says g c =
    let words = c.args.words.now in
    let some = subst (λ (r : Option Command). MatchOption r ((command : Command) → Asks (texts_of words) command → ⊥) (Asks (texts_of words))) c.in-Some-2.is c.in_ok-command.ensures in
    let asks = subst (Asks (texts_of words)) c.in-CheckApart.is some in
    command-asked g.S.Source.left g.S.Source.faults c.args.source.now _ c.args.report.now _ words commands.CheckApart c.words_ask_once.ensures (sym c.in_default.ensures) asks c.saying_of_both.result c.saying_of_both.ensures.says

pub returns-in-Gen-clause-says : goal.returns-in-Gen-clause-says
returns-in-Gen-clause-says g c =
    let words = c.args.words.now in
    let some = subst (λ (r : Option Command). MatchOption r ((command : Command) → Asks (texts_of words) command → ⊥) (Asks (texts_of words))) c.in-Some-2.is c.in_ok-command.ensures in
    let asks = subst (Asks (texts_of words)) c.in-Gen.is some in
    command-asked g.S.Source.left g.S.Source.faults c.args.source.now c.args.source.now c.args.report.now c.args.report.now words (commands.Gen c.in-Gen.transactions c.in-Gen.callers c.in-Gen.seed) c.words_ask_once.ensures (sym c.in_default.ensures) asks c.summarize.result (with-two c.summarize.result (λ s. SaidOfMade c.in-Gen.transactions c.in-Gen.callers c.in-Gen.seed s.status s.closed s.text.items) (IsUntouched g.S.Source.left g.S.Source.faults c.args.source.now c.args.source.now) (IsUntouched g.S.Source.left g.S.Source.faults c.args.report.now c.args.report.now) c.summarize.ensures (record { same = refl; calm = refl }) (record { same = refl; calm = refl }))

pub returns-in-Check-clause-spared : goal.returns-in-Check-clause-spared
returns-in-Check-clause-spared g c =
    let words = c.args.words.now in
    let some = subst (λ (r : Option Command). MatchOption r ((command : Command) → Asks (texts_of words) command → ⊥) (Asks (texts_of words))) c.in-Some-2.is c.in_ok-command.ensures in
    let asks = subst (Asks (texts_of words)) c.in-Check.is some in
    let r = c.saying_of_check.result in
    let e = c.saying_of_check.ensures in
    spared-asked g.S.Source.left g.S.Source.faults c.args.source.now _ c.args.report.now c.args.report.now words commands.Check c.words_ask_once.ensures asks tt r e.lost (λ no. absurd (no refl)) e.calm (still r _ _ e.calm (took-none (g.S.Source.left c.args.report.now))) (still r _ _ e.calm refl) (λ no. still r _ _ e.calm (record { same = refl; calm = refl }))

pub returns-in-CheckWorkload-clause-spared : goal.returns-in-CheckWorkload-clause-spared
returns-in-CheckWorkload-clause-spared g c =
    let words = c.args.words.now in
    let some = subst (λ (r : Option Command). MatchOption r ((command : Command) → Asks (texts_of words) command → ⊥) (Asks (texts_of words))) c.in-Some-2.is c.in_ok-command.ensures in
    let asks = subst (Asks (texts_of words)) c.in-CheckWorkload.is some in
    let r = c.saying_of_workload.result in
    let e = c.saying_of_workload.ensures in
    spared-asked g.S.Source.left g.S.Source.faults c.args.source.now _ c.args.report.now c.args.report.now words commands.CheckWorkload c.words_ask_once.ensures asks tt r (took-more r _ _ e.lost) (λ no. e.lost) e.calm (still r _ _ e.calm (took-none (g.S.Source.left c.args.report.now))) (still r _ _ e.calm refl) (λ no. still r _ _ e.calm (record { same = refl; calm = refl }))

pub returns-in-CheckApart-clause-spared : goal.returns-in-CheckApart-clause-spared
returns-in-CheckApart-clause-spared g c =
    let words = c.args.words.now in
    let some = subst (λ (r : Option Command). MatchOption r ((command : Command) → Asks (texts_of words) command → ⊥) (Asks (texts_of words))) c.in-Some-2.is c.in_ok-command.ensures in
    let asks = subst (Asks (texts_of words)) c.in-CheckApart.is some in
    let r = c.saying_of_both.result in
    let e = c.saying_of_both.ensures in
    spared-asked g.S.Source.left g.S.Source.faults c.args.source.now _ c.args.report.now _ words commands.CheckApart c.words_ask_once.ensures asks tt r (took-more r _ _ e.lost) (λ no. e.lost) e.calm e.second e.second_calm (λ no. absurd (no refl))
