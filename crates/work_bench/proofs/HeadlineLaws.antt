-- What a call of `bench` that ended so wrote is what the headline says.
use Rattle.std.proofs.Common.{ℕ, ◌≡◌, ◌∙◌, List, refl, sym, ap, subst}
use Rattle.std.specs.Prelude.{Option, Some, None}
use Rattle.std.specs.Borrow.{Bor}
use Rattle.work_profile.specs.declared.policy.Policy.{Policy}
use Rattle.stm_rule.specs.Closings.{Ended}
use Rattle.work_text.specs.declared.parse.Mode.TheVariants.{Run}
use Rattle.work_cli.specs.declared.command.Command.{Command}
use Rattle.work_cli.specs.declared.command.Command.TheVariants as commands
use Rattle.work_cli.specs.Asking.{Asks, texts_of}
use Rattle.work_bench.specs.declared.status.Status.TheVariants.{Ok as Done}
use Rattle.work_bench.specs.Headline.{RanRight, ReadAndRan, Headline}
use Rattle.work_bench.specs.Outcomes.{HasRead, RanToEnd, SaidOf, SaysFor, Wrote, kept, most_read}

right : (policy : Policy) (text : List ℕ) (closed : Option Ended) (said : List ℕ) → SaidOf Run policy text Done closed said → (c : Ended) × (closed ≡ Some c) × RanRight policy text said c
right policy text None said was = absurd was.run
right policy text (Some c) said was =
    let ran : RanToEnd policy was.workload c said = was.run in (
      c,
      refl,
      record {
        workload = was.workload;
        parses = was.parses;
        history = ran.shown.history;
        report = ran.report;
        written = ran.is;
        replays = ran.shown.replays;
        shows = ran.shown.shows;
        along = ran.shown.along;
        callers = ran.shown.callers;
        installs = ran.shown.installs;
      },
    )

module _ {S : Type 0} (left : S → Option (List ℕ)) (faults : S → ℕ) {K : Type 0} (held : K → Option (List ℕ)) (broken : K → ℕ) where
  wrote-right : (source source' report report' : S) (words : List (Bor (List ℕ))) (sink sink' : K) (last last' : Option Ended) (policy : Policy)
      → Asks (texts_of words) (commands.Run policy) → Wrote left faults source source' report report' words held broken sink sink' last last' Done
      → ReadAndRan left source held sink sink' last' policy
  wrote-right source source' report report' words sink sink' last last' policy asks w =
      let same : commands.Run policy ≡ w.says.command = w.says.alone (commands.Run policy) asks in
      let says : HasRead left faults source source' most_read (λ text. SaidOf Run policy text Done w.closed w.said) = (subst (λ (command : Command). SaysFor left faults source source' report report' command Done w.closed w.said) (sym same) w.says.says).0 in
      let ran = right policy says.text w.closed w.said says.of in
      record {
        text = says.text;
        read = says.read;
        said = w.said;
        closed = ran.0;
        right = ran.2;
        written = w.written;
        leaves = w.leaves ∙ ap (λ (o : Option Ended). kept o last) ran.1;
      }

  pub headline : Headline left faults held broken
  headline source source' report report' words sink sink' last last' policy asks outcome = wrote-right source source' report report' words sink sink' last last' policy asks outcome
