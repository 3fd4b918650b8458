use Rattle.std.proofs.Common.{◌∙◌, ◌+◌, sym, ap, subst, arith, OnOk}
use Rattle.work_text.specs.Grammar.{parsed, ended, Answers}
use Rattle.work_text.specs.Lines.{lines_of}
use Rattle.work_text.specs.Reading.{Leaves}
use Rattle.work_text.proofs.ParseLaws.{parsed-fault, parsed-step, parsed-done, parsed-end}
use Rattle.work_text.proofs.parse.read_lines.Goals as goal

pub returns-in-Err : goal.returns-in-Err
returns-in-Err c =
    c.loop-rest.invariant.0 ∙ parsed-fault c.args.mode c.loop-rest.draft c.loop-rest.number (lines_of c.loop-rest.rest.now) c.in-Err.code (sym c.step_of-read.ensures.step ∙ c.in-Err.is)

pub returns-in-Done : goal.returns-in-Done
returns-in-Done c =
    let s = c.loop-rest.rest.now in
    let left = subst (λ r. OnOk r (Leaves s c.step_of-read.result.1.now)) c.in-Ok.is c.step_of-read.ensures.rest in
    let done = parsed-done c.args.mode c.loop-rest.draft c.loop-rest.number (lines_of s) c.in-Ok.step (sym c.step_of-read.ensures.step ∙ c.in-Ok.is) c.in-Done.is in
    let all = c.loop-rest.invariant.0 ∙ (done ∙ ap (ended c.loop-rest.draft (c.loop-rest.number + 1)) left.0) in
    subst (Answers c.finished.result) (sym all) c.finished.ensures

pub loop-rest-preserved : goal.loop-rest-preserved
loop-rest-preserved c =
    let s = c.loop-rest.rest.now in
    let room = c.loop-rest.invariant.1 in
    let left = subst (λ r. OnOk r (Leaves s c.step_of-read.result.1.now)) c.in-Ok.is c.step_of-read.ensures.rest in
    let less = left.1 in
    let step = parsed-step c.args.mode c.loop-rest.draft c.loop-rest.number (lines_of s) c.in-Ok.step (sym c.step_of-read.ensures.step ∙ c.in-Ok.is) c.in_default.not-Done in (
      c.loop-rest.invariant.0
          ∙ (step
          ∙ (ap (parsed c.args.mode _ (c.loop-rest.number + 1)) left.0
          ∙ ap (λ d. parsed c.args.mode d (c.loop-rest.number + 1) (lines_of c.step_of-read.result.1.now)) (sym c.in_ok-take.ensures))),
      omega (arith, room, less),
    )

pub returns : goal.returns
returns c =
    c.loop-rest.invariant.0 ∙ parsed-end c.args.mode c.loop-rest.draft c.loop-rest.number c.loop-rest.rest.now c.loop-rest-test.ensures
