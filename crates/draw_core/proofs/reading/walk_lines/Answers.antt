use Rattle.std.proofs.Common.{◌≡◌, ◌+◌, ◌-◌, List, [], ◌∷◌, ◌++◌, length, length-drop, drop, refl, sym, ap, subst, ◌∙◌, arith}
use Rattle.std.specs.Prelude.{Ok}
use Rattle.work_text.specs.Lines.{lines_of}
use Rattle.work_check.specs.Grammar.{report_of}
use Rattle.work_trace.specs.declared.line.Line.{Line}
use Rattle.draw_core.specs.Grammar.{read, reported, closed, IsFault}
use Rattle.draw_core.specs.Walks.{HasRead}
use Rattle.draw_core.proofs.ReadLaws.{ok-then, err-then, read-report, read-clock, read-wrong, read-more, read-last}
use Rattle.draw_core.proofs.reading.walk_lines.Goals as goal

pub loop-i-init : goal.loop-i-init
loop-i-init c =
    let short = c.requires.short in
    let none = c.requires.first in
    record {
      read = record { told = []; same = refl; is = c.requires.is };
      count = omega (arith, short);
      lines = omega (arith, none);
      first = omega arith;
      workload = refl;
      above = refl;
      part = refl;
    }

pub returns-then-is-clause-told : goal.returns-then-is-clause-told
returns-then-is-clause-told c =
    let s = c.loop-i.rest.now in
    let i = c.in-Some.i in
    let r = c.loop-i.invariant.read in
    let same = r.same ∙ read-report r.told c.loop-i.number s i (drop (i + 1) s) c.in-Some.ensures.1 c.in-Some.ensures.2 (sym c.is.ensures ∙ c.if-is.true) in
    ok-then c.check_report.result ((told : List Line) → reported told c.loop-i.number (report_of s) ≡ Ok told) (HasRead c.loop-i.walk (read [] 1 (lines_of c.args.text.now)))
    c.check_report.ensures.told (λ f. record { told = r.told; are = same ∙ f r.told; is = r.is })

pub returns-then-is-clause-fault : goal.returns-then-is-clause-fault
returns-then-is-clause-fault c =
    let s = c.loop-i.rest.now in
    let i = c.in-Some.i in
    let r = c.loop-i.invariant.read in
    let same = r.same ∙ read-report r.told c.loop-i.number s i (drop (i + 1) s) c.in-Some.ensures.1 c.in-Some.ensures.2 (sym c.is.ensures ∙ c.if-is.true) in
    err-then c.check_report.result (λ e. (told : List Line) → IsFault e (reported told c.loop-i.number (report_of s))) (λ e. IsFault e (read [] 1 (lines_of c.args.text.now)))
    c.check_report.ensures.fault (λ e f. subst (IsFault e) (sym same) (f r.told))

pub returns-then-is_full_clock-clause-told : goal.returns-then-is_full_clock-clause-told
returns-then-is_full_clock-clause-told c =
    let s = c.loop-i.rest.now in
    let i = c.in-Some.i in
    let r = c.loop-i.invariant.read in
    let after = c.past-after.result.now in
    let at = c.in-Some.ensures.2 ∙ ap (λ t. 10 ∷ t) (sym c.past-after.ensures) in
    let same = r.same ∙ read-clock r.told c.loop-i.number s i after c.in-Some.ensures.1 at
    (sym c.is.ensures ∙ c.if-is.false) (sym c.is_full_clock.ensures ∙ c.if-is_full_clock.true) in
    ok-then c.check_closed.result ((told : List Line) → closed told (c.loop-i.number + 1) (lines_of after) ≡ Ok told) (HasRead c.loop-i.walk (read [] 1 (lines_of c.args.text.now)))
    c.check_closed.ensures.told (λ f. record { told = r.told; are = same ∙ f r.told; is = r.is })

pub returns-then-is_full_clock-clause-fault : goal.returns-then-is_full_clock-clause-fault
returns-then-is_full_clock-clause-fault c =
    let s = c.loop-i.rest.now in
    let i = c.in-Some.i in
    let r = c.loop-i.invariant.read in
    let after = c.past-after.result.now in
    let at = c.in-Some.ensures.2 ∙ ap (λ t. 10 ∷ t) (sym c.past-after.ensures) in
    let same = r.same ∙ read-clock r.told c.loop-i.number s i after c.in-Some.ensures.1 at
    (sym c.is.ensures ∙ c.if-is.false) (sym c.is_full_clock.ensures ∙ c.if-is_full_clock.true) in
    err-then c.check_closed.result (λ e. (told : List Line) → IsFault e (closed told (c.loop-i.number + 1) (lines_of after))) (λ e. IsFault e (read [] 1 (lines_of c.args.text.now)))
    c.check_closed.ensures.fault (λ e f. subst (IsFault e) (sym same) (f r.told))

pub returns-in-None-clause-fault : goal.returns-in-None-clause-fault
returns-in-None-clause-fault c =
    let s = c.loop-i.rest.now in
    let i = c.in-Some.i in
    let r = c.loop-i.invariant.read in
    r.same
    ∙ read-wrong r.told c.loop-i.number s i (drop (i + 1) s) c.in-Some.ensures.1 c.in-Some.ensures.2
    (sym c.is.ensures ∙ c.if-is.false) (sym c.is_full_clock.ensures ∙ c.if-is_full_clock.false) (sym c.in-None.ensures)

pub loop-i-preserved : goal.loop-i-preserved
loop-i-preserved c =
    let s = c.loop-i.rest.now in
    let i = c.in-Some.i in
    let r = c.loop-i.invariant.read in
    let line = c.in-Some-line.line in
    let after = c.past-after.result.now in
    let at = c.in-Some.ensures.2 ∙ ap (λ t. 10 ∷ t) (sym c.past-after.ensures) in
    let long : length after ≡ length s - (i + 1) = ap length c.past-after.ensures ∙ length-drop (i + 1) s in
    let within = c.in-Some.ensures.0 in
    let inv = c.loop-i.invariant in
    let count = inv.count in
    let lines = inv.lines in
    let more = c.in_ok-step-in-Some-line.ensures.lines in
    record {
      read = record {
        told = r.told ++ line ∷ [];
        same = r.same
            ∙ read-more r.told c.loop-i.number s i after c.in-Some.ensures.1 at line (sym c.is.ensures ∙ c.if-is.false) (sym c.is_full_clock.ensures ∙ c.if-is_full_clock.false) (sym c.in-Some-line.ensures);
        is = c.in_ok-step-in-Some-line.ensures.is r.told r.is;
      };
      count = omega (arith, count, long, within);
      lines = omega (arith, lines, more);
      first = omega arith;
      workload = c.in_ok-step-in-Some-line.ensures.workload ∙ inv.workload;
      above = c.in_ok-step-in-Some-line.ensures.above ∙ inv.above;
      part = c.in_ok-step-in-Some-line.ensures.part ∙ inv.part;
    }

pub returns-clause-fault : goal.returns-clause-fault
returns-clause-fault c = let r = c.loop-i.invariant.read in r.same ∙ read-last r.told c.loop-i.number c.loop-i.rest.now c.in_default.ensures
