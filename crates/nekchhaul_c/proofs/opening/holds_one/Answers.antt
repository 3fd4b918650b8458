use Rattle.std.proofs.Common.{◌∙◌, ap, rules}
use Rattle.nekchhaul_c.specs.declared.handle.Handle.{Handle}
use Rattle.nekchhaul_c.proofs.Dealing.{held-again, one-none, one-some, none-more}
use Rattle.nekchhaul_c.proofs.opening.holds_one.Goals as goal

pub returns-then-is_held-clause-kept : goal.returns-then-is_held-clause-kept
returns-then-is_held-clause-kept c = held-again c.loop-i.callers c.loop-i.i c.index-callers-i.result c.is_held.new.self (ap (λ (h : Handle). h.inside) c.is_held.ensures.0) ∙ c.loop-i.invariant.kept

pub returns-then-is_held-clause-some : goal.returns-then-is_held-clause-some
returns-then-is_held-clause-some c = λ e. one-some c.loop-i.callers c.args.callers.now c.loop-i.i c.index-callers-i.result c.loop-i.invariant.kept c.loop-i-test.true c.if-is_held.ensures.1

pub loop-i-preserved : goal.loop-i-preserved
loop-i-preserved c =
    let at = c.loop-i.invariant in
    record {
      kept = held-again c.loop-i.callers c.loop-i.i c.index-callers-i.result c.is_held.new.self (ap (λ (h : Handle). h.inside) c.is_held.ensures.0) ∙ at.kept;
      count = search rules;
      none = none-more c.args.callers.now c.loop-i.i at.none (one-none c.loop-i.callers c.args.callers.now c.loop-i.i c.index-callers-i.result at.kept c.loop-i-test.true c.if-is_held.ensures.1);
    }
