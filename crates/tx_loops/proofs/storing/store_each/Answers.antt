use Rattle.std.proofs.Common.{ℕ, ◌<◌, ◌∙◌, refl, length, sym, subst, arith}
use Rattle.stm_model.specs.Logs.{Writes}
use Rattle.tx_checked.specs.CheckedCallers.{config_of, known_to}
use Rattle.tx_loops.specs.Stages.{IsSpared}
use Rattle.tx_parts.specs.LayingLaws.{lays-more}
use Rattle.tx_loops.proofs.CommitLaws.{nothing-refl, nothing-trans}
use Rattle.tx_loops.proofs.StoreLaws.{Wrote, spared-here, stopped-at, write-comes}
use Rattle.tx_loops.proofs.storing.store_each.Goals as goal

pub loop-i-init : goal.loop-i-init
loop-i-init c = record {
  nothing = nothing-refl c.args.caller.now;
  runs = c.requires.running;
  fence = refl;
  alg = refl;
  granted = refl;
  later = omega arith;
  irrevocable = λ i. i;
  lays = (refl, λ b. refl);
}

pub loop-i-preserved : goal.loop-i-preserved
loop-i-preserved c =
    let i = c.loop-i.invariant in
    let m = c.args.caller.now in
    let k = c.loop-i.caller in
    let n = c.write.new.self in
    let is = c.args.buffer.now.items in
    let low : c.loop-i.i < length is = omega (arith, c.loop-i-test.true, c.count-i-end.ensures.count) in
    let spared = subst (λ (w : ℕ × ℕ). IsSpared (config_of k).words (known_to k).fence w.0) (sym c.item-a.ensures) (spared-here m k c.loop-i.i is low i.nothing i.fence c.requires.spared) in
    let came = write-comes c.item-a.result.0 c.item-a.result.1 k n c.write.result i.runs spared c.write.ensures in
    let one : Wrote c.item-a.result.0 c.item-a.result.1 k n = came.0 (sym c.was_written-written.ensures ∙ c.if-not-written.false) in
    let before = i.later in
    let since = one.later in
    record {
      nothing = nothing-trans m k n i.nothing one.nothing;
      runs = one.runs;
      fence = one.fence ∙ i.fence;
      alg = one.alg ∙ i.alg;
      granted = one.granted ∙ i.granted;
      later = omega (arith, before, since);
      irrevocable = λ e. one.irrevocable (i.irrevocable e);
      lays = lays-more is c.loop-i.i (known_to m).log (known_to k).log (known_to n).log low i.lays
          (subst (λ (w : ℕ × ℕ). Writes (known_to k).log w.0 w.1 (known_to n).log) c.item-a.ensures one.log);
    }

pub returns-then-not-written-clause-nothing : goal.returns-then-not-written-clause-nothing
returns-then-not-written-clause-nothing c =
    let i = c.loop-i.invariant in
    let is = c.args.buffer.now.items in
    let low : c.loop-i.i < length is = omega (arith, c.loop-i-test.true, c.count-i-end.ensures.count) in
    let stopped =
    stopped-at c.args.caller.now c.loop-i.caller c.write.new.self c.loop-i.i is c.item-a.result c.write.result low c.item-a.ensures c.count-i-end.ensures.once i.nothing i.runs i.fence i.irrevocable c.requires.spared c.write.ensures
    (sym c.was_written-written.ensures ∙ c.if-not-written.true)
    in
    stopped.nothing

pub returns-then-not-written-clause-ended : goal.returns-then-not-written-clause-ended
returns-then-not-written-clause-ended c =
    let i = c.loop-i.invariant in
    let is = c.args.buffer.now.items in
    let low : c.loop-i.i < length is = omega (arith, c.loop-i-test.true, c.count-i-end.ensures.count) in
    let stopped =
    stopped-at c.args.caller.now c.loop-i.caller c.write.new.self c.loop-i.i is c.item-a.result c.write.result low c.item-a.ensures c.count-i-end.ensures.once i.nothing i.runs i.fence i.irrevocable c.requires.spared c.write.ensures
    (sym c.was_written-written.ensures ∙ c.if-not-written.true)
    in
    λ e. stopped.ended

pub returns-then-not-written-clause-hindered : goal.returns-then-not-written-clause-hindered
returns-then-not-written-clause-hindered c =
    let i = c.loop-i.invariant in
    let is = c.args.buffer.now.items in
    let low : c.loop-i.i < length is = omega (arith, c.loop-i-test.true, c.count-i-end.ensures.count) in
    let stopped =
    stopped-at c.args.caller.now c.loop-i.caller c.write.new.self c.loop-i.i is c.item-a.result c.write.result low c.item-a.ensures c.count-i-end.ensures.once i.nothing i.runs i.fence i.irrevocable c.requires.spared c.write.ensures
    (sym c.was_written-written.ensures ∙ c.if-not-written.true)
    in
    λ e. stopped.hindered
