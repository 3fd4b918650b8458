use Rattle.std.proofs.Common.{ℕ, ◌≡◌, ◌≢◌, ◌<◌, ◌≤◌, ◌+◌, List, length, Bool, true, false, ◌∙◌, sym, ap, arith, subst, refl}
use Rattle.std.specs.Prelude.{◌==◌, ltb, drop}
use Rattle.std.proofs.lemmas.Bool.Decides.{nat_tests}
use Rattle.work_script.specs.declared.report.Row.{Row}
use Rattle.work_script.specs.declared.workload.Workload.{Workload}
use Rattle.work_script.specs.Reports.{rows_of, scripts_of, regions_of}
use Rattle.work_script.specs.Workloads.{ItemsFit}
use Rattle.work_check.specs.Standing.{IsAt, StandsAfter}
use Rattle.work_check.specs.declared.replay.Standing.{Standing}
use Rattle.work_check.proofs.StandingLaws.{none-left, scripts-none}
use Rattle.work_check.proofs.replay.missing.Goals as goal

one-more : (w : Workload) (above : List Row) (k : ℕ) → ((n : ℕ) → n < k → length (rows_of n above) ≡ length (scripts_of n w.items)) → length (rows_of k above) ≡ length (scripts_of k w.items)
    → (n : ℕ) → n < k + 1 → length (rows_of n above) ≡ length (scripts_of n w.items)
one-more w above k before here n lt = by (n == k) refl
  where
    by : (b : Bool) → (n == k) ≡ b → length (rows_of n above) ≡ length (scripts_of n w.items)
    by true e = let q : k ≡ n = grind (arith, nat_tests) in subst (λ j. length (rows_of j above) ≡ length (scripts_of j w.items)) q here
    by false e = before n (let q : n ≢ k = grind (arith, nat_tests) in omega arith)

all-of : (w : Workload) (above : List Row) (s : Standing) (k : ℕ) → ItemsFit (regions_of w.header) w.header w.items → StandsAfter w above s
    → w.header.callers ≤ k → ((n : ℕ) → n < k → length (rows_of n above) ≡ length (scripts_of n w.items))
    → (n : ℕ) → length (rows_of n above) ≡ length (scripts_of n w.items)
all-of w above s k fit stands le before n = by (ltb n k) refl
  where
    by : (b : Bool) → ltb n k ≡ b → length (rows_of n above) ≡ length (scripts_of n w.items)
    by true e = before n (grind (arith, nat_tests))
    by false e =
        let high : k ≤ n = grind (arith, nat_tests) in
        ap length (stands.others n (omega arith)) ∙ ap length (sym (scripts-none (regions_of w.header) w.header n w.items (omega arith) fit))

pub loop-caller-preserved : goal.loop-caller-preserved
loop-caller-preserved c =
    let w = c.args.workload.now in
    let k = c.loop-caller.caller in
    let lt = c.loop-caller-test.true in let n = c.len-caller-end.ensures in let s = c.requires.stands.callers in
    let at : IsAt w.items c.args.above.now k c.index-cursor.result.now = subst (IsAt w.items c.args.above.now k) (sym c.index-cursor.ensures) (c.requires.stands.each k c.index-cursor.result.now (omega arith)) in
    one-more w c.args.above.now k c.loop-caller.invariant (none-left w c.args.above.now k c.index-cursor.result.now at
    (ap (λ l. scripts_of k (drop c.index-cursor.result.now.item l)) (sym c.as_slice-items.ensures) ∙ c.in_default.ensures.script))

pub returns : goal.returns
returns c =
    all-of c.args.workload.now c.args.above.now c.args.standing.now c.loop-caller.caller c.requires.items c.requires.stands
    (let k = c.len-caller-end.ensures in let s = c.requires.stands.callers in let t = c.loop-caller-test.false in omega arith) c.loop-caller.invariant
