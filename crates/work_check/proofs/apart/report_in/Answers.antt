use Rattle.std.proofs.Common.{ℕ, ◌≡◌, ◌+◌, ◌-◌, ◌∷◌, ◌∙◌, ◌<◌, ◌≤◌, true, false, sym, ap, drop, length, length-drop, arith}
use Rattle.std.specs.Prelude.{ltb}
use Rattle.std.proofs.lemmas.List.{drop-drop}
use Rattle.std.proofs.lemmas.Bool.Decides.{nat_tests}
use Rattle.work_check.specs.declared.apart.TheConstants.{MOST_TOLD}
use Rattle.work_check.proofs.ApartLaws.{passed-line, no-report}
use Rattle.work_check.proofs.apart.report_in.Goals as goal

few : (size most : ℕ) → size ≤ most → ltb most size ≡ false
few size most le = grind (arith, nat_tests)

pub loop-i-preserved : goal.loop-i-preserved
loop-i-preserved c =
    let told = c.args.told.now in
    let s = c.loop-i.rest.now in
    let i = c.in-Some.i in
    let at = c.in-Some.ensures.2 ∙ ap (λ t. 10 ∷ t) (sym c.past-rest.ensures) in
    let long : length c.past-rest.result.now ≡ length s - (i + 1) = ap length c.past-rest.ensures ∙ length-drop (i + 1) s in
    let lt = c.in-Some.ensures.0 in
    let within = c.loop-i.invariant.within in
    record {
      same = passed-line told c.loop-i.above s c.loop-i.invariant.same i c.past-rest.result.now c.in-Some.ensures.1 at (sym c.is.ensures ∙ c.if-is.false);
      cut = (c.loop-i.invariant.cut.0 + (i + 1), c.past-rest.ensures ∙ (ap (drop (i + 1)) c.loop-i.invariant.cut.1 ∙ drop-drop (i + 1) c.loop-i.invariant.cut.0 told));
      within = omega arith;
    }

pub returns-clause-is : goal.returns-clause-is
returns-clause-is c =
    let le = c.if-told-gt-MOST_TOLD.false in
    no-report c.args.told.now c.loop-i.above c.loop-i.rest.now c.loop-i.invariant.same (few (length c.args.told.now) MOST_TOLD (omega arith)) c.in_default.ensures
