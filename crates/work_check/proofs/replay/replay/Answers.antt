use Rattle.std.proofs.Common.{ℕ, List, [], ◌∷◌, ◌++◌, ◌≡◌, ◌<◌, ◌≤◌, ◌+◌, zero, suc, take, drop, length, get_or, true, false, refl, sym, ap, ◌∙◌, arith, subst, inl}
use Rattle.std.proofs.Math.Seq.{take_all}
use Rattle.stm_model.specs.Plains.{openings}
use Rattle.work_script.specs.declared.report.Row.{Row}
use Rattle.work_script.specs.Reports.{zeros}
use Rattle.work_check.specs.Verdicts.{IsRight, AreRight, IsFirstFault, Judges}
use Rattle.work_check.specs.Wanted.{WantsOf, WantsAt, IsWanted, Wants}
use Rattle.work_check.specs.declared.verdict.Verdict.{Verdict}
use Rattle.work_check.specs.declared.verdict.Verdict.TheVariants.{No}
use Rattle.work_check.specs.declared.wanted.Wanted.{Wanted}
use Rattle.work_script.specs.declared.report.Report.{Report}
use Rattle.work_script.specs.declared.workload.Workload.{Workload}
use Rattle.std.specs.Prelude.{Option, Some, MatchOption}
use Rattle.work_check.specs.Standing.{StandsAfter}
use Rattle.work_check.proofs.VerdictLaws.{fault-refutes}
use Rattle.work_check.proofs.StandingLaws.{right-more, wants-more, wants-here, take-row}
use Rattle.work_check.proofs.WantedLaws.{wants-at}
use Rattle.work_check.proofs.replay.replay.Goals as goal

pub loop-i-init : goal.loop-i-init
loop-i-init c =
    let w = c.args.workload.now in
    let rows = c.args.report.now.rows in
    let z = c.in_ok-standing.ensures.zeros in
    record {
      stands = c.in_ok-standing.ensures.stands;
      right = λ last h. subst (λ m. AreRight w [] m rows last) z h;
      wants = λ n wanted h. subst (λ j. WantsAt w [] (zeros w.header.words) rows j wanted) (let s : n ≡ 0 + n = omega arith in s) (subst (λ m. WantsAt w [] m rows n wanted) z h);
    }

pub loop-i-preserved : goal.loop-i-preserved
loop-i-preserved c =
    let w = c.args.workload.now in
    let rows = c.args.report.now.rows in
    let e = c.as_slice-rows.ensures in
    let i = c.loop-i.i in
    let r = c.index-rows-i.result in
    let m = openings c.loop-i.standing.ledger in
    let now = openings c.wanted_for.new.standing.ledger in
    let k = c.in_ok-wanted.ensures in
    let none = c.in_default.is in
    let own : IsRight w (take i c.as_slice-rows.result.now) m r = subst (λ o. MatchOption o (IsRight w (take i c.as_slice-rows.result.now) m r) (WantsOf w (take i c.as_slice-rows.result.now) m r)) none k.wanted in
    let right : IsRight w (take i rows) m r = subst (λ (l : List Row). IsRight w (take i l) m r) e own in
    let at : r ≡ get_or rows i r = subst (λ (l : List Row). r ≡ get_or l i r) e c.index-rows-i.is in
    let lt : i < length rows = subst (λ (l : List Row). i < length l) e c.loop-i-test.true in
    let memory = k.memory none in
    record {
      stands = subst (λ (l : List Row). StandsAfter w l c.wanted_for.new.standing) (ap (λ (l : List Row). take i l ++ r ∷ []) e ∙ take-row rows i r lt at) (k.stands none);
      right = λ last h. c.loop-i.invariant.right last (right-more w rows i r m now lt at right memory last h);
      wants =
          λ n wanted h.
          subst (λ j. WantsAt w [] (zeros w.header.words) rows j wanted) (let s : i + suc n ≡ i + 1 + n = omega arith in s)
          (c.loop-i.invariant.wants (suc n) wanted (wants-more w rows i r m now lt at right memory n wanted h));
    }

-- what is wanted of the row is wanted of the report, and the row is its first fault
found : (w : Workload) (r : Report) (i : ℕ) (x : Wanted) (v : Verdict) (o : Option Wanted) → WantsAt w [] (zeros w.header.words) r.rows (i + 0) x → v ≡ No (i + 2) → o ≡ Some x → Judges w r v × Wants w r v o
found w r i x v o h p q =
    let fault : IsFirstFault w r (i + 2) = inl (i + 0, wants-at w [] (zeros w.header.words) r.rows (i + 0) x h, omega arith) in
    let some : IsWanted w r x = inl (i + 0, h) in (
      subst (Judges w r) (sym p) (fault-refutes w r (i + 2) fault, fault),
      subst (λ u. Wants w r u o) (sym p) (subst (λ m. MatchOption m ⊥ (IsWanted w r)) (sym q) some),
    )

row-found : (w : Workload) (r : Report) (slice : List Row) (i : ℕ) (row : Row) (m : List ℕ) (x : Wanted) (told : Option Wanted)
    (v : Verdict) (o : Option Wanted) → slice ≡ r.rows → i < length slice → row ≡ get_or slice i row
    → told ≡ Some x → MatchOption told (IsRight w (take i slice) m row) (WantsOf w (take i slice) m row)
    → ((n : ℕ) (y : Wanted) → WantsAt w (take i r.rows) m (drop i r.rows) n y → WantsAt w [] (zeros w.header.words) r.rows (i + n) y)
    → v ≡ No (i + 2) → o ≡ Some x → Judges w r v × Wants w r v o
row-found w r slice i row m x told v o e lt at is h wants p q =
    let of : WantsOf w (take i slice) m row x = subst (λ t. MatchOption t (IsRight w (take i slice) m row) (WantsOf w (take i slice) m row)) is h in
    let here = wants-here w r.rows i row m x (subst (λ (l : List Row). i < length l) e lt) (subst (λ (l : List Row). row ≡ get_or l i row) e at) (subst (λ (l : List Row). WantsOf w (take i l) m row x) e of) in
    found w r i x v o (wants 0 x here) p q

pub returns-in-Some-clause-verdict : goal.returns-in-Some-clause-verdict
returns-in-Some-clause-verdict c =
    (row-found c.args.workload.now c.args.report.now _ c.loop-i.i c.index-rows-i.result (openings c.loop-i.standing.ledger) _ _ _ _ c.as_slice-rows.ensures c.loop-i-test.true c.index-rows-i.is
    c.in-Some.is c.in_ok-wanted.ensures.wanted c.loop-i.invariant.wants c.no.ensures.verdict c.no.ensures.wanted).0

pub returns-in-Some-clause-wanted : goal.returns-in-Some-clause-wanted
returns-in-Some-clause-wanted c =
    (row-found c.args.workload.now c.args.report.now _ c.loop-i.i c.index-rows-i.result (openings c.loop-i.standing.ledger) _ _ _ _ c.as_slice-rows.ensures c.loop-i-test.true c.index-rows-i.is
    c.in-Some.is c.in_ok-wanted.ensures.wanted c.loop-i.invariant.wants c.no.ensures.verdict c.no.ensures.wanted).1

pub judge_end-requires-clause-right : goal.judge_end-requires-clause-right
judge_end-requires-clause-right c =
    let w = c.args.workload.now in
    let rows = c.args.report.now.rows in
    let past = subst (λ (l : List Row). length l ≤ c.loop-i.i) c.as_slice-rows.ensures c.loop-i-test.false in
    c.loop-i.invariant.right (openings c.loop-i.standing.ledger)
    (subst (λ (l : List Row). AreRight w (take c.loop-i.i rows) (openings c.loop-i.standing.ledger) l (openings c.loop-i.standing.ledger))
    (sym (none rows c.loop-i.i past)) refl)
  where
    none : (l : List Row) (k : ℕ) → length l ≤ k → drop k l ≡ []
    none [] zero h = refl
    none [] (suc k) h = refl
    none (x ∷ l) zero h = absurd (omega arith)
    none (x ∷ l) (suc k) h = none l k (omega arith)

pub judge_end-requires-clause-stands : goal.judge_end-requires-clause-stands
judge_end-requires-clause-stands c =
    let rows = c.args.report.now.rows in
    let past = subst (λ (l : List Row). length l ≤ c.loop-i.i) c.as_slice-rows.ensures c.loop-i-test.false in
    subst (λ (l : List Row). StandsAfter c.args.workload.now l c.loop-i.standing) (take_all c.loop-i.i rows past) c.loop-i.invariant.stands
