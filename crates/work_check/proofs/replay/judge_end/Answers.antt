use Rattle.std.proofs.Common.{ℕ, ◌≡◌, ◌<◌, ◌≤◌, ◌+◌, List, [], Bool, true, false, length, get_or, ◌∙◌, sym, ap, arith, subst, refl, inl, inr}
use Rattle.std.specs.Prelude.{◌⊎◌, ltb, Option, Some, MatchOption}
use Rattle.std.proofs.lemmas.Bool.Decides.{nat_tests}
use Rattle.stm_model.specs.Plains.{openings}
use Rattle.work_script.specs.declared.report.Report.{Report}
use Rattle.work_script.specs.declared.workload.Workload.{Workload}
use Rattle.work_script.specs.Reports.{Replays, zeros, nonzero}
use Rattle.work_check.specs.Verdicts.{AreRight, AllHaveRows, IsFirstFault, alike, Judges}
use Rattle.work_check.specs.Wanted.{IsItem, WantsAfter, IsWanted, Wants, word_of}
use Rattle.work_check.specs.declared.verdict.Verdict.{Verdict}
use Rattle.work_check.specs.declared.verdict.Verdict.TheVariants.{No}
use Rattle.work_check.specs.declared.wanted.Wanted.{Wanted}
use Rattle.work_check.specs.declared.wanted.Wanted.TheVariants as wants
use Rattle.work_check.proofs.VerdictLaws.{right-replays, fault-refutes}
use Rattle.work_check.proofs.StandingLaws.{alike-self, alike-same}
use Rattle.work_check.proofs.replay.judge_end.Goals as goal

refuted : (w : Workload) (r : Report) (line : ℕ) → IsFirstFault w r line → (Replays w r → ⊥) × IsFirstFault w r line
refuted w r line f = (fault-refutes w r line f, f)

missing : (w : Workload) (r : Report) (last : List ℕ) (n line : ℕ) → AreRight w [] (zeros w.header.words) r.rows last
    → (AllHaveRows w r.rows → ⊥) → n ≡ length r.rows → line ≡ n + 2 → (Replays w r → ⊥) × IsFirstFault w r line
missing w r last n line right none is at = refuted w r line (inr (last, right, inl (none, omega arith)))

differs : (w : Workload) (r : Report) (last : List ℕ) (told left : List (ℕ × ℕ)) (n same line : ℕ)
    → AreRight w [] (zeros w.header.words) r.rows last → AllHaveRows w r.rows → n ≡ length r.rows → told ≡ r.memory → left ≡ nonzero 0 last
    → same ≡ alike told left → (told ≡ left → ⊥) → line ≡ n + 2 + same → (Replays w r → ⊥) × IsFirstFault w r line
differs w r last told left n same line right all is t l s other at =
    let e : same ≡ alike r.memory (nonzero 0 last) = s ∙ (ap (λ x. alike x left) t ∙ ap (alike r.memory) l) in
    refuted w r line (inr (last, right, inr (all, (λ q. other (t ∙ (q ∙ sym l))), omega arith)))

told-not : (told left : List (ℕ × ℕ)) (same : ℕ) → same ≡ alike told left → same < length told → told ≡ left → ⊥
told-not told left same s lt q = let e = alike-self told in let a = ap (alike told) q in absurd (omega arith)

left-not : (told left : List (ℕ × ℕ)) (same : ℕ) → same ≡ alike told left → same < length left → told ≡ left → ⊥
left-not told left same s lt q = let e = alike-self left in let a = ap (λ x. alike x left) q in absurd (omega arith)

wants-no : (w : Workload) (r : Report) (v : Verdict) (o : Option Wanted) (line : ℕ) (x : Wanted) → v ≡ No line → o ≡ Some x → IsWanted w r x → Wants w r v o
wants-no w r v o line x p q h = subst (λ u. Wants w r u o) (sym p) (subst (λ m. MatchOption m ⊥ (IsWanted w r)) (sym q) h)

-- what is wanted after the rows, where the memory that they leave is told so
abbrev WantsIn : Workload → Report → List (ℕ × ℕ) → Wanted → Type 0
WantsIn w r left (wants.Word address value) = AllHaveRows w r.rows × IsItem left (alike r.memory left) (address, value)
WantsIn w r left wants.End = AllHaveRows w r.rows × (alike r.memory left ≡ length left) × (length left < length r.memory)
WantsIn w r left x = ⊥

-- the word after those that are alike, or the end
behind-word : (w : Workload) (r : Report) (last : List ℕ) (left : List (ℕ × ℕ)) (same : ℕ) (x : Wanted) → AreRight w [] (zeros w.header.words) r.rows last → AllHaveRows w r.rows → left ≡ nonzero 0 last
    → same ≡ alike r.memory left → same ≤ length left → (same < length left → x ≡ word_of (get_or left same (0, 0)))
    → (length left ≤ same → x ≡ wants.End) → (same < length r.memory) ⊎ (same < length left) → IsWanted w r x
behind-word w r last left same x right all l s le word end more = inr (last, right, behind x (subst (λ k. WantsIn w r k x) l (by (ltb same (length left)) refl)))
  where
    behind : (y : Wanted) → WantsIn w r (nonzero 0 last) y → WantsAfter w r last y
    behind (wants.Word address value) h = h
    behind wants.End h = h
    behind wants.Later h = absurd h
    behind wants.Apart h = absurd h
    behind (wants.Next seq) h = absurd h
    behind (wants.Over count) h = absurd h
    behind (wants.Row want) h = absurd h
    behind (wants.Missing caller seq) h = absurd h

    short : length left ≤ same → (same < length r.memory) ⊎ (same < length left) → length left < length r.memory
    short high (inl h) = omega arith
    short high (inr h) = absurd (omega arith)

    by : (b : Bool) → ltb same (length left) ≡ b → WantsIn w r left x
    by true e =
        let lt : same < length left = grind (arith, nat_tests) in
        subst (WantsIn w r left) (sym (word lt)) (all, (subst (λ n. n < length left) s lt, ap (λ n. get_or left n (0, 0)) (sym s)))
    by false e =
        let high : length left ≤ same = grind (arith, nat_tests) in
        subst (WantsIn w r left) (sym (end high)) (all, sym s ∙ (let q : same ≡ length left = omega arith in q), short high more)

pub returns-in-Some-clause-verdict : goal.returns-in-Some-clause-verdict
returns-in-Some-clause-verdict c =
    let w = c.args.workload.now in
    let rows = c.as_slice-rows.ensures in
    let some = c.in-Some.ensures in
    subst (Judges w c.args.report.now) (sym c.no.ensures.verdict)
    (missing w c.args.report.now (openings c.args.standing.now.ledger) (length c.as_slice-rows.result.now) (length c.as_slice-rows.result.now + 2) c.requires.right
    (λ all. let have : AllHaveRows w c.as_slice-rows.result.now = subst (AllHaveRows w) (sym rows) all in let own = have c.in-Some.caller in let at = some.0 in let lt = some.1 in absurd (omega arith))
    (ap length rows) refl)

pub returns-then-same-told-clause-verdict : goal.returns-then-same-told-clause-verdict
returns-then-same-told-clause-verdict c =
    let w = c.args.workload.now in
    let rows = c.as_slice-rows.ensures in
    let left = c.in_ok-left.ensures ∙ ap (nonzero 0) (c.deref.ensures.value ∙ c.in_ok-values.ensures) in
    let all = subst (AllHaveRows w) rows c.in_default.ensures in
    subst (Judges w c.args.report.now) (sym c.no-then-same-told.ensures.verdict)
    (differs w c.args.report.now (openings c.args.standing.now.ledger) c.as_slice-told.result.now c.as_slice.result.now
    (length c.as_slice-rows.result.now) c.alike-same.result (length c.as_slice-rows.result.now + 2 + c.alike-same.result)
    c.requires.right all (ap length rows) c.as_slice-told.ensures (c.as_slice.ensures ∙ left) c.alike-same.ensures.alike
    (told-not c.as_slice-told.result.now c.as_slice.result.now c.alike-same.result c.alike-same.ensures.alike c.if-same-told.true) refl)

pub returns-then-same-as_slice-clause-verdict : goal.returns-then-same-as_slice-clause-verdict
returns-then-same-as_slice-clause-verdict c =
    let w = c.args.workload.now in
    let rows = c.as_slice-rows.ensures in
    let left = c.in_ok-left.ensures ∙ ap (nonzero 0) (c.deref.ensures.value ∙ c.in_ok-values.ensures) in
    let all = subst (AllHaveRows w) rows c.in_default.ensures in
    let two = c.as_slice-2.ensures ∙ sym c.as_slice.ensures in
    let shorter : c.alike-same.result < length c.as_slice.result.now = subst (λ (l : List (ℕ × ℕ)). c.alike-same.result < length l) two c.if-same-as_slice.true in
    subst (Judges w c.args.report.now) (sym c.no-then-same-as_slice.ensures.verdict)
    (differs w c.args.report.now (openings c.args.standing.now.ledger) c.as_slice-told.result.now c.as_slice.result.now
    (length c.as_slice-rows.result.now) c.alike-same.result (length c.as_slice-rows.result.now + 2 + c.alike-same.result)
    c.requires.right all (ap length rows) c.as_slice-told.ensures (c.as_slice.ensures ∙ left) c.alike-same.ensures.alike
    (left-not c.as_slice-told.result.now c.as_slice.result.now c.alike-same.result c.alike-same.ensures.alike shorter) refl)

pub returns-then-same-told-clause-wanted : goal.returns-then-same-told-clause-wanted
returns-then-same-told-clause-wanted c =
    let w = c.args.workload.now in
    let rows = c.as_slice-rows.ensures in
    let all = subst (AllHaveRows w) rows c.in_default.ensures in
    let left = c.in_ok-left.ensures ∙ ap (nonzero 0) (c.deref.ensures.value ∙ c.in_ok-values.ensures) in
    let told = c.as_slice-told.ensures in
    let two = c.as_slice-then-same-told.ensures ∙ sym c.as_slice.ensures in
    let x = c.wanted_word in
    wants-no w c.args.report.now c.no-then-same-told.result.verdict c.no-then-same-told.result.wanted
    (length c.as_slice-rows.result.now + 2 + c.alike-same.result) x.result c.no-then-same-told.ensures.verdict
    c.no-then-same-told.ensures.wanted
    (behind-word w c.args.report.now (openings c.args.standing.now.ledger) c.as_slice.result.now c.alike-same.result x.result c.requires.right all (c.as_slice.ensures ∙ left)
    (c.alike-same.ensures.alike ∙ ap (λ t. alike t c.as_slice.result.now) told) c.alike-same.ensures.left
    (subst (λ (l : List (ℕ × ℕ)). c.alike-same.result < length l → x.result ≡ word_of (get_or l c.alike-same.result (0, 0))) two x.ensures.word)
    (subst (λ (l : List (ℕ × ℕ)). length l ≤ c.alike-same.result → x.result ≡ wants.End) two x.ensures.end)
    (inl (subst (λ (l : List (ℕ × ℕ)). c.alike-same.result < length l) told c.if-same-told.true)))

pub returns-then-same-as_slice-clause-wanted : goal.returns-then-same-as_slice-clause-wanted
returns-then-same-as_slice-clause-wanted c =
    let w = c.args.workload.now in
    let rows = c.as_slice-rows.ensures in
    let all = subst (AllHaveRows w) rows c.in_default.ensures in
    let left = c.in_ok-left.ensures ∙ ap (nonzero 0) (c.deref.ensures.value ∙ c.in_ok-values.ensures) in
    let told = c.as_slice-told.ensures in
    let two = c.as_slice-then-same-as_slice.ensures ∙ sym c.as_slice.ensures in
    let other = c.as_slice-2.ensures ∙ sym c.as_slice.ensures in
    let x = c.wanted_word-then-same-as_slice in
    wants-no w c.args.report.now c.no-then-same-as_slice.result.verdict c.no-then-same-as_slice.result.wanted
    (length c.as_slice-rows.result.now + 2 + c.alike-same.result) x.result c.no-then-same-as_slice.ensures.verdict
    c.no-then-same-as_slice.ensures.wanted
    (behind-word w c.args.report.now (openings c.args.standing.now.ledger) c.as_slice.result.now c.alike-same.result x.result c.requires.right all (c.as_slice.ensures ∙ left)
    (c.alike-same.ensures.alike ∙ ap (λ t. alike t c.as_slice.result.now) told) c.alike-same.ensures.left
    (subst (λ (l : List (ℕ × ℕ)). c.alike-same.result < length l → x.result ≡ word_of (get_or l c.alike-same.result (0, 0))) two x.ensures.word)
    (subst (λ (l : List (ℕ × ℕ)). length l ≤ c.alike-same.result → x.result ≡ wants.End) two x.ensures.end)
    (inr (subst (λ (l : List (ℕ × ℕ)). c.alike-same.result < length l) other c.if-same-as_slice.true)))

pub returns-clause-verdict : goal.returns-clause-verdict
returns-clause-verdict c =
    let w = c.args.workload.now in
    let rows = c.as_slice-rows.ensures in
    let left = c.in_ok-left.ensures ∙ ap (nonzero 0) (c.deref.ensures.value ∙ c.in_ok-values.ensures) in
    let all = subst (AllHaveRows w) rows c.in_default.ensures in
    let two = c.as_slice-2.ensures ∙ sym c.as_slice.ensures in
    let no-shorter : length c.as_slice.result.now ≤ c.alike-same.result = subst (λ (l : List (ℕ × ℕ)). length l ≤ c.alike-same.result) two c.if-same-as_slice.false in
    let e = c.alike-same.ensures.alike in
    let t = c.alike-same.ensures.told in let l = c.alike-same.ensures.left in let s = c.if-same-told.false in
    right-replays w c.args.report.now (openings c.args.standing.now.ledger) c.requires.right all
    (sym c.as_slice-told.ensures ∙ (alike-same c.as_slice-told.result.now c.as_slice.result.now (omega arith) (omega arith) ∙ (c.as_slice.ensures ∙ left)))
