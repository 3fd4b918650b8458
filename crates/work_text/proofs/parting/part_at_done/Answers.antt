use Rattle.std.proofs.Common.{◌≡◌, ◌+◌, ◌-◌, ◌∷◌, ◌∙◌, List, ℕ, [], take, refl, sym, ap, drop, length, length-drop, arith}
use Rattle.work_text.proofs.PartingLaws.{gone-line, gone-done, gone-end}
use Rattle.work_text.proofs.parting.part_at_done.Goals as goal

abbrev first : List ℕ × List ℕ → List ℕ
first p = p.0

abbrev second : List ℕ × List ℕ → List ℕ
second p = p.1

take-none : (xs : List ℕ) → take 0 xs ≡ []
take-none [] = refl
take-none (x ∷ xs) = refl

pub returns-then-is_done-clause-head : goal.returns-then-is_done-clause-head
returns-then-is_done-clause-head c =
    let s = c.loop-i.rest.now in
    let i = c.in-Some.i in
    let at = c.in-Some.ensures.2 in
    sym (ap first (gone-done c.args.text.now s c.loop-i.at i (drop (i + 1) s) c.in-Some.ensures.1 at c.in-Some.ensures.0 (sym c.is-is_done.ensures ∙ c.if-is_done.true) c.loop-i.invariant.gone))

pub returns-then-is_done-clause-rest : goal.returns-then-is_done-clause-rest
returns-then-is_done-clause-rest c =
    let s = c.loop-i.rest.now in
    let i = c.in-Some.i in
    let at = c.in-Some.ensures.2 in
    c.past-rest.ensures ∙ sym (ap second (gone-done c.args.text.now s c.loop-i.at i (drop (i + 1) s) c.in-Some.ensures.1 at c.in-Some.ensures.0 (sym c.is-is_done.ensures ∙ c.if-is_done.true) c.loop-i.invariant.gone))

pub loop-i-preserved : goal.loop-i-preserved
loop-i-preserved c =
    let s = c.loop-i.rest.now in
    let i = c.in-Some.i in
    let at = c.in-Some.ensures.2 ∙ ap (λ t. 10 ∷ t) (sym c.past-rest.ensures) in
    let long : length c.past-rest.result.now ≡ length s - (i + 1) = ap length c.past-rest.ensures ∙ length-drop (i + 1) s in
    let within = c.loop-i.invariant.within in
    let lt = c.in-Some.ensures.0 in
    record {
      gone = gone-line c.args.text.now s c.loop-i.at i c.past-rest.result.now c.in-Some.ensures.1 at lt (sym c.is-is_done.ensures ∙ c.if-is_done.false) c.loop-i.invariant.gone;
      within = omega arith;
    }

pub returns-clause-head : goal.returns-clause-head
returns-clause-head c = sym (ap first (gone-end c.args.text.now c.loop-i.rest.now c.loop-i.at c.in_default.ensures c.loop-i.invariant.gone))

pub returns-clause-rest : goal.returns-clause-rest
returns-clause-rest c =
    let n = length c.args.text.now in
    let z : n - n ≡ 0 = omega arith in
    ap (λ k. take k (drop n c.args.text.now)) z ∙ (take-none (drop n c.args.text.now)
    ∙ sym (ap second (gone-end c.args.text.now c.loop-i.rest.now c.loop-i.at c.in_default.ensures c.loop-i.invariant.gone)))
