use Rattle.std.proofs.Common.{◌≡◌, ◌-◌, ◌++◌, [], length, take, refl, sym, ap, ◌∙◌, subst, arith, length-set}
use Rattle.std.specs.Prelude.{None}
use Rattle.std.proofs.Math.Seq.{map-set_same}
use Rattle.stm_model.specs.declared.plain.PlainWord.{PlainWord}
use Rattle.stm_model.specs.Memories.{AreWords}
use Rattle.stm_model.specs.Plains.{openings, forgotten}
use Rattle.stm_model.specs.PlainLaws.{openings-set}
use Rattle.work_check.specs.Ledgers.{AreTouched}
use Rattle.work_check.proofs.LedgerLaws.{AreLeft, left-one, touched-none, forgotten-all}
use Rattle.work_check.proofs.ledger.Ledger.forget.Goals as goal

pub loop-a-init : goal.loop-a-init
loop-a-init c = record { same = refl; left = record { within = c.self.invariant.0.within; all = c.self.invariant.0.all }; room = c.self.invariant.1; small = c.self.invariant.2 }

pub loop-a-preserved : goal.loop-a-preserved
loop-a-preserved c =
    let ws = c.loop-a.self-inside.words.items in
    let w = c.index.result.now in
    let a = c.in-Some.a in
    let y : PlainWord = record { opening = w.opening; own = None } in
    let inv = c.loop-a.invariant in
    let popped = c.in-Some.ensures in
    let l = length-set ws a y in
    let cap = popped.capacity in
    let room = inv.room in
    record {
      same = map-set_same forgotten ws a y w (ap forgotten c.index.ensures) ∙ inv.same;
      left = left-one ws c.pop.new.self.items a y (subst (AreLeft ws) popped.items inv.left) refl;
      room = omega arith;
      small = subst AreWords (sym (openings-set ws a w y (ap (λ (x : PlainWord). x.opening) c.index.ensures))) inv.small;
    }

is-gone : (c : goal.In_default) → c.pop.new.self.items ≡ []
is-gone c = let e = c.in_default.ensures in e.rest ∙ ap (λ n. take (n - 1) c.loop-a.self-inside.touched.items) e.cases.0

left-none : (c : goal.In_default) → AreLeft c.loop-a.self-inside.words.items []
left-none c = subst (AreLeft c.loop-a.self-inside.words.items) (c.in_default.ensures.items ∙ ap (λ l. l ++ []) (is-gone c)) c.loop-a.invariant.left

pub invariant_of-self : goal.invariant_of-self
invariant_of-self c =
    let cap = c.in_default.ensures.capacity in
    let room = c.loop-a.invariant.room in
    (subst (AreTouched c.loop-a.self-inside.words.items) (sym (is-gone c)) (touched-none c.loop-a.self-inside.words.items (left-none c)), omega arith, c.loop-a.invariant.small)

pub returns-clause-opened : goal.returns-clause-opened
returns-clause-opened c = (forgotten-all c.self.inside.words.items c.loop-a.self-inside.words.items c.loop-a.invariant.same (left-none c)).0 ∙ ap openings c.self.view_is

pub returns-clause-cleared : goal.returns-clause-cleared
returns-clause-cleared c = (forgotten-all c.self.inside.words.items c.loop-a.self-inside.words.items c.loop-a.invariant.same (left-none c)).1

pub returns-clause-length : goal.returns-clause-length
returns-clause-length c = (forgotten-all c.self.inside.words.items c.loop-a.self-inside.words.items c.loop-a.invariant.same (left-none c)).2 ∙ ap length c.self.view_is
