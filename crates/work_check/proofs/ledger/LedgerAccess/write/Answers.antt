use Rattle.std.proofs.Common.{ℕ, ◌≡◌, ◌<◌, ◌≤◌, List, length, get_or, set, refl, sym, ap, ◌∙◌, subst, arith, length-set}
use Rattle.std.specs.Prelude.{Some, is_some, false, true, vec_capacity}
use Rattle.std.proofs.lemmas.List.{get_or_default}
use Rattle.work_check.specs.declared.ledger.Ledger.TheInside.{Inside}
use Rattle.stm_model.specs.declared.plain.PlainWord.{PlainWord}
use Rattle.stm_model.specs.Logs.{Writes}
use Rattle.stm_model.specs.Memories.{AreWords}
use Rattle.stm_model.specs.Plains.{plain_log, openings}
use Rattle.stm_model.specs.PlainLaws.{plain-writes, plain-explained, openings-set}
use Rattle.work_check.specs.Ledgers.{AreTouched, zero_word}
use Rattle.work_check.proofs.LedgerLaws.{owned-room, touched-new, touched-again}
use Rattle.work_check.proofs.ledger.LedgerAccess.write.Goals.{then-is_none, else-is_none}
use Rattle.work_check.proofs.ledger.LedgerAccess.write.Goals as goal

-- the word at an address, whatever stands for one after the end
none-at : (ws : List PlainWord) (a : ℕ) (w : PlainWord) → w ≡ get_or ws a w → a < length ws → is_some w.own ≡ false → is_some (get_or ws a zero_word).own ≡ false
none-at ws a w e lt h = ap (λ (x : PlainWord). is_some x.own) (get_or_default ws a zero_word w lt ∙ sym e) ∙ h

some-at : (ws : List PlainWord) (a : ℕ) (w : PlainWord) → w ≡ get_or ws a w → a < length ws → is_some w.own ≡ true → is_some (get_or ws a zero_word).own ≡ true
some-at ws a w e lt h = ap (λ (x : PlainWord). is_some x.own) (get_or_default ws a zero_word w lt ∙ sym e) ∙ h

pub push_reserved-requires : goal.push_reserved-requires
push_reserved-requires c =
    let ws = c.self.inside.words.items in
    let n = owned-room ws c.args.a (subst (λ (xs : List PlainWord). c.args.a < length xs) (sym c.self.view_is) c.requires.within)
    (none-at ws c.args.a c.index.result.now c.index.ensures
    (subst (λ (xs : List PlainWord). c.args.a < length xs) (sym c.self.view_is) c.requires.within) c.if-is_none.ensures) in
    let k = c.self.invariant.0.count in
    let r = c.self.invariant.1 in
    let l = c.self.inside.touched.ok.0 in
    omega arith

abbrev set_word : goal.After-self-1 → PlainWord
set_word c = record { opening = c.index.result.now.opening; own = Some c.args.v }

within : (c : goal.After-self-1) → c.args.a < length c.self.inside.words.items
within c = subst (λ (xs : List PlainWord). c.args.a < length xs) (sym c.self.view_is) c.requires.within

same-words : (c : goal.After-self-1) → c.if-is_none.self-inside.words.items ≡ c.self.inside.words.items
same-words c = elim c.if-is_none.branch [ then-is_none w ↦ ap (λ (i : Inside). i.words.items) w.self-inside-is | else-is_none w ↦ ap (λ (i : Inside). i.words.items) w.self-inside-is ]

touched-then : (c : goal.After-self-1) → AreTouched (set c.if-is_none.self-inside.words.items c.args.a (set_word c)) c.if-is_none.self-inside.touched.items
touched-then c = elim c.if-is_none.branch [
  | then-is_none w ↦ subst (λ (i : Inside). AreTouched (set i.words.items c.args.a (set_word c)) i.touched.items) (sym w.self-inside-is)
      (subst (λ t. AreTouched (set c.self.inside.words.items c.args.a (set_word c)) t) (sym w.push_reserved.ensures.items)
      (touched-new c.self.inside.words.items c.self.inside.touched.items c.args.a (set_word c) c.args.v c.self.invariant.0 (within c)
      (none-at c.self.inside.words.items c.args.a c.index.result.now c.index.ensures (within c) w.if-is_none.ensures) refl))
  | else-is_none w ↦ subst (λ (i : Inside). AreTouched (set i.words.items c.args.a (set_word c)) i.touched.items) (sym w.self-inside-is)
      (touched-again c.self.inside.words.items c.self.inside.touched.items c.args.a (set_word c) c.args.v c.self.invariant.0 (within c)
      (some-at c.self.inside.words.items c.args.a c.index.result.now c.index.ensures (within c) w.if-is_none.ensures) refl)
]

room-then : (c : goal.After-self-1) → length c.if-is_none.self-inside.words.items ≤ vec_capacity c.if-is_none.self-inside.touched
room-then c = elim c.if-is_none.branch [
  | then-is_none w ↦ subst (λ (i : Inside). length i.words.items ≤ vec_capacity i.touched) (sym w.self-inside-is) (let k = w.push_reserved.ensures.capacity in let r = c.self.invariant.1 in omega arith)
  | else-is_none w ↦ subst (λ (i : Inside). length i.words.items ≤ vec_capacity i.touched) (sym w.self-inside-is) c.self.invariant.1
]

words-then : (c : goal.After-self-1) → AreWords (openings (set c.if-is_none.self-inside.words.items c.args.a (set_word c)))
words-then c = subst (λ (ys : List PlainWord). AreWords (openings (set ys c.args.a (set_word c)))) (sym (same-words c))
    (subst AreWords (sym (openings-set c.self.inside.words.items c.args.a c.index.result.now (set_word c) (ap (λ (w : PlainWord). w.opening) c.index.ensures))) c.self.invariant.2)

pub invariant_of-self : goal.invariant_of-self
invariant_of-self c = let r = room-then c in let l = length-set c.if-is_none.self-inside.words.items c.args.a (set_word c) in (touched-then c, omega arith, words-then c)

pub returns-clause-value : goal.returns-clause-value
returns-clause-value c =
    let ws = c.self.inside.words.items in
    subst (λ (ys : List PlainWord). Writes (plain_log c.args.self.now) c.args.a c.args.v (plain_log (set ys c.args.a (set_word c)))) (sym (same-words c))
    (subst (λ (xs : List PlainWord). Writes (plain_log xs) c.args.a c.args.v (plain_log (set ws c.args.a (set_word c)))) c.self.view_is
    (plain-writes ws c.args.a c.index.result.now (set_word c) c.args.v (within c) (ap (λ (w : PlainWord). w.opening) c.index.ensures) refl))

pub returns-clause-explained : goal.returns-clause-explained
returns-clause-explained c = plain-explained (set c.if-is_none.self-inside.words.items c.args.a (set_word c)) (words-then c)

pub returns-clause-good : goal.returns-clause-good
returns-clause-good c = λ m.
    let same = ap (λ (ys : List PlainWord). openings (set ys c.args.a (set_word c))) (same-words c) ∙ openings-set c.self.inside.words.items
    c.args.a c.index.result.now (set_word c) (ap (λ (w : PlainWord). w.opening) c.index.ensures) in
    let was = ap openings c.self.view_is in
    ((λ e. e ∙ (sym was ∙ sym same)), (λ e. e ∙ (same ∙ was)))
