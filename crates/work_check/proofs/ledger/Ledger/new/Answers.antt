use Rattle.std.proofs.Common.{ℕ, ◌≡◌, [], List, length, replicate, sym, ap, arith, subst}
use Rattle.std.proofs.lemmas.List.{length-replicate}
use Rattle.stm_model.specs.Memories.{AreWords}
use Rattle.stm_model.specs.Plains.{openings}
use Rattle.stm_model.specs.declared.plain.PlainWord.{PlainWord}
use Rattle.work_check.specs.Ledgers.{AreTouched, zero_word}
use Rattle.work_check.proofs.LedgerLaws.{zeros-touched, zeros-words}
use Rattle.work_check.proofs.ledger.Ledger.new.Goals as goal

fresh : (ws : List PlainWord) (touched : List ℕ) (n : ℕ) → ws ≡ replicate n zero_word → touched ≡ [] → AreTouched ws touched
fresh ws touched n e f = rw (e, f) (zeros-touched n)

pub invariant_of-result : goal.invariant_of-result
invariant_of-result c =
    let v : c.in_ok-words.words.items ≡ replicate c.args.words zero_word = c.in_ok-words.ensures.items_if_clones_equal (λ y e. e) in
    let k = c.in_ok-touched.ensures.capacity in
    let l = length-replicate c.args.words zero_word in
    let n = ap length v in
    (fresh c.in_ok-words.words.items c.in_ok-touched.touched.items c.args.words v c.in_ok-touched.ensures.items, omega arith, subst (λ (ws : List PlainWord). AreWords (openings ws)) (sym v) (zeros-words c.args.words))
