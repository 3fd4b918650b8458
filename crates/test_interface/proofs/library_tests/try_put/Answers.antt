use Rattle.std.proofs.Common.{arith, refl, ◌≡◌, ◌+◌, true, sym, ap, subst, inl, inr}
use Rattle.std.specs.Prelude.{◌⊎◌}
use Rattle.stm_model.specs.Logs.{Writes, Keeps}
use Rattle.stm_model.specs.Memories.{overlay, Explains}
use Rattle.stm_answers.specs.CallerState.{wrote}
use Rattle.stm_rule.specs.Callers.{Handle}
use Rattle.test_interface.specs.declared.library_tests.Shelf.{Shelf}
use Rattle.stm_tx.specs.Descs.{known, number}
use Rattle.test_interface.proofs.Stocks.{HasRoom, stocks-read, stocks-put, still-revocable, cancels-idle}
use Rattle.test_interface.proofs.library_tests.try_put.Goals as goal
use Rattle.test_interface.proofs.library_tests.try_put.Goals.{then-has_room+in-Done, then-stock-eq0, else-stock-eq0, else-has_room}

pub commit_for_answer-requires-clause-keeps : goal.commit_for_answer-requires-clause-keeps
commit_for_answer-requires-clause-keeps c =
    let room = c.args.stm.now.rule.room in
    let words = c.args.stm.now.config.words in
    let none = (c.if-not-begin.ensures.runs refl).1 in
    let first = c.in-Value.ensures.read.2 in
    let second = c.in-Value-read.ensures.read.2 in
    let long = c.requires.stock.1 in
    let a = (known c.begin.new.desc).log in
    let b = (known c.read.new.desc).log in
    let l = (known c.read-2.new.desc).log in
    let left = c.in-Value.left in
    let right = c.in-Value-read.right in
    elim c.if-has_room.branch [
      | then-has_room+in-Done w ↦ subst (λ (d : Handle Shelf). wrote (known d) ≡ true → Keeps (HasRoom room) words (known d).log) (sym w.desc-is)
          (λ some m fine len ex small.
          let k = (known w.write.new.desc).log in
          let stored : Writes l c.args.stock (w.if-stock-eq0.pieces + 1) k = w.in-Done.ensures.write.2 in
          let was = stocks-read m a b l left right none first second (omega (arith, len, long)) (subst (Explains m) stored.0 ex) in
          let value : ((c.args.stock ≡ 0) × (w.if-stock-eq0.pieces + 1 ≡ left + 1)) ⊎ ((c.args.stock ≡ 1) × (w.if-stock-eq0.pieces + 1 ≡ right + 1)) =
          elim w.if-stock-eq0.branch [ then-stock-eq0 v ↦ inl (v.if-stock-eq0.true, ap (λ x. x + 1) v.pieces-is) | else-stock-eq0 v ↦ inr ((let ne = v.if-stock-eq0.false in let lt = c.requires.stock.0 in omega arith), ap (λ x. x + 1) v.pieces-is) ] in
          stocks-put room c.args.stock (w.if-stock-eq0.pieces + 1) left right m l k (omega (arith, len, long)) was stored value (let lt = w.if-has_room.true in let is = c.from-room.ensures in omega arith))
      | else-has_room w ↦ subst (λ (d : Handle Shelf). wrote (known d) ≡ true → Keeps (HasRoom room) words (known d).log) (sym w.desc-is)
          (λ some m fine len ex small. subst (λ ws. HasRoom room (overlay m ws)) (sym (stocks-read m a b l left right none first second (omega (arith, len, long)) ex).2) fine)
    ]

pub returns-in-Again-clause-idle : goal.returns-in-Again-clause-idle
returns-in-Again-clause-idle c =
    let again = c.in-Again.ensures.commits in
    let revocable = still-revocable (known c.if-has_room.desc) (known c.commit_for_answer.new.desc) again.0.continues.alg again.0.granted again.2 again.7 in
    cancels-idle (HasRoom c.args.stm.now.rule.room) c.args.stm.now.config (number c.commit_for_answer.new.desc) c.cancel.result (known c.commit_for_answer.new.desc) (known c.cancel.new.desc) revocable c.cancel.ensures.cancels
