use Rattle.std.proofs.Common.{ℕ, ◌≡◌, Bool, List, [], ◌∷◌, ap, true, false, refl, ◌∙◌, arith}
use Rattle.std.specs.Prelude.{Some, not, ◌==◌, if◌then◌else◌}
use Rattle.std.proofs.lemmas.Bool.Decides.{nat_tests}
use Rattle.stm_model.specs.Algorithms.{irrevocable_under}
use Rattle.stm_model.specs.declared.alg.Alg.TheVariants.{RingSw}
use Rattle.stm_model.specs.Logs.{Log, Writes}
use Rattle.stm_model.specs.Memories.{item_at, is_empty}
use Rattle.stm_model.specs.PlainLaws.{put-item}
use Rattle.stm_answers.specs.CallerState.{CallerState, is_irrevocable, wrote}
use Rattle.stm_tx.specs.Descs.{known}
use Rattle.test_interface.proofs.ring_tests.begins_and_writes.Goals as goal

still-revocable : (k : CallerState) → k.alg ≡ RingSw → k.granted ≡ false → is_irrevocable k ≡ false
still-revocable k alg granted = λ j. irrevocable_under (alg j) (granted j) (wrote k)

-- what was written is in the log
some-written : (l k : Log) (a x : ℕ) → Writes l a x k → not (is_empty k.writes) ≡ true
some-written l k a x w = by k.writes (w.1 a ∙ (put-item a x a l.writes ∙ ap (λ (b : Bool). if b then Some x else item_at a l.writes) (let e : (a == a) ≡ true = grind (arith, nat_tests) in e)))
  where
    by : (ws : List (ℕ × ℕ)) → item_at a ws ≡ Some x → not (is_empty ws) ≡ true
    by [] e = absurd cc
    by (v ∷ vs) e = refl

pub returns-clause-runs : goal.returns-clause-runs
returns-clause-runs c = λ e.
    let b = c.in-Begun-RingSw.ensures.begins in
    let w = c.in-Done.ensures.write in
    ((w.0.continues.running, w.1), w.0.continues.alg ∙ (b.named ∙ c.in-Begun-RingSw.field-0-is))

pub returns-clause-wrote : goal.returns-clause-wrote
returns-clause-wrote c = λ e.
    let b = c.in-Begun-RingSw.ensures.begins in
    let w = c.in-Done.ensures.write in
    let k = known c.write.new.desc in
    (still-revocable k (w.0.continues.alg ∙ (b.named ∙ c.in-Begun-RingSw.field-0-is)) (w.0.granted ∙ b.granted), some-written (known c.try_begin.new.desc).log k.log c.args.a c.args.x w.2)
