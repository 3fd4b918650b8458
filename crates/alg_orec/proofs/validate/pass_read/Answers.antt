use Rattle.std.proofs.Common.{ℕ, ◌≡◌, Bool, true, false, sym, ap, subst, rules}
use Rattle.std.specs.Prelude.{◌%◌, None, Ok}
use Rattle.std.proofs.lemmas.Result.{err_from_is_err_and}
use Rattle.stm_model.specs.declared.stop.Cause.{Cause}
use Rattle.stm_model.specs.Memories.{item_at}
use Rattle.rule_orec.specs.OrecSteps.{orec_pass}
use Rattle.stm_rule.specs.declared.local.Local.{Local}
use Rattle.stm_rule.proofs.StandLemmas.{tells-of}
use Rattle.alg_orec.specs.RecordFindings.{FindsRead}
use Rattle.alg_orec.proofs.Passing as passing
use Rattle.alg_orec.specs.Validating.{MustLoad, Refuses}
use Rattle.alg_orec.proofs.validate.pass_read.Goals as goal

must-true : (l : Local) (r : ℕ) (b : Bool) → MustLoad (Ok b) l r → b ≡ true → item_at r l.locks.items ≡ None
must-true l r true h e = h
must-true l r false h e = absurd cc

pub returns-in_err-must_load-clause-passes : goal.returns-in_err-must_load-clause-passes
returns-in_err-must_load-clause-passes g c =
    let f = c.args.stm.now.config in
    let l = c.args.local.now in
    let v = c.args.seat.now.me.0.view in
    let e = c.in_err-must_load.ensures in
    let p = err_from_is_err_and c.from_residual.result c.from_residual.ensures.1 in
    rw (p.1, p.2) (subst (λ (k : Cause). Refuses f c.args.caller k v v) (sym e.3)
    (passing.refused-mine f c.args.caller c.requires.caller l v c.requires.view c.args.i c.requires.place c.item-b.result.0 (ap (λ (q : ℕ × ℕ). q.0) c.item-b.ensures) e.0 e.1 e.2))

pub returns-clause-passes : goal.returns-clause-passes
returns-clause-passes g c =
    let f = c.args.stm.now.config in
    let l = c.args.local.now in
    let s = c.args.seat.now.me.0 in
    let b = c.item-b.result.0 in
    let r = b % f.records in
    let x = c.pass-word.result in
    let w = c.pass-word.new.seat.me.0 in
    let yes : c.in_ok-must_load.field-0 ≡ true = search rules in
    passing.judged f c.args.caller c.requires.caller l s.view c.requires.view c.args.i c.requires.place b
    (ap (λ (q : ℕ × ℕ). q.0) c.item-b.ensures) x w.view c.judge.result
    (must-true l r c.in_ok-must_load.field-0 c.in_ok-must_load.ensures yes) c.judge.ensures
    (tells-of (orec_pass r b) (FindsRead f c.args.caller r) s x w c.pass-word.ensures.step)
