use Rattle.std.proofs.Common.{◌≡◌, ◌<◌, ◌∙◌, List, [], ◌∷◌, ◌++◌, length, ap, subst, arith}
use Rattle.stm_model.specs.declared.alg.Alg.{Alg}
use Rattle.stm_model.specs.declared.config.Config.{Config}
use Rattle.stm_rule.specs.Callers.{Handle}
use Rattle.stm_tx.specs.Descs.{known}
use Rattle.tx_atomic.specs.Callers.{IsThrough}
use Rattle.tx_start.proofs.LeftLaws.{opened-new, new-set}
use Rattle.tx_atomic.specs.CallerLaws.{opened-ready, ready-set}
use Rattle.tx_start.proofs.memory.open.Goals as goal

pub returns-clause-ready : goal.returns-clause-ready
returns-clause-ready g c =
    let stm = c.in_ok-stm.stm in
    let ds = c.in_ok-stm.descs.items in
    let e = c.switch_to.new.desc in
    let through = subst (λ (h : Handle g.row.K.Denot). IsThrough h e) c.index_mut.ensures.value c.switch_to.ensures.through in
    let count = c.in_ok-stm.ensures.descs.1 in
    let asked = ap (λ (k : Config). k.callers) c.in_ok-stm.ensures.stm.0 in
    let some : 0 < length ds = let least = stm.ranges.callers.0 in omega arith in
    ready-set stm 0 0 ds _ e (opened-ready stm 0 ds c.in_ok-stm.ensures.descs.0) through some

pub returns-clause-new : goal.returns-clause-new
returns-clause-new g c =
    let stm = c.in_ok-stm.stm in
    let ds = c.in_ok-stm.descs.items in
    let all = opened-new stm 0 ds c.in_ok-stm.ensures.descs.0 in
    let count = c.in_ok-stm.ensures.descs.1 in
    let asked = ap (λ (k : Config). k.callers) c.in_ok-stm.ensures.stm.0 in
    let some : 0 < length ds = let least = stm.ranges.callers.0 in omega arith in
    let alg = c.args.alg in
    let lent = c.index_mut.ensures.value in
    let first = all 0 c.index_mut.result.now some in
    let made : (known c.index_mut.result.now).made ≡ [] = ap (λ (h : Handle g.row.K.Denot). (known h).made) lent ∙ first.0 in
    let none : (known c.index_mut.result.now).installs ≡ [] = ap (λ (h : Handle g.row.K.Denot). (known h).installs) lent ∙ first.1 in
    new-set alg ds c.switch_to.new.desc all (c.switch_to.ensures.made ∙ made) (c.switch_to.ensures.installs ∙ ap (λ (xs : List Alg). xs ++ alg ∷ []) none)
