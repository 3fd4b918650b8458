use Rattle.std.proofs.Common.{◌≡◌, ◌<◌, ◌+◌, ◌++◌, ◌∷◌, [], length, length-append, slice_index_or, sym, ap, ◌∙◌, arith, subst, append_assoc}
use Rattle.std.specs.Vec.Iter.{into_iter_items}
use Rattle.std.proofs.Math.Seq.{get_or-append_seam}
use Rattle.std.proofs.lemmas.List.{map-append}
use Rattle.stm_answers.specs.CallerState.{caller_of}
use Rattle.work_driver.specs.AllWorkers.{AreMadeOf, IsMadeOf, worker_in, workers_in}
use Rattle.work_driver.proofs.WorkersLaws.{made-more}
use Rattle.work_driver.proofs.workers.make_in_turn.Goals as goal

pub loop-desc-preserved : goal.loop-desc-preserved
loop-desc-preserved g c =
    let at = c.loop-desc in
    let x = c.in-Some.desc in
    let common = c.args.common.now in
    let rest = into_iter_items c.next.new.self in
    let n = length at.yielded in
    let steps : into_iter_items at.desc-iterator ≡ x ∷ rest = c.in-Some.ensures.steps.0 in
    let short = ap length steps in
    let all : at.yielded ++ x ∷ rest ≡ c.args.descs.items = ap (λ l. at.yielded ++ l) (sym steps) ∙ (at.invariant.all ∙ c.into_iter-desc-iterator.ensures.into_iter_gives.0) in
    let many = ap length (sym all) ∙ length-append at.yielded (x ∷ rest) in
    let lt : n < length c.args.descs.items = omega (arith, many) in
    let here : slice_index_or c.args.descs.items n x ≡ x = ap (λ l. slice_index_or l n x) (sym all) ∙ get_or-append_seam at.yielded x rest x in
    let own : caller_of x.who.role ≡ n = ap (λ d. caller_of d.who.role) (sym here) ∙ c.requires.numbered n x lt in
    let made : IsMadeOf common n x (worker_in c.new.result) = subst (λ k. IsMadeOf common k x (worker_in c.new.result)) own
    (subst (λ r. IsMadeOf common (caller_of x.who.role) x r.worker) (sym c.new.ensures) c.in_ok-worker.ensures) in
    let place : 0 + n ≡ n = omega arith in
    let pushed : workers_in c.push_reserved.new.self.items ≡ workers_in at.runners.items ++ worker_in c.new.result ∷ [] = ap workers_in
    c.push_reserved.ensures.items ∙ map-append worker_in at.runners.items (c.new.result ∷ []) in
    record {
      all = append_assoc at.yielded (x ∷ []) rest ∙ (ap (λ l. at.yielded ++ l) (sym steps) ∙ at.invariant.all);
      len = (let was = at.invariant.len in let gone = c.in-Some.ensures.steps.1 in omega arith);
      begun =
          subst (AreMadeOf common (at.yielded ++ x ∷ [])) (sym pushed) (made-more (λ k. slice_index_or common.parts.now k [])
          common.regions.now common.alg common.policy 0 at.yielded (workers_in at.runners.items) x (worker_in c.new.result)
          at.invariant.begun (subst (λ k. IsMadeOf common k x (worker_in c.new.result)) (sym place) made));
      room = (let was = at.invariant.room in let more = c.push_reserved.ensures.len in let kept = c.push_reserved.ensures.capacity in omega arith);
    }
