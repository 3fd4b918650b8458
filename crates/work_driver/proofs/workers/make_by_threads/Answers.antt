use Rattle.std.proofs.Common.{rules, ◌≡◌, ◌+◌, [], length, map, slice_index_or, get_or, IfOk, Ok, sym, ap, ◌∙◌, arith, subst}
use Rattle.std.proofs.Math.ListN.{get_or-map}
use Rattle.std.proofs.lemmas.List.{length-map}
use Rattle.std.proofs.lemmas.Result.{IfOk-weaker}
use Rattle.stm_answers.specs.CallerState.{caller_of}
use Rattle.work_driver.specs.AllWorkers.{AreMadeOf, IsMadeOf, workers_in}
use Rattle.work_driver.proofs.WorkersLaws.{made-of}
use Rattle.work_driver.proofs.workers.make_by_threads.Goals as goal

pub returns : goal.returns
returns g c =
    let common = c.args.common.now in
    let descs = c.args.descs.items in
    let tried = c.in_ok-tried.tried.items in
    IfOk-weaker c.seat_all.result (λ rs. map Ok (workers_in rs.items) ≡ tried) (λ rs. AreMadeOf common descs (workers_in rs.items)) (λ rs seated.
    let ws = workers_in rs.items in
    let many : length ws ≡ length descs = sym (length-map ws Ok) ∙ (ap length seated ∙ (sym c.in_ok-tried.tried.ok.0 ∙ (c.in_ok-tried.ensures.len ∙ c.args.descs.ok.0))) in
    made-of (λ k. slice_index_or common.parts.now k []) common.regions.now common.alg common.policy 0 descs ws many (λ k d w lt.
    let at = (c.in_ok-tried.ensures.each k (Ok w) lt).1 in
    let job = at.job in
    let is : slice_index_or descs k d ≡ job = at.job_is d in
    let made : slice_index_or tried k (Ok w) ≡ Ok (get_or ws k w) = ap (λ l. slice_index_or l k (Ok w)) (sym seated) ∙ get_or-map Ok ws k w in
    let met = at.call.met in
    let tells : IfOk (slice_index_or tried k (Ok w)) (IsMadeOf common (caller_of job.who.role) job) = search rules in
    let starts : IsMadeOf common (caller_of job.who.role) job (get_or ws k w) = subst (λ r. IfOk r (IsMadeOf common (caller_of job.who.role) job)) made tells in
    let own : caller_of job.who.role ≡ 0 + k = ap (λ h. caller_of h.who.role) (sym is) ∙ (c.requires.numbered k d lt ∙ (omega arith)) in
    subst (λ h. IsMadeOf common (0 + k) h (get_or ws k w)) (sym is) (subst (λ m. IsMadeOf common m job (get_or ws k w)) own starts))) c.seat_all.ensures
