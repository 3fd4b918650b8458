use Rattle.std.proofs.Common.{◌≡◌, ◌++◌, ◌∷◌, [], length, sym, ap, ◌∙◌, arith, append_assoc}
use Rattle.std.specs.Vec.Iter.{into_iter_items}
use Rattle.work_driver.specs.declared.workers.Runner.{Runner}
use Rattle.work_driver.specs.AllWorkers.{worker_in, workers_in, descs_of, rows_of}
use Rattle.work_driver.specs.Gatherings.{joined}
use Rattle.work_driver.proofs.GatherLaws.{joined-more}
use Rattle.work_driver.proofs.workers.part_from_rows.Goals as goal

pub loop-runner-preserved : goal.loop-runner-preserved
loop-runner-preserved g c =
    let at = c.loop-runner in
    let x = c.in-Some.runner in
    let rest = into_iter_items c.next.new.self in
    let more = c.push_reserved-in-loop-runner in
    let steps : into_iter_items at.runner-iterator ≡ x ∷ rest = c.in-Some.ensures.steps.0 in
    let desc = ap (λ (r : Runner g.row.K.Denot). r.worker.desc) c.into_inner-worker.ensures in
    let own = c.new.ensures ∙ ap (λ (r : Runner g.row.K.Denot). r.worker.rows.items) c.into_inner-worker.ensures in
    let lists : joined more.new.self.items ≡ joined at.lists.items ++ (worker_in x).rows.items =
    ap joined more.ensures.items ∙ (joined-more at.lists.items c.new.result ∙ ap (λ l. joined at.lists.items ++ l) own) in
    let short = ap length steps in
    record {
      descs = ap (λ ds. ds ++ descs_of (workers_in rest)) c.push_reserved.ensures.items
          ∙ (append_assoc at.descs.items (c.into_inner-worker.result.worker.desc ∷ []) (descs_of (workers_in rest))
          ∙ (ap (λ d. at.descs.items ++ d ∷ descs_of (workers_in rest)) desc ∙ (ap (λ rs. at.descs.items ++ descs_of (workers_in rs)) (sym steps) ∙ at.invariant.descs)));
      rows = ap (λ l. l ++ rows_of (workers_in rest)) lists
          ∙ (append_assoc (joined at.lists.items) (worker_in x).rows.items (rows_of (workers_in rest)) ∙ (ap (λ rs. joined at.lists.items ++ rows_of (workers_in rs)) (sym steps) ∙ at.invariant.rows));
      len = (let was = at.invariant.len in let gone = c.in-Some.ensures.steps.1 in omega arith);
      descs_room = (let was = at.invariant.descs_room in let len = c.push_reserved.ensures.len in let kept = c.push_reserved.ensures.capacity in omega arith);
      lists_room = (let was = at.invariant.lists_room in let len = more.ensures.len in let kept = more.ensures.capacity in omega arith);
    }
