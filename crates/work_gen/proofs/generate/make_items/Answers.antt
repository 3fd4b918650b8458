use Rattle.std.proofs.Common.{◌≡◌, ◌%◌, List, [], ◌∷◌, ◌++◌, ap, ◌∙◌}
use Rattle.work_script.specs.declared.op.Op.{Op}
use Rattle.work_script.specs.declared.workload.Item.{Item}
use Rattle.work_script.specs.declared.workload.Item.TheVariants.{Tx}
use Rattle.work_gen.specs.Generated.{items_for, operation, switch_after}
use Rattle.work_gen.proofs.DrawLaws.{items-on}
use Rattle.work_gen.proofs.generate.make_items.Goals as goal

pub loop-i-preserved : goal.loop-i-preserved
loop-i-preserved c =
    let op = c.operation-op.ensures c.args.seed c.loop-i.invariant.draws in
    let item : c.in_ok-transaction.field-0 ≡ Tx (c.loop-i.i % c.args.callers) (operation c.args.seed c.loop-i.i ∷ []) = c.in_ok-transaction.ensures ∙ ap (λ (o : Op). Tx (c.loop-i.i % c.args.callers) (o ∷ [])) op.0 in
    let before : c.loop-i.items.items ≡ items_for c.loop-i.i c.args.callers c.args.seed = c.loop-i.invariant.items in
    let pushed : c.push-in-loop-i.new.self.items ≡ items_for c.loop-i.i c.args.callers c.args.seed ++ Tx (c.loop-i.i % c.args.callers)
    (operation c.args.seed c.loop-i.i ∷ []) ∷ [] = c.in_ok-push-2.ensures.items ∙ (λ k. before k ++ item k ∷ []) in
    record {
      items = c.in_ok-put_switch.ensures.items ∙ (ap (λ (is : List Item). is ++ switch_after c.loop-i.i) pushed ∙ items-on c.loop-i.i c.args.callers c.args.seed);
      draws = op.1;
      alg = c.in_ok-put_switch.ensures.alg;
    }
