use Rattle.std.proofs.Common.{◌||◌, sym, ap, ◌∙◌}
use Rattle.work_script.specs.Scripts.{has_irrev}
use Rattle.work_text.proofs.OrderLaws.{irrev-snoc}
use Rattle.work_text.proofs.draft.Draft.take.Goals as goal

pub invariant_of-self-in-Add : goal.invariant_of-self-in-Add
invariant_of-self-in-Add c =
    let ops = c.self-in-Add.inside.ops.items in
    ap (λ b. b || c.is_irrev.result) c.self-in-Add.invariant
    ∙ (ap (λ b. has_irrev ops || b) c.is_irrev.ensures ∙ (sym (irrev-snoc ops c.in-Add.op) ∙ ap has_irrev (sym c.in_ok-push-in-Add.ensures.items)))
