use Rattle.std.proofs.Common.{sym, ap, ◌∙◌}
use Rattle.stm_model.specs.Memories.{item_at}
use Rattle.stm_logs.specs.LogStates.{LogState}
use Rattle.stm_logs.proofs.ShortLemmas.{unseen}
use Rattle.stm_logs.proofs.short_log.ShortLog.push.Goals as goal

pub push_new-requires : goal.push_new-requires
push_new-requires c =
    let xs = c.self.inside.items.items in
    let none = unseen c.self.inside.seen c.args.a xs c.self.invariant.0.front (rw c.bit_of.ensures at c.if-seen-ne0.false) in
    ap (λ (l : LogState). item_at c.args.a l.items) (sym c.self.view_is) ∙ none
