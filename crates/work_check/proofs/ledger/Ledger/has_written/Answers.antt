use Rattle.std.proofs.Common.{sym, ap, ◌∙◌}
use Rattle.std.specs.Prelude.{not, ◌==◌}
use Rattle.stm_model.specs.Memories.{is_empty}
use Rattle.stm_model.specs.Plains.{own_writes}
use Rattle.stm_model.proofs.Settling.{any_own-writes}
use Rattle.work_check.proofs.LedgerLaws.{any-owned}
use Rattle.work_check.proofs.ledger.Ledger.has_written.Goals as goal

pub returns : goal.returns
returns c =
    let ws = c.self.inside.words.items in
    let long = c.self.inside.touched.ok.0 ∙ c.self.invariant.0.count in
    ap not (c.is_empty.ensures ∙ ap (λ n. n == 0) long) ∙ (sym (any-owned ws) ∙ (any_own-writes 0 ws ∙ ap (λ l. not (is_empty (own_writes l))) c.self.view_is))
