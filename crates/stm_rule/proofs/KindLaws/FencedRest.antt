-- Who is at rest without the fence is at rest.
use Rattle.std.proofs.Common.{ℕ, ◌+◌, sym, ap, ◌∙◌, le_refl}
use Rattle.stm_model.specs.declared.config.Config.{Config}
use Rattle.rule_base.specs.Encodings.{fence_of}
use Rattle.rule_base.specs.Fence.{without_fence}
use Rattle.rule_base.specs.FenceLaws.{heap_without_fence-out}
use Rattle.rule_base.specs.History.{over}
use Rattle.rule_base.specs.Lemmas.HistoryLemmas.{word_at-all}
use Rattle.rule_base.specs.Rest.{BareRest, BareAtRest, Rest, AtRest}
use Rattle.rule_base.specs.World.{World}
use Rattle.stm_rule.specs.Product.{Invariant}

module _ (good : (ℕ → ℕ) → Type 0) (c : Config) (n : ℕ) (w : World) (g : Invariant good c w) where
  pub rest-of : BareRest n (without_fence w) → Rest n w
  rest-of r = record {
    gate = r.gate;
    others = r.others;
    heap = λ a out. sym (heap_without_fence-out (fence_of w.gate) w.heap w.history a out) ∙ r.heap a;
    fenced = λ m a has inside. (g.fence.holder m has).stored a inside ∙ ap (over (w.views m).fence.stores a) (sym (word_at-all w.history (w.clock + 1) w.clock a g.core.history.below (le_refl (w.clock + 1))));
    lock = r.lock;
    records = r.records;
    even = r.even;
    done = r.done;
  }

  pub at-rest-of : BareAtRest n (without_fence w) → AtRest n w
  at-rest-of r = record { rest = rest-of r.rest; outside = r.outside }
