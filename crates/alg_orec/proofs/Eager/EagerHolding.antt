-- Who holds no record has written nothing.
use Rattle.std.proofs.Common.{ℕ, ◌≡◌, List, [], length, true, false, refl, sym, ◌∙◌, arith, subst}
use Rattle.std.specs.Prelude.{Option, Some, None}
use Rattle.stm_model.specs.declared.config.Config.{Config}
use Rattle.stm_model.specs.Memories.{item_at}
use Rattle.rule_base.specs.declared.entries.Cell.{Cell}
use Rattle.rule_base.specs.declared.views.View.{View}
use Rattle.rule_base.specs.History.{touches}
use Rattle.rule_base.specs.Ranks.{home_of}
use Rattle.stm_gate.proofs.Peeling.{no-items}
use Rattle.stm_rule.specs.declared.local.Local.{Local}
use Rattle.stm_rule.specs.EagerKept.{IsEager}
use Rattle.alg_orec.proofs.Eager.EagerProving.{length-none}
use Rattle.alg_orec.proofs.LockingLaws.{held-of}

module _ (c : Config) (l : Local) (v : View) (k : IsEager c l v) (none : length l.locks.items ≡ 0) where
  disowned : v.owned.held ≡ []
  disowned = no-items v.owned.held (sym k.locks ∙ length-none l.locks.items (let n = none in omega arith))

  pub unwritten : (a : ℕ) → item_at a l.writes.items ≡ None
  unwritten a = by (item_at a l.writes.items) refl
    where
      by : (m : Option ℕ) → item_at a l.writes.items ≡ m → m ≡ None
      by None e = refl
      by (Some x) e = absurd (let held = k.covered a (k.undoable a (held-of v.owned.in_place l.writes.items a x k.writes e)) in
          let f : false ≡ true = subst (λ (cs : List Cell). touches cs (home_of c a) ≡ true) disowned held in cc)
