-- Every list of deeds keeps the rule, and each note stays a prefix of the history.
use Rattle.std.proofs.Common.{ℕ, zero, suc, ◌<◌, List, [], ◌∷◌, length, arith}
use Rattle.stm_model.specs.declared.config.Config.{Config}
use Rattle.rule_base.specs.declared.views.SeenHistory.{SeenHistory}
use Rattle.rule_base.specs.declared.views.View.{View}
use Rattle.rule_base.specs.Fence.{without_fence}
use Rattle.stm_rule.specs.Kinds.Lifting.{learns-whole, loads_seat-whole}
use Rattle.rule_base.proofs.Lemmas.SeatLemmas.{seen-later}
use Rattle.rule_base.specs.Seating.{IsSeen}
use Rattle.rule_base.specs.StepKinds.{Advances, world_after}
use Rattle.rule_base.specs.World.{World}
use Rattle.stm_rule.specs.Runs.CoreRuns.{core_kind}
use Rattle.stm_rule.specs.Kinds.Laws as laws
use Rattle.stm_rule.specs.Runs.NoteRuns.{Shared, Deed, note_at, notes_without, after_load, after_deed, AllSeen, SharedRule, MayDo, CoreKeepsAlong}
use Rattle.stm_rule.specs.Runs.NoteRuns.Deed.{steps, tells, learns, gathers}
use Rattle.stm_rule.proofs.CoreLaws.{one_step}

all_later : (w x : World) (ks : List SeenHistory) → Advances w x → AllSeen w ks → AllSeen x ks
all_later w x [] a s = tt
all_later w x (k ∷ ks) a s = (seen-later w x k a s.0, all_later w x ks a s.1)

-- no note sees the views
all_put : (w : World) (vs : ℕ → View) (ks : List SeenHistory) → AllSeen w ks → AllSeen (record w { views = vs }) ks
all_put w vs [] s = tt
all_put w vs (k ∷ ks) s = (record { front = s.0.front; within = s.0.within; seen = s.0.seen }, all_put w vs ks s.1)

seen_at : (w : World) (ks : List SeenHistory) (i : ℕ) → i < length ks → AllSeen w ks → IsSeen w (note_at ks i)
seen_at w [] i l s = absurd (omega arith)
seen_at w (k ∷ ks) zero l s = s.0
seen_at w (k ∷ ks) (suc i) l s = seen_at w ks i (omega arith) s.1

all_without : (w : World) (ks : List SeenHistory) (i : ℕ) → AllSeen w ks → AllSeen w (notes_without ks i)
all_without w [] i s = s
all_without w (k ∷ ks) zero s = s.1
all_without w (k ∷ ks) (suc i) s = (s.0, all_without w ks i s.1)

module _ (good : (ℕ → ℕ) → Type 0) (c : Config) where
  pub one_deed : (n : ℕ) (d : Deed) (x : Shared) → SharedRule good c x → MayDo good c n d x → SharedRule good c (after_deed n d x)
  one_deed n (steps step) x r may =
      let o = one_step good c n step x.world r.rule may in
      record { rule = o.0; seen = all_later x.world (world_after (core_kind n step) n x.world) x.notes o.1 r.seen }
  one_deed n tells x r may =
      let s = laws.tells good c n (without_fence x.world) r.rule.core may in
      record {
        rule = loads_seat-whole good c n x.world r.rule;
        seen = (record { front = s.front; within = s.within; seen = s.seen }, all_put x.world (after_load n x.world).views x.notes r.seen);
      }
  one_deed n (learns i) x r may = record {
    rule = learns-whole good c n x.world (note_at x.notes i) r.rule (seen_at x.world x.notes i may.0 r.seen) may.1;
    seen = all_put x.world (after_deed n (learns i) x).world.views (notes_without x.notes i) (all_without x.world x.notes i r.seen);
  }
  one_deed n gathers x r may = record { rule = loads_seat-whole good c n x.world r.rule; seen = all_put x.world (after_load n x.world).views x.notes r.seen }

  pub core_keeps_along_lem : CoreKeepsAlong good c
  core_keeps_along_lem [] x r a zero = r
  core_keeps_along_lem [] x r a (suc k) = r
  core_keeps_along_lem (d ∷ ds) x r a zero = r
  core_keeps_along_lem (d ∷ ds) x r a (suc k) = core_keeps_along_lem ds (after_deed d.0 d.1 x) (one_deed d.0 d.1 x r a.0) a.1 k
