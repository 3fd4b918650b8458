-- What RingSW needs to go on after a promoted attempt: until the attempt's entry the slots have their filters and DONE
-- is the clock, and at no time has another caller seen more than DONE. Without `slots` a check could later pass an
-- entry that wrote what was read. Without `fresh` another could begin before what it has seen.
use Rattle.std.proofs.Common.{◌≡◌, ◌≢◌, ℕ, ◌+◌, ◌<◌, ◌≤◌, true, false, refl, sym, ◌∙◌}
use Rattle.rule_base.specs.declared.layout.TheConstants.{SLOT_WORDS}
use Rattle.rule_base.specs.Lemmas.PutLemmas.{put-all}
use Rattle.rule_base.specs.RunProjection.{RunView, RunProjection}
use Rattle.rule_base.specs.World.{put}
use Rattle.rule_ring.specs.SlotFilter.{slot_filter}
use Rattle.rule_ring.specs.Slots.{slot_place, writes_of, has_entry}

pub record RingKeeps (ring n : ℕ) (s : RunProjection) : Type 0 where
  pub base : s.base ≤ s.clock
  pub done : s.done ≤ s.clock
  -- the others have seen no more than what is done
  pub fresh : (m : ℕ) → m ≢ n → (s.views m).front ≤ s.done
  -- until its entry DONE is the clock, and the slots stand as they were
  pub level : (s.views n).attempt.entered ≡ false → s.done ≡ s.clock
  pub slots : (s.views n).attempt.entered ≡ false → (e i : ℕ) → s.base < e → s.clock + 1 < e + ring → has_entry s.history e ≡ true
      → i < SLOT_WORDS → s.slots (slot_place ring e i) ≡ slot_filter.word (writes_of s.history e) i

-- a step of caller m that leaves these words and its own entry's mark alone, and by which it sees no more than is done
pub keeps-put : (ring n m : ℕ) (s : RunProjection) (heap : ℕ → ℕ) (u : RunView) → u.attempt.entered ≡ (s.views m).attempt.entered
    → (m ≢ n → u.front ≤ s.done) → RingKeeps ring n s → RingKeeps ring n (record s { heap = heap; views = put s.views m u })
keeps-put ring n m s heap u same front k = record {
  base = k.base;
  done = k.done;
  fresh = put-all s.views m u (λ j v. j ≢ n → v.front ≤ s.done) front (λ j d. k.fresh j);
  level = λ e. k.level (sym own ∙ e);
  slots = λ e. k.slots (sym own ∙ e);
}
  where
    own : (put s.views m u n).attempt.entered ≡ (s.views n).attempt.entered
    own = put-all s.views m u (λ j v. v.attempt.entered ≡ (s.views j).attempt.entered) same (λ j d. refl) n
