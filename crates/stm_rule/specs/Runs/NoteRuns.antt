-- Runs in which callers also split and join seats between their steps: they tell notes, learn them,
-- and come together at the closing.
use Rattle.std.specs.Prelude.{ℕ, zero, suc, ◌≡◌, ◌<◌, List, [], ◌∷◌, take, length}
use Rattle.stm_model.specs.declared.config.Config.{Config}
use Rattle.rule_base.specs.declared.views.Phase.TheVariants.{Idle}
use Rattle.rule_base.specs.declared.views.SeenHistory.{SeenHistory}
use Rattle.rule_base.specs.Notes.{after_seat_load, noted_history, learned_view}
use Rattle.rule_base.specs.Seating.{IsSeen}
use Rattle.rule_base.specs.StepKinds.{world_after}
use Rattle.rule_base.specs.World.{World, put}
use Rattle.stm_rule.specs.Runs.CoreRuns.{CoreStep, core_kind, CoreMay}
use Rattle.stm_rule.specs.Product.{Invariant}

-- a world, and the notes that were told and not yet learnt, the latest first
pub record Shared : Type 0 where
  pub world : World
  pub notes : List SeenHistory

-- what a caller does: a step, a split of its seat into a note, a join with one, or one with another caller's seat
pub data Deed : Type 0 where
  steps : (step : CoreStep) → Deed
  tells : Deed
  learns : (note : ℕ) → Deed
  gathers : Deed

abbrev pub note_at : List SeenHistory → ℕ → SeenHistory
note_at [] i = record { made = []; seen = []; front = 0; told = record { seen = []; front = 0 }; whole = record { seen = []; front = 0 } }
note_at (k ∷ ks) zero = k
note_at (k ∷ ks) (suc i) = note_at ks i

abbrev pub notes_without : List SeenHistory → ℕ → List SeenHistory
notes_without [] i = []
notes_without (k ∷ ks) zero = ks
notes_without (k ∷ ks) (suc i) = k ∷ notes_without ks i

abbrev pub after_load : ℕ → World → World
after_load n w = record w { views = put w.views n (after_seat_load (w.views n)) }

-- a split and a join leave the words alone, and the load that each makes is in the caller's step trace; learning spends
-- the note
abbrev pub after_deed : ℕ → Deed → Shared → Shared
after_deed n (steps step) x = record x { world = world_after (core_kind n step) n x.world }
after_deed n tells x = record { world = after_load n x.world; notes = noted_history (x.world.views n).history ∷ x.notes }
after_deed n (learns i) x = record {
  world = record x.world { views = put x.world.views n (learned_view (x.world.views n) (note_at x.notes i)) };
  notes = notes_without x.notes i;
}
after_deed n gathers x = record x { world = after_load n x.world }

abbrev pub AllSeen : World → List SeenHistory → Type 0
AllSeen w [] = Unit {0}
AllSeen w (k ∷ ks) = IsSeen w k × AllSeen w ks

module _ (good : (ℕ → ℕ) → Type 0) (c : Config) where
  -- the world meets the rule, and each note tells a prefix of its history
  pub record SharedRule (x : Shared) : Type 0 where
    pub rule : Invariant good c x.world
    pub seen : AllSeen x.world x.notes

  -- who tells or learns is idle; a seat may be joined to another at any time
  abbrev pub MayDo : ℕ → Deed → Shared → Type 0
  MayDo n (steps step) x = CoreMay good c n step (x.world.views n)
  MayDo n tells x = (x.world.views n).gate.phase ≡ Idle
  MayDo n (learns i) x = (i < length x.notes) × ((x.world.views n).gate.phase ≡ Idle)
  MayDo n gathers x = Unit {0}

  abbrev pub after_deeds : List (ℕ × Deed) → Shared → Shared
  after_deeds [] x = x
  after_deeds (d ∷ ds) x = after_deeds ds (after_deed d.0 d.1 x)

  abbrev pub AllMay : List (ℕ × Deed) → Shared → Type 0
  AllMay [] x = Unit {0}
  AllMay (d ∷ ds) x = MayDo d.0 d.1 x × AllMay ds (after_deed d.0 d.1 x)

  -- THE STEP LAW: whatever any callers do, each deed allowed where it comes, the rule holds after each:
  -- after the first k, for every k
  abbrev pub CoreKeepsAlong : Type 0
  CoreKeepsAlong = (deeds : List (ℕ × Deed)) (x : Shared) → SharedRule x → AllMay deeds x → (k : ℕ) → SharedRule (after_deeds (take k deeds) x)
