-- The one range of words that a caller may take out of the transactions,
-- and the heap as all others see it (`without_fence`).
-- In the range lies the memory under its caller's stores, and that memory is the one at which the range was taken.
-- Without `mine` and `owner` two callers could have a range. Without `stored`, `still` and `sees` the entry of a
-- give-back needn't be legal. Without `apart` an attempt that aborts or writes back could store in the range.
use Rattle.std.specs.Prelude.{ℕ, ◌≡◌, ◌+◌, ◌<◌, ◌≤◌, ◌||◌, ◌&&◌, if◌then◌else◌, Bool, true, false, List}
use Rattle.rule_base.specs.declared.entries.Entry.{Entry}
use Rattle.stm_model.specs.declared.config.Config.{Config}
use Rattle.rule_base.specs.declared.views.FenceView.{FenceView}
use Rattle.rule_base.specs.declared.views.Phase.{Phase}
use Rattle.rule_base.specs.declared.views.Phase.TheVariants.{In}
use Rattle.rule_base.specs.declared.views.View.{View}
use Rattle.rule_base.specs.Encodings.{fence_of, fence_owner, fenced}
use Rattle.rule_base.specs.History.{over, touches, word_now, upto, Small, Explains}
use Rattle.rule_base.specs.World.{World, parts}

-- the heap, with the memory after the history in place of the fenced range
abbrev pub heap_without_fence : ℕ → (ℕ → ℕ) → List Entry → ℕ → ℕ
heap_without_fence fence heap history a = if fenced fence a then word_now history a else heap a

-- WITHOUT THE FENCE: the world as the clauses of what runs see it
abbrev pub without_fence : World → World
without_fence w = record w { heap = heap_without_fence (fence_of w.gate) w.heap w.history }

-- a is among the addresses at which an attempt stored, or has still to store:
-- each list counts while its flag says that it means something
abbrev pub stored : View → ℕ → Bool
stored v a = (v.lock.taken || (v.tml.writer || v.gate.granted)) && touches v.attempt.stores a

abbrev pub undoable : View → ℕ → Bool
undoable v a = v.lock.taken && touches v.lock.undo a

abbrev pub placed : View → ℕ → Bool
placed v a = v.owned.inside && (touches v.owned.in_place a || (touches v.owned.undo a || touches v.owned.back a))

abbrev pub unwritten : View → ℕ → Bool
unwritten v a = v.ring_commit.committed && touches v.ring_commit.back a

abbrev pub owes : View → ℕ → Bool
owes v a = stored v a || (undoable v a || (placed v a || unwritten v a))

-- what these clauses see of the world
pub record FenceProjection : Type 0 where
  pub clock : ℕ
  pub fence : ℕ
  pub heap : ℕ → ℕ
  pub history : List Entry
  pub views : ℕ → FenceView
  pub phases : ℕ → Phase
  pub owed : ℕ → ℕ → Bool

abbrev pub fence_projection : World → FenceProjection
fence_projection w = record { clock = w.clock; fence = fence_of w.gate; heap = w.heap; history = w.history; views = parts (λ (v : View). v.fence) w.views; phases = parts (λ (v : View). v.gate.phase) w.views; owed = parts owes w.views }

-- what a caller found in the history as it last took a range: a prefix that no later entry enters
pub record KnowsPast (s : FenceProjection) (v : FenceView) : Type 0 where
  pub seen : v.past.seen ≡ upto s.history v.past.front
  pub front : v.past.front ≤ s.clock

-- what stands of the caller whose fence it is
pub record FenceHolder (s : FenceProjection) (v : FenceView) : Type 0 where
  -- in the range lies the memory under its stores: its loads see them,
  -- and the give-back makes the heap the memory again
  pub stored : (a : ℕ) → fenced s.fence a ≡ true → s.heap a ≡ over v.stores a (word_now s.history a)
  -- the memory there is that at the fence still
  pub still : (a : ℕ) → fenced s.fence a ≡ true → word_now s.history a ≡ word_now v.past.seen a
  -- its reads are of that memory, so the entry of a give-back is legal
  pub sees : Explains (word_now s.history) v.reads
  pub reads_inside : (a : ℕ) → touches v.reads a ≡ true → fenced s.fence a ≡ true
  pub stores_inside : (a : ℕ) → touches v.stores a ≡ true → fenced s.fence a ≡ true
  pub stores_small : Small v.stores

pub record FenceRule (c : Config) (s : FenceProjection) : Type 0 where
  -- the gate names whose fence stands: no two have one, and where nobody has one there is none
  pub mine : (n : ℕ) → (s.views n).holds ≡ true → (fence_owner s.fence ≡ 1 + n) × (s.fence ≡ (s.views n).number)
  pub owner : (n : ℕ) → fence_owner s.fence ≡ 1 + n → (s.views n).holds ≡ true
  pub none : fence_owner s.fence ≡ 0 → s.fence ≡ 0
  -- a memory that takes no fences has none
  pub off : c.fence ≡ false → s.fence ≡ 0
  -- nobody but a caller has one
  pub few : (n : ℕ) → (s.views n).holds ≡ true → n < c.callers
  -- its range lies in the memory
  pub inside : (a : ℕ) → fenced s.fence a ≡ true → a < c.words
  pub holder : (n : ℕ) → (s.views n).holds ≡ true → FenceHolder s (s.views n)
  -- also of who gave its range back
  pub past : (n : ℕ) → KnowsPast s (s.views n)
  -- no attempt stored there, nor has to
  pub apart : (n a : ℕ) → s.phases n ≡ In → s.owed n a ≡ true → fenced s.fence a ≡ false
