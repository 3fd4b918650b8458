-- THE LIFT: a law of a kind of step without a fence is one with it, where the step leaves the fenced range alone.
use Rattle.std.proofs.Common.{◌≡◌, ℕ, List, ◌∷◌, true, false, refl, sym, subst, ap, ◌∙◌, le_refl}
use Rattle.stm_model.specs.declared.config.Config.{Config}
use Rattle.rule_base.specs.declared.entries.Cell.{Cell}
use Rattle.rule_base.specs.declared.entries.Entry.{Entry}
use Rattle.rule_base.specs.declared.views.Phase.TheVariants.{Idle, In}
use Rattle.rule_base.specs.declared.views.View.{View}
use Rattle.rule_base.specs.Encodings.{fence_of, fenced}
use Rattle.rule_base.specs.Fence.{heap_without_fence, without_fence, owes}
use Rattle.rule_base.specs.FenceLaws.{heap_without_fence-out, heap_without_fence-put, heap_without_fence-entry, fence-stays}
use Rattle.rule_base.specs.History.{touches, word_now}
use Rattle.rule_base.specs.Lemmas.PutLemmas.{put-else}
use Rattle.rule_base.specs.StepKinds.{StepKind, Advances, answer, view_after, world_after, StepLaw}
use Rattle.rule_base.specs.World.{World, put}
use Rattle.rule_base.specs.declared.views.SeenHistory.{SeenHistory}
use Rattle.rule_base.specs.Notes.{after_seat_load, learned_view}
use Rattle.rule_base.specs.Seating.{IsSeen}
use Rattle.stm_rule.specs.Kinds.Laws as laws
use Rattle.stm_rule.specs.Product.{Core, Invariant}

-- the address is outside the range that the caller's gate had
abbrev pub IsSpared : ℕ → View → Type 0
IsSpared a v = fenced v.gate.fence a ≡ false

abbrev pub AreSpared : List Cell → View → Type 0
AreSpared cs v = (a : ℕ) → touches cs a ≡ true → fenced v.gate.fence a ≡ false

pub record Spares (kind : StepKind) (n : ℕ) (w : World) : Type 0 where
  -- the step is the same without the fence
  pub world : world_after kind n (without_fence w) ≡ without_fence (world_after kind n w)
  -- it leaves the fence, what lies in the range, and what its caller knows of it
  pub fence : fence_of (world_after kind n w).gate ≡ fence_of w.gate
  pub heap : (a : ℕ) → fenced (fence_of w.gate) a ≡ true → (world_after kind n w).heap a ≡ w.heap a
  pub word : (a : ℕ) → fenced (fence_of w.gate) a ≡ true → word_now (world_after kind n w).history a ≡ word_now w.history a
  pub own : (view_after kind w (w.views n) (answer kind w)).fence ≡ (w.views n).fence
  -- and owes nothing there
  pub apart : (a : ℕ) → (view_after kind w (w.views n) (answer kind w)).gate.phase ≡ In → owes (view_after kind w (w.views n) (answer kind w)) a ≡ true → fenced (fence_of w.gate) a ≡ false

-- THE LIFT of a law: shows is said of the world without the fence, tells of the world
pub lift : (good : (ℕ → ℕ) → Type 0) (c : Config) (kind : StepKind) (shows tells : World → View → ℕ → Type 0) (n : ℕ) (May : View → Type 0)
    → ((w : World) → Invariant good c w → May (w.views n) → Spares kind n w)
    → ((w : World) → Invariant good c w → May (w.views n) → shows (without_fence w) (w.views n) (answer kind (without_fence w)) → tells w (w.views n) (answer kind w))
    → StepLaw (Core good c) kind shows n May → StepLaw (Invariant good c) kind tells n May
lift good c kind shows tells n May spares shown law w g may =
    let o = law (without_fence w) g.core may in
    let s = spares w g may in
    let a : Advances (without_fence w) (without_fence (world_after kind n w)) = subst (Advances (without_fence w)) s.world o.advances in record {
      rule = record {
        core = subst (Core good c) s.world o.rule;
        fence = fence-stays c w (world_after kind n w) n (view_after kind w (w.views n) (answer kind w)) refl s.fence a.clock s.heap s.word a.seen s.own s.apart g.fence;
      };
      advances = record { clock = a.clock; horizon = a.horizon; seen = a.seen };
      shown = shown w g may o.shown;
    }

-- a load of the heap outside the range finds the same without the fence
pub spared-load : (w : World) (n a : ℕ) (after : ℕ → View) → fenced (fence_of w.gate) a ≡ false
    → record (without_fence w) { views = put w.views n (after (heap_without_fence (fence_of w.gate) w.heap w.history a)) }
    ≡ record (without_fence w) { views = put w.views n (after (w.heap a)) }
spared-load w n a after out = ap (λ x. record (without_fence w) { views = put w.views n (after x) }) (heap_without_fence-out (fence_of w.gate) w.heap w.history a out)

-- a store there is one without it
pub spared-store : (w : World) (n a x : ℕ) (v : View) → fenced (fence_of w.gate) a ≡ false
    → record (without_fence w) { heap = put (heap_without_fence (fence_of w.gate) w.heap w.history) a x; views = put w.views n v }
    ≡ without_fence (record w { heap = put w.heap a x; views = put w.views n v })
spared-store w n a x v out = ap (λ (f : ℕ → ℕ). record (without_fence w) { heap = f; views = put w.views n v }) (heap_without_fence-put (fence_of w.gate) w.heap w.history a x out)

pub spared-heap : (fence a x : ℕ) (heap : ℕ → ℕ) → fenced fence a ≡ false → (b : ℕ) → fenced fence b ≡ true → put heap a x b ≡ heap b
spared-heap fence a x heap out b inside = put-else heap a b x (λ same. let f : true ≡ false = sym inside ∙ (ap (fenced fence) same ∙ out) in cc)

-- a gate's word with the same fence
pub spared-gate : (w : World) (n gate : ℕ) (v : View) → fence_of gate ≡ fence_of w.gate
    → record (without_fence w) { gate = gate; views = put w.views n v } ≡ without_fence (record w { gate = gate; views = put w.views n v })
spared-gate w n gate v same = ap (λ k. record w { gate = gate; heap = heap_without_fence k w.heap w.history; views = put w.views n v }) (sym same)

-- an entry that writes nothing there
pub spared-entry : (w : World) (n clock : ℕ) (e : Entry) (v : View)
    → ((a : ℕ) → touches e.writes a ≡ true → fenced (fence_of w.gate) a ≡ false)
    → record (without_fence w) { clock = clock; history = e ∷ w.history; views = put w.views n v }
    ≡ without_fence (record w { clock = clock; history = e ∷ w.history; views = put w.views n v })
spared-entry w n clock e v apart = ap (λ (f : ℕ → ℕ). record w { clock = clock; heap = f; history = e ∷ w.history; views = put w.views n v }) (heap_without_fence-entry (fence_of w.gate) w.heap w.history e apart)

-- the load of a split or a join leaves the range alone
pub loads_seat-whole : (good : (ℕ → ℕ) → Type 0) (c : Config) (n : ℕ) (w : World) → Invariant good c w → Invariant good c (record w { views = put w.views n (after_seat_load (w.views n)) })
loads_seat-whole good c n w g = record {
  core = laws.loads_seat good c n (without_fence w) g.core;
  fence =
      fence-stays c w (record w { views = put w.views n (after_seat_load (w.views n)) }) n (after_seat_load (w.views n)) refl refl
      (le_refl w.clock) (λ a e. refl) (λ a e. refl) (λ f l. refl) refl (λ a p o. g.fence.apart n a p o) g.fence;
}

-- and so does learning a note
pub learns-whole : (good : (ℕ → ℕ) → Type 0) (c : Config) (n : ℕ) (w : World) (k : SeenHistory) → Invariant good c w → IsSeen w k
    → (w.views n).gate.phase ≡ Idle → Invariant good c (record w { views = put w.views n (learned_view (w.views n) k) })
learns-whole good c n w k g seen idle = record {
  core = laws.learns good c n (without_fence w) k g.core (record { front = seen.front; within = seen.within; seen = seen.seen }) idle;
  fence =
      fence-stays c w (record w { views = put w.views n (learned_view (w.views n) k) }) n (learned_view (w.views n) k) refl refl
      (le_refl w.clock) (λ a e. refl) (λ a e. refl) (λ f l. refl) refl (λ a p o. g.fence.apart n a p o) g.fence;
}
