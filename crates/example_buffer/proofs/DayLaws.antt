-- What a look is told, what a filling leaves, and where a look stands in the day's history.
use Rattle.std.proofs.Common.{ℕ, ◌≡◌, ◌≤◌, List, [], ◌∷◌, Option, Some, None, IfSome, length, refl, sym, ap, ◌∙◌, arith, subst}
use Rattle.std.specs.Prelude.{slice_index}
use Rattle.nekchhaul.specs.Config.{Config}
use Rattle.nekchhaul.specs.Histories.{Entry, memory_at}
use Rattle.nekchhaul.specs.Logs.{Log, Reads, Keeps, IsExplained}
use Rattle.nekchhaul.specs.Memories.{overlay, Explains}
use Rattle.nekchhaul.specs.Handles.{BeginsHistory}
use Rattle.nekchhaul.specs.CallerState.{CallerState, no_log}
use Rattle.nekchhaul.specs.Attempts.{TookEffect}
use Rattle.nekchhaul.specs.Extends.{Extends}
use Rattle.nekchhaul.specs.Moments.{Happened}
use Rattle.nekchhaul.specs.MomentLaws.{happened}
use Rattle.example_buffer.specs.declared.buffer.Sight.{Sight}
use Rattle.example_buffer.specs.declared.day.TheConstants.{CONFIG}
use Rattle.example_buffer.specs.Fillings.{IsFilling, Saw, SeenWhole, filling, writes_of}

-- two reads of a fresh attempt
pub looked : (l k j : Log) (x y : ℕ) → l ≡ no_log → Reads l 0 x k → Reads k 3 y j → (j.reads ≡ (0, x) ∷ (3, y) ∷ []) × (j.writes ≡ [])
looked l k j x y fresh one two =
    let first : Reads no_log 0 x k = subst (λ (q : Log). Reads q 0 x k) fresh one in
    let by_writes : Reads (record { reads = k.reads; writes = [] }) 3 y j = subst (λ (ws : List (ℕ × ℕ)). Reads (record { reads = k.reads; writes = ws }) 3 y j) first.0 two in
    let by_reads : Reads (record { reads = (0, x) ∷ []; writes = [] }) 3 y j = subst (λ (rs : List (ℕ × ℕ)). Reads (record { reads = rs; writes = [] }) 3 y j) first.1 by_writes in
    (by_reads.1, by_reads.0)

pub saw : (good : List ℕ → Type 0) (words : ℕ) (j : Log) (sight : Sight) → ((m : List ℕ) → good m → IsFilling m) → IsExplained good words j → j.reads ≡ (0, sight.first) ∷ (3, sight.last) ∷ [] → Saw sight j
saw good words j sight fine some is =
    let ends : (m : List ℕ) → Explains m j.reads → (slice_index m 0 ≡ sight.first) × (slice_index m 3 ≡ sight.last) = λ m ex.
    (let e : Explains m ((0, sight.first) ∷ (3, sight.last) ∷ []) = subst (λ (rs : List (ℕ × ℕ)). Explains m rs) is ex in (e.0, e.1.0)) in
    let whole = fine some.0 some.1 in
    let here = ends some.0 some.3 in
    (sym here.0 ∙ (sym (ap (λ (m : List ℕ). slice_index m 3) whole.0) ∙ here.1), ends)

-- who writes nothing keeps the rule
pub looks-keep : (good : List ℕ → Type 0) (words : ℕ) (j : Log) → j.writes ≡ [] → Keeps good words j
looks-keep good words j none = λ m fine len ex small. subst (λ (ws : List (ℕ × ℕ)). good (overlay m ws)) (sym none) fine

-- a filling leaves nothing of the one before it
pub filled : (x : ℕ) (m : List ℕ) → length m ≡ 4 → overlay m (writes_of x) ≡ filling x
filled x (a ∷ b ∷ c ∷ d ∷ []) len = refl
filled x [] len = absurd cc
filled x (a ∷ []) len = absurd (omega (arith, len))
filled x (a ∷ b ∷ []) len = absurd (omega (arith, len))
filled x (a ∷ b ∷ c ∷ []) len = absurd (omega (arith, len))
filled x (a ∷ b ∷ c ∷ d ∷ e ∷ m) len = absurd (omega (arith, len))

pub filling-good : (x : ℕ) (m : List ℕ) → x ≤ 2 → m ≡ filling x → IsFilling m
filling-good x m few is = subst IsFilling (sym is) (refl, few)

seen-whole : (when : ℕ → Type 0) (u w : CallerState) (history : List Entry) (sight : Sight)
    → ((at : ℕ) → u.front ≤ at → at ≤ w.front → when at) → Happened IsFilling CONFIG (Saw sight) u w history → SeenWhole when history sight
seen-whole when u w history sight due h =
    let m : List ℕ = memory_at h.at history (filling 0) in
    let ends = h.told.1 m h.read in
    record {
      at = h.at;
      due = due h.at h.later h.sooner;
      whole = h.kept.0 ∙ ap filling ends.0;
      same = h.told.0;
    }

-- a look that took effect has its moment
pub seen : (when : ℕ → Type 0) (config : Config) (n : ℕ) (o : Option Sight) (u w k : CallerState) (history : List Entry) → config ≡ CONFIG → ((at : ℕ) → u.front ≤ at → at ≤ w.front → when at)
    → IfSome o (λ sight. TookEffect IsFilling config n (Saw sight) u.front u w) → Extends w k → BeginsHistory k.seen k.front history → IfSome o (SeenWhole when history)
seen when config n None u w k history of due took grows begun = tt
seen when config n (Some sight) u w k history of due took grows begun =
    let there = subst (λ (c : Config). TookEffect IsFilling c n (Saw sight) u.front u w) of took in
    seen-whole when u w history sight due (happened IsFilling CONFIG n (Saw sight) u w history k there grows begun)
