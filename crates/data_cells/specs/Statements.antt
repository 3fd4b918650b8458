-- What the law functions say.
use Rattle.std.specs.Prelude.{ℕ, ◌≡◌, ◌≢◌, ◌<◌, ◌≤◌, ◌+◌, ◌*◌, ◌%◌, ◌^◌, ◌⊎◌, List, length, replicate, slice_index}
use Rattle.data_cells.specs.declared.chains.Chains.{Chains}
use Rattle.data_cells.specs.declared.counter.Counter.{Counter}
use Rattle.data_effects.specs.Keys.{Ascends, without_key, less_one, keys_after}
use Rattle.data_cells.specs.Chains.{tag, head_of, keys, IsChains, inserted_in, removed_in}
use Rattle.data_cells.specs.ChainWalks.{walk, TagsAscend, Among}
use Rattle.data_cells.specs.Counters.{count, added_in}

abbrev pub AddsToSum : Type 0
AddsToSum = (c : Counter) (stripe k : ℕ) (m : List ℕ) → stripe < c.stripes → c.at + c.stripes ≤ length m → count c (added_in c stripe k m).memory ≡ (count c m + k) % 2 ^ 64

-- an add writes the stripe's word alone
abbrev pub AddsWithin : Type 0
AddsWithin = (c : Counter) (stripe k x : ℕ) (m : List ℕ) → x ≢ c.at + stripe → slice_index (added_in c stripe k m).memory x ≡ slice_index m x

abbrev pub KeysAscend : Type 0
KeysAscend = (r : Chains) (m : List ℕ) → IsChains r m → Ascends (keys r m)

-- the keys after an insert are those that its reply tells, and it keeps the chains well formed
abbrev pub InsertsKey : Type 0
InsertsKey = (r : Chains) (m : List ℕ) (key : ℕ) → IsChains r m → 0 < r.heads → r.at + r.heads + 2 * r.cells ≤ length m → key < 2 ^ 32
    → (keys r (inserted_in r key m).memory ≡ keys_after (inserted_in r key m).reply key (keys r m)) × IsChains r (inserted_in r key m).memory

abbrev pub RemovesKey : Type 0
RemovesKey = (r : Chains) (m : List ℕ) (key : ℕ) → IsChains r m → 0 < r.heads → r.at + r.heads + 2 * r.cells ≤ length m
    → (keys r (removed_in r key m).memory ≡ without_key key (keys r m)) × IsChains r (removed_in r key m).memory

-- each used cell is on the walk from its key's head, along which tags ascend
abbrev pub ReachesOnce : Type 0
ReachesOnce = (r : Chains) (m : List ℕ) (i : ℕ) → IsChains r m → 0 < r.heads → i < r.cells → 0 < tag r m i
    → Among i (walk r m r.cells (head_of r (less_one (tag r m i)))) × TagsAscend r m 0 (walk r m r.cells (head_of r (less_one (tag r m i))))

abbrev pub ZerosAreEmpty : Type 0
ZerosAreEmpty = (r : Chains) (n : ℕ) → IsChains r (replicate n 0)

-- whether chains are well formed is told by the words of their region alone
abbrev pub DependsOnOwnWords : Type 0
DependsOnOwnWords = (r : Chains) (m k : List ℕ) → IsChains r m → ((x : ℕ) → r.at ≤ x → x < r.at + r.heads + 2 * r.cells → slice_index k x ≡ slice_index m x) → IsChains r k

-- the calls change no word outside the region
abbrev pub ChangesOwnWords : Type 0
ChangesOwnWords = (r : Chains) (m : List ℕ) (key x : ℕ) → IsChains r m → 0 < r.heads → (x < r.at) ⊎ (r.at + r.heads + 2 * r.cells ≤ x)
    → (slice_index (inserted_in r key m).memory x ≡ slice_index m x) × (slice_index (removed_in r key m).memory x ≡ slice_index m x)
