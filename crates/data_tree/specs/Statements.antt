-- What the law functions say.
use Rattle.std.specs.Prelude.{ℕ, suc, slice_index, ◌≡◌, ◌<◌, ◌≤◌, ◌+◌, ◌*◌, ◌^◌, ◌⊎◌, List, length, replicate}
use Rattle.data_tree.specs.declared.tree.Tree.{Tree}
use Rattle.data_effects.specs.Keys.{Ascends, without_key, keys_after}
use Rattle.data_tree.specs.Trees.{tag, keys, Used, IsTree, IsLink, position_of, inserted_in, removed_in}

abbrev pub KeysAscend : Type 0
KeysAscend = (r : Tree) (m : List ℕ) → IsTree r m → Ascends (keys r m)

-- the keys after an insert are those that its reply tells, and it keeps the tree well formed
abbrev pub InsertsKey : Type 0
InsertsKey = (r : Tree) (m : List ℕ) (key : ℕ) → IsTree r m → key < 2 ^ 32 → r.at + 1 + 3 * r.cells ≤ length m
    → (keys r (inserted_in r key m).memory ≡ keys_after (inserted_in r key m).reply key (keys r m)) × IsTree r (inserted_in r key m).memory

abbrev pub RemovesKey : Type 0
RemovesKey = (r : Tree) (m : List ℕ) (key : ℕ) → IsTree r m → key < 2 ^ 32 → r.at + 1 + 3 * r.cells ≤ length m
    → (keys r (removed_in r key m).memory ≡ without_key key (keys r m)) × IsTree r (removed_in r key m).memory

-- the walk from the root to a used cell's key ends at it
abbrev pub Reaches : Type 0
Reaches = (r : Tree) (m : List ℕ) (i key : ℕ) → IsTree r m → Used r m i → tag r m i ≡ suc key → (position_of r m key).next ≡ suc i

-- two links that name one cell are one
abbrev pub NamedOnce : Type 0
NamedOnce = (r : Tree) (m : List ℕ) (a d j : ℕ) → IsTree r m → IsLink r m a → IsLink r m d → slice_index m a ≡ suc j → slice_index m d ≡ suc j → a ≡ d

abbrev pub ZerosAreEmpty : Type 0
ZerosAreEmpty = (r : Tree) (n : ℕ) → IsTree r (replicate n 0)

-- whether a tree is well formed is told by the words of its region alone
abbrev pub DependsOnOwnWords : Type 0
DependsOnOwnWords = (r : Tree) (m k : List ℕ) → IsTree r m → ((x : ℕ) → r.at ≤ x → x < r.at + 1 + 3 * r.cells → slice_index k x ≡ slice_index m x) → IsTree r k

-- the calls change no word outside the region
abbrev pub ChangesOwnWords : Type 0
ChangesOwnWords = (r : Tree) (m : List ℕ) (key x : ℕ) → IsTree r m → key < 2 ^ 32 → (x < r.at) ⊎ (r.at + 1 + 3 * r.cells ≤ x)
    → (slice_index (inserted_in r key m).memory x ≡ slice_index m x) × (slice_index (removed_in r key m).memory x ≡ slice_index m x)
