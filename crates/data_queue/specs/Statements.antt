-- What the law functions say.
use Rattle.std.specs.Prelude.{ℕ, ◌≡◌, ◌+◌, ◌<◌, ◌≤◌, ◌^◌, ◌⊎◌, List, [], ◌∷◌, ◌++◌, length, replicate, slice_index, Option, Some, None}
use Rattle.data_queue.specs.declared.queue.Queue.{Queue}
use Rattle.data_queue.specs.declared.queue.Put.{Put}
use Rattle.data_queue.specs.declared.queue.Put.TheVariants.{Added, NoRoom}
use Rattle.data_queue.specs.Queues.{QueueFits, contents, IsQueue, put_in, got_in, counted_in}

-- a put appends where there is room, and else does nothing
abbrev pub PutsLast : Type 0
PutsLast = (q : Queue) (m : List ℕ) (v : ℕ) → IsQueue q m → QueueFits q (length m) → v < 2 ^ 32 →
    IsQueue q (put_in q v m).memory
    × ((length (contents q m) < q.cells) → ((put_in q v m).reply ≡ Added) × (contents q (put_in q v m).memory ≡ contents q m ++ v ∷ []))
    × ((q.cells ≤ length (contents q m)) → ((put_in q v m).reply ≡ NoRoom) × ((put_in q v m).memory ≡ m))

-- a get takes the first value, where there is one
abbrev pub GetsFirst : Type 0
GetsFirst = (q : Queue) (m : List ℕ) → IsQueue q m → QueueFits q (length m) →
    IsQueue q (got_in q m).memory
    × ((contents q m ≡ []) → ((got_in q m).reply ≡ None) × ((got_in q m).memory ≡ m))
    × ((v : ℕ) (vs : List ℕ) → contents q m ≡ v ∷ vs → ((got_in q m).reply ≡ Some v) × (contents q (got_in q m).memory ≡ vs) × (v < 2 ^ 32))

abbrev pub CountsLength : Type 0
CountsLength = (q : Queue) (m : List ℕ) → length (contents q m) ≡ (counted_in q m).reply

abbrev pub ZerosAreEmpty : Type 0
ZerosAreEmpty = (q : Queue) (n : ℕ) → IsQueue q (replicate n 0) × (contents q (replicate n 0) ≡ [])

abbrev pub DependsOnOwnWords : Type 0
DependsOnOwnWords = (q : Queue) (m k : List ℕ) → IsQueue q m → ((x : ℕ) → q.at ≤ x → x < q.at + 2 + q.cells → slice_index k x ≡ slice_index m x) → IsQueue q k

abbrev pub ChangesOwnWords : Type 0
ChangesOwnWords = (q : Queue) (m : List ℕ) (v x : ℕ) → IsQueue q m → QueueFits q (length m) → (x < q.at) ⊎ (q.at + 2 + q.cells ≤ x)
    → (slice_index (put_in q v m).memory x ≡ slice_index m x) × (slice_index (got_in q m).memory x ≡ slice_index m x)

-- BY WHAT A CALL REPLIES, from the memory m to n: the value is the last one now, or there was no room
abbrev pub Puts : Queue → ℕ → Put → List ℕ → List ℕ → Type 0
Puts q v Added m n = contents q n ≡ contents q m ++ v ∷ []
Puts q v NoRoom m n = (q.cells ≤ length (contents q m)) × (n ≡ m)

-- the first one left, or there was none
abbrev pub Gets : Queue → Option ℕ → List ℕ → List ℕ → Type 0
Gets q (Some v) m n = contents q m ≡ v ∷ contents q n
Gets q None m n = (contents q m ≡ []) × (n ≡ m)

abbrev pub RepliesTell : Type 0
RepliesTell = (q : Queue) (m : List ℕ) → IsQueue q m → QueueFits q (length m) →
    ((v : ℕ) → v < 2 ^ 32 → IsQueue q (put_in q v m).memory × Puts q v (put_in q v m).reply m (put_in q v m).memory)
    × IsQueue q (got_in q m).memory × Gets q (got_in q m).reply m (got_in q m).memory

-- BESIDE OTHERS: two queues share no word
abbrev pub AreApart : Queue → Queue → Type 0
AreApart q r = (q.at + 2 + q.cells ≤ r.at) ⊎ (r.at + 2 + r.cells ≤ q.at)

-- it is well formed, with the contents that it had
abbrev pub Stays : Queue → List ℕ → List ℕ → Type 0
Stays q m n = IsQueue q n × (contents q n ≡ contents q m)

abbrev pub StaysBeside : Type 0
StaysBeside = (q r : Queue) (m : List ℕ) (v : ℕ) → AreApart q r → IsQueue q m → QueueFits q (length m) → IsQueue r m
    → Stays r m (put_in q v m).memory × Stays r m (got_in q m).memory
