-- Room that a reply takes.
use Rattle.std.proofs.Common.{ℕ, ◌≡◌, ◌+◌, ◌<◌, ◌≤◌, ap, ◌∙◌, take, List, [], ◌∷◌, ◌++◌, length, length-append, subst, sym, arith}
use Rattle.std.proofs.lemmas.List.{length-take-le}
use Rattle.work_script.specs.declared.op.Op.{Op}
use Rattle.work_script.specs.declared.op.Op.TheVariants.{Read, Write, Add, Move, Emit, Irrev, Cancel, Count, Total, ListInsert, ListRemove, ListContains, ListLength, HashInsert, HashRemove, HashContains, TreeInsert, TreeRemove, TreeContains, TreeLeast, QueuePut, QueueGet, MapPut, MapRemove, MapGet, MapSum}
use Rattle.work_script.specs.Operations.{emits_of}
use Rattle.work_script.specs.Outputs.{Output, HasRoom}

emits-few : (op : Op) (r : ℕ) → length (emits_of op r) ≤ 1
emits-few (Read a) r = omega arith
emits-few (Write a v) r = omega arith
emits-few (Add a k) r = omega arith
emits-few (Move a b k) r = omega arith
emits-few (Emit a) r = omega arith
emits-few Irrev r = omega arith
emits-few Cancel r = omega arith
emits-few (Count region stripe k) r = omega arith
emits-few (Total region) r = omega arith
emits-few (ListInsert region key) r = omega arith
emits-few (ListRemove region key) r = omega arith
emits-few (ListContains region key) r = omega arith
emits-few (ListLength region) r = omega arith
emits-few (HashInsert region key) r = omega arith
emits-few (HashRemove region key) r = omega arith
emits-few (HashContains region key) r = omega arith
emits-few (TreeInsert region key) r = omega arith
emits-few (TreeRemove region key) r = omega arith
emits-few (TreeContains region key) r = omega arith
emits-few (TreeLeast region) r = omega arith
emits-few (QueuePut region v) r = omega arith
emits-few (QueueGet region) r = omega arith
emits-few (MapPut region key v) r = omega arith
emits-few (MapRemove region key) r = omega arith
emits-few (MapGet region key) r = omega arith
emits-few (MapSum region lo hi) r = omega arith

pub room-reply : (o p : Output) (op : Op) (r n : ℕ) → p ≡ record o { replies = o.replies ++ r ∷ []; emits = o.emits ++ emits_of op r } → HasRoom o (n + 1) → HasRoom p n
room-reply o p op r n is h =
    let more : length (o.replies ++ r ∷ []) ≡ length o.replies + 1 = length-append o.replies (r ∷ []) in
    let told : length (o.emits ++ emits_of op r) ≡ length o.emits + length (emits_of op r) = length-append o.emits (emits_of op r) in
    let few = emits-few op r in
    let a = h.0 in
    let b = h.1 in
    subst (λ q. HasRoom q n) (sym is) (omega arith, omega arith)

-- the operations before the cancel leave room for its reply
pub room-cancel : {A : Type 0} (o : Output) (ops front : List A) (end : ℕ) → front ≡ take end ops → end < length ops → HasRoom o (length ops) → HasRoom o (length front + 1)
room-cancel o ops front end is lt h =
    let long : length front ≡ end = ap length is ∙ length-take-le end ops (omega arith) in
    let a = h.0 in
    let b = h.1 in
    (omega arith, omega arith)

pub one-more : (o : Output) → HasRoom o 1 → length o.replies < o.room
one-more o h = let a = h.0 in omega arith
