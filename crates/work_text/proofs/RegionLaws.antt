-- What is parsed fits the memory of its header: structures lie in their regions, and plain addresses outside them.
use Rattle.std.proofs.Common.{ℕ, ◌≡◌, ◌<◌, ◌≤◌, ◌+◌, ◌^◌, List, [], ◌∷◌, get_or, length, refl, sym, ap, arith, subst, inl, inr}
use Rattle.std.specs.Prelude.{◌⊎◌, All, AllPairs, Contains}
use Rattle.std.proofs.lemmas.List.Elements.{All-nil, All-cons, All-weaker, Contains-get_or}
use Rattle.std.proofs.lemmas.List.Kept.{AllPairs-cons}
use Rattle.data_regions.specs.declared.region.Region.{Region}
use Rattle.data_regions.specs.declared.region.Region.TheVariants.{Counter as OfCounter, List as OfList, Hash as OfHash, Tree as OfTree, Queue as OfQueue, SumMap as OfSumMap}
use Rattle.data_regions.specs.declared.region.Structure.TheVariants as structures
use Rattle.data_regions.specs.Regions.{start_of, size_of, structure_of, AreApart, EndsWithin, IsPlain, counter_one, list_one, hash_one, tree_one, version_one}
use Rattle.data_regions.specs.Statements.{VersionOnePlain}
use Rattle.work_script.specs.declared.op.Op.{Op}
use Rattle.work_script.specs.declared.op.Op.TheVariants.{Read, Write, Add, Move, Emit, Irrev, Cancel, Count, Total, ListInsert, ListRemove, ListContains, ListLength, HashInsert, HashRemove, HashContains, TreeInsert, TreeRemove, TreeContains, TreeLeast, QueuePut, QueueGet, MapPut, MapRemove, MapGet, MapSum}
use Rattle.work_script.specs.declared.workload.Header.{Header}
use Rattle.work_script.specs.declared.workload.Version.{Version}
use Rattle.work_script.specs.declared.workload.Version.TheVariants.{One, Two}
use Rattle.work_script.specs.declared.workload.Item.{Item}
use Rattle.work_script.specs.declared.workload.Item.TheVariants.{Tx, Switch, Reserve}
use Rattle.work_script.specs.Operations.{OpFits}
use Rattle.work_script.specs.Reports.{regions_of}
use Rattle.work_script.specs.Structures.{region_at, as_counter, as_list, as_hash, as_tree, as_queue, as_sum_map, AreLaid, HasRegion}
use Rattle.work_script.specs.Workloads.{ItemFits}
use Rattle.work_text.specs.Parsed as is_parsed
use Rattle.work_text.specs.Parsed.{cells_of, IsSized, Follow, RegionsOne, RegionsTwo, LayoutFits, HasStructure, IsFree, IsFreeIn, ParsedWorkloadsFit}
use Rattle.work_text.proofs.HeaderLaws.{none-two}

-- regions that follow each other are apart

follow-above : (end : ℕ) (rs : List Region) → Follow end rs → All (λ r. end ≤ start_of r) rs
follow-above end [] f = All-nil (λ r. end ≤ start_of r)
follow-above end (r ∷ rs) f =
    let here = f.0 in
    let past : ℕ = start_of r + size_of r in
    All-cons (λ s. end ≤ start_of s) r rs here
    (All-weaker (λ s. past ≤ start_of s) (λ s. end ≤ start_of s) (λ s le. omega arith) rs (follow-above past rs f.1))

follow-apart : (end : ℕ) (rs : List Region) → Follow end rs → AllPairs AreApart rs
follow-apart end [] f = λ i j d lt within. absurd (omega arith)
follow-apart end (r ∷ rs) f =
    let past : ℕ = start_of r + size_of r in
    AllPairs-cons AreApart r rs (All-weaker (λ s. past ≤ start_of s) (AreApart r) (λ s le. inl le) rs (follow-above past rs f.1)) (follow-apart past rs f.1)

-- the four regions of version 1 are sized, follow each other, and end within 1,024 words

four-sized : All IsSized version_one
four-sized =
    All-cons IsSized (OfCounter counter_one) (OfList list_one ∷ OfHash hash_one ∷ OfTree tree_one ∷ []) (omega arith, omega arith)
    (All-cons IsSized (OfList list_one) (OfHash hash_one ∷ OfTree tree_one ∷ []) (omega arith, omega arith)
    (All-cons IsSized (OfHash hash_one) (OfTree tree_one ∷ []) (omega arith, omega arith)
    (All-cons IsSized (OfTree tree_one) [] (omega arith, omega arith) (All-nil IsSized))))

four-within : (words : ℕ) → 1024 ≤ words → All (EndsWithin words) version_one
four-within words room =
    All-cons (EndsWithin words) (OfCounter counter_one) (OfList list_one ∷ OfHash hash_one ∷ OfTree tree_one ∷ []) (omega arith)
    (All-cons (EndsWithin words) (OfList list_one) (OfHash hash_one ∷ OfTree tree_one ∷ []) (omega arith)
    (All-cons (EndsWithin words) (OfHash hash_one) (OfTree tree_one ∷ []) (omega arith)
    (All-cons (EndsWithin words) (OfTree tree_one) [] (omega arith) (All-nil (EndsWithin words)))))

four-follow : Follow 0 version_one
four-follow = (omega arith, (omega arith, (omega arith, (omega arith, tt))))

-- so the regions of both versions are what version 2 asks for
one-two : (h : Header) → RegionsOne h → RegionsTwo h
one-two h (inl none) = none-two h none
one-two h (inr four) = record {
  count = omega (arith, ap length four.0);
  sized = subst (All IsSized) (sym four.0) four-sized;
  follow = subst (Follow 0) (sym four.0) four-follow;
  within = subst (All (EndsWithin h.words)) (sym four.0) (four-within h.words four.1);
}

pub laid-by : (v : Version) (h : Header) → LayoutFits v h → RegionsTwo h
laid-by One h l = one-two h l.0
laid-by Two h l = l.0

laid-out : (h : Header) → is_parsed.HeaderFits h → AreLaid h.regions h.words
laid-out h f =
    let two = laid-by h.version h f.layout in
    let small = f.config.words.1 in
    record {
      apart = follow-apart 0 h.regions two.follow;
      within = two.within;
      below = All-weaker (EndsWithin h.words) (λ r. start_of r + size_of r < 2 ^ 64) (λ r le. omega arith) h.regions two.within;
    }

-- a region of a structure is that structure's
is-counter : (r : Region) → structure_of r ≡ structures.Counter → r ≡ OfCounter (as_counter r)
is-counter (OfCounter x) e = refl
is-counter r e = cc

is-list : (r : Region) → structure_of r ≡ structures.List → r ≡ OfList (as_list r)
is-list (OfList x) e = refl
is-list r e = cc

is-hash : (r : Region) → structure_of r ≡ structures.Hash → r ≡ OfHash (as_hash r)
is-hash (OfHash x) e = refl
is-hash r e = cc

is-tree : (r : Region) → structure_of r ≡ structures.Tree → r ≡ OfTree (as_tree r)
is-tree (OfTree x) e = refl
is-tree r e = cc

is-queue : (r : Region) → structure_of r ≡ structures.Queue → r ≡ OfQueue (as_queue r)
is-queue (OfQueue x) e = refl
is-queue r e = cc

is-sum_map : (r : Region) → structure_of r ≡ structures.SumMap → r ≡ OfSumMap (as_sum_map r)
is-sum_map (OfSumMap x) e = refl
is-sum_map r e = cc

counter-some : (r : Region) → structure_of r ≡ structures.Counter → 1 ≤ cells_of r → 0 < (as_counter r).stripes
counter-some (OfCounter c) e some = omega arith
counter-some r e some = absurd cc

queue-some : (r : Region) → structure_of r ≡ structures.Queue → 1 ≤ cells_of r → 0 < (as_queue r).cells
queue-some (OfQueue q) e some = omega arith
queue-some r e some = absurd cc

-- it has words of its own
has-region : (h : Header) (r : ℕ) (x : Region) → is_parsed.HeaderFits h → r < length h.regions → region_at h.regions r ≡ x → HasRegion h.regions h.words x
has-region h r x f lt is =
    (laid-out h f, subst (Contains h.regions) is (Contains-get_or h.regions r (OfCounter (record { at = 0; stripes = 0 })) lt))

some-cells : (h : Header) (r : ℕ) → is_parsed.HeaderFits h → r < length h.regions → 1 ≤ cells_of (region_at h.regions r)
some-cells h r f lt =
    let two = laid-by h.version h f.layout in (two.sized r (OfCounter (record { at = 0; stripes = 0 })) lt).0

has-counter : (h : Header) (r : ℕ) → is_parsed.HeaderFits h → HasStructure h structures.Counter r → HasRegion h.regions h.words (OfCounter (as_counter (region_at h.regions r)))
has-counter h r f b = has-region h r (OfCounter (as_counter (region_at h.regions r))) f b.0 (is-counter (region_at h.regions r) b.1)

has-list : (h : Header) (r : ℕ) → is_parsed.HeaderFits h → HasStructure h structures.List r → HasRegion h.regions h.words (OfList (as_list (region_at h.regions r)))
has-list h r f b = has-region h r (OfList (as_list (region_at h.regions r))) f b.0 (is-list (region_at h.regions r) b.1)

has-hash : (h : Header) (r : ℕ) → is_parsed.HeaderFits h → HasStructure h structures.Hash r → HasRegion h.regions h.words (OfHash (as_hash (region_at h.regions r)))
has-hash h r f b = has-region h r (OfHash (as_hash (region_at h.regions r))) f b.0 (is-hash (region_at h.regions r) b.1)

has-tree : (h : Header) (r : ℕ) → is_parsed.HeaderFits h → HasStructure h structures.Tree r → HasRegion h.regions h.words (OfTree (as_tree (region_at h.regions r)))
has-tree h r f b = has-region h r (OfTree (as_tree (region_at h.regions r))) f b.0 (is-tree (region_at h.regions r) b.1)

has-queue : (h : Header) (r : ℕ) → is_parsed.HeaderFits h → HasStructure h structures.Queue r → HasRegion h.regions h.words (OfQueue (as_queue (region_at h.regions r)))
has-queue h r f b = has-region h r (OfQueue (as_queue (region_at h.regions r))) f b.0 (is-queue (region_at h.regions r) b.1)

has-sum_map : (h : Header) (r : ℕ) → is_parsed.HeaderFits h → HasStructure h structures.SumMap r → HasRegion h.regions h.words (OfSumMap (as_sum_map (region_at h.regions r)))
has-sum_map h r f b = has-region h r (OfSumMap (as_sum_map (region_at h.regions r))) f b.0 (is-sum_map (region_at h.regions r) b.1)

module _ (plain : VersionOnePlain) where
  free-one : (rs : List Region) (a : ℕ) → (rs ≡ []) ⊎ (rs ≡ version_one) → IsFreeIn One rs a → IsPlain rs a
  free-one rs a (inl none) free = λ i d lt. let zero = ap length none in absurd (omega arith)
  free-one rs a (inr four) (inl none) = λ i d lt. let zero = ap length none in absurd (omega arith)
  free-one rs a (inr four) (inr out) = subst (λ s. IsPlain s a) (sym four) (plain a out)

  layout-one : (h : Header) → RegionsOne h → (h.regions ≡ []) ⊎ (h.regions ≡ version_one)
  layout-one h (inl none) = inl none
  layout-one h (inr four) = inr four.0

  -- a free address is in no region
  free-plain : (h : Header) (a : ℕ) → is_parsed.HeaderFits h → IsFree h a → IsPlain (regions_of h) a
  free-plain h a f free = by h.version f.layout free
    where
      by : (v : Version) → LayoutFits v h → IsFreeIn v h.regions a → IsPlain h.regions a
      by One l free = free-one h.regions a (layout-one h l.0) free
      by Two l free = free

  op-fits : (h : Header) (op : Op) → is_parsed.HeaderFits h → is_parsed.OpFits h op → OpFits (regions_of h) h.words op
  op-fits h (Read a) f b = (b.0, free-plain h a f b.1)
  op-fits h (Write a v) f b = (b.0, free-plain h a f b.2)
  op-fits h (Add a k) f b = (b.0, free-plain h a f b.2)
  op-fits h (Move a c k) f b = (b.0, free-plain h a f b.3, b.1, free-plain h c f b.4)
  op-fits h (Emit a) f b = (b.0, free-plain h a f b.1)
  op-fits h Irrev f b = tt
  op-fits h Cancel f b = tt
  op-fits h (Count r stripe k) f b = (has-counter h r f b.0, b.1)
  op-fits h (Total r) f b = (has-counter h r f b, counter-some (region_at h.regions r) b.1 (some-cells h r f b.0))
  op-fits h (ListInsert r key) f b = (has-list h r f b.0, let le = b.1 in omega arith)
  op-fits h (ListRemove r key) f b = (has-list h r f b.0, let le = b.1 in omega arith)
  op-fits h (ListContains r key) f b = (has-list h r f b.0, let le = b.1 in omega arith)
  op-fits h (HashInsert r key) f b = (has-hash h r f b.0, let le = b.1 in omega arith)
  op-fits h (HashRemove r key) f b = (has-hash h r f b.0, let le = b.1 in omega arith)
  op-fits h (HashContains r key) f b = (has-hash h r f b.0, let le = b.1 in omega arith)
  op-fits h (TreeInsert r key) f b = (has-tree h r f b.0, let le = b.1 in omega arith)
  op-fits h (TreeRemove r key) f b = (has-tree h r f b.0, let le = b.1 in omega arith)
  op-fits h (TreeContains r key) f b = (has-tree h r f b.0, let le = b.1 in omega arith)
  op-fits h (MapRemove r key) f b = (has-sum_map h r f b.0, let le = b.1 in omega arith)
  op-fits h (MapGet r key) f b = (has-sum_map h r f b.0, let le = b.1 in omega arith)
  op-fits h (ListLength r) f b = has-list h r f b
  op-fits h (TreeLeast r) f b = has-tree h r f b
  op-fits h (QueuePut r v) f b =
      let has = b.0 in let le = b.1 in (has-queue h r f has, queue-some (region_at h.regions r) has.1 (some-cells h r f has.0), omega arith)
  op-fits h (QueueGet r) f b = (has-queue h r f b, queue-some (region_at h.regions r) b.1 (some-cells h r f b.0))
  op-fits h (MapPut r key v) f b = let le = b.0.1 in (has-sum_map h r f b.0.0, omega arith, b.1)
  op-fits h (MapSum r lo hi) f b = let le = b.0.1 in let top = b.1 in (has-sum_map h r f b.0.0, omega arith, omega arith)

  item-fits : (h : Header) (item : Item) → is_parsed.HeaderFits h → is_parsed.ItemFits h item → ItemFits (regions_of h) h item
  item-fits h (Tx caller script) f b = (b.0, λ i d lt. op-fits h (get_or script i d) f (b.1.each i d lt))
  item-fits h (Switch caller alg) f b = b
  item-fits h (Reserve caller reads writes) f b = b.0

  pub workload-fits : ParsedWorkloadsFit
  workload-fits m w b = λ i d lt. item-fits w.header (get_or w.items i d) b.header (b.items i d lt)
