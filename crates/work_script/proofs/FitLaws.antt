-- What a caller knows of its rows holds at their places of the one history.
use Rattle.std.proofs.Common.{ℕ, ◌≡◌, ◌≤◌, ◌-◌, List, [], ◌∷◌, Bool, true, false, refl, sym, ap, ◌∙◌, subst, length, get_or}
use Rattle.std.specs.Prelude.{◌||◌, ltb, if◌then◌else◌, Contains}
use Rattle.std.proofs.lemmas.List.Elements.{All-contains}
use Rattle.stm_model.specs.Memories.{overlay, Explains}
use Rattle.stm_model.specs.Histories.{Entry, memory_at, IsLegal}
use Rattle.stm_model.specs.HistoryLaws.{memory_at-entry, length-memory_at}
use Rattle.work_script.specs.declared.op.Op.{Op}
use Rattle.work_script.specs.declared.op.Op.TheVariants.{Read, Write, Add, Move, Emit, Irrev, Cancel, Count, Total, ListInsert, ListRemove, ListContains, ListLength, HashInsert, HashRemove, HashContains, TreeInsert, TreeRemove, TreeContains, TreeLeast, QueuePut, QueueGet, MapPut, MapRemove, MapGet, MapSum}
use Rattle.data_regions.specs.declared.region.Region.{Region}
use Rattle.work_script.specs.declared.report.Kind.{Kind}
use Rattle.work_script.specs.declared.report.Kind.TheVariants.{W, R, C}
use Rattle.work_script.specs.declared.report.Row.{Row}
use Rattle.work_script.specs.Operations.{replies, moved, effect_of}
use Rattle.data_cells.specs.Structures.{list_of, hash_of}
use Rattle.work_script.specs.Structures.{list_in, hash_in, tree_in, queue_in, sum_map_in}
use Rattle.work_script.proofs.StructureLaws.{chain-insert-quiet, chain-remove-quiet, tree-insert-quiet, tree-remove-quiet, queue-put-quiet, queue-get-quiet, map-put-quiet, map-remove-quiet}
use Rattle.work_script.specs.Scripts.{run, run_row, KindFits}
use Rattle.work_script.specs.Reports.{RowFits}
use Rattle.work_script.specs.Parts.{RowOf, RowIn, by_kind, BeginsWith}
use Rattle.work_script.specs.GrowthLaws.{seen-same}
use Rattle.work_script.proofs.ReplayLaws.{before_of, FitsAt}

module _ (regions : List Region) where
  -- a move that wrote nothing leaves the memory
  moves-quiet : (a b k : ℕ) (m : List ℕ) (t : Bool) → (if t then replies 0 m else record { reply = 1; emits = []; memory = moved a b k m; wrote = true }).wrote ≡ false
      → (if t then replies 0 m else record { reply = 1; emits = []; memory = moved a b k m; wrote = true }).memory ≡ m
  moves-quiet a b k m true h = refl
  moves-quiet a b k m false h = absurd cc

  -- a script that wrote nothing leaves the memory
  op-quiet : (op : Op) (m : List ℕ) → (effect_of regions op m).wrote ≡ false → (effect_of regions op m).memory ≡ m
  op-quiet (Read a) m h = refl
  op-quiet (Write a v) m h = absurd cc
  op-quiet (Add a k) m h = absurd cc
  op-quiet (Move a b k) m h = moves-quiet a b k m (ltb (get_or m a 0) k) h
  op-quiet (Emit a) m h = refl
  op-quiet Irrev m h = refl
  op-quiet Cancel m h = refl
  op-quiet (Count region stripe k) m h = absurd cc
  op-quiet (Total region) m h = refl
  op-quiet (ListInsert region key) m h = chain-insert-quiet (list_of (list_in regions region)) key m h
  op-quiet (ListRemove region key) m h = chain-remove-quiet (list_of (list_in regions region)) key m h
  op-quiet (ListContains region key) m h = refl
  op-quiet (ListLength region) m h = refl
  op-quiet (HashInsert region key) m h = chain-insert-quiet (hash_of (hash_in regions region)) key m h
  op-quiet (HashRemove region key) m h = chain-remove-quiet (hash_of (hash_in regions region)) key m h
  op-quiet (HashContains region key) m h = refl
  op-quiet (TreeInsert region key) m h = tree-insert-quiet (tree_in regions region) key m h
  op-quiet (TreeRemove region key) m h = tree-remove-quiet (tree_in regions region) key m h
  op-quiet (TreeContains region key) m h = refl
  op-quiet (TreeLeast region) m h = refl
  op-quiet (QueuePut region v) m h = queue-put-quiet (queue_in regions region) m v h
  op-quiet (QueueGet region) m h = queue-get-quiet (queue_in regions region) m h
  op-quiet (MapPut region key v) m h = map-put-quiet (sum_map_in regions region) key v m h
  op-quiet (MapRemove region key) m h = map-remove-quiet (sum_map_in regions region) key m h
  op-quiet (MapGet region key) m h = refl
  op-quiet (MapSum region lo hi) m h = refl

  or-left : (a b : Bool) → a || b ≡ false → a ≡ false
  or-left true b h = absurd cc
  or-left false b h = refl

  or-right : (a b : Bool) → a || b ≡ false → b ≡ false
  or-right true b h = absurd cc
  or-right false b h = h

  pub run-quiet : (ops : List Op) (m : List ℕ) → (run regions ops m).wrote ≡ false → (run regions ops m).memory ≡ m
  run-quiet [] m h = refl
  run-quiet (op ∷ ops) m h =
      let one = op-quiet op m (or-left (effect_of regions op m).wrote (run regions ops (effect_of regions op m).memory).wrote h) in
      run-quiet ops (effect_of regions op m).memory (or-right (effect_of regions op m).wrote (run regions ops (effect_of regions op m).memory).wrote h) ∙ one

  quiet-by : (r : Row) (script : List Op) (m : List ℕ) → r.kind ≡ R → RowFits regions script r m → (run_row regions r.kind script m).memory ≡ m
  quiet-by r script m is h =
      ap (λ k. (run_row regions k script m).memory) is ∙ run-quiet script m (subst (λ k. KindFits k script (run_row regions k script m).wrote) is h.kind)

  fits-by : (good : List ℕ → Type 0) (opening : List ℕ) (floor : ℕ) (es : List Entry) (script : List Op) (made seen : List Entry) (front : ℕ) (r : Row) (k : Kind) → r.kind ≡ k
      → IsLegal good opening floor es → BeginsWith es seen front → ((e : Entry) → Contains made e → Contains es e)
      → by_kind k ((e : Entry) × Contains made e × RowOf good (length opening) regions script r e) ((r.place ≤ front) × RowFits regions script r (memory_at r.place seen opening))
      → FitsAt regions script es opening r
  fits-by good opening floor es script made seen front r W is legal begins within h =
      let e = h.0 in
      let row = h.2 in
      let at = within h.0 h.1 in
      let m = memory_at (e.time - 1) es opening in
      let reads : Explains m e.reads = All-contains (λ x. Explains (memory_at (x.time - 1) es opening) x.reads) es e legal.reads at in
      let long = length-memory_at (e.time - 1) es opening in
      let fit = row.fits m (legal.good_always (e.time - 1)) long reads in
      let left = row.left m (legal.good_always (e.time - 1)) long reads in
      let step : memory_at e.time es opening ≡ overlay m e.writes = subst
      (λ x. memory_at x.time es opening ≡ overlay (memory_at (x.time - 1) es opening) x.writes) at.2
      (memory_at-entry floor es opening at.0 e legal.ascending at.1) in
      let before : m ≡ memory_at (before_of r.kind r.place) es opening = ap (λ t. memory_at (t - 1) es opening) row.time ∙ sym (ap (λ j. memory_at (before_of j r.place) es opening) is) in
      record {
        fits = subst (RowFits regions script r) before fit;
        after = ap (λ x. (run_row regions r.kind script x).memory) (sym before) ∙ (left ∙ (sym step ∙ ap (λ t. memory_at t es opening) row.time));
      }
  fits-by good opening floor es script made seen front r R is legal begins within h =
      let same = seen-same r.place front es seen opening begins h.0 in
      let before : memory_at r.place seen opening ≡ memory_at (before_of r.kind r.place) es opening = sym same ∙ sym (ap (λ j. memory_at (before_of j r.place) es opening) is) in
      let fit : RowFits regions script r (memory_at (before_of r.kind r.place) es opening) = subst (RowFits regions script r) before h.1 in
      record {
        fits = fit;
        after = quiet-by r script (memory_at (before_of r.kind r.place) es opening) is fit ∙ ap (λ j. memory_at (before_of j r.place) es opening) is;
      }
  fits-by good opening floor es script made seen front r C is legal begins within h =
      let same = seen-same r.place front es seen opening begins h.0 in
      let before : memory_at r.place seen opening ≡ memory_at (before_of r.kind r.place) es opening = sym same ∙ sym (ap (λ j. memory_at (before_of j r.place) es opening) is) in
      record {
        fits = subst (RowFits regions script r) before h.1;
        after = ap (λ k. (run_row regions k script (memory_at (before_of r.kind r.place) es opening)).memory) is ∙ ap (λ j. memory_at (before_of j r.place) es opening) is;
      }

  pub fits-in : (good : List ℕ → Type 0) (opening : List ℕ) (floor : ℕ) (es : List Entry) (script : Row → List Op) (made seen : List Entry) (front : ℕ) (r : Row)
      → IsLegal good opening floor es → BeginsWith es seen front → ((e : Entry) → Contains made e → Contains es e)
      → RowIn good opening regions script made seen front r → FitsAt regions (script r) es opening r
  fits-in good opening floor es script made seen front r legal begins within h =
      fits-by good opening floor es (script r) made seen front r r.kind refl legal begins within h
