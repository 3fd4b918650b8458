-- What a worker's caller has done when its descriptor is left idle.
use Rattle.std.proofs.Common.{ℕ, zero, suc, ◌≡◌, ◌<◌, ◌≤◌, ◌+◌, Bool, true, false, List, [], ◌∷◌, ◌++◌, length, get_or, map, refl, sym, ap, ◌∙◌, arith, subst, length-append, length-drop, inl, inr}
use Rattle.std.specs.Prelude.{◌==◌, ◌⊎◌, Contains, slice_index_or, if◌then◌else◌}
use Rattle.std.proofs.lemmas.Bool.Decides.{nat_tests}
use Rattle.std.proofs.lemmas.List.{append-nil}
use Rattle.stm_model.specs.Histories.{Entry, memory_at}
use Rattle.work_script.specs.declared.op.Op.{Op}
use Rattle.data_regions.specs.declared.region.Region.{Region}
use Rattle.work_script.specs.declared.report.Kind.TheVariants.{W}
use Rattle.work_script.specs.declared.report.Row.{Row}
use Rattle.work_script.specs.declared.workload.Item.{Item}
use Rattle.work_script.specs.declared.workload.Item.TheVariants.{Tx, Switch, Reserve}
use Rattle.work_script.specs.GrowthLaws.{Grew}
use Rattle.work_script.specs.Parts.{Worked, RowOf, RowIn, by_kind}
use Rattle.work_script.specs.Reports.{RowFits, counted, scripts_of, script_of, zeros}
use Rattle.stm_rule.specs.Callers.{Handle, IsSameCaller}
use Rattle.stm_rule.specs.declared.stm.Stm.{Stm}
use Rattle.stm_answers.specs.Answers as answers
use Rattle.stm_answers.specs.CallerState.{CallerState, IsIdle, caller_of, is_irrevocable, owed}
use Rattle.stm_tx.specs.Descs.{known}
use Rattle.work_trace.specs.declared.said.Phase.{Phase}
use Rattle.work_trace.specs.declared.said.Phase.TheVariants.{Between, Inside, Closing, Quiet}
use Rattle.work_trace.specs.Places.{script_at}
use Rattle.work_trace.specs.Turns.{BeforeTx}
use Rattle.work_worker.specs.declared.worker.Worker.{Worker}
use Rattle.work_worker.specs.Leavings.{BeginsNext, DidPart, KeepsMade, MadeIdle}
use Rattle.work_worker.specs.Workers.{ItemsFit, Sound, Stands, Works, WorksSince}
use Rattle.work_worker.proofs.Calls.{commits, grew}
use Rattle.work_worker.proofs.GoingLaws.{gave-first}
use Rattle.work_worker.proofs.RowLaws.{row_of, row-wrote}
use Rattle.work_worker.proofs.StandLaws.{works-later, works-over}
use Rattle.work_worker.proofs.TurnLaws.{attempt-now, inside-now, inside-of-running}

scripts-append : (n : ℕ) (xs ys : List Item) → scripts_of n (xs ++ ys) ≡ scripts_of n xs ++ scripts_of n ys
scripts-append n [] ys = refl
scripts-append n (Tx caller script ∷ xs) ys = by (caller == n) (scripts-append n xs ys)
  where
    by : (b : Bool) → scripts_of n (xs ++ ys) ≡ scripts_of n xs ++ scripts_of n ys
        → (if b then script ∷ scripts_of n (xs ++ ys) else scripts_of n (xs ++ ys))
        ≡ (if b then script ∷ scripts_of n xs else scripts_of n xs) ++ scripts_of n ys
    by true r = ap (λ l. script ∷ l) r
    by false r = r
scripts-append n (Switch caller alg ∷ xs) ys = scripts-append n xs ys
scripts-append n (Reserve caller reads writes ∷ xs) ys = scripts-append n xs ys

at-left : {A : Type 0} (xs ys : List A) (i : ℕ) (d : A) → i < length xs → get_or (xs ++ ys) i d ≡ get_or xs i d
at-left [] ys i d lt = absurd (omega arith)
at-left (x ∷ xs) ys zero d lt = refl
at-left (x ∷ xs) ys (suc i) d lt = at-left xs ys i d (omega arith)

at-seam : {A : Type 0} (xs : List A) (y d : A) → get_or (xs ++ y ∷ []) (length xs) d ≡ y
at-seam [] y d = refl
at-seam (x ∷ xs) y d = at-seam xs y d

numbered-at : (k : ℕ) (rows : List Row) → map (λ (r : Row). r.seq) rows ≡ counted k (length rows) → (i : ℕ) (d : Row) → i < length rows → (get_or rows i d).seq ≡ k + i
numbered-at k [] h i d lt = absurd (omega arith)
numbered-at k (r ∷ rows) h zero d lt = (let e : r.seq ≡ k = cc in omega arith)
numbered-at k (r ∷ rows) h (suc i) d lt =
    let more : map (λ (x : Row). x.seq) rows ≡ counted (suc k) (length rows) = cc in
    let e = numbered-at (suc k) rows more i d (omega arith) in
    omega arith

-- the rows of a caller, whose scripts other items have too
reworked : (good : List ℕ → Type 0) (opening : List ℕ) (regions : List Region) (all items : List Item) (n : ℕ) (made seen : List Entry) (front : ℕ) (rows : List Row)
    → ((i : ℕ) → i < length rows → slice_index_or (scripts_of n all) i [] ≡ slice_index_or (scripts_of n items) i [])
    → Worked good opening regions (script_of all) n made seen front rows
    → Worked good opening regions (script_of items) n made seen front rows
reworked good opening regions all items n made seen front rows same h = record {
  writers = h.writers;
  each = λ i d lt. row (get_or rows i d) (h.mine i d lt) (let e = numbered-at 0 rows h.numbered i d lt in omega (arith, e, lt)) (h.each i d lt);
  mine = h.mine;
  numbered = h.numbered;
  ordered = h.ordered;
  places = h.places;
}
  where
    script : (r : Row) → r.caller ≡ n → r.seq < length rows → script_of all r ≡ script_of items r
    script r own lt = ap (λ k. slice_index_or (scripts_of k all) r.seq []) own ∙ (same r.seq lt ∙ ap (λ k. slice_index_or (scripts_of k items) r.seq []) (sym own))

    row : (r : Row) → r.caller ≡ n → r.seq < length rows → RowIn good opening regions (script_of all) made seen front r → RowIn good opening regions (script_of items) made seen front r
    row r own lt at =
        subst (λ s.
        by_kind r.kind ((e : Entry) × Contains made e × RowOf good (length opening) regions s r e)
        ((r.place ≤ front) × RowFits regions s r (memory_at r.place seen opening))) (script r own lt) at

-- what stands of the rows when nothing is made
stands-over : (good : List ℕ → Type 0) (words : ℕ) (regions : List Region) (all : List Item) (n : ℕ) (v w : CallerState) (rows : List Row)
    (p : Phase) → w.made ≡ v.made → Grew v.seen v.front w.seen w.front → Stands good words regions all n v rows p
    → Works good words regions all n w rows
stands-over good words regions all n v w rows Between made grows h = works-later good words regions all n v w rows made grows h
stands-over good words regions all n v w rows Inside made grows h = works-over good words regions all n v w rows made grows h
stands-over good words regions all n v w rows Closing made grows h = works-later good words regions all n v w rows made grows h
stands-over good words regions all n v w rows Quiet made grows h = works-later good words regions all n v w rows made grows h

-- the items that are done, and after them the operations that are
record DoneNext (n : ℕ) (first left : List Item) (ops : List Op) : Type 0 where
  did : List Item
  begins : BeginsNext first left did
  scripts : scripts_of n did ≡ scripts_of n first ++ ops ∷ []

done-next : (good : List ℕ → Type 0) (words : ℕ) (regions : List Region) (n : ℕ) (first left : List Item) (ops rest : List Op)
    → BeforeTx left → ItemsFit good words regions n left → script_at left ≡ ops ++ rest → DoneNext n first left ops
done-next good words regions n first [] ops rest b f is = absurd b
done-next good words regions n first (Tx caller script ∷ left) ops rest b f is =
    let own = f.0 in
    let test : (caller == n) ≡ true = grind (arith, nat_tests) in
    let one : scripts_of n (Tx caller ops ∷ []) ≡ ops ∷ [] = ap (λ t. if t then ops ∷ [] else []) test in
    record { did = first ++ Tx caller ops ∷ []; begins = (ops, rest, is, refl); scripts = scripts-append n first (Tx caller ops ∷ []) ∙ ap (λ l. scripts_of n first ++ l) one }
done-next good words regions n first (Switch caller alg ∷ left) ops rest b f is = absurd b
done-next good words regions n first (Reserve caller reads writes ∷ left) ops rest b f is = absurd b

module _ {K : Type 0} (good : List ℕ → Type 0) (stm : Stm K) (v : Worker K) (s : Sound good stm v) where
  -- each of the items that are done has its row
  whole-first : length v.rows.items ≡ length (scripts_of (caller_of v.desc.who.role) s.done.0)
  whole-first =
      let n = caller_of v.desc.who.role in
      let all : length (scripts_of n v.all.now) ≡ length (scripts_of n s.done.0) + length (scripts_of n v.items_left.now) =
      ap (λ l. length (scripts_of n l)) s.done.1 ∙ (ap length (scripts-append n s.done.0 v.items_left.now) ∙ length-append (scripts_of n s.done.0) (scripts_of n v.items_left.now)) in
      let left = ap length s.todo ∙ length-drop (length v.rows.items) (scripts_of n v.all.now) in
      let within = s.within in
      omega (arith, all, left, within)

  -- and so its script, in whatever begins with them
  same-script : (items : List Item) (more : List (List Op)) → scripts_of (caller_of v.desc.who.role) items ≡ scripts_of (caller_of v.desc.who.role) s.done.0 ++ more
      → (i : ℕ) → i < length v.rows.items → slice_index_or (scripts_of (caller_of v.desc.who.role) v.all.now) i [] ≡ slice_index_or (scripts_of (caller_of v.desc.who.role) items) i []
  same-script items more is i lt =
      let n = caller_of v.desc.who.role in
      let whole = whole-first in
      let low : i < length (scripts_of n s.done.0) = omega (arith, whole, lt) in
      ap (λ l. get_or l i []) (ap (scripts_of n) s.done.1 ∙ scripts-append n s.done.0 v.items_left.now) ∙ (at-left (scripts_of n s.done.0) (scripts_of n v.items_left.now) i [] low
      ∙ (sym (at-left (scripts_of n s.done.0) more i [] low) ∙ ap (λ l. get_or l i []) (sym is)))

  rested-part : (d : Handle K) → (known d).made ≡ (known v.desc).made → Grew (known v.desc).seen (known v.desc).front (known d).seen (known d).front → DidPart good stm v (record v { desc = d })
  rested-part d made grows =
      let n = caller_of v.desc.who.role in
      record {
        items = s.done.0;
        part = (s.done.0, s.done.1, inl refl);
        calm = λ e. s.done.1;
        rows = v.rows.items;
        behind = inl (s.done.1, refl);
        works = reworked good (zeros stm.config.words) v.regions.now v.all.now s.done.0 n (known d).made (known d).seen (known d).front v.rows.items (same-script s.done.0 [] (sym (append-nil (scripts_of n s.done.0))))
            (stands-over good stm.config.words v.regions.now v.all.now n (known v.desc) (known d) v.rows.items v.phase made grows s.stands);
        whole = whole-first;
      }

  committed-part : (d : Handle K) (time : ℕ) → (known v.desc).running ≡ true → answers.CommitsAt good stm.config (caller_of v.desc.who.role) time (known v.desc) (known d) → DidPart good stm v (record v { desc = d })
  committed-part d time runs h =
      let n = caller_of v.desc.who.role in
      let inside : v.phase ≡ Inside = inside-of-running good stm v s v.phase s.at runs in
      let under = attempt-now good stm v s inside in
      let going = under.going in
      let since = inside-now good stm v s inside in
      let next = done-next good stm.config.words v.regions.now n s.done.0 v.items_left.now going.first v.operations_left.now under.here s.fits going.is in
      let whole = whole-first in
      let here : slice_index_or (scripts_of n next.did) (length v.rows.items) [] ≡ going.first =
      ap (λ l. get_or l (length v.rows.items) []) next.scripts ∙ (ap (λ k. get_or (scripts_of n s.done.0 ++ going.first ∷ []) k []) whole ∙ at-seam (scripts_of n s.done.0) going.first []) in
      let mine : WorksSince good stm.config.words v.regions.now next.did n (known v.desc) v.rows.items = record {
        seen = since.seen;
        front = since.front;
        works = reworked good (zeros stm.config.words) v.regions.now v.all.now next.did n (known v.desc).made since.seen since.front v.rows.items (same-script next.did (going.first ∷ []) next.scripts) since.works;
        grew = since.grew;
        fresh = since.fresh;
      } in
      let row = row_of W time n (length v.rows.items) v.out in
      let long = length-append v.rows.items (row ∷ []) in
      let more = ap length next.scripts ∙ length-append (scripts_of n s.done.0) (going.first ∷ []) in
      record {
        items = next.did;
        part = (s.done.0, s.done.1, inr next.begins);
        calm = λ e. absurd (let x = sym inside ∙ e in cc);
        rows = v.rows.items ++ row ∷ [];
        behind = inr (inside, (s.done.0, s.done.1, next.begins), (row, refl));
        works = row-wrote good v.regions.now next.did stm.config n (known v.desc) (known d) v.rows.items going.first v.out here mine time
            (gave-first good stm.config.words v.regions.now (script_at v.items_left.now) v.operations_left.now (known v.desc) v.alg
            v.granted v.out v.wrote going) (commits good stm.config n time (known v.desc) (known d) h);
        whole = omega (arith, whole, long, more);
      }

  did-part : (d : Handle K) → KeepsMade good stm.config (caller_of v.desc.who.role) (known v.desc) (known d) → DidPart good stm v (record v { desc = d })
  did-part d k = by k.made
    where
      by : ((known d).made ≡ (known v.desc).made)
          ⊎ (((known v.desc).running ≡ true) × (is_irrevocable (known v.desc) ≡ true)
          × ((time : ℕ) × answers.CommitsAt good stm.config (caller_of v.desc.who.role) time (known v.desc) (known d)))
          → DidPart good stm v (record v { desc = d })
      by (inl made) = rested-part d made (grew (known v.desc) (known d) k.grows)
      by (inr c) = committed-part d c.2.0 c.0 c.2.1

  -- the worker with its descriptor left so
  pub made-idle : (d : Handle K) → IsSameCaller v.desc d → IsIdle (known d) → (known d).rises ≤ owed (known v.desc)
      → KeepsMade good stm.config (caller_of v.desc.who.role) (known v.desc) (known d) → (v.phase ≡ Between → d ≡ v.desc)
      → MadeIdle good stm v (record v { desc = d })
  made-idle d same idle owes keeps still = record {
    own = record { table = same.table ∙ s.own.table; config = ap (λ x. x.config) same.who ∙ s.own.config; rule = ap (λ x. x.rule) same.who ∙ s.own.rule };
    idle = idle;
    plain = s.plain;
    owes = owes;
    keeps = keeps;
    did = did-part d keeps;
    same = same;
    rows = refl;
    still = λ e. ap (λ (h : Handle K). record v { desc = h }) (still e);
  }
