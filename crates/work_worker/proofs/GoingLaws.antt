-- An attempt goes on by one operation.
use Rattle.std.proofs.Common.{ℕ, zero, suc, ◌≡◌, ◌≤◌, Bool, true, false, List, [], ◌∷◌, ◌++◌, length, refl, sym, ap, ◌∙◌, arith, subst, get_or, ◌<◌, append_assoc}
use Rattle.std.proofs.lemmas.List.{append-nil, append_cancel_left}
use Rattle.std.proofs.lemmas.List.Elements.{All-head, All-tail}
use Rattle.std.specs.Prelude.{All, ◌==◌, ltb, slice_index, not, ◌||◌, if◌then◌else◌}
use Rattle.stm_model.specs.declared.alg.Alg.{Alg}
use Rattle.stm_model.specs.Logs.{Log, IsExplained}
use Rattle.stm_model.specs.Memories.{overlay, Explains, is_empty}
use Rattle.work_script.specs.declared.op.Op.{Op}
use Rattle.work_script.specs.declared.op.Op.TheVariants.{Read, Write, Add, Move, Emit, Irrev, Cancel, Count, Total, ListInsert, ListRemove, ListContains, ListLength, HashInsert, HashRemove, HashContains, TreeInsert, TreeRemove, TreeContains, TreeLeast, QueuePut, QueueGet, MapPut, MapRemove, MapGet, MapSum}
use Rattle.data_regions.specs.declared.region.Region.{Region}
use Rattle.work_script.specs.Keeping.{OpKeeps, ScriptKeeps}
use Rattle.work_script.proofs.KeptLogs.{keeps-gave, keeps-run}
use Rattle.stm_model.specs.Algorithms.{irrevocable_under}
use Rattle.work_script.specs.Operations.{OpFits, ScriptFits, is_cancel, is_irrev, effect_of, emits_of, replies, moved}
use Rattle.work_script.specs.Outputs.{Output, HasRoom}
use Rattle.data_effects.specs.Effects.{Under}
use Rattle.data_regions.specs.Regions.{AllWellFormed}
use Rattle.data_cells.specs.Chains.{inserted_in, removed_in}
use Rattle.data_cells.specs.Structures.{list_of, hash_of}
use Rattle.data_tree.specs.Trees.{inserted_in as tree_inserted_in, removed_in as tree_removed_in}
use Rattle.data_queue.specs.Queues.{put_in, got_in}
use Rattle.data_sums.specs.Sums.{put_in as map_put_in, removed_in as map_removed_in}
use Rattle.work_script.specs.Structures.{list_in, hash_in, tree_in, queue_in, sum_map_in}
use Rattle.work_script.proofs.StructureLaws.{chain-insert-wrote, chain-remove-wrote, tree-insert-wrote, tree-remove-wrote}
use Rattle.work_script.specs.Scripts.{run, before_cancel, has_cancel, has_irrev}
use Rattle.work_script.specs.ScriptLaws.{Gave, GaveOver, GivesOn, ran_one, gives-step, gives-none}
use Rattle.stm_answers.specs.CallerState.{CallerState, is_irrevocable}
use Rattle.stm_answers.specs.CallerState as knows
use Rattle.work_trace.specs.Places.{writes}
use Rattle.work_trace.specs.Turns.{Next}
use Rattle.work_worker.specs.Goings.{Going, no_log, no_replies}
use Rattle.work_worker.proofs.ReplyLaws.{queue-put-wrote, queue-get-wrote, map-put-wrote, map-remove-wrote}

begun-on : (regions : List Region) (ops : List Op) (m : List ℕ) (l : Log) (out : Output) → l ≡ no_log → out.replies ≡ [] → out.emits ≡ [] → GivesOn regions ops ops m no_log no_replies l out
begun-on regions ops m l out log r e = λ j after h. again j after (subst (λ k. Gave (run regions ops) m k out j after) log h)
  where
    again : (j : Log) (after : Output) → Gave (run regions ops) m no_log out j after → Gave (run regions ops) m no_log no_replies j after
    again j after h = record {
      explained = h.explained;
      replied = h.replied ∙ ap (λ w. w ++ (run regions ops m).replies) r;
      emitted = h.emitted ∙ ap (λ w. w ++ (run regions ops m).emits) e;
      left = h.left;
      wrote = h.wrote;
    }

pub going-begun : (good : List ℕ → Type 0) (words : ℕ) (regions : List Region) (script : List Op) (v : CallerState) (alg : Alg) (out : Output)
    → ScriptFits regions words script → ScriptKeeps good words regions script → length script ≤ out.room → out.replies ≡ [] → out.emits ≡ []
    → v.log ≡ no_log → IsExplained good words v.log → v.alg ≡ alg → v.granted ≡ false → Going good words regions script script v alg false out false
going-begun good words regions script v alg out fits rule room r e log ex named ungranted = record {
  fits = fits;
  rule = rule;
  room = (let a = ap length r in let b = ap length e in (omega (arith, a, room), omega (arith, b, room)));
  explained = ex;
  keeps = subst (λ (l : Log). Under good words l good) (sym log) (λ m fine len x. fine);
  named = named;
  writer = sym (ap (λ (l : Log). not (is_empty l.writes)) log);
  irrevocable = (λ i. irrevocable_under (sym named i) (sym ungranted i) (sym (ap (λ (l : Log). not (is_empty l.writes)) log) i));
  first = [];
  is = refl;
  on = λ more m fine len x. begun-on regions more m v.log out log r e;
  ends = λ h. h;
  cut = λ off m fine len x. begun-on regions (before_cancel script) m v.log out log r e;
  unasked = λ off. refl;
}

-- one operation more is done
gives-more : (regions : List Region) (first : List Op) (op : Op) (more : List Op) (m : List ℕ) (l : Log) (out : Output) (k : Log) (next : Output)
    → GivesOn regions (first ++ op ∷ more) (op ∷ more) m no_log no_replies l out → Gave (ran_one regions op) m l out k next → GivesOn regions ((first ++ op ∷ []) ++ more) more m no_log no_replies k next
gives-more regions first op more m l out k next on one =
    subst (λ ops. GivesOn regions ops more m no_log no_replies k next) (sym (append_assoc first (op ∷ []) more)) (gives-step regions (first ++ op ∷ more) op more m no_log no_replies l out k next on one)

one-of : {A : Type 0} (P : A → Type 0) (x : A) → P x → All P (x ∷ [])
one-of {A = A} P x h = λ i d lt. at i d lt
  where
    at : (i : ℕ) (d : A) → i < 1 → P (get_or (x ∷ []) i d)
    at zero d lt = h
    at (suc i) d lt = absurd (omega arith)

or-none : (b : Bool) → b || false ≡ b
or-none true = refl
or-none false = refl

one-wrote : (regions : List Region) (op : Op) (m : List ℕ) → (ran_one regions op m).wrote ≡ writes op (effect_of regions op m).reply
one-wrote regions (Read a) m = refl
one-wrote regions (Write a v) m = refl
one-wrote regions (Add a k) m = refl
one-wrote regions (Move a b k) m = by (ltb (slice_index m a) k)
  where
    by : (less : Bool)
        → (if less then replies 0 m else record { reply = 1; emits = []; memory = moved a b k m; wrote = true }).wrote || false
        ≡ ((if less then replies 0 m else record { reply = 1; emits = []; memory = moved a b k m; wrote = true }).reply == 1)
    by true = refl
    by false = refl
one-wrote regions (Emit a) m = refl
one-wrote regions Irrev m = refl
one-wrote regions Cancel m = refl
one-wrote regions (Count r stripe k) m = refl
one-wrote regions (Total r) m = refl
one-wrote regions (ListInsert r key) m = or-none (inserted_in (list_of (list_in regions r)) key m).wrote ∙ chain-insert-wrote (list_of (list_in regions r)) key m
one-wrote regions (ListRemove r key) m = or-none (removed_in (list_of (list_in regions r)) key m).wrote ∙ chain-remove-wrote (list_of (list_in regions r)) key m
one-wrote regions (ListContains r key) m = refl
one-wrote regions (ListLength r) m = refl
one-wrote regions (HashInsert r key) m = or-none (inserted_in (hash_of (hash_in regions r)) key m).wrote ∙ chain-insert-wrote (hash_of (hash_in regions r)) key m
one-wrote regions (HashRemove r key) m = or-none (removed_in (hash_of (hash_in regions r)) key m).wrote ∙ chain-remove-wrote (hash_of (hash_in regions r)) key m
one-wrote regions (HashContains r key) m = refl
one-wrote regions (TreeInsert r key) m = or-none (tree_inserted_in (tree_in regions r) key m).wrote ∙ tree-insert-wrote (tree_in regions r) key m
one-wrote regions (TreeRemove r key) m = or-none (tree_removed_in (tree_in regions r) key m).wrote ∙ tree-remove-wrote (tree_in regions r) key m
one-wrote regions (TreeContains r key) m = refl
one-wrote regions (TreeLeast r) m = refl
one-wrote regions (QueuePut r v) m = or-none (put_in (queue_in regions r) v m).wrote ∙ queue-put-wrote (queue_in regions r) v m
one-wrote regions (QueueGet r) m = or-none (got_in (queue_in regions r) m).wrote ∙ queue-get-wrote (queue_in regions r) m
one-wrote regions (MapPut r key v) m = or-none (map_put_in (sum_map_in regions r) key v m).wrote ∙ map-put-wrote (sum_map_in regions r) key v m
one-wrote regions (MapRemove r key) m = or-none (map_removed_in (sum_map_in regions r) key m).wrote ∙ map-remove-wrote (sum_map_in regions r) key m
one-wrote regions (MapGet r key) m = refl
one-wrote regions (MapSum r lo hi) m = refl

-- the reply that was told is that of the operation
one-reply : (xs : List ℕ) (r s : ℕ) → xs ++ r ∷ [] ≡ xs ++ s ∷ [] → r ≡ s
one-reply xs r s e = let h = append_cancel_left xs (r ∷ []) (s ∷ []) e in cc

not-irrevocable : (a b : Bool) → (a ≡ true → b ≡ true) → b ≡ false → a ≡ false
not-irrevocable true b up off = absurd (let e = up refl in cc)
not-irrevocable false b up off = refl

or-right : (a b : Bool) → b ≡ true → a || b ≡ true
or-right true b h = refl
or-right false b h = h

or-false : (a : Bool) → a ≡ a || false
or-false true = refl
or-false false = refl

cut-plain : (op : Op) (rest : List Op) → is_cancel op ≡ false → before_cancel (op ∷ rest) ≡ op ∷ before_cancel rest
cut-plain op rest h = ap (λ b. if b then [] else op ∷ before_cancel rest) h

cut-irrev : (op : Op) (rest : List Op) → is_irrev op ≡ false → is_cancel op ≡ false → has_irrev (before_cancel (op ∷ rest)) ≡ has_irrev (before_cancel rest)
cut-irrev op rest unasked plain = ap has_irrev (cut-plain op rest plain) ∙ ap (λ b. b || has_irrev (before_cancel rest)) unasked

-- whether the attempt has written then
pub wrote-one : (good : List ℕ → Type 0) (words : ℕ) (regions : List Region) (op : Op) (v w : CallerState) (out next : Output) (wrote : Bool) (reply : ℕ)
    → next ≡ record out { replies = out.replies ++ reply ∷ []; emits = out.emits ++ emits_of op reply } → wrote ≡ knows.wrote v
    → GaveOver good words (ran_one regions op) v.log out w.log next → IsExplained good words w.log
    → wrote || writes op reply ≡ knows.wrote w
wrote-one good words regions op v w out next wrote reply told was gave ex =
    let m = ex.0 in
    let here = gave m ex.1 ex.2 ex.3 in
    let same_reply : (effect_of regions op (overlay m v.log.writes)).reply ≡ reply =
    one-reply out.replies (effect_of regions op (overlay m v.log.writes)).reply reply (sym here.replied ∙ ap (λ (o : Output). o.replies) told) in
    ap (λ b. b || writes op reply) was ∙ sym (here.wrote ∙ ap (λ b. not (is_empty v.log.writes) || b) (one-wrote regions op (overlay m v.log.writes) ∙ ap (writes op) same_reply))

-- an operation that the memory did: it asked for nothing, or what it asked for was granted
pub going-step : (good : List ℕ → Type 0) (words : ℕ) (regions : List Region) (script : List Op) (op : Op) (rest : List Op)
    (v w : CallerState) (alg : Alg) (was granted : Bool) (out next : Output) (wrote : Bool) (reply : ℕ)
    → is_cancel op ≡ false → (is_irrevocable w ≡ false → is_irrev op ≡ false)
    → next ≡ record out { replies = out.replies ++ reply ∷ []; emits = out.emits ++ emits_of op reply }
    → Going good words regions script (op ∷ rest) v alg was out wrote
    → GaveOver good words (ran_one regions op) v.log out w.log next → IsExplained good words w.log
    → w.alg ≡ v.alg → irrevocable_under alg granted (wrote || writes op reply) ≡ is_irrevocable w → (is_irrevocable v ≡ true → is_irrevocable w ≡ true) → HasRoom next (length rest)
    → Going good words regions script rest w alg granted next (wrote || writes op reply)
going-step good words regions script op rest v w alg was granted out next wrote reply plain unasked told g gave ex same irrevocable up room =
    let m = ex.0 in
    let here = gave m ex.1 ex.2 ex.3 in
    let same_reply : (effect_of regions op (overlay m v.log.writes)).reply ≡ reply =
    one-reply out.replies (effect_of regions op (overlay m v.log.writes)).reply reply (sym here.replied ∙ ap (λ (o : Output). o.replies) told) in
    let more : not (is_empty w.log.writes) ≡ not (is_empty v.log.writes) || writes op reply =
    here.wrote ∙ ap (λ b. not (is_empty v.log.writes) || b) (one-wrote regions op (overlay m v.log.writes) ∙ ap (writes op) same_reply) in
    record {
      fits = All-tail (OpFits regions words) op rest g.fits;
      rule = All-tail (OpKeeps good words regions) op rest g.rule;
      room = room;
      explained = ex;
      keeps =
          keeps-gave good words (ran_one regions op) v.log out w.log next gave
          (keeps-run good words regions (op ∷ [])
          (one-of (OpKeeps good words regions) op (All-head (OpKeeps good words regions) op rest g.rule))) g.keeps;
      named = same ∙ g.named;
      writer = ap (λ b. b || writes op reply) g.writer ∙ sym more;
      irrevocable = irrevocable;
      first = g.first ++ op ∷ [];
      is = g.is ∙ sym (append_assoc g.first (op ∷ []) rest);
      on = λ more x fine len e. gives-more regions g.first op more x v.log out w.log next (g.on (op ∷ more) x fine len (gave x fine len e).explained) (gave x fine len e);
      ends = λ h. g.ends (or-right (is_cancel op) (has_cancel rest) h);
      cut = λ off x fine len e.
          gives-step regions (before_cancel script) op (before_cancel rest) x no_log no_replies v.log out w.log next
          (subst (λ ops. GivesOn regions (before_cancel script) ops x no_log no_replies v.log out) (cut-plain op rest plain)
          (g.cut (not-irrevocable (is_irrevocable v) (is_irrevocable w) up off) x fine len (gave x fine len e).explained))
          (gave x fine len e);
      unasked = λ off. g.unasked (not-irrevocable (is_irrevocable v) (is_irrevocable w) up off) ∙ cut-irrev op rest (unasked off) plain;
    }

-- a cancel that is refused replies 0, and no later one will end the attempt
pub going-refused : (good : List ℕ → Type 0) (words : ℕ) (regions : List Region) (script rest : List Op) (v : CallerState) (alg : Alg) (granted : Bool) (out next : Output) (wrote : Bool)
    → Going good words regions script (Cancel ∷ rest) v alg granted out wrote → is_irrevocable v ≡ true → next ≡ record out { replies = out.replies ++ 0 ∷ [] } → HasRoom next (length rest)
    → Going good words regions script rest v alg granted next wrote
going-refused good words regions script rest v alg granted out next wrote g irrevocable told room =
    let one : (x : List ℕ) → Explains x v.log.reads → Gave (ran_one regions Cancel) x v.log out v.log next = λ x e. record {
      explained = e;
      replied = ap (λ (o : Output). o.replies) told;
      emitted = ap (λ (o : Output). o.emits) told ∙ sym (append-nil out.emits);
      left = refl;
      wrote = or-false (not (is_empty v.log.writes));
    } in
    record {
      fits = All-tail (OpFits regions words) Cancel rest g.fits;
      rule = All-tail (OpKeeps good words regions) Cancel rest g.rule;
      room = room;
      explained = g.explained;
      keeps = g.keeps;
      named = g.named;
      writer = g.writer;
      irrevocable = g.irrevocable;
      first = g.first ++ Cancel ∷ [];
      is = g.is ∙ sym (append_assoc g.first (Cancel ∷ []) rest);
      on = λ more x fine len e. gives-more regions g.first Cancel more x v.log out v.log next (g.on (Cancel ∷ more) x fine len e) (one x e);
      ends = λ h. g.ends refl;
      cut = λ off. absurd (let e : true ≡ false = sym irrevocable ∙ off in cc);
      unasked = λ off. absurd (let e : true ≡ false = sym irrevocable ∙ off in cc);
    }

-- what was asked for by `irrev` is granted, which replies 1
pub going-asked : (good : List ℕ → Type 0) (words : ℕ) (regions : List Region) (script rest : List Op) (v w : CallerState) (alg : Alg) (was granted : Bool) (out next : Output) (wrote : Bool)
    → Going good words regions script (Irrev ∷ rest) v alg was out wrote → w.log ≡ v.log → w.alg ≡ v.alg → IsExplained good words w.log → irrevocable_under alg granted wrote ≡ true → is_irrevocable w ≡ true
    → next ≡ record out { replies = out.replies ++ 1 ∷ [] } → HasRoom next (length rest) → Going good words regions script rest w alg granted next wrote
going-asked good words regions script rest v w alg was granted out next wrote g log same ex irrevocable certain told room =
    let one : (x : List ℕ) → Explains x w.log.reads → Gave (ran_one regions Irrev) x v.log out w.log next = λ x e. record {
      explained = subst (λ (l : Log). Explains x l.reads) log e;
      replied = ap (λ (o : Output). o.replies) told;
      emitted = ap (λ (o : Output). o.emits) told ∙ sym (append-nil out.emits);
      left = ap (λ (l : Log). overlay x l.writes) log;
      wrote = ap (λ (l : Log). not (is_empty l.writes)) log ∙ or-false (not (is_empty v.log.writes));
    } in
    record {
      fits = All-tail (OpFits regions words) Irrev rest g.fits;
      rule = All-tail (OpKeeps good words regions) Irrev rest g.rule;
      room = room;
      explained = ex;
      keeps = subst (λ (l : Log). Under good words l good) (sym log) g.keeps;
      named = same ∙ g.named;
      writer = g.writer ∙ ap (λ (l : Log). not (is_empty l.writes)) (sym log);
      irrevocable = irrevocable ∙ sym certain;
      first = g.first ++ Irrev ∷ [];
      is = g.is ∙ sym (append_assoc g.first (Irrev ∷ []) rest);
      on = λ more x fine len e. gives-more regions g.first Irrev more x v.log out w.log next (g.on (Irrev ∷ more) x fine len (one x e).explained) (one x e);
      ends = λ h. g.ends h;
      cut = λ off. absurd (let e : true ≡ false = sym certain ∙ off in cc);
      unasked = λ off. absurd (let e : true ≡ false = sym certain ∙ off in cc);
    }

-- the attempt knows more, and its script is where it was
pub going-later : (good : List ℕ → Type 0) (words : ℕ) (regions : List Region) (script rest : List Op) (v w : CallerState) (alg : Alg) (was granted : Bool) (out : Output) (wrote : Bool)
    → Going good words regions script rest v alg was out wrote → w.log ≡ v.log → w.alg ≡ v.alg → IsExplained good words w.log
    → irrevocable_under alg granted wrote ≡ is_irrevocable w → (is_irrevocable w ≡ false → is_irrevocable v ≡ false)
    → Going good words regions script rest w alg granted out wrote
going-later good words regions script rest v w alg was granted out wrote g log same ex irrevocable down = record {
  fits = g.fits;
  rule = g.rule;
  room = g.room;
  explained = ex;
  keeps = subst (λ (l : Log). Under good words l good) (sym log) g.keeps;
  named = same ∙ g.named;
  writer = g.writer ∙ ap (λ (l : Log). not (is_empty l.writes)) (sym log);
  irrevocable = irrevocable;
  first = g.first;
  is = g.is;
  on = λ more m fine len x. subst (λ (l : Log). GivesOn regions (g.first ++ more) more m no_log no_replies l out) (sym log) (g.on more m fine len (subst (λ (l : Log). Explains m l.reads) log x));
  ends = g.ends;
  cut =
      λ off m fine len x.
      subst (λ (l : Log). GivesOn regions (before_cancel script) (before_cancel rest) m no_log no_replies l out) (sym log)
      (g.cut (down off) m fine len (subst (λ (l : Log). Explains m l.reads) log x));
  unasked = λ off. g.unasked (down off);
}

-- what is done of the script
pub gave-first : (good : List ℕ → Type 0) (words : ℕ) (regions : List Region) (script rest : List Op) (v : CallerState) (alg : Alg)
    (granted : Bool) (out : Output) (wrote : Bool) (g : Going good words regions script rest v alg granted out wrote)
    → GaveOver good words (run regions g.first) no_log no_replies v.log out
gave-first good words regions script rest v alg granted out wrote g = λ m fine len x.
    subst (λ ops. Gave (run regions ops) m no_log no_replies v.log out) (append-nil g.first) (g.on [] m fine len x v.log out (gives-none regions m v.log out x))

-- the script is over
pub gave-all : (good : List ℕ → Type 0) (words : ℕ) (regions : List Region) (script rest : List Op) (v : CallerState) (alg : Alg) (granted : Bool) (out : Output) (wrote : Bool)
    → Going good words regions script rest v alg granted out wrote → rest ≡ [] → GaveOver good words (run regions script) no_log no_replies v.log out
gave-all good words regions script rest v alg granted out wrote g none =
    let whole : g.first ≡ script = sym (append-nil g.first) ∙ (ap (λ ops. g.first ++ ops) (sym none) ∙ sym g.is) in
    subst (λ ops. GaveOver good words (run regions ops) no_log no_replies v.log out) whole (gave-first good words regions script rest v alg granted out wrote g)

-- it ends before a cancel, and no irrev is after it
pub gave-cut : (good : List ℕ → Type 0) (words : ℕ) (regions : List Region) (script rest : List Op) (v : CallerState) (alg : Alg) (granted : Bool) (out : Output) (wrote : Bool)
    → Going good words regions script (Cancel ∷ rest) v alg granted out wrote → is_irrevocable v ≡ false → GaveOver good words (run regions (before_cancel script)) no_log no_replies v.log out
gave-cut good words regions script rest v alg granted out wrote g off = λ m fine len x. g.cut off m fine len x v.log out (gives-none regions m v.log out x)

pub cut-unasked : (good : List ℕ → Type 0) (words : ℕ) (regions : List Region) (script rest : List Op) (v : CallerState) (alg : Alg) (granted : Bool) (out : Output) (wrote : Bool)
    → Going good words regions script (Cancel ∷ rest) v alg granted out wrote → is_irrevocable v ≡ false → has_irrev (before_cancel script) ≡ false
cut-unasked good words regions script rest v alg granted out wrote g off = g.unasked off

-- before its next operation each region is well formed in every memory that the attempt may be in
pub going-well : (good : List ℕ → Type 0) (words : ℕ) (regions : List Region) (script ops : List Op) (op : Op) (v : CallerState) (alg : Alg) (granted : Bool) (out : Output) (wrote : Bool)
    → Next op ops → Going good words regions script ops v alg granted out wrote → Under good words v.log (AllWellFormed regions)
going-well good words regions script [] op v alg granted out wrote next g = absurd next
going-well good words regions script (o ∷ rest) op v alg granted out wrote next g = λ m fine len ex.
    (All-head (OpKeeps good words regions) o rest g.rule).well (overlay m v.log.writes) (g.keeps m fine len ex)
