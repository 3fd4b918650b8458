-- How the cells of an attempt read as items of its log.
use Rattle.std.proofs.Common.{ℕ, ◌≡◌, ◌≢◌, ◌<◌, List, [], ◌∷◌, ◌++◌, Bool, true, false, refl, sym, ap, ◌∙◌, arith}
use Rattle.std.specs.Prelude.{Some, None, ◌==◌, if◌then◌else◌}
use Rattle.std.proofs.lemmas.Bool.Decides.{nat_tests}
use Rattle.stm_model.specs.Logs.{Log, Reads}
use Rattle.stm_model.specs.Memories.{item_at, put, is_empty}
use Rattle.stm_model.specs.PlainLaws.{put-item}
use Rattle.rule_base.specs.declared.entries.Cell.{Cell}
use Rattle.rule_base.specs.declared.views.Attempt.{Attempt}
use Rattle.rule_base.specs.Bridge.{items}
use Rattle.rule_base.specs.Lemmas.BridgeLemmas.{item-none, items-some}
use Rattle.rule_base.specs.History.{over, touches, Inside, Explains}
use Rattle.rule_base.specs.Lemmas.HistoryLemmas.{over-miss, over-hit, inside-more}
use Rattle.rule_seq.specs.CglSteps.{logged}

-- an address that has cells has an item with the latest value
pub item-touched : (cs : List Cell) (a : ℕ) → touches cs a ≡ true → item_at a (items cs) ≡ Some (over cs a 0)
item-touched [] a t = absurd cc
item-touched (c ∷ cs) a t = put-item c.at c.value a (items cs) ∙ by (c.at == a) refl t (item-touched cs a)
  where
    by : (b : Bool) → (c.at == a) ≡ b → (if c.at == a then true else touches cs a) ≡ true → (touches cs a ≡ true → item_at a (items cs) ≡ Some (over cs a 0))
        → (if c.at == a then Some c.value else item_at a (items cs)) ≡ Some (if c.at == a then c.value else over cs a 0)
    by true q f rec = rw q refl
    by false q f rec = rw q (rec (rw q at f))

pub put-same : (a v : ℕ) (ws : List (ℕ × ℕ)) → item_at a ws ≡ Some v → put a v ws ≡ ws
put-same a v [] e = absurd cc
put-same a v (w ∷ ws) e = by (w.0 == a) refl e (put-same a v ws)
  where
    by : (b : Bool) → (w.0 == a) ≡ b → (if w.0 == a then Some w.1 else item_at a ws) ≡ Some v → (item_at a ws ≡ Some v → put a v ws ≡ ws) → (if w.0 == a then (a, v) ∷ ws else w ∷ put a v ws) ≡ w ∷ ws
    by true q f rec = let s : w.0 ≡ a = grind (arith, nat_tests) in let x : Some w.1 ≡ Some v = rw q at f in let y : w.1 ≡ v = cc in rw q (ap (λ b. (b, v) ∷ ws) (sym s) ∙ ap (λ b. (w.0, b) ∷ ws) (sym y))
    by false q f rec = rw q (ap (λ l. w ∷ l) (rec (rw q at f)))

pub put-new : (a v : ℕ) (ws : List (ℕ × ℕ)) → item_at a ws ≡ None → put a v ws ≡ ws ++ (a, v) ∷ []
put-new a v [] e = refl
put-new a v (w ∷ ws) e = by (w.0 == a) refl e (put-new a v ws)
  where
    by : (b : Bool) → (w.0 == a) ≡ b → (if w.0 == a then Some w.1 else item_at a ws) ≡ None
        → (item_at a ws ≡ None → put a v ws ≡ ws ++ (a, v) ∷ [])
        → (if w.0 == a then (a, v) ∷ ws else w ∷ put a v ws) ≡ w ∷ (ws ++ (a, v) ∷ [])
    by true q f rec = absurd (let g = rw q at f in cc)
    by false q f rec = rw q (ap (λ l. w ∷ l) (rec (rw q at f)))

-- a log that wrote is not empty
pub wrote-some : (cs : List Cell) → cs ≢ [] → is_empty (items cs) ≡ false
wrote-some cs n = by (items cs) (items-some cs n)
  where
    by : (ws : List (ℕ × ℕ)) → ws ≢ [] → is_empty ws ≡ false
    by [] m = absurd (m refl)
    by (w ∷ ws) m = refl

-- what is logged lies in the memory
pub inside-logged : (words : ℕ) (t : Attempt) (a x : ℕ) → a < words → Inside words t.reads → Inside words (logged t a x)
inside-logged words t a x low inside = by (touches t.stores a)
  where
    by : (b : Bool) → Inside words (if b then t.reads else record { at = a; value = x } ∷ t.reads)
    by true = inside
    by false = inside-more words (record { at = a; value = x }) t.reads low inside

abbrev pub log_of : List Cell → List Cell → Log
log_of reads stores = record { reads = items reads; writes = items stores }

reads-by : (m : ℕ → ℕ) (t : Attempt) (a x : ℕ) → Explains m t.reads → x ≡ over t.stores a (m a)
    → (own : Bool) → touches t.stores a ≡ own → (old : Bool) → touches t.reads a ≡ old
    → Reads (log_of t.reads t.stores) a x (log_of (if own then t.reads else record { at = a; value = x } ∷ t.reads) t.stores)
reads-by m t a x sees value true q old p =
    let own : item_at a (items t.stores) ≡ Some (over t.stores a 0) = item-touched t.stores a q in
    let is : x ≡ over t.stores a 0 = value ∙ over-hit t.stores a (m a) 0 q in
    (refl, rw own (is, refl))
reads-by m t a x sees value false q true p =
    let own : item_at a (items t.stores) ≡ None = item-none t.stores a q in
    let at : item_at a (items t.reads) ≡ Some (over t.reads a 0) = item-touched t.reads a p in
    let is : x ≡ over t.reads a 0 = value ∙ (over-miss t.stores a (m a) q ∙ (sym (sees a) ∙ over-hit t.reads a (m a) 0 p)) in
    let same : put a x (items t.reads) ≡ items t.reads = put-same a x (items t.reads) (at ∙ ap Some (sym is)) in
    (refl, rw own (rw at (is, same)))
reads-by m t a x sees value false q false p =
    let own : item_at a (items t.stores) ≡ None = item-none t.stores a q in
    let at : item_at a (items t.reads) ≡ None = item-none t.reads a p in
    (refl, rw own (rw at (put-new a x (items t.reads) at)))

-- a load of a word of the memory m under the own stores is a read of the log
pub reads-logged : (m : ℕ → ℕ) (t : Attempt) (a x : ℕ) → Explains m t.reads → x ≡ over t.stores a (m a) → Reads (log_of t.reads t.stores) a x (log_of (logged t a x) t.stores)
reads-logged m t a x sees value = reads-by m t a x sees value (touches t.stores a) refl (touches t.reads a) refl
