-- The laws of the bridge.
use Rattle.std.proofs.Common.{ℕ, zero, suc, ◌≡◌, ◌≢◌, ◌<◌, ◌≤◌, ◌+◌, ◌-◌, List, [], ◌∷◌, ◌++◌, length, get_or, set, replicate, Bool, true, false, refl, sym, ap, ◌∙◌, arith, subst, append_assoc, length-append}
use Rattle.std.proofs.lemmas.List.{append-nil}
use Rattle.std.specs.Prelude.{◌^◌, Option, Some, None, All, slice_index, nat_le, leb, ◌==◌, if◌then◌else◌}
use Rattle.std.proofs.lemmas.List.Elements.{All-nil, All-cons, All-push, All-weaker, All-head, All-tail}
use Rattle.std.proofs.lemmas.Bool.Decides.{nat_tests}
use Rattle.stm_model.specs.Memories.{AreWords, overlay, item_at, put, Once}
use Rattle.stm_model.specs.Memories as public_memories
use Rattle.stm_model.specs.Histories.{Ascending, Numbered, IsEntry, IsLegal, memory_at}
use Rattle.stm_model.specs.Histories as public
use Rattle.stm_model.specs.Logs as public_logs
use Rattle.stm_model.specs.HistoryLaws.{memory_at-append}
use Rattle.stm_model.specs.Overlays.{overlay-put}
use Rattle.stm_model.specs.PlainLaws.{put-item}
use Rattle.rule_base.specs.declared.entries.Cell.{Cell}
use Rattle.rule_base.specs.declared.entries.Entry.{Entry}
use Rattle.stm_model.specs.declared.config.Config.{Config}
use Rattle.rule_base.specs.History.{over, touches, Inside, Explains, word_at, word_now, Below, made_by, Keeps, Legal}
use Rattle.rule_base.specs.Lemmas.HistoryLemmas.{word_at-all, small-always}
use Rattle.rule_base.specs.Bridge.{words_of, items, public_entry, public_history, of_words}

pub length-words_of : (n : ℕ) (m : ℕ → ℕ) → length (words_of n m) ≡ n
length-words_of zero m = refl
length-words_of (suc n) m = ap suc (length-words_of n (λ a. m (suc a)))

pub words_of-at : (n : ℕ) (m : ℕ → ℕ) (a : ℕ) → a < n → get_or (words_of n m) a 0 ≡ m a
words_of-at zero m a lt = absurd (omega arith)
words_of-at (suc n) m zero lt = refl
words_of-at (suc n) m (suc a) lt = words_of-at n (λ b. m (suc b)) a (omega arith)

pub words_of-words : (n : ℕ) (m : ℕ → ℕ) → ((a : ℕ) → m a < 2 ^ 64) → AreWords (words_of n m)
words_of-words zero m h = All-nil (λ (v : ℕ). v < 2 ^ 64)
words_of-words (suc n) m h = All-cons (λ (v : ℕ). v < 2 ^ 64) (m 0) (words_of n (λ a. m (suc a))) (h 0) (words_of-words n (λ a. m (suc a)) (λ a. h (suc a)))

pub words_of-same : (n : ℕ) (m k : ℕ → ℕ) → ((a : ℕ) → m a ≡ k a) → words_of n m ≡ words_of n k
words_of-same zero m k h = refl
words_of-same (suc n) m k h = let t = words_of-same n (λ a. m (suc a)) (λ a. k (suc a)) (λ a. h (suc a)) in let e : m 0 ≡ k 0 = h 0 in cc

suc_test : (a b : ℕ) → (suc a == suc b) ≡ (a == b)
suc_test a b = grind (arith, nat_tests)

zero_test : (b : ℕ) → (0 == suc b) ≡ false
zero_test b = grind (arith, nat_tests)

pub words_of-set : (n : ℕ) (m : ℕ → ℕ) (a v : ℕ) → set (words_of n m) a v ≡ words_of n (λ b. if a == b then v else m b)
words_of-set zero m a v = refl
words_of-set (suc n) m zero v = ap (λ l. v ∷ l) (words_of-same n (λ a. m (suc a)) (λ b. if 0 == suc b then v else m (suc b)) (λ b. rw (zero_test b) refl))
words_of-set (suc n) m (suc a) v =
    let q : (suc a == 0) ≡ false = grind (arith, nat_tests) in
    rw q (ap (λ l. m 0 ∷ l) (words_of-set n (λ b. m (suc b)) a v
    ∙ words_of-same n (λ b. if a == b then v else m (suc b)) (λ b. if suc a == suc b then v else m (suc b)) (λ b. rw (suc_test a b) refl)))

pub words_of-zeros : (n : ℕ) → words_of n (λ a. 0) ≡ replicate n 0
words_of-zeros zero = refl
words_of-zeros (suc n) = ap (λ l. 0 ∷ l) (words_of-zeros n)

-- the cells of a memory are its items
pub words_of-over : (n : ℕ) (m : ℕ → ℕ) (cs : List Cell) → overlay (words_of n m) (items cs) ≡ words_of n (λ a. over cs a (m a))
words_of-over n m [] = refl
words_of-over n m (c ∷ cs) = overlay-put (words_of n m) c.at c.value (items cs) ∙ (ap (λ l. set l c.at c.value) (words_of-over n m cs) ∙ words_of-set n (λ a. over cs a (m a)) c.at c.value)

memories_by : (n s : ℕ) (f : ℕ → ℕ) (m : List ℕ) (e : Entry) (t : Bool) → nat_le e.time s ≡ t → m ≡ words_of n f
    → (if leb e.time s then overlay m (items e.writes) else m) ≡ words_of n (λ a. if nat_le e.time s then over e.writes a (f a) else f a)
memories_by n s f m e true q h = rw q (rw h (words_of-over n f e.writes))
memories_by n s f m e false q h = rw q h

-- the memory at a time, as words, is that of the public history
pub memories : (n s : ℕ) (h : List Entry) → memory_at s (public_history h) (replicate n 0) ≡ words_of n (word_at h s)
memories n s [] = sym (words_of-zeros n)
memories n s (e ∷ h) =
    memory_at-append s (public_history h) (public_entry e ∷ []) (replicate n 0)
    ∙ memories_by n s (word_at h s) (memory_at s (public_history h) (replicate n 0)) e (nat_le e.time s) refl (memories n s h)

pub memories-at : (n s a : ℕ) (h : List Entry) → a < n → slice_index (memory_at s (public_history h) (replicate n 0)) a ≡ word_at h s a
memories-at n s a h lt = rw (memories n s h) (words_of-at n (word_at h s) a lt)

abbrev or_else : Option ℕ → ℕ → ℕ
or_else None d = d
or_else (Some v) d = v

if_else : (t : Bool) (o : Option ℕ) (v d : ℕ) → or_else (if t then Some v else o) d ≡ (if t then v else or_else o d)
if_else true o v d = refl
if_else false o v d = refl

-- a word under the cells is the item of the address
over_item : (cs : List Cell) (a d : ℕ) → over cs a d ≡ or_else (item_at a (items cs)) d
over_item [] a d = refl
over_item (c ∷ cs) a d = rw (put-item c.at c.value a (items cs)) (rw (if_else (c.at == a) (item_at a (items cs)) c.value d) (rw (over_item cs a d) refl))

-- an address has an item where a cell is of it
pub item-some : (cs : List Cell) (a v : ℕ) → item_at a (items cs) ≡ Some v → (touches cs a ≡ true) × (over cs a 0 ≡ v)
item-some cs a v e = (touched cs e, over_item cs a 0 ∙ ap (λ o. or_else o 0) e)
  where
    touched : (ds : List Cell) → item_at a (items ds) ≡ Some v → touches ds a ≡ true
    touched [] f = absurd cc
    touched (d ∷ ds) f = by (d.at == a) refl (sym (put-item d.at d.value a (items ds)) ∙ f) (touched ds)
      where
        by : (t : Bool) → (d.at == a) ≡ t → (if d.at == a then Some d.value else item_at a (items ds)) ≡ Some v → (item_at a (items ds) ≡ Some v → touches ds a ≡ true) → (if d.at == a then true else touches ds a) ≡ true
        by true q g rec = rw q refl
        by false q g rec = rw q (rec (rw q at g))

-- and none where no cell is
pub item-none : (cs : List Cell) (a : ℕ) → touches cs a ≡ false → item_at a (items cs) ≡ None
item-none [] a e = refl
item-none (c ∷ cs) a e = put-item c.at c.value a (items cs) ∙ by (c.at == a) refl e (item-none cs a)
  where
    by : (t : Bool) → (c.at == a) ≡ t → (if c.at == a then true else touches cs a) ≡ false → (touches cs a ≡ false → item_at a (items cs) ≡ None) → (if c.at == a then Some c.value else item_at a (items cs)) ≡ None
    by true q f rec = absurd (let g = rw q at f in cc)
    by false q f rec = rw q (rec (rw q at f))

once_put : (a v : ℕ) (ws : List (ℕ × ℕ)) → Once ws → Once (put a v ws)
once_put a v [] o = (refl, tt)
once_put a v (w ∷ ws) o = by (w.0 == a) refl (once_put a v ws o.1)
  where
    by : (t : Bool) → (w.0 == a) ≡ t → Once (put a v ws) → Once (if t then (a, v) ∷ ws else w ∷ put a v ws)
    by true q h = let e : w.0 ≡ a = grind (arith, nat_tests) in (subst (λ b. item_at b ws ≡ None) e o.0, o.1)
    by false q h = let n : (a == w.0) ≡ false = grind (arith, nat_tests) in (put-item a v w.0 ws ∙ rw n o.0, h)

-- no address comes twice
pub items-once : (cs : List Cell) → Once (items cs)
items-once [] = tt
items-once (c ∷ cs) = once_put c.at c.value (items cs) (items-once cs)

no_put : (a v : ℕ) (ws : List (ℕ × ℕ)) → put a v ws ≡ [] → ⊥
no_put a v [] e = cc
no_put a v (w ∷ ws) e = by (w.0 == a) e
  where
    by : (t : Bool) → (if t then (a, v) ∷ ws else w ∷ put a v ws) ≡ [] → ⊥
    by true f = cc
    by false f = cc

pub items-some : (cs : List Cell) → cs ≢ [] → items cs ≢ []
items-some [] n e = n refl
items-some (c ∷ cs) n e = no_put c.at c.value (items cs) e

-- with no address twice, each item tells all
explains_from : (m : List ℕ) (ws : List (ℕ × ℕ)) → Once ws → ((a v : ℕ) → item_at a ws ≡ Some v → get_or m a 0 ≡ v) → public_memories.Explains m ws
explains_from m [] o h = tt
explains_from m (w ∷ ws) o h = (h w.0 w.1 (let q : (w.0 == w.0) ≡ true = grind (arith, nat_tests) in rw q refl), explains_from m ws o.1 (λ a v e. h a v (skip a v e)))
  where
    skip : (a v : ℕ) → item_at a ws ≡ Some v → (if w.0 == a then Some w.1 else item_at a ws) ≡ Some v
    skip a v e = by (w.0 == a) refl
      where
        by : (t : Bool) → (w.0 == a) ≡ t → (if t then Some w.1 else item_at a ws) ≡ Some v
        by true q = let s : w.0 ≡ a = grind (arith, nat_tests) in let g : item_at a ws ≡ None = subst (λ b. item_at b ws ≡ None) s o.0 in absurd cc
        by false q = e

-- reads that hold at each address hold as items, and the other way
pub explains-items : (n : ℕ) (m : ℕ → ℕ) (cs : List Cell) → Inside n cs → Explains m cs → public_memories.Explains (words_of n m) (items cs)
explains-items n m cs inside h = explains_from (words_of n m) (items cs) (items-once cs) (λ a v e.
    words_of-at n m a (inside a (item-some cs a v e).0) ∙ (sym (h a) ∙ (over_item cs a (m a) ∙ ap (λ o. or_else o (m a)) e)))

-- what a log keeps as a user states it, it keeps for the rule
pub keeps-cells : (good : List ℕ → Type 0) (n : ℕ) (reads writes : List Cell) → Inside n reads → public_logs.Keeps good n (record { reads = items reads; writes = items writes }) → Keeps (of_words good n) reads writes
keeps-cells good n reads writes inside keeps m g sees small = subst good (words_of-over n m writes) (keeps (words_of n m) g (length-words_of n m) (explains-items n m reads inside sees) (words_of-words n m small))

-- an earlier part of the rule's history is a prefix of the public one
pub public_history-append : (more h : List Entry) → public_history (more ++ h) ≡ public_history h ++ public_history more
public_history-append [] h = sym (append-nil (public_history h))
public_history-append (e ∷ more) h = ap (λ l. l ++ public_entry e ∷ []) (public_history-append more h) ∙ append_assoc (public_history h) (public_history more) (public_entry e ∷ [])

made_by_append : (n : ℕ) (es : List public.Entry) (e : public.Entry) → public.made_by n (es ++ e ∷ []) ≡ (if e.caller == n then public.made_by n es ++ e ∷ [] else public.made_by n es)
made_by_append n [] e = by (e.caller == n)
  where
    by : (t : Bool) → (if t then e ∷ [] else []) ≡ (if t then e ∷ [] else [])
    by t = refl
made_by_append n (d ∷ es) e = by (d.caller == n) (e.caller == n) (made_by_append n es e)
  where
    by : (t u : Bool) → public.made_by n (es ++ e ∷ []) ≡ (if u then public.made_by n es ++ e ∷ [] else public.made_by n es)
        → (if t then d ∷ public.made_by n (es ++ e ∷ []) else public.made_by n (es ++ e ∷ []))
        ≡ (if u then (if t then d ∷ public.made_by n es else public.made_by n es)
        ++ e ∷ [] else (if t then d ∷ public.made_by n es else public.made_by n es))
    by true true h = ap (λ l. d ∷ l) h
    by true false h = ap (λ l. d ∷ l) h
    by false true h = h
    by false false h = h

-- a caller's entries are its part of the public history
pub public_history-made_by : (n : ℕ) (h : List Entry) → public_history (made_by h n) ≡ public.made_by n (public_history h)
public_history-made_by n [] = refl
public_history-made_by n (e ∷ h) = by (e.caller == n) (public_history-made_by n h) ∙ sym (made_by_append n (public_history h) (public_entry e))
  where
    by : (t : Bool) → public_history (made_by h n) ≡ public.made_by n (public_history h)
        → public_history (if t then e ∷ made_by h n else made_by h n) ≡ (if t then public.made_by n (public_history h) ++ public_entry e ∷ [] else public.made_by n (public_history h))
    by true r = ap (λ l. l ++ public_entry e ∷ []) r
    by false r = r

pub length-public_history : (h : List Entry) → length (public_history h) ≡ length h
length-public_history [] = refl
length-public_history (e ∷ h) = length-append (public_history h) (public_entry e ∷ []) ∙ (let r = length-public_history h in omega arith)

numbered_append : (k : ℕ) (es : List public.Entry) (e : public.Entry) → Numbered k es → e.number ≡ k + length es → Numbered k (es ++ e ∷ [])
numbered_append k [] e s q = (omega arith, tt)
numbered_append k (d ∷ es) e s q = (s.0, numbered_append (suc k) es e s.1 (omega arith))

-- the times of the public history are below t
pub all_before : (h : List Entry) (t : ℕ) → Below h t → All (λ (d : public.Entry). d.time < t) (public_history h)
all_before [] t b = All-nil (λ (d : public.Entry). d.time < t)
all_before (e ∷ h) t b = All-push (λ (d : public.Entry). d.time < t) (public_history h) (public_entry e)
    (All-weaker (λ (d : public.Entry). d.time < e.time) (λ (d : public.Entry). d.time < t) (λ d l. let k = b.0 in omega arith) (public_history h) (all_before h e.time b.1)) b.0

-- one later entry
pub ascending_append : (floor : ℕ) (es : List public.Entry) (e : public.Entry) → Ascending floor es → floor < e.time → All (λ (d : public.Entry). d.time < e.time) es → Ascending floor (es ++ e ∷ [])
ascending_append floor [] e a l h = (l, tt)
ascending_append floor (d ∷ es) e a l h = (a.0, ascending_append d.time es e a.1 (All-head (λ (d : public.Entry). d.time < e.time) d es h) (All-tail (λ (d : public.Entry). d.time < e.time) d es h))

module _ (good : List ℕ → Type 0) (c : Config) where
  zeros : List ℕ
  zeros = replicate c.words 0

  good_same : (m k : ℕ → ℕ) → ((a : ℕ) → m a ≡ k a) → good (words_of c.words m) → good (words_of c.words k)
  good_same m k e = subst good (words_of-same c.words m k e)

  ascends : (h : List Entry) (t : ℕ) → Below h t → Legal (of_words good c.words) c h → Ascending c.clock (public_history h)
  ascends [] t b l = tt
  ascends (e ∷ h) t b l = ascending_append c.clock (public_history h) (public_entry e) (ascends h e.time b.1 l.1) l.0.later (all_before h e.time b.1)

  numbers : (n : ℕ) (h : List Entry) → Legal (of_words good c.words) c h → Numbered 0 (public.made_by n (public_history h))
  numbers n [] l = tt
  numbers n (e ∷ h) l = subst (Numbered 0) (sym (made_by_append n (public_history h) (public_entry e))) (by (e.caller == n) refl (numbers n h l.1))
    where
      by : (t : Bool) → (e.caller == n) ≡ t → Numbered 0 (public.made_by n (public_history h)) → Numbered 0 (if t then public.made_by n (public_history h) ++ public_entry e ∷ [] else public.made_by n (public_history h))
      by true q r =
          let same : e.caller ≡ n = grind (arith, nat_tests) in
          let count : length (made_by h e.caller) ≡ length (public.made_by n (public_history h)) = ap (λ k. length (made_by h k)) same ∙ sym
          (length-public_history (made_by h n)) ∙ ap length (public_history-made_by n h) in
          let number = l.0.number in
          numbered_append 0 (public.made_by n (public_history h)) (public_entry e) r (omega arith)
      by false q r = r

  -- the memory after each prefix of a legal history is good
  pub legal-always : (h : List Entry) (t s : ℕ) → Below h t → Legal (of_words good c.words) c h → good (words_of c.words (word_at h s))
  legal-always [] t s b l = l
  legal-always (e ∷ h) t s b l = by (nat_le e.time s) refl (legal-always h e.time s b.1 l.1)
    where
      by : (x : Bool) → nat_le e.time s ≡ x → good (words_of c.words (word_at h s)) → good (words_of c.words (word_at (e ∷ h) s))
      by true q g = let le : e.time ≤ s + 1 = grind (arith, nat_tests) in
          good_same (word_now (e ∷ h)) (word_at (e ∷ h) s) (λ a. rw q (ap (over e.writes a) (sym (word_at-all h e.time s a b.1 le)))) l.0.leaves
      by false q g = good_same (word_at h s) (word_at (e ∷ h) s) (λ a. rw q refl) g

  reads_hold : (h : List Entry) (t : ℕ) → Below h t → Legal (of_words good c.words) c h
      → All (λ (d : public.Entry). public_memories.Explains (memory_at (d.time - 1) (public_history h) (replicate c.words 0)) d.reads)
      (public_history h)
  reads_hold [] t b l = All-nil (λ (d : public.Entry). public_memories.Explains (memory_at (d.time - 1) (public_history []) (replicate c.words 0)) d.reads)
  reads_hold (e ∷ h) t b l = All-push P (public_history h) (public_entry e)
      (All-weaker (λ (d : public.Entry). (d.time < e.time) × public_memories.Explains (memory_at (d.time - 1) (public_history h) (replicate c.words 0)) d.reads) P old (public_history h)
      (λ k d lt. (all_before h e.time b.1 k d lt, reads_hold h e.time b.1 l.1 k d lt)))
      new
    where
      P : public.Entry → Type 0
      P d = public_memories.Explains (memory_at (d.time - 1) (public_history (e ∷ h)) (replicate c.words 0)) d.reads

      old : (d : public.Entry)
          → (d.time < e.time) × public_memories.Explains (memory_at (d.time - 1) (public_history h) (replicate c.words 0)) d.reads
          → public_memories.Explains (memory_at (d.time - 1) (public_history (e ∷ h)) (replicate c.words 0)) d.reads
      old d p = subst (λ m. public_memories.Explains m d.reads) (sym (late d.time p.0)) p.1
        where
          late : (s : ℕ) → s < e.time → memory_at (s - 1) (public_history (e ∷ h)) (replicate c.words 0) ≡ memory_at (s - 1) (public_history h) (replicate c.words 0)
          late s lt = memory_at-append (s - 1) (public_history h) (public_entry e ∷ []) (replicate c.words 0) ∙ (let q : nat_le e.time (s - 1) ≡ false = grind (arith, nat_tests) in rw q refl)

      new : public_memories.Explains (memory_at (e.time - 1) (public_history (e ∷ h)) (replicate c.words 0)) (items e.reads)
      new = subst (λ m. public_memories.Explains m (items e.reads)) (sym here) (explains-items c.words (word_now h) e.reads l.0.reads_inside l.0.reads)
        where
          here : memory_at (e.time - 1) (public_history (e ∷ h)) (replicate c.words 0) ≡ words_of c.words (word_now h)
          here = memory_at-append (e.time - 1) (public_history h) (public_entry e ∷ []) (replicate c.words 0)
              ∙ ((let lt = l.0.later in let q : nat_le e.time (e.time - 1) ≡ false = grind (arith, nat_tests) in rw q refl)
              ∙ (memories c.words (e.time - 1) h ∙ words_of-same c.words (word_at h (e.time - 1)) (word_now h) (λ a. word_at-all h e.time (e.time - 1) a b.1 (omega arith))))

  entries : (h : List Entry) → Legal (of_words good c.words) c h → All IsEntry (public_history h)
  entries [] l = All-nil IsEntry
  entries (e ∷ h) l =
      All-push IsEntry (public_history h) (public_entry e) (entries h l.1)
      (record { reads_once = items-once e.reads; writes_once = items-once e.writes; writes_some = items-some e.writes l.0.writes_some })

  -- a history that is legal for the rule is legal as a user is told it
  pub legal-public : (h : List Entry) (t : ℕ) → Below h t → Legal (of_words good c.words) c h → IsLegal good (replicate c.words 0) c.clock (public_history h)
  legal-public h t b l = record {
    ascending = ascends h t b l;
    entries = entries h l;
    reads = reads_hold h t b l;
    numbered = λ n. numbers n h l;
    good_always = λ s. subst good (sym (memories c.words s h)) (legal-always h t s b l);
    words_always = λ s. subst AreWords (sym (memories c.words s h)) (words_of-words c.words (word_at h s) (λ a. small-always (of_words good c.words) c h s a l));
  }
