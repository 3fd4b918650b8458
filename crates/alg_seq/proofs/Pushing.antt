-- Serial: what a push into the logs comes to.
use Rattle.std.proofs.Common.{ℕ, ◌≡◌, ◌<◌, List, [], ◌∷◌, ◌++◌, length, Bool, true, false, refl, sym, ap, ◌∙◌, arith, subst, length-append}
use Rattle.std.specs.Prelude.{Option, Some, None, ◌==◌, if◌then◌else◌}
use Rattle.std.proofs.lemmas.Bool.Decides.{nat_tests}
use Rattle.stm_model.specs.Memories.{item_at, put}
use Rattle.stm_model.specs.declared.config.Config.{Config}
use Rattle.stm_logs.specs.LogStates.{LogState, Pushes, keep}
use Rattle.stm_logs.specs.declared.push.Push.{Push}
use Rattle.stm_logs.specs.declared.push.Push.TheVariants as pushes
use Rattle.rule_base.specs.declared.layout.At.TheVariants.{Heap}
use Rattle.rule_base.specs.declared.views.Act.TheVariants.{Load}
use Rattle.rule_base.specs.declared.views.View.{View}
use Rattle.rule_base.specs.Bridge.{addresses, items}
use Rattle.rule_base.specs.History.{touches}
use Rattle.rule_base.specs.Lemmas.HistoryLemmas.{inside-more}
use Rattle.rule_base.specs.StepKinds.{Nothing, Tells}
use Rattle.rule_seq.specs.CglSteps.{load_undo}
use Rattle.stm_rule.specs.declared.local.Local.{Local}
use Rattle.stm_rule.specs.Attempts.{IsLocked}
use Rattle.stm_answers.specs.Causes.{has_item, is_some}
use Rattle.stm_gate.specs.Logging.{put-new}
use Rattle.stm_gate.proofs.KeptLaws.{addresses-put, cells-shorter, member-touched}
use Rattle.alg_seq.specs.Storing.{HasLogged, HasPlace}
use Rattle.stm_gate.proofs.Peeling.{has-touched}

keep-new : (a x : ℕ) (ws : List (ℕ × ℕ)) → item_at a ws ≡ None → keep a x ws ≡ ws ++ (a, x) ∷ []
keep-new a x [] e = refl
keep-new a x (w ∷ ws) e = by (w.0 == a) refl e (keep-new a x ws)
  where
    by : (b : Bool) → (w.0 == a) ≡ b → (if w.0 == a then Some w.1 else item_at a ws) ≡ None
        → (item_at a ws ≡ None → keep a x ws ≡ ws ++ (a, x) ∷ []) → (if w.0 == a then w ∷ ws else w ∷ keep a x ws) ≡ w ∷ (ws ++ (a, x) ∷ [])
    by true q f rec = absurd (let g = rw q at f in cc)
    by false q f rec = rw q (ap (λ (l : List (ℕ × ℕ)). w ∷ l) (rec (rw q at f)))

-- an undo log with room takes an item for an address that it has not
kept : (r : Push) (a old : ℕ) (l m : LogState) → Pushes l a (keep a old l.items) r m → length l.items < l.len → item_at a l.items ≡ None → m ≡ record l { items = l.items ++ (a, old) ∷ [] }
kept (pushes.Full limit) a old l m p room none = absurd (let e = p.1 in omega arith)
kept pushes.Done a old l m p room none = p.1 ∙ ap (λ (ws : List (ℕ × ℕ)). record l { items = ws }) (keep-new a old l.items none)

none-of : (o : Option ℕ) → is_some o ≡ false → o ≡ None
none-of None e = refl
none-of (Some x) e = absurd cc

module _ (c : Config) (a x : ℕ) (l : Local) (v : View) (j : IsLocked c l v) (rev : v.lock.irrevocable ≡ false) where
  -- the logs are what the view has
  pub in-undo : touches v.lock.undo a ≡ has_item a l.undo.items
  in-undo = has-touched a v.lock.undo ∙ ap (has_item a) (sym (j.undone rev))

  in-writes : touches v.attempt.stores a ≡ has_item a l.writes.items
  in-writes = has-touched a v.attempt.stores ∙ ap (has_item a) (sym (j.writes rev))

  pub fresh-undo : item_at a l.undo.items ≡ None → touches v.lock.undo a ≡ false
  fresh-undo e = in-undo ∙ ap is_some e

  -- where the undo log has a place, so has the write log
  room : l.writes.len ≡ l.undo.len → HasPlace true a l.undo → item_at a l.writes.items ≡ None → length l.writes.items < l.writes.len
  room len place none = by (touches v.lock.undo a) refl
    where
      writes : length l.writes.items ≡ length (items v.attempt.stores)
      writes = ap length (j.writes rev)

      undo : length l.undo.items ≡ length (items v.lock.undo)
      undo = ap length (j.undone rev)

      by : (b : Bool) → touches v.lock.undo a ≡ b → length l.writes.items < l.writes.len
      by true t =
          let less = cells-shorter a v.attempt.stores v.lock.undo (j.undoable rev) t (in-writes ∙ ap is_some none) in
          let most = j.most rev in
          let e = writes in
          let f = undo in
          omega arith
      by false t = let low = place (none-of (item_at a l.undo.items) (sym in-undo ∙ t)) in let less = j.shorter rev in omega arith

  -- so the write is logged
  pub pushed : (r : Push) (m : LogState) → l.writes.len ≡ l.undo.len → HasPlace true a l.undo → Pushes l.writes a (put a x l.writes.items) r m → m ≡ record l.writes { items = put a x l.writes.items }
  pushed (pushes.Full limit) m len place p = absurd (let low = room len place p.0 in let e = p.1 in omega arith)
  pushed pushes.Done m len place p = p.1

  -- what has no old value was not written
  pub new-write : item_at a l.undo.items ≡ None → item_at a l.writes.items ≡ None
  new-write none = by (touches v.attempt.stores a) refl
    where
      by : (b : Bool) → touches v.attempt.stores a ≡ b → item_at a l.writes.items ≡ None
      by true t = absurd (let there = j.undoable rev a t in let gone = fresh-undo none in let no : true ≡ false = sym there ∙ gone in cc)
      by false t = none-of (item_at a l.writes.items) (sym in-writes ∙ t)

  -- THE WRITE of an address that has its old value
  pub logs-else : (m : LogState) → m ≡ record l.writes { items = put a x l.writes.items } → touches v.lock.undo a ≡ true → HasLogged c.words a x l v (record l { writes = m }) v
  logs-else m is t = record {
    local = refl;
    undo_len = refl;
    writes_len = ap (λ (s : LogState). s.len) is;
    marks = ap (λ (s : LogState). s.marks) is;
    marks_limit = ap (λ (s : LogState). s.marks_limit) is;
    more = [];
    is = refl;
    undone = j.undone rev;
    logged = t;
    within = j.within;
    covers = λ b h. h;
    kept = sym (ap (λ (b : Bool). if b then addresses (items v.lock.undo) else addresses (items v.lock.undo) ++ a ∷ []) (member-touched a v.lock.undo ∙ t));
    most = j.most rev;
    writes = ap (λ (s : LogState). s.items) is ∙ ap (put a x) (j.writes rev);
  }

  -- and of one whose value is loaded first
  pub logs-then : (s : Push) (m q : LogState) (old : ℕ) (w : View) → a < c.words → m ≡ record l.writes { items = put a x l.writes.items }
      → HasPlace true a l.undo → item_at a l.undo.items ≡ None → Pushes l.undo a (keep a old l.undo.items) s q
      → Tells (load_undo a) Nothing v old w
      → HasLogged c.words a x l v (record l { undo = q; writes = m }) w
  logs-then s m q old w low is place none given t = subst (λ (y : View). HasLogged c.words a x l v (record l { undo = q; writes = m }) y) (sym t.2) (record {
    local = refl;
    undo_len = ap (λ (z : LogState). z.len) grown;
    writes_len = ap (λ (z : LogState). z.len) is;
    marks = ap (λ (z : LogState). z.marks) is;
    marks_limit = ap (λ (z : LogState). z.marks_limit) is;
    more = record { place = Heap a; act = Load; found = Some old } ∷ [];
    is = refl;
    undone = put_there ∙ ap (put a old) (j.undone rev);
    logged = ap (λ b. if b then true else touches v.lock.undo a) here;
    within = inside-more c.words (record { at = a; value = old }) v.lock.undo low j.within;
    covers = λ b h. by (a == b) b h;
    kept = addresses-put a old (items v.lock.undo);
    most = (let n = ap (λ (z : LogState). length z.items) grown in let k = ap (λ (z : LogState). z.len) grown in let more = length-append l.undo.items ((a, old) ∷ []) in let r = place none in omega arith);
    writes = ap (λ (z : LogState). z.items) is ∙ ap (put a x) (j.writes rev);
  })
    where
      here : (a == a) ≡ true
      here = grind (arith, nat_tests)

      by : (p : Bool) (b : ℕ) → touches v.lock.undo b ≡ true → (if p then true else touches v.lock.undo b) ≡ true
      by true b h = refl
      by false b h = h

      grown : q ≡ record l.undo { items = l.undo.items ++ (a, old) ∷ [] }
      grown = kept s a old l.undo q given (place none) none

      put_there : q.items ≡ put a old l.undo.items
      put_there = ap (λ (z : LogState). z.items) grown ∙ sym (put-new a old l.undo.items none)
