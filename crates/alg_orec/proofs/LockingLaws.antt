-- What the steps by which a commit takes records come to.
use Rattle.std.proofs.Common.{ℕ, ◌≡◌, ◌≢◌, ◌<◌, ◌≤◌, ◌+◌, List, [], ◌∷◌, ◌++◌, length, get_or, Bool, true, false, refl, sym, ap, ◌∙◌, arith, subst, append_assoc}
use Rattle.std.specs.Prelude.{Some, None, ◌%◌, ◌==◌, ltb, if◌then◌else◌, Err}
use Rattle.std.proofs.lemmas.Bool.Decides.{nat_tests}
use Rattle.stm_model.specs.declared.config.Config.{Config}
use Rattle.stm_model.specs.declared.config.TheConstants.{CLOCK_LIMIT}
use Rattle.stm_model.specs.declared.stop.Cause.TheVariants as causes
use Rattle.stm_model.specs.Memories.{item_at}
use Rattle.rule_base.specs.declared.entries.Cell.{Cell}
use Rattle.rule_base.specs.declared.layout.At.TheVariants.{Record}
use Rattle.rule_base.specs.declared.views.TracedStep.{TracedStep}
use Rattle.rule_base.specs.declared.views.View.{View}
use Rattle.rule_base.specs.Bridge.{items}
use Rattle.rule_base.specs.Lemmas.BridgeLemmas.{item-none, item-some}
use Rattle.rule_base.specs.Encodings.{free_record, is_owned, version_of}
use Rattle.rule_base.specs.History.{over, touches}
use Rattle.rule_base.specs.Lemmas.HistoryLemmas.{inside-more}
use Rattle.rule_base.specs.Ranks.{home_of}
use Rattle.rule_base.specs.StepKinds.{Tells, view_after}
use Rattle.rule_orec.specs.OrecOwning.{holding}
use Rattle.rule_orec.specs.OrecSteps.{HasOpen, orec_look, orec_lock, CanOrecLock}
use Rattle.stm_answers.specs.Evidence.{Untouched}
use Rattle.stm_logs.specs.declared.push.Push.{Push}
use Rattle.stm_logs.specs.declared.push.Push.TheVariants as pushes
use Rattle.stm_logs.specs.LogStates.{LogState, Pushes, keep}
use Rattle.stm_gate.specs.Logging.{item-touched, put-new}
use Rattle.stm_rule.specs.Alone.{left_at}
use Rattle.stm_rule.specs.declared.local.Local.{Local}
use Rattle.stm_rule.specs.RecordsKept.{cells_of}
use Rattle.alg_orec.proofs.OthersLaws.{left-found, owned-others, moved-others}
use Rattle.alg_orec.specs.RecordFindings.{FindsRecord}
use Rattle.stm_gate.proofs.Cells.{cells-at}
use Rattle.alg_orec.specs.Validating.{load_of}
use Rattle.alg_orec.specs.Locking.{holding_still, lock_item, CanLock, CanLockAll, WasFree, HasLocked, IsRefused, LocksOne, Locks, StopsLocking}

keep-new : (a v : ℕ) (ws : List (ℕ × ℕ)) → item_at a ws ≡ None → keep a v ws ≡ ws ++ (a, v) ∷ []
keep-new a v [] e = refl
keep-new a v (w ∷ ws) e = by (w.0 == a) refl e (keep-new a v ws)
  where
    by : (b : Bool) → (w.0 == a) ≡ b → (if w.0 == a then Some w.1 else item_at a ws) ≡ None
        → (item_at a ws ≡ None → keep a v ws ≡ ws ++ (a, v) ∷ []) → (if w.0 == a then w ∷ ws else w ∷ keep a v ws) ≡ w ∷ (ws ++ (a, v) ∷ [])
    by true q f rec = absurd (let g = rw q at f in cc)
    by false q f rec = rw q (ap (λ l. w ∷ l) (rec (rw q at f)))

-- a new item for which there is room
pub pushes-new : (old new : LogState) (a v : ℕ) (p : Push) → Pushes old a (keep a v old.items) p new → item_at a old.items ≡ None → length old.items < old.len → new ≡ record old { items = old.items ++ (a, v) ∷ [] }
pushes-new old new a v pushes.Done h none room = h.1 ∙ ap (λ (ws : List (ℕ × ℕ)). record old { items = ws }) (keep-new a v old.items none)
pushes-new old new a v (pushes.Full limit) h none room = absurd (let e = h.1 in omega arith)

-- a record without an item isn't held, and one with an item is
pub unheld-of : (cs : List Cell) (ws : List (ℕ × ℕ)) (r : ℕ) → ws ≡ items cs → item_at r ws ≡ None → touches cs r ≡ false
unheld-of cs ws r is e = by (touches cs r) refl
  where
    by : (b : Bool) → touches cs r ≡ b → b ≡ false
    by true t = absurd (let s : None ≡ Some (over cs r 0) = sym e ∙ (ap (item_at r) is ∙ item-touched cs r t) in cc)
    by false t = refl

pub held-of : (cs : List Cell) (ws : List (ℕ × ℕ)) (r x : ℕ) → ws ≡ items cs → item_at r ws ≡ Some x → touches cs r ≡ true
held-of cs ws r x is e = (item-some cs r x (sym (ap (item_at r) is) ∙ e)).0

free-word : (word : ℕ) → is_owned word ≡ false → free_record (version_of word) ≡ word
free-word word e = let f : word % 2 ≢ 1 = grind (arith, nat_tests) in omega arith

module _ (c : Config) (n r : ℕ) (low : n < c.callers) (l : Local) (v : View) (k : CanLock l v) (unheld : touches v.owned.held r ≡ false) where
  pub may-lock : (word version : ℕ) (s : View) → Tells (orec_look r) (FindsRecord c n r) v word s → CanOrecLock version s
  may-lock word version s t = subst (CanOrecLock version) (sym t.2) (record {
    opens = record { has = record { runs = record { phase = k.opens.has.runs.phase; algorithm = k.opens.has.runs.algorithm; plain = k.opens.has.runs.plain }; inside = k.opens.has.inside }; open_yet = k.opens.open_yet };
    unraised = k.unraised;
    new = λ e. absurd (let f : true ≡ false = sym e ∙ k.lazy in cc);
  })

  pub refuses-owned : (word : ℕ) (s : View) → is_owned word ≡ true → Tells (orec_look r) (FindsRecord c n r) v word s → LocksOne c n r (Err (causes.Record r word l.start)) l v l s
  refuses-owned word s e t = (
    refl,
    (
      load_of (Record r) word ∷ [],
      t.2,
      (refl, refl, record { last = refl; owned = e; other = t.1.others e unheld; others = owned-others c n low t.0 v word r t.1 e unheld }),
    ),
  )

  abbrev locked_at : ℕ → ℕ → ℕ → Bool → View
  locked_at version word found b = record v {
    owned = if b then holding r version v.owned else v.owned;
    steps = record v.steps { step_trace = lock_item n r version found ∷ load_of (Record r) word ∷ v.steps.step_trace };
  }

  lock_path : (word found : ℕ) (s u : View) (b : Bool) → (found == free_record (version_of word)) ≡ b
      → Tells (orec_look r) (FindsRecord c n r) v word s → Tells (orec_lock n r (version_of word)) (FindsRecord c n r) s found u
      → u ≡ locked_at (version_of word) word found b
  lock_path word found s u b e t h = h.2 ∙ (ap (λ (y : View). view_after (orec_lock n r (version_of word)) h.0 y found) t.2 ∙ ap (locked_at (version_of word) word found) e)

  pub refuses-moved : (word found : ℕ) (s u : View) → is_owned word ≡ false → found ≢ word → Tells (orec_look r) (FindsRecord c n r) v word s → Tells (orec_lock n r (version_of word)) (FindsRecord c n r) s found u
      → LocksOne c n r (Err (causes.Moved r word found)) l v l u
  refuses-moved word found s u free apart t h = let is = free-word word free in (
    refl,
    (
      lock_item n r (version_of word) found ∷ load_of (Record r) word ∷ [],
      lock_path word found s u false (grind (arith, nat_tests)) t h,
      (
        refl,
        record {
          version = version_of word;
          free = sym is;
          apart = λ e. apart (sym e);
          last = refl;
          others = moved-others c n low h.0 s found r word h.1 (ap (λ (y : View). left_at r y.steps.step_trace) t.2 ∙ left-found r word v.steps.step_trace) apart;
        },
      ),
    ),
  )

  pub has-locked : (word found : ℕ) (s u : View) (p : Push) (new : LogState) → is_owned word ≡ false → found ≡ word
      → Tells (orec_look r) (FindsRecord c n r) v word s → Tells (orec_lock n r (version_of word)) (FindsRecord c n r) s found u
      → Pushes l.locks r (keep r (version_of word) l.locks.items) p new → item_at r l.locks.items ≡ None → length l.locks.items < l.locks.len → HasLocked c n r (version_of word) l v (record l { locks = new }) u
  has-locked word found s u p new free same t h push none room = let is = free-word word free in record {
    within = t.1.within free;
    sole = λ one. t.1.sole one free;
    local = ap (λ (k : LogState). record l { locks = k }) (pushes-new l.locks new r (version_of word) p push none room);
    is = lock_path word found s u true (grind (arith, nat_tests)) t h ∙ (λ i. locked_at (version_of word) (sym is i) ((same ∙ sym is) i) true);
  }

record-is : (a b : ℕ) → Record a ≡ Record b → a ≡ b
record-is a b e = cc

-- a step at another record leaves this one
untouched-more : (q r n version found : ℕ) (more : List TracedStep) → q ≢ r → Untouched (Record q) more → Untouched (Record q) (lock_item n r version found ∷ load_of (Record r) (free_record version) ∷ more)
untouched-more q r n version found more apart u = ((λ e. absurd (apart (sym (record-is r q e)))), ((λ e. refl), u))

-- at first it holds none
pub none-held : (c : Config) (l : Local) (v : View) → CanLockAll c l v → (r : ℕ) → touches v.owned.held r ≡ true → ⊥
none-held c l v k r t = let e : touches v.owned.held r ≡ false = ap (λ (cs : List Cell). touches cs r) k.none in let f : true ≡ false = sym t ∙ e in cc

pub none-logged : (c : Config) (l : Local) (v : View) → CanLockAll c l v → length l.locks.items ≤ 0
none-logged c l v k = let e : length l.locks.items ≡ 0 = ap length (k.can.locks ∙ ap items k.none) in omega arith

module _ (c : Config) (n : ℕ) (l : Local) (v : View) where
  pub locks-none : CanLockAll c l v → Locks c n l v l v []
  locks-none k = record {
    holds =
        record {
          local = refl;
          len = refl;
          is = refl;
          locks = k.can.locks;
          places = λ r t. absurd (none-held c l v k r t);
          few = (let z = none-logged c l v k in omega arith);
          versions = λ r t. absurd (none-held c l v k r t);
        };
    free = λ r t. absurd (none-held c l v k r t);
    apart = λ r t. tt;
    sole = λ r t. absurd (none-held c l v k r t);
  }

  -- the next record can be looked at
  pub can-lock : CanLockAll c l v → (m : Local) (w : View) (more : List TracedStep) → Locks c n l v m w more → CanLock m w
  can-lock k m w more e = record {
    opens =
        subst HasOpen (sym e.holds.is)
        (record {
          has = record {
            runs =
                record { phase = k.can.opens.has.runs.phase; algorithm = k.can.opens.has.runs.algorithm; plain = k.can.opens.has.runs.plain };
            inside = k.can.opens.has.inside;
          };
          open_yet = k.can.opens.open_yet;
        });
    lazy = ap (λ (y : View). y.owned.eager) e.holds.is ∙ k.can.lazy;
    unraised = ap (λ (y : View). y.owned.raised) e.holds.is ∙ k.can.unraised;
    locks = e.holds.locks;
  }

  -- all records of what was written are held once that of each item is
  pub covers-all : (held : List Cell)
      → ((j : ℕ) → j < length l.writes.items → touches held (home_of c (get_or l.writes.items j (0, 0)).0) ≡ true) → (a : ℕ)
      → touches (cells_of l.writes.items) a ≡ true → touches held (home_of c a) ≡ true
  covers-all held h a t = let p = cells-at l.writes.items a t in subst (λ (b : ℕ). touches held (home_of c b) ≡ true) p.2 (h p.0 p.1)

  -- one record more
  module _ (r version : ℕ) (m m' : Local) (w w' : View) (more : List TracedStep) (k : Locks c n l v m w more)
      (h : HasLocked c n r version m w m' w') (low : r < c.records) (new : touches w.owned.held r ≡ false)
      (few : length m'.locks.items ≤ l.writes.len) where
    abbrev grown : List Cell
    grown = record { at = r; value = version } ∷ w.owned.held

    abbrev steps : List TracedStep
    steps = lock_item n r version (free_record version) ∷ load_of (Record r) (free_record version) ∷ more

    path : w' ≡ holding_still v grown steps
    path = h.is ∙ ap (λ (y : View). holding_still y grown (lock_item n r version (free_record version) ∷ load_of (Record r) (free_record version) ∷ [])) k.holds.is

    logs : m'.locks ≡ record m.locks { items = m.locks.items ++ (r, version) ∷ [] }
    logs = ap (λ (q : Local). q.locks) h.local

    held_is : m'.locks.items ≡ items grown
    held_is = ap (λ (q : LogState). q.items) logs ∙ (ap (λ (ws : List (ℕ × ℕ)). ws ++ (r, version) ∷ []) k.holds.locks ∙ sym (put-new r version (items w.owned.held) (item-none w.owned.held r new)))

    versions_of : (q : ℕ) (b : Bool) → (r == q) ≡ b → (if r == q then true else touches w.owned.held q) ≡ true → (if r == q then version else over w.owned.held q 0) ≤ CLOCK_LIMIT
    versions_of q true e t = rw e h.within
    versions_of q false e t = rw e (k.holds.versions q (rw e at t))

    free_of : (q : ℕ) (b : Bool) → (r == q) ≡ b → (if r == q then true else touches w.owned.held q) ≡ true → WasFree q (if r == q then version else over w.owned.held q 0) steps
    free_of q true e t =
        rw e
        (let same : r ≡ q = grind (arith, nat_tests) in
        subst (λ (p : ℕ). WasFree p version steps) same
        (record { late = lock_item n r version (free_record version) ∷ []; early = more; is = refl; untouched = k.apart r new }))
    free_of q false e t = rw e (let f = k.free q (rw e at t) in record {
      late = lock_item n r version (free_record version) ∷ load_of (Record r) (free_record version) ∷ f.late;
      early = f.early;
      is = ap (λ (s : List TracedStep). lock_item n r version (free_record version) ∷ load_of (Record r) (free_record version) ∷ s) f.is;
      untouched = f.untouched;
    })

    apart_of : (q : ℕ) (b : Bool) → (r == q) ≡ b → (if r == q then true else touches w.owned.held q) ≡ false → Untouched (Record q) steps
    apart_of q true e t = absurd (let f = rw e at t in cc)
    apart_of q false e t = untouched-more q r n version (free_record version) more (λ s. grind (arith, nat_tests)) (k.apart q (rw e at t))

    sole_of : (q : ℕ) (b : Bool) → (r == q) ≡ b → (if r == q then true else touches w.owned.held q) ≡ true → c.callers ≡ 1 → (if r == q then version else over w.owned.held q 0) ≤ c.clock + v.steps.rises
    sole_of q true e t one = rw e (let s = h.sole one in let same = ap (λ (y : View). y.steps.rises) k.holds.is in omega arith)
    sole_of q false e t one = rw e (k.sole q (rw e at t) one)

    pub locks-more : Locks c n l v m' w' steps
    locks-more = subst (λ (y : View). Locks c n l v m' y steps) (sym path) (record {
      holds = record {
        local = h.local ∙ (ap (λ (q : Local). record q { locks = record m.locks { items = m.locks.items ++ (r, version) ∷ [] } }) k.holds.local ∙ ap (λ (q : LogState). record l { locks = q }) (sym logs));
        len = ap (λ (q : LogState). q.len) logs ∙ k.holds.len;
        is = refl;
        locks = held_is;
        places = inside-more c.records (record { at = r; value = version }) w.owned.held low k.holds.places;
        few = few;
        versions = λ q t. versions_of q (r == q) refl t;
      };
      free = λ q t. free_of q (r == q) refl t;
      apart = λ q t. apart_of q (r == q) refl t;
      sole = λ q t one. sole_of q (r == q) refl t one;
    })

  -- the steps by which a record can't be taken change none
  untouched-last : (r q s : ℕ) (cause : causes.the_data) (last before : List TracedStep) → IsRefused c n r cause s last → Untouched (Record q) before → Untouched (Record q) (last ++ before)
  untouched-last r q s (causes.Clock had now) last before f u = absurd f
  untouched-last r q s (causes.Record index word start) last before f u = subst (λ (is : List TracedStep). Untouched (Record q) (is ++ before)) (sym f.2.last) ((λ e. refl), u)
  untouched-last r q s (causes.Moved index was after) last before f u = let g = f.1 in
      subst (λ (is : List TracedStep). Untouched (Record q) (is ++ before)) (sym g.last) ((λ e. let a = g.apart in let b = g.free in grind (arith, nat_tests)), ((λ e. refl), u))
  untouched-last r q s (causes.Filter time bits) last before f u = absurd f
  untouched-last r q s (causes.Overrun start clock) last before f u = absurd f

  -- a record that can't be taken ends it
  pub locks-stop : (cause : causes.the_data) (a : ℕ) (m m' : Local) (w w' : View) (before last : List TracedStep) → Locks c n l v m w before
      → touches w.owned.held (home_of c a) ≡ false → touches (cells_of l.writes.items) a ≡ true
      → m' ≡ m → w' ≡ holding_still w w.owned.held last → IsRefused c n (home_of c a) cause m.start last → StopsLocking c n cause l v m' w'
  locks-stop cause a m m' w w' before last k unheld written same is why = subst (λ (q : Local). StopsLocking c n cause l v q w') (sym same) (subst (StopsLocking c n cause l v m) (sym path) (record {
    before = before;
    last = last;
    a = a;
    written = written;
    locks = record {
      holds = record { local = k.holds.local; len = k.holds.len; is = refl; locks = k.holds.locks; places = k.holds.places; few = k.holds.few; versions = k.holds.versions };
      free =
          λ r t.
          let f = k.free r t in
          record {
            late = last ++ f.late;
            early = f.early;
            is = ap (λ (s : List TracedStep). last ++ s) f.is
                ∙ sym (append_assoc last f.late (load_of (Record r) (free_record (over w.owned.held r 0)) ∷ f.early));
            untouched = f.untouched;
          };
      apart = λ r t. untouched-last (home_of c a) r m.start cause last before why (k.apart r t);
      sole = k.sole;
    };
    unheld = unheld;
    untouched = k.apart (home_of c a) unheld;
    why = subst (λ (s : ℕ). IsRefused c n (home_of c a) cause s last) (ap (λ (q : Local). q.start) k.holds.local) why;
  }))
    where
      path : w' ≡ holding_still v w.owned.held (last ++ before)
      path =
          is
          ∙ (ap (λ (y : View). holding_still y w.owned.held last) k.holds.is
          ∙ ap (λ (t : List TracedStep). record (holding_still v w.owned.held []) { steps = record v.steps { step_trace = t } })
          (sym (append_assoc last before v.steps.step_trace)))

-- what holds of the items so far, and of the next one
pub next-item : (P : ℕ → Type 0) (i : ℕ) → ((j : ℕ) → j < i → P j) → P i → (j : ℕ) → j < i + 1 → P j
next-item P i before this j lt = by (ltb j i) refl
  where
    by : (b : Bool) → ltb j i ≡ b → P j
    by true q = before j (grind (arith, nat_tests))
    by false q = let same : i ≡ j = grind (arith, nat_tests) in subst P same this

-- a record more is held
pub touches-more : (cs ds : List Cell) (r version q : ℕ) → ds ≡ record { at = r; value = version } ∷ cs → touches cs q ≡ true → touches ds q ≡ true
touches-more cs ds r version q is t = ap (λ (es : List Cell). touches es q) is ∙ by (r == q)
  where
    by : (b : Bool) → (if b then true else touches cs q) ≡ true
    by true = refl
    by false = t

pub touches-new : (cs ds : List Cell) (r version : ℕ) → ds ≡ record { at = r; value = version } ∷ cs → touches ds r ≡ true
touches-new cs ds r version is = ap (λ (es : List Cell). touches es r) is ∙ ap (λ (b : Bool). if b then true else touches cs r) (let e : (r == r) ≡ true = grind (arith, nat_tests) in e)

-- and its version is at most the greater of the two
pub versions-more : (cs ds : List Cell) (r version old new : ℕ) → ds ≡ record { at = r; value = version } ∷ cs → old ≤ new → version ≤ new
    → ((q : ℕ) → touches cs q ≡ true → over cs q 0 ≤ old) → (q : ℕ) → touches ds q ≡ true → over ds q 0 ≤ new
versions-more cs ds r version old new is le fits h q t = subst (λ (es : List Cell). touches es q ≡ true → over es q 0 ≤ new) (sym is) (by (r == q) refl) t
  where
    by : (b : Bool) → (r == q) ≡ b → (if r == q then true else touches cs q) ≡ true → (if r == q then version else over cs q 0) ≤ new
    by true e f = rw e fits
    by false e f = rw e (let o = h q (rw e at f) in omega arith)
