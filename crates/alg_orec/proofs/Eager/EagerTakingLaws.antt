-- What the steps come to by which OrecEager loads a word under its own record, takes a record, and first stores there.
use Rattle.std.proofs.Common.{ℕ, ◌≡◌, ◌≢◌, ◌<◌, ◌≤◌, ◌+◌, List, [], ◌∷◌, ◌++◌, length, Bool, true, false, refl, sym, ap, ◌∙◌, arith, subst, inl, inr, append_assoc, length-append}
use Rattle.std.specs.Prelude.{◌%◌, ◌⊎◌, ◌==◌, if◌then◌else◌, Option, Some, None, Contains}
use Rattle.std.specs.Option.{is_some}
use Rattle.std.proofs.lemmas.Bool.Decides.{nat_tests}
use Rattle.std.proofs.lemmas.List.Elements.{Contains-append_left, Contains-append_right}
use Rattle.std.proofs.lemmas.Nat.{mod_below}
use Rattle.stm_model.specs.Algorithms.{has_records}
use Rattle.stm_model.specs.declared.alg.Alg.{Alg}
use Rattle.stm_model.specs.declared.alg.Alg.TheVariants.{Tml, RingSw}
use Rattle.stm_model.specs.declared.config.Config.{Config}
use Rattle.stm_model.specs.declared.config.TheConstants.{CLOCK_LIMIT}
use Rattle.stm_model.specs.declared.stop.Cause.{Cause}
use Rattle.stm_model.specs.declared.stop.Cause.TheVariants as causes
use Rattle.stm_model.specs.Memories.{item_at, put}
use Rattle.rule_base.specs.declared.entries.Cell.{Cell}
use Rattle.rule_base.specs.declared.entries.Entry.{Entry}
use Rattle.rule_base.specs.declared.layout.At.{At}
use Rattle.rule_base.specs.declared.layout.At.TheVariants.{Clock, Record, Heap}
use Rattle.rule_base.specs.declared.views.Act.TheVariants.{Load, Store, Exchange}
use Rattle.rule_base.specs.declared.views.Sample.{Sample}
use Rattle.rule_base.specs.declared.views.TracedStep.{TracedStep}
use Rattle.rule_base.specs.declared.views.Validation.{Validation}
use Rattle.rule_base.specs.declared.views.View.{View}
use Rattle.rule_base.specs.Bridge.{items}
use Rattle.rule_base.specs.Lemmas.BridgeLemmas.{item-none}
use Rattle.rule_base.specs.Encodings.{free_record, owned_record, version_of}
use Rattle.rule_base.specs.History.{over, touches, Below}
use Rattle.rule_base.specs.Lemmas.HistoryLemmas.{inside-more}
use Rattle.rule_base.specs.Own.{Own}
use Rattle.rule_base.specs.Ranks.{home_of}
use Rattle.rule_base.specs.StepKinds.{Nothing, Tells, view_after}
use Rattle.rule_orec.specs.OrecOwning.{holding}
use Rattle.rule_orec.specs.OrecReading.{no_check, no_sample}
use Rattle.rule_orec.specs.OrecSteps.{HasOpen, orec_limit, orec_lock, CanOrecLock, orec_own_load, CanOrecOwnLoad, OrecOwnLoads, orec_save, CanOrecSave, orec_place, CanOrecPlace}
use Rattle.stm_gate.specs.LeavingLaws.{found-earlier}
use Rattle.stm_gate.specs.Logging.{put-new}
use Rattle.stm_rule.specs.Alone.{left_at}
use Rattle.stm_rule.specs.declared.local.Local.{Local}
use Rattle.alg_orec.proofs.OthersLaws.{left-found, moved-others}
use Rattle.alg_orec.specs.RecordFindings.{FindsClock, FindsRecord}
use Rattle.stm_answers.specs.Causes.{Conflicts, IsInTheWay}
use Rattle.stm_answers.specs.Causes.Asked.{ForWord}
use Rattle.stm_answers.specs.Evidence.{Untouched}
use Rattle.stm_answers.specs.CallerState.{known_of}
use Rattle.stm_logs.specs.declared.push.Push.{Push}
use Rattle.stm_logs.specs.declared.push.Push.TheVariants as pushes
use Rattle.stm_logs.specs.LogStates.{LogState, Pushes, keep}
use Rattle.alg_orec.proofs.LoadLaws.{free-word, owed-earlier, owed-later, untouched-loads}
use Rattle.alg_orec.proofs.LockingLaws.{pushes-new, held-of}
use Rattle.alg_orec.specs.EagerTaking.{CanLoadWord, CanTake, HasTaken, FindsLimit, CanStoreFirst, StoresFirst}
use Rattle.alg_orec.specs.Loading.{CanLoadValid, moved, sampled_at, MayMove, HasSampled, RefusesRead, HasLoaded}
use Rattle.alg_orec.specs.Locking.{lock_item}
use Rattle.alg_orec.specs.Validating.{load_of}

untouched-append : (p : At) (is js : List TracedStep) → Untouched p is → Untouched p js → Untouched p (is ++ js)
untouched-append p [] js a b = b
untouched-append p (i ∷ is) js a b = (a.0, untouched-append p is js a.1 b)

-- a record with an item is held
pub held-where : (cs : List Cell) (ws : List (ℕ × ℕ)) (q : ℕ) → ws ≡ items cs → is_some (item_at q ws) ≡ true → touches cs q ≡ true
held-where cs ws q is e = by (item_at q ws) refl e
  where
    by : (m : Option ℕ) → item_at q ws ≡ m → is_some m ≡ true → touches cs q ≡ true
    by (Some x) f g = held-of cs ws q x is f
    by None f g = absurd cc

-- THE LOAD under the own record
module _ (good : (ℕ → ℕ) → Type 0) (c : Config) (n a : ℕ) (l : Local) (v : View) (can : CanLoadWord c a l v) where
  pub may-own_load : touches v.owned.held (home_of c a) ≡ true → CanOrecOwnLoad (home_of c) c.words a v
  may-own_load held = record { opens = can.can.opens; eager = can.eager; held = held; unwritten = can.unwritten; inside = can.inside }

  pub loads-own : (x : ℕ) (w : View) → Tells (orec_own_load a) (OrecOwnLoads good c a) v x w → HasLoaded good c n a x l v l w
  loads-own x w t = record {
    local = refl;
    seen = v.history.seen;
    more = load_of (Heap a) x ∷ [];
    is =
        t.2
        ∙ (λ i.
        record v {
          history = record v.history { front = can.front i };
          attempt = record v.attempt { start = can.can.start i; reads = record { at = a; value = x } ∷ v.attempt.reads };
          sample = no_sample;
          check = no_check;
          steps = record v.steps { step_trace = load_of (Heap a) x ∷ v.steps.step_trace };
        });
    moves = inl (sym can.can.start, refl);
    owed = inl (sym can.can.start);
    sees = t.1.sees.sees;
    legal = t.1.sees.legal;
    below = (let b = t.1.sees.below in subst (λ (s : ℕ). Below v.history.seen (s + 1)) can.can.start b);
  }

  pub may-load_valid : touches v.owned.held (home_of c a) ≡ false → CanLoadValid c a l v
  may-load_valid free = record { can = can.can; unheld = free; olds = can.olds; front = can.front; inside = can.inside }

-- THE RECORD
module _ {c : Config} {a : ℕ} {l : Local} {v : View} (can : CanTake c a l v) where
  -- where nothing moved
  stays : (sample : Sample) (check : Validation) (more : List TracedStep)
      → record v { sample = sample; check = check; steps = record v.steps { step_trace = more ++ v.steps.step_trace } }
      ≡ moved v l.start v.history.seen v.attempt.reads sample check more
  stays sample check more =
      λ i.
      record v {
        history = record v.history { front = can.front i };
        attempt = record v.attempt { start = can.can.start i };
        sample = sample;
        check = check;
        steps = record v.steps { step_trace = more ++ v.steps.step_trace };
      }

  -- it is held already
  pub taken-before : {good : (ℕ → ℕ) → Type 0} {n : ℕ} → touches v.owned.held (home_of c a) ≡ true → HasTaken good c n a l v l v
  taken-before held = record {
    local = refl;
    len = refl;
    seen = v.history.seen;
    held = v.owned.held;
    sample = v.sample;
    check = v.check;
    more = [];
    is = stays v.sample v.check [];
    moves = inl (sym can.can.start, refl);
    owed = inl (sym can.can.start);
    its = held;
    keeps = λ q t. t;
    locks = can.can.locks;
    few = omega arith;
    places = can.places;
    olds = λ q t. (let o = can.olds q t in let s = can.can.start in omega arith);
    below = can.below;
  }

-- the record isn't held, and the clock was loaded
pub record HasClock (good : (ℕ → ℕ) → Type 0) (c : Config) (n a : ℕ) (l : Local) (v : View) (clock : ℕ) (s : View) : Type 0 where
  pub low : n < c.callers
  pub can : CanTake c a l v
  pub unheld : touches v.owned.held (home_of c a) ≡ false
  pub tells : Tells orec_limit (FindsClock c) v clock s

-- below its limit, and then the record, free, at a version that the start has seen
pub record HasFree (good : (ℕ → ℕ) → Type 0) (c : Config) (n a : ℕ) (l : Local) (clock : ℕ) (s : View) (word : ℕ) (m : Local) (u : View) : Type 0 where
  pub below : clock < CLOCK_LIMIT
  pub sampled : HasSampled good c n a word l s m u

module _ {good : (ℕ → ℕ) → Type 0} {c : Config} {n a : ℕ} {l : Local} {v : View} {clock : ℕ} {s : View} (o : HasClock good c n a l v clock s) where
  open o use {low, can, unheld, tells as t}

  abbrev r : ℕ
  r = a % c.records

  abbrev timed : View
  timed = record v { steps = record v.steps { step_trace = load_of Clock clock ∷ v.steps.step_trace } }

  -- the clock is at its limit
  pub full-before : CLOCK_LIMIT ≤ clock → FindsLimit good c n clock l v l s
  full-before high = subst (FindsLimit good c n clock l v l) (sym t.2) (record {
    local = refl;
    seen = v.history.seen;
    more = load_of Clock clock ∷ [];
    is = stays can v.sample v.check (load_of Clock clock ∷ []);
    moves = inl (sym can.can.start, refl);
    limit = high;
    found = (0, omega arith, refl);
  })

  pub may-sample : CanLoadValid c a l s
  may-sample = subst (CanLoadValid c a l) (sym t.2) (let k = can.can in record {
    can = record {
      opens =
          record {
            has = record {
              runs =
                  record { phase = k.opens.has.runs.phase; algorithm = k.opens.has.runs.algorithm; plain = k.opens.has.runs.plain };
              inside = k.opens.has.inside;
            };
            open_yet = k.opens.open_yet;
          };
      start = k.start;
      reads = k.reads;
      locks = k.locks;
      versions = k.versions;
      level = k.level;
    };
    unheld = unheld;
    olds = can.olds;
    front = can.front;
    inside = can.inside;
  })

  -- what comes after the load of the clock, as seen from before it
  move-earlier : (start : ℕ) (seen : List Entry) (more : List TracedStep) → MayMove good c n start seen more timed → MayMove good c n start seen (more ++ load_of Clock clock ∷ []) v
  move-earlier start seen more (inl q) = inl q
  move-earlier start seen more (inr q) =
      inr (
        Contains-append_left more (load_of Clock clock ∷ []) (load_of Clock start) q.0,
        (let m = q.1 in record { legal = m.legal; below = m.below; seen = m.seen; front = m.front; limit = m.limit; sees = m.sees }),
        q.2,
      )

  join : (more : List TracedStep) → more ++ (load_of Clock clock ∷ v.steps.step_trace) ≡ (more ++ load_of Clock clock ∷ []) ++ v.steps.step_trace
  join more = sym (append_assoc more (load_of Clock clock ∷ []) v.steps.step_trace)

  no-alg : (b : Alg) → v.gate.algorithm ≡ b → has_records b ≡ false → ⊥
  no-alg b e none = let f : true ≡ false = sym can.can.opens.has.runs.algorithm ∙ (ap has_records e ∙ none) in absurd cc

  conflicts-earlier : (cause : Cause) (o p : Own) (w : View) → Conflicts c n (ForWord a) cause (known_of timed o) (known_of w p) → Conflicts c n (ForWord a) cause (known_of v o) (known_of w p)
  conflicts-earlier (causes.Clock had now) o p w k = absurd (no-alg Tml k.0 refl)
  conflicts-earlier (causes.Record index word start) o p w k = (
    k.0,
    k.1,
    record {
      early = k.2.early ++ load_of Clock clock ∷ [];
      act = k.2.act;
      late = k.2.late;
      step_trace = k.2.step_trace ∙ ap (λ (q : List TracedStep). k.2.late ++ record { place = Record index; act = k.2.act; found = Some word } ∷ q) (join k.2.early);
      untouched = untouched-append (Record index) k.2.early (load_of Clock clock ∷ []) k.2.untouched ((λ e. refl), tt);
    },
    way k.3,
  )
    where
      way : IsInTheWay c n (ForWord a) index word (known_of timed o) (known_of w p) → IsInTheWay c n (ForWord a) index word (known_of v o) (known_of w p)
      way (inl x) = inl x
      way (inr x) = let f = x.0 in inr ((f.0, found-earlier (Record r) f.0 (known_of v o) (known_of timed o) (known_of w p) f.1 (load_of Clock clock ∷ []) refl, f.2, f.3), x.1, x.2)
  conflicts-earlier (causes.Moved index before after) o p w k = (
    k.0,
    k.1,
    record {
      apart = k.2.apart;
      early = k.2.early ++ load_of Clock clock ∷ [];
      middle = k.2.middle;
      act = k.2.act;
      late = k.2.late;
      step_trace =
          k.2.step_trace
          ∙ ap (λ (q : List TracedStep).
          k.2.late
          ++ record { place = Record index; act = k.2.act; found = Some after }
          ∷ (k.2.middle ++ record { place = Record index; act = Load; found = Some before } ∷ q)) (join k.2.early);
      untouched = k.2.untouched;
      refused = k.2.refused;
    },
  )
  conflicts-earlier (causes.Filter time bits) o p w k = absurd (no-alg RingSw k.0 refl)
  conflicts-earlier (causes.Overrun start now) o p w k = absurd (no-alg RingSw k.0 refl)

  pub refused-sample : (cause : Cause) (m : Local) (w : View) → RefusesRead good c n a cause l s m w → RefusesRead good c n a cause l v m w
  refused-sample cause m w h = by (subst (λ (y : View). RefusesRead good c n a cause l y m w) t.2 h)
    where
      by : RefusesRead good c n a cause l timed m w → RefusesRead good c n a cause l v m w
      by k = record {
        local = k.local;
        seen = k.seen;
        more = k.more ++ load_of Clock clock ∷ [];
        is =
            k.is
            ∙ ap (λ (q : List TracedStep).
            record v {
              history = record v.history { seen = k.seen; front = m.start };
              attempt = record v.attempt { start = m.start };
              sample = w.sample;
              check = w.check;
              steps = record v.steps { step_trace = q };
            }) (join k.more);
        moves = move-earlier m.start k.seen k.more k.moves;
        why = λ o p. conflicts-earlier cause o p w (k.why o p);
        others = k.others;
      }

  module _ {word : ℕ} {m : Local} {u : View} (f : HasFree good c n a l clock s word m u) where
    open f use {below, sampled}

    h : HasSampled good c n a word l timed m u
    h = subst (λ (y : View). HasSampled good c n a word l y m u) t.2 sampled

    abbrev late : List TracedStep
    late = h.late ++ load_of (Record r) word ∷ []

    abbrev all : List TracedStep
    all = late ++ load_of Clock clock ∷ []

    moves : MayMove good c n m.start h.seen late timed
    moves = by h.moves
      where
        by : MayMove good c n m.start h.seen h.late timed → MayMove good c n m.start h.seen late timed
        by (inl q) = inl q
        by (inr q) = inr (Contains-append_left h.late (load_of (Record r) word ∷ []) (load_of Clock m.start) q.0, q.1, q.2)

    abbrev at_sample : Validation → List TracedStep → View
    at_sample check more = moved v m.start h.seen v.attempt.reads (sampled_at a (version_of word)) check more

    u_path : u ≡ at_sample u.check all
    u_path =
        h.is
        ∙ ap (λ (q : List TracedStep).
        record v {
          history = record v.history { seen = h.seen; front = m.start };
          attempt = record v.attempt { start = m.start };
          sample = sampled_at a (version_of word);
          check = u.check;
          steps = record v.steps { step_trace = q };
        }) (join late)

    -- the start moved to the limit
    pub full-later : CLOCK_LIMIT ≤ m.start → FindsLimit good c n m.start l v m u
    full-later high = record {
      local = h.local;
      seen = h.seen;
      more = all;
      is = u_path ∙ ap (λ (k : Sample). moved v m.start h.seen v.attempt.reads k u.check all) (sym (ap (λ (y : View). y.sample) h.is));
      moves = move-earlier m.start h.seen late moves;
      limit = high;
      found = by moves;
    }
      where
        by : MayMove good c n m.start h.seen late timed → Contains all (load_of Clock m.start)
        by (inl q) = absurd (let e = q.0 in let f = t.1.started in let b = below in omega arith)
        by (inr q) = Contains-append_left late (load_of Clock clock ∷ []) (load_of Clock m.start) q.0

    open_at : (check : Validation) → HasOpen (at_sample check all)
    open_at check =
        let o = can.can.opens in
        record {
          has = record
              { runs = record { phase = o.has.runs.phase; algorithm = o.has.runs.algorithm; plain = o.has.runs.plain }; inside = o.has.inside };
          open_yet = o.open_yet;
        }

    pub version-old : version_of word ≤ m.start
    version-old = h.old

    pub may-lock : CanOrecLock (version_of word) u
    may-lock = subst (CanOrecLock (version_of word)) (sym u_path) (record { opens = open_at u.check; unraised = can.unraised; new = λ e. h.old })

    module _ (found : ℕ) (w : View) (k : Tells (orec_lock n r (version_of word)) (FindsRecord c n r) u found w) where
      abbrev step : TracedStep
      step = lock_item n r (version_of word) found

      abbrev locked : Bool → View
      locked b = record (at_sample u.check (step ∷ all)) { owned = if b then holding r (version_of word) v.owned else v.owned }

      lock_path : (b : Bool) → (found == free_record (version_of word)) ≡ b → w ≡ locked b
      lock_path b e = k.2 ∙ (ap (λ (y : View). view_after (orec_lock n r (version_of word)) k.0 y found) u_path ∙ ap locked e)

      is_free : free_record (version_of word) ≡ word
      is_free = free-word word h.free

      others : found ≢ word → (h.late ≡ []) ⊎ (1 < c.callers) → 1 < c.callers
      others apart (inl none) =
          moved-others c n low k.0 u found r word k.1
          (ap (λ (y : View). left_at r y.steps.step_trace) h.is
          ∙ (ap (λ (q : List TracedStep). left_at r ((q ++ load_of (Record r) word ∷ []) ++ timed.steps.step_trace)) none
          ∙ left-found r word timed.steps.step_trace)) apart
      others apart (inr many) = many

      moves_all : MayMove good c n m.start h.seen (step ∷ all) v
      moves_all = by (move-earlier m.start h.seen late moves)
        where
          by : MayMove good c n m.start h.seen all v → MayMove good c n m.start h.seen (step ∷ all) v
          by (inl q) = inl q
          by (inr q) = inr (Contains-append_right (step ∷ []) all (load_of Clock m.start) q.0, q.1, q.2)

      -- another caller was there in between
      pub refused-lock : found ≢ word → RefusesRead good c n a (causes.Moved r word found) l v m w
      refused-lock apart = subst (RefusesRead good c n a (causes.Moved r word found) l v m) (sym (lock_path false there)) (record {
        local = h.local;
        seen = h.seen;
        more = step ∷ all;
        is = refl;
        moves = moves_all;
        why = λ o p. (
          can.can.opens.has.runs.algorithm,
          refl,
          record {
            apart = λ e. apart (sym e);
            early = load_of Clock clock ∷ [];
            middle = h.late;
            act = Exchange (free_record (version_of word)) (owned_record n);
            late = [];
            step_trace = ap (λ (q : List TracedStep). step ∷ q) (sym (join late) ∙ append_assoc h.late (load_of (Record r) word ∷ []) (load_of Clock clock ∷ v.steps.step_trace));
            untouched = untouched-loads (Record r) h.late h.loads;
            refused = there;
          },
        );
        others = others apart h.next;
      })
        where
          there : (found == free_record (version_of word)) ≡ false
          there = let e = is_free in grind (arith, nat_tests)

      begins : MayMove good c n m.start h.seen late timed → v.attempt.start ≤ m.start
      begins (inl q) = let e = q.0 in omega arith
      begins (inr q) = let f = q.1.front in let e = can.front in let b = can.can.start in omega arith

      abbrev held : List Cell
      held = record { at = r; value = version_of word } ∷ v.owned.held

      -- it is taken
      pub taken-now : (p : Push) (new : LogState) → m.start < CLOCK_LIMIT → found ≡ word → Pushes m.locks r (keep r (version_of word) m.locks.items) p new → HasTaken good c n a l v (record m { locks = new }) w
      taken-now p new under same push = record {
        local = ap (λ (q : Local). record q { locks = new }) h.local;
        len = ap (λ (q : LogState). q.len) new_is ∙ ap (λ (q : Local). q.locks.len) h.local;
        seen = h.seen;
        held = held;
        sample = sampled_at a (version_of word);
        check = u.check;
        more = step ∷ all;
        is = lock_path true here;
        moves = moves_all;
        owed = owed-later c a m.start all (step ∷ []) v (owed-earlier c a m.start late (load_of Clock clock ∷ []) v h.owed);
        its = (let q : (r == r) ≡ true = grind (arith, nat_tests) in ap (λ (b : Bool). if b then true else touches v.owned.held r) q);
        keeps = λ q e. by-keeps (r == q) q e;
        locks = ap (λ (q : LogState). q.items) new_is ∙ (ap (λ (ws : List (ℕ × ℕ)). ws ++ (r, version_of word) ∷ []) locks_is ∙ sym (put-new r (version_of word) (items v.owned.held) none));
        few = (let e = ap (λ (q : LogState). length q.items) new_is in let f = length-append m.locks.items ((r, version_of word) ∷ []) in let b = ap (λ (q : Local). length q.locks.items) h.local in omega arith);
        places = inside-more c.records (record { at = r; value = version_of word }) v.owned.held (mod_below a c.records can.records) can.places;
        olds = λ q e. by-olds q (r == q) refl e;
        below = λ q e. by-below q (r == q) refl e;
      }
        where
          here : (found == free_record (version_of word)) ≡ true
          here = let e = is_free in grind (arith, nat_tests)

          locks_is : m.locks.items ≡ items v.owned.held
          locks_is = ap (λ (q : Local). q.locks.items) h.local ∙ can.can.locks

          none : item_at r (items v.owned.held) ≡ None
          none = item-none v.owned.held r unheld

          room : length m.locks.items < m.locks.len
          room = subst (λ (q : Local). length q.locks.items < q.locks.len) (sym h.local) (can.room unheld)

          new_is : new ≡ record m.locks { items = m.locks.items ++ (r, version_of word) ∷ [] }
          new_is = pushes-new m.locks new r (version_of word) p push (ap (item_at r) locks_is ∙ none) room

          by-keeps : (b : Bool) (q : ℕ) → touches v.owned.held q ≡ true → (if b then true else touches v.owned.held q) ≡ true
          by-keeps true q e = refl
          by-keeps false q e = e

          by-olds : (q : ℕ) (b : Bool) → (r == q) ≡ b → (if b then true else touches v.owned.held q) ≡ true → (if b then version_of word else over v.owned.held q 0) ≤ m.start
          by-olds q true f e = h.old
          by-olds q false f e = let o = can.olds q e in let g = begins moves in omega arith

          by-below : (q : ℕ) (b : Bool) → (r == q) ≡ b → (if b then true else touches v.owned.held q) ≡ true → (if b then version_of word else over v.owned.held q 0) < CLOCK_LIMIT
          by-below q true f e = let o = h.old in omega arith
          by-below q false f e = can.below q e

-- THE FIRST STORE at a
module _ (c : Config) (a x : ℕ) (l : Local) (v : View) (can : CanStoreFirst c a l v) where
  pub may-save : CanOrecSave (home_of c) a v
  may-save = record { opens = can.opens; held = can.held; unwritten = can.unwritten }

  module _ (old : ℕ) (s : View) (t : Tells (orec_save a) Nothing v old s) where
    pub may-place : CanOrecPlace a s
    may-place = subst (CanOrecPlace a) (sym t.2) (record {
      opens =
          record {
            has = record {
              runs =
                  record { phase = can.opens.has.runs.phase; algorithm = can.opens.has.runs.algorithm; plain = can.opens.has.runs.plain };
              inside = can.opens.has.inside;
            };
            open_yet = can.opens.open_yet;
          };
      eager = can.eager;
      undoable = (let q : (a == a) ≡ true = grind (arith, nat_tests) in ap (λ (b : Bool). if b then true else touches v.owned.undo a) q);
    })

    pub stores-first : (w : View) (undo writes : LogState) (p q : Push) → Tells (orec_place a x) Nothing s x w → Pushes l.undo a (keep a old l.undo.items) p undo → Pushes l.writes a (put a x l.writes.items) q writes
        → StoresFirst a x l v (record l { undo = undo; writes = writes; wrote = true }) w
    stores-first w undo writes p q k up wp = record {
      old = old;
      more = record { place = Heap a; act = Store x; found = None } ∷ load_of (Heap a) old ∷ [];
      local = λ i. record l { undo = pushes-new l.undo undo a old p up can.fresh can.undo_room i; writes = put_new q wp i; wrote = true };
      is = k.2 ∙ ap (λ (y : View). view_after (orec_place a x) k.0 y x) t.2;
    }
      where
        put_new : (q : Push) → Pushes l.writes a (put a x l.writes.items) q writes → writes ≡ record l.writes { items = l.writes.items ++ (a, x) ∷ [] }
        put_new pushes.Done h = h.1 ∙ ap (λ (ws : List (ℕ × ℕ)). record l.writes { items = ws }) (put-new a x l.writes.items can.unlogged)
        put_new (pushes.Full limit) h = absurd (let e = h.1 in let f = can.room in omega arith)
