-- What the steps of a load come to.
use Rattle.std.proofs.Common.{ℕ, ◌≡◌, ◌≢◌, ◌<◌, ◌≤◌, List, [], ◌∷◌, ◌++◌, Bool, true, false, refl, sym, ap, ◌∙◌, arith, subst, inl, inr, append_assoc}
use Rattle.std.specs.Prelude.{◌%◌, ◌⊎◌, ◌==◌, if◌then◌else◌}
use Rattle.std.proofs.lemmas.Bool.Decides.{nat_tests}
use Rattle.std.proofs.lemmas.List.Elements.{Contains-append_left, Contains-append_right}
use Rattle.stm_model.specs.declared.config.Config.{Config}
use Rattle.stm_model.specs.declared.stop.Cause.{Cause}
use Rattle.stm_model.specs.declared.stop.Cause.TheVariants as causes
use Rattle.rule_base.specs.declared.entries.Cell.{Cell}
use Rattle.rule_base.specs.declared.layout.At.{At}
use Rattle.rule_base.specs.declared.layout.At.TheVariants.{Clock, Record, Heap}
use Rattle.rule_base.specs.declared.views.Act.{Act}
use Rattle.rule_base.specs.declared.views.Act.TheVariants.{Load}
use Rattle.rule_base.specs.declared.views.Sample.{Sample}
use Rattle.rule_base.specs.declared.views.TracedStep.{TracedStep}
use Rattle.rule_base.specs.declared.views.Validation.{Validation}
use Rattle.rule_base.specs.declared.views.View.{View}
use Rattle.rule_base.specs.Bridge.{items}
use Rattle.rule_base.specs.Encodings.{free_record, is_owned, version_of}
use Rattle.rule_base.specs.History.{touches, word_now, Explains}
use Rattle.rule_base.specs.Own.{Own}
use Rattle.rule_base.specs.Ranks.{home_of}
use Rattle.rule_base.specs.StepKinds.{Nothing, Tells, view_after}
use Rattle.rule_orec.specs.OrecReading.{no_check, no_sample}
use Rattle.rule_orec.specs.OrecSteps.{HasOpen, orec_sample, CanOrecSample, orec_load, CanOrecLoad, orec_confirm, CanOrecConfirm}
use Rattle.stm_gate.specs.Logging.{item-touched}
use Rattle.stm_rule.specs.Alone.{left_at}
use Rattle.stm_rule.specs.declared.local.Local.{Local}
use Rattle.alg_orec.proofs.OthersLaws.{left-found, owned-others, newer-others, moved-others}
use Rattle.alg_orec.specs.RecordFindings.{FindsRecord, FindsAgain}
use Rattle.stm_answers.specs.Causes.{Conflicts, IsStaleAt, has_item, is_some}
use Rattle.stm_answers.specs.Causes.Asked.{ForWord}
use Rattle.stm_answers.specs.Evidence.{Untouched, changes}
use Rattle.stm_answers.specs.CallerState.{known_of}
use Rattle.alg_orec.proofs.Passing.{loads-append}
use Rattle.alg_orec.proofs.RecordReads.{newer-shown}
use Rattle.alg_orec.specs.Loading.{CanLoadValid, TellsSeen, moved, sampled_at, MayMove, MovesOwed, ShowsNewer, HasSampled, RefusesRead, HasLoaded}
use Rattle.alg_orec.specs.Validating.{load_of, OnlyLoads, CanValidate, IsFoundStale, IsHeldNewer, IsStale, Refuses, IsValid}

-- loads change no word
pub untouched-loads : (p : At) (is : List TracedStep) → OnlyLoads is → Untouched p is
untouched-loads p [] l = tt
untouched-loads p (i ∷ is) l = ((λ e. ap (λ (a : Act). changes a i.found) l.0), untouched-loads p is l.1)

-- what owed a validation, with steps after it or before it
pub owed-later : (c : Config) (a start : ℕ) (more late : List TracedStep) (v : View) → MovesOwed c a start more v → MovesOwed c a start (late ++ more) v
owed-later c a start more late v (inl e) = inl e
owed-later c a start more late v (inr s) = inr (s.0, Contains-append_right late more (load_of (Record (a % c.records)) s.0) s.1, s.2, s.3)

pub owed-earlier : (c : Config) (a start : ℕ) (more early : List TracedStep) (v : View) → MovesOwed c a start more v → MovesOwed c a start (more ++ early) v
owed-earlier c a start more early v (inl e) = inl e
owed-earlier c a start more early v (inr s) = inr (s.0, Contains-append_left more early (load_of (Record (a % c.records)) s.0) s.1, s.2, s.3)

-- an address that was read has an item
has-read : (reads : List Cell) (a : ℕ) → touches reads a ≡ true → has_item a (items reads) ≡ true
has-read reads a t = ap is_some (item-touched reads a t)

-- a free word that isn't seen is newer
pub newer-of : (x start : ℕ) → TellsSeen false x start → is_owned x ≡ false → start < version_of x
newer-of x start (inl owned) free = absurd (let e : true ≡ false = sym owned ∙ free in cc)
newer-of x start (inr late) free = late

-- the word of a free record
pub free-word : (x : ℕ) → is_owned x ≡ false → free_record (version_of x) ≡ x
free-word x free = let e : x % 2 ≢ 1 = grind (arith, nat_tests, free) in omega arith

module _ (good : (ℕ → ℕ) → Type 0) (c : Config) (n : ℕ) (low : n < c.callers) (a : ℕ) (l : Local) (v : View) (can : CanLoadValid c a l v) where
  abbrev r : ℕ
  r = a % c.records

  -- where the start stays
  stays : (sample : Sample) (check : Validation) (more : List TracedStep)
      → record v { sample = sample; check = check; steps = record v.steps { step_trace = more ++ v.steps.step_trace } }
      ≡ moved v l.start v.history.seen v.attempt.reads sample check more
  stays sample check more =
      λ i.
      record v {
        history = record v.history { front = can.front i };
        attempt = record v.attempt { start = can.can.start i };
        sample = sample;
        check = check;
        steps = record v.steps { step_trace = more ++ v.steps.step_trace };
      }

  pub may-sample : CanOrecSample (home_of c) r a v
  may-sample = record { has = can.can.opens.has; its = refl }

  module _ (x : ℕ) (u : View) (t : Tells (orec_sample r a) (FindsRecord c n r) v x u) where
    abbrev sampled : Bool → View
    sampled b = record v { sample = if b then no_sample else sampled_at a (version_of x); steps = record v.steps { step_trace = load_of (Record r) x ∷ v.steps.step_trace } }

    path : (b : Bool) → is_owned x ≡ b → u ≡ sampled b
    path b e = t.2 ∙ ap sampled e

    -- another caller owns the record
    pub refused-owned : is_owned x ≡ true → RefusesRead good c n a (causes.Record r x l.start) l v l u
    refused-owned owned = subst (λ (y : View). RefusesRead good c n a (causes.Record r x l.start) l v l y) (sym (path true owned)) (record {
      local = refl;
      seen = v.history.seen;
      more = load_of (Record r) x ∷ [];
      is = stays no_sample v.check (load_of (Record r) x ∷ []);
      moves = inl (sym can.can.start, refl);
      why = λ o p. (
        can.can.opens.has.runs.algorithm,
        sym can.can.start,
        record { early = []; act = Load; late = []; step_trace = refl; untouched = tt },
        inl (refl, (owned, t.1.others owned can.unheld)),
      );
      others = owned-others c n low t.0 v x r t.1 owned can.unheld;
    })

    -- it is one that the start has seen
    pub sampled-old : is_owned x ≡ false → version_of x ≤ l.start → HasSampled good c n a x l v l u
    sampled-old free old = subst (HasSampled good c n a x l v l) (sym (path false free)) (record {
      local = refl;
      seen = v.history.seen;
      late = [];
      is = stays (sampled_at a (version_of x)) v.check (load_of (Record r) x ∷ []);
      loads = tt;
      free = free;
      old = old;
      moves = inl (sym can.can.start, refl);
      owed = inl (sym can.can.start);
      next = inl refl;
    })

    -- it is newer
    pub may-validate : is_owned x ≡ false → CanValidate c l u
    may-validate free = subst (CanValidate c l) (sym (path false free)) (let k = can.can in let o = k.opens in record {
      opens = record { has = record { runs = record { phase = o.has.runs.phase; algorithm = o.has.runs.algorithm; plain = o.has.runs.plain }; inside = o.has.inside }; open_yet = o.open_yet };
      start = k.start;
      reads = k.reads;
      locks = k.locks;
      versions = k.versions;
      level = k.level;
    })

    newer : is_owned x ≡ false → l.start < version_of x → 1 < c.callers
    newer free late = newer-others c n low t.0 v x r t.1 free can.can.level (let s = can.can.start in omega arith)

    -- a validation is owed
    is-newer : (more : List TracedStep) → is_owned x ≡ false → l.start < version_of x → ShowsNewer c a (more ++ load_of (Record r) x ∷ []) v
    is-newer more free late = (x, Contains-append_right more (load_of (Record r) x ∷ []) (load_of (Record r) x) (0, omega arith, refl), free, (let s = can.can.start in omega arith))

    pub sampled-new : (m : Local) (w : View) → is_owned x ≡ false → l.start < version_of x → IsValid c n good l u m w → HasSampled good c n a x l v m w
    sampled-new m w free late h = by (subst (λ (y : View). IsValid c n good l y m w) (path false free) h)
      where
        by : IsValid c n good l (sampled false) m w → HasSampled good c n a x l v m w
        by k = subst (HasSampled good c n a x l v m) (sym (k.is ∙ flat)) (record {
          local = k.local;
          seen = k.history;
          late = k.more;
          is = refl;
          loads = k.loads;
          free = free;
          old = k.sampled refl;
          moves = inr (k.found, (let q = k.moves in record { legal = q.legal; below = q.below; seen = q.seen; front = q.front; limit = q.limit; sees = q.sees }), newer free late);
          owed = inr (is-newer k.more free late);
          next = inr (newer free late);
        })
          where
            flat : record (sampled false) {
              history = record v.history { seen = k.history; front = m.start };
              attempt = record v.attempt { start = m.start };
              sample = sampled_at a (version_of x);
              check = no_check;
              steps = record v.steps { step_trace = k.more ++ load_of (Record r) x ∷ v.steps.step_trace };
            }
                ≡ moved v m.start k.history v.attempt.reads (sampled_at a (version_of x)) no_check (k.more ++ load_of (Record r) x ∷ [])
            flat =
                ap (λ (s : List TracedStep).
                record (sampled false) {
                  history = record v.history { seen = k.history; front = m.start };
                  attempt = record v.attempt { start = m.start };
                  sample = sampled_at a (version_of x);
                  check = no_check;
                  steps = record v.steps { step_trace = s };
                })
                (sym (append_assoc k.more (load_of (Record r) x ∷ []) v.steps.step_trace))

    -- and a read before isn't valid
    pub refused-stale : (cause : Cause) (w : View) → is_owned x ≡ false → l.start < version_of x → Refuses c n cause u w → RefusesRead good c n a cause l v l w
    refused-stale (causes.Clock had now) w free late q = absurd q
    refused-stale (causes.Record index word start) w free late q = by (subst (λ (y : View). IsStale c n index word start y w) (path false free) q)
      where
        by : IsStale c n index word start (sampled false) w → RefusesRead good c n a (causes.Record index word start) l v l w
        by k = subst (RefusesRead good c n a (causes.Record index word start) l v l) (sym (k.is ∙ flat)) (record {
          local = refl;
          seen = v.history.seen;
          more = k.more ++ load_of (Record r) x ∷ [];
          is = refl;
          moves = inl (sym can.can.start, refl);
          why = λ o p. why o p k.why;
          others = newer free late;
        })
          where
            more : List TracedStep
            more = k.more ++ load_of (Record r) x ∷ []

            last : View
            last = moved v l.start v.history.seen v.attempt.reads (sampled_at a (version_of x)) w.check more

            flat : record (sampled false) { check = w.check; steps = record v.steps { step_trace = k.more ++ load_of (Record r) x ∷ v.steps.step_trace } } ≡ last
            flat =
                ap (λ (s : List TracedStep). record (sampled false) { check = w.check; steps = record v.steps { step_trace = s } })
                (sym (append_assoc k.more (load_of (Record r) x ∷ []) v.steps.step_trace))
                ∙ stays (sampled_at a (version_of x)) w.check more

            why : (o p : Own) → IsFoundStale c n index word start k.more (sampled false) ⊎ IsHeldNewer c n index word start (sampled false)
                → Conflicts c n (ForWord a) (causes.Record index word start) (known_of v o) (known_of last p)
            why o p (inl f) = (
              can.can.opens.has.runs.algorithm,
              k.start,
              record {
                early = f.early ++ load_of (Record r) x ∷ [];
                act = Load;
                late = [];
                step_trace = ap (λ (s : List TracedStep). (s ++ load_of (Record r) x ∷ []) ++ v.steps.step_trace) f.last;
                untouched = untouched-loads (Record index) (f.early ++ load_of (Record r) x ∷ []) (loads-append f.early (load_of (Record r) x ∷ []) (early f.last) (refl, tt));
              },
              inr (newer-shown c a more v last o p refl (is-newer k.more free late), (k.a, k.home, has-read v.attempt.reads k.a k.read), stale f.stale),
            )
              where
                early : k.more ≡ load_of (Record index) word ∷ f.early → OnlyLoads f.early
                early e = (subst OnlyLoads e k.loads).1

                stale : IsStaleAt c n start word → IsStaleAt c n v.attempt.start word
                stale = subst (λ (s : ℕ). IsStaleAt c n s word) k.start
            why o p (inr f) = absurd (let old = can.olds index f.held in let s = k.start in let late = f.newer in omega arith)
    refused-stale (causes.Moved index before after) w free late q = absurd q
    refused-stale (causes.Filter time bits) w free late q = absurd q
    refused-stale (causes.Overrun start clock) w free late q = absurd q

  -- the word, and the record after it
  module _ (word : ℕ) (m : Local) (s : View) (h : HasSampled good c n a word l v m s) where
    abbrev before : List TracedStep
    before = h.late ++ load_of (Record r) word ∷ []

    open_in : (sample : Sample) (more : List TracedStep) → HasOpen (moved v m.start h.seen v.attempt.reads sample s.check more)
    open_in sample more =
        let o = can.can.opens in
        record {
          has = record
              { runs = record { phase = o.has.runs.phase; algorithm = o.has.runs.algorithm; plain = o.has.runs.plain }; inside = o.has.inside };
          open_yet = o.open_yet;
        }

    pub may-load : CanOrecLoad a s
    may-load = subst (CanOrecLoad a) (sym h.is) (record { has = (open_in (sampled_at a (version_of word)) before).has; sampled = refl; from = refl; version = h.old })

    module _ (x : ℕ) (u : View) (t : Tells (orec_load a) Nothing s x u) where
      abbrev loaded : View
      loaded = moved v m.start h.seen v.attempt.reads (record (sampled_at a (version_of word)) { loaded = true; value = x }) s.check (load_of (Heap a) x ∷ before)

      load_path : u ≡ loaded
      load_path = t.2 ∙ ap (λ (y : View). view_after (orec_load a) t.0 y x) h.is

      pub may-confirm : CanOrecConfirm (home_of c) c.words r u
      may-confirm =
          subst (CanOrecConfirm (home_of c) c.words r) (sym load_path)
          (record {
            opens = open_in (record (sampled_at a (version_of word)) { loaded = true; value = x }) (load_of (Heap a) x ∷ before);
            loaded = refl;
            its = refl;
            inside = can.inside;
          })

      module _ (y : ℕ) (w : View) (k : Tells (orec_confirm r) (FindsAgain good c n r) u y w) where
        abbrev after : List TracedStep
        after = load_of (Record r) y ∷ load_of (Heap a) x ∷ before

        abbrev confirmed : Bool → View
        confirmed b = moved v m.start h.seen (if b then record { at = a; value = x } ∷ v.attempt.reads else v.attempt.reads) no_sample no_check after

        confirm_path : (b : Bool) → (y == free_record (version_of word)) ≡ b → w ≡ confirmed b
        confirm_path b e = k.2 ∙ (ap (λ (z : View). view_after (orec_confirm r) k.0 z y) load_path ∙ ap confirmed e)

        shown : FindsAgain good c n r k.0 loaded y
        shown = subst (λ (z : View). FindsAgain good c n r k.0 z y) load_path k.1

        -- what was found before is found in all
        moves : MayMove good c n m.start h.seen after v
        moves = by h.moves
          where
            by : MayMove good c n m.start h.seen h.late v → MayMove good c n m.start h.seen after v
            by (inl q) = inl q
            by (inr q) =
                inr (
                  Contains-append_right (load_of (Record r) y ∷ load_of (Heap a) x ∷ []) before (load_of Clock m.start)
                      (Contains-append_left h.late (load_of (Record r) word ∷ []) (load_of Clock m.start) q.0),
                  q.1,
                  q.2,
                )

        pub loads-same : y ≡ word → HasLoaded good c n a x l v m w
        loads-same same = subst (HasLoaded good c n a x l v m) (sym (confirm_path true here)) (record {
          local = h.local;
          seen = h.seen;
          more = after;
          is = refl;
          moves = moves;
          owed = owed-later c a m.start before (load_of (Record r) y ∷ load_of (Heap a) x ∷ []) v h.owed;
          sees = subst (λ (b : Bool). Explains (word_now h.seen) (if b then record { at = a; value = x } ∷ v.attempt.reads else v.attempt.reads)) here shown.confirms.sees.sees;
          legal = shown.confirms.sees.legal;
          below = shown.confirms.sees.below;
        })
          where
            here : (y == free_record (version_of word)) ≡ true
            here = let e : y ≡ free_record (version_of word) = same ∙ sym (free-word word h.free) in grind (arith, nat_tests)

        pub refused-moved : y ≢ word → RefusesRead good c n a (causes.Moved r word y) l v m w
        refused-moved apart = subst (RefusesRead good c n a (causes.Moved r word y) l v m) (sym (confirm_path false there)) (record {
          local = h.local;
          seen = h.seen;
          more = after;
          is = refl;
          moves = moves;
          why = λ o p. (
            can.can.opens.has.runs.algorithm,
            refl,
            record {
              apart = λ e. apart (sym e);
              early = [];
              middle = load_of (Heap a) x ∷ h.late;
              act = Load;
              late = [];
              step_trace = ap (λ (q : List TracedStep). load_of (Record r) y ∷ load_of (Heap a) x ∷ q) (append_assoc h.late (load_of (Record r) word ∷ []) v.steps.step_trace);
              untouched = ((λ e. refl), untouched-loads (Record r) h.late h.loads);
              refused = refl;
            },
          );
          others = others h.next;
        })
          where
            there : (y == free_record (version_of word)) ≡ false
            there = let e : y ≢ free_record (version_of word) = (λ q. apart (q ∙ free-word word h.free)) in grind (arith, nat_tests)

            others : (h.late ≡ []) ⊎ (1 < c.callers) → 1 < c.callers
            others (inl none) =
                moved-others c n low k.0 loaded y r word shown.found
                (ap (λ (q : List TracedStep). left_at r ((q ++ load_of (Record r) word ∷ []) ++ v.steps.step_trace)) none
                ∙ left-found r word v.steps.step_trace) apart
            others (inr many) = many
