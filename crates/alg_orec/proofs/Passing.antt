-- What the steps of a validation come to.
use Rattle.std.proofs.Common.{ℕ, ◌≡◌, ◌<◌, ◌≤◌, ◌+◌, List, [], ◌∷◌, ◌++◌, length, Bool, true, false, refl, sym, ap, ◌∙◌, arith, subst, inl, inr, append_assoc}
use Rattle.std.specs.Prelude.{◌%◌, ◌⊎◌, ◌==◌, ltb, nat_le, slice_index_or, if◌then◌else◌, Some, None, Result, Ok, Err}
use Rattle.std.proofs.lemmas.Bool.Decides.{nat_tests}
use Rattle.stm_model.specs.declared.config.Config.{Config}
use Rattle.stm_model.specs.declared.stop.Cause.{Cause}
use Rattle.stm_model.specs.declared.stop.Cause.TheVariants as causes
use Rattle.stm_model.specs.Memories.{item_at}
use Rattle.rule_base.specs.declared.entries.Cell.{Cell}
use Rattle.rule_base.specs.declared.layout.At.TheVariants.{Record}
use Rattle.rule_base.specs.declared.views.TracedStep.{TracedStep}
use Rattle.rule_base.specs.declared.views.Validation.{Validation}
use Rattle.rule_base.specs.declared.views.View.{View}
use Rattle.rule_base.specs.Bridge.{items}
use Rattle.rule_base.specs.Lemmas.BridgeLemmas.{item-none, item-some}
use Rattle.rule_base.specs.Encodings.{free_record, is_owned, version_of}
use Rattle.rule_base.specs.History.{over, touches, without}
use Rattle.rule_base.specs.Lemmas.HistoryLemmas.{touches-without}
use Rattle.rule_base.specs.Ranks.{home_of}
use Rattle.rule_base.specs.StepKinds.{Tells}
use Rattle.rule_base.specs.World.{World}
use Rattle.rule_orec.specs.OrecReading.{no_check, passed}
use Rattle.rule_orec.specs.OrecSteps.{HasOpen, passes, orec_pass}
use Rattle.stm_gate.specs.Logging.{item-touched}
use Rattle.stm_rule.specs.declared.local.Local.{Local}
use Rattle.stm_rule.specs.Findings.{OrecFails}
use Rattle.alg_orec.proofs.OthersLaws.{owned-others, newer-others}
use Rattle.alg_orec.specs.RecordFindings.{FindsRecord, FindsRead}
use Rattle.alg_orec.specs.Vouching.{is_vouched}
use Rattle.alg_orec.proofs.ReadItems.{touched-at}
use Rattle.alg_orec.specs.Validating.{load_of, OnlyLoads, read_at, is_old, vouches, CanValidate, IsFoundStale, IsHeldNewer, Refuses, Judges, HasPassed, Passes}

-- a log of what was loaded grows
pub loads-append : (a b : List TracedStep) → OnlyLoads a → OnlyLoads b → OnlyLoads (a ++ b)
loads-append [] b p q = q
loads-append (i ∷ is) b p q = (p.0, loads-append is b p.1 q)

-- the record held in the place of a version
held-of : (cs : List Cell) (r version : ℕ) → item_at r (items cs) ≡ Some version → (touches cs r ≡ true) × (over cs r 0 ≡ version)
held-of cs r version e = item-some cs r version e

module _ (c : Config) (n : ℕ) (low : n < c.callers) (l : Local) (v : View) (can : CanValidate c l v) where
  unheld : (r : ℕ) → item_at r l.locks.items ≡ None → touches v.owned.held r ≡ false
  unheld r e = by (touches v.owned.held r) refl
    where
      by : (b : Bool) → touches v.owned.held r ≡ b → b ≡ false
      by true q = absurd (let s : None ≡ Some (over v.owned.held r 0) = sym e ∙ (ap (λ ws. item_at r ws) can.locks ∙ item-touched v.owned.held r q) in cc)
      by false q = refl

  -- the descriptor's locks tell which reads the view has to look at
  pub vouched-is : (a : ℕ) → is_vouched (home_of c) v a ≡ vouches l (a % c.records)
  vouched-is a = by (touches v.owned.held (home_of c a)) refl ∙ ap (λ (ws : List (ℕ × ℕ)). is_old l.start (item_at (home_of c a) ws)) (sym can.locks)
    where
      by : (b : Bool) → touches v.owned.held (home_of c a) ≡ b → (if b then nat_le (over v.owned.held (home_of c a) 0) v.attempt.start else false) ≡ is_old l.start (item_at (home_of c a) (items v.owned.held))
      by true q = ap (λ (s : ℕ). nat_le (over v.owned.held (home_of c a) 0) s) can.start ∙ ap (is_old l.start) (sym (item-touched v.owned.held (home_of c a) q))
      by false q = ap (is_old l.start) (sym (item-none v.owned.held (home_of c a) q))

  pub read-is : (i : ℕ) → i < length l.reads.items → touches v.attempt.reads (read_at l i) ≡ true
  read-is i lt = subst (λ (ws : List (ℕ × ℕ)). i < length ws → touches v.attempt.reads (slice_index_or ws i (0, 0)).0 ≡ true) (sym can.reads) (touched-at v.attempt.reads i) lt

  -- the view while a validation is under way
  abbrev pub under : Validation → List TracedStep → View
  under check more = record v { check = check; steps = record v.steps { step_trace = more ++ v.steps.step_trace } }

  pub opens-under : (check : Validation) (more : List TracedStep) → HasOpen (under check more)
  opens-under check more =
      let o = can.opens in
      record {
        has = record
            { runs = record { phase = o.has.runs.phase; algorithm = o.has.runs.algorithm; plain = o.has.runs.plain }; inside = o.has.inside };
        open_yet = o.open_yet;
      }

  pub can-under : (check : Validation) (more : List TracedStep) → CanValidate c l (under check more)
  can-under check more = record { opens = opens-under check more; start = can.start; reads = can.reads; locks = can.locks; versions = can.versions; level = can.level }

  -- a record that was loaded passes where the start has seen its version
  pub passes-by : (check : Validation) (more : List TracedStep) (x : ℕ) → is_owned x ≡ false → version_of x ≤ l.start → passes x (under check more) ≡ true
  passes-by check more x free old = let s = can.start in grind (arith, nat_tests, free)

  pub fails-by : (check : Validation) (more : List TracedStep) (x : ℕ) → (is_owned x ≡ true) ⊎ ((is_owned x ≡ false) × (l.start < version_of x)) → passes x (under check more) ≡ false
  fails-by check more x (inl owned) = ap (λ (b : Bool). if b then false else nat_le (version_of x) v.attempt.start) owned
  fails-by check more x (inr newer) = let s = can.start in let free = newer.0 in let late = newer.1 in grind (arith, nat_tests, free)

  -- a loaded record that doesn't pass is another caller's, or newer
  stale-by : (check : Validation) (more : List TracedStep) (r x : ℕ) (m : World) → item_at r l.locks.items ≡ None → FindsRecord c n r m (under check more) x → OrecFails n m (under check more) x
      → (is_owned x ≡ true) ⊎ ((is_owned x ≡ false) × (l.start < version_of x)) → (after : List TracedStep) → after ≡ load_of (Record r) x ∷ more → IsFoundStale c n r x l.start after v
  stale-by check more r x m none f fails (inl owned) after is = let free = unheld r none in
      record {
        early = more;
        last = is;
        unheld = free;
        stale = inl (owned, f.others owned free);
        others = owned-others c n low m (under check more) x r f owned free;
        later = λ quiescent. absurd (let q = f.others owned free in let own = fails.own quiescent owned in let e = q.3 in q.2 (omega arith));
      }
  stale-by check more r x m none f fails (inr newer) after is = let free = unheld r none in
      record {
        early = more;
        last = is;
        unheld = free;
        stale = inr newer;
        others = newer-others c n low m (under check more) x r f newer.0 can.level (let s = can.start in let e = newer.1 in omega arith);
        later = λ quiescent. fails.later quiescent newer.0 (fails-by check more x (inr newer));
      }

  -- the read at a was found stale in the last step, or its record is held in the place of a newer version
  pub refused-found : (a x : ℕ) (check : Validation) (more : List TracedStep) (w : View) (after : Validation) (m : World)
      → touches v.attempt.reads a ≡ true → item_at (a % c.records) l.locks.items ≡ None
      → FindsRecord c n (a % c.records) m (under check more) x → OrecFails n m (under check more) x
      → (is_owned x ≡ true) ⊎ ((is_owned x ≡ false) × (l.start < version_of x)) → OnlyLoads more → w ≡ under after (load_of (Record (a % c.records)) x ∷ more) → Refuses c n (causes.Record (a % c.records) x l.start) v w
  refused-found a x check more w after m read none f fails stale loads is = subst (λ (y : View). Refuses c n (causes.Record (a % c.records) x l.start) v y) (sym is) (record {
    start = sym can.start;
    a = a;
    home = refl;
    read = read;
    more = load_of (Record (a % c.records)) x ∷ more;
    is = refl;
    loads = (refl, loads);
    why = inl (stale-by check more (a % c.records) x m none f fails stale (load_of (Record (a % c.records)) x ∷ more) refl);
  })

  pub refused-held : (a version : ℕ) (w : View) (after : Validation) (more : List TracedStep) → touches v.attempt.reads a ≡ true
      → item_at (a % c.records) l.locks.items ≡ Some version → l.start < version → OnlyLoads more → w ≡ under after more
      → Refuses c n (causes.Record (a % c.records) (free_record version) l.start) v w
  refused-held a version w after more read some newer loads is = subst (λ (y : View). Refuses c n (causes.Record (a % c.records) (free_record version) l.start) v y) (sym is) (record {
    start = sym can.start;
    a = a;
    home = refl;
    read = read;
    more = more;
    is = refl;
    loads = loads;
    why = (let h = held-of v.owned.held (a % c.records) version (sym (ap (λ (ws : List (ℕ × ℕ)). item_at (a % c.records) ws) can.locks) ∙ some) in
        inr (record { held = h.0; word = ap free_record (sym h.1); newer = (let e = h.1 in omega arith) }));
  })

  -- what steps before have loaded
  pub refused-earlier : (check : Validation) (early : List TracedStep) (cause : Cause) (w : View) → OnlyLoads early → Refuses c n cause (under check early) w → Refuses c n cause v w
  refused-earlier check early (causes.Clock had now) w loads q = absurd q
  refused-earlier check early (causes.Record index word start) w loads q = record {
    start = q.start;
    a = q.a;
    home = q.home;
    read = q.read;
    more = q.more ++ early;
    is = q.is ∙ ap (λ (t : List TracedStep). record v { check = w.check; steps = record v.steps { step_trace = t } }) (sym (append_assoc q.more early v.steps.step_trace));
    loads = loads-append q.more early q.loads loads;
    why = why q.why;
  }
    where
      why : IsFoundStale c n index word start q.more (under check early) ⊎ IsHeldNewer c n index word start (under check early) → IsFoundStale c n index word start (q.more ++ early) v ⊎ IsHeldNewer c n index word start v
      why (inl f) = inl (record { early = f.early ++ early; last = ap (λ (t : List TracedStep). t ++ early) f.last; unheld = f.unheld; stale = f.stale; others = f.others; later = f.later })
      why (inr f) = inr (record { held = f.held; word = f.word; newer = f.newer })
  refused-earlier check early (causes.Moved index before after) w loads q = absurd q
  refused-earlier check early (causes.Filter time bits) w loads q = absurd q
  refused-earlier check early (causes.Overrun start clock) w loads q = absurd q

  -- THE READS BEFORE THE LAST
  module _ (i : ℕ) (u : View) (h : HasPassed c 0 i l v u) where
    abbrev so_far : Validation
    so_far = record v.check { todo = u.check.todo }

    pub refused-next : (cause : Cause) (w : View) → Refuses c n cause u w → Refuses c n cause v w
    refused-next cause w q = refused-earlier so_far h.more cause w h.loads (subst (λ (y : View). Refuses c n cause y w) h.is q)

    -- one more has passed
    pub passed-next : (w : View) → HasPassed c i (i + 1) l u w → HasPassed c 0 (i + 1) l v w
    passed-next w k = record {
      more = k.more ++ h.more;
      is = k.is ∙ (ap (λ (y : View). record y { check = record y.check { todo = w.check.todo }; steps = record y.steps { step_trace = k.more ++ y.steps.step_trace } }) h.is
          ∙ ap (λ (t : List TracedStep). record v { check = record v.check { todo = w.check.todo }; steps = record v.steps { step_trace = t } }) (sym (append_assoc k.more h.more v.steps.step_trace)));
      loads = loads-append k.more h.more k.loads h.loads;
      fewer = λ a t. h.fewer a (k.fewer a t);
      done = λ j from to e. by j (ltb j i) refl to e;
    }
      where
        gone : (a : ℕ) → touches u.check.todo a ≡ false → touches w.check.todo a ≡ false
        gone a s = by (touches w.check.todo a) refl
          where
            by : (q : Bool) → touches w.check.todo a ≡ q → q ≡ false
            by true e = absurd (let f : true ≡ false = sym (k.fewer a e) ∙ s in cc)
            by false e = refl

        by : (j : ℕ) (b : Bool) → ltb j i ≡ b → j < i + 1 → vouches l (read_at l j % c.records) ≡ false → touches w.check.todo (read_at l j) ≡ false
        by j true q to e = gone (read_at l j) (h.done j (omega arith) (grind (arith, nat_tests)) e)
        by j false q to e = let same : j ≡ i = grind (arith, nat_tests) in k.done j (omega arith) to e

  -- ONE READ
  module _ (i : ℕ) (lt : i < length l.reads.items) where
    one : (todo : List Cell) → (vouches l (read_at l i % c.records) ≡ false → touches todo (read_at l i) ≡ false) → (j : ℕ) → i ≤ j
        → j < i + 1 → vouches l (read_at l j % c.records) ≡ false → touches todo (read_at l j) ≡ false
    one todo this j from to e = let same : j ≡ i = omega arith in subst (λ (q : ℕ). vouches l (read_at l q % c.records) ≡ false → touches todo (read_at l q) ≡ false) (sym same) this e

    module _ (b : ℕ) (at : b ≡ read_at l i) where
      read-at : touches v.attempt.reads b ≡ true
      read-at = subst (λ (a : ℕ). touches v.attempt.reads a ≡ true) (sym at) (read-is i lt)

      -- its record is held in the place of a newer version
      pub refused-mine : (version : ℕ) → item_at (b % c.records) l.locks.items ≡ Some version → l.start < version → Refuses c n (causes.Record (b % c.records) (free_record version) l.start) v v
      refused-mine version some newer = refused-held b version v v.check [] read-at some newer tt refl

      pass_path : (x : ℕ) (w : View) (p : Bool) → passes x v ≡ p → Tells (orec_pass (b % c.records) b) (FindsRead c n (b % c.records)) v x w
          → w ≡ under (if p then passed b v.check else no_check) (load_of (Record (b % c.records)) x ∷ [])
      pass_path x w p e t = t.2 ∙ ap (λ (q : Bool). under (if q then passed b v.check else no_check) (load_of (Record (b % c.records)) x ∷ [])) e

      -- its record was loaded
      pub passed-on : (x : ℕ) (w : View) → is_owned x ≡ false → version_of x ≤ l.start → Tells (orec_pass (b % c.records) b) (FindsRead c n (b % c.records)) v x w → HasPassed c i (i + 1) l v w
      passed-on x w free old t = subst (HasPassed c i (i + 1) l v) (sym (pass_path x w true (passes-by v.check [] x free old) t)) (record {
        more = load_of (Record (b % c.records)) x ∷ [];
        is = refl;
        loads = (refl, tt);
        fewer = fewer;
        done = one (without v.check.todo b) (λ e. subst (λ (k : ℕ). touches (without v.check.todo b) k ≡ false) at self);
      })
        where
          fewer : (a : ℕ) → touches (without v.check.todo b) a ≡ true → touches v.check.todo a ≡ true
          fewer a s = by (b == a) (sym (touches-without v.check.todo b a) ∙ s)
            where
              by : (q : Bool) → (if q then false else touches v.check.todo a) ≡ true → touches v.check.todo a ≡ true
              by true f = absurd cc
              by false f = f

          self : touches (without v.check.todo b) b ≡ false
          self = touches-without v.check.todo b b ∙ (let e : (b == b) ≡ true = grind (arith, nat_tests) in ap (λ (q : Bool). if q then false else touches v.check.todo b) e)

      refused-on : (x : ℕ) (w : View) → item_at (b % c.records) l.locks.items ≡ None
          → (is_owned x ≡ true) ⊎ ((is_owned x ≡ false) × (l.start < version_of x))
          → Tells (orec_pass (b % c.records) b) (FindsRead c n (b % c.records)) v x w
          → Refuses c n (causes.Record (b % c.records) x l.start) v w
      refused-on x w none stale t = refused-found b x v.check [] w no_check t.0 read-at none t.1.found t.1.fails stale tt (pass_path x w false (fails-by v.check [] x stale) t)

      pub judged : (x : ℕ) (w : View) (q : Result (Unit {0}) Cause) → item_at (b % c.records) l.locks.items ≡ None
          → Judges (b % c.records) q x l.start → Tells (orec_pass (b % c.records) b) (FindsRead c n (b % c.records)) v x w
          → Passes c n i (i + 1) q l v w
      judged x w (Ok u) none j t = passed-on x w j.0 j.1 t
      judged x w (Err cause) none j t = subst (λ (k : Cause). Refuses c n k v w) (sym j.0) (refused-on x w none j.1 t)
