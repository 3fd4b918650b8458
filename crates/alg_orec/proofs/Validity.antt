-- What a validation comes to as a whole.
use Rattle.std.proofs.Common.{ℕ, ◌≡◌, ◌<◌, ◌≤◌, List, [], ◌∷◌, ◌++◌, length, Bool, true, false, refl, sym, ap, ◌∙◌, arith, subst, append_assoc}
use Rattle.std.specs.Prelude.{◌%◌, ◌⊎◌, ◌==◌, ltb, nat_le, slice_index_or, if◌then◌else◌, Some, None, Ok}
use Rattle.std.proofs.lemmas.Bool.Decides.{nat_tests}
use Rattle.std.proofs.lemmas.List.Elements.{Contains-append_right}
use Rattle.stm_model.specs.declared.config.Config.{Config}
use Rattle.stm_model.specs.declared.stop.Cause.{Cause}
use Rattle.stm_model.specs.declared.stop.Cause.TheVariants as causes
use Rattle.stm_model.specs.Memories.{item_at}
use Rattle.rule_base.specs.declared.entries.Entry.{Entry}
use Rattle.rule_base.specs.declared.layout.At.TheVariants.{Clock, Record}
use Rattle.rule_base.specs.declared.views.TracedStep.{TracedStep}
use Rattle.rule_base.specs.declared.views.Validation.{Validation}
use Rattle.rule_base.specs.declared.views.View.{View}
use Rattle.rule_base.specs.Encodings.{free_record, is_owned, version_of}
use Rattle.rule_base.specs.History.{over, touches, without, upto}
use Rattle.rule_base.specs.Lemmas.HistoryLemmas.{touches-without}
use Rattle.rule_base.specs.Ranks.{home_of}
use Rattle.rule_base.specs.StepKinds.{Tells, view_after}
use Rattle.rule_orec.specs.OrecReading.{no_check, checks}
use Rattle.rule_orec.specs.OrecSteps.{passes, orec_clock, orec_clock_all, CanOrecClock, orec_last, CanOrecLast}
use Rattle.stm_rule.specs.declared.local.Local.{Local}
use Rattle.stm_rule.specs.Findings.{OrecFails}
use Rattle.alg_orec.specs.RecordFindings.{FindsRecord, FindsClock, FindsAll, FindsLast}
use Rattle.alg_orec.specs.Vouching.{is_vouched, to_validate, touches-unvouched}
use Rattle.alg_orec.proofs.Passing as passing
use Rattle.alg_orec.proofs.Passing.{loads-append}
use Rattle.alg_orec.proofs.ReadItems.{place-of}
use Rattle.alg_orec.specs.Validating.{load_of, OnlyLoads, read_at, vouches, MustLoad, IsLast, CanValidate, Refuses, HasPassed, IsValid}

-- the record of the last one is to be loaded, where it isn't held in the place of a newer version
pub must-load : (c : Config) (l : Local) (i : ℕ) → IsLast c.records (Some i) l → (b : ℕ) → b ≡ read_at l i → (q : Bool) → MustLoad (Ok q) l (b % c.records) → item_at (b % c.records) l.locks.items ≡ None
must-load c l i last b at true h = h
must-load c l i last b at false h = absurd (let e : vouches l (b % c.records) ≡ false = ap (λ (a : ℕ). vouches l (a % c.records)) at ∙ last.1 in let f : true ≡ false = sym h ∙ e in cc)

module _ (good : (ℕ → ℕ) → Type 0) (c : Config) (n : ℕ) (low : n < c.callers) (l : Local) (v : View) (can : CanValidate c l v) where
  read-place : (a : ℕ) → touches v.attempt.reads a ≡ true → (i : ℕ) × (i < length l.reads.items) × (read_at l i ≡ a)
  read-place a read = subst (λ (ws : List (ℕ × ℕ)). (i : ℕ) × (i < length ws) × ((slice_index_or ws i (0, 0)).0 ≡ a)) (sym can.reads) (place-of v.attempt.reads a read)

  -- where every read is vouched for, the clock is all
  pub may-all : IsLast c.records None l → CanOrecClock (home_of c) [] v
  may-all all = record { opens = can.opens; mine = λ a read free. (both a read).0; old = λ a read free. (both a read).1 }
    where
      vouched : (a : ℕ) → touches v.attempt.reads a ≡ true → is_vouched (home_of c) v a ≡ true
      vouched a read = let p = read-place a read in passing.vouched-is c n low l v can a ∙ subst (λ (b : ℕ). vouches l (b % c.records) ≡ true) p.2 (all p.0 p.1)

      both : (a : ℕ) → touches v.attempt.reads a ≡ true → (touches v.owned.held (home_of c a) ≡ true) × (over v.owned.held (home_of c a) 0 ≤ v.attempt.start)
      both a read = by (touches v.owned.held (home_of c a)) refl (nat_le (over v.owned.held (home_of c a) 0) v.attempt.start) refl (vouched a read)
        where
          by : (h : Bool) → touches v.owned.held (home_of c a) ≡ h → (o : Bool)
              → nat_le (over v.owned.held (home_of c a) 0) v.attempt.start ≡ o → (if h then o else false) ≡ true
              → (touches v.owned.held (home_of c a) ≡ true) × (over v.owned.held (home_of c a) 0 ≤ v.attempt.start)
          by true p true q e = (p, grind (arith, nat_tests))
          by true p false q e = absurd cc
          by false p o q e = absurd cc

  pub valid-all : (x : ℕ) (w : View) → Tells orec_clock_all (FindsAll good c) v x w → IsValid c n good l v (record l { start = x }) w
  valid-all x w t = record {
    local = refl;
    history = t.0.history;
    more = load_of Clock x ∷ [];
    is = t.2;
    loads = (refl, tt);
    found = (0, omega arith, refl);
    moves = t.1.moves;
    sampled = t.1.clock.settled.clocks.sampled;
    sole = t.1.clock.sole;
    olds = t.1.clock.olds;
  }

  -- the clock was loaded
  module _ (i now : ℕ) (last : IsLast c.records (Some i) l) (s : View) (first : Tells (orec_clock (to_validate (home_of c) v)) (FindsClock c) v now s) where
    abbrev todo : Validation
    todo = checks now (to_validate (home_of c) v)

    pub may-start : CanValidate c l s
    may-start = subst (CanValidate c l) (sym first.2) (passing.can-under c n low l v can todo (load_of Clock now ∷ []))

    -- a read before the last one is not valid
    pub refused-before : (cause : Cause) (w : View) → Refuses c n cause s w → Refuses c n cause v w
    refused-before cause w q = passing.refused-earlier c n low l v can todo (load_of Clock now ∷ []) cause w (refl, tt) (subst (λ (y : View). Refuses c n cause y w) first.2 q)

    -- the reads before the last one have passed
    module _ (u : View) (h : HasPassed c 0 i l s u) where
      abbrev pub more : List TracedStep
      more = h.more ++ load_of Clock now ∷ []

      abbrev pub here : Validation
      here = record { checking = true; upto = now; todo = u.check.todo }

      pub path : u ≡ passing.under c n low l v can here more
      path = h.is ∙ (ap (λ (y : View). record y { check = record y.check { todo = u.check.todo }; steps = record y.steps { step_trace = h.more ++ y.steps.step_trace } }) first.2
          ∙ ap (λ (t : List TracedStep). record v { check = here; steps = record v.steps { step_trace = t } }) (sym (append_assoc h.more (load_of Clock now ∷ []) v.steps.step_trace)))

      pub loads : OnlyLoads more
      loads = loads-append h.more (load_of Clock now ∷ []) h.loads (refl, tt)

      pub read-last : touches v.attempt.reads (read_at l i) ≡ true
      read-last = passing.read-is c n low l v can i last.0

      rest : (b : ℕ) → b ≡ read_at l i → (a : ℕ) → touches v.attempt.reads a ≡ true → touches (without u.check.todo b) a ≡ false
      rest b at a read = touches-without u.check.todo b a ∙ by (b == a) refl (touches u.check.todo a) refl
        where
          p : (j : ℕ) × (j < length l.reads.items) × (read_at l j ≡ a)
          p = read-place a read

          -- what is still to be done was to be done, so nothing vouches for it
          open_read : touches u.check.todo a ≡ true → vouches l (a % c.records) ≡ false
          open_read t = go (is_vouched (home_of c) v a) (passing.vouched-is c n low l v can a)
              (sym (touches-unvouched (home_of c) v v.attempt.reads a) ∙ (ap (λ (y : View). touches y.check.todo a) (sym first.2) ∙ h.fewer a t))
            where
              go : (q : Bool) → q ≡ vouches l (a % c.records) → (if q then false else touches v.attempt.reads a) ≡ true → vouches l (a % c.records) ≡ false
              go true e f = absurd cc
              go false e f = sym e

          at-place : vouches l (a % c.records) ≡ false → vouches l (read_at l p.0 % c.records) ≡ false
          at-place e = ap (λ (k : ℕ). vouches l (k % c.records)) p.2 ∙ e

          order : (b ≡ a → ⊥) → touches u.check.todo a ≡ true → ⊥
          order apart t = go (ltb p.0 i) refl (ltb i p.0) refl
            where
              shut : vouches l (read_at l p.0 % c.records) ≡ false
              shut = at-place (open_read t)

              go : (q : Bool) → ltb p.0 i ≡ q → (r : Bool) → ltb i p.0 ≡ r → ⊥
              go true q r e =
                  let f : touches u.check.todo a ≡ false =
                  subst (λ (k : ℕ). touches u.check.todo k ≡ false) p.2 (h.done p.0 (omega arith) (grind (arith, nat_tests)) shut) in
                  let g : true ≡ false = sym t ∙ f in cc
              go false q true e = let f : vouches l (read_at l p.0 % c.records) ≡ true = last.2 p.0 (grind (arith, nat_tests)) p.1 in let g : true ≡ false = sym f ∙ shut in cc
              go false q false e = let same : i ≡ p.0 = grind (arith, nat_tests) in apart (at ∙ (ap (λ (k : ℕ). read_at l k) same ∙ p.2))

          by : (q : Bool) → (b == a) ≡ q → (t : Bool) → touches u.check.todo a ≡ t → (if q then false else t) ≡ false
          by true q t e = refl
          by false q false e = refl
          by false q true e = absurd (order (λ same. let f : (b == a) ≡ true = grind (arith, nat_tests) in let g : true ≡ false = sym f ∙ q in cc) e)

      pub may-last : (b : ℕ) → b ≡ read_at l i → CanOrecLast (home_of c) (b % c.records) b u
      may-last b at = subst (CanOrecLast (home_of c) (b % c.records) b) (sym path) (record { opens = passing.opens-under c n low l v can here more; its = refl; checking = refl; rest = rest b at })

      pub refused-mine : (b version : ℕ) → b ≡ read_at l i → item_at (b % c.records) l.locks.items ≡ Some version → l.start < version → Refuses c n (causes.Record (b % c.records) (free_record version) l.start) v u
      refused-mine b version at some newer = passing.refused-held c n low l v can b version u here more (subst (λ (a : ℕ). touches v.attempt.reads a ≡ true) (sym at) read-last) some newer loads path

      abbrev after_last : ℕ → ℕ → List Entry → Bool → View
      after_last r x history p = record v {
        history = if p then record v.history { seen = history; front = now } else v.history;
        attempt = if p then record v.attempt { start = now } else v.attempt;
        sample = if p then record v.sample { loaded = false } else v.sample;
        check = no_check;
        steps = record v.steps { step_trace = load_of (Record r) x ∷ (more ++ v.steps.step_trace) };
      }

      last_path : (b x : ℕ) (w : View) (p : Bool) → passes x (passing.under c n low l v can here more) ≡ p
          → (t : Tells (orec_last (b % c.records) b) (FindsLast good c n (b % c.records)) u x w)
          → w ≡ after_last (b % c.records) x (upto t.0.history now) p
      last_path b x w p e t = t.2 ∙ (ap (λ (y : View). view_after (orec_last (b % c.records) b) t.0 y x) path ∙ ap (after_last (b % c.records) x (upto t.0.history now)) e)

      -- the last one isn't valid
      pub refused-last : (b x : ℕ) (w : View) → b ≡ read_at l i → item_at (b % c.records) l.locks.items ≡ None
          → (is_owned x ≡ true) ⊎ ((is_owned x ≡ false) × (l.start < version_of x))
          → Tells (orec_last (b % c.records) b) (FindsLast good c n (b % c.records)) u x w
          → Refuses c n (causes.Record (b % c.records) x l.start) v w
      refused-last b x w at none stale t = passing.refused-found c n low l v can b x here more w no_check t.0 (subst (λ (a : ℕ). touches v.attempt.reads a ≡ true) (sym at) read-last) none
          (subst (λ (y : View). FindsRecord c n (b % c.records) t.0 y x) path t.1.read.found)
          (subst (λ (y : View). OrecFails n t.0 y x) path t.1.read.fails) stale loads
          (last_path b x w false (passing.fails-by c n low l v can here more x stale) t)

      -- or all are
      pub valid-last : (b x : ℕ) (w : View) → is_owned x ≡ false → version_of x ≤ l.start
          → Tells (orec_last (b % c.records) b) (FindsLast good c n (b % c.records)) u x w
          → IsValid c n good l v (record l { start = now }) w
      valid-last b x w free old t = record {
        local = refl;
        history = upto t.0.history now;
        more = load_of (Record (b % c.records)) x ∷ more;
        is = last_path b x w true pass t;
        loads = (refl, loads);
        found = Contains-append_right (load_of (Record (b % c.records)) x ∷ h.more) (load_of Clock now ∷ []) (load_of Clock now) (0, omega arith, refl);
        moves = (let m = shown.moves pass in record { legal = m.legal; below = m.below; seen = m.seen; front = m.front; limit = m.limit; sees = m.sees });
        sampled = first.1.settled.clocks.sampled;
        sole = first.1.sole;
        olds = first.1.olds;
      }
        where
          pass : passes x (passing.under c n low l v can here more) ≡ true
          pass = passing.passes-by c n low l v can here more x free old

          shown : FindsLast good c n (b % c.records) t.0 (passing.under c n low l v can here more) x
          shown = subst (λ (y : View). FindsLast good c n (b % c.records) t.0 y x) path t.1
