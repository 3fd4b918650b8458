-- What the steps of a promotion come to under OrecLazy and OrecEager alike.
use Rattle.std.proofs.Common.{ℕ, ◌≡◌, ◌<◌, ◌≤◌, List, [], ◌∷◌, ◌++◌, Bool, true, false, refl, sym, ap, ◌∙◌, arith, subst, append_assoc, inl, inr}
use Rattle.std.specs.Prelude.{Option, Some, None, Contains, ◌%◌, ◌⊎◌, ltb, nat_le, if◌then◌else◌}
use Rattle.std.proofs.lemmas.Bool.Decides.{nat_tests}
use Rattle.std.proofs.lemmas.List.Elements.{Contains-append_right}
use Rattle.stm_model.specs.declared.config.Config.{Config}
use Rattle.stm_model.specs.declared.config.TheConstants.{CLOCK_LIMIT}
use Rattle.stm_model.specs.declared.stop.Cause.TheVariants as causes
use Rattle.stm_model.specs.Memories.{item_at}
use Rattle.rule_base.specs.declared.entries.Entry.{Entry}
use Rattle.rule_base.specs.declared.layout.At.TheVariants.{Clock, Record}
use Rattle.rule_base.specs.declared.views.Act.TheVariants.{Load}
use Rattle.rule_base.specs.declared.views.LockView.{LockView}
use Rattle.rule_base.specs.declared.views.Ownership.{Ownership}
use Rattle.rule_base.specs.declared.views.TracedStep.{TracedStep}
use Rattle.rule_base.specs.declared.views.Validation.{Validation}
use Rattle.rule_base.specs.declared.views.View.{View}
use Rattle.rule_base.specs.Bridge.{items, of_words}
use Rattle.rule_base.specs.Lemmas.BridgeLemmas.{item-some}
use Rattle.rule_base.specs.Encodings.{is_owned, version_of}
use Rattle.rule_base.specs.GateSteps.{granted_at}
use Rattle.rule_base.specs.History.{over, touches, Inside, Small}
use Rattle.rule_base.specs.InstallSteps.{settle, CanSettle}
use Rattle.rule_base.specs.Own.{Own}
use Rattle.rule_base.specs.Ranks.{home_of}
use Rattle.rule_base.specs.StepKinds.{Tells, view_after}
use Rattle.rule_orec.specs.OrecReading.{no_sample, no_check}
use Rattle.rule_orec.specs.OrecSteps.{passes, direct_attempt, direct_owned, orec_clock, orec_grant, CanOrecGrant, orec_grant_all, CanOrecGrantAll, HasStores}
use Rattle.stm_gate.proofs.Peeling.{has-touched}
use Rattle.stm_rule.specs.declared.local.Local.{Local}
use Rattle.stm_rule.specs.Attempts.{own_of}
use Rattle.stm_rule.specs.Findings.{FindsWithin, OrecFails}
use Rattle.alg_orec.specs.RecordFindings.{FindsRecord, FindsClock, FindsAll, FindsGrant, Moves}
use Rattle.alg_orec.specs.Vouching.{to_validate}
use Rattle.stm_answers.specs.declared.answers.Irrev.TheVariants as irrevs
use Rattle.stm_answers.specs.Causes.{Conflicts, IsStaleAt, has_item}
use Rattle.stm_answers.specs.Causes.Asked.{ToPromote}
use Rattle.stm_answers.specs.CallerState.{known_of}
use Rattle.alg_orec.specs.EagerEnding.{AllBelow}
use Rattle.alg_orec.specs.Granting.{CanPromote, loaded_at, IsPromoted, IsNotPromoted}
use Rattle.alg_orec.specs.Validating.{load_of, OnlyLoads, read_at, is_old, vouches, IsLast, CanValidate, Refuses, IsFoundStale, IsHeldNewer, IsStale, HasPassed}
use Rattle.alg_orec.proofs.Lazy.LazyCommitLaws.{untouched-loads}
use Rattle.alg_orec.proofs.Eager.EagerProving.{conflicts-later}
use Rattle.alg_orec.proofs.Passing as passing
use Rattle.alg_orec.proofs.Validity as validity

module _ (good : List ℕ → Type 0) (c : Config) (n : ℕ) (low : n < c.callers) (l : Local) (v : View) (can : CanPromote c n l v) where
  abbrev rule : (ℕ → ℕ) → Type 0
  rule = of_words good c.words

  ready : CanValidate c l v
  ready = can.validates

  -- the view before the grant, with what it knows of the clock as the gate's holder
  abbrev knowing : Bool → ℕ → Bool → Bool → Validation → List TracedStep → View
  knowing quiescent time rebased completed check more = record v {
    gate = record v.gate { quiescent = quiescent; time = time; rebased = rebased; completed = completed };
    check = check;
    steps = record v.steps { step_trace = more ++ v.steps.step_trace };
  }

  -- what was loaded is all that changed
  by-loads : (w y : View) (more : List TracedStep) → w ≡ y → y ≡ loaded_at v y more → w ≡ loaded_at v w more
  by-loads w y more path is = subst (λ (u : View). u ≡ loaded_at v u more) (sym path) is

  -- its start has seen the versions of the records that it holds
  seen-below : (t : ℕ) → l.start < t → AllBelow t v.owned.held
  seen-below t late r h = let o = can.olds r h in omega arith

  has-stores : (y : View) → y.lock ≡ v.lock → y.owned ≡ v.owned → HasStores c.words y
  has-stores y lock owned = record {
    unlocked = ap (λ (q : LockView). q.taken) lock ∙ can.stores.unlocked;
    inside = subst (λ (h : Ownership). Inside c.words h.in_place) (sym owned) can.stores.inside;
    small = subst (λ (h : Ownership). Small h.in_place) (sym owned) can.stores.small;
  }

  -- NO READ TO VALIDATE: the clock is all
  pub may-grant_all : IsLast c.records None l → CanOrecGrantAll (home_of c) c.words c.callers n v
  may-grant_all none = record { all = validity.may-all rule c n low l v ready none; holds = can.alone.holds; quiet = can.alone.quiet; stores = can.stores }

  -- the view after its load, granted or not
  abbrev all_at : List Entry → ℕ → Bool → View
  all_at seen x b = record v {
    history = if b then record v.history { seen = seen; front = x } else v.history;
    attempt = if b then direct_attempt x v else v.attempt;
    owned = if b then direct_owned v.owned else v.owned;
    gate = if b then granted_at x v.gate else v.gate;
    sample = no_sample;
    check = no_check;
    steps = record v.steps { step_trace = load_of Clock x ∷ v.steps.step_trace };
  }

  all_path : (x : ℕ) (w : View) (b : Bool) → ltb x CLOCK_LIMIT ≡ b → (t : Tells orec_grant_all (FindsAll rule c) v x w) → w ≡ all_at t.0.history x b
  all_path x w b e t = t.2 ∙ ap (all_at t.0.history x) e

  pub granted-all : (x : ℕ) (w : View) → x < CLOCK_LIMIT → Tells orec_grant_all (FindsAll rule c) v x w → IsPromoted good c l v (record l { start = x }) w
  granted-all x w under t = record {
    local = refl;
    seen = t.0.history;
    more = load_of Clock x ∷ [];
    is = all_path x w true (grind (arith, nat_tests)) t;
    moves = t.1.moves;
    found = (0, omega arith, refl);
    limit = under;
  }

  pub full-all : (x : ℕ) (w : View) → CLOCK_LIMIT ≤ x → Tells orec_grant_all (FindsAll rule c) v x w → IsNotPromoted c n (irrevs.ClockFull x) l v l w
  full-all x w high t = subst (IsNotPromoted c n (irrevs.ClockFull x) l v l) (sym (all_path x w false (grind (arith, nat_tests)) t)) (record {
    local = refl;
    more = load_of Clock x ∷ [];
    is = refl;
    earlier = λ quiescent. absurd (let f : true ≡ false = sym quiescent ∙ can.not_quiescent in cc);
    why = (high, λ o. (load_of Clock x ∷ [], refl, Load, (0, omega arith, refl)));
  })

  -- READS: the clock is loaded as the gate's holder first
  pub may-settle : CanSettle c.callers n v
  may-settle = record { holds = can.alone.holds; quiet = can.alone.quiet }

  module _ (time : ℕ) (s : View) (first : Tells settle FindsWithin v time s) where
    settled_path : s ≡ knowing true time false false v.check (load_of Clock time ∷ [])
    settled_path = first.2

    pub full-settled : CLOCK_LIMIT ≤ time → IsNotPromoted c n (irrevs.ClockFull time) l v l s
    full-settled high = subst (IsNotPromoted c n (irrevs.ClockFull time) l v l) (sym settled_path) (record {
      local = refl;
      more = load_of Clock time ∷ [];
      is = refl;
      earlier = λ quiescent r h. (let b = can.below r h in omega arith);
      why = (high, λ o. (load_of Clock time ∷ [], refl, Load, (0, omega arith, refl)));
    })

    pub may-validate : CanValidate c l s
    may-validate = subst (CanValidate c l) (sym settled_path) (record {
      opens = (let o = ready.opens.has in record { has = record { runs = record { phase = o.runs.phase; algorithm = o.runs.algorithm; plain = o.runs.plain }; inside = o.inside }; open_yet = ready.opens.open_yet });
      start = ready.start;
      reads = ready.reads;
      locks = ready.locks;
      versions = ready.versions;
      level = ready.level;
    })

    -- the last read to validate is of a record that it doesn't hold
    pub not-held : (j b : ℕ) → IsLast c.records (Some j) l → b ≡ read_at l j → item_at (b % c.records) l.locks.items ≡ None
    not-held j b last at = by (item_at (b % c.records) l.locks.items) refl
      where
        by : (m : Option ℕ) → item_at (b % c.records) l.locks.items ≡ m → m ≡ None
        by None e = refl
        by (Some version) e =
            let p = item-some v.owned.held (b % c.records) version (sym (ap (item_at (b % c.records)) ready.locks) ∙ e) in
            let o = can.olds (b % c.records) p.0 in
            let q = p.1 in
            let f : nat_le version l.start ≡ false = sym (ap (is_old l.start) e) ∙ (ap (λ (x : ℕ). vouches l (x % c.records)) at ∙ last.1) in absurd (grind (arith, nat_tests))

    -- none that it holds is newer than its start
    held-newer : (index word start : ℕ) (w : View) → IsStale c n index word start s w → IsHeldNewer c n index word start s → ⊥
    held-newer index word start w q f = let o : over v.owned.held index 0 ≤ l.start = can.olds index (sym (ap (λ (y : View). touches y.owned.held index) settled_path) ∙ f.held) in
        let e : over s.owned.held index 0 ≡ over v.owned.held index 0 = ap (λ (y : View). over y.owned.held index 0) settled_path in
        let b : s.attempt.start ≡ v.attempt.start = ap (λ (y : View). y.attempt.start) settled_path in
        let d = q.start in let h = f.newer in let x = ready.start in absurd (omega arith)

    -- and the clock that it knows is later than that
    stale-later : (index word start : ℕ) (w : View) → IsStale c n index word start s w → l.start < time
    stale-later index word start w q = by q.why
      where
        by : IsFoundStale c n index word start q.more s ⊎ IsHeldNewer c n index word start s → l.start < time
        by (inl f) =
            let g = f.later (ap (λ (y : View). y.gate.quiescent) settled_path) in
            let e : s.attempt.start ≡ v.attempt.start = ap (λ (y : View). y.attempt.start) settled_path in
            let d : s.gate.time ≡ time = ap (λ (y : View). y.gate.time) settled_path in let x = ready.start in omega arith
        by (inr f) = absurd (held-newer index word start w q f)

    -- a read that isn't valid, as found since the clock was loaded
    found-conflicts : (index word start : ℕ) (w : View) (q : IsStale c n index word start s w) → IsFoundStale c n index word start q.more s
        → (o : Own) → Conflicts c n ToPromote (causes.Record index word start) (known_of v o) (known_of w o) × (1 < c.callers)
    found-conflicts index word start w q f o = (
      (
        ready.opens.has.runs.algorithm,
        from,
        record {
          early = f.early ++ load_of Clock time ∷ [];
          act = Load;
          late = [];
          step_trace =
              step_trace
              ∙ (ap (λ (is : List TracedStep). is ++ (load_of Clock time ∷ v.steps.step_trace)) f.last
              ∙ ap (λ (is : List TracedStep). load_of (Record index) word ∷ is)
              (sym (append_assoc f.early (load_of Clock time ∷ []) v.steps.step_trace)));
          untouched = untouched-loads (Record index) f.early (load_of Clock time ∷ []) (subst OnlyLoads f.last q.loads).1 ((λ e. refl), tt);
        },
        inr (tt, (q.a, q.home, read), subst (λ (t : ℕ). IsStaleAt c n t word) from f.stale),
      ),
      f.others,
    )
      where
        step_trace : w.steps.step_trace ≡ q.more ++ (load_of Clock time ∷ v.steps.step_trace)
        step_trace = ap (λ (y : View). y.steps.step_trace) q.is ∙ ap (λ (y : View). q.more ++ y.steps.step_trace) settled_path

        read : has_item q.a (items v.attempt.reads) ≡ true
        read = sym (has-touched q.a v.attempt.reads) ∙ (sym (ap (λ (y : View). touches y.attempt.reads q.a) settled_path) ∙ q.read)

        from : start ≡ v.attempt.start
        from = q.start ∙ ap (λ (y : View). y.attempt.start) settled_path

    stale-conflicts : (index word start : ℕ) (w : View) → IsStale c n index word start s w → (o : Own) → Conflicts c n ToPromote (causes.Record index word start) (known_of v o) (known_of w o) × (1 < c.callers)
    stale-conflicts index word start w q o = by q.why
      where
        by : IsFoundStale c n index word start q.more s ⊎ IsHeldNewer c n index word start s → Conflicts c n ToPromote (causes.Record index word start) (known_of v o) (known_of w o) × (1 < c.callers)
        by (inl f) = found-conflicts index word start w q f o
        by (inr f) = absurd (held-newer index word start w q f)

    -- and what was loaded since
    refused_path : (index word start : ℕ) (w : View) (q : IsStale c n index word start s w) → w ≡ knowing true time false false w.check (q.more ++ load_of Clock time ∷ [])
    refused_path index word start w q = q.is ∙ (ap (λ (y : View). record y { check = w.check; steps = record y.steps { step_trace = q.more ++ y.steps.step_trace } }) settled_path
        ∙ ap (λ (t : List TracedStep). record (knowing true time false false w.check []) { steps = record v.steps { step_trace = t } }) (sym (append_assoc q.more (load_of Clock time ∷ []) v.steps.step_trace)))

    pub refused-reads : (cause : causes.the_data) (w : View) → Refuses c n cause s w → IsNotPromoted c n (irrevs.Conflict cause) l v l w
    refused-reads (causes.Clock had now) w q = absurd q
    refused-reads (causes.Record index word start) w q = record {
      local = refl;
      more = q.more ++ load_of Clock time ∷ [];
      is = by-loads w (knowing true time false false w.check (q.more ++ load_of Clock time ∷ [])) (q.more ++ load_of Clock time ∷ []) path refl;
      earlier = λ quiescent. seen-below w.gate.time (let t = stale-later index word start w q in let e : w.gate.time ≡ time = ap (λ (y : View). y.gate.time) path in omega arith);
      why = ((λ o. (stale-conflicts index word start w q o).0), (stale-conflicts index word start w q (own_of l)).1);
    }
      where
        path : w ≡ knowing true time false false w.check (q.more ++ load_of Clock time ∷ [])
        path = refused_path index word start w q
    refused-reads (causes.Moved index before after) w q = absurd q
    refused-reads (causes.Filter bound bits) w q = absurd q
    refused-reads (causes.Overrun start clock) w q = absurd q

    -- the clock was loaded again, to validate, and the reads before the last one have passed
    module _ (j now : ℕ) (last : IsLast c.records (Some j) l) (p : View) (second : Tells (orec_clock (to_validate (home_of c) s)) (FindsClock c) s now p) (u : View) (h : HasPassed c 0 j l p u) where
      now_is : now ≡ time
      now_is = second.1.settled.settled (ap (λ (y : View). y.gate.quiescent) settled_path) ∙ ap (λ (y : View). y.gate.time) settled_path

      abbrev check : Validation
      check = validity.here rule c n low l s may-validate j now last p second u h

      abbrev done : List TracedStep
      done = validity.more rule c n low l s may-validate j now last p second u h

      passed_path : u ≡ knowing true time false false check (done ++ load_of Clock time ∷ [])
      passed_path = validity.path rule c n low l s may-validate j now last p second u h
          ∙ (ap (λ (y : View). record y { check = check; steps = record y.steps { step_trace = done ++ y.steps.step_trace } }) settled_path
          ∙ ap (λ (t : List TracedStep). record (knowing true time false false check []) { steps = record v.steps { step_trace = t } }) (sym (append_assoc done (load_of Clock time ∷ []) v.steps.step_trace)))

      pub may-grant : (b : ℕ) → b ≡ read_at l j → CanOrecGrant (home_of c) c.words (b % c.records) b u
      may-grant b at = record {
        last = validity.may-last rule c n low l s may-validate j now last p second u h b at;
        quiescent = ap (λ (y : View). y.gate.quiescent) passed_path;
        upto = ap (λ (y : View). y.check.upto) passed_path ∙ (now_is ∙ sym (ap (λ (y : View). y.gate.time) passed_path));
        stores = has-stores u (ap (λ (y : View). y.lock) passed_path) (ap (λ (y : View). y.owned) passed_path);
      }

      abbrev last_at : List Entry → ℕ → ℕ → Bool → View
      last_at seen r x b = record v {
        history = if b then record v.history { seen = seen; front = time } else v.history;
        attempt = if b then direct_attempt time v else v.attempt;
        owned = if b then direct_owned v.owned else v.owned;
        gate = if b then granted_at time v.gate else record v.gate { quiescent = true; time = time; rebased = false; completed = false };
        sample = no_sample;
        check = no_check;
        steps = record v.steps { step_trace = load_of (Record r) x ∷ ((done ++ load_of Clock time ∷ []) ++ v.steps.step_trace) };
      }

      last_path : (b x : ℕ) (w : View) (q : Bool) → passes x (passing.under c n low l s may-validate check done) ≡ q
          → (t : Tells (orec_grant (b % c.records) b) (FindsGrant rule c n (b % c.records)) u x w)
          → w ≡ last_at t.0.history (b % c.records) x q
      last_path b x w q e t = t.2 ∙ (ap (λ (y : View). view_after (orec_grant (b % c.records) b) t.0 y x) passed_path ∙ ap (last_at t.0.history (b % c.records) x) (same ∙ e))
        where
          same : passes x (knowing true time false false check (done ++ load_of Clock time ∷ [])) ≡ passes x (passing.under c n low l s may-validate check done)
          same = ap (λ (y : View). passes x y) (sym settled_path)

      -- THE LAST RECORD was loaded
      module _ (b x : ℕ) (w : View) (t : Tells (orec_grant (b % c.records) b) (FindsGrant rule c n (b % c.records)) u x w) where
        abbrev loads : List TracedStep
        loads = load_of (Record (b % c.records)) x ∷ (done ++ load_of Clock time ∷ [])

        -- it passes: all reads are valid at the clock
        module _ (free : is_owned x ≡ false) (old : version_of x ≤ l.start) where
          pass : passes x (passing.under c n low l s may-validate check done) ≡ true
          pass = passing.passes-by c n low l s may-validate check done x free old

          granted_path : w ≡ last_at t.0.history (b % c.records) x true
          granted_path = last_path b x w true pass t

          grant-moves : Moves rule c t.0.history v time
          grant-moves = let m = shown.moves pass_here in record { legal = m.legal; below = m.below; seen = m.seen; front = m.front; limit = m.limit; sees = m.sees }
            where
              pass_here : passes x (knowing true time false false check (done ++ load_of Clock time ∷ [])) ≡ true
              pass_here = ap (λ (y : View). passes x y) (sym settled_path) ∙ pass

              shown : FindsGrant rule c n (b % c.records) t.0 (knowing true time false false check (done ++ load_of Clock time ∷ [])) x
              shown = subst (λ (y : View). FindsGrant rule c n (b % c.records) t.0 y x) passed_path t.1

          clock-found : Contains loads (load_of Clock time)
          clock-found = Contains-append_right (load_of (Record (b % c.records)) x ∷ done) (load_of Clock time ∷ []) (load_of Clock time) (0, omega arith, refl)

          pub granted-last : time < CLOCK_LIMIT → IsPromoted good c l v (record l { start = time }) w
          granted-last under = record {
            local = refl;
            seen = t.0.history;
            more = loads;
            is = granted_path;
            moves = grant-moves;
            found = clock-found;
            limit = under;
          }

        -- or it doesn't: then the view is as if the record had been loaded to validate
        module _ (stale : (is_owned x ≡ true) ⊎ ((is_owned x ≡ false) × (l.start < version_of x))) where
          stale_path : w ≡ last_at t.0.history (b % c.records) x false
          stale_path = last_path b x w false (passing.fails-by c n low l s may-validate check done x stale) t

          abbrev alike : View
          alike = passing.under c n low l s may-validate no_check (load_of (Record (b % c.records)) x ∷ done)

          refusal : b ≡ read_at l j → item_at (b % c.records) l.locks.items ≡ None → Refuses c n (causes.Record (b % c.records) x l.start) s alike
          refusal at none =
              passing.refused-found c n low l s may-validate b x check done alike no_check t.0
              (subst (λ (a : ℕ). touches s.attempt.reads a ≡ true) (sym at)
              (validity.read-last rule c n low l s may-validate j now last p second u h)) none
              (subst (λ (y : View). FindsRecord c n (b % c.records) t.0 y x)
              (validity.path rule c n low l s may-validate j now last p second u h) t.1.read.found) (subst
              (λ (y : View). OrecFails n t.0 y x) (validity.path rule c n low l s may-validate j now last p second u h) t.1.read.fails)
              stale (validity.loads rule c n low l s may-validate j now last p second u h) refl

          same-step_trace : w.steps.step_trace ≡ alike.steps.step_trace
          same-step_trace =
              ap (λ (y : View). y.steps.step_trace) stale_path
              ∙ ap (λ (is : List TracedStep). load_of (Record (b % c.records)) x ∷ is)
              (append_assoc done (load_of Clock time ∷ []) v.steps.step_trace
              ∙ ap (λ (y : View). done ++ y.steps.step_trace) (sym settled_path))

          pub refused-last : b ≡ read_at l j → IsNotPromoted c n (irrevs.Conflict (causes.Record (b % c.records) x l.start)) l v l w
          refused-last at = record {
            local = refl;
            more = loads;
            is = by-loads w (last_at t.0.history (b % c.records) x false) loads stale_path refl;
            earlier = λ quiescent. seen-below w.gate.time (let d = stale-later (b % c.records) x l.start alike stays in let e : w.gate.time ≡ time = ap (λ (y : View). y.gate.time) stale_path in omega arith);
            why = (
              (λ o.
                  conflicts-later c n ToPromote (causes.Record (b % c.records) x l.start) (known_of v o) (known_of alike o) (known_of w o)
                  ready.opens.has.runs.algorithm [] same-step_trace (stale-conflicts (b % c.records) x l.start alike stays o).0),
              (stale-conflicts (b % c.records) x l.start alike stays (own_of l)).1,
            );
          }
            where
              stays : Refuses c n (causes.Record (b % c.records) x l.start) s alike
              stays = refusal at (not-held j b last at)
