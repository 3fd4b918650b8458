-- Each kind of step of OrecLazy and OrecEager keeps the whole rule.
use Rattle.std.proofs.Common.{◌≡◌, ℕ, ◌<◌, ◌≤◌, ◌+◌, List, [], Bool, true, false, eqb, arith, inl, inr, refl, sym, ap, ◌∙◌}
use Rattle.std.specs.Prelude.{◌==◌, ltb, ◌⊎◌, max, nat_le, if◌then◌else◌}
use Rattle.std.proofs.lemmas.Bool.{eqb-true, eqb-false}
use Rattle.std.proofs.lemmas.Bool.Decides.{nat_tests}
use Rattle.rule_base.specs.declared.entries.Cell.{Cell}
use Rattle.stm_model.specs.declared.config.Config.{Config}
use Rattle.rule_base.specs.Encodings.{is_owned, owner_of, version_of}
use Rattle.rule_base.specs.GateRule.{rests}
use Rattle.rule_base.specs.InstallLaws.{others-out}
use Rattle.rule_base.specs.StepKinds.{Nothing, StepLaw}
use Rattle.rule_base.specs.World.{World}
use Rattle.rule_seq.specs.CglSteps.{Begins}
use Rattle.rule_base.specs.Ranks.{home_of}
use Rattle.rule_orec.specs.OrecSteps.{orec_begin, CanOrecBegin, orec_sample, CanOrecSample, orec_load, CanOrecLoad, orec_confirm, CanOrecConfirm, OrecConfirms, orec_clock, CanOrecClock, OrecClocks, orec_clock_all, passes, orec_pass, CanOrecPass, orec_last, CanOrecLast, HasOrec, orec_look, orec_limit, orec_lock, CanOrecLock, orec_commit, CanOrecCommit, orec_write_back, CanOrecWriteBack, orec_release, CanOrecTime, CanOrecOld, CanOrecUp, orec_own_load, CanOrecOwnLoad, OrecOwnLoads, orec_save, CanOrecSave, orec_place, CanOrecPlace, orec_restore, CanOrecRestore, orec_raise_clock, CanOrecRaiseClock}
use Rattle.rule_orec.specs.OrecLaws as orec
use Rattle.stm_rule.specs.Findings.{OrecFails, OrecSettled}
use Rattle.stm_rule.specs.Kinds.Frames.{risen-step_trace, by-orec}
use Rattle.stm_rule.specs.Product.{Core}

module _ (good : (ℕ → ℕ) → Type 0) (c : Config) (n : ℕ) where
  pub orec_begins : StepLaw (Core good c) orec_begin (Begins good c) n CanOrecBegin
  orec_begins =
      by-orec good c orec_begin (Begins good c) n CanOrecBegin
      (record { gate = λ w. refl; status = λ w. refl; view = λ w. refl; marks = λ w. (refl, refl); step_trace = λ w. refl })
      (λ w g m. inr refl) (λ v m. m.runs) (orec.orec_begins good c n)

  pub orec_samples : (r : ℕ) (a : ℕ) → StepLaw (Core good c) (orec_sample r a) Nothing n (CanOrecSample (home_of c) r a)
  orec_samples r a =
      by-orec good c (orec_sample r a) Nothing n (CanOrecSample (home_of c) r a)
      (record { gate = λ w. refl; status = λ w. refl; view = λ w. refl; marks = λ w. (refl, refl); step_trace = λ w. refl })
      (λ w g m. inr refl) (λ v m. m.has.runs) (orec.orec_samples good c n r a)

  pub orec_loads : (a : ℕ) → StepLaw (Core good c) (orec_load a) Nothing n (CanOrecLoad a)
  orec_loads a =
      by-orec good c (orec_load a) Nothing n (CanOrecLoad a)
      (record { gate = λ w. refl; status = λ w. refl; view = λ w. refl; marks = λ w. (refl, refl); step_trace = λ w. refl })
      (λ w g m. inr refl) (λ v m. m.has.runs) (orec.orec_loads good c n a)

  pub orec_confirms : (r : ℕ) → StepLaw (Core good c) (orec_confirm r) (OrecConfirms good c) n (CanOrecConfirm (home_of c) c.words r)
  orec_confirms r =
      by-orec good c (orec_confirm r) (OrecConfirms good c) n (CanOrecConfirm (home_of c) c.words r)
      (record { gate = λ w. refl; status = λ w. refl; view = λ w. refl; marks = λ w. (refl, refl); step_trace = λ w. refl })
      (λ w g m. inr refl) (λ v m. m.opens.has.runs) (orec.orec_confirms good c n r)

  orec_clocks_alone : (todo : List Cell) → StepLaw (Core good c) (orec_clock todo) OrecClocks n (CanOrecClock (home_of c) todo)
  orec_clocks_alone todo =
      by-orec good c (orec_clock todo) OrecClocks n (CanOrecClock (home_of c) todo)
      (record { gate = λ w. refl; status = λ w. refl; view = λ w. refl; marks = λ w. (refl, refl); step_trace = λ w. refl })
      (λ w g m. inr refl) (λ v m. m.opens.has.runs) (orec.orec_clocks good c n todo)

  pub orec_clocks_all : StepLaw (Core good c) orec_clock_all OrecClocks n (CanOrecClock (home_of c) [])
  orec_clocks_all =
      by-orec good c orec_clock_all OrecClocks n (CanOrecClock (home_of c) [])
      (record { gate = λ w. refl; status = λ w. refl; view = λ w. refl; marks = λ w. (refl, refl); step_trace = λ w. refl })
      (λ w g m. inr refl) (λ v m. m.opens.has.runs) (orec.orec_clocks_all good c n)

  orec_passes_alone : (r : ℕ) (b : ℕ) → StepLaw (Core good c) (orec_pass r b) Nothing n (CanOrecPass (home_of c) r b)
  orec_passes_alone r b =
      by-orec good c (orec_pass r b) Nothing n (CanOrecPass (home_of c) r b)
      (record { gate = λ w. refl; status = λ w. refl; view = λ w. refl; marks = λ w. (refl, refl); step_trace = λ w. refl })
      (λ w g m. inr refl) (λ v m. m.has.runs) (orec.orec_passes good c n r b)

  -- what a record shows to who is to be promoted
  pub fails : (q : ℕ) (w : World) → Core good c w → OrecFails n w (w.views n) (w.records q)
  fails q w g = record {
    own = λ quiescent t. by quiescent t (eqb (owner_of (w.records q)) n) refl;
    later = λ quiescent t f. too_new (w.records q) t f (let k = g.records.free q t in let e = g.install.time n quiescent in omega arith);
  }
    where
      by : (w.views n).gate.quiescent ≡ true → is_owned (w.records q) ≡ true → (b : Bool) → eqb (owner_of (w.records q)) n ≡ b → owner_of (w.records q) ≡ n
      by quiescent t true e = eqb-true (owner_of (w.records q)) n e
      by quiescent t false e =
          absurd (let p : false ≡ true = sym (ap rests (g.records.inside (owner_of (w.records q)) q (g.records.owned q t)))
          ∙ others-out c w n quiescent g.gate g.install (owner_of (w.records q)) (eqb-false (owner_of (w.records q)) n e) in
          cc)

      too_new : (x : ℕ) → is_owned x ≡ false → passes x (w.views n) ≡ false → version_of x ≤ (w.views n).gate.time → (w.views n).attempt.start < (w.views n).gate.time
      too_new x t f low =
          let k : nat_le (version_of x) (w.views n).attempt.start ≡ false =
          sym (ap (λ (b : Bool). if b then false else nat_le (version_of x) (w.views n).attempt.start) t) ∙ f in
          grind (arith, nat_tests, k, low)

  pub orec_passes : (q b : ℕ) → StepLaw (Core good c) (orec_pass q b) (OrecFails n) n (CanOrecPass (home_of c) q b)
  orec_passes q b w g may = let o = orec_passes_alone q b w g may in record { rule = o.rule; advances = o.advances; shown = fails q w g }

  pub orec_clocks : (todo : List Cell) → StepLaw (Core good c) (orec_clock todo) OrecSettled n (CanOrecClock (home_of c) todo)
  orec_clocks todo w g may = let o = orec_clocks_alone todo w g may in record { rule = o.rule; advances = o.advances; shown = record { clocks = o.shown; settled = λ quiescent. g.install.time n quiescent } }

  pub orec_lasts : (r : ℕ) (b : ℕ) → StepLaw (Core good c) (orec_last r b) Nothing n (CanOrecLast (home_of c) r b)
  orec_lasts r b =
      by-orec good c (orec_last r b) Nothing n (CanOrecLast (home_of c) r b)
      (record { gate = λ w. refl; status = λ w. refl; view = λ w. refl; marks = λ w. (refl, refl); step_trace = λ w. refl })
      (λ w g m. inr refl) (λ v m. m.opens.has.runs) (orec.orec_lasts good c n r b)

  pub orec_looks : (r : ℕ) → StepLaw (Core good c) (orec_look r) Nothing n HasOrec
  orec_looks r =
      by-orec good c (orec_look r) Nothing n HasOrec
      (record { gate = λ w. refl; status = λ w. refl; view = λ w. refl; marks = λ w. (refl, refl); step_trace = λ w. refl })
      (λ w g m. inr refl) (λ v m. m.runs) (orec.orec_looks good c n r)

  pub orec_limits : StepLaw (Core good c) orec_limit OrecClocks n HasOrec
  orec_limits =
      by-orec good c orec_limit OrecClocks n HasOrec
      (record { gate = λ w. refl; status = λ w. refl; view = λ w. refl; marks = λ w. (refl, refl); step_trace = λ w. refl })
      (λ w g m. inr refl) (λ v m. m.runs) (orec.orec_limits good c n)

  pub orec_locks : (r : ℕ) (version : ℕ) → StepLaw (Core good c) (orec_lock n r version) Nothing n (CanOrecLock version)
  orec_locks r version =
      by-orec good c (orec_lock n r version) Nothing n (CanOrecLock version)
      (record { gate = λ w. refl; status = λ w. refl; view = λ w. refl; marks = λ w. (refl, refl); step_trace = λ w. refl })
      (λ w g m. inr refl) (λ v m. m.opens.has.runs) (orec.orec_locks good c n r version)

  pub orec_commits : (start : ℕ) (writes : List Cell) (back : List Cell) → n < c.callers → StepLaw (Core good c) (orec_commit n start writes back) Nothing n (CanOrecCommit (home_of c) good c.words start writes back)
  orec_commits start writes back low =
      by-orec good c (orec_commit n start writes back) Nothing n (CanOrecCommit (home_of c) good c.words start writes back)
      (record {
        gate = λ w. refl;
        status = λ w. refl;
        view = λ w. refl;
        marks = λ w. (refl, refl);
        step_trace = λ w. risen-step_trace (w.clock == start) (w.views n) ((w.views n).steps.rises + 1);
      })
      (λ w g m. inl (inr m.not_quiescent)) (λ v m. m.has.runs) (orec.orec_commits good c n start writes back low)

  pub orec_writes_back : (a : ℕ) (x : ℕ) → StepLaw (Core good c) (orec_write_back a x) Nothing n (CanOrecWriteBack a x)
  orec_writes_back a x =
      by-orec good c (orec_write_back a x) Nothing n (CanOrecWriteBack a x)
      (record { gate = λ w. refl; status = λ w. refl; view = λ w. refl; marks = λ w. (refl, refl); step_trace = λ w. refl })
      (λ w g m. inr refl) (λ v m. m.has.runs) (orec.orec_writes_back good c n a x)

  pub orec_times : (r : ℕ) (version : ℕ) → StepLaw (Core good c) (orec_release r version) Nothing n (CanOrecTime (home_of c) r version)
  orec_times r version =
      by-orec good c (orec_release r version) Nothing n (CanOrecTime (home_of c) r version)
      (record { gate = λ w. refl; status = λ w. refl; view = λ w. refl; marks = λ w. (refl, refl); step_trace = λ w. refl })
      (λ w g m. inr refl) (λ v m. m.gives.has.runs) (orec.orec_times good c n r version)

  pub orec_olds : (r : ℕ) (version : ℕ) → StepLaw (Core good c) (orec_release r version) Nothing n (CanOrecOld (home_of c) r version)
  orec_olds r version =
      by-orec good c (orec_release r version) Nothing n (CanOrecOld (home_of c) r version)
      (record { gate = λ w. refl; status = λ w. refl; view = λ w. refl; marks = λ w. (refl, refl); step_trace = λ w. refl })
      (λ w g m. inr refl) (λ v m. m.gives.has.runs) (orec.orec_olds good c n r version)

  pub orec_ups : (r : ℕ) (version : ℕ) → StepLaw (Core good c) (orec_release r version) Nothing n (CanOrecUp (home_of c) r version)
  orec_ups r version =
      by-orec good c (orec_release r version) Nothing n (CanOrecUp (home_of c) r version)
      (record { gate = λ w. refl; status = λ w. refl; view = λ w. refl; marks = λ w. (refl, refl); step_trace = λ w. refl })
      (λ w g m. inr refl) (λ v m. m.gives.has.runs) (orec.orec_ups good c n r version)

  pub orec_own_loads : (a : ℕ) → StepLaw (Core good c) (orec_own_load a) (OrecOwnLoads good c a) n (CanOrecOwnLoad (home_of c) c.words a)
  orec_own_loads a =
      by-orec good c (orec_own_load a) (OrecOwnLoads good c a) n (CanOrecOwnLoad (home_of c) c.words a)
      (record { gate = λ w. refl; status = λ w. refl; view = λ w. refl; marks = λ w. (refl, refl); step_trace = λ w. refl })
      (λ w g m. inr refl) (λ v m. m.opens.has.runs) (orec.orec_own_loads good c n a)

  pub orec_saves : (a : ℕ) → StepLaw (Core good c) (orec_save a) Nothing n (CanOrecSave (home_of c) a)
  orec_saves a =
      by-orec good c (orec_save a) Nothing n (CanOrecSave (home_of c) a)
      (record { gate = λ w. refl; status = λ w. refl; view = λ w. refl; marks = λ w. (refl, refl); step_trace = λ w. refl })
      (λ w g m. inr refl) (λ v m. m.opens.has.runs) (orec.orec_saves good c n a)

  pub orec_places : (a : ℕ) (x : ℕ) → StepLaw (Core good c) (orec_place a x) Nothing n (CanOrecPlace a)
  orec_places a x =
      by-orec good c (orec_place a x) Nothing n (CanOrecPlace a)
      (record { gate = λ w. refl; status = λ w. refl; view = λ w. refl; marks = λ w. (refl, refl); step_trace = λ w. refl })
      (λ w g m. inr refl) (λ v m. m.opens.has.runs) (orec.orec_places good c n a x)

  pub orec_restores : (a : ℕ) (x : ℕ) → StepLaw (Core good c) (orec_restore a x) Nothing n (CanOrecRestore a x)
  orec_restores a x =
      by-orec good c (orec_restore a x) Nothing n (CanOrecRestore a x)
      (record { gate = λ w. refl; status = λ w. refl; view = λ w. refl; marks = λ w. (refl, refl); step_trace = λ w. refl })
      (λ w g m. inr refl) (λ v m. m.has.runs) (orec.orec_restores good c n a x)

  -- a holder that knows the clock doesn't raise it
  lift-quiescent : (least : ℕ) (w : World) → Core good c w → CanOrecRaiseClock least (w.views n) → (((w.views n).gate.holds ≡ false) ⊎ ((w.views n).gate.quiescent ≡ false)) ⊎ (max w.clock least ≡ w.clock)
  lift-quiescent least w g may = go (w.views n).gate.quiescent refl
    where
      go : (b : Bool) → (w.views n).gate.quiescent ≡ b → (((w.views n).gate.holds ≡ false) ⊎ ((w.views n).gate.quiescent ≡ false)) ⊎ (max w.clock least ≡ w.clock)
      go true e = inr (let l = may.not_quiescent e in let t = g.install.time n e in grind (arith, nat_tests, l, t))
      go false e = inl (inr e)

  pub orec_raises_clock : (least : ℕ) → n < c.callers → StepLaw (Core good c) (orec_raise_clock least) Nothing n (CanOrecRaiseClock least)
  orec_raises_clock least low =
      by-orec good c (orec_raise_clock least) Nothing n (CanOrecRaiseClock least)
      (record {
        gate = λ w. refl;
        status = λ w. refl;
        view = λ w. refl;
        marks = λ w. (refl, refl);
        step_trace = λ w. risen-step_trace (ltb w.clock least) (w.views n) ((w.views n).steps.rises + 1);
      }) (lift-quiescent least)
      (λ v m. m.has.runs) (orec.orec_raises_clock good c n least low)
