-- The law of each kind of step of the records with all that it shows, by the one rule.
use Rattle.std.proofs.Common.{◌≡◌, ℕ, ◌+◌, ◌<◌, ◌≤◌, List, [], ◌∷◌, Bool, true, false, arith, refl, sym, subst, ap, ◌∙◌, le_refl}
use Rattle.std.specs.Prelude.{if◌then◌else◌, ◌==◌}
use Rattle.std.proofs.lemmas.Bool.Decides.{nat_tests}
use Rattle.stm_model.specs.declared.config.Config.{Config}
use Rattle.rule_base.specs.declared.entries.Cell.{Cell}
use Rattle.rule_base.specs.declared.entries.Entry.{Entry}
use Rattle.rule_base.specs.declared.views.Phase.TheVariants.{Idle, In}
use Rattle.rule_base.specs.Encodings.{owner_of, version_of, fenced}
use Rattle.rule_base.specs.History.{over, touches, word_at, upto, Below, Legal}
use Rattle.rule_base.specs.Lemmas.HistoryLemmas.{below-upto, legal-upto, upto-all, word_now-upto}
use Rattle.rule_base.specs.Ranks.{rec_of, home_of}
use Rattle.rule_base.specs.Regime.{Regime}
use Rattle.rule_base.specs.Lemmas.RegimeLemmas.{regime-granted}
use Rattle.rule_base.specs.RunProjection.{run_projection}
use Rattle.rule_base.specs.StepKinds.{StepLaw}
use Rattle.rule_base.specs.World.{World}
use Rattle.rule_orec.specs.OrecLaws.{full-world, passed-at, rec-free}
use Rattle.rule_orec.specs.OrecReading.{sample-old, validated, validated-all}
use Rattle.rule_orec.specs.OrecRely.{Full}
use Rattle.rule_orec.specs.OrecRule.{orec_projection, orec_view, Own}
use Rattle.rule_orec.specs.OrecSteps.{HasOrec, passes, orec_entry, orec_begin, CanOrecBegin, orec_sample, CanOrecSample, orec_confirm, CanOrecConfirm, orec_clock, CanOrecClock, orec_clock_all, orec_pass, CanOrecPass, orec_last, CanOrecLast, orec_look, orec_limit, orec_lock, CanOrecLock, orec_commit, CanOrecCommit, orec_raise_clock, CanOrecRaiseClock, orec_grant, CanOrecGrant, orec_grant_all, CanOrecGrantAll}
use Rattle.stm_rule.proofs.KindLaws.BesideLaws.{sole-of, not_quiescent}
use Rattle.stm_rule.specs.Kinds.Frames.{as-left, is-caller, orec-world}
use Rattle.rule_promoted.specs.PromotedRule.{DirectRuns}
use Rattle.rule_promoted.specs.RaisingSteps.{direct_raise_clock, CanDirectRaiseClock}
use Rattle.stm_rule.specs.Product.{Runs, Invariant}
use Rattle.rule_base.specs.Fence.{without_fence}
use Rattle.stm_rule.proofs.KindLaws.Lifted.{orec_grants, orec_grants_all, orec_begins, orec_samples, orec_confirms, orec_clocks, orec_clocks_all, orec_passes, orec_lasts, orec_looks, orec_limits, orec_locks, orec_commits, orec_raises_clock, direct_raises_clock}
use Rattle.stm_rule.specs.Kinds.Lifting.{AreSpared}
use Rattle.stm_rule.proofs.KindLaws.RecordLaws.{fails}
use Rattle.alg_orec.specs.RecordFindings.{FindsRecord, FindsClock, FindsStill, Moves, FindsStart, FindsAgain, FindsRead, FindsLast, FindsGrant, FindsAll, FindsCommit}

upto-upto : (h : List Entry) (f g : ℕ) → g ≤ f → upto (upto h f) g ≡ upto h g
upto-upto [] f g l = refl
upto-upto (e ∷ h) f g l = grind (arith, upto-upto h f g l)

module _ (good : (ℕ → ℕ) → Type 0) (c : Config) (n : ℕ) where
  full : (w : World) → Invariant good c w → HasOrec (w.views n) → Full (home_of c) c.words (orec_projection (without_fence w))
  full w g has = full-world good c (without_fence w) (orec-world good c (without_fence w) n g.core has.runs)

  own : (w : World) → Invariant good c w → HasOrec (w.views n) → Own (home_of c) c.words (orec_projection (without_fence w)) n (orec_view (w.views n))
  own w g has = (full w g has).own n has.inside

  record-found : (r : ℕ) (w : World) → Invariant good c w → HasOrec (w.views n) → FindsRecord c n r w (w.views n) (w.records r)
  record-found r w g has = let inside = has.runs.phase in record {
    others = λ owned free.
        let k : ℕ = owner_of (w.records r) in
        let holds : touches (w.views k).owned.held r ≡ true = g.core.records.owned r owned in (
          k,
          is-caller good c (without_fence w) g.core k (λ idle. let e : In ≡ Idle = sym (g.core.records.inside k r holds) ∙ idle in cc),
          (λ same. let e : true ≡ false = sym (subst (λ (m : ℕ). touches (w.views m).owned.held r ≡ true) same holds) ∙ free in cc),
          refl,
        );
    within = λ free. let l = g.core.records.free r free in let t = g.core.history.limit in omega arith;
    sole = λ one free. let l = g.core.records.free r free in let t = sole-of good c n (without_fence w) g.core inside one in omega arith;
    left = λ one y e. as-left good c (without_fence w) n r y g.core inside one e;
    started = let s = (own w g has).attempt.start in let t = g.core.history.limit in omega arith;
  }

  clock-found : (w : World) → Invariant good c w → HasOrec (w.views n) → FindsClock c w (w.views n) w.clock
  clock-found w g has = record {
    settled = record { clocks = record { sampled = sample-old (home_of c) c.words (orec_projection (without_fence w)) n (full w g has) has.inside }; settled = λ quiescent. g.core.install.time n quiescent };
    started = (own w g has).attempt.start;
    sole = sole-of good c n (without_fence w) g.core has.runs.phase;
    within = g.core.history.limit;
    olds = (own w g has).owned.olds;
  }

  -- the reads are of the memory at this number
  moves-to : (w : World) (t : ℕ) → Invariant good c w → (w.views n).history.front ≤ t → t ≤ w.clock
      → ((a : ℕ) → over (w.views n).attempt.reads a (word_at w.history t a) ≡ word_at w.history t a)
      → Moves good c (upto w.history t) (w.views n) t
  moves-to w t g front low sees = record {
    legal = legal-upto good c w.history (w.clock + 1) t g.core.history.below g.core.history.legal;
    below = below-upto w.history (w.clock + 1) t g.core.history.below;
    seen = (g.core.history.known n).seen ∙ sym (upto-upto w.history t (w.views n).history.front front);
    front = front;
    limit = let l = g.core.history.limit in omega arith;
    sees = λ a. subst (λ (k : ℕ). over (w.views n).attempt.reads a k ≡ k) (sym (word_now-upto w.history t a)) (sees a);
  }

  moves-now : (w : World) → Invariant good c w → ((a : ℕ) → over (w.views n).attempt.reads a (word_at w.history w.clock a) ≡ word_at w.history w.clock a) → Moves good c w.history (w.views n) w.clock
  moves-now w g sees =
      subst (λ (h : List Entry). Moves good c h (w.views n) w.clock)
      (upto-all w.history (w.clock + 1) w.clock g.core.history.below (le_refl (w.clock + 1)))
      (moves-to w w.clock g (g.core.history.known n).front (le_refl w.clock) sees)

  moves-all : (w : World) → Invariant good c w → CanOrecClock (home_of c) [] (w.views n) → Moves good c w.history (w.views n) w.clock
  moves-all w g may =
      moves-now w g (validated-all (home_of c) c.words (orec_projection (without_fence w)) n may.opens.has.inside may.opens.open_yet
      (λ a t. may.mine a t refl) (λ a t. may.old a t refl) (full w g may.opens.has))

  sees-last : (q b : ℕ) (w : World) → Invariant good c w → CanOrecLast (home_of c) q b (w.views n) → passes (w.records q) (w.views n) ≡ true
      → (a : ℕ) → over (w.views n).attempt.reads a (word_at w.history (w.views n).check.upto a) ≡ word_at w.history (w.views n).check.upto a
  sees-last q b w g may e = let p = passed-at (w.records q) (w.views n) e in
      validated (home_of c) c.words (orec_projection (without_fence w)) n b (version_of (w.records q)) may.opens.has.inside
      (ap (λ (k : ℕ). rec_of (w.records k)) may.its ∙ rec-free (w.records q) p.0) p.1 may.checking may.rest (full w g may.opens.has)

  pub begins_beside : StepLaw (Invariant good c) orec_begin (FindsStart good c) n CanOrecBegin
  begins_beside w g may =
      let o = orec_begins good c n w g may in
      record {
        rule = o.rule;
        advances = o.advances;
        shown = record {
          begins = o.shown;
          sole = sole-of good c n (without_fence w) g.core may.runs.phase;
          not_quiescent = λ free. not_quiescent good c n (without_fence w) g.core free (w.views n).gate.quiescent refl;
        };
      }

  pub samples_beside : (r a : ℕ) → StepLaw (Invariant good c) (orec_sample r a) (FindsRecord c n r) n (CanOrecSample (home_of c) r a)
  samples_beside r a w g may = let o = orec_samples good c n r a w g may in record { rule = o.rule; advances = o.advances; shown = record-found r w g may.has }

  pub confirms_beside : (r : ℕ) → StepLaw (Invariant good c) (orec_confirm r) (FindsAgain good c n r) n (CanOrecConfirm (home_of c) c.words r)
  confirms_beside r w g may = let o = orec_confirms good c n r w g may in record { rule = o.rule; advances = o.advances; shown = record { found = record-found r w g may.opens.has; confirms = o.shown } }

  pub clocks_beside : (todo : List Cell) → StepLaw (Invariant good c) (orec_clock todo) (FindsClock c) n (CanOrecClock (home_of c) todo)
  clocks_beside todo w g may = let o = orec_clocks good c n todo w g may in record { rule = o.rule; advances = o.advances; shown = clock-found w g may.opens.has }

  pub clocks_all_beside : StepLaw (Invariant good c) orec_clock_all (FindsAll good c) n (CanOrecClock (home_of c) [])
  clocks_all_beside w g may = let o = orec_clocks_all good c n w g may in record { rule = o.rule; advances = o.advances; shown = record { clock = clock-found w g may.opens.has; moves = moves-all w g may } }

  pub passes_beside : (r b : ℕ) → StepLaw (Invariant good c) (orec_pass r b) (FindsRead c n r) n (CanOrecPass (home_of c) r b)
  passes_beside r b w g may = let o = orec_passes good c n r b w g may in record { rule = o.rule; advances = o.advances; shown = record { found = record-found r w g may.has; fails = o.shown } }

  pub lasts_beside : (r b : ℕ) → StepLaw (Invariant good c) (orec_last r b) (FindsLast good c n r) n (CanOrecLast (home_of c) r b)
  lasts_beside r b w g may = let o = orec_lasts good c n r b w g may in
      let u = own w g may.opens.has in record {
        rule = o.rule;
        advances = o.advances;
        shown = record {
          read = record { found = record-found r w g may.opens.has; fails = let f = fails good c n r (without_fence w) g.core in record { own = f.own; later = f.later } };
          moves = λ e. moves-to w (w.views n).check.upto g (let s = u.front may.opens.open_yet in let l = u.check.onward may.checking in omega arith) (u.check.upto may.checking) (sees-last r b w g may e);
        };
      }

  pub looks_beside : (r : ℕ) → StepLaw (Invariant good c) (orec_look r) (FindsRecord c n r) n HasOrec
  looks_beside r w g may = let o = orec_looks good c n r w g may in record { rule = o.rule; advances = o.advances; shown = record-found r w g may }

  pub limits_beside : StepLaw (Invariant good c) orec_limit (FindsClock c) n HasOrec
  limits_beside w g may = let o = orec_limits good c n w g may in record { rule = o.rule; advances = o.advances; shown = clock-found w g may }

  pub locks_beside : (r version : ℕ) → StepLaw (Invariant good c) (orec_lock n r version) (FindsRecord c n r) n (CanOrecLock version)
  locks_beside r version w g may = let o = orec_locks good c n r version w g may in record { rule = o.rule; advances = o.advances; shown = record-found r w g may.opens.has }

  pub commits_beside : (start : ℕ) (writes back : List Cell) → n < c.callers
      → StepLaw (Invariant good c) (orec_commit n start writes back) (FindsCommit good c n start writes) n (λ v.
      CanOrecCommit (home_of c) good c.words start writes back v × AreSpared writes v)
  commits_beside start writes back low w g may = let o = orec_commits good c n start writes back low w g may in record {
    rule = o.rule;
    advances = o.advances;
    shown = record {
      clock = clock-found w g may.0.has;
      enters = λ taken.
          let e : Entry = orec_entry n (start + 1) writes (w.views n) in
          let is : (w.clock == start) ≡ true = grind (arith, nat_tests) in
          let s = (own w g may.0.has).front may.0.ready.open_yet in
          let f = may.0.from in record {
            legal = subst (λ (b : Bool). Legal good c (if b then e ∷ w.history else w.history)) is o.rule.core.history.legal;
            below = subst (λ (b : Bool). Below (if b then e ∷ w.history else w.history) ((if b then start + 1 else w.clock) + 1)) is o.rule.core.history.below;
            seen = (g.core.history.known n).seen ∙ upto-all w.history (w.clock + 1) (w.views n).history.front g.core.history.below (omega arith);
          };
    };
  }

  -- what an attempt has stored in place is spared
  pub commits_placed : (start : ℕ) (stores : List Cell) → n < c.callers
      → StepLaw (Invariant good c) (orec_commit n start stores []) (FindsCommit good c n start stores) n (λ v.
      CanOrecCommit (home_of c) good c.words start stores [] v × (v.owned.in_place ≡ stores))
  commits_placed start stores low w g may =
      commits_beside start stores [] low w g (
        may.0,
        λ a e.
            ap (λ k. fenced k a) (sym (g.core.gate.spared n may.0.has.runs.phase))
            ∙ g.fence.apart n a may.0.has.runs.phase (grind (arith, may.0.has.inside, ap (λ (l : List Cell). touches l a) may.1, e)),
      )

  pub raises_clock_beside : (least : ℕ) → n < c.callers → StepLaw (Invariant good c) (orec_raise_clock least) (FindsClock c) n (CanOrecRaiseClock least)
  raises_clock_beside least low w g may = let o = orec_raises_clock good c n least low w g may in record { rule = o.rule; advances = o.advances; shown = clock-found w g may.has }

  -- a promoted attempt raises the clock from its start
  pub direct_raises_clock_beside : (least : ℕ) → n < c.callers → StepLaw (Invariant good c) (direct_raise_clock least) (FindsStill c) n (CanDirectRaiseClock least)
  direct_raises_clock_beside least low w g may = let o = direct_raises_clock good c n least low w g may in record {
    rule = o.rule;
    advances = o.advances;
    shown = record { started = sym runs.direct.start; sole = sole-of good c n (without_fence w) g.core may.phase; within = g.core.history.limit };
  }
    where
      runs : DirectRuns c (w.views n).gate.algorithm n (run_projection (without_fence w))
      runs = subst (λ (r : Regime). Runs c r (run_projection (without_fence w))) (regime-granted c (without_fence w) n g.core.gate g.core.install may.granted) g.core.running

  pub grants_beside : (r b : ℕ) → StepLaw (Invariant good c) (orec_grant r b) (FindsGrant good c n r) n (CanOrecGrant (home_of c) c.words r b)
  grants_beside r b w g may = let o = orec_grants good c n r b w g may in
      let now : w.clock ≡ (w.views n).gate.time = g.core.install.time n may.quiescent in record {
        rule = o.rule;
        advances = o.advances;
        shown = record {
          read = record { found = record-found r w g may.last.opens.has; fails = o.shown };
          moves = λ e. subst (λ (t : ℕ). Moves good c w.history (w.views n) t) now (moves-now w g
              (subst (λ (t : ℕ). (a : ℕ) → over (w.views n).attempt.reads a (word_at w.history t a) ≡ word_at w.history t a) (may.upto ∙ sym now) (sees-last r b w g may.last e)));
        };
      }

  pub grants_all_beside : StepLaw (Invariant good c) orec_grant_all (FindsAll good c) n (CanOrecGrantAll (home_of c) c.words c.callers n)
  grants_all_beside w g may = let o = orec_grants_all good c n w g may in record { rule = o.rule; advances = o.advances; shown = record { clock = clock-found w g may.all.opens.has; moves = moves-all w g may.all } }
