-- What a check that failed tells the caller: another entry came in between.
use Rattle.std.proofs.Common.{ℕ, ◌≡◌, ◌<◌, List, [], ◌∷◌, ◌++◌, refl, sym, ap, ◌∙◌, arith, subst, ⊎_elim, append_assoc}
use Rattle.std.specs.Prelude.{slice_index, bit_and}
use Rattle.stm_model.specs.declared.alg.Alg.TheVariants.{RingSw}
use Rattle.stm_model.specs.declared.config.Config.{Config}
use Rattle.stm_model.specs.declared.stop.Cause.{Cause}
use Rattle.stm_model.specs.declared.stop.Cause.TheVariants as causes
use Rattle.rule_base.specs.declared.layout.At.{At}
use Rattle.rule_base.specs.declared.layout.At.TheVariants.{Clock}
use Rattle.rule_base.specs.declared.layout.TheConstants.{SLOT_WORDS}
use Rattle.rule_base.specs.declared.views.Act.TheVariants.{Load}
use Rattle.rule_base.specs.declared.views.TracedStep.{TracedStep}
use Rattle.stm_answers.specs.Causes.{Asked, Conflicts, read_filter}
use Rattle.stm_answers.specs.Evidence.{Found}
use Rattle.stm_answers.specs.SlotEvidence.{InStepTrace, FirstMet, FindsFirst, clock_load}
use Rattle.stm_answers.specs.CallerState.{CallerState}
use Rattle.alg_ring.specs.Checking.{Refutes}
use Rattle.alg_ring.proofs.FilterWords.{part-by, meets-same, lowest-same}
use Rattle.alg_ring.proofs.Words.{step_trace-right, step_trace-left}

-- what these steps found, the caller found between the two
abbrev pub FindsAll : List TracedStep → CallerState → CallerState → Type 0
FindsAll more v w = (place : At) (x : ℕ) → InStepTrace more place x → Found place x v w

-- what its steps found, between earlier and later ones of the same call
pub finds-between : (v w : CallerState) (late more early : List TracedStep) → w.step_trace ≡ late ++ (more ++ (early ++ v.step_trace)) → FindsAll more v w
finds-between v w late more early is place x found = let t = step_trace-right late (more ++ early) place x (step_trace-left more early place x found) in (
  late ++ (more ++ early),
  is ∙ (ap (λ (s : List TracedStep). late ++ s) (sym (append_assoc more early v.step_trace)) ∙ sym (append_assoc late (more ++ early) v.step_trace)),
  t.0,
  t.1,
)

module _ (ring start clock time bits : ℕ) (f g : ℕ → ℕ) (same : (i : ℕ) → i < SLOT_WORDS → f i ≡ g i) where
  -- by the same filter, with steps before these
  first-of : (loads : List TracedStep) → FirstMet ring start clock f time bits loads → FirstMet ring start clock g time bits loads
  first-of loads m = let k = m.meets in record {
    since = m.since;
    upto = m.upto;
    meets = record {
      slot = k.slot;
      loaded = k.loaded;
      meet = sym (meets-same f g k.slot same) ∙ k.meet;
      some = k.some;
      lowest = k.lowest ∙ lowest-same f g k.slot same;
      index = k.index;
      low = k.low;
      is = k.is ∙ ap (λ (x : ℕ). bit_and x (k.slot k.index)) (same k.index k.low);
      upto = k.upto;
    };
    least = λ e a b. let l = m.least e a b in record { slot = l.slot; part = l.part; low = l.low; loaded = l.loaded; none = sym (part-by f g l.slot same l.part l.low) ∙ l.none };
  }

module _ (c : Config) (n : ℕ) (asked : Asked) (v w : CallerState) (filter : List ℕ) (start clock : ℕ) (late loads early : List TracedStep) where
  abbrev pub FailedBy : Type 0
  FailedBy = w.step_trace ≡ late ++ ((loads ++ clock_load clock ∷ []) ++ (early ++ v.step_trace))

  path : FailedBy → w.step_trace ≡ late ++ (loads ++ clock_load clock ∷ (early ++ v.step_trace))
  path is = is ∙ ap (λ (q : List TracedStep). late ++ q) (append_assoc loads (clock_load clock ∷ []) (early ++ v.step_trace))

  pub refuted : (cause : Cause) → v.alg ≡ RingSw → v.start ≡ start
      → ((i : ℕ) → i < SLOT_WORDS → slice_index filter i ≡ read_filter c n asked v.log.reads i) → FailedBy
      → Refutes c start clock cause filter loads → Conflicts c n asked cause v w
  refuted (causes.Clock had now) alg is same by r = absurd r
  refuted (causes.Record index word from) alg is same by r = absurd r
  refuted (causes.Moved index before after) alg is same by r = absurd r
  refuted (causes.Filter time bits) alg is same by r = (
    alg,
    subst (λ (s : ℕ). FindsFirst c.ring s (read_filter c n asked v.log.reads) time bits v w) (sym is) (record {
      early = early;
      clock = clock;
      loads = r.1;
      later = r.0;
      late = late;
      step_trace = path by ∙ ap (λ (q : List TracedStep). late ++ (q ++ clock_load clock ∷ (early ++ v.step_trace))) r.2;
      near = r.3;
      first = first-of c.ring start clock time bits (slice_index filter) (read_filter c n asked v.log.reads) same r.1 r.4;
    }),
  )
  refuted (causes.Overrun from now) alg is same by r = (
    alg,
    r.0 ∙ sym is,
    finds-between v w late (loads ++ clock_load clock ∷ []) early by Clock now (⊎_elim
        (λ e. subst (λ (k : ℕ). InStepTrace (loads ++ clock_load clock ∷ []) Clock k) (sym e) (step_trace-right loads (clock_load clock ∷ []) Clock clock (Load, (0, omega arith, refl))))
        (λ f. step_trace-left loads (clock_load clock ∷ []) Clock now f) r.2),
    (let e = r.0 in let l = r.1 in omega arith),
  )
