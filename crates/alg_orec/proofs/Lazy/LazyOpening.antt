-- What a call knows of an attempt of OrecLazy that it is given.
use Rattle.std.proofs.Common.{ℕ, ◌≡◌, List, false, refl, sym, ap, ◌∙◌}
use Rattle.stm_model.specs.declared.alg.Alg.TheVariants.{OrecLazy}
use Rattle.rule_base.specs.declared.seats.SeatView.{SeatView}
use Rattle.stm_rule.specs.declared.local.Local.{Local}
use Rattle.stm_rule.specs.declared.stm.Stm.{Stm}
use Rattle.stm_rule.specs.Attempts.{IsInside, Stands, good_by, own_of}
use Rattle.stm_rule.specs.Callers.{Handle, IsOf, IsTied}
use Rattle.stm_rule.specs.RecordsKept.{IsLazy}
use Rattle.stm_rule.proofs.StandLemmas.{inside-of}
use Rattle.stm_answers.specs.CallerState.{CallerState, IsRunning}
use Rattle.stm_gate.specs.Knowing.{known}
use Rattle.stm_gate.proofs.Opening.{opened}
use Rattle.stm_gate.proofs.Standing.{in-of}
use Rattle.alg_orec.proofs.Lazy.LazyLaws.{lazy-of, reading}
use Rattle.alg_orec.proofs.ReadCalls.{plain-of}
use Rattle.alg_orec.proofs.RecordOpening.{RecordOpening}

module _ {K : Type 0} (good : K → List ℕ → Type 0) (stm : Stm K) where
  -- e is the descriptor, with this seat and these fields, of an attempt that was not promoted
  pub record LazyOpening (e : Handle K) (me : SeatView K × List (ℕ × Unit {0})) (n : ℕ) (l : Local) : Type 0 where
    pub call : RecordOpening good stm e me n l
    pub inside : IsInside (good stm.rule) stm.config n l me.0.view
    pub lazy : me.0.view.gate.algorithm ≡ OrecLazy
    pub plain : l.granted ≡ false
    pub quiet : l.committing ≡ false
    pub kept : IsLazy stm.config l me.0.view

  pub opens-lazy : {e : Handle K} (n : ℕ) (l : Local) (me : SeatView K × List (ℕ × Unit {0})) (d : Handle K)
      → record d { who = me.0.who; view = me.0.view; own = own_of l } ≡ e → IsTied n me
      → Stands (good_by good me.0.who.rule) me.0.who.config n l me.0.view → IsOf e stm
      → IsRunning (known e) → (known e).alg ≡ OrecLazy → (known e).granted ≡ false → LazyOpening e me n l
  opens-lazy n l me d same tied stands belongs running algorithm unpromoted =
      let a = opened good stm n l same refl tied.named tied.low stands belongs in
      let inside = inside-of (good stm.rule) stm.config n l me.0.view (in-of me.0.view.gate.phase (ap (λ (k : CallerState). k.running) (sym a.knows) ∙ running.0)) a.stands in
      let lazy : me.0.view.gate.algorithm ≡ OrecLazy = ap (λ (k : CallerState). k.alg) (sym a.knows) ∙ algorithm in
      let plain : l.granted ≡ false = plain-of (good stm.rule) stm.config n l me.0.view inside lazy (own_of l) (ap (λ (k : CallerState). k.granted) (sym a.knows) ∙ unpromoted) in
      let quiet : l.committing ≡ false = ap (λ (k : CallerState). k.committing) (sym a.knows) ∙ running.1 in
      let kept = lazy-of (good stm.rule) stm.config n l me.0.view inside lazy plain in
      record {
        call =
            record { opening = a; tied = tied; reading = reading (good stm.rule) stm.config n l me.0.view inside lazy plain quiet kept };
        inside = inside;
        lazy = lazy;
        plain = plain;
        quiet = quiet;
        kept = kept;
      }
