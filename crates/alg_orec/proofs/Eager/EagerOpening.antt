-- What a call knows of an attempt of OrecEager that it is given, and what it tells of it.
use Rattle.std.proofs.Common.{ℕ, ◌≡◌, ◌<◌, ◌≤◌, List, [], ◌∷◌, ◌++◌, false, length, refl, sym, ap, subst}
use Rattle.std.specs.Prelude.{◌^◌}
use Rattle.stm_model.specs.declared.alg.Alg.TheVariants.{OrecEager}
use Rattle.rule_base.specs.declared.seats.SeatView.{SeatView}
use Rattle.rule_base.specs.declared.views.View.{View}
use Rattle.rule_base.specs.Bridge.{of_words}
use Rattle.stm_rule.specs.declared.local.Local.{Local}
use Rattle.stm_rule.specs.declared.stm.Stm.{Stm}
use Rattle.stm_rule.specs.Attempts.{HasRoom, Stands, good_by, own_of}
use Rattle.stm_rule.specs.Callers.{Handle, IsOf, IsTied}
use Rattle.stm_answers.specs.declared.answers.Read.TheVariants as reads
use Rattle.stm_answers.specs.declared.answers.Write.TheVariants as writes
use Rattle.stm_answers.specs.Causes.{writes_full}
use Rattle.stm_answers.specs.Answers.{HasRead, HasWritten}
use Rattle.stm_answers.specs.CallerState.{CallerState, IsRunning, known_of}
use Rattle.stm_logs.specs.LogStates.{LogState}
use Rattle.stm_gate.specs.Knowing.{known, number}
use Rattle.stm_gate.proofs.Opening.{opened, shows, tells-of}
use Rattle.alg_orec.proofs.Eager.EagerCalls.{RunsEager, runs-eager}
use Rattle.alg_orec.proofs.Eager.EagerProving.{held-within}
use Rattle.alg_orec.proofs.Eager.EagerLaws as laws
use Rattle.alg_orec.proofs.Eager.EagerReadLaws.{IsUnread}
use Rattle.alg_orec.proofs.Eager.EagerWriteLaws as writing
use Rattle.alg_orec.proofs.Eager.EagerWriteLaws.{Stores}
use Rattle.alg_orec.proofs.RecordReads as records
use Rattle.alg_orec.proofs.RecordOpening.{RecordOpening, stays-tied}
use Rattle.alg_orec.proofs.ReadCalls.{own-read}
use Rattle.alg_orec.specs.Loading.{HasLoaded}

module _ {K : Type 0} (good : K → List ℕ → Type 0) (stm : Stm K) where
  -- e is the descriptor, with this seat and these fields, of an attempt that was not promoted
  pub record EagerOpening (e : Handle K) (me : SeatView K × List (ℕ × Unit {0})) (n : ℕ) (l : Local) : Type 0 where
    pub call : RecordOpening good stm e me n l
    pub runs : RunsEager (good stm.rule) stm.config n l me.0.view
    pub lengths : HasRoom l

  -- what bounds its steps
  pub record EagerCount (e : Handle K) (me : SeatView K × List (ℕ × Unit {0})) (l : Local) : Type 0 where
    pub steps : length me.0.view.steps.step_trace ≡ length (known e).step_trace
    pub held : length l.locks.items ≤ (known e).writes_limit
    pub reads : l.reads.len ≡ (known e).reads_limit
    pub writes : l.undo.len ≡ (known e).writes_limit

  module _ {e : Handle K} (n : ℕ) (l : Local) (me : SeatView K × List (ℕ × Unit {0})) (d : Handle K)
      (same : record d { who = me.0.who; view = me.0.view; own = own_of l } ≡ e) (tied : IsTied n me)
      (stands : Stands (good_by good me.0.who.rule) me.0.who.config n l me.0.view) (belongs : IsOf e stm)
      (running : IsRunning (known e)) (eager : (known e).alg ≡ OrecEager) where
    abbrev here : Handle K
    here = record d { who = me.0.who; view = me.0.view; own = own_of l }

    at : RunsEager (good stm.rule) stm.config n l me.0.view → EagerOpening e me n l
    at runs =
        let a = opened good stm n l same refl tied.named tied.low stands belongs in
        record {
          call = record { opening = a; tied = tied; reading = laws.reading (good stm.rule) stm.config n l me.0.view runs };
          runs = runs;
          lengths = a.stands.lengths;
        }

    pub opens-eager : (known e).granted ≡ false → EagerOpening e me n l
    opens-eager revocable = at (runs-eager good stm.config stm.rule n l here e refl same belongs.config belongs.rule running eager revocable stands)

  module _ {e : Handle K} {me : SeatView K × List (ℕ × Unit {0})} {n : ℕ} {l : Local} (a : EagerOpening e me n l) where
    pub counts : EagerCount e me l
    counts =
        let knows = a.call.opening.knows in
        record {
          steps = ap (λ (k : CallerState). length k.step_trace) (sym knows);
          held = subst (λ (k : CallerState). length l.locks.items ≤ k.writes_limit) (sym knows) (held-within stm.config l me.0.view a.runs.kept);
          reads = ap (λ (k : CallerState). k.reads_limit) (sym knows);
          writes = ap (λ (k : CallerState). k.writes_limit) (sym knows);
        }

    -- a word was loaded, and goes into the read log
    module _ (at x : ℕ) (w : SeatView K × List (ℕ × Unit {0})) (log : LogState) (inside : at < stm.config.words) (fresh : IsUnread l at)
        (is : log ≡ record l.reads { items = l.reads.items ++ (at, x) ∷ [] })
        (read : HasLoaded (of_words (good stm.rule) stm.config.words) stm.config n at x l me.0.view l w.0.view) where
      pub stays-read : {y : View} → w.0 ≡ record me.0 { view = y } → w.1 ≡ me.1 → IsTied n w × Stands (good_by good w.0.who.rule) w.0.who.config n (record l { reads = log }) w.0.view
      stays-read seated empty =
          stays-tied good stm a.call (record l { reads = log }) w seated empty refl refl a.lengths (ap (λ (y : View). y.gate.holds) read.is)
          (laws.stays-read (good stm.rule) stm.config n l me.0.view a.runs at x l w.0.view log inside fresh.unread is read)

      pub answers-read : x < 2 ^ 64 → HasRead (good stm.rule) stm.config (number e) at (reads.Value x) (known e) (known_of w.0.view (own_of (record l { reads = log })))
      answers-read small = shows good stm a.call.opening (λ n v w. HasRead (good stm.rule) stm.config n at (reads.Value x) v w) w.0.view (record l { reads = log }) (own-read l l at x log refl is)
          (records.reads-new a.call.reading at x l w.0.view small inside fresh.unwritten fresh.unread fresh.room read)

    -- a word was stored
    module _ (at x : ℕ) (q : Local) (w : SeatView K × List (ℕ × Unit {0})) (stores : Stores (good stm.rule) stm.config n l me.0.view at x q w.0.view) where
      pub stays-stored : {y : View} → at < stm.config.words → x < 2 ^ 64 → w.0 ≡ record me.0 { view = y } → w.1 ≡ me.1 → IsTied n w × Stands (good_by good w.0.who.rule) w.0.who.config n q w.0.view
      stays-stored inside small seated empty =
          stays-tied good stm a.call q w seated empty (ap (λ (y : Local). y.running) stores.local)
          (ap (λ (y : Local). y.holds) stores.local)
          (writing.lengths-stored (good stm.rule) stm.config n l me.0.view a.runs at x q w.0.view stores a.lengths)
          (ap (λ (y : View). y.gate.holds) stores.is)
          (writing.stays-stored (good stm.rule) stm.config n l me.0.view a.runs at x q w.0.view stores inside small)

      pub answers-stored : writes_full at (known_of me.0.view (own_of l)) ≡ false → HasWritten (good stm.rule) stm.config (number e) at x writes.Done (known e) (known_of w.0.view (own_of q))
      answers-stored room =
          tells-of good stm a.call.opening (λ n v w. HasWritten (good stm.rule) stm.config n at x writes.Done v w)
          (known_of w.0.view (own_of q)) (writing.writes-done (good stm.rule) stm.config n l me.0.view a.runs at x q w.0.view stores room)
