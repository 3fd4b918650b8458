-- What the calls tell is fair: from the clauses of the answers to the table of turns.
use Rattle.std.proofs.Common.{ℕ, ◌≡◌, ◌≢◌, ◌<◌, ◌%◌, ◌⊎◌, Bool, true, false, refl, ap, ◌∙◌, arith, inl, inr, ⊎_elim, List}
use Rattle.std.specs.Prelude.{◌&&◌}
use Rattle.std.proofs.lemmas.Nat.{mod_below}
use Rattle.rule_base.specs.Encodings.{holder_of, is_owned, owner_of}
use Rattle.stm_model.specs.Algorithms.{has_records, has_read_log, logs_writes, closes_gate, asks_at_write, asks_at_commit, asks_at_grant}
use Rattle.stm_model.specs.Configs.{IsConfig}
use Rattle.stm_model.specs.declared.config.Config.{Config}
use Rattle.stm_model.specs.declared.stop.Cause.{Cause}
use Rattle.stm_model.specs.declared.stop.Cause.TheVariants.{Clock, Record, Moved, Filter, Overrun}
use Rattle.stm_model.specs.declared.stop.Stop.{Stop}
use Rattle.stm_model.specs.declared.stop.Stop.TheVariants as stops
use Rattle.work_script.specs.declared.op.Op.{Op}
use Rattle.work_script.specs.declared.workload.Header.{Header}
use Rattle.stm_answers.specs.Answers.{Begins, Commits, Cancels, Closes, Looks, Irrevs, Stops}
use Rattle.stm_answers.specs.Causes.{Asked, Conflicts, IsAgain, IsAnothers, NamesOther, Needs}
use Rattle.stm_answers.specs.Causes.Asked.{ForWord, ToCommit, ToPromote}
use Rattle.stm_answers.specs.CallerState.{CallerState, is_irrevocable, wrote}
use Rattle.stm_answers.specs.declared.answers.Begin.{Begin}
use Rattle.stm_answers.specs.declared.answers.Begin.TheVariants as begins
use Rattle.stm_answers.specs.declared.answers.Cancel.{Cancel}
use Rattle.stm_answers.specs.declared.answers.Cancel.TheVariants as cancels
use Rattle.stm_answers.specs.declared.answers.CloseGate.{CloseGate}
use Rattle.stm_answers.specs.declared.answers.CloseGate.TheVariants as closes
use Rattle.stm_answers.specs.declared.answers.Commit.{Commit}
use Rattle.stm_answers.specs.declared.answers.Commit.TheVariants as commits
use Rattle.stm_answers.specs.declared.answers.Irrev.{Irrev}
use Rattle.stm_answers.specs.declared.answers.Irrev.TheVariants as irrevs
use Rattle.stm_answers.specs.declared.answers.Look.{Look}
use Rattle.stm_answers.specs.declared.answers.Look.TheVariants as looks
use Rattle.work_trace.specs.declared.said.Said.TheVariants.{TryBegin, TryCancel, TryIrrevocable, TryCommit, TryClose, Looked}
use Rattle.work_trace.specs.Places.{CallerProgress, may_write, irrevocable}
use Rattle.work_trace.specs.Turns.{HasSizes, IsFair, IsFairCause, IsFairStop}
use Rattle.work_trace.specs.Turns as turns

-- the place is that of what the caller knows of its open attempt
pub record IsPlaceOf (v : CallerState) (at : CallerProgress) : Type 0 where
  pub alg : at.alg ≡ v.alg
  pub wrote : at.wrote ≡ wrote v
  pub irrevocable : irrevocable at ≡ is_irrevocable v

-- or of what it knew in the middle of an operation
pub record IsPlaceIn (v : CallerState) (at : CallerProgress) : Type 0 where
  pub alg : at.alg ≡ v.alg
  pub revocable : is_irrevocable v ≡ false → irrevocable at ≡ false

both : (a b : Bool) → (a && b) ≡ true → (a ≡ true) × (b ≡ true)
both true b e = (refl, e)
both false b e = absurd cc

-- c is the memory's configuration, and n the caller of the place
module _ (good : List ℕ → Type 0) (c : Config) (n : ℕ) (h : Header) (at : CallerProgress) (ranges : IsConfig c) (sizes : HasSizes c h) (caller : at.caller ≡ n) where
  names-other : (x : ℕ) → NamesOther c n x → turns.NamesOther h at x
  names-other x o =
      let k = o.0 in let below = o.1 in let other = o.2 in let is = o.3 in let same = sizes.3 in
      ((λ e. absurd (omega (arith, e, is))), (λ e. other (omega (arith, e, is, caller))), omega (arith, below, is, same))

  others : 1 < c.callers → 1 < h.callers
  others lt = let same = sizes.3 in omega (arith, lt, same)

  above-zero : (x : ℕ) → 0 < x → x ≢ 0
  above-zero x lt e = absurd (omega (arith, lt, e))

  pub fair-begin : (b : Begin) (v w : CallerState) → Begins good c n b v w → IsFair h at (TryBegin b)
  fair-begin (begins.Begun alg) v w t = tt
  fair-begin (begins.Closed gate) v w t = (others t.3, names-other (holder_of gate) t.2)
  fair-begin (begins.Held word) v w t = (others t.4, above-zero word t.2)
  fair-begin (begins.ClockFull clock) v w t = t.3.limit

  pub fair-close : (r : CloseGate) (v w : CallerState) → Closes good c n r v w → IsFair h at (TryClose r)
  fair-close closes.Closed v w t = tt
  fair-close (closes.Taken gate) v w t = (others t.3, names-other (holder_of gate) t.2)

  pub fair-look : (l : Look) (v w : CallerState) → Looks good c n l v w → IsFair h at (Looked l)
  fair-look looks.Quiet v w t = tt
  fair-look (looks.Busy k status) v w t =
      let o = t.1.other in let below = o.0 in let same = sizes.3 in
      (others o.2, omega (arith, below, same), (λ e. o.1 (e ∙ caller)), above-zero status t.1.announced)

  in-range : (a index : ℕ) → index ≡ a % c.records → index < h.records
  in-range a index is =
      let some = ranges.records.0 in
      let low : a % c.records < c.records = mod_below a c.records (omega (arith, some)) in
      let same = sizes.1 in omega (arith, low, is, same)

  needed : (asked : Asked) (index : ℕ) (v : CallerState) → Needs c asked index v → index < h.records
  needed (ForWord a) index v k = in-range a index k
  needed ToCommit index v k = in-range k.0 index k.1
  needed ToPromote index v k = absurd k

  module _ (v : CallerState) (is : IsPlaceIn v at) where
    pub fair-cause : (asked : Asked) (cause : Cause) (w : CallerState) → Conflicts c n asked cause v w → IsFairCause h at cause
    fair-cause asked (Clock had now) w t = (is.alg ∙ t.0, t.2)
    fair-cause asked (Record index word start) w t = (
      ap has_records is.alg ∙ t.0,
      ⊎_elim (λ o. needed asked index v o.0) (λ o. in-range o.1.0 index o.1.1) t.3,
      ⊎_elim (λ o. inl (anothers o.1)) (λ o. ⊎_elim (λ x. inl (anothers x)) (λ x. inr (x.0, (let lt = x.1 in let e = t.1 in omega (arith, lt, e)))) o.2) t.3,
    )
      where
        anothers : IsAnothers c n word → (is_owned word ≡ true) × (owner_of word ≢ at.caller)
        anothers o = (o.0, (λ e. let k = o.1.2 in let j = o.1.3 in k (omega (arith, e, j, caller))))
    fair-cause asked (Moved index before after) w t = (ap has_records is.alg ∙ t.0, needed asked index v t.1, t.2.apart)
    fair-cause asked (Filter time bits) w t = (is.alg ∙ t.0, (let lt = t.1.first.since in omega (arith, lt)), t.1.first.meets.some)
    fair-cause asked (Overrun start clock) w t = (is.alg ∙ t.0, (let le = t.3 in let same = sizes.2 in omega (arith, le, same)))

    -- the logs have the lengths that the place tells
    module _ (reads : v.reads_limit ≡ at.reads_limit) (writes : v.writes_limit ≡ at.writes_limit) where
      pub fair-stop : (op : Op) (a : ℕ) (stop : Stop) (w : CallerState) → ((clock : ℕ) → stop ≡ stops.ClockFull clock → may_write op ≡ true) → Stops good c n a stop v w
          → (irrevocable at ≡ false) × IsFairStop h at op stop
      fair-stop op a (stops.Conflict cause) w may t = (is.revocable t.0.revocable, (others t.2, fair-cause (ForWord a) cause w t.1))
      fair-stop op a (stops.Full limit) w may t = (
        is.revocable t.0.revocable,
        ⊎_elim
            (λ f. inl (ap has_read_log is.alg ∙ (both (has_read_log v.alg) _ f.0).0, f.1 ∙ reads))
            (λ f. inr (ap logs_writes is.alg ∙ (both (logs_writes v.alg) _ f.0).0, f.1 ∙ writes))
            t.1,
      )
      fair-stop op a (stops.ClockFull clock) w may t = (is.revocable t.0.revocable, (t.2.limit, ap asks_at_write is.alg ∙ t.1, may clock refl))

  module _ (v : CallerState) (is : IsPlaceOf v at) where
    cause-of : (asked : Asked) (cause : Cause) (w : CallerState) → Conflicts c n asked cause v w → IsFairCause h at cause
    cause-of asked cause w t = fair-cause v (record { alg = is.alg; revocable = λ e. is.irrevocable ∙ e }) asked cause w t

    fair-again : (word had now : ℕ) (w : CallerState) → IsAgain c n word had now v w → turns.IsFairAgain h at word had now
    fair-again word had now w (inl t) = inl (t.0, ap has_records is.alg ∙ t.1, t.3.0)
    fair-again word had now w (inr t) = inr (t.0, is.alg ∙ t.1, t.2, names-other now t.4)

    -- who was refused can be cancelled
    revocable : is_irrevocable v ≡ false → irrevocable at ≡ false
    revocable e = is.irrevocable ∙ e

    pub fair-cancel : (r : Cancel) (w : CallerState) → Cancels good c n r v w → IsFair h at (TryCancel r)
    fair-cancel (cancels.Cancelled time) w t = revocable t.3
    fair-cancel cancels.Irrevocable w t = is.irrevocable ∙ t.1

    pub fair-irrevocable : (r : Irrev) (w : CallerState) → Irrevs good c n r v w → IsFair h at (TryIrrevocable r)
    fair-irrevocable irrevs.Granted w t = tt
    fair-irrevocable (irrevs.Busy k status) w t =
        let o = t.2.other in let below = o.0 in let same = sizes.3 in
        ((revocable t.0.revocable, ap closes_gate is.alg ∙ t.0.closes, others o.2), omega (arith, below, same), (λ e. o.1 (e ∙ caller)), above-zero status t.2.announced)
    fair-irrevocable (irrevs.Taken gate) w t = ((revocable t.0.revocable, ap closes_gate is.alg ∙ t.0.closes, others t.5), names-other (holder_of gate) t.4)
    fair-irrevocable (irrevs.Conflict cause) w t = (revocable t.0.revocable, others t.2, cause-of ToPromote cause w t.1)
    fair-irrevocable (irrevs.ClockFull clock) w t = (revocable t.0.revocable, t.2.limit, ap asks_at_grant is.alg ∙ t.1)

    pub fair-commit : (r : Commit) (w : CallerState) → Commits good c n r v w → IsFair h at (TryCommit r)
    fair-commit (commits.Committed time) w t = is.wrote ∙ t.wrote
    fair-commit (commits.ReadOnly time) w t = is.wrote ∙ t.2
    fair-commit (commits.Conflict cause) w t = (revocable t.0.revocable, others t.2, cause-of ToCommit cause w t.1, is.wrote ∙ t.3)
    fair-commit (commits.Again word had now) w t = (revocable t.7, others t.6, fair-again word had now w t.5, is.wrote ∙ t.8)
    fair-commit (commits.ClockFull clock) w t = (revocable t.0.revocable, t.3.limit, ap asks_at_commit is.alg ∙ t.1, is.wrote ∙ t.2)
