-- The trace of one transaction that writes.
use Rattle.std.proofs.Common.{ℕ, ◌≡◌, [], ◌∷◌, refl, true, false, arith}
use Rattle.std.proofs.lemmas.List.Sorted.{IsPermutation-refl}
use Rattle.stm_model.specs.declared.alg.Alg.{Alg}
use Rattle.std.specs.Prelude.{None}
use Rattle.work_profile.specs.declared.outcome.Outcome.TheVariants as outcomes
use Rattle.work_profile.specs.declared.policy.Policy.TheVariants.{Fixed}
use Rattle.work_profile.specs.Profiles.{with_outcome}
use Rattle.work_script.specs.declared.op.Op.TheVariants.{Write}
use Rattle.work_script.specs.declared.workload.Header.{Header}
use Rattle.stm_answers.specs.declared.answers.Begin.TheVariants.{Begun}
use Rattle.stm_answers.specs.declared.answers.Commit.TheVariants.{Committed}
use Rattle.work_trace.specs.declared.line.Line.TheVariants.{Of, Finish}
use Rattle.work_trace.specs.declared.said.Phase.TheVariants.{Between}
use Rattle.work_trace.specs.declared.said.Said.TheVariants.{TryBegin, Reply, TryCommit}
use Rattle.work_trace.specs.Adapting.{no_profile}
use Rattle.work_trace.specs.Fits.{first_place}
use Rattle.work_trace.specs.Places.{CallerProgress}
use Rattle.work_trace.specs.Told.{OneWriterFits, one_writer, one_writer_rows}
use Rattle.work_trace.specs.Turns.{IsOver}
use Rattle.std.proofs.lemmas.List.Elements.{All-nil, All-cons}

abbrev done : Header → Alg → ℕ → ℕ → ℕ → CallerProgress
done h alg a v time =
    record {
      caller = 0;
      left = [];
      failed = 0;
      must = false;
      phase = Between;
      alg = alg;
      rest = [];
      replies = [];
      emits = [];
      wrote = true;
      granted = false;
      rows = one_writer_rows v time;
      policy = Fixed;
      profile = with_outcome no_profile outcomes.Committed;
      chosen = None;
      reads_limit = h.reads;
      writes_limit = h.writes;
    }

pub writer-fits : OneWriterFits
writer-fits h alg a v time memory =
    let start : CallerProgress = first_place (one_writer h a v) 0 in
    record {
      calm = (refl, (refl, (refl, tt)));
      now = done h alg a v time ∷ [];
      finished = record {
        first = Finish ∷ [];
        second = Of 0 (TryBegin (Begun alg)) ∷ Of 0 (Reply (Write a v) v) ∷ Of 0 (TryCommit (Committed time)) ∷ [];
        parts = refl;
        middle = start ∷ [];
        wound = record { first = []; second = []; parts = refl; middle = start ∷ []; played = refl; order = refl; path = refl; rises = tt };
        closed = All-cons (λ (at : CallerProgress). at.phase ≡ Between) start [] refl (All-nil (λ (at : CallerProgress). at.phase ≡ Between));
        path = (omega arith, (refl, tt, refl), tt, (omega arith, ((refl, refl, refl), refl), tt, (omega arith, (refl, refl, refl), refl, refl)));
        rises = (omega arith, (omega arith, (omega arith, tt)));
      };
      over = All-cons IsOver (done h alg a v time) [] (refl, refl, refl) (All-nil IsOver);
      told = IsPermutation-refl (one_writer_rows v time);
    }
