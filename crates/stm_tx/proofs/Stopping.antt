-- What the answers of a read and of a write come to for an access.
use Rattle.std.proofs.Common.{ℕ, ◌≡◌, List, true, false, refl, sym, subst, inl, inr}
use Rattle.std.specs.Prelude.{Option, Ok, Err, Some, None}
use Rattle.stm_model.specs.declared.config.Config.{Config}
use Rattle.stm_model.specs.declared.stop.Stop.{Stop}
use Rattle.stm_model.specs.declared.stop.Stop.TheVariants as stops
use Rattle.stm_answers.specs.declared.answers.Read.{Read}
use Rattle.stm_answers.specs.declared.answers.Read.TheVariants as reads
use Rattle.stm_answers.specs.declared.answers.Write.{Write}
use Rattle.stm_answers.specs.declared.answers.Write.TheVariants as writes
use Rattle.stm_answers.specs.Answers.{HasRead, HasWritten, Stops, Quits}
use Rattle.stm_answers.specs.CallerState.{CallerState}
use Rattle.stm_answers.specs.CallerStateLaws.{Carries, carries-refl, carries-quits}
use Rattle.stm_tx.specs.declared.live.Halt.{Halt}
use Rattle.stm_tx.specs.Descs.{as_read, as_write, stop_of, Since}

module _ (good : List ℕ → Type 0) (c : Config) (n a : ℕ) (v w : CallerState) where
  pub read-stopped : (r : Read) (stop : Stop) → as_read r ≡ Err stop → HasRead good c n a r v w → Stops good c n a stop v w
  read-stopped (reads.Value x) stop e h = absurd cc
  read-stopped (reads.Conflict cause) stop e h = let is : stops.Conflict cause ≡ stop = cc in subst (λ (s : Stop). Stops good c n a s v w) is (h.0, h.1, h.2)
  read-stopped (reads.Full limit) stop e h = let is : stops.Full limit ≡ stop = cc in subst (λ (s : Stop). Stops good c n a s v w) is (h.0, inl (h.1, h.2))

  pub write-stopped : (x : ℕ) (r : Write) (stop : Stop) → as_write r ≡ Err stop → HasWritten good c n a x r v w → Stops good c n a stop v w
  write-stopped x writes.Done stop e h = absurd cc
  write-stopped x (writes.Conflict cause) stop e h = let is : stops.Conflict cause ≡ stop = cc in subst (λ (s : Stop). Stops good c n a s v w) is (h.0, h.1, h.2)
  write-stopped x (writes.Full limit) stop e h = let is : stops.Full limit ≡ stop = cc in subst (λ (s : Stop). Stops good c n a s v w) is (h.0, inr (h.1, h.2))
  write-stopped x (writes.ClockFull clock) stop e h = let is : stops.ClockFull clock ≡ stop = cc in subst (λ (s : Stop). Stops good c n a s v w) is (h.0, h.1, h.2)

  pub read-went : (x : ℕ) (r : Read) → as_read r ≡ Ok x → HasRead good c n a r v w → HasRead good c n a (reads.Value x) v w
  read-went x (reads.Value y) e h = let is : y ≡ x = cc in subst (λ (z : ℕ). HasRead good c n a (reads.Value z) v w) is h
  read-went x (reads.Conflict cause) e h = absurd cc
  read-went x (reads.Full limit) e h = absurd cc

  pub write-went : (x : ℕ) (r : Write) → as_write r ≡ Ok tt → HasWritten good c n a x r v w → HasWritten good c n a x writes.Done v w
  write-went x writes.Done e h = h
  write-went x (writes.Conflict cause) e h = absurd cc
  write-went x (writes.Full limit) e h = absurd cc
  write-went x (writes.ClockFull clock) e h = absurd cc

  -- who is stopped has quit
  pub stops-quits : (stop : Stop) → Stops good c n a stop v w → Quits v w
  stops-quits (stops.Conflict cause) h = h.0
  stops-quits (stops.Full limit) h = h.0
  stops-quits (stops.ClockFull clock) h = h.0

  -- right after the call
  pub since-stopped : (stop : Stop) → v.running ≡ true → v.closing ≡ false → Stops good c n a stop v w → Since good c n None v (Some record { at = a; stop = stop }) w
  since-stopped stop running closing h = (carries-quits v w running closing (stops-quits stop h), record { before = v; carries = carries-refl v; running = running; stops = h })

-- who wasn't stopped hasn't halted
pub going : (p : Option Halt) → stop_of p ≡ None → p ≡ None
going None e = refl
going (Some halt) e = absurd cc

pub since-at : (good : List ℕ → Type 0) (c : Config) (n : ℕ) (p q : Option Halt) (v w : CallerState) → p ≡ None → Since good c n None v q w → Since good c n p v q w
since-at good c n p q v w e h = subst (λ (o : Option Halt). Since good c n o v q w) (sym e) h

pub since-going : (good : List ℕ → Type 0) (c : Config) (n : ℕ) (p : Option Halt) (v w : CallerState) → p ≡ None → Carries v w → Since good c n p v p w
since-going good c n p v w e h = subst (λ (o : Option Halt). Since good c n o v o w) (sym e) h
