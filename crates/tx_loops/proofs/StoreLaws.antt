-- Laws of writes into a body's attempt.
use Rattle.std.proofs.Common.{ℕ, zero, suc, ◌≡◌, ◌≤◌, ◌<◌, ◌∙◌, List, [], ◌∷◌, length, get_or, true, false, refl, sym, subst, arith}
use Rattle.std.proofs.lemmas.Bool.Decides.{nat_tests}
use Rattle.std.specs.Prelude.{Bool, None, Some, Result, Ok, Err, ◌==◌, if◌then◌else◌}
use Rattle.stm_model.specs.declared.config.Config.{Config}
use Rattle.stm_model.specs.Logs.{Writes}
use Rattle.stm_model.specs.Memories.{item_at, Once}
use Rattle.stm_answers.specs.Answers.{GoesOn, Quits}
use Rattle.stm_answers.specs.CallerState.{IsIdle, IsRunning, is_irrevocable}
use Rattle.stm_answers.specs.CallerStateLaws.{carries-wrote, in-attempt}
use Rattle.stm_answers.specs.Causes.Asked.{ForWord}
use Rattle.stm_answers.specs.declared.answers.Write.{Write}
use Rattle.stm_answers.specs.declared.answers.Write.TheVariants as writes
use Rattle.tx_checked.specs.CheckedCallers.{config_of, known_to}
use Rattle.tx_checked.specs.declared.checked_caller.CheckedCaller.{CheckedCaller}
use Rattle.tx_checked.specs.declared.misuse.Misuse.{Misuse}
use Rattle.tx_checked.specs.declared.refusal.Refusal.{Refusal}
use Rattle.tx_checked.specs.declared.refusal.Refusal.TheVariants as refusals
use Rattle.tx_checked.specs.Misuses.{access}
use Rattle.tx_checked.specs.Tells.{HasWrittenWord, Tells, write_refusal}
use Rattle.tx_loops.specs.declared.stage.Stage.TheVariants.{Free}
use Rattle.tx_loops.specs.Ends.{is_written}
use Rattle.tx_loops.specs.Hindrances.{HindersWrite, stage_after}
use Rattle.tx_loops.specs.Loops.{EndsBy, HindersStoring, IsRefused, MadeNothing}
use Rattle.tx_loops.specs.Stages.{EachSpared, IsSpared}
use Rattle.tx_loops.proofs.BodyLaws.{access-in, spared-at}
use Rattle.tx_loops.proofs.CommitLaws.{nothing-trans, same-config}

-- in an attempt no gate is closed
pub unclosed : (m : CheckedCaller) → (known_to m).running ≡ true → (known_to m).closing ≡ false
unclosed m run = in-attempt m.desc.view.gate.phase run

-- x was written to a in an attempt that goes on
pub record Wrote (a x : ℕ) (m n : CheckedCaller) : Type 0 where
  pub nothing : MadeNothing m n
  pub runs : IsRunning (known_to n)
  pub fence : (known_to n).fence ≡ (known_to m).fence
  pub later : (known_to m).start ≤ (known_to n).start
  pub alg : (known_to n).alg ≡ (known_to m).alg
  pub granted : (known_to n).granted ≡ (known_to m).granted
  pub irrevocable : is_irrevocable (known_to m) ≡ true → is_irrevocable (known_to n) ≡ true
  pub log : Writes (known_to m).log a x (known_to n).log

pub wrote-done : (a x : ℕ) (m n : CheckedCaller) → IsRunning (known_to m) → Tells (access a m) (HasWrittenWord a x m n) m n (Ok writes.Done) → Wrote a x m n
wrote-done a x m n run h =
    let told : HasWrittenWord a x m n writes.Done = h.2 in
    let goes : GoesOn (config_of m) (ForWord a) (known_to m) (known_to n) = told.0.0 in
    record {
      nothing = record { same = h.1; made = goes.continues.made; grows = goes.continues.grows; holds = (told.1, goes.continues.installs) };
      runs = (goes.continues.running, told.0.1);
      fence = goes.continues.fence;
      later = goes.continues.later;
      alg = goes.continues.alg;
      granted = goes.granted;
      irrevocable = λ i. ((carries-wrote (known_to m) (known_to n) a x run.0 (unclosed m run.0) goes told.0.2).irrevocable run.0 i).1;
      log = told.0.2;
    }

-- one that was refused ended the attempt, by this refusal
abbrev IsWrittenInVain : ℕ → ℕ → CheckedCaller → CheckedCaller → Type 0
IsWrittenInVain a x m n = IsRefused m n × EndsBy (HindersWrite a x m n) n

write-refused : (a x : ℕ) (m n : CheckedCaller) (r : Write) (e : Refusal) → Quits (known_to m) (known_to n) → write_refusal r None ≡ Some e → stage_after e ≡ Free → n.refusal ≡ Some e → Tells (access a m) (HasWrittenWord a x m n) m n (Ok r) → IsWrittenInVain a x m n
write-refused a x m n r e quits is free last h =
    let told : HasWrittenWord a x m n r = h.2 in (
      (quits.ends.idle, record { same = h.1; made = quits.made; grows = quits.ends.grows; holds = (told.1, quits.ends.installs) }, quits.revocable),
      (e, (r, h, is), free, last),
    )

-- a write into such an attempt was made, or ended it
pub write-comes : (a x : ℕ) (m n : CheckedCaller) (r : Result Write Misuse) → IsRunning (known_to m) → IsSpared (config_of m).words (known_to m).fence a → Tells (access a m) (HasWrittenWord a x m n) m n r
    → (is_written r ≡ true → Wrote a x m n) × (is_written r ≡ false → IsWrittenInVain a x m n)
write-comes a x m n (Ok writes.Done) run spared h = ((λ e. wrote-done a x m n run h), (λ e. absurd (let no : true ≡ false = e in cc)))
write-comes a x m n (Ok (writes.Conflict cause)) run spared h =
    let told : HasWrittenWord a x m n (writes.Conflict cause) = h.2 in
    ((λ e. absurd (let no : false ≡ true = e in cc)), (λ e. write-refused a x m n (writes.Conflict cause) (refusals.Conflict cause) told.0.0 refl refl told.2 h))
write-comes a x m n (Ok (writes.Full limit)) run spared h =
    let told : HasWrittenWord a x m n (writes.Full limit) = h.2 in
    ((λ e. absurd (let no : false ≡ true = e in cc)), (λ e. write-refused a x m n (writes.Full limit) (refusals.WritesFull limit) told.0.0 refl refl told.2 h))
write-comes a x m n (Ok (writes.ClockFull clock)) run spared h =
    let told : HasWrittenWord a x m n (writes.ClockFull clock) = h.2 in
    ((λ e. absurd (let no : false ≡ true = e in cc)), (λ e. write-refused a x m n (writes.ClockFull clock) (refusals.ClockFull clock) told.0.0 refl refl told.2 h))
write-comes a x m n (Err e) run spared h = absurd (let no : None ≡ Some e = sym (access-in a (config_of m).words m.phase (known_to m) m.in_phase run spared) ∙ h.0 in cc)

-- an item of the buffer stands there at its address
found-later : (a : ℕ) (w : ℕ × ℕ) (ws : List (ℕ × ℕ)) (x : ℕ) (t : Bool) → (w.0 == a) ≡ t → item_at w.0 ws ≡ None → item_at a ws ≡ Some x → (if t then Some w.1 else item_at a ws) ≡ Some x
found-later a w ws x false e none is = is
found-later a w ws x true e none is =
    let same : w.0 ≡ a = grind (arith, nat_tests) in
    absurd (let no : None ≡ Some x = sym (subst (λ b. item_at b ws ≡ None) same none) ∙ is in cc)

pub found-at : (i : ℕ) (ws : List (ℕ × ℕ)) → i < length ws → Once ws → item_at (get_or ws i (0, 0)).0 ws ≡ Some (get_or ws i (0, 0)).1
found-at i [] low once = absurd (omega (arith, low))
found-at zero (w ∷ ws) low once = let same : (w.0 == w.0) ≡ true = grind (arith, nat_tests) in rw same refl
found-at (suc i) (w ∷ ws) low once =
    let v : ℕ × ℕ = get_or ws i (0, 0) in
    found-later v.0 w ws v.1 (w.0 == v.0) refl once.0 (found-at i ws (omega (arith, low)) once.1)

-- what isn't irrevocable now wasn't so before
pub was-revocable : (a b : Bool) → (a ≡ true → b ≡ true) → b ≡ false → a ≡ false
was-revocable false b h e = refl
was-revocable true b h e = absurd (let no : true ≡ false = sym (h refl) ∙ e in cc)

-- the next address of the buffer is spared yet
pub spared-here : (m k : CheckedCaller) (i : ℕ) (ws : List (ℕ × ℕ)) → i < length ws → MadeNothing m k → (known_to k).fence ≡ (known_to m).fence → EachSpared (config_of m).words (known_to m).fence ws → IsSpared (config_of k).words (known_to k).fence (get_or ws i (0, 0)).0
spared-here m k i ws low nothing fence h =
    subst (λ f. IsSpared (config_of k).words f (get_or ws i (0, 0)).0) (sym fence)
    (subst (λ (c : Config). IsSpared c.words (known_to m).fence (get_or ws i (0, 0)).0) (sym (same-config m k nothing.same)) (spared-at (config_of m).words (known_to m).fence i ws low h))

-- the write of an item was refused: nothing of all that lay in the buffer stands
pub record IsStopped (ws : List (ℕ × ℕ)) (m n : CheckedCaller) : Type 0 where
  pub nothing : MadeNothing m n
  pub ended : IsIdle (known_to n) × (is_irrevocable (known_to m) ≡ false)
  pub hindered : EndsBy (HindersStoring ws m n) n

pub stopped-at : (m k n : CheckedCaller) (i : ℕ) (ws : List (ℕ × ℕ)) (w : ℕ × ℕ) (r : Result Write Misuse) → i < length ws → w ≡ get_or ws i (0, 0) → Once ws → MadeNothing m k → IsRunning (known_to k)
    → (known_to k).fence ≡ (known_to m).fence → (is_irrevocable (known_to m) ≡ true → is_irrevocable (known_to k) ≡ true) → EachSpared (config_of m).words (known_to m).fence ws
    → Tells (access w.0 k) (HasWrittenWord w.0 w.1 k n) k n r → is_written r ≡ false → IsStopped ws m n
stopped-at m k n i ws w r low is once nothing run fence irrevocable spared h written =
    let here = subst (λ (v : ℕ × ℕ). IsSpared (config_of k).words (known_to k).fence v.0) (sym is) (spared-here m k i ws low nothing fence spared) in
    let there = subst (λ (v : ℕ × ℕ). item_at v.0 ws ≡ Some v.1) (sym is) (found-at i ws low once) in
    let vain : IsWrittenInVain w.0 w.1 k n = (write-comes w.0 w.1 k n r run here h).1 written in
    let refused : IsRefused k n = vain.0 in
    let by : EndsBy (HindersWrite w.0 w.1 k n) n = vain.1 in
    record {
      nothing = nothing-trans m k n nothing refused.1;
      ended = (refused.0, was-revocable (is_irrevocable (known_to m)) (is_irrevocable (known_to k)) irrevocable refused.2);
      hindered = (by.0, (k, nothing, w.0, w.1, there, by.1), by.2, by.3);
    }
