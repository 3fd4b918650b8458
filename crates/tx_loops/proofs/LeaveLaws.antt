-- Laws of what the end of a body comes to.
use Rattle.std.proofs.Common.{◌≡◌, ◌≤◌, ◌∙◌, true, false, refl, sym, ap, subst, inl, inr, arith}
use Rattle.std.specs.Prelude.{◌⊎◌, Option, Ok}
use Rattle.stm_model.specs.Logs.{Log}
use Rattle.stm_answers.specs.CallerState.{IsIdle}
use Rattle.tx_checked.specs.CheckedCallers.{known_to}
use Rattle.tx_checked.specs.declared.checked_caller.CheckedCaller.{CheckedCaller}
use Rattle.tx_checked.specs.declared.refusal.Refusal.{Refusal}
use Rattle.tx_loops.specs.declared.looping_caller.LoopingCaller.{LoopingCaller}
use Rattle.tx_loops.specs.declared.stage.Stage.{Stage}
use Rattle.tx_loops.specs.declared.stage.Stage.TheVariants.{Free, Direct, Bound, Lapsed, Committing}
use Rattle.tx_loops.specs.declared.turn.Turn.{Turn}
use Rattle.tx_loops.specs.declared.turn.Turn.TheVariants as turns
use Rattle.tx_loops.specs.declared.turn.How.{How}
use Rattle.tx_loops.specs.Hindrances.{HindersCommit, IsHindered}
use Rattle.tx_loops.specs.Loops.{DoneSays, EndsBy, FinishSays, GivesUp, HindersEnd, HindersStoring, IsOut, IsPutOff, IsRefused, IsThrough, MadeNothing, log_of, stays_out}
use Rattle.tx_loops.specs.Stages.{is_given_up, log_at}
use Rattle.tx_loops.specs.Turns.{GoesOnAfter, IsAfterRefusal}
use Rattle.tx_loops.proofs.CommitLaws.{holds-trans, nothing-refl, nothing-trans, took-after}
use Rattle.tx_loops.proofs.EnterLaws.{after-last}
use Rattle.tx_parts.specs.Laying.{SameLog}

-- COMMITS: by each outcome
pub commit-done : (m k : CheckedCaller) (n : LoopingCaller) → n.stage ≡ Free → n.caller ≡ k → IsThrough m k → FinishSays m n turns.Done
commit-done m k n free same through = inl (refl, free, subst (λ (c : CheckedCaller). IsThrough m c) (sym same) through)

-- what ended the attempt comes before the turn
ended-so : (Hinders Ends : Refusal → Type 0) (n : LoopingCaller) (t : Turn) → ((e : Refusal) → Hinders e → Ends e) → n.stage ≡ Free → IsAfterRefusal n.caller.refusal t → EndsBy Hinders n.caller → IsHindered Ends n t
ended-so Hinders Ends n t makes free after h = (h.0, makes h.0 h.1, after-last n.caller.refusal h.0 t h.3 after, free ∙ sym h.2, h.3)

after-same : (k : CheckedCaller) (n : LoopingCaller) (t : Turn) → n.caller ≡ k → IsAfterRefusal k.refusal t → IsAfterRefusal n.caller.refusal t
after-same k n t same after = subst (λ (c : CheckedCaller). IsAfterRefusal c.refusal t) (sym same) after

refused-here : (m : CheckedCaller) (n : LoopingCaller) (t : Turn) → n.stage ≡ Free → IsAfterRefusal n.caller.refusal t → IsRefused m n.caller → EndsBy (HindersCommit m n.caller) n.caller → FinishSays m n t
refused-here m n t free after refused h =
    inr ((refused.1, inr (free, refused.0)), ended-so (HindersCommit m n.caller) (HindersCommit m n.caller) n t (λ e k. k) free after h)

pub commit-refused : (m k : CheckedCaller) (n : LoopingCaller) (t : Turn) → n.stage ≡ Free → n.caller ≡ k → IsAfterRefusal k.refusal t → IsRefused m k → EndsBy (HindersCommit m k) k → FinishSays m n t
commit-refused m k n t free same after refused h =
    refused-here m n t free (after-same k n t same after) (subst (λ (c : CheckedCaller). IsRefused m c) (sym same) refused)
    (subst (λ (c : CheckedCaller). EndsBy (HindersCommit m c) c) (sym same) h)

-- a commit after nothing was made, of the log that the body left
pub finished : (m : LoopingCaller) (k : CheckedCaller) (n : LoopingCaller) (t : Turn) → MadeNothing m.caller k → (known_to m.caller).start ≤ (known_to k).start → SameLog (log_of m) (known_to k).log → FinishSays k n t → DoneSays m n (Ok t)
finished m k n t nothing later like (inl a) =
    let through : IsThrough k n.caller = a.2 in
    inl (
      a.0,
      a.1,
      through.0,
      took-after (λ (l : Log). l ≡ (known_to k).log) (λ (l : Log). SameLog (log_of m) l) m.caller k n.caller nothing later (λ (l : Log) (e : l ≡ (known_to k).log). subst (λ (j : Log). SameLog (log_of m) j) (sym e) like) through.1,
      holds-trans m.caller k n.caller nothing.holds through.2,
    )
finished m k n t nothing later like (inr a) = inr (by a.0.1, inr (a.1.0, inr (k, (nothing, like), a.1.1), a.1.2, a.1.3, a.1.4))
  where
    since : MadeNothing m.caller n.caller
    since = nothing-trans m.caller k n.caller nothing a.0.0

    by : ((n.stage ≡ Committing) × ((known_to n.caller).log ≡ (known_to k).log)) ⊎ ((n.stage ≡ Free) × IsIdle (known_to n.caller)) → IsPutOff m n ⊎ IsOut m n
    by (inl p) = inl (record {
      nothing = since;
      stage = p.0;
      log = subst (λ (s : Stage). SameLog (log_of m) (log_at s (known_to n.caller).log n.buffer.items)) (sym p.0) (subst (λ (l : Log). SameLog (log_of m) l) (sym p.1) like);
    })
    by (inr q) = inr (record { nothing = since; stage = q.0; idle = λ i. q.1 })

-- where no buffer is in between
pub finished-here : (m n : LoopingCaller) (t : Turn) → log_of m ≡ (known_to m.caller).log → FinishSays m.caller n t → DoneSays m n (Ok t)
finished-here m n t is h =
    let low : (known_to m.caller).start ≤ (known_to m.caller).start = omega arith in
    finished m m.caller n t (nothing-refl m.caller) low (subst (λ (l : Log). SameLog (log_of m) l) is (refl, λ b. refl)) h

pub direct-log : (m : LoopingCaller) → (m.stage ≡ Direct) ⊎ (m.stage ≡ Bound) → log_of m ≡ (known_to m.caller).log
direct-log m (inl e) = ap (λ (s : Stage). log_at s (known_to m.caller).log m.buffer.items) e
direct-log m (inr e) = ap (λ (s : Stage). log_at s (known_to m.caller).log m.buffer.items) e

-- what lay in the buffer wasn't stored
unstored-here : (m n : LoopingCaller) (t : Turn) → n.stage ≡ Free → IsAfterRefusal n.caller.refusal t → MadeNothing m.caller n.caller → IsIdle (known_to n.caller) → EndsBy (HindersStoring m.buffer.items m.caller n.caller) n.caller → DoneSays m n (Ok t)
unstored-here m n t free after nothing idle h =
    inr (
      inr (record { nothing = nothing; stage = free; idle = λ i. idle }),
      inr (ended-so (HindersStoring m.buffer.items m.caller n.caller) (HindersEnd m n.caller) n t (λ e k. inl k) free after h),
    )

pub unstored : (m : LoopingCaller) (k : CheckedCaller) (n : LoopingCaller) (t : Turn) → n.stage ≡ Free → n.caller ≡ k → IsAfterRefusal k.refusal t → MadeNothing m.caller k → IsIdle (known_to k) → EndsBy (HindersStoring m.buffer.items m.caller k) k → DoneSays m n (Ok t)
unstored m k n t free same after nothing idle h =
    unstored-here m n t free (after-same k n t same after) (subst (λ (c : CheckedCaller). MadeNothing m.caller c) (sym same) nothing)
    (subst (λ (c : CheckedCaller). IsIdle (known_to c)) (sym same) idle)
    (subst (λ (c : CheckedCaller). EndsBy (HindersStoring m.buffer.items m.caller c) c) (sym same) h)

-- an attempt that was given up, and what comes after it
pub gives-up : (how : How) (m k l n : LoopingCaller) (t : Turn) → IsOut m k → k.caller.refusal ≡ m.caller.refusal → l.caller ≡ k.caller → l.stage ≡ k.stage → n.caller ≡ l.caller → n.stage ≡ l.stage
    → GoesOnAfter how k.caller.refusal (stays_out m.caller) t → GivesUp how m n t
gives-up how m k l n t out last lk ls nl ns goes =
    let same : n.caller ≡ k.caller = nl ∙ lk in (
      record {
        nothing = subst (λ (c : CheckedCaller). MadeNothing m.caller c) (sym same) out.nothing;
        stage = ns ∙ (ls ∙ out.stage);
        idle = λ i. subst (λ (c : CheckedCaller). IsIdle (known_to c)) (sym same) (out.idle i);
      },
      ap (λ (c : CheckedCaller). c.refusal) same ∙ last,
      subst (λ (o : Option Refusal). GoesOnAfter how o (stays_out m.caller) t) last goes,
    )

-- what may be left open has ended already
pub given-lapsed : (s : Stage) → is_given_up s ≡ true → (s ≡ Free) ⊎ ((s ≡ Bound) ⊎ (s ≡ Lapsed)) → s ≡ Lapsed
given-lapsed s given (inl e) = absurd (let no : false ≡ true = sym (ap is_given_up e) ∙ given in cc)
given-lapsed s given (inr (inl e)) = absurd (let no : false ≡ true = sym (ap is_given_up e) ∙ given in cc)
given-lapsed s given (inr (inr e)) = e

-- after an attempt that had ended before its body did
lapsed-out : (m n : LoopingCaller) → m.stage ≡ Lapsed → n.stage ≡ Free → n.caller ≡ m.caller → IsOut m n
lapsed-out m n was now same = record {
  nothing = subst (λ (k : CheckedCaller). MadeNothing m.caller k) (sym same) (nothing-refl m.caller);
  stage = now;
  idle = λ i. absurd (i was);
}

pub lapsed-says : (m n : LoopingCaller) (t : Turn) → m.stage ≡ Lapsed → n.stage ≡ Free → n.caller ≡ m.caller → IsAfterRefusal m.caller.refusal t → DoneSays m n (Ok t)
lapsed-says m n t was now same after = inr (inr (lapsed-out m n was now same), inl (record { stage = was; now = now; caller = same; after = after }))
