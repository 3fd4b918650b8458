-- Laws of how a body's attempt begins.
use Rattle.std.proofs.Common.{ℕ, ◌≡◌, ◌≤◌, ◌∙◌, ◌<◌, true, refl, sym, ap, subst, inl, inr, arith}
use Rattle.std.proofs.lemmas.Bool.{le-leb}
use Rattle.std.specs.Prelude.{Option, None, Some, Ok, nat_le}
use Rattle.stm_model.specs.declared.alg.Alg.{Alg}
use Rattle.stm_model.specs.declared.stop.Cause.{Cause}
use Rattle.stm_answers.specs.Answers.{Quits, Stays, Waits}
use Rattle.stm_answers.specs.CallerState.{IsIdle}
use Rattle.stm_answers.specs.declared.answers.Begin.{Begin}
use Rattle.stm_answers.specs.declared.answers.Begin.TheVariants as begins
use Rattle.stm_answers.specs.declared.answers.Irrev.{Irrev}
use Rattle.stm_answers.specs.declared.answers.Irrev.TheVariants as grants
use Rattle.tx_atomic.specs.TryLaws.{grows-refl}
use Rattle.tx_checked.specs.CheckedCallers.{config_of, known_to, number_of}
use Rattle.tx_checked.specs.declared.checked_caller.CheckedCaller.{CheckedCaller}
use Rattle.tx_checked.specs.declared.misuse.Misuse.{Misuse}
use Rattle.tx_checked.specs.declared.refusal.Refusal.{Refusal}
use Rattle.tx_checked.specs.declared.refusal.Refusal.TheVariants as refusals
use Rattle.tx_checked.specs.Misuses.{lengths, or_else, outside, running}
use Rattle.tx_checked.specs.Phases.{Any}
use Rattle.tx_checked.specs.Tells.{HasBegun, IsIrrevocable, Tells, begin_refusal, grant_refusal}
use Rattle.tx_loops.specs.declared.looping_caller.LoopingCaller.{LoopingCaller}
use Rattle.tx_loops.specs.declared.stage.Stage.TheVariants.{Free, Asking}
use Rattle.tx_loops.specs.declared.turn.Turn.{Turn}
use Rattle.tx_loops.specs.declared.turn.Turn.TheVariants as turns
use Rattle.tx_loops.specs.Hindrances.{stage_after}
use Rattle.tx_loops.specs.Loops.{AskSays, MadeNothing, Opens}
use Rattle.tx_loops.specs.Turns.{IsAfter, IsAfterRefusal, IsPause}
use Rattle.tx_loops.proofs.CommitLaws.{nothing-trans}

-- a length that fits is never what is wrong
pub reads_wrong : (wanted : ℕ) (e : Misuse) (o : Option Misuse) → 0 < wanted → wanted ≤ 1048576 → or_else o (lengths wanted 1) ≡ Some e → o ≡ Some e
reads_wrong wanted e (Some f) low high is = is
reads_wrong wanted e None low high is =
    let least : nat_le 1 wanted ≡ true = le-leb 1 wanted low in
    let most : nat_le wanted 1048576 ≡ true = le-leb wanted 1048576 high in
    let fits : lengths wanted 1 ≡ None = rw (least, most) refl in
    absurd (let no : None ≡ Some e = sym fits ∙ is in cc)

pub writes_wrong : (wanted : ℕ) (e : Misuse) (o : Option Misuse) → 0 < wanted → wanted ≤ 1048576 → or_else o (lengths 1 wanted) ≡ Some e → o ≡ Some e
writes_wrong wanted e (Some f) low high is = is
writes_wrong wanted e None low high is =
    let least : nat_le 1 wanted ≡ true = le-leb 1 wanted low in
    let most : nat_le wanted 1048576 ≡ true = le-leb wanted 1048576 high in
    let fits : lengths 1 wanted ≡ None = rw (least, most) refl in
    absurd (let no : None ≡ Some e = sym fits ∙ is in cc)

-- an attempt has begun: nothing was made
pub begun-nothing : (m n : CheckedCaller) (alg : Alg) → Tells (outside m) (HasBegun m n) m n (Ok (begins.Begun alg)) → MadeNothing m n × ((known_to m).front ≤ (known_to n).start)
begun-nothing m n alg h =
    let told : HasBegun m n (begins.Begun alg) = h.2 in
    (record { same = h.1; made = told.0.made; grows = told.0.grows; holds = (told.1, told.0.installs) }, told.0.fresh)

-- NONE BEGAN: by each answer
stays-out : (m : CheckedCaller) (n : LoopingCaller) (r : Begin) (e : Refusal) (t : Turn) → n.stage ≡ Free → stage_after e ≡ Free → IsAfter e t → begin_refusal r None ≡ Some e → n.caller.refusal ≡ Some e
    → Stays (config_of m) (known_to m) (known_to n.caller) → Tells (outside m) (HasBegun m n.caller) m n.caller (Ok r) → Opens m n t
stays-out m n r e t free ends after is last stays h =
    let told : HasBegun m n.caller r = h.2 in
    inr (
      (record { same = h.1; made = stays.made; grows = stays.grows; holds = (told.1, stays.installs) }, inr (free, stays.idle)),
      (e, inl (r, h, is), after, free ∙ sym ends, last),
    )

pub closed-out : (m : CheckedCaller) (n : LoopingCaller) (gate : ℕ) (t : Turn) → n.stage ≡ Free → IsPause t → Tells (outside m) (HasBegun m n.caller) m n.caller (Ok (begins.Closed gate)) → Opens m n t
closed-out m n gate t free pause h =
    let told : HasBegun m n.caller (begins.Closed gate) = h.2 in
    stays-out m n (begins.Closed gate) (refusals.GateClosed gate) t free refl pause refl told.2 told.0.0 h

pub held-out : (m : CheckedCaller) (n : LoopingCaller) (word : ℕ) (t : Turn) → n.stage ≡ Free → IsPause t → Tells (outside m) (HasBegun m n.caller) m n.caller (Ok (begins.Held word)) → Opens m n t
held-out m n word t free pause h =
    let told : HasBegun m n.caller (begins.Held word) = h.2 in
    stays-out m n (begins.Held word) (refusals.Held word) t free refl pause refl told.2 told.0.0 h

pub clock-out : (m k : CheckedCaller) (n : LoopingCaller) (clock : ℕ) → n.stage ≡ Free → n.caller ≡ k → Tells (outside m) (HasBegun m k) m k (Ok (begins.ClockFull clock)) → Opens m n turns.ClockFull
clock-out m k n clock free same h =
    let there = subst (λ (c : CheckedCaller). Tells (outside m) (HasBegun m c) m c (Ok (begins.ClockFull clock))) (sym same) h in
    let told : HasBegun m n.caller (begins.ClockFull clock) = there.2 in
    stays-out m n (begins.ClockFull clock) (refusals.ClockFull clock) turns.ClockFull free refl refl refl told.2 told.0.0 there

-- ONE ASKED to be irrevocable: by each answer
waited-nothing : (m k : CheckedCaller) (r : Irrev) → Waits Any (config_of m) (number_of m) (known_to m) (known_to k) → Tells (running m) (IsIrrevocable m k) m k (Ok r) → MadeNothing m k
waited-nothing m k r waits h =
    let told : IsIrrevocable m k r = h.2 in
    record { same = h.1; made = waits.continues.made; grows = waits.continues.grows; holds = (told.1, waits.continues.installs) }

pub asked-busy : (m : CheckedCaller) (n : LoopingCaller) (caller status : ℕ) (t : Turn) → n.stage ≡ Asking → IsPause t → Tells (running m) (IsIrrevocable m n.caller) m n.caller (Ok (grants.Busy caller status)) → AskSays m n t
asked-busy m n caller status t asks pause h =
    let told : IsIrrevocable m n.caller (grants.Busy caller status) = h.2 in
    inr (
      (waited-nothing m n.caller (grants.Busy caller status) told.0.0 h, inl asks),
      (refusals.Busy caller status, (n.caller, (grants.Busy caller status, h, refl), grows-refl (known_to n.caller)), pause, asks, told.2),
    )

pub asked-taken : (m k : CheckedCaller) (n : LoopingCaller) (gate : ℕ) (t : Turn) → n.stage ≡ Free → IsIdle (known_to n.caller) → IsPause t → MadeNothing k n.caller → n.caller.refusal ≡ k.refusal
    → Tells (running m) (IsIrrevocable m k) m k (Ok (grants.Taken gate)) → AskSays m n t
asked-taken m k n gate t free idle pause nothing last h =
    let told : IsIrrevocable m k (grants.Taken gate) = h.2 in
    inr (
      (nothing-trans m k n.caller (waited-nothing m k (grants.Taken gate) told.0.0 h) nothing, inr (free, idle)),
      (refusals.GateClosed gate, (k, (grants.Taken gate, h, refl), nothing.grows), pause, free, last ∙ told.2),
    )

turned-down : (m : CheckedCaller) (n : LoopingCaller) (r : Irrev) (e : Refusal) (t : Turn) → n.stage ≡ Free → stage_after e ≡ Free → IsAfter e t → grant_refusal r None ≡ Some e → n.caller.refusal ≡ Some e
    → Quits (known_to m) (known_to n.caller) → Tells (running m) (IsIrrevocable m n.caller) m n.caller (Ok r) → AskSays m n t
turned-down m n r e t free ends after is last quits h =
    let told : IsIrrevocable m n.caller r = h.2 in
    inr (
      (record { same = h.1; made = quits.made; grows = quits.ends.grows; holds = (told.1, quits.ends.installs) }, inr (free, quits.ends.idle)),
      (e, (n.caller, (r, h, is), grows-refl (known_to n.caller)), after, free ∙ sym ends, last),
    )

-- what comes after the last refusal comes after it by its name
pub after-last : (o : Option Refusal) (e : Refusal) (t : Turn) → o ≡ Some e → IsAfterRefusal o t → IsAfter e t
after-last o e t is h = subst (λ (p : Option Refusal). IsAfterRefusal p t) is h

pub asked-conflict : (m k : CheckedCaller) (n : LoopingCaller) (cause : Cause) (t : Turn) → n.stage ≡ Free → n.caller ≡ k → IsAfterRefusal k.refusal t → Tells (running m) (IsIrrevocable m k) m k (Ok (grants.Conflict cause)) → AskSays m n t
asked-conflict m k n cause t free same after h =
    let there = subst (λ (c : CheckedCaller). Tells (running m) (IsIrrevocable m c) m c (Ok (grants.Conflict cause))) (sym same) h in
    let told : IsIrrevocable m n.caller (grants.Conflict cause) = there.2 in
    let last : k.refusal ≡ Some (refusals.Conflict cause) = sym (ap (λ (c : CheckedCaller). c.refusal) same) ∙ told.2 in
    turned-down m n (grants.Conflict cause) (refusals.Conflict cause) t free refl (after-last k.refusal (refusals.Conflict cause) t last after) refl told.2 told.0.0 there

pub asked-full : (m k : CheckedCaller) (n : LoopingCaller) (clock : ℕ) (t : Turn) → n.stage ≡ Free → n.caller ≡ k → IsAfterRefusal k.refusal t → Tells (running m) (IsIrrevocable m k) m k (Ok (grants.ClockFull clock)) → AskSays m n t
asked-full m k n clock t free same after h =
    let there = subst (λ (c : CheckedCaller). Tells (running m) (IsIrrevocable m c) m c (Ok (grants.ClockFull clock))) (sym same) h in
    let told : IsIrrevocable m n.caller (grants.ClockFull clock) = there.2 in
    let last : k.refusal ≡ Some (refusals.ClockFull clock) = sym (ap (λ (c : CheckedCaller). c.refusal) same) ∙ told.2 in
    turned-down m n (grants.ClockFull clock) (refusals.ClockFull clock) t free refl (after-last k.refusal (refusals.ClockFull clock) t last after) refl told.2 told.0.0 there

-- one that begins, and asks at once
pub asked-at-once : (m k : CheckedCaller) (n : LoopingCaller) (alg : Alg) (t : Turn) → Tells (outside m) (HasBegun m k) m k (Ok (begins.Begun alg)) → AskSays k n t → Opens m n t
asked-at-once m k n alg t h (inl a) =
    let b = begun-nothing m k alg h in
    let fresh = b.1 in
    let later = a.3 in
    inl (a.0, nothing-trans m k n.caller b.0 a.1, a.2, omega (arith, fresh, later))
asked-at-once m k n alg t h (inr a) =
    let b = begun-nothing m k alg h in
    inr ((nothing-trans m k n.caller b.0 a.0.0, a.0.1), (a.1.0, inr (k, (alg, h), a.1.1), a.1.2, a.1.3, a.1.4))
