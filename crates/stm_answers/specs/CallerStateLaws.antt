-- Laws of what a caller knows.
use Rattle.std.proofs.Common.{ℕ, ◌≡◌, ◌≤◌, ◌+◌, List, [], ◌∷◌, ◌++◌, refl, sym, ap, ◌∙◌, arith, append_assoc, le_refl, Bool, true, false, inl, inr}
use Rattle.std.specs.Prelude.{Some, not, ◌==◌, if◌then◌else◌}
use Rattle.std.proofs.lemmas.Bool.Decides.{nat_tests}
use Rattle.std.proofs.lemmas.List.{append-nil}
use Rattle.stm_model.specs.Algorithms.{irrevocable_under}
use Rattle.stm_model.specs.AlgorithmLaws.{quit-low, irrevocable-writer}
use Rattle.stm_model.specs.declared.config.Config.{Config}
use Rattle.stm_model.specs.Histories.{Entry, Ascending}
use Rattle.stm_model.specs.HistoryLaws.{Within}
use Rattle.stm_model.specs.Logs.{Log, Writes}
use Rattle.stm_model.specs.Memories.{is_empty, item_at, put}
use Rattle.stm_model.specs.PlainLaws.{put-item}
use Rattle.rule_base.specs.declared.views.Phase.{Phase}
use Rattle.rule_base.specs.declared.views.Phase.TheVariants.{Idle, Announced, Turned, Aiming, In, Closing}
use Rattle.rule_base.specs.declared.views.TracedStep.{TracedStep}
use Rattle.stm_answers.specs.Answers.{GoesOn, KeepsLock, Quits}
use Rattle.stm_answers.specs.Causes.{Asked}
use Rattle.stm_answers.specs.CallerState.{CallerState, Grows, owed, is_in, is_closing, is_irrevocable, wrote, has_written, IsUnrolled}

-- an attempt that goes on was there before, toward the others as it was
pub record IsStillIn (v w : CallerState) : Type 0 where
  pub running : v.running ≡ true
  pub start : v.start ≤ w.start
  pub granted : w.granted ≡ v.granted
  pub holds : w.holds ≡ v.holds
  pub depth : w.depth ≡ v.depth
  pub marks : w.marks ≡ v.marks
  pub unrolled : IsUnrolled v → IsUnrolled w
  pub fence : w.fence ≡ v.fence

-- what stays of a caller through an attempt, however it ends but by a commit
pub record Carries (v w : CallerState) : Type 0 where
  pub made : w.made ≡ v.made
  pub grows : Grows v w
  pub closing : w.closing ≡ v.closing
  pub alg : w.alg ≡ v.alg
  pub installs : w.installs ≡ v.installs
  pub base : w.base ≡ v.base
  pub owes : owed w ≤ owed v
  pub going : w.running ≡ true → IsStillIn v w
  -- an irrevocable attempt goes on, and stays so
  pub irrevocable : v.running ≡ true → is_irrevocable v ≡ true → (w.running ≡ true) × (is_irrevocable w ≡ true)

pub grows-same : (v w : CallerState) → w.seen ≡ v.seen → w.front ≡ v.front → (more : List TracedStep) → w.step_trace ≡ more ++ v.step_trace
    → w.reads_limit ≡ v.reads_limit → w.writes_limit ≡ v.writes_limit → w.marks_limit ≡ v.marks_limit → w.fenced ≡ v.fenced → Grows v w
grows-same v w s f more t r l m e = record { later = []; is = s ∙ sym (append-nil v.seen); ascending = tt; up_to = tt; front_rose = omega arith; more = more; step_trace = t; reads_limit = r; writes_limit = l; marks_limit = m; fenced = e }

pub ascending-append : (a b : ℕ) (xs ys : List Entry) → Ascending a xs → Within b xs → a ≤ b → Ascending b ys → Ascending a (xs ++ ys)
ascending-append a b [] [] h u le k = tt
ascending-append a b [] (y ∷ ys) h u le k = (let z = k.0 in omega arith, k.1)
ascending-append a b (x ∷ xs) ys h u le k = (h.0, ascending-append x.time b xs ys h.1 u.1 u.0 k)

pub within-append : (b c : ℕ) (xs ys : List Entry) → Within b xs → b ≤ c → Within c ys → Within c (xs ++ ys)
within-append b c [] ys u le k = k
within-append b c (x ∷ xs) ys u le k = (let z = u.0 in omega arith, within-append b c xs ys u.1 le k)

pub grows-trans : (u v w : CallerState) → Grows u v → Grows v w → Grows u w
grows-trans u v w a b =
    let fg = a.front_rose in let gh = b.front_rose in
    record {
      later = a.later ++ b.later;
      is = b.is ∙ (ap (λ s. s ++ b.later) a.is ∙ append_assoc u.seen a.later b.later);
      ascending = ascending-append u.front v.front a.later b.later a.ascending a.up_to a.front_rose b.ascending;
      up_to = within-append v.front w.front a.later b.later a.up_to b.front_rose b.up_to;
      front_rose = omega arith;
      more = b.more ++ a.more;
      step_trace = b.step_trace ∙ (ap (λ t. b.more ++ t) a.step_trace ∙ sym (append_assoc b.more a.more u.step_trace));
      reads_limit = b.reads_limit ∙ a.reads_limit;
      writes_limit = b.writes_limit ∙ a.writes_limit;
      marks_limit = b.marks_limit ∙ a.marks_limit;
      fenced = b.fenced ∙ a.fenced;
    }

pub carries-refl : (v : CallerState) → Carries v v
carries-refl v =
    record {
      made = refl;
      grows = grows-same v v refl refl [] refl refl refl refl refl;
      closing = refl;
      alg = refl;
      installs = refl;
      base = refl;
      owes = omega arith;
      going = λ r.
          record
          { running = r; start = le_refl v.start; granted = refl; holds = refl; depth = refl; marks = refl; unrolled = λ u. u; fence = refl };
      irrevocable = λ r i. (r, i);
    }

pub carries-trans : (u v w : CallerState) → Carries u v → Carries v w → Carries u w
carries-trans u v w a b = record {
  made = b.made ∙ a.made;
  grows = grows-trans u v w a.grows b.grows;
  closing = b.closing ∙ a.closing;
  alg = b.alg ∙ a.alg;
  installs = b.installs ∙ a.installs;
  base = b.base ∙ a.base;
  owes = (let x = a.owes in let y = b.owes in omega arith);
  going =
      λ r.
      let y = b.going r in
      let x = a.going y.running in
      record {
        running = x.running;
        start = (let m = x.start in let n = y.start in omega arith);
        granted = y.granted ∙ x.granted;
        holds = y.holds ∙ x.holds;
        depth = y.depth ∙ x.depth;
        marks = y.marks ∙ x.marks;
        unrolled = λ u. y.unrolled (x.unrolled u);
        fence = y.fence ∙ x.fence;
      };
  irrevocable = λ r i. let m = a.irrevocable r i in b.irrevocable m.0 m.1;
}

pub lock-trans : (u v w : CallerState) → v.alg ≡ u.alg → KeepsLock u v → KeepsLock v w → KeepsLock u w
lock-trans u v w alg (inl a) (inl b) = inl (b ∙ a)
lock-trans u v w alg (inr a) (inl b) = inr (a.0, b ∙ a.1)
lock-trans u v w alg a (inr b) = inr (sym alg ∙ b.0, b.1)

some-item : (a x : ℕ) (ws : List (ℕ × ℕ)) → item_at a ws ≡ Some x → not (is_empty ws) ≡ true
some-item a x [] h = absurd cc
some-item a x (w ∷ ws) h = refl

pub writes-some : (l k : Log) (a x : ℕ) → Writes l a x k → not (is_empty k.writes) ≡ true
writes-some l k a x w =
    let here : (a == a) ≡ true = grind (arith, nat_tests) in
    let put_there : item_at a (put a x l.writes) ≡ Some x = put-item a x a l.writes ∙ ap (λ t. if t then Some x else item_at a l.writes) here in
    some-item a x k.writes (w.1 a ∙ put_there)

irrevocable-along : (v w : CallerState) (some : Bool) → w.alg ≡ v.alg → w.granted ≡ v.granted → wrote w ≡ some → irrevocable_under v.alg v.granted some ≡ true → is_irrevocable w ≡ true
irrevocable-along v w some alg granted is h = (λ i. irrevocable_under (alg i) (granted i) (is i)) ∙ h

carries-goes : {c : Config} {asked : Asked} → (v w : CallerState) → v.running ≡ true → v.closing ≡ false → GoesOn c asked v w
    → (IsUnrolled v → IsUnrolled w) → (is_irrevocable v ≡ true → is_irrevocable w ≡ true) → Carries v w
carries-goes v w running closing g unrolled irrevocable = let k = g.continues in record {
  made = k.made;
  grows = k.grows;
  closing = k.closing ∙ sym closing;
  alg = k.alg;
  installs = k.installs;
  base = k.base;
  owes = owed-goes v w k.running running k.base;
  going = λ r. record { running = running; start = k.later; granted = g.granted; holds = g.holds; depth = k.depth; marks = g.marks; unrolled = unrolled; fence = k.fence };
  irrevocable = λ r i. (k.running, irrevocable i);
}
  where
    owed-goes : (v w : CallerState) → w.running ≡ true → v.running ≡ true → w.base ≡ v.base → owed w ≤ owed v
    owed-goes v w now before b = grind (arith, now, before, b)

pub carries-wrote : {c : Config} {asked : Asked} → (v w : CallerState) (a x : ℕ) → v.running ≡ true → v.closing ≡ false → GoesOn c asked v w → Writes v.log a x w.log → Carries v w
carries-wrote v w a x running closing g writes =
    carries-goes v w running closing g
    (λ u none. absurd (let some = writes-some v.log w.log a x writes in let no : true ≡ false = sym some ∙ none in cc)) (λ h.
    irrevocable-along v w true g.continues.alg g.granted (writes-some v.log w.log a x writes)
    (irrevocable-writer v.alg v.granted (wrote v) h))

pub carries-quits : (v w : CallerState) → v.running ≡ true → v.closing ≡ false → Quits v w → Carries v w
carries-quits v w running closing q = record {
  made = q.made;
  grows = q.ends.grows;
  closing = q.ends.idle.2 ∙ sym closing;
  alg = q.ends.alg;
  installs = q.ends.installs;
  base = q.ends.base;
  owes = owed-quits v w q.ends.idle.1 running (let r = q.rises.1 in let l = quit-low v.alg (has_written v) in omega arith);
  going = λ r. absurd (elim-no w.running r q.ends.idle.1);
  irrevocable = λ r i. absurd (elim-no (is_irrevocable v) i q.revocable);
}
  where
    owed-quits : (v w : CallerState) → w.running ≡ false → v.running ≡ true → w.rises ≤ v.base + 2 → owed w ≤ owed v
    owed-quits v w out in_it b = grind (arith, out, in_it, b)

    elim-no : (b : Bool) → b ≡ true → b ≡ false → ⊥
    elim-no true p q = cc
    elim-no false p q = cc

-- who is in an attempt isn't closing the gate
pub in-attempt : (p : Phase) → is_in p ≡ true → is_closing p ≡ false
in-attempt Idle h = refl
in-attempt Announced h = refl
in-attempt Turned h = refl
in-attempt Aiming h = refl
in-attempt In h = refl
in-attempt Closing h = absurd cc
