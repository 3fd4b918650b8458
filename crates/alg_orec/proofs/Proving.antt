-- What a call found, as seen after more steps and from before.
use Rattle.std.proofs.Common.{ℕ, ◌≡◌, ◌≤◌, ◌+◌, List, [], ◌∷◌, ◌++◌, Bool, true, false, refl, sym, ap, ◌∙◌, arith, subst, append_assoc, length, inl, inr}
use Rattle.std.specs.Prelude.{not, ◌||◌}
use Rattle.stm_model.specs.Algorithms.{entry_rise, has_records, quit_rise, irrevocable_under}
use Rattle.stm_model.specs.declared.alg.Alg.{Alg}
use Rattle.stm_model.specs.declared.alg.Alg.TheVariants.{OrecLazy}
use Rattle.stm_model.specs.declared.config.Config.{Config}
use Rattle.stm_model.specs.declared.stop.Cause.TheVariants as causes
use Rattle.stm_model.specs.Logs.{Log}
use Rattle.stm_model.specs.Memories.{is_empty}
use Rattle.rule_base.specs.declared.layout.At.{At}
use Rattle.rule_base.specs.declared.views.TracedStep.{TracedStep}
use Rattle.rule_base.specs.declared.views.View.{View}
use Rattle.rule_base.specs.Own.{Own}
use Rattle.stm_answers.specs.Answers.{Quits, Ends, CommitsAt, entry}
use Rattle.stm_answers.specs.Causes.{Asked, Conflicts, FindsFull, FindsNewer, IsInTheWay, OwesValidation}
use Rattle.stm_answers.specs.Causes.Asked.{ForWord, ToCommit, ToPromote}
use Rattle.stm_answers.specs.Evidence.{FoundAsWas, FoundMoved}
use Rattle.stm_answers.specs.CallerState.{CallerState, Grows, known_of, granted_under, is_none, wrote, has_written}
use Rattle.stm_answers.specs.CallerStateLaws.{grows-trans}
use Rattle.stm_rule.specs.declared.local.Local.{Local}
use Rattle.stm_rule.specs.Attempts.{Keeps, IsInside, own_of}
use Rattle.stm_rule.specs.RecordsKept.{IsLazy}
use Rattle.stm_gate.specs.LeavingLaws.{IsUnmade, quits-left, step_trace-left, found-earlier, found-later}
use Rattle.alg_orec.specs.Ending.{GivesUp}

-- more steps were taken
pub as-was-later : (p : At) (x : ℕ) (v u w : CallerState) (more : List TracedStep) → w.step_trace ≡ more ++ u.step_trace → FoundAsWas p x v u → FoundAsWas p x v w
as-was-later p x v u w more t f =
    record {
      early = f.early;
      act = f.act;
      late = more ++ f.late;
      step_trace = t ∙ (ap (λ (s : List TracedStep). more ++ s) f.step_trace ∙ sym (append_assoc more f.late _));
      untouched = f.untouched;
    }

pub moved-later : (p : At) (x y : ℕ) (v u w : CallerState) (more : List TracedStep) → w.step_trace ≡ more ++ u.step_trace → FoundMoved p x y v u → FoundMoved p x y v w
moved-later p x y v u w more t f =
    record {
      apart = f.apart;
      early = f.early;
      middle = f.middle;
      act = f.act;
      late = more ++ f.late;
      step_trace = t ∙ (ap (λ (s : List TracedStep). more ++ s) f.step_trace ∙ sym (append_assoc more f.late _));
      untouched = f.untouched;
      refused = f.refused;
    }

-- what owed a validation
newer-later : (c : Config) (a : ℕ) (v u w : CallerState) (more : List TracedStep) → w.step_trace ≡ more ++ u.step_trace → FindsNewer c a v u → FindsNewer c a v w
newer-later c a v u w more t k = (k.0, found-later _ k.0 v u w k.1 more t, k.2, k.3)

pub owes-later : (c : Config) (asked : Asked) (v u w : CallerState) (more : List TracedStep) → w.step_trace ≡ more ++ u.step_trace → OwesValidation c asked v u → OwesValidation c asked v w
owes-later c (ForWord a) v u w more t k = newer-later c a v u w more t k
owes-later c ToCommit v u w more t (inl k) = inl k
owes-later c ToCommit v u w more t (inr k) = inr (k.0, k.1, newer-later c k.0 v u w more t k.2)
owes-later c ToPromote v u w more t k = tt

module _ (c : Config) (n : ℕ) (asked : Asked) where
  pub conflicts-by-records : (cause : causes.the_data) (v u w : CallerState) → has_records v.alg ≡ true → (more : List TracedStep)
      → w.step_trace ≡ more ++ u.step_trace → Conflicts c n asked cause v u → Conflicts c n asked cause v w
  conflicts-by-records (causes.Clock had now) v u w has more t k = absurd (let e : true ≡ false = sym has ∙ ap has_records k.0 in cc)
  conflicts-by-records (causes.Record index word start) v u w has more t k = (k.0, k.1, as-was-later _ word v u w more t k.2, way k.3)
    where
      way : IsInTheWay c n asked index word v u → IsInTheWay c n asked index word v w
      way (inl x) = inl x
      way (inr x) = inr (owes-later c asked v u w more t x.0, x.1, x.2)
  conflicts-by-records (causes.Moved index before after) v u w has more t k = (k.0, k.1, moved-later _ before after v u w more t k.2)
  conflicts-by-records (causes.Filter time bits) v u w has more t k = absurd (let e : true ≡ false = sym has ∙ ap has_records k.0 in cc)
  conflicts-by-records (causes.Overrun start clock) v u w has more t k = absurd (let e : true ≡ false = sym has ∙ ap has_records k.0 in cc)

  pub conflicts-later : (cause : causes.the_data) (v u w : CallerState) → v.alg ≡ OrecLazy → (more : List TracedStep) → w.step_trace ≡ more ++ u.step_trace → Conflicts c n asked cause v u → Conflicts c n asked cause v w
  conflicts-later cause v u w lazy = conflicts-by-records cause v u w (ap has_records lazy)

-- from v to w the attempt went on, without an entry, to a start that is not before
pub record Leads (v w : CallerState) : Type 0 where
  pub made : w.made ≡ v.made
  pub grows : Grows v w
  pub alg : w.alg ≡ v.alg
  pub base : w.base ≡ v.base
  pub installs : w.installs ≡ v.installs
  pub start : v.start ≤ w.start
  pub log : w.log ≡ v.log
  pub granted : w.granted ≡ v.granted
  pub kept : w.kept ≡ v.kept

wrote-leads : (v w : CallerState) → Leads v w → wrote w ≡ wrote v
wrote-leads v w a = ap (λ (l : Log). not (is_empty l.writes)) a.log

ends-leads : (u v w : CallerState) → Leads u v → Ends v w → Ends u w
ends-leads u v w a b = record { idle = b.idle; grows = grows-trans u v w a.grows b.grows; alg = b.alg ∙ a.alg; base = b.base ∙ a.base; installs = b.installs ∙ a.installs }

pub quits-leads : (u v w : CallerState) → Leads u v → Quits v w → Quits u w
quits-leads u v w a b = record {
  ends = ends-leads u v w a b.ends;
  made = b.made ∙ a.made;
  rises = (
    let e = a.base in
        let r = b.rises.0 in
        omega arith,
    let e = a.base in
        let r = b.rises.1 in
        let q : quit_rise v.alg (has_written v) ≡ quit_rise u.alg (has_written u) =
        (λ j. quit_rise (a.alg j) (wrote-leads u v a j || not (is_none (a.kept j)))) in
        omega arith,
  );
  revocable = sym (λ j. irrevocable_under (a.alg j) (a.granted j) (wrote-leads u v a j)) ∙ b.revocable;
}

pub full-leads : (u v w : CallerState) (clock : ℕ) → Leads u v → FindsFull clock v w → FindsFull clock u w
full-leads u v w clock a f = record { limit = f.limit; found = found-earlier _ clock u v w f.found a.grows.more a.grows.step_trace; top = f.top }

module _ (good : List ℕ → Type 0) (c : Config) (n t : ℕ) where
  pub commits-leads : (u v w : CallerState) → Leads u v → CommitsAt good c n t v w → CommitsAt good c n t u w
  commits-leads u v w a b = record {
    ends = ends-leads u v w a b.ends;
    rises = b.rises ∙ (λ j. a.base j + entry_rise (a.alg j));
    wrote = sym (wrote-leads u v a) ∙ b.wrote;
    made = b.made ∙ (λ j. a.made j ++ entry t n (length (a.made j)) (a.log j) ∷ []);
    before = b.before;
    seen = b.seen ∙ (λ j. b.before ++ entry t n (length (a.made j)) (a.log j) ∷ []);
    legal = b.legal;
    later = (let s = a.start in let l = b.later in omega arith);
    above = (let f = a.grows.front_rose in let l = b.above in omega arith);
    front = b.front;
  }

-- an answer that ends the attempt doesn't depend on what its descriptor keeps
pub ends-own : (v w : View) (o p : Own) → p.reads_limit ≡ o.reads_limit → p.writes_limit ≡ o.writes_limit → p.marks_limit ≡ o.marks_limit → Ends (known_of v o) (known_of w o) → Ends (known_of v o) (known_of w p)
ends-own v w o p r k m e = let g = e.grows in record {
  idle = e.idle;
  grows = record { later = g.later; is = g.is; ascending = g.ascending; up_to = g.up_to; front_rose = g.front_rose; more = g.more; step_trace = g.step_trace; reads_limit = r; writes_limit = k; marks_limit = m; fenced = g.fenced };
  alg = e.alg;
  base = e.base;
  installs = e.installs;
}

pub quits-own : (v w : View) (o p : Own) → p.reads_limit ≡ o.reads_limit → p.writes_limit ≡ o.writes_limit → p.marks_limit ≡ o.marks_limit → Quits (known_of v o) (known_of w o) → Quits (known_of v o) (known_of w p)
quits-own v w o p r k m q = record { ends = ends-own v w o p r k m q.ends; made = q.made; rises = q.rises; revocable = q.revocable }

-- an attempt of OrecLazy that was not promoted
pub lazy-of : (good : List ℕ → Type 0) (c : Config) (n : ℕ) (l : Local) (v : View) → IsInside good c n l v → l.algorithm ≡ OrecLazy → l.granted ≡ false → IsLazy c l v
lazy-of good c n l v i lazy plain = subst (λ (b : Bool). Keeps c OrecLazy b l v) plain (subst (λ (a : Alg). Keeps c a l.granted l v) lazy i.keeps)

-- steps without an entry, one after the other
pub unmade-trans : (u v w : View) → IsUnmade u v → IsUnmade v w → IsUnmade u w
unmade-trans u v w a b = record {
  carried = record {
    named = b.carried.named ∙ a.carried.named;
    base = b.carried.base ∙ a.carried.base;
    installs = b.carried.installs ∙ a.carried.installs;
    fence = b.carried.fence ∙ a.carried.fence;
    step_trace = (
      b.carried.step_trace.0 ++ a.carried.step_trace.0,
      b.carried.step_trace.1
          ∙ (ap (λ (t : List TracedStep). b.carried.step_trace.0 ++ t) a.carried.step_trace.1
          ∙ sym (append_assoc b.carried.step_trace.0 a.carried.step_trace.0 u.steps.step_trace)),
    );
    unlocked = b.carried.unlocked;
    unwritten = b.carried.unwritten;
  };
  history = b.history ∙ a.history;
}

abbrev pub with_commit : Bool → Own → Own
with_commit b o = record o { committing = b }

-- an attempt of OrecLazy that was taken back
pub quits-back : (n : ℕ) (v u z : View) (o : Own) → v.gate.algorithm ≡ OrecLazy → v.gate.granted ≡ false
    → v.steps.rises ≡ v.steps.rises_at_begin → IsUnmade v u → u.steps.rises ≡ v.steps.rises → GivesUp n u z
    → Quits (known_of v o) (known_of z (with_commit false o))
quits-back n v u z o lazy plain level m rises g = quits-own v z o (with_commit false o) refl refl refl (subst (λ (y : View). Quits (known_of v o) (known_of y o)) (sym g.is)
    (quits-left n v g.before o (unmade-trans v u g.before m g.unmade) (let a = g.rises in (omega arith, omega arith))
    ((λ j. irrevocable_under (lazy j) (granted_under (lazy j) v.gate v.lock) (wrote (known_of v o))) ∙ plain)))

-- more steps were taken until it ended
pub ended-by : (n : ℕ) (u z : View) → GivesUp n u z → (more : List TracedStep) × (z.steps.step_trace ≡ more ++ u.steps.step_trace)
ended-by n u z g = let t = step_trace-left n u g.before g.unmade.carried in (t.0, ap (λ (y : View). y.steps.step_trace) g.is ∙ t.1)

-- where the start, or what is held, changed alone, what contracts see is the same but for whether it commits
pub own-ready : (l m : Local) → m ≡ record l { start = m.start; locks = m.locks } → (P : Own → Type 0) → P (with_commit false (own_of l)) → P (own_of (record m { committing = false }))
own-ready l m is P p = subst (λ (q : Local). P (own_of (record q { committing = false }))) (sym is) p

pub own-stopped : (l m : Local) → m ≡ record l { locks = m.locks } → (P : Own → Type 0) → P (with_commit false (own_of l)) → P (own_of (record m { committing = false }))
own-stopped l m is P p = subst (λ (q : Local). P (own_of (record q { committing = false }))) (sym is) p
