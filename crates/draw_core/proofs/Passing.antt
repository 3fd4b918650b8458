-- A trace that fits a workload may come line by line.
use Rattle.std.proofs.Common.{ℕ, ◌≡◌, ◌<◌, ◌≤◌, ◌+◌, List, [], ◌∷◌, ◌++◌, length, length-set, Bool, true, false, inl, inr, refl, sym, ap, subst, ◌∙◌, arith, append_assoc, append-nil}
use Rattle.std.specs.Prelude.{◌≢◌, ◌==◌, leb, Option, Some, None, Result, Ok, slice_set}
use Rattle.std.proofs.lemmas.Bool.Decides.{nat_tests}
use Rattle.std.proofs.lemmas.List.{get_or-set_same, get_or-set_other}
use Rattle.stm_model.specs.declared.alg.Alg.{Alg}
use Rattle.stm_model.specs.declared.stop.Stop.TheVariants.{Conflict as Stopping, Full, ClockFull as Filled}
use Rattle.work_check.specs.Grammar.{◌>>=◌}
use Rattle.stm_answers.specs.declared.answers.Begin.TheVariants.{Begun, Closed, Held, ClockFull}
use Rattle.stm_answers.specs.declared.answers.Cancel.TheVariants.{Cancelled, Irrevocable}
use Rattle.stm_answers.specs.declared.answers.CloseGate.TheVariants.{Closed, Taken}
use Rattle.stm_answers.specs.declared.answers.Commit.TheVariants.{Committed, ReadOnly, Conflict, Again, ClockFull}
use Rattle.stm_answers.specs.declared.answers.Irrev.TheVariants as irrevs
use Rattle.stm_answers.specs.declared.answers.Look.TheVariants as looks
use Rattle.work_script.specs.declared.workload.Header.{Header}
use Rattle.work_trace.specs.declared.line.Line.{Line}
use Rattle.work_trace.specs.declared.line.Line.TheVariants.{Of, Finish}
use Rattle.work_trace.specs.declared.said.Phase.{Phase}
use Rattle.work_trace.specs.declared.said.Phase.TheVariants.{Between, Inside, Closing, Quiet}
use Rattle.work_trace.specs.declared.said.Said.{Said}
use Rattle.work_trace.specs.declared.said.Said.TheVariants.{TryBegin, Reply, Stopped, TryCancel, TryIrrevocable, TryCommit, TryClose, Looked, Installed, Reserved, Idle, Dropped, Reopened}
use Rattle.work_trace.specs.Fits.{Path, place_of, says}
use Rattle.work_trace.specs.Places.{CallerProgress, after, granted_at, is_forced, switched}
use Rattle.work_trace.specs.Turns.{MaySay, MayWind, MayFinish}
use Rattle.draw_pictures.specs.declared.step.Step.{Step}
use Rattle.draw_core.specs.Phases.{may_come, passed, passed_all, phase_after, phase_at}
use Rattle.draw_pictures.specs.Steps.{bare, bare_of}
use Rattle.draw_core.specs.Walks.{go_on, walked, with_phases, Along}

-- alone, lines that may come are walked to the end

abbrev alone : List Phase → Along
alone phases = record { stands = []; phases = phases }

walk-by : (o : Option (List Phase)) (line : Line) (lines : List Line) (told : List Step) (k : ℕ) (last : List Phase) → ((phases : List Phase) → passed_all phases lines ≡ Some last
    → walked None (told ++ bare line ∷ []) (k + 1) (alone phases) lines ≡ Ok ((told ++ bare line ∷ []) ++ bare_of lines)) → (o >>= λ next. passed_all next lines) ≡ Some last
    → go_on (with_phases (Some (bare line, [])) o) k (λ w. walked None (told ++ w.0 ∷ []) (k + 1) w.1 lines) ≡ Ok (told ++ bare line ∷ bare_of lines)
walk-by None line lines told k last rest e = absurd cc
walk-by (Some phases) line lines told k last rest e = rest phases e ∙ ap (λ (x : List Step). (let r : Result (List Step) ℕ = Ok x in r)) (append_assoc told (bare line ∷ []) (bare_of lines))

pub walks-alone : (lines : List Line) (told : List Step) (k : ℕ) (phases last : List Phase) → passed_all phases lines ≡ Some last → walked None told k (alone phases) lines ≡ Ok (told ++ bare_of lines)
walks-alone [] told k phases last e = ap (λ (x : List Step). (let r : Result (List Step) ℕ = Ok x in r)) (sym (append-nil told))
walks-alone (line ∷ lines) told k phases last e =
    walk-by (passed phases line) line lines told k last (λ next is. walks-alone lines (told ++ bare line ∷ []) (k + 1) next last is) e

-- what may be said may come at the phase of its caller

at-phase : (at : CallerProgress) (said : Said) (p : Phase) → at.phase ≡ p → may_come p said ≡ true → may_come at.phase said ≡ true
at-phase at said p e come = ap (λ (q : Phase). may_come q said) e ∙ come

pub say-comes : (at : CallerProgress) (said : Said) → MaySay at said → may_come at.phase said ≡ true
say-comes at (TryBegin b) m = at-phase at (TryBegin b) Between m.0 refl
say-comes at (Reply op reply) m = at-phase at (Reply op reply) Inside m.0.0 refl
say-comes at (Stopped op stop) m = at-phase at (Stopped op stop) Inside m.0.0 refl
say-comes at (TryCancel c) m = at-phase at (TryCancel c) Inside m.0 refl
say-comes at (TryIrrevocable r) (inl m) = at-phase at (TryIrrevocable r) Inside m.0 refl
say-comes at (TryIrrevocable r) (inr m) = at-phase at (TryIrrevocable r) Inside m.0 refl
say-comes at (TryCommit c) m = at-phase at (TryCommit c) Inside m.0 refl
say-comes at (TryClose c) m = at-phase at (TryClose c) Between m.0 refl
say-comes at (Looked l) m = at-phase at (Looked l) Closing m refl
say-comes at (Installed alg) m = at-phase at (Installed alg) Quiet m.0 refl
say-comes at (Reserved reads writes) m = at-phase at (Reserved reads writes) Between m.0 refl
say-comes at Idle m = at-phase at Idle Between m.0 refl
say-comes at Dropped m = absurd m
say-comes at Reopened m = absurd m

pub wind-comes : (at : CallerProgress) (said : Said) → MayWind at said → may_come at.phase said ≡ true
wind-comes at (TryBegin b) m = say-comes at (TryBegin b) m.2
wind-comes at (Reply op reply) m = say-comes at (Reply op reply) m.2
wind-comes at (Stopped op stop) m = say-comes at (Stopped op stop) m.2
wind-comes at (TryCancel c) m = say-comes at (TryCancel c) m.2
wind-comes at (TryIrrevocable r) m = say-comes at (TryIrrevocable r) m.2
wind-comes at (TryCommit c) m = say-comes at (TryCommit c) m.2
wind-comes at (TryClose c) m = say-comes at (TryClose c) m.2
wind-comes at (Looked l) m = say-comes at (Looked l) m.2
wind-comes at (Installed alg) m = say-comes at (Installed alg) m.2
wind-comes at (Reserved reads writes) m = say-comes at (Reserved reads writes) m.2
wind-comes at Idle m = say-comes at Idle m.2
wind-comes at Dropped m = at-phase at Dropped Inside m.0 refl
wind-comes at Reopened (inl m) = at-phase at Reopened Closing m refl
wind-comes at Reopened (inr m) = at-phase at Reopened Quiet m refl

pub finish-comes : (at : CallerProgress) (said : Said) → MayFinish at said → may_come at.phase said ≡ true
finish-comes at (TryBegin b) m = say-comes at (TryBegin b) m
finish-comes at (Reply op reply) m = say-comes at (Reply op reply) m
finish-comes at (Stopped op stop) m = say-comes at (Stopped op stop) m
finish-comes at (TryCancel c) m = say-comes at (TryCancel c) m
finish-comes at (TryIrrevocable r) m = say-comes at (TryIrrevocable r) m
finish-comes at (TryCommit c) m = say-comes at (TryCommit c) m
finish-comes at (TryClose c) m = say-comes at (TryClose c) m
finish-comes at (Looked l) m = say-comes at (Looked l) m
finish-comes at (Installed alg) m = say-comes at (Installed alg) m
finish-comes at (Reserved reads writes) m = say-comes at (Reserved reads writes) m
finish-comes at Idle m = absurd m
finish-comes at Dropped m = absurd m
finish-comes at Reopened m = absurd m

-- and leaves it at that after it

granted-stays : (b : Bool) (at : CallerProgress) → (granted_at b at).phase ≡ at.phase
granted-stays true at = refl
granted-stays false at = refl

switched-is : (o : Option Alg) (at : CallerProgress) → (switched o at).phase ≡ Between
switched-is None at = refl
switched-is (Some alg) at = refl

pub after-phase : (at : CallerProgress) (said : Said) → (after at said).phase ≡ phase_after at.phase said
after-phase at (TryBegin (Begun alg)) = refl
after-phase at (TryBegin (Closed gate)) = refl
after-phase at (TryBegin (Held word)) = refl
after-phase at (TryBegin (ClockFull clock)) = refl
after-phase at (Reply op reply) = refl
after-phase at (Stopped op (Stopping cause)) = refl
after-phase at (Stopped op (Full limit)) = refl
after-phase at (Stopped op (Filled clock)) = refl
after-phase at (TryCancel (Cancelled time)) = refl
after-phase at (TryCancel Irrevocable) = refl
after-phase at (TryIrrevocable irrevs.Granted) = granted-stays (is_forced at) at
after-phase at (TryIrrevocable (irrevs.Busy caller status)) = refl
after-phase at (TryIrrevocable (irrevs.Taken gate)) = refl
after-phase at (TryIrrevocable (irrevs.Conflict cause)) = refl
after-phase at (TryIrrevocable (irrevs.ClockFull clock)) = refl
after-phase at (TryCommit (Committed time)) = refl
after-phase at (TryCommit (ReadOnly time)) = refl
after-phase at (TryCommit (Conflict cause)) = refl
after-phase at (TryCommit (Again word had now)) = refl
after-phase at (TryCommit (ClockFull clock)) = refl
after-phase at (TryClose Closed) = refl
after-phase at (TryClose (Taken gate)) = refl
after-phase at (Looked looks.Quiet) = refl
after-phase at (Looked (looks.Busy caller status)) = refl
after-phase at (Installed alg) = switched-is at.chosen at
after-phase at (Reserved reads writes) = refl
after-phase at Idle = refl
after-phase at Dropped = refl
after-phase at Reopened = refl

-- the phases are those of the places

pub record Agree (phases : List Phase) (places : List CallerProgress) : Type 0 where
  pub room : length phases ≡ 32
  pub at : (n : ℕ) → n < length places → phase_at phases n ≡ (place_of places n).phase

set-agrees : (phases : List Phase) (places : List CallerProgress) (n : ℕ) (said : Said) → Agree phases places → n < length places → length places ≤ 32 → (k : ℕ) (same : Bool)
    → (k == n) ≡ same → k < length places → phase_at (slice_set phases n (phase_after (phase_at phases n) said)) k ≡ (place_of (says places n said) k).phase
set-agrees phases places n said a lt few k true e in-places =
    let room = a.room in
    let is : k ≡ n = grind (arith, nat_tests) in
    ap (λ (j : ℕ). phase_at (slice_set phases n (phase_after (phase_at phases n) said)) j) is
    ∙ (get_or-set_same phases n (phase_after (phase_at phases n) said) Between (omega (arith, room, lt, few))
    ∙ (ap (λ (p : Phase). phase_after p said) (a.at n lt)
    ∙ (sym (after-phase (place_of places n) said)
    ∙ (sym (ap (λ (c : CallerProgress). c.phase) (get_or-set_same places n (after (place_of places n) said) _ lt)) ∙ ap (λ (j : ℕ). (place_of (says places n said) j).phase) (sym is)))))
set-agrees phases places n said a lt few k false e in-places =
    let other : k ≢ n = grind (arith, nat_tests) in
    get_or-set_other phases n k (phase_after (phase_at phases n) said) Between other
    ∙ (a.at k in-places ∙ sym (ap (λ (c : CallerProgress). c.phase) (get_or-set_other places n k (after (place_of places n) said) _ other)))

says-agree : (phases : List Phase) (places : List CallerProgress) (n : ℕ) (said : Said) → Agree phases places → n < length places → length places ≤ 32
    → Agree (slice_set phases n (phase_after (phase_at phases n) said)) (says places n said)
says-agree phases places n said a lt few = record {
  room = length-set phases n (phase_after (phase_at phases n) said) ∙ a.room;
  at = λ k in-says.
      (let same : length (says places n said) ≡ length places = length-set places n (after (place_of places n) said) in
      set-agrees phases places n said a lt few k (k == n) refl (omega (arith, same, in-says)));
}

-- these lines may come from these phases on, and leave those of the places
pub record Passing (phases : List Phase) (lines : List Line) (last : List CallerProgress) : Type 0 where
  pub end : List Phase
  pub pass : passed_all phases lines ≡ Some end
  pub agree : Agree end last
  pub few : length last ≤ 32

passes-by : (phases : List Phase) (n : ℕ) (said : Said) → n < length phases → may_come (phase_at phases n) said ≡ true
    → passed phases (Of n said) ≡ Some (slice_set phases n (phase_after (phase_at phases n) said))
passes-by phases n said lt come = let t : leb (length phases) n ≡ false = grind (arith, nat_tests) in rw (t, come) refl

module _ (h : Header) (may : CallerProgress → Said → Type 0) (comes : (at : CallerProgress) (said : Said) → may at said → may_come at.phase said ≡ true) where
  pub path-passes : (phases : List Phase) (places : List CallerProgress) (lines : List Line) (last : List CallerProgress) → Agree phases places → length places ≤ 32
      → Path h may places lines last → Passing phases lines last
  path-passes phases places [] last a few p = record { end = phases; pass = refl; agree = subst (Agree phases) p a; few = subst (λ (l : List CallerProgress). length l ≤ 32) p few }
  path-passes phases places (Of n said ∷ lines) last a few p =
      let lt = p.0 in
      let room = a.room in
      let come : may_come (phase_at phases n) said ≡ true = ap (λ (q : Phase). may_come q said) (a.at n lt) ∙ comes (place_of places n) said p.1 in
      let next : List Phase = slice_set phases n (phase_after (phase_at phases n) said) in
      let same : length (says places n said) ≡ length places = length-set places n (after (place_of places n) said) in
      let rest = path-passes next (says places n said) lines last (says-agree phases places n said a lt few) (omega (arith, same, few)) p.3 in
      record {
        end = rest.end;
        pass = ap (λ (o : Option (List Phase)). o >>= λ x. passed_all x lines) (passes-by phases n said (omega (arith, room, lt, few)) come) ∙ rest.pass;
        agree = rest.agree;
        few = rest.few;
      }
  path-passes phases places (Finish ∷ lines) last a few p = absurd p

passes-on : (o : Option (List Phase)) (middle : List Phase) (xs ys : List Line) → ((phases : List Phase) → passed_all phases xs ≡ Some middle → passed_all phases (xs ++ ys) ≡ passed_all middle ys)
    → (o >>= λ next. passed_all next xs) ≡ Some middle → (o >>= λ next. passed_all next (xs ++ ys)) ≡ passed_all middle ys
passes-on None middle xs ys rest e = absurd cc
passes-on (Some phases) middle xs ys rest e = rest phases e

pub passes-both : (phases middle : List Phase) (xs ys : List Line) → passed_all phases xs ≡ Some middle → passed_all phases (xs ++ ys) ≡ passed_all middle ys
passes-both phases middle [] ys e = ap (λ (o : Option (List Phase)). o >>= λ x. passed_all x ys) e
passes-both phases middle (x ∷ xs) ys e = passes-on (passed phases x) middle xs ys (λ next is. passes-both next middle xs ys is) e
