-- Laws of the marks of an attempt that can't be taken back.
use Rattle.std.proofs.Common.{◌≡◌, refl, sym, subst}
use Rattle.std.specs.Prelude.{Result, Ok, Err}
use Rattle.stm_answers.specs.Answers.{Checks}
use Rattle.stm_answers.specs.CallerState.{CallerState, Grows, is_irrevocable}
use Rattle.stm_answers.specs.declared.answers.Check.{Check}
use Rattle.stm_answers.specs.declared.answers.Check.TheVariants as checks
use Rattle.tx_atomic.specs.TryLaws.{grows-refl}
use Rattle.tx_checked.specs.CheckedCallers.{known_to}
use Rattle.tx_checked.specs.declared.checked_caller.CheckedCaller.{CheckedCaller}
use Rattle.tx_checked.specs.declared.misuse.Misuse.{Misuse}
use Rattle.tx_checked.specs.Misuses.{running}
use Rattle.tx_checked.specs.Tells.{HasMarked, Tells}
use Rattle.tx_loops.specs.Loops.{MadeNothing}
use Rattle.tx_loops.proofs.CommitLaws.{nothing-refl}

-- what stays of an attempt in which a mark was made
pub record StaysMarked (v w : CallerState) : Type 0 where
  pub made : w.made ≡ v.made
  pub grows : Grows v w
  pub log : w.log ≡ v.log
  pub running : w.running ≡ v.running
  pub committing : w.committing ≡ v.committing
  pub irrevocable : is_irrevocable w ≡ is_irrevocable v
  pub installs : w.installs ≡ v.installs

stays-same : (v : CallerState) → StaysMarked v v
stays-same v = record { made = refl; grows = grows-refl v; log = refl; running = refl; committing = refl; irrevocable = refl; installs = refl }

stays-marked : (r : Check) (v w : CallerState) → Checks r v w → StaysMarked v w
stays-marked (checks.Deep limit) v w h = subst (λ (u : CallerState). StaysMarked v u) (sym h.2) (stays-same v)
stays-marked (checks.Marked depth) v w h =
    let g = grows-refl v in
    subst (λ (u : CallerState). StaysMarked v u) (sym h.2.is) (record {
      made = refl;
      grows = record {
        later = g.later;
        is = g.is;
        ascending = g.ascending;
        up_to = g.up_to;
        front_rose = g.front_rose;
        more = g.more;
        step_trace = g.step_trace;
        reads_limit = refl;
        writes_limit = refl;
        marks_limit = refl;
        fenced = refl;
      };
      log = refl;
      running = refl;
      committing = refl;
      irrevocable = refl;
      installs = refl;
    })

-- made or not, a mark leaves all but the marks
pub record Marked (m n : CheckedCaller) : Type 0 where
  pub nothing : MadeNothing m n
  pub stays : StaysMarked (known_to m) (known_to n)

pub marked : (m n : CheckedCaller) (r : Result Check Misuse) → Tells (running m) (HasMarked m n) m n r → Marked m n
marked m n (Ok answer) h =
    let told : HasMarked m n answer = h.2 in
    let stays = stays-marked answer (known_to m) (known_to n) told.0 in
    record { nothing = record { same = h.1; made = stays.made; grows = stays.grows; holds = (told.1, stays.installs) }; stays = stays }
marked m n (Err e) h = subst (λ (k : CheckedCaller). Marked m k) (sym h.1) (record { nothing = nothing-refl m; stays = stays-same (known_to m) })
