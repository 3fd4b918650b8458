-- Laws of a body that says it can't stop.
use Rattle.std.proofs.Common.{ℕ, ◌≡◌, ◌≢◌, ◌∙◌, List, [], true, false, refl, sym, subst}
use Rattle.std.specs.Prelude.{Bool, Ok}
use Rattle.stm_model.specs.Logs.{Log}
use Rattle.stm_model.specs.Memories.{Once}
use Rattle.stm_answers.specs.Answers.{TriesIrrevocable}
use Rattle.stm_answers.specs.CallerState.{CallerState, IsIdle, IsRunning, is_irrevocable}
use Rattle.stm_answers.specs.declared.answers.Irrev.TheVariants as grants
use Rattle.tx_checked.specs.CheckedCallers.{config_of, known_to, number_of}
use Rattle.tx_checked.specs.declared.checked_caller.CheckedCaller.{CheckedCaller}
use Rattle.tx_checked.specs.Misuses.{running}
use Rattle.tx_checked.specs.Phases.{Any}
use Rattle.tx_checked.specs.Tells.{IsIrrevocable, Tells}
use Rattle.tx_loops.specs.Loops.{MadeNothing}
use Rattle.tx_loops.specs.Stages.{IsAtStage, IsBound, has_body, log_at}
use Rattle.tx_loops.specs.declared.stage.Stage.{Stage}
use Rattle.tx_loops.specs.declared.stage.Stage.TheVariants.{Free, Direct, Bound, Lapsed, Buffered, Asking, Committing}
use Rattle.tx_loops.proofs.CommitLaws.{laid-alone}
use Rattle.tx_parts.specs.Laying.{Lays, SameLog}

-- the attempt is irrevocable from here on, with the same log
pub record Granted (m k : CheckedCaller) : Type 0 where
  pub nothing : MadeNothing m k
  pub runs : IsRunning (known_to k)
  pub irrevocable : is_irrevocable (known_to k) ≡ true
  pub log : (known_to k).log ≡ (known_to m).log

pub granted : (m k : CheckedCaller) → Tells (running m) (IsIrrevocable m k) m k (Ok grants.Granted) → Granted m k
granted m k h =
    let told : IsIrrevocable m k grants.Granted = h.2 in
    let tries : TriesIrrevocable Any (config_of m) (number_of m) (known_to m) (known_to k) = told.0 in
    record {
      nothing = record { same = h.1; made = tries.continues.made; grows = tries.continues.grows; holds = (told.1, tries.continues.installs) };
      runs = (tries.continues.running, tries.uncommitted);
      irrevocable = tries.irrevocable;
      log = tries.log;
    }

-- what can't be refused was stored
pub stored-all : (r : Bool) (v w : CallerState) → (r ≡ false → IsIdle w × (is_irrevocable v ≡ false)) → is_irrevocable v ≡ true → r ≡ true
stored-all true v w h i = refl
stored-all false v w h i = absurd (let no : true ≡ false = sym i ∙ (h refl).1 in cc)

-- what lay in the buffer lies in the attempt
pub buffer-laid : (ws : List (ℕ × ℕ)) (l k j i : Log) → Once ws → l.writes ≡ [] → k ≡ l → Lays ws k j → i ≡ j → SameLog (log_at Buffered l ws) i
buffer-laid ws l k j i once blank same lays end =
    subst (λ (x : Log). SameLog (log_at Buffered l ws) x) (sym end) (laid-alone ws l j once blank (subst (λ (x : Log). Lays ws x j) same lays))

-- once a body can't stop, nothing else is so of it
pub at-bound : (v : CallerState) (words : ℕ) (ws : List (ℕ × ℕ)) → IsBound v → IsAtStage Bound v words ws
at-bound v words ws bound = (
  (λ i. absurd (let no : Bound ≡ Direct = i in cc)),
  (λ i. absurd (let no : Bound ≡ Buffered = i in cc)),
  (λ i. bound),
  (λ i. absurd (let no : Bound ≡ Asking = i in cc)),
  (λ i. absurd (let no : Bound ≡ Committing = i in cc)),
)

-- what a body without a buffer wrote lies in its attempt
pub lies-already : (s : Stage) (l : Log) (ws : List (ℕ × ℕ)) → has_body s ≡ true → s ≢ Buffered → SameLog (log_at s l ws) l
lies-already Direct l ws body other = (refl, λ b. refl)
lies-already Buffered l ws body other = absurd (other refl)
lies-already Free l ws body other = absurd (let no : false ≡ true = body in cc)
lies-already Bound l ws body other = absurd (let no : false ≡ true = body in cc)
lies-already Lapsed l ws body other = absurd (let no : false ≡ true = body in cc)
lies-already Asking l ws body other = absurd (let no : false ≡ true = body in cc)
lies-already Committing l ws body other = absurd (let no : false ≡ true = body in cc)

-- what lay there before lies there of the same log
pub like-before : (s : Stage) (l k j : Log) (ws : List (ℕ × ℕ)) → k ≡ l → SameLog (log_at s k ws) j → SameLog (log_at s l ws) j
like-before s l k j ws same h = subst (λ (x : Log). SameLog (log_at s x ws) j) same h
