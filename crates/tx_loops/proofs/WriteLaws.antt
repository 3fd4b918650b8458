-- Laws of where a caller stands after a write.
use Rattle.std.proofs.Common.{ℕ, ◌≡◌, ◌∙◌, List, true, false, refl, sym, ap, subst}
use Rattle.std.specs.Prelude.{Ok}
use Rattle.stm_model.specs.Memories.{put}
use Rattle.stm_answers.specs.declared.answers.Write.TheVariants as writes
use Rattle.stm_answers.specs.CallerState.{CallerState}
use Rattle.tx_checked.specs.CheckedCallers.{config_of, known_to}
use Rattle.tx_checked.specs.declared.checked_caller.CheckedCaller.{CheckedCaller}
use Rattle.tx_checked.specs.Misuses.{access}
use Rattle.tx_checked.specs.Tells.{HasWrittenWord, Tells}
use Rattle.tx_loops.specs.declared.stage.Stage.{Stage}
use Rattle.tx_loops.specs.declared.stage.Stage.TheVariants.{Free, Direct, Bound, Lapsed, Buffered, Asking, Committing}
use Rattle.tx_loops.specs.Stages.{EachSpared, IsAtStage, IsBuffered, IsDirect, IsSpared, is_plain, takes_back}
use Rattle.tx_loops.proofs.BindLaws.{at-bound}
use Rattle.tx_loops.proofs.BodyLaws.{spared-put}
use Rattle.tx_loops.proofs.StageLaws.{at-free, at-lapsed}
use Rattle.tx_loops.proofs.StoreLaws.{wrote-done}

at-direct : (v : CallerState) (words : ℕ) (ws : List (ℕ × ℕ)) → IsDirect v → IsAtStage Direct v words ws
at-direct v words ws h = ((λ i. h), (λ i. absurd (let no : Direct ≡ Buffered = i in cc)), (λ i. absurd (let no : Direct ≡ Bound = i in cc)), (λ i. absurd (let no : Direct ≡ Asking = i in cc)), (λ i. absurd (let no : Direct ≡ Committing = i in cc)))

at-buffered : (v : CallerState) (words : ℕ) (ws : List (ℕ × ℕ)) → IsBuffered v words ws → IsAtStage Buffered v words ws
at-buffered v words ws h = ((λ i. absurd (let no : Buffered ≡ Direct = i in cc)), (λ i. h), (λ i. absurd (let no : Buffered ≡ Bound = i in cc)), (λ i. absurd (let no : Buffered ≡ Asking = i in cc)), (λ i. absurd (let no : Buffered ≡ Committing = i in cc)))

-- a write that was made leaves the caller where it stood
pub wrote-at : (s : Stage) (a x : ℕ) (ws : List (ℕ × ℕ)) (m n : CheckedCaller) → is_plain s ≡ true → IsAtStage s (known_to m) (config_of m).words ws → Tells (access a m) (HasWrittenWord a x m n) m n (Ok writes.Done)
    → IsAtStage s (known_to n) (config_of n).words ws
wrote-at Free a x ws m n plain at h = at-free (known_to n) (config_of n).words ws
wrote-at Lapsed a x ws m n plain at h = at-lapsed (known_to n) (config_of n).words ws
wrote-at Direct a x ws m n plain at h =
    let was = at.0 refl in
    let now = wrote-done a x m n was.0 h in
    at-direct (known_to n) (config_of n).words ws (now.runs, ap takes_back now.alg ∙ was.1, now.granted ∙ was.2)
wrote-at Bound a x ws m n plain at h =
    let was = at.2 refl in
    let now = wrote-done a x m n was.0 h in
    at-bound (known_to n) (config_of n).words ws (now.runs, now.irrevocable was.1)
wrote-at Buffered a x ws m n plain at h = absurd (let no : false ≡ true = plain in cc)
wrote-at Asking a x ws m n plain at h = absurd (let no : false ≡ true = plain in cc)
wrote-at Committing a x ws m n plain at h = absurd (let no : false ≡ true = plain in cc)

-- and so does one into its buffer
pub wrote-into : (s : Stage) (a x words : ℕ) (ws vs : List (ℕ × ℕ)) (v : CallerState) → s ≡ Buffered → vs ≡ put a x ws → IsSpared words v.fence a → IsAtStage s v words ws → IsAtStage s v words vs
wrote-into s a x words ws vs v is added spared at =
    let was = at.1 is in
    let each : EachSpared words v.fence vs = subst (λ (l : List (ℕ × ℕ)). EachSpared words v.fence l) (sym added) (spared-put words v.fence a x ws spared was.2) in
    subst (λ (k : Stage). IsAtStage k v words vs) (sym is) (at-buffered v words vs (was.0, was.1, each))
