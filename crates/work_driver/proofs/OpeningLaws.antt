-- The callers of a memory that caller 0 has installed an algorithm in.
use Rattle.std.proofs.Common.{ℕ, zero, suc, ◌≡◌, ◌<◌, ◌+◌, List, [], ◌∷◌, length, get_or, set, refl, sym, ap, ◌∙◌, subst, arith}
use Rattle.std.specs.Prelude.{All}
use Rattle.stm_rule.specs.declared.stm.Stm.{Stm}
use Rattle.rule_base.specs.Opening.{first_view}
use Rattle.stm_model.specs.declared.alg.Alg.{Alg}
use Rattle.stm_rule.specs.Callers.{Handle, IsSameCaller, AllOpened, idle_own}
use Rattle.stm_answers.specs.CallerState.{CallerState, caller_of, known_of}
use Rattle.stm_tx.specs.Descs.{known}
use Rattle.work_worker.specs.Workers.{HasLengths}
use Rattle.work_driver.specs.Openings.{IsNew, AllNew, SameLengths}

module _ {K : Type 0} (stm : Stm K) (alg : Alg) where
  -- a caller that has taken no step
  first : CallerState
  first = known_of (first_view stm.config) (idle_own stm.config)

  is-first : (d : Handle K) → d.view ≡ first_view stm.config → d.own ≡ idle_own stm.config → known d ≡ first
  unfolding first
  is-first d view own = ap (λ v. known_of v d.own) view ∙ ap (known_of (first_view stm.config)) own

  new-first : (d : Handle K) → d.view ≡ first_view stm.config → d.own ≡ idle_own stm.config → IsNew [] (known d)
  unfolding first
  new-first d view own = subst (IsNew []) (sym (is-first d view own)) (record { idle = (refl, refl, refl, refl, refl); done = record { made = refl; rises = omega arith; installs = refl } })

  long-first : (d : Handle K) → d.view ≡ first_view stm.config → d.own ≡ idle_own stm.config → HasLengths stm.config (known d)
  unfolding first
  long-first d view own = subst (HasLengths stm.config) (sym (is-first d view own)) (refl, refl)

  new-others : (n : ℕ) (ds : List (Handle K)) → AllOpened stm (suc n) ds → AllNew stm alg (suc n) ds
  new-others n [] h = tt
  new-others n (d ∷ ds) h = (h.0, h.1, new-first d h.2 h.3, long-first d h.2 h.3, new-others (suc n) ds h.4)

  -- after caller 0 has installed
  pub all-new : (ds : List (Handle K)) (x o d : Handle K) → AllOpened stm 0 ds → 0 < length ds → o ≡ get_or ds 0 x → IsSameCaller o d
      → IsNew (alg ∷ []) (known d) → SameLengths (known o) (known d) → AllNew stm alg 0 (set ds 0 d)
  all-new [] x o d h some is same new long = absurd (omega arith)
  all-new (c ∷ ds) x o d h some is same new long = (
    record {
      table = same.table ∙ (ap (λ (q : Handle K). q.table) is ∙ h.0.table);
      config = ap (λ q. q.config) same.who ∙ (ap (λ (q : Handle K). q.who.config) is ∙ h.0.config);
      rule = ap (λ q. q.rule) same.who ∙ (ap (λ (q : Handle K). q.who.rule) is ∙ h.0.rule);
    },
    ap (λ q. q.role) same.who ∙ (ap (λ (q : Handle K). q.who.role) is ∙ h.1),
    new,
    (long.0 ∙ (ap (λ (q : Handle K). (known q).reads_limit) is ∙ (long-first c h.2 h.3).0), long.1 ∙ (ap (λ (q : Handle K). (known q).writes_limit) is ∙ (long-first c h.2 h.3).1)),
    new-others 0 ds h.4,
  )

  -- where it is alone, it knows the algorithm
  pub all-know : (ds : List (Handle K)) (d : Handle K) → 0 < length ds → length ds ≡ stm.config.callers
      → (stm.config.callers ≡ 1 → (known d).alg ≡ alg) → All (λ (x : Handle K). stm.config.callers ≡ 1 → (known x).alg ≡ alg) (set ds 0 d)
  all-know [] d some long knows = absurd (omega arith)
  all-know (c ∷ ds) d some long knows = each
    where
      each : (i : ℕ) (x : Handle K) → i < suc (length ds) → stm.config.callers ≡ 1 → (known (get_or (d ∷ ds) i x)).alg ≡ alg
      each zero x lt one = knows one
      each (suc i) x lt one = absurd (omega (arith, lt, long, one))

  -- each is the caller of its place
  pub numbered : (n : ℕ) (ds : List (Handle K)) → AllNew stm alg n ds → (k : ℕ) (d : Handle K) → k < length ds → caller_of (get_or ds k d).who.role ≡ n + k
  numbered n [] h k d lt = absurd (omega (arith, lt))
  numbered n (c ∷ ds) h zero d lt = ap caller_of h.1 ∙ (omega arith)
  numbered n (c ∷ ds) h (suc k) d lt = numbered (suc n) ds h.4 k d (omega (arith, lt)) ∙ (omega arith)
