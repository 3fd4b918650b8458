-- The word of a policy.
use Rattle.std.specs.Prelude.{ℕ, ◌≡◌, ◌≢◌, ◌≤◌, List, ◌++◌, codes, Result, MatchResult}
use Rattle.std.specs.Fmt.{decimal}
use Rattle.work_profile.specs.declared.policy.Policy.{Policy}
use Rattle.work_profile.specs.declared.policy.Policy.TheVariants.{Fixed, Round, Expert, State}
use Rattle.work_profile.specs.declared.policy.TheConstants.{MOST_ROUND, MOST_STATE}

abbrev pub policy_word : Policy → List ℕ
policy_word Fixed = codes "fixed"
policy_word (Round n) = codes "round:" ++ decimal n
policy_word Expert = codes "expert"
policy_word (State n) = codes "state:" ++ decimal n

-- a number that stands after the name of a policy
abbrev pub IsUpTo : ℕ → ℕ → Type 0
IsUpTo most n = (1 ≤ n) × (n ≤ most)

-- the policies that have a word
abbrev pub HasWord : Policy → Type 0
HasWord Fixed = Unit {0}
HasWord (Round n) = IsUpTo MOST_ROUND n
HasWord Expert = Unit {0}
HasWord (State n) = IsUpTo MOST_STATE n

abbrev pub IsWordOf : List ℕ → Policy → Type 0
IsWordOf word policy = HasWord policy × (word ≡ policy_word policy)

-- what was read is the policy whose word it is; what is refused is no policy's word
abbrev pub Reads : {E : Type 0} → List ℕ → Result Policy E → Type 0
Reads word r = MatchResult r (IsWordOf word) (λ e. (policy : Policy) → IsWordOf word policy → ⊥)

-- no policy has this name and this number
pub record IsNoneNumbered (name digits : List ℕ) : Type 0 where
  pub round : (n : ℕ) → IsUpTo MOST_ROUND n → name ≡ codes "round" → digits ≢ decimal n
  pub state : (n : ℕ) → IsUpTo MOST_STATE n → name ≡ codes "state" → digits ≢ decimal n
