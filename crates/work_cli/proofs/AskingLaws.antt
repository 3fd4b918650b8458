-- Words ask for one command at most.
use Rattle.std.proofs.Common.{ℕ, ◌≡◌, ◌<◌, ◌≤◌, ◌^◌, List, [], Option, Some, None, get_or, drop, refl, sym, ap, ◌∙◌, subst, arith, lit<}
use Rattle.std.specs.Prelude.{codes, is_some, true, false}
use Rattle.std.specs.Fmt.{decimal}
use Rattle.std.proofs.lemmas.Fmt.{decimal_injective}
use Rattle.clap.specs.Words.{Row, Text, first_of}
use Rattle.work_profile.specs.declared.policy.Policy.{Policy}
use Rattle.work_profile.specs.declared.policy.Policy.TheVariants.{Fixed, Round, Expert, State}
use Rattle.work_profile.specs.PolicyWords.{HasWord, policy_word}
use Rattle.work_cli.specs.declared.command.Command.{Command}
use Rattle.work_cli.specs.declared.command.Command.TheVariants.{Run, Step, Gen, Check, CheckWorkload, CheckApart}
use Rattle.work_cli.specs.Asking.{AsksBy, AskOnce, IsGen, NamesPolicy, subcommand_name}

abbrev text_in : Option Text → Text
text_in None = []
text_in (Some t) = t

abbrev name_in : Option (Text × List Row) → Text
name_in None = []
name_in (Some f) = f.0

abbrev rows_in : Option (Text × List Row) → List Row
rows_in None = []
rows_in (Some f) = f.1

same-number : (rows : List Row) (name : Text) (m n : ℕ) → m < 2 ^ 64 → n < 2 ^ 64 → first_of name rows ≡ Some (decimal m) → first_of name rows ≡ Some (decimal n) → m ≡ n
same-number rows name m n fits others a b = decimal_injective m n fits others (ap text_in (sym a ∙ b))

same-gen : (rows : List Row) (m n s t u v : ℕ) → IsGen rows m s u → IsGen rows n t v → Gen m s u ≡ Gen n t v
same-gen rows m n s t u v x y =
    let low : m ≤ 50000 = x.1.1 in
    let low' : n ≤ 50000 = y.1.1 in
    let few : s ≤ 32 = x.3.1 in
    let few' : t ≤ 32 = y.3.1 in
    let transactions : m ≡ n = same-number rows (codes "N") m n (omega arith) (omega arith) x.0 y.0 in
    let callers : s ≡ t = same-number rows (codes "T") s t (omega arith) (omega arith) x.2 y.2 in
    let seed : u ≡ v = same-number rows (codes "SEED") u v x.5 y.5 x.4 y.4 in
    ap (λ k. Gen k s u) transactions ∙ (ap (λ k. Gen n k u) callers ∙ ap (λ k. Gen n t k) seed)

abbrev first : Text → ℕ
first word = get_or word 0 0

apart : (m n : ℕ) → m < n → m ≡ n → ⊥
apart m n lt e = omega arith

same-digits : (most : ℕ) (m n : ℕ) → m ≤ most → n ≤ most → most < 2 ^ 64 → decimal m ≡ decimal n → m ≡ n
same-digits most m n low other fits e = decimal_injective m n (omega arith) (omega arith) e

same-policy : (p q : Policy) → HasWord p → HasWord q → policy_word p ≡ policy_word q → p ≡ q
same-policy Fixed Fixed x y e = refl
same-policy Fixed (Round n) x y e = absurd (apart 102 114 (lit< tt) (ap first e))
same-policy Fixed Expert x y e = absurd (apart 101 102 (lit< tt) (sym (ap first e)))
same-policy Fixed (State n) x y e = absurd (apart 102 115 (lit< tt) (ap first e))
same-policy (Round m) Fixed x y e = absurd (apart 102 114 (lit< tt) (sym (ap first e)))
same-policy (Round m) (Round n) x y e = ap Round (same-digits 65536 m n x.1 y.1 (lit< tt) (ap (drop 6) e))
same-policy (Round m) Expert x y e = absurd (apart 101 114 (lit< tt) (sym (ap first e)))
same-policy (Round m) (State n) x y e = absurd (apart 114 115 (lit< tt) (ap first e))
same-policy Expert Fixed x y e = absurd (apart 101 102 (lit< tt) (ap first e))
same-policy Expert (Round n) x y e = absurd (apart 101 114 (lit< tt) (ap first e))
same-policy Expert Expert x y e = refl
same-policy Expert (State n) x y e = absurd (apart 101 115 (lit< tt) (ap first e))
same-policy (State m) Fixed x y e = absurd (apart 102 115 (lit< tt) (sym (ap first e)))
same-policy (State m) (Round n) x y e = absurd (apart 114 115 (lit< tt) (sym (ap first e)))
same-policy (State m) Expert x y e = absurd (apart 101 115 (lit< tt) (sym (ap first e)))
same-policy (State m) (State n) x y e = ap State (same-digits 16 m n x.1 y.1 (lit< tt) (ap (drop 6) e))

same-named : (found : Option Text) (p q : Policy) → NamesPolicy found p → NamesPolicy found q → p ≡ q
same-named None p q x y = x ∙ sym y
same-named (Some word) p q x y = same-policy p q x.0 y.0 (sym x.1 ∙ y.1)

none-some : {A : Type 0} (o : Option A) → o ≡ None → is_some o ≡ true → ⊥
none-some o none some = let e : false ≡ true = sym (ap is_some none) ∙ some in absurd cc

same-command : (rows : List Row) (a b : Command) → subcommand_name a ≡ subcommand_name b → AsksBy rows a → AsksBy rows b → a ≡ b
same-command rows (Run p) (Run q) e x y = ap Run (same-named (first_of (codes "policy") rows) p q x y)
same-command rows (Run p) Step e x y = absurd (apart 114 115 (lit< tt) (ap first e))
same-command rows (Run p) (Gen n t v) e x y = absurd (apart 103 114 (lit< tt) (sym (ap first e)))
same-command rows (Run p) Check e x y = absurd (apart 99 114 (lit< tt) (sym (ap first e)))
same-command rows (Run p) CheckWorkload e x y = absurd (apart 99 114 (lit< tt) (sym (ap first e)))
same-command rows (Run p) CheckApart e x y = absurd (apart 99 114 (lit< tt) (sym (ap first e)))
same-command rows Step (Run q) e x y = absurd (apart 114 115 (lit< tt) (sym (ap first e)))
same-command rows Step Step e x y = refl
same-command rows Step (Gen n t v) e x y = absurd (apart 103 115 (lit< tt) (sym (ap first e)))
same-command rows Step Check e x y = absurd (apart 99 115 (lit< tt) (sym (ap first e)))
same-command rows Step CheckWorkload e x y = absurd (apart 99 115 (lit< tt) (sym (ap first e)))
same-command rows Step CheckApart e x y = absurd (apart 99 115 (lit< tt) (sym (ap first e)))
same-command rows (Gen m s u) (Run q) e x y = absurd (apart 103 114 (lit< tt) (ap first e))
same-command rows (Gen m s u) Step e x y = absurd (apart 103 115 (lit< tt) (ap first e))
same-command rows (Gen m s u) (Gen n t v) e x y = same-gen rows m n s t u v x y
same-command rows (Gen m s u) Check e x y = absurd (apart 99 103 (lit< tt) (sym (ap first e)))
same-command rows (Gen m s u) CheckWorkload e x y = absurd (apart 99 103 (lit< tt) (sym (ap first e)))
same-command rows (Gen m s u) CheckApart e x y = absurd (apart 99 103 (lit< tt) (sym (ap first e)))
same-command rows Check (Run q) e x y = absurd (apart 99 114 (lit< tt) (ap first e))
same-command rows Check Step e x y = absurd (apart 99 115 (lit< tt) (ap first e))
same-command rows Check (Gen n t v) e x y = absurd (apart 99 103 (lit< tt) (ap first e))
same-command rows Check Check e x y = refl
same-command rows Check CheckWorkload e x y = absurd (none-some (first_of (codes "FILE") rows) x.1 y.1)
same-command rows Check CheckApart e x y = absurd (none-some (first_of (codes "REPORT") rows) x.0 y)
same-command rows CheckWorkload (Run q) e x y = absurd (apart 99 114 (lit< tt) (ap first e))
same-command rows CheckWorkload Step e x y = absurd (apart 99 115 (lit< tt) (ap first e))
same-command rows CheckWorkload (Gen n t v) e x y = absurd (apart 99 103 (lit< tt) (ap first e))
same-command rows CheckWorkload Check e x y = absurd (none-some (first_of (codes "FILE") rows) y.1 x.1)
same-command rows CheckWorkload CheckWorkload e x y = refl
same-command rows CheckWorkload CheckApart e x y = absurd (none-some (first_of (codes "REPORT") rows) x.0 y)
same-command rows CheckApart (Run q) e x y = absurd (apart 99 114 (lit< tt) (ap first e))
same-command rows CheckApart Step e x y = absurd (apart 99 115 (lit< tt) (ap first e))
same-command rows CheckApart (Gen n t v) e x y = absurd (apart 99 103 (lit< tt) (ap first e))
same-command rows CheckApart Check e x y = absurd (none-some (first_of (codes "REPORT") rows) y.0 x)
same-command rows CheckApart CheckWorkload e x y = absurd (none-some (first_of (codes "REPORT") rows) y.0 x)
same-command rows CheckApart CheckApart e x y = refl

pub ask-once : AskOnce
ask-once words a b x y =
    let found = sym x.asks.names ∙ y.asks.names in
    same-command x.asks.rows a b (ap name_in found) x.asks.values (subst (λ rows. AsksBy rows b) (sym (ap rows_in found)) y.asks.values)
