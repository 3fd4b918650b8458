-- A generator, draw by draw, and the items, one by one.
use Rattle.std.proofs.Common.{ℕ, zero, suc, ◌≡◌, ◌≢◌, ◌+◌, ◌%◌, false, [], ◌∷◌, ◌++◌, refl, sym, ap, ◌∙◌, arith, append_assoc}
use Rattle.std.specs.Prelude.{◌==◌}
use Rattle.std.proofs.lemmas.Bool.Decides.{nat_tests}
use Rattle.rand_pcg.specs.Lcg.{Lcg, next_state, state_after}
use Rattle.rand_pcg.specs.Pcg.{multiplier_64, pcg32, pcg32_of_seed}
use Rattle.rand_core.specs.Pcg32Seed.{pcg32_seed}
use Rattle.work_script.specs.declared.workload.Item.TheVariants.{Tx}
use Rattle.work_gen.specs.Draws.{seeded, generator_at}
use Rattle.work_gen.specs.Generated.{drawn_move, draws_before, operation, switch_after, items_for}

pub at-start : (seed : ℕ) → pcg32_of_seed (pcg32_seed 16 seed) ≡ generator_at seed 0
unfolding seeded state_after
at-start seed = refl

-- the step may come last
state_after-last : (w m increment k state : ℕ) → state_after w m increment (suc k) state ≡ next_state w m increment (state_after w m increment k state)
unfolding state_after
state_after-last w m increment zero state = refl
state_after-last w m increment (suc k) state = state_after-last w m increment k (next_state w m increment state)

-- one draw more
pub one-more : (seed k : ℕ) → (pcg32 (generator_at seed k)).1 ≡ generator_at seed (k + 1)
one-more seed k =
    let g : Lcg = seeded seed in
    let last : next_state 64 multiplier_64 g.increment (state_after 64 multiplier_64 g.increment k g.state) ≡ state_after 64 multiplier_64 g.increment (suc k) g.state = sym (state_after-last 64 multiplier_64 g.increment k g.state) in
    let next : suc k ≡ k + 1 = omega arith in
    ap (λ (s : ℕ). record g { state = s }) last ∙ ap (λ j. generator_at seed j) next

-- of four transactions those that move
pub moves-else : (seed i : ℕ) → i % 4 ≢ 2 → i % 4 ≢ 3 → operation seed i ≡ drawn_move seed (draws_before i)
moves-else seed i a b =
    let count : (i % 4 == 2) ≡ false = grind (arith, nat_tests) in
    let insert : (i % 4 == 3) ≡ false = grind (arith, nat_tests) in rw (count, insert) refl

pub draws-on : (i : ℕ) → i % 4 ≢ 2 → i % 4 ≢ 3 → draws_before i + 3 ≡ draws_before (i + 1)
draws-on i a b = omega arith

-- one transaction more, and what stands after it
pub items-on : (n callers seed : ℕ) → (items_for n callers seed ++ Tx (n % callers) (operation seed n ∷ []) ∷ []) ++ switch_after n ≡ items_for (n + 1) callers seed
items-on n callers seed =
    let next : suc n ≡ n + 1 = omega arith in
    append_assoc (items_for n callers seed) (Tx (n % callers) (operation seed n ∷ []) ∷ []) (switch_after n) ∙ ap (λ k. items_for k callers seed) next
