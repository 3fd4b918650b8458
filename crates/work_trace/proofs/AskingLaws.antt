-- What a policy asks for is what it chooses, where that is another algorithm.
use Rattle.std.proofs.Common.{ℕ, ◌≡◌, ◌≢◌, ◌<◌, ◌≤◌, ◌⊎◌, ⊎_elim, Bool, true, false, length, refl, sym, ap, ◌∙◌, arith, subst}
use Rattle.std.specs.Prelude.{◌==◌, leb, Some, None, if◌then◌else◌}
use Rattle.std.proofs.lemmas.Bool.Decides.{leb_tells, eqb_tells}
use Rattle.rule_base.specs.Encodings.{alg_numbered}
use Rattle.stm_model.specs.Algorithms.{alg_number}
use Rattle.stm_model.specs.declared.alg.Alg.{Alg}
use Rattle.stm_model.specs.declared.alg.Alg.TheVariants.{Cgl, Tml, OrecLazy, OrecEager, RingSw, Serial}
use Rattle.work_profile.specs.declared.policy.Policy.{Policy}
use Rattle.work_profile.specs.declared.policy.Policy.TheVariants.{Fixed, Round, Expert, State}
use Rattle.work_profile.specs.declared.profile.TheConstants.{WINDOW}
use Rattle.work_profile.specs.Policies.{Chooses, ByExpert, ByState, OnceFull, next_in_cycle, to_right, to_left}
use Rattle.work_profile.specs.Profiles.{Noted, conflicts, full_logs, commits}
use Rattle.work_trace.specs.Adapting.{AsksByPolicy, asked_by, choice, expert_choice, once_full, other_than, state_choice}

-- an algorithm has its own number
number-back : (alg : Alg) → alg_numbered (alg_number alg) ≡ alg
number-back Cgl = refl
number-back Tml = refl
number-back OrecLazy = refl
number-back OrecEager = refl
number-back RingSw = refl
number-back Serial = refl

if-true : {A : Type 0} (b : Bool) (x y : A) → b ≡ true → (if b then x else y) ≡ x
if-true b x y e = ap (λ c. if c then x else y) e

if-false : {A : Type 0} (b : Bool) (x y : A) → b ≡ false → (if b then x else y) ≡ y
if-false b x y e = ap (λ c. if c then x else y) e

-- the choice by a test of two numbers
by-least : (n k : ℕ) (next x y : Alg) → (n ≤ k → next ≡ x) → (k < n → next ≡ y) → next ≡ (if leb n k then x else y)
by-least n k next x y low high = ⊎_elim (λ t. low t.1 ∙ sym (if-true (leb n k) x y t.0)) (λ t. high t.1 ∙ sym (if-false (leb n k) x y t.0)) (leb_tells n k)

by-same : (n k : ℕ) (next x y : Alg) → (n ≡ k → next ≡ x) → (n ≢ k → next ≡ y) → next ≡ (if n == k then x else y)
by-same n k next x y one other = ⊎_elim (λ t. one t.1 ∙ sym (if-true (n == k) x y t.0)) (λ t. other t.1 ∙ sym (if-false (n == k) x y t.0)) (eqb_tells n k)

least : {A : Type 0} (n k : ℕ) (x y : A) → n ≤ k → (if leb n k then x else y) ≡ x
least n k x y le = ⊎_elim (λ t. if-true (leb n k) x y t.0) (λ t. absurd (let lt = t.1 in omega (arith, lt, le))) (leb_tells n k)

less : {A : Type 0} (n k : ℕ) (x y : A) → k < n → (if leb n k then x else y) ≡ y
less n k x y lt = ⊎_elim (λ t. absurd (let le = t.1 in omega (arith, lt, le))) (λ t. if-false (leb n k) x y t.0) (leb_tells n k)

same : {A : Type 0} (n k : ℕ) (x y : A) → n ≡ k → (if n == k then x else y) ≡ x
same n k x y e = ⊎_elim (λ t. if-true (n == k) x y t.0) (λ t. absurd (t.1 e)) (eqb_tells n k)

apart : {A : Type 0} (n k : ℕ) (x y : A) → n ≢ k → (if n == k then x else y) ≡ y
apart n k x y other = ⊎_elim (λ t. absurd (other t.1)) (λ t. if-false (n == k) x y t.0) (eqb_tells n k)

expert-is : (c f w : ℕ) (next : Alg) → ByExpert c f w next → next ≡ expert_choice c f w
expert-is c f w next h =
    by-least 1 f next Cgl _ h.full
    (λ none. by-least 12 c next Serial _ (h.most none) (λ few. by-same w 0 next Tml _ (h.readers none few)
    (λ some. let wrote : 0 < w = omega (arith, some) in by-least 4 c next OrecLazy _ (h.some none few wrote) (λ less. by-least 1 c next RingSw OrecEager (h.few none less wrote) (λ no. h.none none no wrote)))))

expert-chooses : (c f w : ℕ) → ByExpert c f w (expert_choice c f w)
expert-chooses c f w = record {
  full = λ a. least 1 f Cgl _ a;
  most = λ a b. less 1 f Cgl _ a ∙ least 12 c Serial _ b;
  readers = λ a b d. less 1 f Cgl _ a ∙ (less 12 c Serial _ b ∙ same w 0 Tml _ d);
  some = λ a b d e. less 1 f Cgl _ a ∙ (less 12 c Serial _ b ∙ (apart w 0 Tml _ (λ x. absurd (omega (arith, x, d))) ∙ least 4 c OrecLazy _ e));
  few = λ a b d e. less 1 f Cgl _ a ∙ (less 12 c Serial _ (omega (arith, b)) ∙ (apart w 0 Tml _ (λ x. absurd (omega (arith, x, d))) ∙ (less 4 c OrecLazy _ b ∙ least 1 c RingSw OrecEager e)));
  none = λ a b d. less 1 f Cgl _ a ∙ (less 12 c Serial _ (omega (arith, b)) ∙ (apart w 0 Tml _ (λ x. absurd (omega (arith, x, d))) ∙ (less 4 c OrecLazy _ (omega (arith, b)) ∙ less 1 c RingSw OrecEager b)));
}

state-is : (n c : ℕ) (alg next : Alg) → ByState n c alg next → next ≡ state_choice n c alg
state-is n c alg next h = by-least n c next (to_right alg) _ h.many (λ few. by-same c 0 next (to_left alg) alg (h.none few) (λ some. h.some few (omega (arith, some))))

state-chooses : (n c : ℕ) (alg : Alg) → ByState n c alg (state_choice n c alg)
state-chooses n c alg = record {
  many = λ a. least n c (to_right alg) _ a;
  none = λ a b. less n c (to_right alg) _ a ∙ same c 0 (to_left alg) alg b;
  some = λ a b. less n c (to_right alg) _ a ∙ apart c 0 (to_left alg) alg (λ x. absurd (omega (arith, x, b)));
}

full-is : (p : Noted) (alg next is : Alg) (By : Type 0) → (By → next ≡ is) → OnceFull p alg next By → next ≡ once_full p alg is
full-is p alg next is By f h = by-least WINDOW (length p.window) next is alg (λ le. f (h.full le)) h.early

full-chooses : (p : Noted) (alg is : Alg) (By : Alg → Type 0) → By is → OnceFull p alg (once_full p alg is) (By (once_full p alg is))
full-chooses p alg is By h = record {
  early = λ lt. less WINDOW (length p.window) is alg lt;
  full = λ le. subst By (sym (least WINDOW (length p.window) is alg le)) h;
}

-- what a policy chooses is its choice
choice-is : (policy : Policy) (p : Noted) (alg next : Alg) → Chooses policy p alg next → next ≡ choice policy p alg
choice-is Fixed p alg next h = h
choice-is (Round n) p alg next h = by-least n p.since next (next_in_cycle alg) alg h.moves h.stays
choice-is Expert p alg next h =
    full-is p alg next (expert_choice (conflicts p.window) (full_logs p.window) (commits p.window))
    (ByExpert (conflicts p.window) (full_logs p.window) (commits p.window) next)
    (expert-is (conflicts p.window) (full_logs p.window) (commits p.window) next) h
choice-is (State n) p alg next h = full-is p alg next (state_choice n (conflicts p.window) alg) (ByState n (conflicts p.window) alg next) (state-is n (conflicts p.window) alg next) h

choice-chooses : (policy : Policy) (p : Noted) (alg : Alg) → Chooses policy p alg (choice policy p alg)
choice-chooses Fixed p alg = refl
choice-chooses (Round n) p alg = record { moves = λ le. least n p.since (next_in_cycle alg) alg le; stays = λ lt. less n p.since (next_in_cycle alg) alg lt }
choice-chooses Expert p alg =
    full-chooses p alg (expert_choice (conflicts p.window) (full_logs p.window) (commits p.window))
    (ByExpert (conflicts p.window) (full_logs p.window) (commits p.window))
    (expert-chooses (conflicts p.window) (full_logs p.window) (commits p.window))
choice-chooses (State n) p alg = full-chooses p alg (state_choice n (conflicts p.window) alg) (ByState n (conflicts p.window) alg) (state-chooses n (conflicts p.window) alg)

other-some : (alg next : Alg) → next ≢ alg → other_than alg next ≡ Some next
other-some alg next other = apart (alg_number next) (alg_number alg) None (Some next) (λ e. other (sym (number-back next) ∙ (ap alg_numbered e ∙ number-back alg)))

other-none : (alg next : Alg) → next ≡ alg → other_than alg next ≡ None
other-none alg next e = same (alg_number next) (alg_number alg) None (Some next) (ap alg_number e)

other-is : (alg next to : Alg) → other_than alg next ≡ Some to → (next ≡ to) × (next ≢ alg)
other-is alg next to h = ⊎_elim
    (λ t. absurd (let e : None ≡ Some to = sym (if-true (alg_number next == alg_number alg) None (Some next) t.0) ∙ h in cc))
    (λ t. (let e : Some next ≡ Some to = sym (if-false (alg_number next == alg_number alg) None (Some next) t.0) ∙ h in cc, λ e. t.1 (ap alg_number e)))
    (eqb_tells (alg_number next) (alg_number alg))

asked-other : (policy : Policy) (p : Noted) (alg : Alg) → asked_by policy p alg ≡ other_than alg (choice policy p alg)
asked-other Fixed p alg = sym (other-none alg alg refl)
asked-other (Round n) p alg = refl
asked-other Expert p alg = refl
asked-other (State n) p alg = refl

pub asks-other : (policy : Policy) (p : Noted) (alg next : Alg) → Chooses policy p alg next → asked_by policy p alg ≡ other_than alg next
asks-other policy p alg next h = asked-other policy p alg ∙ ap (other_than alg) (sym (choice-is policy p alg next h))

-- where it chooses another algorithm
asks-some : (policy : Policy) (p : Noted) (alg next : Alg) → Chooses policy p alg next → next ≢ alg → asked_by policy p alg ≡ Some next
asks-some policy p alg next h other = asks-other policy p alg next h ∙ other-some alg next other

pub asks-by-policy : AsksByPolicy
asks-by-policy policy p alg next = (
  (λ e. let o = other-is alg (choice policy p alg) next (sym (asked-other policy p alg) ∙ e) in (subst (Chooses policy p alg) o.0 (choice-chooses policy p alg), subst (λ a. a ≢ alg) o.0 o.1)),
  (λ h. asks-some policy p alg next h.0 h.1),
)
