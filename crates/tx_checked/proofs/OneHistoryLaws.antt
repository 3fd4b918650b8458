-- What the callers of one memory know is of one history.
use Rattle.std.proofs.Common.{ℕ, ◌≡◌, ◌≤◌, ◌+◌, List, [], ◌∷◌, ◌++◌, Bool, true, false, refl, sym, ap, ◌∙◌, subst, arith}
use Rattle.std.specs.Prelude.{nat_le, ◌==◌, if◌then◌else◌}
use Rattle.std.proofs.lemmas.Bool.Decides.{nat_tests}
use Rattle.stm_model.specs.declared.config.Config.{Config}
use Rattle.stm_model.specs.Histories.{Ascending, IsLegal}
use Rattle.stm_model.specs.Histories as public
use Rattle.rule_base.specs.declared.entries.Entry.{Entry}
use Rattle.rule_base.specs.declared.views.View.{View}
use Rattle.rule_base.specs.Bridge.{public_history, of_words}
use Rattle.rule_base.specs.History.{Below, upto}
use Rattle.rule_base.specs.Lemmas.BridgeLemmas.{legal-public, public_history-append, public_history-made_by}
use Rattle.rule_base.specs.Lemmas.HistoryLemmas.{below-upto, made_by-none}
use Rattle.rule_base.proofs.Lemmas.SeenLemmas.{upto-rest}
use Rattle.rule_base.specs.World.{World}
use Rattle.rule_base.specs.StepKinds.{LawAt}
use Rattle.stm_rule.specs.Callers.{BeginsHistory, made_of, seen_of, front_of, taken_of, taken_front_of}
use Rattle.stm_rule.proofs.KindLaws.Lifted.{hears}
use Rattle.stm_rule.specs.NoteSteps.{hear}
use Rattle.stm_rule.specs.Product.{Invariant}
use Rattle.stm_answers.specs.CallerState.{zeros}
use Rattle.tx_atomic.specs.ExtendsLaws.{grows-extends}
use Rattle.tx_atomic.specs.MomentLaws.{happened}
use Rattle.tx_checked.specs.declared.checked_caller.CheckedCaller.{CheckedCaller}
use Rattle.tx_checked.specs.CheckedCallers.{config_of, known_to, memory_of, number_of}
use Rattle.tx_checked.specs.OneHistory.{IsOfCallers, FindsCallers, IsMomentOf, IsPartOf, HasMomentsIn, HasFound, TakesAllOf, found_by, found_until, history_of}
use Rattle.tx_checked.specs.Phases.{Any}

-- a prefix up to a front begins the history
begins : (h seen : List Entry) (t front : ℕ) → Below h t → seen ≡ upto h front → BeginsHistory (public_history seen) front (public_history h)
begins h seen t front below is =
    let rest = upto-rest h t front below in
    (public_history rest.0, ap public_history (rest.1.0 ∙ ap (λ (l : List Entry). rest.0 ++ l) (sym is)) ∙ public_history-append rest.0 seen, rest.1.1)

-- what is seen up to f, up to an earlier g
upto-upto : (h : List Entry) (f g : ℕ) → g ≤ f → upto (upto h f) g ≡ upto h g
upto-upto [] f g le = refl
upto-upto (e ∷ h) f g le = go (nat_le e.time f) (nat_le e.time g) refl refl (upto-upto h f g le)
  where
    go : (x y : Bool) → nat_le e.time f ≡ x → nat_le e.time g ≡ y → upto (upto h f) g ≡ upto h g
        → upto (if x then e ∷ upto h f else upto h f) g ≡ (if y then e ∷ upto h g else upto h g)
    go true y p q k = (λ i. if q i then e ∷ upto (upto h f) g else upto (upto h f) g) ∙ ap (λ (l : List Entry). if y then e ∷ l else l) k
    go false true p q k = absurd (grind (arith, nat_tests, p, q, le))
    go false false p q k = k

made_by-append : (n : ℕ) (es fs : List public.Entry) → public.made_by n (es ++ fs) ≡ public.made_by n es ++ public.made_by n fs
made_by-append n [] fs = refl
made_by-append n (e ∷ es) fs = go (e.caller == n) (made_by-append n es fs)
  where
    go : (x : Bool) → public.made_by n (es ++ fs) ≡ public.made_by n es ++ public.made_by n fs
        → (if x then e ∷ public.made_by n (es ++ fs) else public.made_by n (es ++ fs)) ≡ (if x then e ∷ public.made_by n es else public.made_by n es) ++ public.made_by n fs
    go true k = ap (λ (l : List public.Entry). e ∷ l) k
    go false k = k

ascending-below : (a b : ℕ) (es : List public.Entry) → a ≤ b → Ascending b es → Ascending a es
ascending-below a b [] le h = tt
ascending-below a b (e ∷ es) le h = (let k = h.0 in omega arith, h.1)

ascending-made_by : (n floor : ℕ) (es : List public.Entry) → Ascending floor es → Ascending floor (public.made_by n es)
ascending-made_by n floor [] h = tt
ascending-made_by n floor (e ∷ es) h = go (e.caller == n) (ascending-made_by n e.time es h.1)
  where
    go : (x : Bool) → Ascending e.time (public.made_by n es) → Ascending floor (if x then e ∷ public.made_by n es else public.made_by n es)
    go true k = (h.0, k)
    go false k = ascending-below floor e.time (public.made_by n es) (let l = h.0 in omega arith) k

no-first : (es fs : List public.Entry) → es ++ fs ≡ [] → es ≡ []
no-first [] fs e = refl
no-first (x ∷ es) fs e = absurd cc

-- of a history that goes on from what was found: a caller's part of the one begins its part of the other
pub part-begins : (n front : ℕ) (found history : List public.Entry) → BeginsHistory found front history → BeginsHistory (public.made_by n found) front (public.made_by n history)
part-begins n front found history b = (public.made_by n b.0, ap (public.made_by n) b.1 ∙ made_by-append n found b.0, ascending-made_by n front b.0 b.2)

-- and who has no part of the one has none of the other
pub part-none : (n front : ℕ) (found history : List public.Entry) → BeginsHistory found front history → public.made_by n history ≡ [] → public.made_by n found ≡ []
part-none n front found history b none = no-first (public.made_by n found) (public.made_by n b.0) (sym (made_by-append n found b.0) ∙ sym (ap (public.made_by n) b.1) ∙ none)

module _ (c : Config) (w : World) (r : Invariant (of_words Any c.words) c w) where
  pub is-legal : IsLegal Any (zeros c.words) c.clock (public_history w.history)
  is-legal = legal-public Any c w.history (w.clock + 1) r.core.history.below r.core.history.legal

  pub nobody-else : (k : ℕ) → c.callers ≤ k → public.made_by k (public_history w.history) ≡ []
  nobody-else k le = sym (public_history-made_by k w.history) ∙ ap public_history (made_by-none (of_words Any c.words) c w.history k le r.core.history.legal)

  pub made-is : (n : ℕ) → public_history (w.views n).history.made ≡ public.made_by n (public_history w.history)
  made-is n = ap public_history (r.core.history.known n).made ∙ public_history-made_by n w.history

  pub seen-begins : (n : ℕ) → BeginsHistory (public_history (w.views n).history.seen) (w.views n).history.front (public_history w.history)
  seen-begins n = begins w.history (w.views n).history.seen (w.clock + 1) (w.views n).history.front r.core.history.below (r.core.history.known n).seen

  pub found-begins : (n : ℕ) → BeginsHistory (public_history (w.views n).fence.past.seen) (w.views n).fence.past.front (public_history w.history)
  found-begins n = begins w.history (w.views n).fence.past.seen (w.clock + 1) (w.views n).fence.past.front r.core.history.below (r.fence.past n).seen

  -- what caller m has seen begins what caller n found later
  pub seen-found : (m n : ℕ) → (w.views m).history.front ≤ (w.views n).fence.past.front
      → BeginsHistory (public_history (w.views m).history.seen) (w.views m).history.front (public_history (w.views n).fence.past.seen)
  seen-found m n le =
      let f = (w.views n).fence.past.front in
      let g = (w.views m).history.front in
      let found = (r.fence.past n).seen in
      let seen : (w.views m).history.seen ≡ upto (upto w.history f) g = (r.core.history.known m).seen ∙ sym (upto-upto w.history f g le) in
      subst (λ (l : List Entry). BeginsHistory (public_history (w.views m).history.seen) g (public_history l)) (sym found)
      (begins (upto w.history f) (w.views m).history.seen (f + 1) g (below-upto w.history (w.clock + 1) f r.core.history.below) seen)

  -- what caller n found is of the callers
  pub of-callers : (n : ℕ) → IsOfCallers c n (made_of (w.views n)) (taken_of (w.views n)) (taken_front_of (w.views n))
  of-callers n = record {
    nobody_else = λ k le. part-none k (taken_front_of (w.views n)) (taken_of (w.views n)) (public_history w.history) (found-begins n) (nobody-else k le);
    own =
        subst (BeginsHistory (public.made_by n (taken_of (w.views n))) (taken_front_of (w.views n))) (sym (made-is n))
        (part-begins n (taken_front_of (w.views n)) (taken_of (w.views n)) (public_history w.history) (found-begins n));
  }

-- of a caller whose moment it is
module _ (w : World) (m : CheckedCaller) (at : IsMomentOf w m) where
  abbrev c : Config
  c = config_of m

  pub is-part : IsPartOf (history_of w) m
  is-part = record {
    legal = is-legal c w at.rule;
    nobody_else = nobody-else c w at.rule;
    made = subst (λ (v : View). made_of v ≡ public.made_by (number_of m) (history_of w)) at.view (made-is c w at.rule (number_of m));
    seen = subst (λ (v : View). BeginsHistory (seen_of v) (front_of v) (history_of w)) at.view (seen-begins c w at.rule (number_of m));
    found = subst (λ (v : View). BeginsHistory (taken_of v) (taken_front_of v) (history_of w)) at.view (found-begins c w at.rule (number_of m));
  }

  pub has-moments : HasMomentsIn (history_of w) m
  has-moments log u x took grew =
      let now = record (known_to m) { fenced = x.fenced } in
      happened Any c (number_of m) (λ l. l ≡ log) u x (history_of w) now took (grows-extends x now grew) is-part.seen

  pub takes-all : TakesAllOf w m
  takes-all n from count word alg = (is-part.made, is-part.seen)

-- and of two of one memory
pub has-found : (w : World) (m n : CheckedCaller) → memory_of n ≡ memory_of m → IsMomentOf w m → IsMomentOf w n → HasFound n m
has-found w m n same a b =
    let part = is-part w m a in
    let found = (is-part w n b).found in
    record {
      made = subst (BeginsHistory (public.made_by (number_of m) (found_by n)) (found_until n)) (sym part.made) (part-begins (number_of m) (found_until n) (found_by n) (history_of w) found);
      seen =
          subst (λ (v : View). (known_to m).front ≤ taken_front_of v → BeginsHistory (known_to m).seen (known_to m).front (taken_of v)) b.view
          (subst (λ (v : View). front_of v ≤ taken_front_of (w.views (number_of n)) → BeginsHistory (seen_of v) (front_of v) (taken_of (w.views (number_of n)))) a.view
          (seen-found (config_of m) w a.rule (number_of m) (number_of n)));
      nobody_else = λ k le. part-none k (found_until n) (found_by n) (history_of w) found (part.nobody_else k le);
    }

-- a load of the clock shows it
pub clock-shows : (c : Config) (n : ℕ) (v : View) → LawAt (Invariant (of_words Any c.words) c) hear (FindsCallers c n) n v
clock-shows c n v w r is = let o = hears (of_words Any c.words) c n w r tt in record { rule = o.rule; advances = o.advances; shown = of-callers c w r n }
