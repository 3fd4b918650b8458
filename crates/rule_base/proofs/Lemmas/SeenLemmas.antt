-- What follows in a history after what was seen of it.
use Rattle.std.proofs.Common.{◌≡◌, ℕ, ◌+◌, ◌<◌, List, [], ◌∷◌, ◌++◌, Bool, true, false, refl, sym, ap, arith}
use Rattle.std.specs.Prelude.{nat_le, if◌then◌else◌, All}
use Rattle.std.proofs.lemmas.Bool.Decides.{nat_tests}
use Rattle.std.proofs.lemmas.List.Elements.{All-nil, All-push, All-weaker, All-head, All-tail}
use Rattle.stm_model.specs.Histories.{Ascending}
use Rattle.stm_model.specs.Histories as public
use Rattle.stm_model.specs.HistoryLaws.{Within}
use Rattle.rule_base.specs.declared.entries.Entry.{Entry}
use Rattle.rule_base.specs.Bridge.{public_history, public_entry}
use Rattle.rule_base.specs.Lemmas.BridgeLemmas.{all_before, ascending_append}
use Rattle.rule_base.specs.History.{Below, upto}
use Rattle.rule_base.specs.Lemmas.HistoryLemmas.{upto-all}

abbrev IsRest : List Entry → List Entry → ℕ → ℕ → List Entry → Type 0
IsRest h front t f more = (h ≡ more ++ front) × Ascending f (public_history more) × All (λ (d : public.Entry). d.time < t) (public_history more)

-- after the entries up to f come later ones, in order
pub upto-rest : (h : List Entry) (t f : ℕ) → Below h t → (more : List Entry) × IsRest h (upto h f) t f more
upto-rest [] t f b = ([], (refl, tt, All-nil (λ (d : public.Entry). d.time < t)))
upto-rest (e ∷ h) t f b = go (nat_le e.time f) refl (upto-rest h e.time f b.1)
  where
    go : (x : Bool) → nat_le e.time f ≡ x → (more : List Entry) × IsRest h (upto h f) e.time f more → (more : List Entry) × IsRest (e ∷ h) (if x then e ∷ upto h f else upto h f) t f more
    go true q m = ([], (ap (λ k. e ∷ k) (sym (upto-all h e.time f b.1 (grind (arith, nat_tests, q)))), tt, All-nil (λ (d : public.Entry). d.time < t)))
    go false q m = (
      e ∷ m.0,
      (
        ap (λ k. e ∷ k) m.1.0,
        ascending_append f (public_history m.0) (public_entry e) m.1.1 (grind (arith, nat_tests, q)) m.1.2,
        All-push (λ (d : public.Entry). d.time < t) (public_history m.0) (public_entry e) (All-weaker (λ (d : public.Entry). d.time < e.time) (λ (d : public.Entry). d.time < t) (λ d l. let k = b.0 in omega arith) (public_history m.0) m.1.2) b.0,
      ),
    )

within-all : (t : ℕ) (es : List public.Entry) → All (λ (d : public.Entry). d.time < t + 1) es → Within t es
within-all t [] h = tt
within-all t (d ∷ es) h = let P : public.Entry → Type 0 = λ d. d.time < t + 1 in (let l = All-head P d es h in omega arith, within-all t es (All-tail P d es h))

-- all times are at most t
pub within-public : (h : List Entry) (t : ℕ) → Below h (t + 1) → Within t (public_history h)
within-public h t b = within-all t (public_history h) (all_before h (t + 1) b)
