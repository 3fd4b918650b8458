-- With one caller alone each record is as its last step there found or left it, as its step trace tells. So a record
-- that it sampled is found again as it was. Without this clause a caller that is alone could meet a conflict.
use Rattle.std.proofs.Common.{◌≡◌, ℕ, List, [], ◌∷◌, Bool, true, false, eqb, refl, sym, ap, ◌∙◌, ⊎_elim}
use Rattle.std.specs.Prelude.{◌==◌, ◌⊎◌, max, if◌then◌else◌, Option, Some, None}
use Rattle.std.proofs.lemmas.Bool.{eqb-true, eqb-false}
use Rattle.stm_model.specs.declared.config.Config.{Config}
use Rattle.rule_base.specs.declared.layout.At.{At}
use Rattle.rule_base.specs.declared.layout.At.TheVariants.{Clock, Lock, Gate, Base, Done, Status, Record, Slot, Heap}
use Rattle.rule_base.specs.declared.views.Act.{Act}
use Rattle.rule_base.specs.declared.views.Act.TheVariants.{Load, Store, Exchange, Raise}
use Rattle.rule_base.specs.declared.views.Steps.{Steps}
use Rattle.rule_base.specs.declared.views.TracedStep.{TracedStep}
use Rattle.rule_base.specs.declared.views.View.{View}
use Rattle.rule_base.specs.StepKinds.{StepKind, after_act, answer, answer_of, found_in, view_after, world_after, word_after}
use Rattle.rule_base.specs.Notes.{after_seat_load}
use Rattle.rule_base.specs.Lemmas.PutLemmas.{put-all}
use Rattle.rule_base.specs.World.{World, fetch, put, write}

-- the word that a step left, as far as the step trace tells it
abbrev pub left_by : Act → Option ℕ → Option ℕ
left_by Load found = found
left_by (Store value) found = Some value
left_by (Exchange old new) None = None
left_by (Exchange old new) (Some x) = Some (if x == old then new else x)
left_by (Raise least) None = None
left_by (Raise least) (Some x) = Some (max x least)

abbrev pub is_record : ℕ → At → Bool
is_record r Clock = false
is_record r Lock = false
is_record r Gate = false
is_record r Base = false
is_record r Done = false
is_record r (Status k) = false
is_record r (Record q) = r == q
is_record r (Slot s) = false
is_record r (Heap a) = false

-- what the last step at record r left there
abbrev pub left_at : ℕ → List TracedStep → Option ℕ
left_at r [] = None
left_at r (i ∷ is) = if is_record r i.place then left_by i.act i.found else left_at r is

abbrev pub Alone : Config → World → Type 0
Alone c w = c.callers ≡ 1 → (r x : ℕ) → left_at r (w.views 0).steps.step_trace ≡ Some x → w.records r ≡ x

records-write : (w : World) (p : At) (x r : ℕ) → is_record r p ≡ false → (write w p x).records r ≡ w.records r
records-write w Clock x r e = refl
records-write w Lock x r e = refl
records-write w Gate x r e = refl
records-write w Base x r e = refl
records-write w Done x r e = refl
records-write w (Status k) x r e = refl
records-write w (Record q) x r e = ap (λ (b : Bool). if b then x else w.records r) e
records-write w (Slot s) x r e = refl
records-write w (Heap a) x r e = refl

records-act : (w : World) (p : At) (act : Act) (r : ℕ) → is_record r p ≡ false → (after_act w p act).records r ≡ w.records r
records-act w p Load r e = refl
records-act w p (Store value) r e = records-write w p value r e
records-act w p (Exchange old new) r e = records-write w p (word_after (Exchange old new) (fetch w p)) r e
records-act w p (Raise least) r e = records-write w p (word_after (Raise least) (fetch w p)) r e

records-here : (w : World) (q x r : ℕ) → (r == q) ≡ true → (write w (Record q) x).records r ≡ x
records-here w q x r e = ap (λ (b : Bool). if b then x else w.records r) e

some-is : (a b : ℕ) → Some a ≡ Some b → a ≡ b
some-is a b e = ap number e
  where
    number : Option ℕ → ℕ
    number None = a
    number (Some n) = n

left-is : (w : World) (p : At) (act : Act) (r x : ℕ) → is_record r p ≡ true → left_by act (found_in act (answer_of act (fetch w p))) ≡ Some x → (after_act w p act).records r ≡ x
left-is w Clock act r x e l = absurd cc
left-is w Lock act r x e l = absurd cc
left-is w Gate act r x e l = absurd cc
left-is w Base act r x e l = absurd cc
left-is w Done act r x e l = absurd cc
left-is w (Status k) act r x e l = absurd cc
left-is w (Record q) Load r x e l = ap w.records (eqb-true r q e) ∙ some-is (w.records q) x l
left-is w (Record q) (Store value) r x e l = records-here w q value r e ∙ some-is value x l
left-is w (Record q) (Exchange old new) r x e l = records-here w q (word_after (Exchange old new) (w.records q)) r e ∙ some-is (word_after (Exchange old new) (w.records q)) x l
left-is w (Record q) (Raise least) r x e l = records-here w q (word_after (Raise least) (w.records q)) r e ∙ some-is (word_after (Raise least) (w.records q)) x l
left-is w (Slot s) act r x e l = absurd cc
left-is w (Heap a) act r x e l = absurd cc

-- the load of a split or a join is of no record
pub alone-seated : (c : Config) (w : World) (n : ℕ) (v : View) → v.steps ≡ (after_seat_load (w.views n)).steps → Alone c w → Alone c (record w { views = put w.views n v })
alone-seated c w n v own a sole r x e =
    let same : left_at r (put w.views n v 0).steps.step_trace ≡ left_at r (w.views 0).steps.step_trace = put-all w.views n v
    (λ m u. left_at r u.steps.step_trace ≡ left_at r (w.views m).steps.step_trace) (ap (λ (s : Steps). left_at r s.step_trace) own)
    (λ m d. refl) 0 in
    a sole r x (sym same ∙ e)

module _ (c : Config) (kind : StepKind) (n : ℕ) (w : World) where
  -- a step of caller 0, or one that leaves the records
  pub alone-kept : (kind.after w (w.views n) (answer kind w)).steps.step_trace ≡ (w.views n).steps.step_trace → (c.callers ≡ 1 → (n ≡ 0) ⊎ ((world_after kind n w).records ≡ w.records)) → Alone c w → Alone c (world_after kind n w)
  alone-kept own one a sole r x = go (eqb 0 n) refl
    where
      step_trace_of : View → List TracedStep
      step_trace_of v = v.steps.step_trace

      mine : (b : Bool) → is_record r kind.place ≡ b → (if b then left_by kind.act (found_in kind.act (answer kind w)) else left_at r (w.views 0).steps.step_trace) ≡ Some x → (after_act w kind.place kind.act).records r ≡ x
      mine true e l = left-is w kind.place kind.act r x e l
      mine false e l = records-act w kind.place kind.act r e ∙ a sole r x l

      go : (b : Bool) → eqb 0 n ≡ b → left_at r (if b then view_after kind w (w.views n) (answer kind w) else w.views 0).steps.step_trace ≡ Some x → (world_after kind n w).records r ≡ x
      go true e l =
          let z : 0 ≡ n = eqb-true 0 n e in
          mine (is_record r kind.place) refl (ap
          (λ (t : List TracedStep). if is_record r kind.place then left_by kind.act (found_in kind.act (answer kind w)) else left_at r t)
          (sym (own ∙ ap (λ (m : ℕ). step_trace_of (w.views m)) (sym z))) ∙ l)
      go false e l = ⊎_elim (λ z. absurd (eqb-false 0 n e (sym z))) (λ same. ap (λ (f : ℕ → ℕ). f r) same ∙ a sole r x l) (one sole)
