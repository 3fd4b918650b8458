-- The law of a kind gives what a step of the table asks.
use Rattle.std.proofs.Common.{◌≡◌, ℕ, ◌<◌, List, Bool, true, false, set, sym, refl, ap, ◌∙◌, subst, arith}
use Rattle.std.proofs.lemmas.List.{set-get_or}
use Rattle.std.specs.Prelude.{slice_index, slice_set, if◌then◌else◌, ◌==◌}
use prog.Atomic.{either}
use Rattle.atomic_table.specs.Table.{Me, Step, Allows, keeps}
use Rattle.rule_base.specs.declared.layout.At.{At}
use Rattle.stm_model.specs.declared.config.Config.{Config}
use Rattle.rule_base.specs.declared.seats.Role.TheVariants.{Caller}
use Rattle.rule_base.specs.declared.seats.SeatView.{SeatView}
use Rattle.rule_base.specs.declared.views.View.{View}
use Rattle.rule_base.specs.Places.{offset, size, InRange}
use Rattle.rule_base.proofs.Lemmas.SeatLemmas.{seats-step}
use Rattle.rule_base.specs.StepKinds.{StepKind, after_act, word_after, answer_of, answer, view_after, world_after, StepLaw, LawAt}
use Rattle.rule_base.specs.declared.views.Act.{Act}
use Rattle.rule_base.specs.declared.views.Act.TheVariants.{Load, Store, Exchange, Raise}
use Rattle.rule_base.proofs.Lemmas.WordLemmas.{offset-inside, lies-write, fetch-same}
use Rattle.rule_base.specs.World.{World, put, fetch, Lies}
use Rattle.stm_rule.specs.declared.stm.Key.{Key}
use Rattle.stm_rule.specs.Kept.{Rule, Kept, told}

-- a law for all views gives one for each that may
pub law_of : (Rule : World → Type 0) (kind : StepKind) (shows : World → View → ℕ → Type 0) (n : ℕ) (May : View → Type 0) (v : View) → StepLaw Rule kind shows n May → May v → LawAt Rule kind shows n v
law_of Rule kind shows n May v law may w r is = law w r (subst May (sym is) may)

pub either_if : (b : Bool) (x y : ℕ) → (if b then x else y) ≡ either b x y
either_if true x y = refl
either_if false x y = refl

-- the words after an act
lies_act : (c : Config) (w : World) (ws : List ℕ) (p : At) (a : Act) → Lies c w ws → InRange c p → Lies c (after_act w p a) (set ws (offset c p) (word_after a (fetch w p)))
lies_act c w ws p Load l r = subst (Lies c w) (sym (ap (set ws (offset c p)) (sym (l.each p r)) ∙ set-get_or ws (offset c p) 0)) l
lies_act c w ws p (Store value) l r = lies-write c w ws p value l r
lies_act c w ws p (Exchange old new) l r = lies-write c w ws p (if fetch w p == old then new else fetch w p) l r
lies_act c w ws p (Raise least) l r = lies-write c w ws p (word_after (Raise least) (fetch w p)) l r

module _ {K : Type 0} (good : K → List ℕ → Type 0) (c : Config) (rule : K) (kind : StepKind) (shows : World → View → ℕ → Type 0) (n id : ℕ) (m : Me (Unit {0}) (SeatView K)) (st : Step (Unit {0})) where
  -- f is what the table does to the word, and back what it answers
  pub allows : (slots word : ℕ) (f back : ℕ → ℕ) → word ≡ offset c kind.place → InRange c kind.place → ((x : ℕ) → word_after kind.act x ≡ f x) → ((x : ℕ) → answer_of kind.act x ≡ back x) → m.0.who.role ≡ Caller n
      → LawAt (Rule good c rule) kind shows n m.0.view → Allows (Kept good (record { config = c; rule = rule })) slots id m word f (λ x m'. told kind shows st m (back x) m')
  allows slots word f back where_is room word_is answer_is role law s k sized at under =
      let w : World = k.world in
      let x : ℕ = fetch w kind.place in
      let is : w.views n ≡ m.0.view = k.seats.here id n m.0 at role in
      let there : slice_index s.words word ≡ x = ap (λ i. slice_index s.words i) where_is ∙ k.lies.each kind.place room in
      let o = law w k.holds is in
      let t : ℕ = answer kind w in
      let t_is : t ≡ back (slice_index s.words word) = answer_is x ∙ ap back (sym there) in
      let v' : View = view_after kind w (w.views n) t in
      let after : slice_set s.words (offset c kind.place) (word_after kind.act x) ≡ slice_set s.words word (f (slice_index s.words word)) =
      ap (λ i. slice_set s.words i (word_after kind.act x)) (sym where_is) ∙ ap (λ q. slice_set s.words word q) (word_is x ∙ ap f (sym there)) in
      let acted : Lies c (after_act w kind.place kind.act) (slice_set s.words (offset c kind.place) (word_after kind.act x)) = lies_act c w s.words kind.place kind.act k.lies room in
      let lies : Lies c (world_after kind n w) (slice_set s.words (offset c kind.place) (word_after kind.act x)) = record {
        long = acted.long;
        each = λ p r. acted.each p r ∙ sym (fetch-same (after_act w kind.place kind.act) (kind.grown w (w.views n) t) (put w.views n v') p);
      } in
      let seen : v' ≡ view_after kind w m.0.view t = ap (λ (u : View). view_after kind w u t) is in (
        record m.0 { view = v' },
        keeps,
        tt,
        record {
          world = world_after kind n w;
          lies = subst (Lies c (world_after kind n w)) after lies;
          seats = seats-step rule c w (world_after kind n w) s.views id n m.0 v' k.seats at role o.advances refl;
          holds = o.rule;
        },
        subst (λ (q : ℕ). told kind shows st m q (record m.0 { view = v' }, m.1)) t_is
            ((w, subst (λ (u : View). shows w u t) is o.shown, record { here = λ j e. k.seats.here id j m.0 at e; joined = λ g h. k.seats.joined id m.0 g at h }, ap (λ (u : View). record m.0 { view = u }) seen), refl),
      )

  pub allows_at : (key : Key K) → key ≡ record { config = c; rule = rule } → (slots word : ℕ) (f back : ℕ → ℕ) → word ≡ offset c kind.place
      → InRange c kind.place → ((x : ℕ) → word_after kind.act x ≡ f x) → ((x : ℕ) → answer_of kind.act x ≡ back x) → m.0.who.role ≡ Caller n
      → LawAt (Rule good c rule) kind shows n m.0.view → Allows (Kept good key) slots id m word f (λ x m'. told kind shows st m (back x) m')
  allows_at key is slots word f back where_is room word_is answer_is role law =
      subst (λ (k : Key K). Allows (Kept good k) slots id m word f (λ x m'. told kind shows st m (back x) m')) (sym is) (allows slots word f back where_is room word_is answer_is role law)

-- the word lies in the table
pub inside : (c : Config) (kind : StepKind) (word words : ℕ) → word ≡ offset c kind.place → InRange c kind.place → words ≡ size c → word < words
inside c kind word words where_is room is = let o = offset-inside c kind.place room in omega arith
