-- An attempt of OrecLazy or OrecEager that is validated at the clock, alone, meets the clauses of a promoted one.
use Rattle.std.proofs.Common.{◌≡◌, ◌≢◌, ℕ, ◌+◌, ◌*◌, ◌≤◌, true, false, arith, refl, sym, subst, ap, ◌∙◌}
use Rattle.stm_model.specs.declared.alg.Alg.{Alg}
use Rattle.stm_model.specs.declared.alg.Alg.TheVariants.{Cgl, Tml, OrecLazy, OrecEager, RingSw, Serial}
use Rattle.stm_model.specs.declared.config.Config.{Config}
use Rattle.rule_base.specs.declared.views.View.{View}
use Rattle.stm_model.specs.Algorithms.{has_records}
use Rattle.rule_base.specs.History.{over, word_at, word_now, last_write}
use Rattle.rule_base.specs.Lemmas.HistoryLemmas.{over-miss, word_at-all}
use Rattle.rule_base.specs.Ranks.{Rec, rec_of, rank_one, home_of}
use Rattle.rule_base.specs.Ranks.Rec.{Free, Taken}
use Rattle.rule_base.specs.RunProjection.{run_projection}
use Rattle.rule_base.specs.World.{World, put}
use Rattle.rule_promoted.specs.PromotedRule.{direct_view, direct_projection, DirectRule, suit_projection, OrecSuits, Suits, DirectRuns}
use Rattle.rule_promoted.proofs.PromotedLaws.{direct_projection-own, suit_projection-own}
use Rattle.rule_orec.specs.OrecLaws.{taken-rec}
use Rattle.rule_orec.specs.OrecRule.{OrecProjection, orec_projection, Own, rank}
use Rattle.rule_orec.specs.OrecRely.{Full, owner-in}
use Rattle.rule_orec.specs.OrecSteps.{direct_attempt, direct_owned, HasStores}

module _ (home : ℕ → ℕ) (words : ℕ) where
  -- who alone is in an attempt, with no entry, has the memory under its stores in place in the heap
  pub alone-heap : (s : OrecProjection) (n : ℕ) → (s.views n).owned.inside ≡ true → (s.views n).owned.committed ≡ false
      → ((m : ℕ) → m ≢ n → (s.views m).owned.inside ≡ true → ⊥) → Full home words s → (a : ℕ)
      → s.heap a ≡ over (s.views n).owned.in_place a (word_now s.history a)
  alone-heap s n i d alone g a = go (s.records (home a)) refl
    where
      go : (k : Rec) → s.records (home a) ≡ k → s.heap a ≡ over (s.views n).owned.in_place a (word_now s.history a)
      go (Free v) is = let o = (g.own n i).owned in grind (arith, is, g.whole.clean a v is, o.in_place a, o.held (home a), over-miss (s.views n).owned.in_place a (word_now s.history a))
      go (Taken m) is = let o = (g.own n i).owned in let same : m ≢ n → ⊥ = λ other. alone m other (owner-in home words s g.whole (home a) m is) in grind (arith, is, g.whole.mixed a m is, same, d, o.back_done a)

  -- and its records are those whose stamps count
  pub alone-rank : (s : OrecProjection) (n : ℕ) → ((m : ℕ) → m ≢ n → (s.views m).owned.inside ≡ true → ⊥) → Full home words s → (r : ℕ) → rank s r ≡ rank_one (s.views n).owned r (s.records r)
  alone-rank s n alone g r = go (s.records r) refl
    where
      go : (k : Rec) → s.records r ≡ k → rank s r ≡ rank_one (s.views n).owned r k
      go (Free v) is = grind (arith, is)
      go (Taken m) is = let same : m ≢ n → ⊥ = λ other. alone m other (owner-in home words s g.whole r m is) in grind (arith, is, same)

-- THE GRANT: the attempt is validated at t, which is the clock
pub orec-granted : (c : Config) (alg : Alg) (n t : ℕ) (w x : World) (v : View) → has_records alg ≡ true → x.views ≡ put w.views n v
    → x.clock ≡ w.clock → x.heap ≡ w.heap → x.history ≡ w.history → x.base ≡ w.base → x.records ≡ w.records
    → v.attempt ≡ direct_attempt t (w.views n) → v.owned ≡ direct_owned (w.views n).owned → v.history.front ≡ t → v.lock.taken ≡ false → t ≡ w.clock
    → (w.views n).owned.inside ≡ true → (w.views n).owned.committed ≡ false → HasStores c.words (w.views n)
    → ((m : ℕ) → m ≢ n → (w.views m).owned.inside ≡ true → ⊥) → ((a : ℕ) → over (w.views n).attempt.reads a (word_at w.history t a) ≡ word_at w.history t a) → Full (home_of c) c.words (orec_projection w)
    → DirectRuns c alg n (run_projection x)
orec-granted c alg n t w x v has is clock heap history base records attempt owned front unlocked now i d stores alone sees g = record {
  direct = subst (DirectRule c.words) (sym at) direct;
  suits = suits alg has;
  ring = λ e. absurd (let f : has_records RingSw ≡ true = ap has_records (sym e) ∙ has in cc);
}
  where
    own : Own (home_of c) c.words (orec_projection w) n ((orec_projection w).views n)
    own = g.own n i

    direct : DirectRule c.words (record { clock = w.clock; heap = w.heap; history = w.history; own = record (direct_view (w.views n)) { attempt = direct_attempt t (w.views n); lock = v.lock; tml = v.tml; front = t } })
    direct = record {
      stored = λ a. alone-heap (home_of c) c.words (orec_projection w) n i d alone g a;
      start = now;
      front = now;
      sees = λ a. subst (λ (k : ℕ). over (w.views n).attempt.reads a k ≡ k) (word_at-all w.history (w.clock + 1) t a g.whole.below (let e = now in omega arith)) (sees a);
      reads_inside = own.attempt.reads_inside;
      stores_inside = stores.inside;
      stores_small = stores.small;
      unlocked = unlocked;
    }

    at : direct_projection n x ≡ record { clock = w.clock; heap = w.heap; history = w.history; own = record { attempt = direct_attempt t (w.views n); lock = v.lock; tml = v.tml; front = t } }
    at = direct_projection-own w x n v is ∙ (λ k. record { clock = clock k; heap = heap k; history = history k; own = record { attempt = attempt k; lock = v.lock; tml = v.tml; front = front k } })

    orec : OrecSuits (home_of c) (record {
      clock = w.clock;
      base = w.base;
      records = w.records;
      history = w.history;
      own = record { attempt = direct_attempt t (w.views n); tml = v.tml; owned = direct_owned (w.views n).owned };
    })
    orec = record {
      stamped =
          λ e a b.
          let s = g.whole.stamped a b in
          subst (λ (k : ℕ). 2 * last_write w.history a ≤ k) (alone-rank (home_of c) c.words (orec_projection w) n alone g (home_of c a)
          ∙ same (home_of c a) (rec_of (w.records (home_of c a)))) s;
      uncommitted = d;
      olds = own.owned.olds;
      older = λ e. absurd cc;
      raised = λ e r h. own.owned.raised r e h;
      locked = λ r h. (taken-rec (w.records r) n (own.owned.held r h)).0;
    }
      where
        same : (r : ℕ) (k : Rec) → rank_one (w.views n).owned r k ≡ rank_one (direct_owned (w.views n).owned) r k
        same r (Free u) = refl
        same r (Taken m) = refl

    suit_at : suit_projection n x
        ≡ record {
          clock = w.clock;
          base = w.base;
          records = w.records;
          history = w.history;
          own = record { attempt = direct_attempt t (w.views n); tml = v.tml; owned = direct_owned (w.views n).owned };
        }
    suit_at = suit_projection-own w x n v is ∙ (λ k. record { clock = clock k; base = base k; records = records k; history = history k; own = record { attempt = attempt k; tml = v.tml; owned = owned k } })

    suits : (a : Alg) → has_records a ≡ true → Suits (home_of c) a (suit_projection n x)
    suits Cgl e = absurd cc
    suits Tml e = absurd cc
    suits OrecLazy e = subst (OrecSuits (home_of c)) (sym suit_at) orec
    suits OrecEager e = subst (OrecSuits (home_of c)) (sym suit_at) orec
    suits RingSw e = absurd cc
    suits Serial e = absurd cc
