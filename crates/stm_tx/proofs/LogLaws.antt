-- What the logs of a running attempt have.
use Rattle.std.proofs.Common.{ℕ, ◌≡◌, ◌/◌, ◌%◌, List, Bool, true, false, refl, sym, ap, ◌∙◌, ◌⊎◌, inl, inr, subst, arith}
use Rattle.std.specs.Int.{bit_at}
use Rattle.std.specs.Prelude.{◌&&◌, not, slice_index}
use Rattle.stm_model.specs.Algorithms.{closes_gate}
use Rattle.stm_model.specs.declared.alg.Alg.{Alg}
use Rattle.stm_model.specs.declared.alg.Alg.TheVariants.{Cgl, Tml, OrecLazy, OrecEager, RingSw, Serial}
use Rattle.stm_model.specs.declared.config.Config.{Config}
use Rattle.rule_base.specs.Bridge.{addresses, items}
use Rattle.rule_base.specs.History.{member, touches}
use Rattle.rule_base.specs.declared.views.View.{View}
use Rattle.stm_rule.specs.declared.local.Local.{Local}
use Rattle.rule_base.specs.Own.{Own}
use Rattle.stm_rule.specs.Attempts.{IsInside, Keeps, Stands, good_by, own_of}
use Rattle.stm_rule.specs.Callers.{Handle}
use Rattle.stm_rule.proofs.StandLemmas.{inside-of}
use Rattle.stm_logs.specs.Filters.{filter_word}
use Rattle.stm_rule.specs.RecordsKept.{IsLazy, cells_of}
use Rattle.stm_rule.specs.EagerKept.{IsEager}
use Rattle.stm_rule.specs.RingKept.{IsRing}
use Rattle.stm_answers.specs.CallerState.{granted_under, written_under}
use Rattle.stm_gate.proofs.KeptLaws.{member-touched}
use Rattle.stm_gate.proofs.Standing.{in-of}
use Rattle.stm_tx.specs.Descs.{known}
use Rattle.stm_tx.specs.Rings.{IsLogged, HasSeen}
use Rattle.stm_tx.proofs.StripeLaws.{cells-member, filter-bit, mapped}

-- these have a log of all that is written, until the attempt is promoted
abbrev pub has_log : Alg → Bool
has_log Cgl = false
has_log Tml = false
has_log OrecLazy = true
has_log OrecEager = true
has_log RingSw = true
has_log Serial = false

module _ (good : List ℕ → Type 0) (c : Config) (n : ℕ) (l : Local) (v : View) (i : IsInside good c n l v) where
  by-alg : (b : Alg) (g : Bool) → l.algorithm ≡ b → l.granted ≡ g → Keeps c b g l v
  by-alg b g e f = subst (λ (a : Alg). Keeps c a g l v) e (subst (λ (h : Bool). Keeps c l.algorithm h l v) f i.keeps)

  -- by what contracts see of it
  module _ (b : Alg) (named : v.gate.algorithm ≡ b) (plain : (closes_gate b && granted_under v.gate.algorithm v.gate v.lock) ≡ false) where
    ungranted-by : has_log b ≡ true → v.gate.granted ≡ false
    ungranted-by = go b named plain
      where
        go : (a : Alg) → v.gate.algorithm ≡ a → (closes_gate a && granted_under v.gate.algorithm v.gate v.lock) ≡ false → has_log a ≡ true → v.gate.granted ≡ false
        go Cgl e p h = absurd cc
        go Tml e p h = absurd cc
        go OrecLazy e p h = ap (λ (a : Alg). granted_under a v.gate v.lock) (sym e) ∙ p
        go OrecEager e p h = ap (λ (a : Alg). granted_under a v.gate v.lock) (sym e) ∙ p
        go RingSw e p h = ap (λ (a : Alg). granted_under a v.gate v.lock) (sym e) ∙ p
        go Serial e p h = absurd cc

    written-by : has_log b ≡ true → written_under v.gate.algorithm v.gate.granted v (own_of l) ≡ written_under b false v (own_of l)
    written-by h = ap (λ (a : Alg). written_under a v.gate.granted v (own_of l)) named ∙ ap (λ (g : Bool). written_under b g v (own_of l)) (ungranted-by h)

    plain-by : has_log b ≡ true → l.granted ≡ false
    plain-by h = go b (sym i.named ∙ named) h (ungranted-by h)
      where
        go : (a : Alg) → l.algorithm ≡ a → has_log a ≡ true → v.gate.granted ≡ false → l.granted ≡ false
        go Cgl e h u = absurd cc
        go Tml e h u = absurd cc
        go OrecLazy e h u = ap (λ (a : Alg). closes_gate a && l.granted) (sym e) ∙ (sym i.granted ∙ u)
        go OrecEager e h u = ap (λ (a : Alg). closes_gate a && l.granted) (sym e) ∙ (sym i.granted ∙ u)
        go RingSw e h u = ap (λ (a : Alg). closes_gate a && l.granted) (sym e) ∙ (sym i.granted ∙ u)
        go Serial e h u = absurd cc

    -- THE WRITE LOG
    pub written-logged : has_log b ≡ true → (a : ℕ) → member (addresses (written_under v.gate.algorithm v.gate.granted v (own_of l))) a ≡ true → touches (cells_of l.writes.items) a ≡ true
    written-logged h a m = go b h (sym i.named ∙ named) (plain-by h) (ap (λ (ws : List (ℕ × ℕ)). member (addresses ws) a) (sym (written-by h)) ∙ m)
      where
        go : (w : Alg) → has_log w ≡ true → l.algorithm ≡ w → l.granted ≡ false → member (addresses (written_under w false v (own_of l))) a ≡ true → touches (cells_of l.writes.items) a ≡ true
        go Cgl h e p m = absurd cc
        go Tml h e p m = absurd cc
        go OrecLazy h e p m = sym (member-touched a (cells_of l.writes.items)) ∙ m
        go OrecEager h e p m =
            let k : IsEager c l v = by-alg OrecEager false e p in
            cells-member l.writes.items a ∙ (ap (λ (ws : List (ℕ × ℕ)). member (addresses ws) a) k.writes ∙ m)
        go RingSw h e p m = sym (member-touched a (cells_of l.writes.items)) ∙ m
        go Serial h e p m = absurd cc

  -- THE READ LOG
  pub lazy-reads : l.algorithm ≡ OrecLazy → l.granted ≡ false → items v.attempt.reads ≡ l.reads.items
  lazy-reads e p = let k : IsLazy c l v = by-alg OrecLazy false e p in sym k.reads

  pub eager-reads : l.algorithm ≡ OrecEager → l.granted ≡ false → items v.attempt.reads ≡ l.reads.items
  eager-reads e p = let k : IsEager c l v = by-alg OrecEager false e p in sym k.reads

  -- THE FILTER
  pub ring-reads : l.algorithm ≡ RingSw → l.granted ≡ false → (a : ℕ) → member (addresses (items v.attempt.reads)) a ≡ true → bit_at (slice_index l.loaded (a % 256 / 64)) (a % 64) ≡ 1
  ring-reads e p a m =
      let k : IsRing c l v = by-alg RingSw false e p in
      let i = a % 256 / 64 in
      ap (λ (x : ℕ). bit_at x (a % 64)) (k.read i (omega arith) ∙ ap (λ (xs : List ℕ). filter_word xs i) (mapped (items v.attempt.reads)))
      ∙ filter-bit (addresses (items v.attempt.reads)) a i refl m

pub named-log : (r a : Alg) → r ≡ a → (r ≡ OrecLazy) ⊎ ((r ≡ OrecEager) ⊎ (r ≡ RingSw)) → has_log a ≡ true
named-log r a e (inl f) = ap has_log (sym e ∙ f)
named-log r a e (inr (inl f)) = ap has_log (sym e ∙ f)
named-log r a e (inr (inr f)) = ap has_log (sym e ∙ f)

pub not-true : (b : Bool) → not b ≡ true → b ≡ false
not-true true e = absurd cc
not-true false e = refl

-- THE DESCRIPTOR, which was e at the call, has these fields
module _ {K : Type 0} (good : K → List ℕ → Type 0) (d e : Handle K) (n : ℕ) (l : Local) (same : d ≡ e) (own : d.own ≡ own_of l)
    (stands : Stands (good_by good d.who.rule) d.who.config n l d.view) (runs : (known e).running ≡ true) where
  back : (P : Handle K → Type 0) → P e → P d
  back P p = subst P (sym same) p

  inside : IsInside (good_by good d.who.rule) d.who.config n l d.view
  inside = inside-of (good_by good d.who.rule) d.who.config n l d.view (in-of d.view.gate.phase (back (λ p. (known p).running ≡ true) runs)) stands

  pub is-logged : (b : Alg) → has_log b ≡ true → (known e).alg ≡ b → (closes_gate b && (known e).granted) ≡ false → IsLogged e
  is-logged b h named plain = subst (λ (p : Handle K). IsLogged p) same
      (subst (λ (o : Own). (a : ℕ) → member (addresses (written_under d.view.gate.algorithm d.view.gate.granted d.view o)) a ≡ true → touches o.buffered a ≡ true) (sym own)
      (written-logged (good_by good d.who.rule) d.who.config n l d.view inside b (back (λ p. (known p).alg ≡ b) named)
      (back (λ p. (closes_gate b && (known p).granted) ≡ false) plain) h))

  pub seen-logged : (l.algorithm ≡ OrecLazy) ⊎ (l.algorithm ≡ OrecEager) → l.granted ≡ false → (a : ℕ) → HasSeen e a → member (addresses l.reads.items) a ≡ true
  seen-logged (inl f) p a m =
      ap (λ (ws : List (ℕ × ℕ)). member (addresses ws) a) (sym (lazy-reads (good_by good d.who.rule) d.who.config n l d.view inside f p))
      ∙ back (λ q. HasSeen q a) m
  seen-logged (inr f) p a m =
      ap (λ (ws : List (ℕ × ℕ)). member (addresses ws) a) (sym (eager-reads (good_by good d.who.rule) d.who.config n l d.view inside f p))
      ∙ back (λ q. HasSeen q a) m

  pub seen-loaded : l.algorithm ≡ RingSw → l.granted ≡ false → (a : ℕ) → HasSeen e a → bit_at (slice_index l.loaded (a % 256 / 64)) (a % 64) ≡ 1
  seen-loaded f p a m = ring-reads (good_by good d.who.rule) d.who.config n l d.view inside f p a (back (λ q. HasSeen q a) m)
