-- Laws of cells, of the memory after a history, and of what is seen of it.
use Rattle.std.proofs.Common.{◌≡◌, ℕ, ◌+◌, ◌<◌, ◌≤◌, List, [], ◌∷◌, ◌++◌, Bool, true, false, refl, sym, ap, subst, arith}
use Rattle.std.specs.Prelude.{if◌then◌else◌, ◌==◌, ◌^◌, nat_le}
use Rattle.rule_base.specs.declared.entries.Cell.{Cell}
use Rattle.rule_base.specs.declared.entries.Entry.{Entry}
use Rattle.stm_model.specs.declared.config.Config.{Config}
use Rattle.rule_base.specs.History.{over, touches, without, Inside, Small, word_at, word_now, last_write, Below, made_by, upto, Legal}

pub over-miss : (cs : List Cell) (a d : ℕ) → touches cs a ≡ false → over cs a d ≡ d
over-miss [] a d m = refl
over-miss (c ∷ cs) a d m = grind (arith, over-miss cs a d)

pub over-hit : (cs : List Cell) (a d e : ℕ) → touches cs a ≡ true → over cs a d ≡ over cs a e
over-hit [] a d e m = grind arith
over-hit (c ∷ cs) a d e m = grind (arith, over-hit cs a d e)

pub touches-without : (cs : List Cell) (a b : ℕ) → touches (without cs a) b ≡ (if a == b then false else touches cs b)
touches-without [] a b = grind arith
touches-without (c ∷ cs) a b = grind (arith, touches-without cs a b)

pub over-without : (cs : List Cell) (a b d : ℕ) → over (without cs a) b d ≡ (if a == b then d else over cs b d)
over-without [] a b d = grind arith
over-without (c ∷ cs) a b d = grind (arith, over-without cs a b d)

-- a cell more
pub inside-more : (words : ℕ) (c : Cell) (cs : List Cell) → c.at < words → Inside words cs → Inside words (c ∷ cs)
inside-more words c cs low inside a t = grind (arith, low, inside a, t)

pub small-more : (c : Cell) (cs : List Cell) → c.value < 2 ^ 64 → Small cs → Small (c ∷ cs)
small-more c cs low small a d l = grind (arith, low, small a d l)

-- where no later entry writes a, its word at s is the latest
pub word_at-now : (h : List Entry) (s a : ℕ) → last_write h a ≤ s → word_at h s a ≡ word_now h a
word_at-now [] s a l = refl
word_at-now (e ∷ h) s a l = grind (arith, over-miss, over-hit, word_at-now h s a)

pub word_at-all : (h : List Entry) (t s a : ℕ) → Below h t → t ≤ s + 1 → word_at h s a ≡ word_now h a
word_at-all [] t s a b l = refl
word_at-all (e ∷ h) t s a b l = grind (arith, word_at-all h e.time s a b.1)

pub last_write-below : (h : List Entry) (t a : ℕ) → Below h t → last_write h a ≤ t
last_write-below [] t a b = grind arith
last_write-below (e ∷ h) t a b = grind (arith, last_write-below h e.time a b.1)

pub last_write-most : (h : List Entry) (t a : ℕ) → Below h (t + 1) → last_write h a ≤ t
last_write-most [] t a b = grind arith
last_write-most (e ∷ h) t a b = grind (arith, last_write-below h e.time a b.1)

pub below-more : (h : List Entry) (t u : ℕ) → Below h t → t ≤ u → Below h u
below-more [] t u b l = tt
below-more (e ∷ h) t u b l = (grind (arith, b.0, l), b.1)

-- all is seen from the latest time on
pub upto-all : (h : List Entry) (t f : ℕ) → Below h t → t ≤ f + 1 → upto h f ≡ h
upto-all [] t f b l = refl
upto-all (e ∷ h) t f b l = grind (arith, upto-all h e.time f b.1)

-- the memory after what is seen is that at the front
pub word_now-upto : (h : List Entry) (s a : ℕ) → word_now (upto h s) a ≡ word_at h s a
word_now-upto [] s a = refl
word_now-upto (e ∷ h) s a = grind (arith, word_now-upto h s a)

pub below-upto : (h : List Entry) (t f : ℕ) → Below h t → Below (upto h f) (f + 1)
below-upto [] t f b = tt
below-upto (e ∷ h) t f b = go (nat_le e.time f) refl (below-upto h e.time f b.1)
  where
    go : (x : Bool) → nat_le e.time f ≡ x → Below (upto h f) (f + 1) → Below (if x then e ∷ upto h f else upto h f) (f + 1)
    go true q k = (grind (arith, q), subst (λ (r : List Entry). Below r e.time) (sym (upto-all h e.time f b.1 (grind (arith, q)))) b.1)
    go false q k = k

-- what is seen up to f begins what is seen up to a later g
pub upto-begins : (h : List Entry) (t f g : ℕ) → Below h t → f ≤ g → (more : List Entry) × (upto h g ≡ more ++ upto h f)
upto-begins [] t f g b l = ([], refl)
upto-begins (e ∷ h) t f g b l = go (nat_le e.time f) (nat_le e.time g) refl refl (upto-begins h e.time f g b.1 l)
  where
    go : (x y : Bool) → nat_le e.time f ≡ x → nat_le e.time g ≡ y → (more : List Entry) × (upto h g ≡ more ++ upto h f)
        → (more : List Entry) × ((if y then e ∷ upto h g else upto h g) ≡ more ++ (if x then e ∷ upto h f else upto h f))
    go true true p q m = ([], grind (arith, p, q, upto-all h e.time f b.1, upto-all h e.time g b.1))
    go true false p q m = absurd (grind (arith, p, q, l))
    go false true p q m = (e ∷ m.0, ap (λ k. e ∷ k) m.1)
    go false false p q m = m

by_head : (h : List Entry) (t n : ℕ) (d : Entry) (r : List Entry) → Below h t → made_by h n ≡ d ∷ r → d.time < t
by_head [] t n d r b e = grind (arith, e)
by_head (x ∷ h) t n d r b e = grind (arith, e, by_head h x.time n d r b.1)

same_head : (d e : Entry) (h k : List Entry) → Below h d.time → Below k e.time → ((n : ℕ) → made_by (d ∷ h) n ≡ made_by (e ∷ k) n) → d ≡ e
same_head d e h k b c same = grind (arith, same d.caller, same e.caller, by_head h d.time e.caller e (made_by k e.caller) b, by_head k e.time d.caller d (made_by h d.caller) c)

same_rest : (d : Entry) (h k : List Entry) (n : ℕ) → made_by (d ∷ h) n ≡ made_by (d ∷ k) n → made_by h n ≡ made_by k n
same_rest d h k n e = grind (arith, e)

-- the entries of all callers determine the history: it is their merge
pub merged : (h k : List Entry) (t u : ℕ) → Below h t → Below k u → ((n : ℕ) → made_by h n ≡ made_by k n) → h ≡ k
merged [] [] t u b c same = refl
merged [] (e ∷ k) t u b c same = grind (arith, same e.caller)
merged (d ∷ h) [] t u b c same = grind (arith, same d.caller)
merged (d ∷ h) (e ∷ k) t u b c same =
    let q : d ≡ e = same_head d e h k b.1 c.1 same in
    let r : h ≡ k = merged h k d.time e.time b.1 c.1 (λ n. same_rest d h k n (rest n q)) in
    cc
  where
    rest : (n : ℕ) → d ≡ e → made_by (d ∷ h) n ≡ made_by (d ∷ k) n
    rest n q = grind (arith, same n, q)

module _ (good : (ℕ → ℕ) → Type 0) (c : Config) where
  -- the memory after a legal history is good
  pub legal-good : (h : List Entry) → Legal good c h → good (word_now h)
  legal-good [] l = l
  legal-good (e ∷ h) l = l.0.leaves

  -- and has words
  pub legal-small : (h : List Entry) (a : ℕ) → Legal good c h → word_now h a < 2 ^ 64
  legal-small [] a l = grind arith
  legal-small (e ∷ h) a l = l.0.writes_small a (word_now h a) (legal-small h a l.1)

  -- at each time
  pub small-always : (h : List Entry) (s a : ℕ) → Legal good c h → word_at h s a < 2 ^ 64
  small-always [] s a l = grind arith
  small-always (e ∷ h) s a l = by (nat_le e.time s) (small-always h s a l.1)
    where
      by : (x : Bool) → word_at h s a < 2 ^ 64 → (if x then over e.writes a (word_at h s a) else word_at h s a) < 2 ^ 64
      by true low = l.0.writes_small a (word_at h s a) low
      by false low = low

  -- what is seen of a legal history is legal
  pub legal-upto : (h : List Entry) (t f : ℕ) → Below h t → Legal good c h → Legal good c (upto h f)
  legal-upto [] t f b l = l
  legal-upto (e ∷ h) t f b l = go (nat_le e.time f) refl (legal-upto h e.time f b.1 l.1)
    where
      go : (x : Bool) → nat_le e.time f ≡ x → Legal good c (upto h f) → Legal good c (if x then e ∷ upto h f else upto h f)
      go true q k = subst (λ (r : List Entry). Legal good c (e ∷ r)) (sym (upto-all h e.time f b.1 (grind (arith, q)))) l
      go false q k = k

  -- nobody but the callers made an entry
  pub made_by-none : (h : List Entry) (n : ℕ) → c.callers ≤ n → Legal good c h → made_by h n ≡ []
  made_by-none [] n l g = refl
  made_by-none (e ∷ h) n l g = grind (arith, l, g.0.caller, made_by-none h n l g.1)
