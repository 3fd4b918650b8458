-- Each step keeps the clauses of the fence: those of others by leaving the range alone.
use Rattle.std.proofs.Common.{◌≡◌, ℕ, ◌+◌, ◌<◌, ◌≤◌, List, [], ◌∷◌, Bool, true, false, eqb, arith, refl, sym, subst, ap, ◌∙◌, le_refl}
use Rattle.std.specs.Prelude.{if◌then◌else◌}
use Rattle.std.proofs.lemmas.Bool.{eqb-true, eqb-false}
use Rattle.std.proofs.Math.Path.{fun_ext}
use Rattle.stm_model.specs.declared.config.Config.{Config}
use Rattle.rule_base.specs.declared.entries.Entry.{Entry}
use Rattle.rule_base.specs.declared.views.FenceView.{FenceView}
use Rattle.rule_base.specs.declared.views.Phase.TheVariants.{In}
use Rattle.rule_base.specs.declared.views.View.{View}
use Rattle.rule_base.specs.Encodings.{fence_of, fence_owner, fence_number, fenced, IsNamed}
use Rattle.rule_base.specs.Lemmas.EncodingLemmas.{fence_owner-number, fenced-inside, fenced-none}
use Rattle.rule_base.specs.Fence.{heap_without_fence, owes, FenceProjection, fence_projection, KnowsPast, FenceHolder, FenceRule}
use Rattle.rule_base.specs.FenceSteps.{no_fence}
use Rattle.rule_base.specs.History.{over, touches, word_now, upto, Below}
use Rattle.rule_base.specs.Lemmas.HistoryLemmas.{over-miss, upto-all}
use Rattle.rule_base.specs.Lemmas.PutLemmas.{put-all, put-else, parts-put}
use Rattle.rule_base.specs.World.{World, put, parts}

-- leaving the fence out hides nothing outside the range
pub heap_without_fence-out : (fence : ℕ) (heap : ℕ → ℕ) (h : List Entry) (a : ℕ) → fenced fence a ≡ false → heap_without_fence fence heap h a ≡ heap a
heap_without_fence-out fence heap h a e = ap (λ (b : Bool). if b then word_now h a else heap a) e

-- and nothing where there is no fence
pub heap_without_fence-none : (heap : ℕ → ℕ) (h : List Entry) → heap_without_fence 0 heap h ≡ heap
heap_without_fence-none heap h = fun_ext (λ a. heap_without_fence-out 0 heap h a (fenced-none a))

-- nor where the memory lies in the range
pub heap_without_fence-rest : (fence : ℕ) (heap : ℕ → ℕ) (h : List Entry) → ((a : ℕ) → fenced fence a ≡ true → heap a ≡ word_now h a) → heap_without_fence fence heap h ≡ heap
heap_without_fence-rest fence heap h lies = fun_ext (λ a. go a (fenced fence a) refl)
  where
    go : (a : ℕ) (b : Bool) → fenced fence a ≡ b → (if b then word_now h a else heap a) ≡ heap a
    go a true e = sym (lies a e)
    go a false e = refl

-- a store outside the range
pub heap_without_fence-put : (fence : ℕ) (heap : ℕ → ℕ) (h : List Entry) (a x : ℕ) → fenced fence a ≡ false → put (heap_without_fence fence heap h) a x ≡ heap_without_fence fence (put heap a x) h
heap_without_fence-put fence heap h a x out = fun_ext (put-all (heap_without_fence fence heap h) a x (λ b y. y ≡ heap_without_fence fence (put heap a x) h b)
    (sym (heap_without_fence-out fence (put heap a x) h a out ∙ here))
    (λ b d. ap (λ k. if fenced fence b then word_now h b else k) (sym (put-else heap a b x d))))
  where
    here : put heap a x a ≡ x
    here = grind arith

-- an entry that writes nothing in the range
pub heap_without_fence-entry : (fence : ℕ) (heap : ℕ → ℕ) (h : List Entry) (e : Entry)
    → ((a : ℕ) → touches e.writes a ≡ true → fenced fence a ≡ false)
    → heap_without_fence fence heap h ≡ heap_without_fence fence heap (e ∷ h)
heap_without_fence-entry fence heap h e apart = fun_ext (λ a. go a (fenced fence a) refl)
  where
    clear : (a : ℕ) (b : Bool) → touches e.writes a ≡ b → fenced fence a ≡ true → touches e.writes a ≡ false
    clear a true t f = absurd (let q : true ≡ false = sym f ∙ apart a t in cc)
    clear a false t f = t

    go : (a : ℕ) (b : Bool) → fenced fence a ≡ b → (if b then word_now h a else heap a) ≡ (if b then word_now (e ∷ h) a else heap a)
    go a true f = sym (over-miss e.writes a (word_now h a) (clear a (touches e.writes a) refl f))
    go a false f = refl

-- and leaves the memory there as it was
pub entry-apart : (fence : ℕ) (h : List Entry) (e : Entry) → ((a : ℕ) → touches e.writes a ≡ true → fenced fence a ≡ false) → (a : ℕ) → fenced fence a ≡ true → word_now (e ∷ h) a ≡ word_now h a
entry-apart fence h e apart a f = over-miss e.writes a (word_now h a) (clear (touches e.writes a) refl)
  where
    clear : (b : Bool) → touches e.writes a ≡ b → b ≡ false
    clear true t = absurd (let q : true ≡ false = sym f ∙ apart a t in cc)
    clear false t = refl

-- what stands of the holder, where the range and what lies there stay
pub holder-stays : (s t : FenceProjection) (v : FenceView) → t.fence ≡ s.fence → ((a : ℕ) → fenced s.fence a ≡ true → t.heap a ≡ s.heap a)
    → ((a : ℕ) → fenced s.fence a ≡ true → word_now t.history a ≡ word_now s.history a) → FenceHolder s v → FenceHolder t v
holder-stays s t v fence heap word h = record {
  stored = λ a e. let f : fenced s.fence a ≡ true = ap (λ k. fenced k a) (sym fence) ∙ e in heap a f ∙ (h.stored a f ∙ ap (over v.stores a) (sym (word a f)));
  still = λ a e. let f : fenced s.fence a ≡ true = ap (λ k. fenced k a) (sym fence) ∙ e in word a f ∙ h.still a f;
  sees = λ a. go a (touches v.reads a) refl;
  reads_inside = λ a e. ap (λ k. fenced k a) fence ∙ h.reads_inside a e;
  stores_inside = λ a e. ap (λ k. fenced k a) fence ∙ h.stores_inside a e;
  stores_small = h.stores_small;
}
  where
    go : (a : ℕ) (b : Bool) → touches v.reads a ≡ b → over v.reads a (word_now t.history a) ≡ word_now t.history a
    go a true e = let w = word a (h.reads_inside a e) in subst (λ (k : ℕ). over v.reads a k ≡ k) (sym w) (h.sees a)
    go a false e = over-miss v.reads a (word_now t.history a) e

-- later entries come later
pub past-stays : (s t : FenceProjection) (v : FenceView) → s.clock ≤ t.clock → ((f : ℕ) → f ≤ s.clock → upto t.history f ≡ upto s.history f) → KnowsPast s v → KnowsPast t v
past-stays s t v up seen p = record { seen = p.seen ∙ sym (seen v.past.front p.front); front = (let l = p.front in omega arith) }

module _ (c : Config) where
  fence_projection-put : (w x : World) (n : ℕ) (v : View) → x.views ≡ put w.views n v
      → fence_projection x
      ≡ record {
        clock = x.clock;
        fence = fence_of x.gate;
        heap = x.heap;
        history = x.history;
        views = put (fence_projection w).views n v.fence;
        phases = put (fence_projection w).phases n v.gate.phase;
        owed = put (fence_projection w).owed n (owes v);
      }
  fence_projection-put w x n v is = λ i. record {
    clock = x.clock;
    fence = fence_of x.gate;
    heap = x.heap;
    history = x.history;
    views = (ap (parts (λ (u : View). u.fence)) is ∙ parts-put (λ (u : View). u.fence) w.views n v) i;
    phases = (ap (parts (λ (u : View). u.gate.phase)) is ∙ parts-put (λ (u : View). u.gate.phase) w.views n v) i;
    owed = (ap (parts owes) is ∙ parts-put owes w.views n v) i;
  }

  -- A STEP OF ANY OTHER KIND: it leaves the fence, what lies there, and what its caller knows of it,
  -- and owes nothing there afterwards
  pub fence-stays : (w x : World) (n : ℕ) (v : View) → x.views ≡ put w.views n v → fence_of x.gate ≡ fence_of w.gate → w.clock ≤ x.clock
      → ((a : ℕ) → fenced (fence_of w.gate) a ≡ true → x.heap a ≡ w.heap a)
      → ((a : ℕ) → fenced (fence_of w.gate) a ≡ true → word_now x.history a ≡ word_now w.history a)
      → ((f : ℕ) → f ≤ w.clock → upto x.history f ≡ upto w.history f)
      → v.fence ≡ (w.views n).fence → ((a : ℕ) → v.gate.phase ≡ In → owes v a ≡ true → fenced (fence_of w.gate) a ≡ false)
      → FenceRule c (fence_projection w) → FenceRule c (fence_projection x)
  fence-stays w x n v is fence up heap word seen own apart r = subst (FenceRule c) (sym (fence_projection-put w x n v is)) (record {
    mine = put-all (fence_projection w).views n v.fence (λ m u. u.holds ≡ true → (fence_owner (fence_of x.gate) ≡ 1 + m) × (fence_of x.gate ≡ u.number))
        (λ t. let k = r.mine n (ap (λ (u : FenceView). u.holds) (sym own) ∙ t) in (ap fence_owner fence ∙ k.0, fence ∙ (k.1 ∙ ap (λ (u : FenceView). u.number) (sym own))))
        (λ m d t. let k = r.mine m t in (ap fence_owner fence ∙ k.0, fence ∙ k.1));
    owner = put-all (fence_projection w).views n v.fence (λ m u. fence_owner (fence_of x.gate) ≡ 1 + m → u.holds ≡ true)
        (λ e. ap (λ (u : FenceView). u.holds) own ∙ r.owner n (ap fence_owner (sym fence) ∙ e))
        (λ m d e. r.owner m (ap fence_owner (sym fence) ∙ e));
    none = λ e. fence ∙ r.none (ap fence_owner (sym fence) ∙ e);
    off = λ e. fence ∙ r.off e;
    few = put-all (fence_projection w).views n v.fence (λ m u. u.holds ≡ true → m < c.callers) (λ t. r.few n (ap (λ (u : FenceView). u.holds) (sym own) ∙ t)) (λ m d t. r.few m t);
    inside = λ a e. r.inside a (ap (λ k. fenced k a) (sym fence) ∙ e);
    holder = put-all (fence_projection w).views n v.fence (λ m u. u.holds ≡ true → FenceHolder after u)
        (λ t. kept v.fence (subst (λ (u : FenceView). FenceHolder (fence_projection w) u) (sym own) (r.holder n (ap (λ (u : FenceView). u.holds) (sym own) ∙ t))))
        (λ m d t. kept (w.views m).fence (r.holder m t));
    past = put-all (fence_projection w).views n v.fence (λ m u. KnowsPast after u)
        (past-stays (fence_projection w) after v.fence up seen (subst (λ (u : FenceView). KnowsPast (fence_projection w) u) (sym own) (r.past n)))
        (λ m d. past-stays (fence_projection w) after (w.views m).fence up seen (r.past m));
    apart = λ m a p o. ap (λ k. fenced k a) fence ∙ other m a (eqb m n) (λ e. eqb-true m n e) (λ e. eqb-false m n e) p o;
  })
    where
      after : FenceProjection
      after =
          record {
            clock = x.clock;
            fence = fence_of x.gate;
            heap = x.heap;
            history = x.history;
            views = put (fence_projection w).views n v.fence;
            phases = put (fence_projection w).phases n v.gate.phase;
            owed = put (fence_projection w).owed n (owes v);
          }

      kept : (u : FenceView) → FenceHolder (fence_projection w) u → FenceHolder after u
      kept u h = holder-stays (fence_projection w) after u fence heap word h

      here : (m : ℕ) → m ≡ n → {A : Type 0} (f : ℕ → A) (y : A) → put f n y m ≡ y
      here m e f y = grind (arith, e)

      other : (m a : ℕ) (b : Bool) → (b ≡ true → m ≡ n) → (b ≡ false → m ≡ n → ⊥) → put (fence_projection w).phases n v.gate.phase m ≡ In
          → put (fence_projection w).owed n (owes v) m a ≡ true → fenced (fence_of w.gate) a ≡ false
      other m a true e d p o = apart a (sym (here m (e refl) (fence_projection w).phases v.gate.phase) ∙ p) (ap (λ (f : ℕ → Bool). f a) (sym (here m (e refl) (fence_projection w).owed (owes v))) ∙ o)
      other m a false e d p o = r.apart m a (sym (put-else (fence_projection w).phases n m v.gate.phase (d refl)) ∙ p) (ap (λ (f : ℕ → Bool). f a) (sym (put-else (fence_projection w).owed n m (owes v) (d refl))) ∙ o)

  -- two callers have no fence at once
  pub one-holder : (s : FenceProjection) (m n : ℕ) → FenceRule c s → (s.views m).holds ≡ true → (s.views n).holds ≡ true → m ≡ n
  one-holder s m n r hm hn = let a = (r.mine m hm).0 in let b = (r.mine n hn).0 in omega arith

  -- A STEP OF THE HOLDER, which keeps its fence: what is said of it is made anew
  pub fence-held : (w x : World) (n : ℕ) (v : View) → x.views ≡ put w.views n v → fence_of x.gate ≡ fence_of w.gate → w.clock ≤ x.clock
      → ((f : ℕ) → f ≤ w.clock → upto x.history f ≡ upto w.history f) → (w.views n).fence.holds ≡ true → v.fence.holds ≡ true
      → v.fence.number ≡ (w.views n).fence.number
      → FenceHolder (record {
        clock = x.clock;
        fence = fence_of x.gate;
        heap = x.heap;
        history = x.history;
        views = put (fence_projection w).views n v.fence;
        phases = put (fence_projection w).phases n v.gate.phase;
        owed = put (fence_projection w).owed n (owes v);
      }) v.fence
      → KnowsPast (record {
        clock = x.clock;
        fence = fence_of x.gate;
        heap = x.heap;
        history = x.history;
        views = put (fence_projection w).views n v.fence;
        phases = put (fence_projection w).phases n v.gate.phase;
        owed = put (fence_projection w).owed n (owes v);
      }) v.fence
      → v.gate.phase ≡ (w.views n).gate.phase → owes v ≡ owes (w.views n)
      → FenceRule c (fence_projection w) → FenceRule c (fence_projection x)
  fence-held w x n v is fence up seen has holds number holder past phase owed r = subst (FenceRule c) (sym (fence_projection-put w x n v is)) (record {
    mine = put-all (fence_projection w).views n v.fence (λ m u. u.holds ≡ true → (fence_owner (fence_of x.gate) ≡ 1 + m) × (fence_of x.gate ≡ u.number))
        (λ t. let k = r.mine n has in (ap fence_owner fence ∙ k.0, fence ∙ (k.1 ∙ sym number)))
        (λ m d t. absurd (d (one-holder (fence_projection w) m n r t has)));
    owner = put-all (fence_projection w).views n v.fence (λ m u. fence_owner (fence_of x.gate) ≡ 1 + m → u.holds ≡ true)
        (λ e. holds)
        (λ m d e. r.owner m (ap fence_owner (sym fence) ∙ e));
    none = λ e. fence ∙ r.none (ap fence_owner (sym fence) ∙ e);
    off = λ e. fence ∙ r.off e;
    few = put-all (fence_projection w).views n v.fence (λ m u. u.holds ≡ true → m < c.callers) (λ t. r.few n has) (λ m d t. r.few m t);
    inside = λ a e. r.inside a (ap (λ k. fenced k a) (sym fence) ∙ e);
    holder = put-all (fence_projection w).views n v.fence (λ m u. u.holds ≡ true → FenceHolder after u)
        (λ t. holder)
        (λ m d t. absurd (d (one-holder (fence_projection w) m n r t has)));
    past = put-all (fence_projection w).views n v.fence (λ m u. KnowsPast after u) past (λ m d. past-stays (fence_projection w) after (w.views m).fence up seen (r.past m));
    apart = put-all (fence_projection w).views n v.fence (λ m u. (a : ℕ) → after.phases m ≡ In → after.owed m a ≡ true → fenced (fence_of x.gate) a ≡ false)
        (λ a p o.
        ap (λ k. fenced k a) fence
        ∙ r.apart n a (sym (here n refl (fence_projection w).phases v.gate.phase ∙ phase) ∙ p)
        (ap (λ (f : ℕ → Bool). f a) (sym (here n refl (fence_projection w).owed (owes v) ∙ owed)) ∙ o))
        (λ m d a p o.
        ap (λ k. fenced k a) fence
        ∙ r.apart m a (sym (put-else (fence_projection w).phases n m v.gate.phase d) ∙ p)
        (ap (λ (f : ℕ → Bool). f a) (sym (put-else (fence_projection w).owed n m (owes v) d)) ∙ o));
  })
    where
      after : FenceProjection
      after =
          record {
            clock = x.clock;
            fence = fence_of x.gate;
            heap = x.heap;
            history = x.history;
            views = put (fence_projection w).views n v.fence;
            phases = put (fence_projection w).phases n v.gate.phase;
            owed = put (fence_projection w).owed n (owes v);
          }

      here : (m : ℕ) → m ≡ n → {A : Type 0} (f : ℕ → A) (y : A) → put f n y m ≡ y
      here m e f y = grind (arith, e)

  -- A FENCE COMES, where there was none, nobody is in an attempt, and the memory lies in the heap
  pub fence-comes : (w x : World) (n from count : ℕ) (v : View) → x.views ≡ put w.views n v → x.clock ≡ w.clock → x.heap ≡ w.heap
      → x.history ≡ w.history → c.fence ≡ true → n < c.callers → fence_of w.gate ≡ 0 → fence_of x.gate ≡ fence_number n from count
      → IsNamed n from count → from + count ≤ c.words → Below w.history (w.clock + 1)
      → v.fence ≡ record { holds = true; number = fence_number n from count; past = record { seen = w.history; front = w.clock }; reads = []; stores = [] }
      → ((a : ℕ) → w.heap a ≡ word_now w.history a) → ((m : ℕ) → (put (fence_projection w).phases n v.gate.phase m) ≡ In → ⊥)
      → FenceRule c (fence_projection w) → FenceRule c (fence_projection x)
  fence-comes w x n from count v is clock heap history on caller was fence named inside below own lies out r = subst (FenceRule c) (sym (fence_projection-put w x n v is)) (record {
    mine = put-all (fence_projection w).views n v.fence (λ m u. u.holds ≡ true → (fence_owner (fence_of x.gate) ≡ 1 + m) × (fence_of x.gate ≡ u.number))
        (λ t. (owner_now, fence ∙ ap (λ (u : FenceView). u.number) (sym own)))
        (λ m d t. absurd (nobody m t));
    owner = put-all (fence_projection w).views n v.fence (λ m u. fence_owner (fence_of x.gate) ≡ 1 + m → u.holds ≡ true)
        (λ e. ap (λ (u : FenceView). u.holds) own)
        (λ m d e. absurd (d (let k = owner_now in omega arith)));
    none = λ e. absurd (let k = owner_now in omega arith);
    off = λ e. absurd (let f : true ≡ false = sym on ∙ e in cc);
    few = put-all (fence_projection w).views n v.fence (λ m u. u.holds ≡ true → m < c.callers) (λ t. caller) (λ m d t. absurd (nobody m t));
    inside = λ a e. fenced-inside n from count c.words a named inside (ap (λ k. fenced k a) (sym fence) ∙ e);
    holder = put-all (fence_projection w).views n v.fence (λ m u. u.holds ≡ true → FenceHolder after u)
        (λ t. subst (FenceHolder after) (sym own) (record {
          stored = λ a e. ap (λ (f : ℕ → ℕ). f a) heap ∙ (lies a ∙ ap (λ (h : List Entry). word_now h a) (sym history));
          still = λ a e. ap (λ (h : List Entry). word_now h a) history;
          sees = λ a. refl;
          reads_inside = λ a e. absurd cc;
          stores_inside = λ a e. absurd cc;
          stores_small = λ a d l. l;
        }))
        (λ m d t. absurd (nobody m t));
    past = put-all (fence_projection w).views n v.fence (λ m u. KnowsPast after u)
        (subst (KnowsPast after) (sym own) (record {
          seen = sym (ap (λ (h : List Entry). upto h w.clock) history ∙ upto-all w.history (w.clock + 1) w.clock below (le_refl (w.clock + 1)));
          front = (let k = clock in omega arith);
        }))
        (λ m d. past-stays (fence_projection w) after (w.views m).fence (let k = clock in omega arith) (λ f l. ap (λ (h : List Entry). upto h f) history) (r.past m));
    apart = λ m a p o. absurd (out m p);
  })
    where
      after : FenceProjection
      after =
          record {
            clock = x.clock;
            fence = fence_of x.gate;
            heap = x.heap;
            history = x.history;
            views = put (fence_projection w).views n v.fence;
            phases = put (fence_projection w).phases n v.gate.phase;
            owed = put (fence_projection w).owed n (owes v);
          }

      owner_now : fence_owner (fence_of x.gate) ≡ 1 + n
      owner_now = ap fence_owner fence ∙ fence_owner-number n from count named

      nobody : (m : ℕ) → (w.views m).fence.holds ≡ true → ⊥
      nobody m t = let k : fence_owner (fence_of w.gate) ≡ 1 + m = (r.mine m t).0 in let z : fence_owner (fence_of w.gate) ≡ fence_owner 0 = ap fence_owner was in let y : fence_owner 0 ≡ 0 = refl in omega arith

  -- THE FENCE GOES: the memory lies in its range
  pub fence-goes : (w x : World) (n : ℕ) (v : View) → x.views ≡ put w.views n v → fence_of x.gate ≡ 0 → x.clock ≡ w.clock
      → x.history ≡ w.history → (w.views n).fence.holds ≡ true → v.fence ≡ no_fence (w.views n).fence → FenceRule c (fence_projection w)
      → FenceRule c (fence_projection x)
  fence-goes w x n v is fence clock history has own r = subst (FenceRule c) (sym (fence_projection-put w x n v is)) (record {
    mine = put-all (fence_projection w).views n v.fence (λ m u. u.holds ≡ true → (fence_owner (fence_of x.gate) ≡ 1 + m) × (fence_of x.gate ≡ u.number))
        (λ t. absurd (let f : true ≡ false = sym t ∙ gone in cc))
        (λ m d t. absurd (d (one-holder (fence_projection w) m n r t has)));
    owner = λ m e. absurd (let k : fence_owner (fence_of x.gate) ≡ fence_owner 0 = ap fence_owner fence in let z : fence_owner 0 ≡ 0 = refl in omega arith);
    none = λ e. fence;
    off = λ e. fence;
    few = put-all (fence_projection w).views n v.fence (λ m u. u.holds ≡ true → m < c.callers) (λ t. r.few n has) (λ m d t. r.few m t);
    inside = λ a e. absurd (let f : true ≡ false = sym (ap (λ k. fenced k a) (sym fence) ∙ e) ∙ fenced-none a in cc);
    holder = put-all (fence_projection w).views n v.fence (λ m u. u.holds ≡ true → FenceHolder after u)
        (λ t. absurd (let f : true ≡ false = sym t ∙ gone in cc))
        (λ m d t. absurd (d (one-holder (fence_projection w) m n r t has)));
    past = put-all (fence_projection w).views n v.fence (λ m u. KnowsPast after u)
        (subst (KnowsPast after) (sym own) (record { seen = (kept n).seen; front = (kept n).front }))
        (λ m d. kept m);
    apart = λ m a p o. ap (λ k. fenced k a) fence ∙ fenced-none a;
  })
    where
      gone : v.fence.holds ≡ false
      gone = ap (λ (u : FenceView). u.holds) own

      after : FenceProjection
      after =
          record {
            clock = x.clock;
            fence = fence_of x.gate;
            heap = x.heap;
            history = x.history;
            views = put (fence_projection w).views n v.fence;
            phases = put (fence_projection w).phases n v.gate.phase;
            owed = put (fence_projection w).owed n (owes v);
          }

      kept : (m : ℕ) → KnowsPast after (w.views m).fence
      kept m = past-stays (fence_projection w) after (w.views m).fence (let k = clock in omega arith) (λ f l. ap (λ (h : List Entry). upto h f) history) (r.past m)
