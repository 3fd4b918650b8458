-- What the marks of an attempt of CGL, TML or Serial come to.
use Rattle.std.proofs.Common.{ℕ, ◌≡◌, ◌≤◌, ◌-◌, List, [], length, get_or, take, Bool, true, false, refl, sym, ap, ◌∙◌, arith, subst}
use Rattle.std.specs.Prelude.{replicate}
use Rattle.std.proofs.lemmas.List.{length-replicate, get_or-replicate, take-replicate, length-take-le}
use Rattle.stm_model.specs.Algorithms.{irrevocable_under}
use Rattle.stm_model.specs.declared.alg.Alg.{Alg}
use Rattle.stm_model.specs.declared.alg.Alg.TheVariants.{Cgl, Tml, OrecLazy, OrecEager, RingSw, Serial}
use Rattle.stm_model.specs.declared.config.Config.{Config}
use Rattle.rule_base.specs.declared.entries.Cell.{Cell}
use Rattle.rule_base.specs.declared.views.TracedStep.{TracedStep}
use Rattle.rule_base.specs.declared.views.View.{View}
use Rattle.rule_base.specs.Bridge.{addresses, items}
use Rattle.rule_base.specs.Own.{Own}
use Rattle.stm_rule.specs.declared.local.Local.{Local}
use Rattle.stm_rule.specs.Attempts.{own_of, IsInside, IsLocked}
use Rattle.stm_rule.specs.Attempts as attempts
use Rattle.stm_answers.specs.Answers.{kept_rolled, IsRolled}
use Rattle.stm_answers.specs.CallerState.{known_of, kept_under, written_under, is_irrevocable, is_in, is_closing}
use Rattle.stm_answers.specs.CallerStateLaws.{grows-same}
use Rattle.stm_logs.specs.LogStates.{LogState, rolled}
use Rattle.stm_gate.specs.Opacity.{opaque-inside}
use Rattle.stm_gate.proofs.Irrevocable.{irrevocable-of}
use Rattle.alg_seq.specs.Nesting.{is_sequential}
use Rattle.alg_seq.proofs.Undoing.{taken}

-- so many marks stand; those of TML had nothing
abbrev HasDepth : Alg → List (List (ℕ × ℕ)) → ℕ → Type 0
HasDepth Cgl marks d = length marks ≡ d
HasDepth Tml marks d = marks ≡ replicate d []
HasDepth OrecLazy marks d = length marks ≡ d
HasDepth OrecEager marks d = length marks ≡ d
HasDepth RingSw marks d = length marks ≡ d
HasDepth Serial marks d = length marks ≡ d

-- what lies in the heap is known whatever the descriptor keeps
written-own : (a : Alg) → is_sequential a ≡ true → (granted : Bool) (v : View) (o : Own) → written_under a granted v o ≡ items v.attempt.stores
written-own Cgl s granted v o = refl
written-own Tml s granted v o = refl
written-own Serial s granted v o = refl
written-own OrecLazy s granted v o = absurd cc
written-own OrecEager s granted v o = absurd cc
written-own RingSw s granted v o = absurd cc

-- so is what has an item there, and a roll back leaves it
kept-own : (a : Alg) → is_sequential a ≡ true → (v w : View) (o p : Own) → w.lock.undo ≡ v.lock.undo → kept_under a w p ≡ kept_under a v o
kept-own Cgl s v w o p e = refl
kept-own Tml s v w o p e = refl
kept-own Serial s v w o p e = ap (λ (cs : List Cell). addresses (items cs)) e
kept-own OrecLazy s v w o p e = absurd cc
kept-own OrecEager s v w o p e = absurd cc
kept-own RingSw s v w o p e = absurd cc

kept-stays : (a : Alg) → is_sequential a ≡ true → (ks : List ℕ) (ws : List (ℕ × ℕ)) → kept_rolled a ks ws ≡ ks
kept-stays Cgl s ks ws = refl
kept-stays Tml s ks ws = refl
kept-stays Serial s ks ws = refl
kept-stays OrecLazy s ks ws = absurd cc
kept-stays OrecEager s ks ws = absurd cc
kept-stays RingSw s ks ws = absurd cc

-- AN ATTEMPT with another write log and at another depth, where this is stored, after these steps
module _ (good : List ℕ → Type 0) (c : Config) (n : ℕ) (l : Local) (v : View) (i : IsInside good c n l v) (log : LogState) (wrote : Bool) (d : ℕ) (stores : List Cell) (more : List TracedStep) where
  abbrev other : Local
  other = record l { writes = log; wrote = wrote; depth = d }

  pub inside-at : attempts.Keeps c l.algorithm l.granted other (taken v stores more) → IsInside good c n other (taken v stores more)
  inside-at keeps = record {
    phase = i.phase;
    named = i.named;
    disowned = i.disowned;
    unentered = i.unentered;
    start = i.start;
    front = i.front;
    legal = i.legal;
    below = i.below;
    sees = i.sees;
    reads_inside = i.reads_inside;
    looked = λ e. let h = i.looked e in record { low = h.low; seen = h.seen; unseen = h.unseen };
    granted = i.granted;
    steady = i.steady;
    spared = record { is = i.spared.is; fits = i.spared.fits };
    keeps = keeps;
  }

  -- it was rolled back to mark d
  pub rolls-at : l.committing ≡ false → log ≡ rolled d l.writes → d ≤ length l.writes.marks → is_sequential v.gate.algorithm ≡ true
      → written_under v.gate.algorithm v.gate.granted (taken v stores more) (own_of other) ≡ log.items
      → IsInside good c n other (taken v stores more)
      → IsRolled good c n d (known_of v (own_of l)) (known_of (taken v stores more) (own_of other))
  rolls-at quiet is within sequential written inside = record {
    stays = record {
      running = ap is_in i.phase;
      uncommitted = quiet;
      closing = ap is_closing i.phase;
      made = refl;
      grows = grows-same (known_of v (own_of l)) (known_of (taken v stores more) (own_of other)) refl refl more refl refl refl (ap (λ (q : LogState). q.marks_limit) is) refl;
      alg = refl;
      fence = refl;
      base = refl;
      rises = refl;
      start = refl;
      installs = refl;
      granted = refl;
      holds = refl;
      checked = refl;
      locked = refl;
    };
    within = within;
    reads = refl;
    writes = written ∙ ap (λ (q : LogState). q.items) is;
    depth = refl;
    kept =
        kept-own v.gate.algorithm sequential v (taken v stores more) (own_of l) (own_of other) refl
        ∙ sym
        (kept-stays v.gate.algorithm sequential (known_of v (own_of l)).kept (known_of (taken v stores more) (own_of other)).log.writes);
    marks = ap (λ (q : LogState). q.marks) is;
    opaque = opaque-inside good c n other (taken v stores more) (own_of other) inside;
  }

module _ (good : List ℕ → Type 0) (c : Config) (n : ℕ) (l : Local) (v : View) (i : IsInside good c n l v) (sequential : is_sequential v.gate.algorithm ≡ true) where
  abbrev with_log : LogState → ℕ → Local
  with_log log d = record l { writes = log; depth = d }

  is-other : (a : Alg) → l.algorithm ≡ a → is_sequential a ≡ true
  is-other a e = ap is_sequential (sym (i.named ∙ e)) ∙ sequential

  pub irrevocable-known : is_irrevocable (known_of v (own_of l)) ≡ irrevocable_under l.algorithm l.granted l.wrote
  irrevocable-known = irrevocable-of good c n l v (own_of l) i

  pub written : (o : Own) → written_under v.gate.algorithm v.gate.granted v o ≡ items v.attempt.stores
  written o = written-own v.gate.algorithm sequential v.gate.granted v o

  -- ANOTHER LOG, with as many marks as are counted
  module _ (log : LogState) (d : ℕ) (same : log.items ≡ l.writes.items) (marks : irrevocable_under l.algorithm l.granted l.wrote ≡ false → HasDepth l.algorithm log.marks d) where
    abbrev m : Local
    m = with_log log d

    counted : (a : Alg) → l.algorithm ≡ a → irrevocable_under l.algorithm l.granted l.wrote ≡ false → HasDepth a log.marks d
    counted a e plain = subst (λ (q : Alg). HasDepth q log.marks d) e (marks plain)

    locked-with : (v.lock.irrevocable ≡ false → length log.marks ≡ d) → IsLocked c l v → IsLocked c m v
    locked-with count p = record {
      taken = p.taken;
      started = p.started;
      unwritten = p.unwritten;
      uncommitted = p.uncommitted;
      reopened = p.reopened;
      clean = p.clean;
      dirty = p.dirty;
      irrevocable = p.irrevocable;
      undone = p.undone;
      undoable = p.undoable;
      shorter = λ e. (let less = p.shorter e in let f = ap length same in omega arith);
      most = p.most;
      within = p.within;
      writes = λ e. same ∙ p.writes e;
      marked = count;
      apart = p.apart;
      rises = p.rises;
      limit = p.limit;
    }

    keeps-with : (a : Alg) (g : Bool) → l.algorithm ≡ a → l.granted ≡ g → attempts.Keeps c a g l v → attempts.Keeps c a g m v
    keeps-with Cgl g e f k = locked-with (λ r. counted Cgl e (sym k.irrevocable ∙ r)) k
    keeps-with Serial g e f k = locked-with (λ r. counted Serial e (sym k.irrevocable ∙ r)) k
    keeps-with Tml true e f k = record { granted = k.granted; quiescent = k.quiescent; holds = k.holds; clear = k.clear; clean = k.clean; dirty = k.dirty; rises = k.rises; limit = k.limit }
    keeps-with Tml false e f k = record {
      inside = k.inside;
      settled = k.settled;
      unlocked = k.unlocked;
      unfixed = k.unfixed;
      uncommitted = k.uncommitted;
      ungranted = k.ungranted;
      even = k.even;
      writer = k.writer;
      clean = k.clean;
      dirty = k.dirty;
      not_quiescent = k.not_quiescent;
      rises = k.rises;
      limit = k.limit;
      unbuffered = same ∙ k.unbuffered;
      marked = λ w. counted Tml e ((λ j. irrevocable_under (e j) (f j) l.wrote) ∙ w);
      sole = k.sole;
    }
    keeps-with OrecLazy g e f k = absurd (let no : false ≡ true = is-other OrecLazy e in cc)
    keeps-with OrecEager g e f k = absurd (let no : false ≡ true = is-other OrecEager e in cc)
    keeps-with RingSw g e f k = absurd (let no : false ≡ true = is-other RingSw e in cc)

    pub stays-with : IsInside good c n (record l { writes = log; depth = d }) v
    stays-with = inside-at good c n l v i log l.wrote d v.attempt.stores [] (keeps-with l.algorithm l.granted refl refl i.keeps)

  -- ONCE IRREVOCABLE a mark is a number
  module _ (irrevocable : irrevocable_under l.algorithm l.granted l.wrote ≡ true) (d : ℕ) where
    pub deeper-marked : is_irrevocable (known_of v (own_of l)) ≡ true
    deeper-marked = irrevocable-known ∙ irrevocable

  -- UNTIL THEN the write log has what was written, and the marks
  module _ (plain : irrevocable_under l.algorithm l.granted l.wrote ≡ false) where
    pub revocable : is_irrevocable (known_of v (own_of l)) ≡ false
    revocable = irrevocable-known ∙ plain

    clean-at : (a : Alg) (g : Bool) → l.algorithm ≡ a → l.granted ≡ g → irrevocable_under a g l.wrote ≡ false
    clean-at a g e f = (λ j. irrevocable_under (sym e j) (sym f j) l.wrote) ∙ plain

    depth-at : (a : Alg) (g : Bool) → l.algorithm ≡ a → l.granted ≡ g → attempts.Keeps c a g l v → HasDepth a l.writes.marks l.depth × (length l.writes.marks ≡ l.depth) × (l.writes.items ≡ items v.attempt.stores)
    depth-at Cgl g e f k = absurd (let no : true ≡ false = clean-at Cgl g e f in cc)
    depth-at Tml true e f k = absurd (let no : true ≡ false = clean-at Tml true e f in cc)
    depth-at Tml false e f k =
        let w : l.wrote ≡ false = clean-at Tml false e f in
        (k.marked w, ap length (k.marked w) ∙ length-replicate l.depth [], k.unbuffered ∙ ap items (sym (k.clean w)))
    depth-at Serial g e f k = let r = sym (sym plain ∙ sym k.irrevocable) in let count = k.marked r in (count, count, k.writes r)
    depth-at OrecLazy g e f k = absurd (let no : false ≡ true = is-other OrecLazy e in cc)
    depth-at OrecEager g e f k = absurd (let no : false ≡ true = is-other OrecEager e in cc)
    depth-at RingSw g e f k = absurd (let no : false ≡ true = is-other RingSw e in cc)

    stands : HasDepth l.algorithm l.writes.marks l.depth × (length l.writes.marks ≡ l.depth) × (l.writes.items ≡ items v.attempt.stores)
    stands = depth-at l.algorithm l.granted refl refl i.keeps

    pub count : length l.writes.marks ≡ l.depth
    count = stands.1

    depth-take : (a : Alg) (d : ℕ) → HasDepth a l.writes.marks l.depth → d ≤ l.depth → HasDepth a (take d l.writes.marks) d
    depth-take Tml d h low = ap (take d) h ∙ take-replicate d l.depth [] low
    depth-take Cgl d h low = length-take-le d l.writes.marks (omega arith)
    depth-take OrecLazy d h low = length-take-le d l.writes.marks (omega arith)
    depth-take OrecEager d h low = length-take-le d l.writes.marks (omega arith)
    depth-take RingSw d h low = length-take-le d l.writes.marks (omega arith)
    depth-take Serial d h low = length-take-le d l.writes.marks (omega arith)

    -- A ROLL BACK of a reader of TML
    module _ (tml : l.algorithm ≡ Tml) (quiet : l.committing ≡ false) (log : LogState) (d : ℕ) (low : 1 ≤ d) (high : d ≤ l.depth) (is : log ≡ rolled d l.writes) where
      reader : (a : Alg) (g : Bool) → l.algorithm ≡ a → l.granted ≡ g → a ≡ Tml → attempts.Keeps c a g l v → (l.writes.items ≡ []) × (items v.attempt.stores ≡ []) × (l.writes.marks ≡ replicate l.depth [])
      reader Tml true e f t k = absurd (let no : true ≡ false = clean-at Tml true e f in cc)
      reader Tml false e f t k = let w : l.wrote ≡ false = clean-at Tml false e f in (k.unbuffered, ap items (k.clean w), k.marked w)
      reader Cgl g e f t k = absurd cc
      reader OrecLazy g e f t k = absurd cc
      reader OrecEager g e f t k = absurd cc
      reader RingSw g e f t k = absurd cc
      reader Serial g e f t k = absurd cc

      nothing : (l.writes.items ≡ []) × (items v.attempt.stores ≡ []) × (l.writes.marks ≡ replicate l.depth [])
      nothing = reader l.algorithm l.granted refl refl tml i.keeps

      empty : get_or l.writes.marks (d - 1) [] ≡ []
      empty = ap (λ (ms : List (List (ℕ × ℕ))). get_or ms (d - 1) []) nothing.2 ∙ get_or-replicate l.depth (d - 1) [] [] (omega arith)

      pub stays-rolled : IsInside good c n (record l { writes = log; depth = d }) v
      stays-rolled =
          stays-with log d (ap (λ (q : LogState). q.items) is ∙ (empty ∙ sym nothing.0)) (λ p.
          subst (λ (ms : List (List (ℕ × ℕ))). HasDepth l.algorithm ms d) (sym (ap (λ (q : LogState). q.marks) is))
          (depth-take l.algorithm d stands.0 high))

      pub rolls-back : IsRolled good c n d (known_of v (own_of l)) (known_of v (own_of (record l { writes = log; depth = d })))
      rolls-back = rolls-at good c n l v i log l.wrote d v.attempt.stores [] quiet is (let h = count in omega arith) sequential
          (written (own_of (with_log log d)) ∙ (nothing.1 ∙ sym (ap (λ (q : LogState). q.items) is ∙ empty))) stays-rolled
