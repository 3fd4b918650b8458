-- The table at the opening meets the rule.
use Rattle.std.proofs.Common.{◌≡◌, ℕ, zero, suc, ◌≤◌, List, [], ◌∷◌, Bool, true, false, replicate, get_or, set, refl, sym, ap, ◌∙◌, subst, arith, le_refl, inl, inr}
use Rattle.std.proofs.lemmas.List.{length-replicate}
use Rattle.std.proofs.lemmas.Bool.Decides.{nat_tests}
use Rattle.std.specs.Prelude.{nat_le, ◌&&◌, ◌||◌, ◌%◌, ◌==◌, if◌then◌else◌, Some, None}
use mathlib.Core.Option.{some, some-injective, some-ne-none}
use lib.ListN.{get_elem?}
use Rattle.atomic_table.specs.Table.{opening}
use Rattle.rule_base.specs.declared.layout.At.{At}
use Rattle.rule_base.specs.declared.layout.At.TheVariants.{Clock, Lock, Gate, Base, Done, Status, Record, Slot, Heap}
use Rattle.stm_model.specs.declared.config.Config.{Config}
use Rattle.stm_model.specs.declared.config.TheConstants.{MOST_WORDS, MOST_RECORDS, MIN_RING, MOST_RING, MOST_CALLERS, SMALL_WORDS, SMALL_CALLERS, BLOCK, MOST_LOG, MOST_MARKS, CLOCK_LIMIT}
use Rattle.rule_base.specs.declared.seats.Role.TheVariants.{Dealer, Note}
use Rattle.rule_base.specs.declared.seats.SeatView.{SeatView}
use Rattle.rule_base.specs.Lemmas.EncodingLemmas.{fenced-none}
use Rattle.rule_base.specs.Fence.{fence_projection, FenceRule}
use Rattle.rule_base.specs.FenceLaws.{heap_without_fence-none}
use Rattle.rule_base.specs.Lemmas.BridgeLemmas.{words_of-zeros}
use Rattle.rule_base.specs.GateRule.{gate_projection, GateRule}
use Rattle.rule_base.specs.InstallRule.{install_projection, InstallRule}
use Rattle.rule_base.specs.RecordRule.{record_projection, RecordRule}
use Rattle.rule_base.proofs.Lemmas.ListLemmas.{contains-none}
use Rattle.rule_base.specs.Opening.{first_view, opening_world}
use Rattle.rule_base.specs.Places.{offset, size, InRange}
use Rattle.stm_model.specs.Configs.{IsConfig, IsSmall, AreBlocks}
use Rattle.rule_base.specs.Seating.{Claims, Seats}
use Rattle.rule_base.proofs.Lemmas.WordLemmas.{lies-write}
use Rattle.rule_base.specs.World.{World, Lies, fetch}
use Rattle.rule_seq.proofs.CglOpening.{cgl_world-opening}
use Rattle.stm_rule.specs.declared.refusal.NewError.TheVariants.{Words, Records, Ring, Callers, Logs, Marks}
use Rattle.stm_rule.specs.declared.refusal.NewError.TheVariants as faults
use Rattle.stm_rule.specs.declared.stm.Key.{Key}
use Rattle.stm_rule.specs.Kept.{good_of, Kept, newcomer}
use Rattle.stm_rule.specs.Openings.{opening_words}
use Rattle.stm_rule.specs.Product.{Core, Invariant}
use Rattle.stm_rule.specs.Refusals.{in_range, are_fenced_in, first_fault}

zeros_at : (n k : ℕ) → get_or {A = ℕ} (replicate n 0) k 0 ≡ 0
zeros_at zero k = refl
zeros_at (suc n) zero = refl
zeros_at (suc n) (suc k) = zeros_at n k

-- the opening before the three words that aren't 0 are stored
abbrev zero_world : Config → World
zero_world c = record (opening_world c) { clock = 0; base = 0; done = 0 }

zeros_lie : (c : Config) → Lies c (zero_world c) (replicate (size c) 0)
zeros_lie c = record { long = length-replicate (size c) 0; each = each }
  where
    each : (p : At) → InRange c p → get_or (replicate (size c) 0) (offset c p) 0 ≡ fetch (zero_world c) p
    each Clock r = zeros_at (size c) (offset c Clock)
    each Lock r = zeros_at (size c) (offset c Lock)
    each Gate r = zeros_at (size c) (offset c Gate)
    each Base r = zeros_at (size c) (offset c Base)
    each Done r = zeros_at (size c) (offset c Done)
    each (Status k) r = zeros_at (size c) (offset c (Status k))
    each (Record i) r = zeros_at (size c) (offset c (Record i))
    each (Slot i) r = zeros_at (size c) (offset c (Slot i))
    each (Heap a) r = zeros_at (size c) (offset c (Heap a))

pub opening_lies : (c : Config) → Lies c (opening_world c) (opening_words c)
opening_lies c =
    let at_clock = lies-write c (zero_world c) (replicate (size c) 0) Clock c.clock (zeros_lie c) tt in
    let at_base = lies-write c (record (zero_world c) { clock = c.clock }) (set (replicate (size c) 0) (offset c Clock) c.clock) Base c.clock at_clock tt in
    lies-write c (record (zero_world c) { clock = c.clock; base = c.clock }) (set (set (replicate (size c) 0) (offset c Clock) c.clock) (offset c Base) c.clock) Done c.clock at_base tt

opening_gate : (c : Config) → IsConfig c → GateRule c.callers (gate_projection (opening_world c))
opening_gate c config = record {
  status = λ k. refl;
  absent = λ k e. refl;
  quiet = λ k e. refl;
  mine = λ n e. absurd cc;
  owner = λ n e. absurd (omega arith);
  holding = λ n e. absurd cc;
  closing = λ n e. absurd cc;
  checked = λ n k e. absurd cc;
  seen = λ n k e. refl;
  named = λ n e. absurd cc;
  held = λ n e. absurd cc;
  spared = λ n e. absurd cc;
  guarded = λ n e. absurd cc;
  formed = refl;
  sole = λ e. refl;
  aimed = λ n e. absurd cc;
  few = (let l = config.callers.1 in omega arith);
  far = λ n l. refl;
}

opening_install : (c : Config) → InstallRule c (install_projection (opening_world c))
opening_install c = record {
  base = le_refl c.clock;
  done = le_refl c.clock;
  opened = (le_refl c.clock, le_refl c.clock);
  holding = λ n e. absurd cc;
  promoted = λ n e. absurd cc;
  giving = λ n e. absurd cc;
  alone = λ n k e. absurd cc;
  time = λ n e. absurd cc;
  rebased = λ n e. absurd cc;
  completed = λ n e. absurd cc;
}

opening_records : (c : Config) → RecordRule (record_projection (opening_world c))
opening_records c = record {
  free = λ r e. (let z : 0 ≤ c.clock = omega arith in z);
  owned = λ r e. absurd cc;
  inside = λ n r e. absurd cc;
}

-- the opening words and the first views meet the rule
core_opens : (good : (ℕ → ℕ) → Type 0) (c : Config) → IsConfig c → good (λ a. 0) → Core good c (opening_world c)
core_opens good c config start = let w = cgl_world-opening good c config start (λ n. (first_view c).gate) in record {
  history = w.history;
  steps = w.steps;
  gate = opening_gate c config;
  install = opening_install c;
  records = opening_records c;
  lock = w.lock;
  attempts = w.attempts;
  running = w.runs;
  alone = λ sole r x e. absurd cc;
  raised = λ e n k. absurd cc;
}

-- no fence stands
opening_fence : (c : Config) → FenceRule c (fence_projection (opening_world c))
opening_fence c = record {
  mine = λ n e. absurd cc;
  owner = λ n e. absurd (omega arith);
  none = λ e. refl;
  off = λ e. refl;
  few = λ n e. absurd cc;
  inside = λ a e. absurd (let f : true ≡ false = sym e ∙ fenced-none a in cc);
  holder = λ n e. absurd cc;
  past = λ n. record { seen = refl; front = le_refl c.clock };
  apart = λ n a p o. absurd cc;
}

pub invariant_opens : (good : (ℕ → ℕ) → Type 0) (c : Config) → IsConfig c → good (λ a. 0) → Invariant good c (opening_world c)
invariant_opens good c config start = record {
  core = subst (Core good c) (sym (ap (λ (f : ℕ → ℕ). record (opening_world c) { heap = f }) (heap_without_fence-none (λ a. 0) []))) (core_opens good c config start);
  fence = opening_fence c;
}

only : {A : Type 0} (x : A) (j : ℕ) (y : A) → get_elem? (x ∷ []) j ≡ some y → (j ≡ 0) × (x ≡ y)
only x zero y e = (refl, some-injective x y e)
only x (suc j) y e = absurd (some-ne-none y (sym e))

module _ {K : Type 0} (good : K → List ℕ → Type 0) (c : Config) (rule : K) where
  abbrev key : Key K
  key = record { config = c; rule = rule }

  no_claim : (n j : ℕ) (s : SeatView K) → get_elem? (newcomer key ∷ []) j ≡ some s → Claims s n → ⊥
  no_claim n j s e p = go (subst (λ (y : SeatView K). Claims y n) (sym (only (newcomer key) j s e).1) p)
    where
      go : Claims (newcomer key) n → ⊥
      go (inl x) = cc
      go (inr g) = contains-none g.0 g.1

  opening_seats : Seats rule c (opening_world c) (newcomer key ∷ [])
  opening_seats = record {
    here = λ j n s e q. absurd (no_claim n j s e (inl q));
    joined = λ j s g e h. absurd (no_claim g.caller j s e (inr (g, h, refl)));
    one = λ i j n s t ei ej p q. absurd (no_claim n i s ei p);
    apart = λ j n s g e q h. absurd (no_claim n j s e (inl q));
    within = λ j n s e p. absurd (no_claim n j s e p);
    note = λ j s e q. absurd (let x : Dealer 0 ≡ Note = ap (λ (y : SeatView K). y.who.role) (only (newcomer key) j s e).1 ∙ q in cc);
    undealt = λ j k n s e q l. refl;
    dealt = λ i j k n s t ei ej q p. absurd (no_claim n j t ej p);
    dealer = λ i j k l s t ei ej p q. (only (newcomer key) i s ei).0 ∙ sym (only (newcomer key) j t ej).0;
    config = λ j s e d. ap (λ (y : SeatView K). y.who.config) (sym (only (newcomer key) j s e).1);
    memory_rule = λ j s e d. ap (λ (y : SeatView K). y.who.rule) (sym (only (newcomer key) j s e).1);
  }

  pub opening_kept : (ws : List ℕ) → IsConfig c → good rule (replicate c.words 0) → ws ≡ opening_words c → Kept good key (opening ws [] (newcomer key))
  opening_kept ws config start is = record {
    world = opening_world c;
    lies = subst (Lies c (opening_world c)) (sym is) (opening_lies c);
    seats = opening_seats;
    holds = invariant_opens (good_of good c rule) c config (subst (good rule) (sym (words_of-zeros c.words)) start);
  }

-- a configuration without a fault has its numbers in range
within : (low n high : ℕ) → in_range low n high ≡ true → (low ≤ n) × (n ≤ high)
within low n high e = (grind (arith, nat_tests, e), grind (arith, nat_tests, e))

-- a memory that takes ranges out is small, or is a number of blocks
fenced_in : (c : Config) → are_fenced_in c ≡ true → c.fence ≡ true → (IsSmall c → ⊥) → AreBlocks c.words
fenced_in c e on large = by (nat_le c.words SMALL_WORDS) (nat_le c.callers SMALL_CALLERS) (c.words % BLOCK == 0) refl refl refl
    (sym (ap (λ (t : Bool). if t then ((nat_le c.words SMALL_WORDS && nat_le c.callers SMALL_CALLERS) || c.words % BLOCK == 0) else true) on) ∙ e)
  where
    by : (x y z : Bool) → nat_le c.words SMALL_WORDS ≡ x → nat_le c.callers SMALL_CALLERS ≡ y → (c.words % BLOCK == 0) ≡ z → ((x && y) || z) ≡ true → AreBlocks c.words
    by true true z a b d e = absurd (large (grind (arith, nat_tests, a), grind (arith, nat_tests, b)))
    by true false true a b d e = grind (arith, nat_tests, d)
    by false y true a b d e = grind (arith, nat_tests, d)
    by true false false a b d e = absurd cc
    by false y false a b d e = absurd cc

pub no_fault : (c : Config) → first_fault c ≡ None → IsConfig c
no_fault c e = go (in_range 1 c.words MOST_WORDS) (are_fenced_in c) (in_range 1 c.records MOST_RECORDS) (in_range MIN_RING c.ring MOST_RING) (in_range 1 c.callers MOST_CALLERS) (in_range 1 c.reads MOST_LOG) (in_range 1 c.writes MOST_LOG) (nat_le c.clock CLOCK_LIMIT) (nat_le c.marks MOST_MARKS)
    refl refl refl refl refl refl refl refl refl e
  where
    go : (w q r s k l m t n : Bool) → in_range 1 c.words MOST_WORDS ≡ w → are_fenced_in c ≡ q → in_range 1 c.records MOST_RECORDS ≡ r
        → in_range MIN_RING c.ring MOST_RING ≡ s → in_range 1 c.callers MOST_CALLERS ≡ k → in_range 1 c.reads MOST_LOG ≡ l
        → in_range 1 c.writes MOST_LOG ≡ m → nat_le c.clock CLOCK_LIMIT ≡ t → nat_le c.marks MOST_MARKS ≡ n
        → (if w && q then (if r then (if s then (if k then (if l && m then (if t then (if n then None else Some Marks) else Some faults.Clock) else Some Logs) else Some Callers) else Some Ring) else Some Records) else Some Words) ≡ None → IsConfig c
    go true true true true true true true true true a p b d f g h i j e = record {
      words = within 1 c.words MOST_WORDS a;
      records = within 1 c.records MOST_RECORDS b;
      ring = within MIN_RING c.ring MOST_RING d;
      callers = within 1 c.callers MOST_CALLERS f;
      reads = within 1 c.reads MOST_LOG g;
      writes = within 1 c.writes MOST_LOG h;
      clock = grind (arith, nat_tests, i);
      fenced = fenced_in c p;
      marks = grind (arith, nat_tests, j);
    }
    go false q r s k l m t n a p b d f g h i j e = absurd cc
    go true false r s k l m t n a p b d f g h i j e = absurd cc
    go true true false s k l m t n a p b d f g h i j e = absurd cc
    go true true true false k l m t n a p b d f g h i j e = absurd cc
    go true true true true false l m t n a p b d f g h i j e = absurd cc
    go true true true true true false m t n a p b d f g h i j e = absurd cc
    go true true true true true true false t n a p b d f g h i j e = absurd cc
    go true true true true true true true false n a p b d f g h i j e = absurd cc
    go true true true true true true true true false a p b d f g h i j e = absurd cc
