-- What the grammar gives fits.
use Rattle.std.proofs.Common.{ℕ, ◌≡◌, ◌<◌, ◌≤◌, ◌+◌, ◌^◌, List, [], ◌∷◌, ◌++◌, Bool, true, false, ◌&&◌, ◌||◌, Some, Result, Ok, Err, refl, sym, ap, subst, arith, length, length-append, inl, inr}
use Rattle.std.specs.Prelude.{if◌then◌else◌, leb, ltb, codes, bytes_eq}
use Rattle.std.proofs.lemmas.Bool.Decides.{nat_tests}
use Rattle.std.proofs.lemmas.List.Elements.{All-nil, All-cons, All-push}
use Rattle.std.proofs.lemmas.Slice.Eq.{bytes_eq-Decides}
use Rattle.stm_model.specs.declared.alg.Alg.{Alg}
use Rattle.stm_model.specs.declared.config.TheConstants.{MAX_LOG}
use Rattle.data_regions.specs.declared.region.Region.{Region}
use Rattle.data_regions.specs.declared.region.Region.TheVariants as kinds
use Rattle.data_regions.specs.declared.region.Structure.{Structure}
use Rattle.data_regions.specs.declared.region.Structure.TheVariants as structures
use Rattle.data_regions.specs.Regions.{start_of, size_of, structure_of, is_structure, is_outside, IsOutside, IsPlain}
use Rattle.work_script.specs.declared.op.Op.{Op}
use Rattle.work_script.specs.declared.op.Op.TheVariants.{Read, Write, Add as Sum, Move, Emit, Irrev, Cancel, Count as CountOn, MapPut, MapSum}
use Rattle.work_script.specs.declared.op.TheConstants.{COUNTER, KEYED, KEYLESS, PLACED_KEYED, PLACED_KEYLESS}
use Rattle.work_script.specs.Operations.{op_name, with_key, with_region}
use Rattle.work_script.specs.Structures.{region_at, as_counter, counter_in}
use Rattle.work_script.specs.declared.workload.Header.{Header}
use Rattle.work_script.specs.declared.workload.Version.{Version}
use Rattle.work_script.specs.declared.workload.Version.TheVariants.{One, Two}
use Rattle.work_script.specs.declared.workload.Item.TheVariants.{Tx, Switch, Reserve}
use Rattle.work_script.specs.declared.workload.Go.{Go}
use Rattle.work_script.specs.declared.workload.Workload.{Workload}
use Rattle.work_script.specs.declared.workload.TheConstants.{MAX_ITEMS, MAX_OPS, MAX_TURNS, MAX_KEY, STRUCTS_BEGIN, STRUCTS_END, STRIPES}
use Rattle.work_script.specs.Scripts.{has_irrev}
use Rattle.work_text.specs.declared.draft.NextLine.{NextLine}
use Rattle.work_text.specs.declared.draft.NextLine.TheVariants.{Version as VersionLine, Words, Callers, Records, Ring, Reads, Writes, Clock, Algorithm, Structures, Regions, Region as RegionLine, Policy as PolicyLine, Items, Ops, Turns}
use Rattle.work_text.specs.declared.draft.Step.{Step}
use Rattle.work_text.specs.declared.draft.Step.TheVariants.{Head, Count, Begin, Change, Lengthen, Add, End, Schedule, Turn, Done}
use Rattle.work_text.specs.declared.parse.Mode.{Mode}
use Rattle.work_text.specs.declared.parse.Mode.TheVariants.{Run, Step as Stepwise}
use Rattle.work_text.specs.Lines.{Line, words_of, any_bad, number_of}
use Rattle.work_text.specs.Drafts.{Writing, after, opening}
use Rattle.work_text.specs.Grammar.{◌>>=◌, named, formed, ranged, below, number, algorithm, header_line, next_line, region_of, begun, changed, lengthened, added, emitted, has_region, has_structure, structured, planned, scheduled, caller_of, is_plain, plain_in, plain, address, operands, move_of, count_of, op_of, keyed, keyless, region_number, placed_keyless, placed_keyed, stripe_in, stripe_of, placed_count, map_put_of, map_sum_of, reserve_of, go_of, one_word, pair_op, triple_op, quadruple_op, quadruple_item, two_words, three_words, four_words, filled, by_words, step_of, ended, go_on, parsed}
use Rattle.work_text.specs.Parsed.{RegionsOne, LayoutFits, HeaderFits, IsFreeIn, IsFree, HasStructure, OpFits, IsAllowed, IsLength, ItemFits, GoFits, all_turns, ScheduleFits, IsParsed}
use Rattle.work_text.proofs.Giving.{Gives}
use Rattle.work_text.proofs.OrderLaws.{order-snoc}
use Rattle.work_text.proofs.HeaderLaws.{then-gives, if-gives, if-else-gives, named-gives, formed-fits, below-fits, both-true, ranged-fits, gives-any, if-both, HeadAt, bare-fits, Puts, number-within, header_line-fits, IsFront, At, Sound, none-fit, none-planned, next-by, next-no_turns, Leaves, head-sound, regions-sound, region-sound}

begun-sound : (m : Mode) (d : Writing) (c : ℕ) → Sound m d → d.schedule ≡ [] → c < d.header.callers → Gives (Leaves m d) (begun d c)
begun-sound m d c s none lt = if-gives (Leaves m d) (ltb (length d.items) MAX_ITEMS) (Ok (Begin c)) 10
    (λ e. let room : length d.items < MAX_ITEMS = grind (arith, nat_tests) in
    record { header = s.header; count = s.count; items = s.items; ops = s.ops; schedule = s.schedule; turns = s.turns; here = (room, lt, none) })

changed-sound : (m : Mode) (d : Writing) (c : ℕ) (alg : Alg) → Sound m d → At m Items d → d.place ≡ Items → c < d.header.callers → Gives (Leaves m d) (changed d c alg)
changed-sound m d c alg s at p lt = if-gives (Leaves m d) (ltb (length d.items) MAX_ITEMS) (Ok (Change c alg)) 10
    (λ e. let room : length d.items < MAX_ITEMS = grind (arith, nat_tests) in
    let more : Writing = record d { items = d.items ++ Switch c alg ∷ [] } in
    record {
      header = s.header;
      count = omega (arith, length-append d.items (Switch c alg ∷ []));
      items = All-push (ItemFits d.header) d.items (Switch c alg) s.items lt;
      ops = s.ops;
      schedule = s.schedule;
      turns = s.turns;
      here = subst (λ q. At m q more) (sym p) at;
    })

lengthened-sound : (m : Mode) (d : Writing) (c reads writes : ℕ) → Sound m d → At m Items d → d.place ≡ Items → ItemFits d.header (Reserve c reads writes) → Gives (Leaves m d) (lengthened d c reads writes)
lengthened-sound m d c reads writes s at p fits = if-gives (Leaves m d) (ltb (length d.items) MAX_ITEMS) (Ok (Lengthen c reads writes)) 10
    (λ e. let room : length d.items < MAX_ITEMS = grind (arith, nat_tests) in
    let more : Writing = record d { items = d.items ++ Reserve c reads writes ∷ [] } in
    record {
      header = s.header;
      count = omega (arith, length-append d.items (Reserve c reads writes ∷ []));
      items = All-push (ItemFits d.header) d.items (Reserve c reads writes) s.items fits;
      ops = s.ops;
      schedule = s.schedule;
      turns = s.turns;
      here = subst (λ q. At m q more) (sym p) at;
    })

all_turns-push : (gos : List Go) (go : Go) → all_turns (gos ++ go ∷ []) ≡ all_turns gos + go.turns
all_turns-push [] go = omega arith
all_turns-push (g ∷ gos) go = let e = all_turns-push gos go in omega arith

more-fits : (m : Mode) (h : Header) (gos : List Go) (go : Go) → m ≡ Stepwise → ScheduleFits m h gos → GoFits h go → all_turns gos + go.turns ≤ MAX_TURNS → ScheduleFits m h (gos ++ go ∷ [])
more-fits Run h gos go is s g le = absurd cc
more-fits Stepwise h gos go is s g le = let e = all_turns-push gos go in (All-push (GoFits h) gos go s.0 g, omega arith)

planned-sound : (m : Mode) (d : Writing) (go : Go) → Sound m d → At m Turns d → d.place ≡ Turns → GoFits d.header go → Gives (Leaves m d) (planned d go)
planned-sound m d go s at p fits = if-gives (Leaves m d) (leb (d.turns + go.turns) MAX_TURNS) (Ok (Turn go (d.turns + go.turns))) 10
    (λ e. let turns = s.turns in
    let most : d.turns + go.turns ≤ MAX_TURNS = grind (arith, nat_tests) in
    let sum = all_turns-push d.schedule go in
    let more : Writing = record d { schedule = d.schedule ++ go ∷ []; turns = d.turns + go.turns } in
    record {
      header = s.header;
      count = s.count;
      items = s.items;
      ops = s.ops;
      schedule = more-fits m d.header d.schedule go at.1 s.schedule fits (omega arith);
      turns = omega arith;
      here = subst (λ q. At m q more) (sym p) at;
    })

scheduled-sound : (m : Mode) (d : Writing) → Sound m d → At m Items d → Gives (Leaves m d) (scheduled m)
scheduled-sound Run d s at = tt
scheduled-sound Stepwise d s at =
    record { header = s.header; count = s.count; items = s.items; ops = s.ops; schedule = s.schedule; turns = s.turns; here = (at.0, refl) }

added-sound : (m : Mode) (d : Writing) (op : Op) → Sound m d → At m Ops d → d.place ≡ Ops → OpFits d.header op → IsAllowed (has_irrev d.ops) op → Gives (Leaves m d) (added d op)
added-sound m d op s at p fits allowed = if-gives (Leaves m d) (ltb (length d.ops) MAX_OPS) (Ok (Add op)) 10
    (λ e. let room : length d.ops < MAX_OPS = grind (arith, nat_tests) in
    let more : Writing = record d { ops = d.ops ++ op ∷ [] } in
    record {
      header = s.header;
      count = s.count;
      items = s.items;
      ops = record { count = omega (arith, length-append d.ops (op ∷ [])); each = All-push (OpFits d.header) d.ops op s.ops.each fits; order = order-snoc false d.ops op s.ops.order allowed };
      schedule = s.schedule;
      turns = s.turns;
      here = subst (λ q. At m q more) (sym p) at;
    })

emitted-sound : (m : Mode) (d : Writing) (a : ℕ) → Sound m d → At m Ops d → d.place ≡ Ops → (a < d.header.words) × IsFree d.header a → Gives (Leaves m d) (emitted d a)
emitted-sound m d a s at p fits = if-gives (Leaves m d) (has_irrev d.ops) (added d (Emit a)) 9 (λ asked. added-sound m d (Emit a) s at p fits asked)

-- two structures that are one
same-structure : (s t : Structure) → is_structure s t ≡ true → t ≡ s
same-structure structures.Counter structures.Counter e = refl
same-structure structures.List structures.List e = refl
same-structure structures.Hash structures.Hash e = refl
same-structure structures.Tree structures.Tree e = refl
same-structure structures.Queue structures.Queue e = refl
same-structure structures.SumMap structures.SumMap e = refl
same-structure s t e = cc

has-structure : (h : Header) (s : Structure) (r : ℕ) → has_region h.regions (Some (s, r)) ≡ true → HasStructure h s r
has-structure h s r e =
    let two = both-true (ltb r (length h.regions)) (is_structure s (structure_of (region_at h.regions r))) e in
    let p = two.0 in
    (grind (arith, nat_tests), same-structure s (structure_of (region_at h.regions r)) two.1)

-- an operation that is none of the attempt's, and fits where its region is there
abbrev pub IsStructured : Header → Op → Type 0
IsStructured h op = (has_structure h.regions op ≡ true → OpFits h op) × ((asked : Bool) → IsAllowed asked op)

structured-sound : (m : Mode) (d : Writing) (op : Op) → Sound m d → At m Ops d → d.place ≡ Ops → IsStructured d.header op → Gives (Leaves m d) (structured d op)
structured-sound m d op s at p is = if-gives (Leaves m d) (has_structure d.header.regions op) (added d op) 8 (λ has. added-sound m d op s at p (is.0 has) (is.1 (has_irrev d.ops)))

ended-sound : (m : Mode) (d : Writing) → Sound m d → At m Ops d → Sound m (after End d)
ended-sound m d s at = record {
  header = s.header;
  count = let room = at.0 in omega (arith, length-append d.items (Tx d.caller d.ops ∷ []));
  items = All-push (ItemFits d.header) d.items (Tx d.caller d.ops) s.items (at.1, s.ops);
  ops = none-fit d.header;
  schedule = s.schedule;
  turns = s.turns;
  here = (refl, at.2);
}

outside-is : (a : ℕ) (r : Region) → is_outside a r ≡ true → IsOutside a r
outside-is a r e = by (ltb a (start_of r)) refl (leb (start_of r + size_of r) a) refl e
  where
    by : (x : Bool) → ltb a (start_of r) ≡ x → (y : Bool) → leb (start_of r + size_of r) a ≡ y → x || y ≡ true → IsOutside a r
    by true p y q e = inl (grind (arith, nat_tests))
    by false p true q e = inr (grind (arith, nat_tests))
    by false p false q e = cc

plain-is : (rs : List Region) (a : ℕ) → is_plain rs a ≡ true → IsPlain rs a
plain-is [] a e = All-nil (IsOutside a)
plain-is (r ∷ rs) a e =
    let two = both-true (is_outside a r) (is_plain rs a) e in All-cons (IsOutside a) r rs (outside-is a r two.0) (plain-is rs a two.1)

plain_in-one : (words : ℕ) (rs : List Region) (a : ℕ) → a < words → Gives (λ k. (k < words) × IsFreeIn One rs k) (plain_in One rs a)
plain_in-one words [] a lt = (lt, inl refl)
plain_in-one words (r ∷ rs) a lt = by (leb STRUCTS_BEGIN a) refl (ltb a STRUCTS_END) refl
  where
    by : (x : Bool) → leb STRUCTS_BEGIN a ≡ x → (y : Bool) → ltb a STRUCTS_END ≡ y → Gives {B = ℕ} (λ k. (k < words) × IsFreeIn One (r ∷ rs) k) (if x && y then Err 8 else Ok a)
    by true p true q = tt
    by true p false q = (lt, inr (inr (grind (arith, nat_tests))))
    by false p y q = (lt, inr (inl (grind (arith, nat_tests))))

plain_in-fits : (v : Version) (words : ℕ) (rs : List Region) (a : ℕ) → a < words → Gives (λ k. (k < words) × IsFreeIn v rs k) (plain_in v rs a)
plain_in-fits One words rs a lt = plain_in-one words rs a lt
plain_in-fits Two words rs a lt = if-gives (λ k. (k < words) × IsPlain rs k) (is_plain rs a) (Ok a) 8 (λ e. (lt, plain-is rs a e))

plain-fits : (h : Header) (a : ℕ) → a < h.words → Gives (λ k. (k < h.words) × IsFree h k) (plain h a)
plain-fits h a lt = plain_in-fits h.version h.words h.regions a lt

address-fits : (d : Writing) (a : List ℕ) → Gives (λ k. (k < d.header.words) × IsFree d.header k) (address d a)
address-fits d a =
    let w = d.header.words in
    then-gives (λ k. k < w) (λ k. (k < w) × IsFree d.header k) (formed (number_of a) >>= below w) (plain d.header)
    (then-gives (λ n. n < 2 ^ 64) (λ k. k < w) (formed (number_of a)) (below w) (formed-fits a) (λ n h. below-fits w n)) (λ k lt. plain-fits d.header k lt)

operands-fit : (d : Writing) (a v : List ℕ) → Gives (λ p. (p.0 < d.header.words) × (p.1 < 2 ^ 64) × IsFree d.header p.0) (operands d a v)
operands-fit d a v =
    let w = d.header.words in
    let P : ℕ × ℕ → Type 0 = λ p. (p.0 < w) × (p.1 < 2 ^ 64) × IsFree d.header p.0 in
    then-gives (λ n. n < 2 ^ 64) P (formed (number_of a)) (λ i. formed (number_of v) >>= λ n. below w i >>= λ j. plain d.header j >>= λ k. Ok (k, n)) (formed-fits a)
    (λ i h. then-gives (λ n. n < 2 ^ 64) P (formed (number_of v)) (λ n. below w i >>= λ j. plain d.header j >>= λ k. Ok (k, n)) (formed-fits v)
    (λ n k. then-gives (λ j. j < w) P (below w i) (λ j. plain d.header j >>= λ k. Ok (k, n)) (below-fits w i)
    (λ j l. then-gives (λ x. (x < w) × IsFree d.header x) P (plain d.header j) (λ x. Ok (x, n)) (plain-fits d.header j l) (λ x u. (u.0, k, u.1)))))

caller-fits : (d : Writing) (v : List ℕ) → Gives (λ c. c < d.header.callers) (caller_of d v)
caller-fits d v =
    then-gives (λ n. n < 2 ^ 64) (λ c. c < d.header.callers) (formed (number_of v)) (below d.header.callers) (formed-fits v) (λ n h. below-fits d.header.callers n)

move-fits : (d : Writing) (a b v : List ℕ) → Gives (λ op. OpFits d.header op × IsAllowed (has_irrev d.ops) op) (move_of d a b v)
move-fits d a b v =
    let g = d.header in
    let w = d.header.words in
    let P : Op → Type 0 = λ op. OpFits g op × IsAllowed (has_irrev d.ops) op in
    let Q : ℕ → Type 0 = λ k. (k < w) × IsFree g k in
    then-gives (λ n. n < 2 ^ 64) P (formed (number_of a))
    (λ i.
    formed (number_of b) >>= λ j.
    formed (number_of v) >>= λ n. below w i >>= λ x. below w j >>= λ y. plain g x >>= λ s. plain g y >>= λ t. Ok (Move s t n))
    (formed-fits a)
    (λ i h. then-gives (λ n. n < 2 ^ 64) P (formed (number_of b)) (λ j. formed (number_of v) >>= λ n. below w i >>= λ x. below w j >>= λ y. plain g x >>= λ s. plain g y >>= λ t. Ok (Move s t n)) (formed-fits b)
    (λ j k. then-gives (λ n. n < 2 ^ 64) P (formed (number_of v)) (λ n. below w i >>= λ x. below w j >>= λ y. plain g x >>= λ s. plain g y >>= λ t. Ok (Move s t n)) (formed-fits v)
    (λ n fits. then-gives (λ x. x < w) P (below w i) (λ x. below w j >>= λ y. plain g x >>= λ s. plain g y >>= λ t. Ok (Move s t n)) (below-fits w i)
    (λ x l. then-gives (λ y. y < w) P (below w j) (λ y. plain g x >>= λ s. plain g y >>= λ t. Ok (Move s t n)) (below-fits w j)
    (λ y u. then-gives Q P (plain g x) (λ s. plain g y >>= λ t. Ok (Move s t n)) (plain-fits g x l)
    (λ s from. then-gives Q P (plain g y) (λ t. Ok (Move s t n)) (plain-fits g y u) (λ t onto. ((from.0, onto.0, fits, from.1, onto.1), tt))))))))

-- the counter of version 1 has four stripes
one-stripes : (h : Header) (stripe : ℕ) → HeaderFits h → h.version ≡ One → 0 < length h.regions → stripe < STRIPES → stripe < (counter_in h.regions 0).stripes
one-stripes h stripe f e some lt = by (subst (λ v. LayoutFits v h) e f.layout).0
  where
    by : RegionsOne h → stripe < (counter_in h.regions 0).stripes
    by (inl none) = let zero = ap length none in absurd (omega arith)
    by (inr four) = subst (λ rs. stripe < (counter_in rs 0).stripes) (sym four.0) lt

count-fits : (d : Writing) (a v : List ℕ) → HeaderFits d.header → d.header.version ≡ One → Gives (IsStructured d.header) (count_of a v)
count-fits d a v f e =
    let P : Op → Type 0 = IsStructured d.header in
    then-gives (λ n. n < 2 ^ 64) P (formed (number_of a)) (λ i. formed (number_of v) >>= λ n. below STRIPES i >>= λ s. Ok (CountOn COUNTER s n)) (formed-fits a)
    (λ i h. then-gives (λ n. n < 2 ^ 64) P (formed (number_of v)) (λ n. below STRIPES i >>= λ s. Ok (CountOn COUNTER s n)) (formed-fits v)
    (λ n k. then-gives (λ s. s < STRIPES) P (below STRIPES i) (λ s. Ok (CountOn COUNTER s n)) (below-fits STRIPES i)
    (λ s l. ((λ has. let is = has-structure d.header structures.Counter 0 has in (is, one-stripes d.header s f e is.0 l, k)), (λ asked. tt)))))

-- each of these operations, where the word is its name
abbrev pub Each : (Op → Type 0) → List Op → List ℕ → Type 0
Each P [] w = Unit {0}
Each P (op ∷ ops) w = (w ≡ op_name op → P op) × Each P ops w

pub op_of-gives : (P : Op → Type 0) (ops : List Op) (w : List ℕ) → Each P ops w → Gives P (op_of ops w)
op_of-gives P [] w h = tt
op_of-gives P (op ∷ ops) w h =
    if-else-gives P (bytes_eq w (op_name op)) (Ok op) (op_of ops w) (λ e. h.0 ((bytes_eq-Decides w (op_name op)).0 e)) (op_of-gives P ops w h.1)

-- an operation that fits with any key
abbrev FitsKeyed : Header → Op → Type 0
FitsKeyed h op = (key : ℕ) → key ≤ MAX_KEY → IsStructured h (with_key key op)

keyed-fits : (h : Header) (w v : List ℕ) → Gives (IsStructured h) (keyed w v)
keyed-fits h w v =
    then-gives (FitsKeyed h) (IsStructured h) (op_of KEYED w) (λ op. number 0 MAX_KEY v >>= λ key. Ok (with_key key op))
    (op_of-gives (FitsKeyed h) KEYED w (
      (λ e key le. ((λ has. (has-structure h structures.List 1 has, le)), (λ asked. tt))),
      (
        (λ e key le. ((λ has. (has-structure h structures.List 1 has, le)), (λ asked. tt))),
        (
          (λ e key le. ((λ has. (has-structure h structures.List 1 has, le)), (λ asked. tt))),
          (
            (λ e key le. ((λ has. (has-structure h structures.Hash 2 has, le)), (λ asked. tt))),
            (
              (λ e key le. ((λ has. (has-structure h structures.Hash 2 has, le)), (λ asked. tt))),
              (
                (λ e key le. ((λ has. (has-structure h structures.Hash 2 has, le)), (λ asked. tt))),
                (
                  (λ e key le. ((λ has. (has-structure h structures.Tree 3 has, le)), (λ asked. tt))),
                  (
                    (λ e key le. ((λ has. (has-structure h structures.Tree 3 has, le)), (λ asked. tt))),
                    ((λ e key le. ((λ has. (has-structure h structures.Tree 3 has, le)), (λ asked. tt))), tt),
                  ),
                ),
              ),
            ),
          ),
        ),
      ),
    ))
    (λ op each. then-gives (λ k. (0 ≤ k) × (k ≤ MAX_KEY)) (IsStructured h) (number 0 MAX_KEY v) (λ key. Ok (with_key key op)) (number-within 0 MAX_KEY v) (λ key k. each key k.1))

keyless-fits : (h : Header) (w : List ℕ) → Gives (IsStructured h) (op_of KEYLESS w)
keyless-fits h w =
    op_of-gives (IsStructured h) KEYLESS w (
      (λ e. ((λ has. has-structure h structures.Counter 0 has), (λ asked. tt))),
      (
        (λ e. ((λ has. has-structure h structures.List 1 has), (λ asked. tt))),
        ((λ e. ((λ has. has-structure h structures.Tree 3 has), (λ asked. tt))), tt),
      ),
    )

-- an operation that fits on any region, with any key
abbrev FitsPlaced : Header → Op → Type 0
FitsPlaced h op = (r key : ℕ) → key ≤ MAX_KEY → IsStructured h (with_key key (with_region r op))

placed_keyed-sound : (m : Mode) (d : Writing) (w a v : List ℕ) → Sound m d → At m Ops d → d.place ≡ Ops → Gives (Leaves m d) (placed_keyed d w a v)
placed_keyed-sound m d w a v s at e =
    let P : Step → Type 0 = Leaves m d in
    let h : Header = d.header in
    then-gives (FitsPlaced h) P (op_of PLACED_KEYED w) (λ op.
    formed (number_of a) >>= λ i.
    formed (number_of v) >>= λ n. region_number d i >>= λ r. ranged 0 MAX_KEY n >>= λ key. structured d (with_key key (with_region r op)))
    (op_of-gives (FitsPlaced h) PLACED_KEYED w (
      (λ e r key le. ((λ has. (has-structure h structures.List r has, le)), (λ asked. tt))),
      (
        (λ e r key le. ((λ has. (has-structure h structures.List r has, le)), (λ asked. tt))),
        (
          (λ e r key le. ((λ has. (has-structure h structures.List r has, le)), (λ asked. tt))),
          (
            (λ e r key le. ((λ has. (has-structure h structures.Hash r has, le)), (λ asked. tt))),
            (
              (λ e r key le. ((λ has. (has-structure h structures.Hash r has, le)), (λ asked. tt))),
              (
                (λ e r key le. ((λ has. (has-structure h structures.Hash r has, le)), (λ asked. tt))),
                (
                  (λ e r key le. ((λ has. (has-structure h structures.Tree r has, le)), (λ asked. tt))),
                  (
                    (λ e r key le. ((λ has. (has-structure h structures.Tree r has, le)), (λ asked. tt))),
                    (
                      (λ e r key le. ((λ has. (has-structure h structures.Tree r has, le)), (λ asked. tt))),
                      (
                        (λ e r key le. ((λ has. (has-structure h structures.Queue r has, le)), (λ asked. tt))),
                        (
                          (λ e r key le. ((λ has. (has-structure h structures.SumMap r has, le)), (λ asked. tt))),
                          ((λ e r key le. ((λ has. (has-structure h structures.SumMap r has, le)), (λ asked. tt))), tt),
                        ),
                      ),
                    ),
                  ),
                ),
              ),
            ),
          ),
        ),
      ),
    ))
    (λ op each.
    then-gives (λ n. n < 2 ^ 64) P (formed (number_of a))
    (λ i.
    formed (number_of v) >>= λ n. region_number d i >>= λ r. ranged 0 MAX_KEY n >>= λ key. structured d (with_key key (with_region r op)))
    (formed-fits a)
    (λ i l. then-gives (λ n. n < 2 ^ 64) P (formed (number_of v)) (λ n. region_number d i >>= λ r. ranged 0 MAX_KEY n >>= λ key. structured d (with_key key (with_region r op))) (formed-fits v)
    (λ n k. then-gives (λ r. r < length h.regions) P (region_number d i) (λ r. ranged 0 MAX_KEY n >>= λ key. structured d (with_key key (with_region r op))) (below-fits (length h.regions) i)
    (λ r lt. then-gives (λ key. (0 ≤ key) × (key ≤ MAX_KEY)) P (ranged 0 MAX_KEY n) (λ key. structured d (with_key key (with_region r op))) (ranged-fits 0 MAX_KEY n)
    (λ key le. structured-sound m d (with_key key (with_region r op)) s at e (each r key le.1))))))

placed_keyless-sound : (m : Mode) (d : Writing) (w v : List ℕ) → Sound m d → At m Ops d → d.place ≡ Ops → Gives (Leaves m d) (placed_keyless d w v)
placed_keyless-sound m d w v s at e =
    let P : Step → Type 0 = Leaves m d in
    let h : Header = d.header in
    let Q : Op → Type 0 = λ op. (r : ℕ) → IsStructured h (with_region r op) in
    then-gives Q P (op_of PLACED_KEYLESS w) (λ op. formed (number_of v) >>= region_number d >>= λ r. structured d (with_region r op))
    (op_of-gives Q PLACED_KEYLESS w (
      (λ e r. ((λ has. has-structure h structures.Counter r has), (λ asked. tt))),
      (
        (λ e r. ((λ has. has-structure h structures.List r has), (λ asked. tt))),
        (
          (λ e r. ((λ has. has-structure h structures.Tree r has), (λ asked. tt))),
          ((λ e r. ((λ has. has-structure h structures.Queue r has), (λ asked. tt))), tt),
        ),
      ),
    ))
    (λ op each. then-gives (λ r. r < length h.regions) P (formed (number_of v) >>= region_number d) (λ r. structured d (with_region r op))
    (then-gives (λ n. n < 2 ^ 64) (λ r. r < length h.regions) (formed (number_of v)) (region_number d) (formed-fits v) (λ n l. below-fits (length h.regions) n))
    (λ r lt. structured-sound m d (with_region r op) s at e (each r)))

-- three numbers of the form
pub three-formed : {B : Type 0} (Q : B → Type 0) (a b v : List ℕ) (next : ℕ → ℕ → ℕ → Result B ℕ) → ((i j n : ℕ) → i < 2 ^ 64 → j < 2 ^ 64 → n < 2 ^ 64 → Gives Q (next i j n))
    → Gives Q (formed (number_of a) >>= λ i. formed (number_of b) >>= λ j. formed (number_of v) >>= λ n. next i j n)
three-formed Q a b v next each =
    then-gives (λ n. n < 2 ^ 64) Q (formed (number_of a)) (λ i. formed (number_of b) >>= λ j. formed (number_of v) >>= λ n. next i j n) (formed-fits a)
    (λ i x. then-gives (λ n. n < 2 ^ 64) Q (formed (number_of b)) (λ j. formed (number_of v) >>= λ n. next i j n) (formed-fits b)
    (λ j y. then-gives (λ n. n < 2 ^ 64) Q (formed (number_of v)) (λ n. next i j n) (formed-fits v) (λ n z. each i j n x y z)))

stripe_in-fits : (r : Region) (n : ℕ) → Gives (λ s. s < (as_counter r).stripes) (stripe_in r n)
stripe_in-fits (kinds.Counter c) n = below-fits c.stripes n
stripe_in-fits (kinds.List l) n = tt
stripe_in-fits (kinds.Hash h) n = tt
stripe_in-fits (kinds.Tree t) n = tt
stripe_in-fits (kinds.Queue q) n = tt
stripe_in-fits (kinds.SumMap r) n = tt

stripe_of-fits : (rs : List Region) (r n : ℕ) → Gives (λ s. s < (counter_in rs r).stripes) (stripe_of rs r n)
stripe_of-fits rs r n = if-gives (λ s. s < (counter_in rs r).stripes) (ltb r (length rs)) (stripe_in (region_at rs r) n) 8 (λ _. stripe_in-fits (region_at rs r) n)

placed_count-sound : (m : Mode) (d : Writing) (a b v : List ℕ) → Sound m d → At m Ops d → d.place ≡ Ops → Gives (Leaves m d) (placed_count d a b v)
placed_count-sound m d a b v s at e =
    let P : Step → Type 0 = Leaves m d in
    let rs : List Region = d.header.regions in
    three-formed P a b v (λ i j n. region_number d i >>= λ r. stripe_of rs r j >>= λ t. structured d (CountOn r t n))
    (λ i j n x y z. then-gives (λ r. r < length rs) P (region_number d i) (λ r. stripe_of rs r j >>= λ t. structured d (CountOn r t n)) (below-fits (length rs) i)
    (λ r lt. then-gives (λ t. t < (counter_in rs r).stripes) P (stripe_of rs r j) (λ t. structured d (CountOn r t n)) (stripe_of-fits rs r j)
    (λ t l. structured-sound m d (CountOn r t n) s at e ((λ has. (has-structure d.header structures.Counter r has, l, z)), (λ asked. tt)))))

map_put-sound : (m : Mode) (d : Writing) (a b v : List ℕ) → Sound m d → At m Ops d → d.place ≡ Ops → Gives (Leaves m d) (map_put_of d a b v)
map_put-sound m d a b v s at e =
    let P : Step → Type 0 = Leaves m d in
    let rs : List Region = d.header.regions in
    three-formed P a b v (λ i j n. region_number d i >>= λ r. ranged 0 MAX_KEY j >>= λ key. structured d (MapPut r key n))
    (λ i j n x y z. then-gives (λ r. r < length rs) P (region_number d i) (λ r. ranged 0 MAX_KEY j >>= λ key. structured d (MapPut r key n)) (below-fits (length rs) i)
    (λ r lt. then-gives (λ key. (0 ≤ key) × (key ≤ MAX_KEY)) P (ranged 0 MAX_KEY j) (λ key. structured d (MapPut r key n)) (ranged-fits 0 MAX_KEY j)
    (λ key le. structured-sound m d (MapPut r key n) s at e ((λ has. ((has-structure d.header structures.SumMap r has, le.1), z)), (λ asked. tt)))))

map_sum-sound : (m : Mode) (d : Writing) (a b v : List ℕ) → Sound m d → At m Ops d → d.place ≡ Ops → Gives (Leaves m d) (map_sum_of d a b v)
map_sum-sound m d a b v s at e =
    let P : Step → Type 0 = Leaves m d in
    let rs : List Region = d.header.regions in
    three-formed P a b v (λ i j n. region_number d i >>= λ r. ranged 0 MAX_KEY j >>= λ low. ranged 0 MAX_KEY n >>= λ high. structured d (MapSum r low high))
    (λ i j n x y z. then-gives (λ r. r < length rs) P (region_number d i) (λ r. ranged 0 MAX_KEY j >>= λ low. ranged 0 MAX_KEY n >>= λ high. structured d (MapSum r low high)) (below-fits (length rs) i)
    (λ r lt. then-gives (λ low. (0 ≤ low) × (low ≤ MAX_KEY)) P (ranged 0 MAX_KEY j) (λ low. ranged 0 MAX_KEY n >>= λ high. structured d (MapSum r low high)) (ranged-fits 0 MAX_KEY j)
    (λ low le. then-gives (λ high. (0 ≤ high) × (high ≤ MAX_KEY)) P (ranged 0 MAX_KEY n) (λ high. structured d (MapSum r low high)) (ranged-fits 0 MAX_KEY n)
    (λ high top. structured-sound m d (MapSum r low high) s at e ((λ has. ((has-structure d.header structures.SumMap r has, le.1), top.1)), (λ asked. tt))))))

reserve-sound : (m : Mode) (d : Writing) (a b v : List ℕ) → Sound m d → At m Items d → d.place ≡ Items → d.header.version ≡ Two → Gives (Leaves m d) (reserve_of d a b v)
reserve-sound m d a b v s at e two =
    let P : Step → Type 0 = Leaves m d in
    let all : ℕ = d.header.callers in
    three-formed P a b v (λ i j n. below all i >>= λ c. ranged 1 MAX_LOG j >>= λ reads. ranged 1 MAX_LOG n >>= λ writes. lengthened d c reads writes)
    (λ i j n x y z. then-gives (λ c. c < all) P (below all i) (λ c. ranged 1 MAX_LOG j >>= λ reads. ranged 1 MAX_LOG n >>= λ writes. lengthened d c reads writes) (below-fits all i)
    (λ c lt. then-gives IsLength P (ranged 1 MAX_LOG j) (λ reads. ranged 1 MAX_LOG n >>= λ writes. lengthened d c reads writes) (ranged-fits 1 MAX_LOG j)
    (λ reads r. then-gives IsLength P (ranged 1 MAX_LOG n) (λ writes. lengthened d c reads writes) (ranged-fits 1 MAX_LOG n)
    (λ writes w. lengthened-sound m d c reads writes s at e (lt, r, w, two)))))

go-fits : (d : Writing) (a v : List ℕ) → Gives (GoFits d.header) (go_of d a v)
go-fits d a v =
    let P : Go → Type 0 = GoFits d.header in
    let made : ℕ → ℕ → Result Go ℕ = λ c t. Ok (record { caller = c; turns = t }) in
    then-gives (λ n. n < 2 ^ 64) P (formed (number_of a)) (λ i. formed (number_of v) >>= λ n. below d.header.callers i >>= λ c. ranged 1 MAX_TURNS n >>= made c) (formed-fits a)
    (λ i h. then-gives (λ n. n < 2 ^ 64) P (formed (number_of v)) (λ n. below d.header.callers i >>= λ c. ranged 1 MAX_TURNS n >>= made c) (formed-fits v)
    (λ n k. then-gives (λ c. c < d.header.callers) P (below d.header.callers i) (λ c. ranged 1 MAX_TURNS n >>= made c) (below-fits d.header.callers i)
    (λ c l. then-gives (λ t. (1 ≤ t) × (t ≤ MAX_TURNS)) P (ranged 1 MAX_TURNS n) (made c) (ranged-fits 1 MAX_TURNS n) (λ t u. (l, u.0, u.1)))))

keyless-sound : (m : Mode) (d : Writing) (v : Version) (w : List ℕ) → Sound m d → At m Ops d → d.place ≡ Ops → Gives (Leaves m d) (keyless v d w)
keyless-sound m d One w s at e =
    then-gives (IsStructured d.header) (Leaves m d) (op_of KEYLESS w) (structured d) (keyless-fits d.header w) (λ op is. structured-sound m d op s at e is)
keyless-sound m d Two w s at e = tt

one-sound : (m : Mode) (d : Writing) (p : NextLine) (w : List ℕ) → Sound m d → At m p d → d.place ≡ p → Gives (Leaves m d) (one_word p m d w)
one-sound m d Items w s at e =
    if-both (Leaves m d) (bytes_eq w (codes "done")) (Ok Done) (named (codes "schedule") w (scheduled m)) s
    (named-gives (Leaves m d) (codes "schedule") w (scheduled m) (scheduled-sound m d s at))
one-sound m d Ops w s at e =
    let sole : Result Step ℕ = keyless d.header.version d w in
    let ends : Result Step ℕ = if bytes_eq w (codes "end") then Ok End else sole in
    if-both (Leaves m d) (bytes_eq w (codes "irrev")) (added d Irrev) (if bytes_eq w (codes "cancel") then added d Cancel else ends) (added-sound m d Irrev s at e tt tt)
    (if-both (Leaves m d) (bytes_eq w (codes "cancel")) (added d Cancel) ends (added-sound m d Cancel s at e tt tt)
    (if-both (Leaves m d) (bytes_eq w (codes "end")) (Ok End) sole (ended-sound m d s at) (keyless-sound m d d.header.version w s at e)))
one-sound m d Turns w s at e = named-gives (Leaves m d) (codes "done") w (Ok Done) s
one-sound m d p w s at e = tt

heads-sound : (m : Mode) (d : Writing) (p : NextLine) (w v : List ℕ) → Sound m d → IsFront d → HeadAt p d.header d.count
    → Gives (Leaves m d) (header_line p d.header w v >>= λ field. Ok (Head (next_line d.header.version p) field))
heads-sound m d p w v s front at =
    let q : NextLine = next_line d.header.version p in
    then-gives (Puts d.header d.count q) (Leaves m d) (header_line p d.header w v) (λ field. Ok (Head q field)) (header_line-fits p d.header d.count w v s.header at)
    (λ field f. head-sound m d q field front s.turns (next-by d.header.version p) (next-no_turns d.header.version p) f)

pair-sound : (m : Mode) (d : Writing) (v : Version) (w a : List ℕ) → Sound m d → At m Ops d → d.place ≡ Ops → Gives (Leaves m d) (pair_op v d w a)
pair-sound m d One w a s at e =
    then-gives (IsStructured d.header) (Leaves m d) (keyed w a) (structured d) (keyed-fits d.header w a) (λ op is. structured-sound m d op s at e is)
pair-sound m d Two w a s at e = placed_keyless-sound m d w a s at e

triple-sound : (m : Mode) (d : Writing) (v : Version) (w a b : List ℕ) → Sound m d → At m Ops d → d.place ≡ Ops → d.header.version ≡ v → Gives (Leaves m d) (triple_op v d w a b)
triple-sound m d One w a b s at e one =
    let counts : Result Step ℕ = count_of a b >>= structured d in
    named-gives (Leaves m d) (codes "count") w counts
    (then-gives (IsStructured d.header) (Leaves m d) (count_of a b) (structured d) (count-fits d a b s.header one) (λ op is. structured-sound m d op s at e is))
triple-sound m d Two w a b s at e two = placed_keyed-sound m d w a b s at e

quadruple-sound : (m : Mode) (d : Writing) (v : Version) (w a b c : List ℕ) → Sound m d → At m Ops d → d.place ≡ Ops → Gives (Leaves m d) (quadruple_op v d w a b c)
quadruple-sound m d One w a b c s at e = tt
quadruple-sound m d Two w a b c s at e =
    let sums : Result Step ℕ = named (codes "msum") w (map_sum_of d a b c) in
    if-both (Leaves m d) (bytes_eq w (codes "count")) (placed_count d a b c) (if bytes_eq w (codes "mput") then map_put_of d a b c else sums) (placed_count-sound m d a b c s at e)
    (if-both (Leaves m d) (bytes_eq w (codes "mput")) (map_put_of d a b c) sums (map_put-sound m d a b c s at e)
    (named-gives (Leaves m d) (codes "msum") w (map_sum_of d a b c) (map_sum-sound m d a b c s at e)))

quadruple_item-sound : (m : Mode) (d : Writing) (v : Version) (w a b c : List ℕ) → Sound m d → At m Items d → d.place ≡ Items → d.header.version ≡ v → Gives (Leaves m d) (quadruple_item v d w a b c)
quadruple_item-sound m d One w a b c s at e one = tt
quadruple_item-sound m d Two w a b c s at e two =
    named-gives (Leaves m d) (codes "reserve") w (reserve_of d a b c) (reserve-sound m d a b c s at e two)

two-sound : (m : Mode) (d : Writing) (p : NextLine) (w v : List ℕ) → Sound m d → At m p d → d.place ≡ p → Gives (Leaves m d) (two_words p m d w v)
two-sound m d Items w v s at e =
    named-gives (Leaves m d) (codes "tx") w (caller_of d v >>= begun d)
    (then-gives (λ c. c < d.header.callers) (Leaves m d) (caller_of d v) (begun d) (caller-fits d v) (λ c lt. begun-sound m d c s at.1 lt))
two-sound m d Turns w v s at e = tt
two-sound m d Ops w v s at e =
    let P : ℕ → Type 0 = λ a. (a < d.header.words) × IsFree d.header a in
    let reads : Result Step ℕ = address d v >>= λ a. added d (Read a) in
    let emits : Result Step ℕ = address d v >>= emitted d in
    let pairs : Result Step ℕ = pair_op d.header.version d w v in
    if-both (Leaves m d) (bytes_eq w (codes "read")) reads (if bytes_eq w (codes "emit") then emits else pairs)
    (then-gives P (Leaves m d) (address d v) (λ a. added d (Read a)) (address-fits d v) (λ a h. added-sound m d (Read a) s at e h tt))
    (if-both (Leaves m d) (bytes_eq w (codes "emit")) emits pairs
    (then-gives P (Leaves m d) (address d v) (emitted d) (address-fits d v) (λ a h. emitted-sound m d a s at e h))
    (pair-sound m d d.header.version w v s at e))
two-sound m d Regions w v s at e = regions-sound m d w v s at
two-sound m d VersionLine w v s at e = heads-sound m d VersionLine w v s at.0 at.1
two-sound m d Words w v s at e = heads-sound m d Words w v s at.0 at.1
two-sound m d Callers w v s at e = heads-sound m d Callers w v s at.0 at.1
two-sound m d Records w v s at e = heads-sound m d Records w v s at.0 at.1
two-sound m d Ring w v s at e = heads-sound m d Ring w v s at.0 at.1
two-sound m d Reads w v s at e = heads-sound m d Reads w v s at.0 at.1
two-sound m d Writes w v s at e = heads-sound m d Writes w v s at.0 at.1
two-sound m d Clock w v s at e = heads-sound m d Clock w v s at.0 at.1
two-sound m d Algorithm w v s at e = heads-sound m d Algorithm w v s at.0 at.1
two-sound m d Structures w v s at e = heads-sound m d Structures w v s at.0 at.1
two-sound m d RegionLine w v s at e = heads-sound m d RegionLine w v s at.0 at.1
two-sound m d PolicyLine w v s at e = heads-sound m d PolicyLine w v s at.0 at.1

three-sound : (m : Mode) (d : Writing) (p : NextLine) (w a v : List ℕ) → Sound m d → At m p d → d.place ≡ p → Gives (Leaves m d) (three_words p d w a v)
three-sound m d Ops w a v s at e =
    let P : ℕ × ℕ → Type 0 = λ p. (p.0 < d.header.words) × (p.1 < 2 ^ 64) × IsFree d.header p.0 in
    let writes : Result Step ℕ = operands d a v >>= λ p. added d (Write p.0 p.1) in
    let adds : Result Step ℕ = operands d a v >>= λ p. added d (Sum p.0 p.1) in
    let triples : Result Step ℕ = triple_op d.header.version d w a v in
    if-both (Leaves m d) (bytes_eq w (codes "write")) writes (if bytes_eq w (codes "add") then adds else triples)
    (then-gives P (Leaves m d) (operands d a v) (λ p. added d (Write p.0 p.1)) (operands-fit d a v) (λ p h. added-sound m d (Write p.0 p.1) s at e h tt))
    (if-both (Leaves m d) (bytes_eq w (codes "add")) adds triples
    (then-gives P (Leaves m d) (operands d a v) (λ p. added d (Sum p.0 p.1)) (operands-fit d a v) (λ p h. added-sound m d (Sum p.0 p.1) s at e h tt))
    (triple-sound m d d.header.version w a v s at e refl))
three-sound m d Items w a v s at e =
    let switches : Result Step ℕ = caller_of d a >>= λ c. algorithm v >>= λ alg. changed d c alg in
    named-gives (Leaves m d) (codes "switch") w switches
    (then-gives (λ c. c < d.header.callers) (Leaves m d) (caller_of d a) (λ c. algorithm v >>= λ alg. changed d c alg) (caller-fits d a)
    (λ c lt. then-gives (λ a. Unit {0}) (Leaves m d) (algorithm v) (λ alg. changed d c alg) (gives-any (algorithm v)) (λ alg _. changed-sound m d c alg s at e lt)))
three-sound m d Turns w a v s at e =
    named-gives (Leaves m d) (codes "go") w (go_of d a v >>= planned d)
    (then-gives (GoFits d.header) (Leaves m d) (go_of d a v) (planned d) (go-fits d a v) (λ go fits. planned-sound m d go s at e fits))
three-sound m d p w a v s at e = tt

four-sound : (m : Mode) (d : Writing) (p : NextLine) (w a b v : List ℕ) → Sound m d → At m p d → d.place ≡ p → Gives (Leaves m d) (four_words p d w a b v)
four-sound m d Ops w a b v s at e =
    if-both (Leaves m d) (bytes_eq w (codes "move")) (move_of d a b v >>= added d) (quadruple_op d.header.version d w a b v)
    (then-gives (λ op. OpFits d.header op × IsAllowed (has_irrev d.ops) op) (Leaves m d) (move_of d a b v) (added d) (move-fits d a b v) (λ op fits. added-sound m d op s at e fits.0 fits.1))
    (quadruple-sound m d d.header.version w a b v s at e)
four-sound m d Items w a b v s at e = quadruple_item-sound m d d.header.version w a b v s at e refl
four-sound m d RegionLine w a b v s at e = named-gives (Leaves m d) (codes "region") w (region_of d a b v) (region-sound m d a b v s at)
four-sound m d p w a b v s at e = tt

pub filled-gives : (P : Step → Type 0) (w : List ℕ) (rest : Result Step ℕ) → Gives P rest → Gives P (filled w rest)
filled-gives P [] rest h = tt
filled-gives P (b ∷ bs) rest h = h

words-sound : (m : Mode) (d : Writing) (ws : List (List ℕ)) → Sound m d → Gives (Leaves m d) (by_words m d ws)
words-sound m d [] s = tt
words-sound m d (w ∷ []) s = one-sound m d d.place w s s.here refl
words-sound m d (w ∷ v ∷ []) s =
    filled-gives (Leaves m d) v (two_words d.place m d w v) (two-sound m d d.place w v s s.here refl)
words-sound m d (w ∷ a ∷ v ∷ []) s =
    filled-gives (Leaves m d) a (filled v (three_words d.place d w a v))
    (filled-gives (Leaves m d) v (three_words d.place d w a v) (three-sound m d d.place w a v s s.here refl))
words-sound m d (w ∷ a ∷ b ∷ v ∷ []) s =
    let four : Result Step ℕ = four_words d.place d w a b v in
    filled-gives (Leaves m d) a (filled b (filled v four))
    (filled-gives (Leaves m d) b (filled v four) (filled-gives (Leaves m d) v four (four-sound m d d.place w a b v s s.here refl)))
words-sound m d (w ∷ a ∷ b ∷ v ∷ x ∷ ws) s = tt

pub step-sound : (m : Mode) (d : Writing) (l : Line) → Sound m d → Gives (Leaves m d) (step_of m d l)
step-sound m d l s =
    let words : Result Step ℕ = by_words m d (words_of l.bytes) in
    if-both (Leaves m d) (any_bad l.bytes) (Err 2) (if l.ended then words else Err 3) tt
    (if-both (Leaves m d) l.ended words (Err 3) (words-sound m d (words_of l.bytes) s) tt)

ended-is_parsed : (m : Mode) (d : Writing) (k : ℕ) (ls : List Line) → Sound m d → Gives (IsParsed m) (ended d k ls)
ended-is_parsed m d k [] s = record { header = s.header; count = s.count; items = s.items; schedule = s.schedule }
ended-is_parsed m d k (l ∷ ls) s = tt

go_on-is_parsed : (m : Mode) (d : Writing) (k : ℕ) (ls : List Line) (r : Result Step ℕ) (rest : Writing → Result Workload (ℕ × ℕ))
    → Gives (Leaves m d) r → Sound m d → ((e : Writing) → Sound m e → Gives (IsParsed m) (rest e))
    → Gives (IsParsed m) (go_on r d k ls rest)
go_on-is_parsed m d k ls (Err c) rest h s g = tt
go_on-is_parsed m d k ls (Ok Done) rest h s g = ended-is_parsed m d (k + 1) ls s
go_on-is_parsed m d k ls (Ok (Head p x)) rest h s g = g (after (Head p x) d) h
go_on-is_parsed m d k ls (Ok (Count p n)) rest h s g = g (after (Count p n) d) h
go_on-is_parsed m d k ls (Ok (Begin c)) rest h s g = g (after (Begin c) d) h
go_on-is_parsed m d k ls (Ok (Change c a)) rest h s g = g (after (Change c a) d) h
go_on-is_parsed m d k ls (Ok (Lengthen c r w)) rest h s g = g (after (Lengthen c r w) d) h
go_on-is_parsed m d k ls (Ok (Add op)) rest h s g = g (after (Add op) d) h
go_on-is_parsed m d k ls (Ok Schedule) rest h s g = g (after Schedule d) h
go_on-is_parsed m d k ls (Ok (Turn go all)) rest h s g = g (after (Turn go all) d) h
go_on-is_parsed m d k ls (Ok End) rest h s g = g (after End d) h

parsed-is_parsed : (m : Mode) (d : Writing) (k : ℕ) (ls : List Line) → Sound m d → Gives (IsParsed m) (parsed m d k ls)
parsed-is_parsed m d k [] s = tt
parsed-is_parsed m d k (l ∷ ls) s =
    go_on-is_parsed m d k ls (step_of m d l) (λ e. parsed m e (k + 1) ls) (step-sound m d l s) s (λ e t. parsed-is_parsed m e (k + 1) ls t)

-- a memory opens under CGL, and so does a draft
opening-fits : HeaderFits opening.header
opening-fits = record {
  words = omega arith;
  config = record {
    words = (omega arith, omega arith);
    records = (omega arith, omega arith);
    ring = (omega arith, omega arith);
    callers = (omega arith, omega arith);
    reads = (omega arith, omega arith);
    writes = (omega arith, omega arith);
    clock = omega arith;
  };
  layout = bare-fits One opening.header (refl, refl);
}

pub opening-sound : (m : Mode) → Sound m opening
opening-sound m = record {
  header = opening-fits;
  count = omega arith;
  items = All-nil (ItemFits opening.header);
  ops = none-fit opening.header;
  schedule = none-planned m opening.header;
  turns = refl;
  here = ((refl, refl, refl), (refl, (refl, refl)));
}

-- a workload of lines from the start on fits
pub lines-is_parsed : (m : Mode) (ls : List Line) → Gives (IsParsed m) (parsed m opening 1 ls)
lines-is_parsed m ls = parsed-is_parsed m opening 1 ls (opening-sound m)
