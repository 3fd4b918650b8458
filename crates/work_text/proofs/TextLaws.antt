-- A text of a workload that fits is read as that workload.
use Rattle.std.proofs.Common.{ℕ, ◌≡◌, ◌≢◌, ◌<◌, ◌≤◌, ◌+◌, ◌^◌, List, [], ◌∷◌, ◌++◌, true, false, Result, Ok, inl, inr, refl, sym, ap, subst, ◌∙◌, arith, length, append_assoc, append-nil, length-append}
use Rattle.std.specs.Prelude.{ltb, codes, map, All}
use Rattle.std.specs.Fmt.{decimal}
use Rattle.std.proofs.lemmas.Bool.Decides.{nat_tests}
use Rattle.std.proofs.lemmas.List.Elements.{All-nil, All-head, All-tail}
use Rattle.stm_model.specs.declared.alg.Alg.{Alg}
use Rattle.stm_model.specs.declared.config.TheConstants.{MAX_CALLERS, MAX_LOG}
use Rattle.stm_model.specs.Algorithms.{alg_name}
use Rattle.work_script.specs.declared.op.Op.{Op}
use Rattle.work_script.specs.declared.workload.Header.{Header}
use Rattle.work_script.specs.declared.workload.Item.{Item}
use Rattle.work_script.specs.declared.workload.Item.TheVariants.{Tx, Switch, Reserve}
use Rattle.work_script.specs.declared.workload.Go.{Go}
use Rattle.work_script.specs.declared.workload.Workload.{Workload}
use Rattle.work_script.specs.declared.workload.TheConstants.{MAX_ITEMS, MAX_OPS, MAX_TURNS}
use Rattle.work_script.specs.Scripts.{has_irrev}
use Rattle.work_text.specs.declared.draft.NextLine.TheVariants.{Items, Turns}
use Rattle.work_text.specs.declared.draft.Step.{Step}
use Rattle.work_text.specs.declared.draft.Step.TheVariants.{Begin, Change, Lengthen, End, Schedule, Turn, Done}
use Rattle.work_text.specs.declared.parse.TheConstants.{MAX_TEXT}
use Rattle.work_text.specs.declared.parse.Mode.{Mode}
use Rattle.work_text.specs.declared.parse.Mode.TheVariants.{Run, Step as Stepwise}
use Rattle.work_text.specs.Lines.{lines_of, number_of}
use Rattle.work_text.specs.Drafts.{Writing, opening}
use Rattle.work_text.specs.Grammar.{◌>>=◌, formed, ranged, below, algorithm, begun, changed, lengthened, planned, caller_of, go_of, quadruple_item, two_words, three_words, four_words, filled, by_words, parsed, workload_of}
use Rattle.work_text.specs.Parsed.{HeaderFits, OpFits, AreInOrder, ItemFits, GoFits, all_turns, ScheduleFits, IsParsed}
use Rattle.work_text.specs.Texts.{line, op_words, items_lines, header_lines, go_words, section_lines, schedule_lines, lines_with, lines_text, AreLinesOf, IsTextOf}
use Rattle.work_text.proofs.OrderLaws.{irrev-snoc}
use Rattle.work_text.specs.WordLaws.{seen, visible-decimal}
use Rattle.work_text.proofs.OpTextLaws.{line-read, step-read, filled-decimal, formed-decimal, ranged-within, below-end, begun-room, changed-room, lengthened-room, planned-room, in_tx, between, planning, formed-three, filled-three, op-read}
use Rattle.work_text.proofs.HeaderTextLaws.{visible-name, filled-name, algorithm-name, head-read}

-- the lines of operations
ops-read : (m : Mode) (h : Header) (items : List Item) (c : ℕ) (before : List Op) (k : ℕ) (ops : List Op) (more : List (List (List ℕ)))
    → HeaderFits h → length before + length ops ≤ MAX_OPS → All (OpFits h) ops → AreInOrder (has_irrev before) ops
    → (j : ℕ) × (parsed m (in_tx h items c before) k (lines_of (lines_text (map (op_words h.version) ops ++ more))) ≡ parsed m (in_tx h items c (before ++ ops)) j (lines_of (lines_text more)))
ops-read m h items c before k [] more f room fits order =
    (k, ap (λ o. parsed m (in_tx h items c o) k (lines_of (lines_text more))) (sym (append-nil before)))
ops-read m h items c before k (op ∷ ops) more f room fits order =
    let next = ops-read m h items c (before ++ op ∷ []) (k + 1) ops more f (omega (arith, length-append before (op ∷ []))) (All-tail (OpFits h) op ops fits)
    (subst (λ b. AreInOrder b ops) (sym (irrev-snoc before op)) order.1) in (
      next.0,
      op-read m h items c before k op (lines_text (map (op_words h.version) ops ++ more)) f (All-head (OpFits h) op ops fits) (omega arith) order.0
          ∙ (next.1 ∙ ap (λ o. parsed m (in_tx h items c o) next.0 (lines_of (lines_text more))) (append_assoc before (op ∷ []) ops)),
    )

caller-decimal : (d : Writing) (c : ℕ) → c < d.header.callers → c < 2 ^ 64 → caller_of d (decimal c) ≡ Ok c
caller-decimal d c within fits = ap (λ r. r >>= below d.header.callers) (formed-decimal c fits) ∙ below-end d.header.callers c within

tx-read : (m : Mode) (h : Header) (items : List Item) (c k caller : ℕ) (rest : List ℕ) → caller < h.callers → h.callers ≤ MAX_CALLERS → length items < MAX_ITEMS
    → parsed m (between h items c) k (lines_of (line (codes "tx" ∷ decimal caller ∷ []) ++ rest)) ≡ parsed m (in_tx h items caller []) (k + 1) (lines_of rest)
tx-read m h items c k caller rest within small room =
    let d : Writing = between h items c in
    let fits : caller < 2 ^ 64 = omega arith in
    let words : by_words m d (codes "tx" ∷ decimal caller ∷ []) ≡ Ok (Begin caller) =
    filled-decimal caller (two_words Items m d (codes "tx") (decimal caller)) fits ∙ (ap (λ r. r >>= begun d) (caller-decimal d caller within fits) ∙ begun-room d caller room) in
    step-read m d k (codes "tx") (decimal caller ∷ []) rest (Begin caller) (seen (codes "tx") refl, (visible-decimal caller fits, tt)) words (λ e. cc)

end-read : (m : Mode) (h : Header) (items : List Item) (c k : ℕ) (ops : List Op) (rest : List ℕ)
    → parsed m (in_tx h items c ops) k (lines_of (line (codes "end" ∷ []) ++ rest)) ≡ parsed m (between h (items ++ Tx c ops ∷ []) c) (k + 1) (lines_of rest)
end-read m h items c k ops rest = step-read m (in_tx h items c ops) k (codes "end") [] rest End (seen (codes "end") refl, tt) refl (λ e. cc)

change-not : (c : ℕ) (a : Alg) → Change c a ≢ Done
change-not c a e = cc

switch-read : (m : Mode) (h : Header) (items : List Item) (c k caller : ℕ) (alg : Alg) (rest : List ℕ) → caller < h.callers → h.callers ≤ MAX_CALLERS → length items < MAX_ITEMS
    → parsed m (between h items c) k (lines_of (line (codes "switch" ∷ decimal caller ∷ alg_name alg ∷ []) ++ rest)) ≡ parsed m (between h (items ++ Switch caller alg ∷ []) c) (k + 1) (lines_of rest)
switch-read m h items c k caller alg rest within small room =
    let d : Writing = between h items c in
    let fits : caller < 2 ^ 64 = omega arith in
    let three : Result Step ℕ = three_words Items d (codes "switch") (decimal caller) (alg_name alg) in
    let words : by_words m d (codes "switch" ∷ decimal caller ∷ alg_name alg ∷ []) ≡ Ok (Change caller alg) =
    filled-decimal caller (filled (alg_name alg) three) fits
    ∙ (filled-name alg three
    ∙ (ap (λ r. r >>= λ x. algorithm (alg_name alg) >>= λ a. changed d x a) (caller-decimal d caller within fits)
    ∙ (ap (λ r. r >>= λ a. changed d caller a) (algorithm-name alg) ∙ changed-room d caller alg room))) in
    step-read m d k (codes "switch") (decimal caller ∷ alg_name alg ∷ []) rest (Change caller alg) (seen (codes "switch") refl, (visible-decimal caller fits, (visible-name alg, tt))) words (change-not caller alg)

regroup : (o e i d : List (List (List ℕ))) → ((o ++ e) ++ i) ++ d ≡ o ++ (e ++ (i ++ d))
regroup o e i d = simp append_assoc

lengthen-not : (c reads writes : ℕ) → Lengthen c reads writes ≢ Done
lengthen-not c reads writes e = cc

reserve-read : (m : Mode) (h : Header) (items : List Item) (c k caller reads writes : ℕ) (rest : List ℕ) → HeaderFits h → ItemFits h (Reserve caller reads writes) → length items < MAX_ITEMS
    → parsed m (between h items c) k (lines_of (line (codes "reserve" ∷ decimal caller ∷ decimal reads ∷ decimal writes ∷ []) ++ rest))
    ≡ parsed m (between h (items ++ Reserve caller reads writes ∷ []) c) (k + 1) (lines_of rest)
reserve-read m h items c k caller reads writes rest f here room =
    let d : Writing = between h items c in
    let all : ℕ = h.callers in
    let few = f.config.callers.1 in
    let within = here.0 in
    let most = here.1.1 in
    let top = here.2.1 in
    let x : caller < 2 ^ 64 = omega arith in
    let y : reads < 2 ^ 64 = omega arith in
    let z : writes < 2 ^ 64 = omega arith in
    let words : by_words m d (codes "reserve" ∷ decimal caller ∷ decimal reads ∷ decimal writes ∷ []) ≡ Ok (Lengthen caller reads writes) =
    filled-three caller reads writes (four_words Items d (codes "reserve") (decimal caller) (decimal reads) (decimal writes)) x y z
    ∙ (ap (λ v. quadruple_item v d (codes "reserve") (decimal caller) (decimal reads) (decimal writes)) here.3
    ∙ (formed-three caller reads writes (λ i j n. below all i >>= λ a. ranged 1 MAX_LOG j >>= λ b. ranged 1 MAX_LOG n >>= λ e. lengthened d a b e) x y z
    ∙ (ap (λ r. r >>= λ a. ranged 1 MAX_LOG reads >>= λ b. ranged 1 MAX_LOG writes >>= λ e. lengthened d a b e) (below-end all caller within)
    ∙ (ap (λ r. r >>= λ b. ranged 1 MAX_LOG writes >>= λ e. lengthened d caller b e) (ranged-within 1 MAX_LOG reads here.1.0 most)
    ∙ (ap (λ r. r >>= λ e. lengthened d caller reads e) (ranged-within 1 MAX_LOG writes here.2.0 top) ∙ lengthened-room d caller reads writes room))))) in
    step-read m d k (codes "reserve") (decimal caller ∷ decimal reads ∷ decimal writes ∷ []) rest (Lengthen caller reads writes)
    (seen (codes "reserve") refl, (visible-decimal caller x, (visible-decimal reads y, (visible-decimal writes z, tt)))) words
    (lengthen-not caller reads writes)

-- the lines of items
items-read : (m : Mode) (h : Header) (before : List Item) (c k : ℕ) (items : List Item) (more : List (List (List ℕ))) → HeaderFits h → length before + length items ≤ MAX_ITEMS → All (ItemFits h) items
    → (x : ℕ) × (j : ℕ) × (parsed m (between h before c) k (lines_of (lines_text (items_lines h.version items ++ more))) ≡ parsed m (between h (before ++ items) x) j (lines_of (lines_text more)))
items-read m h before c k [] more f room fits =
    (c, k, ap (λ is. parsed m (between h is c) k (lines_of (lines_text more))) (sym (append-nil before)))
items-read m h before c k (Tx caller ops ∷ items) more f room fits =
    let few = f.config.callers.1 in
    let here = All-head (ItemFits h) (Tx caller ops) items fits in
    let end : List (List (List ℕ)) = (codes "end" ∷ []) ∷ [] in
    let rest : List (List (List ℕ)) = items_lines h.version items ++ more in
    let tx : List (List ℕ) = codes "tx" ∷ decimal caller ∷ [] in
    let count = here.1.count in
    let script = ops-read m h before caller [] (k + 1) ops (end ++ rest) f (omega arith) here.1.each here.1.order in
    let next = items-read m h (before ++ Tx caller ops ∷ []) caller (script.0 + 1) items more f (omega (arith, length-append before (Tx caller ops ∷ []))) (All-tail (ItemFits h) (Tx caller ops) items fits) in (
      next.0,
      next.1,
      ap (λ t. parsed m (between h before c) k (lines_of (line tx ++ lines_text t))) (regroup (map (op_words h.version) ops) end (items_lines h.version items) more)
          ∙ (tx-read m h before c k caller (lines_text (map (op_words h.version) ops ++ (end ++ rest))) here.0 few (omega arith)
          ∙ (script.1 ∙ (end-read m h before caller script.0 ops (lines_text rest)
          ∙ (next.2 ∙ ap (λ is. parsed m (between h is next.0) next.1 (lines_of (lines_text more))) (append_assoc before (Tx caller ops ∷ []) items))))),
    )
items-read m h before c k (Switch caller alg ∷ items) more f room fits =
    let few = f.config.callers.1 in
    let here = All-head (ItemFits h) (Switch caller alg) items fits in
    let next = items-read m h (before ++ Switch caller alg ∷ []) c (k + 1) items more f (omega (arith, length-append before (Switch caller alg ∷ []))) (All-tail (ItemFits h) (Switch caller alg) items fits) in (
      next.0,
      next.1,
      switch-read m h before c k caller alg (lines_text (items_lines h.version items ++ more)) here few (omega arith)
          ∙ (next.2 ∙ ap (λ is. parsed m (between h is next.0) next.1 (lines_of (lines_text more))) (append_assoc before (Switch caller alg ∷ []) items)),
    )
items-read m h before c k (Reserve caller reads writes ∷ items) more f room fits =
    let here = All-head (ItemFits h) (Reserve caller reads writes) items fits in
    let next = items-read m h (before ++ Reserve caller reads writes ∷ []) c (k + 1) items more f
    (omega (arith, length-append before (Reserve caller reads writes ∷ [])))
    (All-tail (ItemFits h) (Reserve caller reads writes) items fits) in (
      next.0,
      next.1,
      reserve-read m h before c k caller reads writes (lines_text (items_lines h.version items ++ more)) f here (omega arith)
          ∙ (next.2 ∙ ap (λ is. parsed m (between h is next.0) next.1 (lines_of (lines_text more))) (append_assoc before (Reserve caller reads writes ∷ []) items)),
    )

-- the line `done`
abbrev done_line : List (List (List ℕ))
done_line = (codes "done" ∷ []) ∷ []

done-read : (m : Mode) (h : Header) (items : List Item) (c k : ℕ)
    → parsed m (between h items c) k (lines_of (lines_text done_line)) ≡ Ok (record { header = h; items = items; schedule = [] })
done-read m h items c k = line-read m (between h items c) k (codes "done") [] [] (seen (codes "done") refl, tt)

plan-done : (m : Mode) (h : Header) (items : List Item) (c : ℕ) (gos : List Go) (all k : ℕ)
    → parsed m (planning h items c gos all) k (lines_of (lines_text done_line)) ≡ Ok (record { header = h; items = items; schedule = gos })
plan-done m h items c gos all k = line-read m (planning h items c gos all) k (codes "done") [] [] (seen (codes "done") refl, tt)

go_of-decimal : (d : Writing) (go : Go) → GoFits d.header go → go.caller < 2 ^ 64 → go_of d (decimal go.caller) (decimal go.turns) ≡ Ok go
go_of-decimal d go fits small =
    let t = fits.2 in
    let made : ℕ → ℕ → Result Go ℕ = λ c n. Ok (record { caller = c; turns = n }) in
    ap (λ r. r >>= λ i. formed (number_of (decimal go.turns)) >>= λ n. below d.header.callers i >>= λ c. ranged 1 MAX_TURNS n >>= made c) (formed-decimal go.caller small)
    ∙ (ap (λ r. r >>= λ n. below d.header.callers go.caller >>= λ c. ranged 1 MAX_TURNS n >>= made c) (formed-decimal go.turns (omega arith))
    ∙ (ap (λ r. r >>= λ c. ranged 1 MAX_TURNS go.turns >>= made c) (below-end d.header.callers go.caller fits.0)
    ∙ ap (λ r. r >>= made go.caller) (ranged-within 1 MAX_TURNS go.turns fits.1 fits.2)))

turn-not : (go : Go) (all : ℕ) → Turn go all ≢ Done
turn-not go all e = cc

go-read : (m : Mode) (h : Header) (items : List Item) (c : ℕ) (gos : List Go) (all k : ℕ) (go : Go) (rest : List ℕ) → h.callers ≤ MAX_CALLERS → GoFits h go → all + go.turns ≤ MAX_TURNS
    → parsed m (planning h items c gos all) k (lines_of (line (go_words go) ++ rest)) ≡ parsed m (planning h items c (gos ++ go ∷ []) (all + go.turns)) (k + 1) (lines_of rest)
go-read m h items c gos all k go rest few fits room =
    let d : Writing = planning h items c gos all in
    let within = fits.0 in
    let most = fits.2 in
    let small : go.caller < 2 ^ 64 = omega arith in
    let turns : go.turns < 2 ^ 64 = omega arith in
    let three : Result Step ℕ = three_words Turns d (codes "go") (decimal go.caller) (decimal go.turns) in
    let words : by_words m d (go_words go) ≡ Ok (Turn go (all + go.turns)) =
    filled-decimal go.caller (filled (decimal go.turns) three) small
    ∙ (filled-decimal go.turns three turns
    ∙ (ap (λ r. r >>= planned d) (go_of-decimal d go fits small) ∙ planned-room d go room)) in
    step-read m d k (codes "go") (decimal go.caller ∷ decimal go.turns ∷ []) rest (Turn go (all + go.turns))
    (seen (codes "go") refl, (visible-decimal go.caller small, (visible-decimal go.turns turns, tt))) words (turn-not go (all + go.turns))

-- the lines of turns, and `done`
gos-read : (m : Mode) (h : Header) (items : List Item) (c : ℕ) (before : List Go) (all k : ℕ) (gos : List Go) → h.callers ≤ MAX_CALLERS → All (GoFits h) gos → all + all_turns gos ≤ MAX_TURNS
    → parsed m (planning h items c before all) k (lines_of (lines_text (map go_words gos ++ done_line))) ≡ Ok (record { header = h; items = items; schedule = before ++ gos })
gos-read m h items c before all k [] few fits room =
    plan-done m h items c before all k ∙ ap (λ gs. Ok (record { header = h; items = items; schedule = gs })) (sym (append-nil before))
gos-read m h items c before all k (go ∷ gos) few fits room =
    go-read m h items c before all k go (lines_text (map go_words gos ++ done_line)) few (All-head (GoFits h) go gos fits) (omega arith)
    ∙ (gos-read m h items c (before ++ go ∷ []) (all + go.turns) (k + 1) gos few (All-tail (GoFits h) go gos fits) (omega arith)
    ∙ ap (λ gs. Ok (record { header = h; items = items; schedule = gs })) (append_assoc before (go ∷ []) gos))

schedule-read : (h : Header) (items : List Item) (c k : ℕ) (rest : List ℕ)
    → parsed Stepwise (between h items c) k (lines_of (line (codes "schedule" ∷ []) ++ rest)) ≡ parsed Stepwise (planning h items c [] 0) (k + 1) (lines_of rest)
schedule-read h items c k rest = step-read Stepwise (between h items c) k (codes "schedule") [] rest Schedule (seen (codes "schedule") refl, tt) refl (λ e. cc)

-- a schedule with its line, and `done`
section-read : (h : Header) (items : List Item) (c k : ℕ) (gos : List Go) → h.callers ≤ MAX_CALLERS → ScheduleFits Stepwise h gos
    → parsed Stepwise (between h items c) k (lines_of (lines_text (section_lines gos ++ done_line))) ≡ Ok (record { header = h; items = items; schedule = gos })
section-read h items c k gos few fits =
    schedule-read h items c k (lines_text (map go_words gos ++ done_line)) ∙ gos-read Stepwise h items c [] 0 (k + 1) gos few fits.0 (let most = fits.1 in omega arith)

-- a schedule, and `done`
plan-read : (m : Mode) (h : Header) (items : List Item) (c k : ℕ) (gos : List Go) → h.callers ≤ MAX_CALLERS → ScheduleFits m h gos
    → parsed m (between h items c) k (lines_of (lines_text (schedule_lines gos ++ done_line))) ≡ Ok (record { header = h; items = items; schedule = gos })
plan-read m h items c k [] few fits = done-read m h items c k
plan-read Run h items c k (go ∷ gos) few fits = absurd cc
plan-read Stepwise h items c k (go ∷ gos) few fits = section-read h items c k (go ∷ gos) few fits

-- the lines of a header, items, and what follows them
front-read : (m : Mode) (h : Header) (items : List Item) (more : List (List (List ℕ))) → HeaderFits h → length items ≤ MAX_ITEMS → All (ItemFits h) items
    → (x : ℕ) × (j : ℕ) × (parsed m opening 1 (lines_of (lines_text (header_lines h ++ (items_lines h.version items ++ more)))) ≡ parsed m (between h items x) j (lines_of (lines_text more)))
front-read m h items more f room fits =
    let head = head-read m h (items_lines h.version items ++ more) f in
    let body = items-read m h [] 0 head.0 items more f (omega arith) fits in
    (body.0, body.1, head.1 ∙ body.2)

abbrev whole : Header → List Item → List Go → Workload
whole h items gos = record { header = h; items = items; schedule = gos }

all-read : (m : Mode) (h : Header) (items : List Item) (gos : List Go) → HeaderFits h → length items ≤ MAX_ITEMS → All (ItemFits h) items → ScheduleFits m h gos
    → parsed m opening 1 (lines_of (lines_text (lines_with (schedule_lines gos) (whole h items gos)))) ≡ Ok (whole h items gos)
all-read m h items gos f room fits plan =
    let callers = f.config.callers.1 in
    let front = front-read m h items (schedule_lines gos ++ done_line) f room fits in
    front.2 ∙ plan-read m h items front.0 front.1 gos (omega arith) plan

bare-read : (h : Header) (items : List Item) → HeaderFits h → length items ≤ MAX_ITEMS → All (ItemFits h) items
    → parsed Stepwise opening 1 (lines_of (lines_text (lines_with (section_lines []) (whole h items [])))) ≡ Ok (whole h items [])
bare-read h items f room fits =
    let callers = f.config.callers.1 in
    let front = front-read Stepwise h items (section_lines [] ++ done_line) f room fits in
    front.2 ∙ section-read h items front.0 front.1 [] (omega arith) (All-nil (GoFits h), omega arith)

short-enough : (m : Mode) (t : List ℕ) → length t ≤ MAX_TEXT → workload_of m t ≡ parsed m opening 1 (lines_of t)
short-enough m t le = let p : ltb MAX_TEXT (length t) ≡ false = grind (arith, nat_tests) in rw p

lines-read : (m : Mode) (w : Workload) (lines : List (List (List ℕ))) → IsParsed m w → AreLinesOf m w lines → parsed m opening 1 (lines_of (lines_text lines)) ≡ Ok w
lines-read m w lines b (inl is) =
    ap (λ ls. parsed m opening 1 (lines_of (lines_text ls))) is ∙ all-read m w.header w.items w.schedule b.header b.count b.items b.schedule
lines-read Run w lines b (inr is) = absurd cc
lines-read Stepwise w lines b (inr is) =
    ap (λ ls. parsed Stepwise opening 1 (lines_of (lines_text ls))) is.2
    ∙ (bare-read w.header w.items b.header b.count b.items ∙ ap (λ gs. Ok (whole w.header w.items gs)) (sym is.1))

-- a text of a workload that fits is read as that workload
pub text-read : (m : Mode) (w : Workload) (text : List ℕ) → IsParsed m w → IsTextOf m w text → length text ≤ MAX_TEXT → workload_of m text ≡ Ok w
text-read m w text b is le =
    short-enough m text le ∙ (ap (λ t. parsed m opening 1 (lines_of t)) is.2 ∙ lines-read m w is.0 b is.1)
