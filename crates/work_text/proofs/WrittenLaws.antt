-- A text that is read as a workload is a text of that workload.
use Rattle.std.proofs.Common.{ℕ, ◌≡◌, ◌+◌, List, [], ◌∷◌, ◌++◌, Bool, true, false, ◌&&◌, Result, Ok, Err, refl, sym, ap, ◌∙◌, subst, length, append_assoc, append-nil, inl, inr}
use Rattle.stm_model.specs.Algorithms.{alg_name}
use Rattle.std.specs.Prelude.{◌⊎◌, not, if◌then◌else◌, leb, ltb, codes, map, bytes_eq}
use Rattle.std.specs.Fmt.{decimal}
use Rattle.std.proofs.lemmas.Slice.Eq.{bytes_eq-Decides}
use Rattle.stm_model.specs.declared.alg.Alg.{Alg}
use Rattle.stm_model.specs.declared.config.TheConstants.{MAX_LOG}
use Rattle.data_regions.specs.declared.region.Region.{Region}
use Rattle.data_regions.specs.declared.region.Region.TheVariants as kinds
use Rattle.data_regions.specs.declared.region.Structure.{Structure}
use Rattle.data_regions.specs.declared.region.Structure.TheVariants as structures
use Rattle.data_regions.specs.Regions.{region_for}
use Rattle.work_script.specs.declared.op.Op.{Op}
use Rattle.work_script.specs.declared.op.Op.TheVariants.{Read, Write, Add as Sum, Move, Emit, Irrev, Cancel, Count, MapPut, MapSum}
use Rattle.work_script.specs.Operations.{with_key, with_region}
use Rattle.work_script.specs.Structures.{region_at}
use Rattle.work_script.specs.declared.op.TheConstants.{COUNTER, KEYED, KEYLESS, PLACED_KEYED, PLACED_KEYLESS}
use Rattle.work_script.specs.declared.workload.Header.{Header}
use Rattle.work_script.specs.declared.workload.Version.{Version}
use Rattle.work_script.specs.declared.workload.Version.TheVariants.{One, Two}
use Rattle.work_script.specs.declared.workload.Item.{Item}
use Rattle.work_script.specs.declared.workload.Item.TheVariants.{Tx, Switch, Reserve}
use Rattle.work_script.specs.declared.workload.Go.{Go}
use Rattle.work_script.specs.declared.workload.Workload.{Workload}
use Rattle.work_script.specs.declared.workload.TheConstants.{MAX_ITEMS, MAX_OPS, MAX_TURNS, MAX_KEY, MAX_REGIONS, STRUCTS_BEGIN, STRUCTS_END, STRIPES}
use Rattle.work_script.specs.Scripts.{has_irrev}
use Rattle.work_text.specs.declared.table.TheConstants.{KINDS}
use Rattle.work_text.specs.declared.draft.NextLine.{NextLine}
use Rattle.work_text.specs.declared.draft.NextLine.TheVariants.{Version as VersionLine, Words, Callers, Records, Ring, Reads, Writes, Clock, Algorithm, Structures, Regions, Region as RegionLine, Policy as PolicyLine, Items, Ops, Turns}
use Rattle.work_text.specs.declared.draft.Field.{Field}
use Rattle.work_text.specs.declared.draft.Field.TheVariants as fields
use Rattle.work_text.specs.declared.draft.Step.{Step}
use Rattle.work_text.specs.declared.draft.Step.TheVariants.{Head, Count as Announce, Begin, Change, Lengthen, Add, End, Schedule, Turn, Done}
use Rattle.work_text.specs.declared.parse.TheConstants.{MAX_TEXT}
use Rattle.work_text.specs.declared.parse.Mode.{Mode}
use Rattle.work_text.specs.declared.parse.Mode.TheVariants.{Run, Step as Stepwise}
use Rattle.work_text.specs.Lines.{Line, lines_of, words_of, any_bad, number_of}
use Rattle.work_text.specs.Drafts.{Writing, with_field, after, opening}
use Rattle.work_text.specs.Grammar.{◌>>=◌, named, formed, ranged, below, number, algorithm, sized, most_size, header_line, after_algorithm, next_line, next_region, kind_name, kind_of, is_placed, placed, region_of, begun, changed, lengthened, added, emitted, has_structure, structured, planned, scheduled, caller_of, is_plain, no_region, plain_in, plain, address, operands, move_of, count_of, op_of, keyed, keyless, region_number, placed_keyless, placed_keyed, stripe_in, stripe_of, placed_count, map_put_of, map_sum_of, reserve_of, go_of, one_word, pair_op, triple_op, quadruple_op, quadruple_item, two_words, three_words, four_words, filled, by_words, step_of, ended, go_on, parsed, workload_of}
use Rattle.work_text.specs.Texts.{joined, line, op_words, item_lines, items_lines, region_words, header_lines, go_words, section_lines, schedule_lines, lines_with, lines_text, AreLinesOf, IsTextOf}
use Rattle.work_text.proofs.Giving.{Gives, gives-with, given}
use Rattle.work_text.specs.WordLaws.{joined-words_of, unlines, unlines-lines_of}
use Rattle.work_text.proofs.HeaderLaws.{then-gives, if-gives, unless-gives, if-else-gives, if-both, HeadAt, IsFront, At, Sound, Leaves}
use Rattle.work_text.proofs.ParsedLaws.{op_of-gives, filled-gives, step-sound, opening-sound}
use Rattle.work_text.proofs.HeaderWrittenLaws.{formed-says, named-says, below-says, ranged-says, Names, algorithm-says, sized-says, number-says, three-say, nine_lines, region_lines, head_so_far, open_lines, written_at, HeadGrows, two-same, header_line-grows}

abbrev made : List (List ℕ) → Line
made ws = record { bytes = joined ws; ended = true }

unlines-made : (lines : List (List (List ℕ))) → unlines (map made lines) ≡ lines_text lines
unlines-made [] = refl
unlines-made (ws ∷ lines) =
    sym (append_assoc (joined ws) (10 ∷ []) (unlines (map made lines))) ∙ ap (λ t. line ws ++ t) (unlines-made lines)

map-append : {A B : Type 0} (f : A → B) (xs ys : List A) → map f (xs ++ ys) ≡ map f xs ++ map f ys
map-append f [] ys = refl
map-append f (x ∷ xs) ys = ap (λ t. f x ∷ t) (map-append f xs ys)

items_lines-append : (x : Version) (is js : List Item) → items_lines x (is ++ js) ≡ items_lines x is ++ items_lines x js
items_lines-append x [] js = refl
items_lines-append x (i ∷ is) js =
    ap (λ t. item_lines x i ++ t) (items_lines-append x is js) ∙ sym (append_assoc (item_lines x i) (items_lines x is) (items_lines x js))

-- what stands after a line is what stood before it, and the line
abbrev Grows : NextLine → Writing → List (List ℕ) → Step → Type 0
Grows p d ws (Head q field) = written_at q (after (Head q field) d) ≡ written_at p d ++ ws ∷ []
Grows p d ws (Announce q n) = written_at q (after (Announce q n) d) ≡ written_at p d ++ ws ∷ []
Grows p d ws (Begin c) = written_at Ops (after (Begin c) d) ≡ written_at p d ++ ws ∷ []
Grows p d ws (Change c a) = (d.place ≡ Items) × (written_at Items (after (Change c a) d) ≡ written_at p d ++ ws ∷ [])
Grows p d ws (Lengthen c r w) = (d.place ≡ Items) × (written_at Items (after (Lengthen c r w) d) ≡ written_at p d ++ ws ∷ [])
Grows p d ws (Add op) = (d.place ≡ Ops) × (written_at Ops (after (Add op) d) ≡ written_at p d ++ ws ∷ [])
Grows p d ws End = written_at Items (after End d) ≡ written_at p d ++ ws ∷ []
Grows p d ws Schedule = written_at Turns (after Schedule d) ≡ written_at p d ++ ws ∷ []
Grows p d ws (Turn go all) = (d.place ≡ Turns) × (written_at Turns (after (Turn go all) d) ≡ written_at p d ++ ws ∷ [])
Grows p d ws Done = ((d.place ≡ Items) ⊎ (d.place ≡ Turns)) × (ws ≡ (codes "done" ∷ []))

none-between : (y z : Version) (a b x : List (List (List ℕ))) (items : List Item) → items ≡ [] → a ≡ b ++ x → a ++ (items_lines y items ++ []) ≡ (b ++ (items_lines z items ++ [])) ++ x
none-between y z a b x items none is =
    subst (λ i. a ++ (items_lines y i ++ []) ≡ (b ++ (items_lines z i ++ [])) ++ x) (sym none) (append-nil a ∙ (is ∙ ap (λ t. t ++ x) (sym (append-nil b))))

begin-grows : (y : Version) (a b x : List (List (List ℕ))) (ops : List Op) → ops ≡ [] → a ++ (b ++ (x ++ map (op_words y) ops)) ≡ (a ++ (b ++ [])) ++ x
begin-grows y a b x ops none =
    subst (λ o. a ++ (b ++ (x ++ map (op_words y) o)) ≡ (a ++ (b ++ [])) ++ x) (sym none)
    (ap (λ t. a ++ (b ++ t)) (append-nil x) ∙ (sym (append_assoc a b x) ∙ ap (λ t. (a ++ t) ++ x) (sym (append-nil b))))

snoc-grows : (a b c x : List (List (List ℕ))) → a ++ (b ++ (c ++ x)) ≡ (a ++ (b ++ c)) ++ x
snoc-grows a b c x = simp append_assoc

add-grows : (d : Writing) (op : Op) → written_at Ops (after (Add op) d) ≡ written_at Ops d ++ op_words d.header.version op ∷ []
add-grows d op =
    let x : Version = d.header.version in
    ap (λ t. header_lines d.header ++ (items_lines x d.items ++ ((codes "tx" ∷ decimal d.caller ∷ []) ∷ t))) (map-append (op_words x) d.ops (op ∷ []))
    ∙ snoc-grows (header_lines d.header) (items_lines x d.items) (open_lines Ops d) (op_words x op ∷ [])

end-regroup : (a i t o e : List (List (List ℕ))) → a ++ ((i ++ ((t ++ (o ++ e)) ++ [])) ++ []) ≡ (a ++ (i ++ (t ++ o))) ++ e
end-regroup a i t o e = simp (append_assoc, append-nil)

end-grows : (d : Writing) → written_at Items (after End d) ≡ written_at Ops d ++ (codes "end" ∷ []) ∷ []
end-grows d =
    let x : Version = d.header.version in
    ap (λ t. header_lines d.header ++ (t ++ [])) (items_lines-append x d.items (Tx d.caller d.ops ∷ []))
    ∙ end-regroup (header_lines d.header) (items_lines x d.items) ((codes "tx" ∷ decimal d.caller ∷ []) ∷ []) (map (op_words x) d.ops) ((codes "end" ∷ []) ∷ [])

item-regroup : (a i x : List (List (List ℕ))) → a ++ ((i ++ x) ++ []) ≡ (a ++ (i ++ [])) ++ x
item-regroup a i x = simp (append_assoc, append-nil)

change-grows : (d : Writing) (c : ℕ) (a : Alg) → written_at Items (after (Change c a) d) ≡ written_at Items d ++ (codes "switch" ∷ decimal c ∷ alg_name a ∷ []) ∷ []
change-grows d c a =
    let x : Version = d.header.version in
    ap (λ t. header_lines d.header ++ (t ++ [])) (items_lines-append x d.items (Switch c a ∷ []))
    ∙ item-regroup (header_lines d.header) (items_lines x d.items) ((codes "switch" ∷ decimal c ∷ alg_name a ∷ []) ∷ [])

lengthen-grows : (d : Writing) (c r w : ℕ) → written_at Items (after (Lengthen c r w) d) ≡ written_at Items d ++ (codes "reserve" ∷ decimal c ∷ decimal r ∷ decimal w ∷ []) ∷ []
lengthen-grows d c r w =
    let x : Version = d.header.version in
    ap (λ t. header_lines d.header ++ (t ++ [])) (items_lines-append x d.items (Reserve c r w ∷ []))
    ∙ item-regroup (header_lines d.header) (items_lines x d.items) ((codes "reserve" ∷ decimal c ∷ decimal r ∷ decimal w ∷ []) ∷ [])

schedule-grows : (d : Writing) → d.schedule ≡ [] → written_at Turns (after Schedule d) ≡ written_at Items d ++ (codes "schedule" ∷ []) ∷ []
schedule-grows d none =
    let items : List (List (List ℕ)) = items_lines d.header.version d.items in
    ap (λ gs. header_lines d.header ++ (items ++ section_lines gs)) none ∙ snoc-grows (header_lines d.header) items [] ((codes "schedule" ∷ []) ∷ [])

turn-grows : (d : Writing) (go : Go) (all : ℕ) → written_at Turns (after (Turn go all) d) ≡ written_at Turns d ++ go_words go ∷ []
turn-grows d go all =
    let items : List (List (List ℕ)) = items_lines d.header.version d.items in
    ap (λ t. header_lines d.header ++ (items ++ ((codes "schedule" ∷ []) ∷ t))) (map-append go_words d.schedule (go ∷ []))
    ∙ snoc-grows (header_lines d.header) items (section_lines d.schedule) (go_words go ∷ [])

one-line : (xs : List (List (List ℕ))) (a w : List ℕ) → w ≡ a → xs ++ (a ∷ []) ∷ [] ≡ xs ++ (w ∷ []) ∷ []
one-line xs a w p = ap (λ x. xs ++ (x ∷ []) ∷ []) (sym p)

if-else-says : (P : Step → Type 0) (name w : List ℕ) (x y : Result Step ℕ) → (w ≡ name → Gives P x) → Gives P y → Gives P (if bytes_eq w name then x else y)
if-else-says P name w x y h g = if-else-gives P (bytes_eq w name) x y (λ e. h ((bytes_eq-Decides w name).0 e)) g

added-grows : (d : Writing) (ws : List (List ℕ)) (op : Op) → d.place ≡ Ops → op_words d.header.version op ≡ ws → Gives (Grows Ops d ws) (added d op)
added-grows d ws op e is =
    if-gives (Grows Ops d ws) (ltb (length d.ops) MAX_OPS) (Ok (Add op)) 10 (λ _. (e, add-grows d op ∙ ap (λ x. written_at Ops d ++ x ∷ []) is))

structured-grows : (d : Writing) (ws : List (List ℕ)) (op : Op) (x : Version) → d.place ≡ Ops → d.header.version ≡ x → op_words x op ≡ ws → Gives (Grows Ops d ws) (structured d op)
structured-grows d ws op x e version is =
    if-gives (Grows Ops d ws) (has_structure d.header.regions op) (added d op) 8 (λ _. added-grows d ws op e (ap (λ y. op_words y op) version ∙ is))

one-is : (a w : List ℕ) → w ≡ a → a ∷ [] ≡ w ∷ []
one-is a w p = ap (λ x. x ∷ []) (sym p)

two-are : (a b w v : List ℕ) → w ≡ a → v ≡ b → a ∷ b ∷ [] ≡ w ∷ v ∷ []
two-are a b w v p q = cc

three-are : (a b c w v x : List ℕ) → w ≡ a → v ≡ b → x ≡ c → a ∷ b ∷ c ∷ [] ≡ w ∷ v ∷ x ∷ []
three-are a b c w v x p q r = cc

four-are : (a b c e w v x y : List ℕ) → w ≡ a → v ≡ b → x ≡ c → y ≡ e → a ∷ b ∷ c ∷ e ∷ [] ≡ w ∷ v ∷ x ∷ y ∷ []
four-are a b c e w v x y p q r t = cc

-- the name of an operation that takes nothing is its line
keyless-says : (w : List ℕ) → Gives (λ op. op_words One op ≡ w ∷ []) (op_of KEYLESS w)
keyless-says w = op_of-gives (λ op. op_words One op ≡ w ∷ []) KEYLESS w (one-is (codes "total") w, (one-is (codes "llen") w, (one-is (codes "tmin") w, tt)))

keyless-grows : (d : Writing) (x : Version) (w : List ℕ) → d.place ≡ Ops → d.header.version ≡ x → Gives (Grows Ops d (w ∷ [])) (keyless x d w)
keyless-grows d One w e version =
    then-gives (λ op. op_words One op ≡ w ∷ []) (Grows Ops d (w ∷ [])) (op_of KEYLESS w) (structured d) (keyless-says w) (λ op is. structured-grows d (w ∷ []) op One e version is)
keyless-grows d Two w e version = tt

scheduled-grows : (m : Mode) (d : Writing) (w : List ℕ) → d.schedule ≡ [] → w ≡ codes "schedule" → Gives (Grows Items d (w ∷ [])) (scheduled m)
scheduled-grows Run d w none is = tt
scheduled-grows Stepwise d w none is = schedule-grows d none ∙ one-line (written_at Items d) (codes "schedule") w is

one-grows : (m : Mode) (d : Writing) (p : NextLine) (w : List ℕ) → At m p d → d.place ≡ p → Gives (Grows p d (w ∷ [])) (one_word p m d w)
one-grows m d Items w at e =
    if-else-says (Grows Items d (w ∷ [])) (codes "done") w (Ok Done) (named (codes "schedule") w (scheduled m)) (λ is. (inl e, ap (λ x. x ∷ []) is))
    (named-says (Grows Items d (w ∷ [])) (codes "schedule") w (scheduled m) (λ is. scheduled-grows m d w at.1 is))
one-grows m d Ops w at e =
    let sole : Result Step ℕ = keyless d.header.version d w in
    let ends : Result Step ℕ = if bytes_eq w (codes "end") then Ok End else sole in
    if-else-says (Grows Ops d (w ∷ [])) (codes "irrev") w (added d Irrev) (if bytes_eq w (codes "cancel") then added d Cancel else ends)
    (λ is. added-grows d (w ∷ []) Irrev e (one-is (codes "irrev") w is))
    (if-else-says (Grows Ops d (w ∷ [])) (codes "cancel") w (added d Cancel) ends
    (λ is. added-grows d (w ∷ []) Cancel e (one-is (codes "cancel") w is))
    (if-else-says (Grows Ops d (w ∷ [])) (codes "end") w (Ok End) sole (λ is. end-grows d ∙ one-line (written_at Ops d) (codes "end") w is)
    (keyless-grows d d.header.version w e refl)))
one-grows m d Turns w at e = named-says (Grows Turns d (w ∷ [])) (codes "done") w (Ok Done) (λ is. (inr e, ap (λ x. x ∷ []) is))
one-grows m d p w at e = tt

caller-says : (d : Writing) (v : List ℕ) → Gives (λ c. v ≡ decimal c) (caller_of d v)
caller-says d v =
    then-gives (λ n. v ≡ decimal n) (λ c. v ≡ decimal c) (formed (number_of v)) (below d.header.callers) (formed-says v) (λ n is. below-says d.header.callers n v is)

plain_in-says : (x : Version) (rs : List Region) (n : ℕ) (w : List ℕ) → w ≡ decimal n → Gives (λ k. w ≡ decimal k) (plain_in x rs n)
plain_in-says One rs n w is = unless-gives (λ k. w ≡ decimal k) (not (no_region rs) && leb STRUCTS_BEGIN n && ltb n STRUCTS_END) (Ok n) 8 is
plain_in-says Two rs n w is = if-gives (λ k. w ≡ decimal k) (is_plain rs n) (Ok n) 8 (λ _. is)

plain-says : (h : Header) (n : ℕ) (w : List ℕ) → w ≡ decimal n → Gives (λ k. w ≡ decimal k) (plain h n)
plain-says h n w is = plain_in-says h.version h.regions n w is

address-says : (d : Writing) (a : List ℕ) → Gives (λ k. a ≡ decimal k) (address d a)
address-says d a =
    let P : ℕ → Type 0 = λ k. a ≡ decimal k in
    then-gives P P (formed (number_of a) >>= below d.header.words) (plain d.header)
    (then-gives P P (formed (number_of a)) (below d.header.words) (formed-says a) (λ n is. below-says d.header.words n a is)) (λ n is. plain-says d.header n a is)

operands-say : (d : Writing) (a v : List ℕ) → Gives (λ p. (a ≡ decimal p.0) × (v ≡ decimal p.1)) (operands d a v)
operands-say d a v =
    let P : ℕ × ℕ → Type 0 = λ p. (a ≡ decimal p.0) × (v ≡ decimal p.1) in
    let w = d.header.words in
    then-gives (λ n. a ≡ decimal n) P (formed (number_of a)) (λ i. formed (number_of v) >>= λ n. below w i >>= λ j. plain d.header j >>= λ k. Ok (k, n)) (formed-says a)
    (λ i h. then-gives (λ n. v ≡ decimal n) P (formed (number_of v)) (λ n. below w i >>= λ j. plain d.header j >>= λ k. Ok (k, n)) (formed-says v)
    (λ n k. then-gives (λ j. a ≡ decimal j) P (below w i) (λ j. plain d.header j >>= λ x. Ok (x, n)) (below-says w i a h)
    (λ j l. then-gives (λ x. a ≡ decimal x) P (plain d.header j) (λ x. Ok (x, n)) (plain-says d.header j a l) (λ x u. (u, k)))))

-- an operation whose line in version 1 is `count` and these
abbrev IsCount : List ℕ → List ℕ → Op → Type 0
IsCount a v op = op_words One op ≡ codes "count" ∷ a ∷ v ∷ []

count-says : (a v : List ℕ) → Gives (IsCount a v) (count_of a v)
count-says a v =
    let P : Op → Type 0 = IsCount a v in
    then-gives (λ n. a ≡ decimal n) P (formed (number_of a)) (λ i. formed (number_of v) >>= λ n. below STRIPES i >>= λ s. Ok (Count COUNTER s n)) (formed-says a)
    (λ i h. then-gives (λ n. v ≡ decimal n) P (formed (number_of v)) (λ n. below STRIPES i >>= λ s. Ok (Count COUNTER s n)) (formed-says v)
    (λ n k. then-gives (λ s. a ≡ decimal s) P (below STRIPES i) (λ s. Ok (Count COUNTER s n)) (below-says STRIPES i a h)
    (λ s l. three-are (codes "count") (decimal s) (decimal n) (codes "count") a v refl l k)))

-- an operation whose line in version 1 is this word and a key
abbrev IsKeyed : List ℕ → Op → Type 0
IsKeyed w op = (key : ℕ) → op_words One (with_key key op) ≡ w ∷ decimal key ∷ []

name-key : (a w : List ℕ) → w ≡ a → (key : ℕ) → a ∷ decimal key ∷ [] ≡ w ∷ decimal key ∷ []
name-key a w p key = ap (λ x. x ∷ decimal key ∷ []) (sym p)

keyed-says : (w v : List ℕ) → Gives (λ op. op_words One op ≡ w ∷ v ∷ []) (keyed w v)
keyed-says w v =
    let P : Op → Type 0 = λ op. op_words One op ≡ w ∷ v ∷ [] in
    then-gives (IsKeyed w) P (op_of KEYED w) (λ op. number 0 MAX_KEY v >>= λ key. Ok (with_key key op))
    (op_of-gives (IsKeyed w) KEYED w (
      name-key (codes "ladd") w,
      (
        name-key (codes "ldel") w,
        (
          name-key (codes "lhas") w,
          (
            name-key (codes "hadd") w,
            (
              name-key (codes "hdel") w,
              (name-key (codes "hhas") w, (name-key (codes "tadd") w, (name-key (codes "tdel") w, (name-key (codes "thas") w, tt)))),
            ),
          ),
        ),
      ),
    ))
    (λ op each. then-gives (λ k. v ≡ decimal k) P (number 0 MAX_KEY v) (λ key. Ok (with_key key op)) (number-says 0 MAX_KEY v) (λ key is. each key ∙ ap (λ x. w ∷ x ∷ []) (sym is)))

-- an operation whose line in version 2 is this word, a region and a key
abbrev IsPlaced : List ℕ → Op → Type 0
IsPlaced w op = (r key : ℕ) → op_words Two (with_key key (with_region r op)) ≡ w ∷ decimal r ∷ decimal key ∷ []

name-place : (a w : List ℕ) → w ≡ a → (r key : ℕ) → a ∷ decimal r ∷ decimal key ∷ [] ≡ w ∷ decimal r ∷ decimal key ∷ []
name-place a w p r key = ap (λ x. x ∷ decimal r ∷ decimal key ∷ []) (sym p)

placed_keyed-grows : (d : Writing) (w a v : List ℕ) → d.place ≡ Ops → d.header.version ≡ Two → Gives (Grows Ops d (w ∷ a ∷ v ∷ [])) (placed_keyed d w a v)
placed_keyed-grows d w a v e two =
    let ws : List (List ℕ) = w ∷ a ∷ v ∷ [] in
    let P : Step → Type 0 = Grows Ops d ws in
    then-gives (IsPlaced w) P (op_of PLACED_KEYED w) (λ op.
    formed (number_of a) >>= λ i.
    formed (number_of v) >>= λ n. region_number d i >>= λ r. ranged 0 MAX_KEY n >>= λ key. structured d (with_key key (with_region r op)))
    (op_of-gives (IsPlaced w) PLACED_KEYED w (
      name-place (codes "ladd") w,
      (
        name-place (codes "ldel") w,
        (
          name-place (codes "lhas") w,
          (
            name-place (codes "hadd") w,
            (
              name-place (codes "hdel") w,
              (
                name-place (codes "hhas") w,
                (
                  name-place (codes "tadd") w,
                  (
                    name-place (codes "tdel") w,
                    (name-place (codes "thas") w, (name-place (codes "qput") w, (name-place (codes "mdel") w, (name-place (codes "mget") w, tt)))),
                  ),
                ),
              ),
            ),
          ),
        ),
      ),
    ))
    (λ op each.
    then-gives (λ n. a ≡ decimal n) P (formed (number_of a))
    (λ i.
    formed (number_of v) >>= λ n. region_number d i >>= λ r. ranged 0 MAX_KEY n >>= λ key. structured d (with_key key (with_region r op)))
    (formed-says a)
    (λ i x. then-gives (λ n. v ≡ decimal n) P (formed (number_of v)) (λ n. region_number d i >>= λ r. ranged 0 MAX_KEY n >>= λ key. structured d (with_key key (with_region r op))) (formed-says v)
    (λ n y. then-gives (λ r. a ≡ decimal r) P (region_number d i) (λ r. ranged 0 MAX_KEY n >>= λ key. structured d (with_key key (with_region r op))) (below-says (length d.header.regions) i a x)
    (λ r z. then-gives (λ key. v ≡ decimal key) P (ranged 0 MAX_KEY n) (λ key. structured d (with_key key (with_region r op))) (ranged-says 0 MAX_KEY n v y)
    (λ key t. structured-grows d ws (with_key key (with_region r op)) Two e two (each r key ∙ three-are w (decimal r) (decimal key) w a v refl z t))))))

-- an operation whose line in version 2 is this word and a region
abbrev IsAlone : List ℕ → Op → Type 0
IsAlone w op = (r : ℕ) → op_words Two (with_region r op) ≡ w ∷ decimal r ∷ []

placed_keyless-grows : (d : Writing) (w v : List ℕ) → d.place ≡ Ops → d.header.version ≡ Two → Gives (Grows Ops d (w ∷ v ∷ [])) (placed_keyless d w v)
placed_keyless-grows d w v e two =
    let ws : List (List ℕ) = w ∷ v ∷ [] in
    let P : Step → Type 0 = Grows Ops d ws in
    let Q : ℕ → Type 0 = λ n. v ≡ decimal n in
    then-gives (IsAlone w) P (op_of PLACED_KEYLESS w) (λ op. formed (number_of v) >>= region_number d >>= λ r. structured d (with_region r op))
    (op_of-gives (IsAlone w) PLACED_KEYLESS w (
      (λ p r. two-are (codes "total") (decimal r) w (decimal r) p refl),
      (
        (λ p r. two-are (codes "llen") (decimal r) w (decimal r) p refl),
        (
          (λ p r. two-are (codes "tmin") (decimal r) w (decimal r) p refl),
          ((λ p r. two-are (codes "qget") (decimal r) w (decimal r) p refl), tt),
        ),
      ),
    ))
    (λ op each. then-gives Q P (formed (number_of v) >>= region_number d) (λ r. structured d (with_region r op))
    (then-gives Q Q (formed (number_of v)) (region_number d) (formed-says v) (λ n is. below-says (length d.header.regions) n v is))
    (λ r is. structured-grows d ws (with_region r op) Two e two (each r ∙ two-are w (decimal r) w v refl is)))

stripe_in-says : (r : Region) (n : ℕ) (w : List ℕ) → w ≡ decimal n → Gives (λ k. w ≡ decimal k) (stripe_in r n)
stripe_in-says (kinds.Counter c) n w is = below-says c.stripes n w is
stripe_in-says (kinds.List l) n w is = tt
stripe_in-says (kinds.Hash h) n w is = tt
stripe_in-says (kinds.Tree t) n w is = tt
stripe_in-says (kinds.Queue q) n w is = tt
stripe_in-says (kinds.SumMap r) n w is = tt

stripe_of-says : (rs : List Region) (r n : ℕ) (w : List ℕ) → w ≡ decimal n → Gives (λ k. w ≡ decimal k) (stripe_of rs r n)
stripe_of-says rs r n w is = if-gives (λ k. w ≡ decimal k) (ltb r (length rs)) (stripe_in (region_at rs r) n) 8 (λ _. stripe_in-says (region_at rs r) n w is)

placed_count-grows : (d : Writing) (w a b v : List ℕ) → d.place ≡ Ops → d.header.version ≡ Two → w ≡ codes "count" → Gives (Grows Ops d (w ∷ a ∷ b ∷ v ∷ [])) (placed_count d a b v)
placed_count-grows d w a b v e two name =
    let ws : List (List ℕ) = w ∷ a ∷ b ∷ v ∷ [] in
    let P : Step → Type 0 = Grows Ops d ws in
    let rs : List Region = d.header.regions in
    three-say P a b v (λ i j n. region_number d i >>= λ r. stripe_of rs r j >>= λ t. structured d (Count r t n))
    (λ i j n x y z. then-gives (λ r. a ≡ decimal r) P (region_number d i) (λ r. stripe_of rs r j >>= λ t. structured d (Count r t n)) (below-says (length rs) i a x)
    (λ r p. then-gives (λ t. b ≡ decimal t) P (stripe_of rs r j) (λ t. structured d (Count r t n)) (stripe_of-says rs r j b y)
    (λ t q. structured-grows d ws (Count r t n) Two e two (four-are (codes "count") (decimal r) (decimal t) (decimal n) w a b v name p q z))))

map_put-grows : (d : Writing) (w a b v : List ℕ) → d.place ≡ Ops → d.header.version ≡ Two → w ≡ codes "mput" → Gives (Grows Ops d (w ∷ a ∷ b ∷ v ∷ [])) (map_put_of d a b v)
map_put-grows d w a b v e two name =
    let ws : List (List ℕ) = w ∷ a ∷ b ∷ v ∷ [] in
    let P : Step → Type 0 = Grows Ops d ws in
    let rs : List Region = d.header.regions in
    three-say P a b v (λ i j n. region_number d i >>= λ r. ranged 0 MAX_KEY j >>= λ key. structured d (MapPut r key n))
    (λ i j n x y z. then-gives (λ r. a ≡ decimal r) P (region_number d i) (λ r. ranged 0 MAX_KEY j >>= λ key. structured d (MapPut r key n)) (below-says (length rs) i a x)
    (λ r p. then-gives (λ key. b ≡ decimal key) P (ranged 0 MAX_KEY j) (λ key. structured d (MapPut r key n)) (ranged-says 0 MAX_KEY j b y)
    (λ key q. structured-grows d ws (MapPut r key n) Two e two (four-are (codes "mput") (decimal r) (decimal key) (decimal n) w a b v name p q z))))

map_sum-grows : (d : Writing) (w a b v : List ℕ) → d.place ≡ Ops → d.header.version ≡ Two → w ≡ codes "msum" → Gives (Grows Ops d (w ∷ a ∷ b ∷ v ∷ [])) (map_sum_of d a b v)
map_sum-grows d w a b v e two name =
    let ws : List (List ℕ) = w ∷ a ∷ b ∷ v ∷ [] in
    let P : Step → Type 0 = Grows Ops d ws in
    let rs : List Region = d.header.regions in
    three-say P a b v (λ i j n. region_number d i >>= λ r. ranged 0 MAX_KEY j >>= λ low. ranged 0 MAX_KEY n >>= λ high. structured d (MapSum r low high))
    (λ i j n x y z. then-gives (λ r. a ≡ decimal r) P (region_number d i) (λ r. ranged 0 MAX_KEY j >>= λ low. ranged 0 MAX_KEY n >>= λ high. structured d (MapSum r low high)) (below-says (length rs) i a x)
    (λ r p. then-gives (λ low. b ≡ decimal low) P (ranged 0 MAX_KEY j) (λ low. ranged 0 MAX_KEY n >>= λ high. structured d (MapSum r low high)) (ranged-says 0 MAX_KEY j b y)
    (λ low q. then-gives (λ high. v ≡ decimal high) P (ranged 0 MAX_KEY n) (λ high. structured d (MapSum r low high)) (ranged-says 0 MAX_KEY n v z)
    (λ high t. structured-grows d ws (MapSum r low high) Two e two (four-are (codes "msum") (decimal r) (decimal low) (decimal high) w a b v name p q t)))))

abbrev IsMove : Version → List ℕ → List ℕ → List ℕ → Op → Type 0
IsMove x a b v op = op_words x op ≡ codes "move" ∷ a ∷ b ∷ v ∷ []

move-says : (d : Writing) (a b v : List ℕ) → Gives (IsMove d.header.version a b v) (move_of d a b v)
move-says d a b v =
    let g = d.header in
    let w = d.header.words in
    let P : Op → Type 0 = IsMove g.version a b v in
    let From : ℕ → Type 0 = λ k. a ≡ decimal k in
    let Onto : ℕ → Type 0 = λ k. b ≡ decimal k in
    then-gives From P (formed (number_of a)) (λ i. formed (number_of b) >>= λ j. formed (number_of v) >>= λ n. below w i >>= λ x. below w j >>= λ y. plain g x >>= λ s. plain g y >>= λ t. Ok (Move s t n)) (formed-says a)
    (λ i h. then-gives Onto P (formed (number_of b)) (λ j. formed (number_of v) >>= λ n. below w i >>= λ x. below w j >>= λ y. plain g x >>= λ s. plain g y >>= λ t. Ok (Move s t n)) (formed-says b)
    (λ j k. then-gives (λ n. v ≡ decimal n) P (formed (number_of v)) (λ n. below w i >>= λ x. below w j >>= λ y. plain g x >>= λ s. plain g y >>= λ t. Ok (Move s t n)) (formed-says v)
    (λ n is. then-gives From P (below w i) (λ x. below w j >>= λ y. plain g x >>= λ s. plain g y >>= λ t. Ok (Move s t n)) (below-says w i a h)
    (λ x l. then-gives Onto P (below w j) (λ y. plain g x >>= λ s. plain g y >>= λ t. Ok (Move s t n)) (below-says w j b k)
    (λ y u. then-gives From P (plain g x) (λ s. plain g y >>= λ t. Ok (Move s t n)) (plain-says g x a l)
    (λ s from. then-gives Onto P (plain g y) (λ t. Ok (Move s t n)) (plain-says g y b u)
    (λ t onto. four-are (codes "move") (decimal s) (decimal t) (decimal n) (codes "move") a b v refl from onto is)))))))

abbrev IsGo : List ℕ → List ℕ → Go → Type 0
IsGo a v go = (a ≡ decimal go.caller) × (v ≡ decimal go.turns)

go-says : (d : Writing) (a v : List ℕ) → Gives (IsGo a v) (go_of d a v)
go-says d a v =
    let made : ℕ → ℕ → Result Go ℕ = λ c t. Ok (record { caller = c; turns = t }) in
    then-gives (λ n. a ≡ decimal n) (IsGo a v) (formed (number_of a)) (λ i. formed (number_of v) >>= λ n. below d.header.callers i >>= λ c. ranged 1 MAX_TURNS n >>= made c) (formed-says a)
    (λ i h. then-gives (λ n. v ≡ decimal n) (IsGo a v) (formed (number_of v)) (λ n. below d.header.callers i >>= λ c. ranged 1 MAX_TURNS n >>= made c) (formed-says v)
    (λ n k. then-gives (λ c. a ≡ decimal c) (IsGo a v) (below d.header.callers i) (λ c. ranged 1 MAX_TURNS n >>= made c) (below-says d.header.callers i a h)
    (λ c l. then-gives (λ t. v ≡ decimal t) (IsGo a v) (ranged 1 MAX_TURNS n) (made c) (ranged-says 1 MAX_TURNS n v k) (λ t u. (l, u)))))

heads-grow : (d : Writing) (p : NextLine) (w v : List ℕ) → IsFront d → HeadAt p d.header d.count → open_lines p d ≡ []
    → ((field : Field) → open_lines (next_line d.header.version p) (after (Head (next_line d.header.version p) field) d) ≡ [])
    → Gives (Grows p d (w ∷ v ∷ [])) (header_line p d.header w v >>= λ field. Ok (Head (next_line d.header.version p) field))
heads-grow d p w v front at here opens =
    let h : Header = d.header in
    let n : ℕ = d.count in
    let q : NextLine = next_line h.version p in
    then-gives (HeadGrows p q h n w v) (Grows p d (w ∷ v ∷ [])) (header_line p h w v) (λ field. Ok (Head q field)) (header_line-grows p h n w v at)
    (λ field is.
    let g : Header = with_field field h in
    ap (λ t. head_so_far q g n ++ (items_lines g.version d.items ++ t)) (opens field)
    ∙ (none-between g.version h.version (head_so_far q g n) (head_so_far p h n) ((w ∷ v ∷ []) ∷ []) d.items front.0 is
    ∙ ap (λ t. (head_so_far p h n ++ (items_lines h.version d.items ++ t)) ++ (w ∷ v ∷ []) ∷ []) (sym here)))

-- nothing is open after the line of the algorithm
behind-open : (x : Version) (d : Writing) → open_lines (after_algorithm x) d ≡ []
behind-open One d = refl
behind-open Two d = refl

-- what stands where a region or the policy comes next
next-written : (n k : ℕ) (d : Writing) → written_at (next_region n k) d ≡ region_lines d.header d.count ++ (items_lines d.header.version d.items ++ [])
next-written n k d = by (leb n k)
  where
    by : (b : Bool) → written_at (if b then PolicyLine else RegionLine) d ≡ region_lines d.header d.count ++ (items_lines d.header.version d.items ++ [])
    by true = refl
    by false = refl

regions-grow : (m : Mode) (d : Writing) (w v : List ℕ) → At m Regions d → Gives (Grows Regions d (w ∷ v ∷ [])) (sized (codes "regions") 0 MAX_REGIONS w v >>= λ n. Ok (Announce (next_region n 0) n))
regions-grow m d w v at =
    let h : Header = d.header in
    then-gives (Names (codes "regions") w v) (Grows Regions d (w ∷ v ∷ [])) (sized (codes "regions") 0 MAX_REGIONS w v) (λ n. Ok (Announce (next_region n 0) n)) (sized-says (codes "regions") 0 MAX_REGIONS w v)
    (λ n is.
    let e : Writing = after (Announce (next_region n 0) n) d in
    let bare : region_lines h n ≡ nine_lines h ++ (codes "regions" ∷ decimal n ∷ []) ∷ [] = ap (λ rs. nine_lines h ++ (codes "regions" ∷ decimal n ∷ []) ∷ map region_words rs) at.1.1.0 in
    next-written n 0 e
    ∙ none-between h.version h.version (region_lines h n) (nine_lines h) ((w ∷ v ∷ []) ∷ []) d.items at.0.0 (bare ∙ two-same (nine_lines h) (codes "regions") (decimal n) w v is.0 is.1))

kind_of-says : (ks : List Structure) (w : List ℕ) → Gives (λ s. w ≡ kind_name s) (kind_of ks w)
kind_of-says [] w = tt
kind_of-says (k ∷ ks) w =
    if-else-gives (λ s. w ≡ kind_name s) (bytes_eq w (kind_name k)) (Ok k) (kind_of ks w) (λ e. (bytes_eq-Decides w (kind_name k)).0 e) (kind_of-says ks w)

region-line : (kind : Structure) (at size : ℕ) → region_words (region_for kind at size) ≡ codes "region" ∷ kind_name kind ∷ decimal at ∷ decimal size ∷ []
region-line structures.Counter at size = refl
region-line structures.List at size = refl
region-line structures.Hash at size = refl
region-line structures.Tree at size = refl
region-line structures.Queue at size = refl
region-line structures.SumMap at size = refl

placed-grows : (m : Mode) (d : Writing) (ws : List (List ℕ)) (r : Region) → At m RegionLine d → region_words r ≡ ws → Gives (Grows RegionLine d ws) (placed d r)
placed-grows m d ws r at is =
    let h : Header = d.header in
    let n : ℕ = d.count in
    let k : ℕ = length h.regions + 1 in
    if-gives (Grows RegionLine d ws) (is_placed h.regions h.words r) (Ok (Head (next_region n k) (fields.Region r))) 8
    (λ _.
    let e : Writing = after (Head (next_region n k) (fields.Region r)) d in
    let more : region_lines e.header n ≡ region_lines h n ++ ws ∷ [] =
    ap (λ t. nine_lines h ++ (codes "regions" ∷ decimal n ∷ []) ∷ t) (map-append region_words h.regions (r ∷ [])) ∙ ap (λ x. region_lines h n ++ x ∷ []) is in
    next-written n k e ∙ none-between h.version h.version (region_lines e.header n) (region_lines h n) (ws ∷ []) d.items at.0.0 more)

region-grows : (m : Mode) (d : Writing) (w k a v : List ℕ) → At m RegionLine d → w ≡ codes "region" → Gives (Grows RegionLine d (w ∷ k ∷ a ∷ v ∷ [])) (region_of d k a v)
region-grows m d w k a v at name =
    let ws : List (List ℕ) = w ∷ k ∷ a ∷ v ∷ [] in
    let P : Step → Type 0 = Grows RegionLine d ws in
    then-gives (λ s. k ≡ kind_name s) P (kind_of KINDS k)
    (λ kind.
    formed (number_of a) >>= λ start.
    formed (number_of v) >>= λ n. ranged 1 (most_size kind) n >>= λ size. placed d (region_for kind start size)) (kind_of-says KINDS k)
    (λ kind x. then-gives (λ n. a ≡ decimal n) P (formed (number_of a)) (λ start. formed (number_of v) >>= λ n. ranged 1 (most_size kind) n >>= λ size. placed d (region_for kind start size)) (formed-says a)
    (λ start y. then-gives (λ n. v ≡ decimal n) P (formed (number_of v)) (λ n. ranged 1 (most_size kind) n >>= λ size. placed d (region_for kind start size)) (formed-says v)
    (λ n z. then-gives (λ size. v ≡ decimal size) P (ranged 1 (most_size kind) n) (λ size. placed d (region_for kind start size)) (ranged-says 1 (most_size kind) n v z)
    (λ size t. placed-grows m d ws (region_for kind start size) at (region-line kind start size ∙ four-are (codes "region") (kind_name kind) (decimal start) (decimal size) w k a v name x y t)))))

pair-grows : (d : Writing) (x : Version) (w v : List ℕ) → d.place ≡ Ops → d.header.version ≡ x → Gives (Grows Ops d (w ∷ v ∷ [])) (pair_op x d w v)
pair-grows d One w v e one =
    then-gives (λ op. op_words One op ≡ w ∷ v ∷ []) (Grows Ops d (w ∷ v ∷ [])) (keyed w v) (structured d) (keyed-says w v) (λ op is. structured-grows d (w ∷ v ∷ []) op One e one is)
pair-grows d Two w v e two = placed_keyless-grows d w v e two

two-grows : (m : Mode) (d : Writing) (p : NextLine) (w v : List ℕ) → At m p d → d.place ≡ p → Gives (Grows p d (w ∷ v ∷ [])) (two_words p m d w v)
two-grows m d Items w v at e =
    let P : ℕ → Type 0 = λ c. v ≡ decimal c in
    let x : Version = d.header.version in
    named-says (Grows Items d (w ∷ v ∷ [])) (codes "tx") w (caller_of d v >>= begun d)
    (λ name. then-gives P (Grows Items d (w ∷ v ∷ [])) (caller_of d v) (begun d) (caller-says d v)
    (λ c is. if-gives (Grows Items d (w ∷ v ∷ [])) (ltb (length d.items) MAX_ITEMS) (Ok (Begin c)) 10
    (λ _. begin-grows x (header_lines d.header) (items_lines x d.items) ((codes "tx" ∷ decimal c ∷ []) ∷ []) d.ops at.0
    ∙ two-same (written_at Items d) (codes "tx") (decimal c) w v name is)))
two-grows m d Turns w v at e = tt
two-grows m d Ops w v at e =
    let P : Step → Type 0 = Grows Ops d (w ∷ v ∷ []) in
    let emits : Result Step ℕ = address d v >>= emitted d in
    let pairs : Result Step ℕ = pair_op d.header.version d w v in
    if-else-says P (codes "read") w (address d v >>= λ a. added d (Read a)) (if bytes_eq w (codes "emit") then emits else pairs)
    (λ name. then-gives (λ a. v ≡ decimal a) P (address d v) (λ a. added d (Read a)) (address-says d v)
    (λ a is. added-grows d (w ∷ v ∷ []) (Read a) e (two-are (codes "read") (decimal a) w v name is)))
    (if-else-says P (codes "emit") w emits pairs
    (λ name. then-gives (λ a. v ≡ decimal a) P (address d v) (emitted d) (address-says d v)
    (λ a is. if-gives P (has_irrev d.ops) (added d (Emit a)) 9
    (λ _. added-grows d (w ∷ v ∷ []) (Emit a) e (two-are (codes "emit") (decimal a) w v name is))))
    (pair-grows d d.header.version w v e refl))
two-grows m d Regions w v at e = regions-grow m d w v at
two-grows m d Algorithm w v at e = heads-grow d Algorithm w v at.0 at.1 refl (λ field. behind-open d.header.version (after (Head (after_algorithm d.header.version) field) d))
two-grows m d VersionLine w v at e = heads-grow d VersionLine w v at.0 at.1 refl (λ field. refl)
two-grows m d Words w v at e = heads-grow d Words w v at.0 at.1 refl (λ field. refl)
two-grows m d Callers w v at e = heads-grow d Callers w v at.0 at.1 refl (λ field. refl)
two-grows m d Records w v at e = heads-grow d Records w v at.0 at.1 refl (λ field. refl)
two-grows m d Ring w v at e = heads-grow d Ring w v at.0 at.1 refl (λ field. refl)
two-grows m d Reads w v at e = heads-grow d Reads w v at.0 at.1 refl (λ field. refl)
two-grows m d Writes w v at e = heads-grow d Writes w v at.0 at.1 refl (λ field. refl)
two-grows m d Clock w v at e = heads-grow d Clock w v at.0 at.1 refl (λ field. refl)
two-grows m d Structures w v at e = heads-grow d Structures w v at.0 at.1 refl (λ field. refl)
two-grows m d RegionLine w v at e = heads-grow d RegionLine w v at.0 at.1 refl (λ field. refl)
two-grows m d PolicyLine w v at e = heads-grow d PolicyLine w v at.0 at.1 refl (λ field. refl)

changed-grows : (d : Writing) (c : ℕ) (alg : Alg) (w a v : List ℕ) → d.place ≡ Items → w ≡ codes "switch" → a ≡ decimal c → v ≡ alg_name alg → Gives (Grows Items d (w ∷ a ∷ v ∷ [])) (changed d c alg)
changed-grows d c alg w a v e p q r =
    if-gives (Grows Items d (w ∷ a ∷ v ∷ [])) (ltb (length d.items) MAX_ITEMS) (Ok (Change c alg)) 10
    (λ _. (e, change-grows d c alg ∙ ap (λ x. written_at Items d ++ x ∷ []) (three-are (codes "switch") (decimal c) (alg_name alg) w a v p q r)))

lengthened-grows : (d : Writing) (c reads writes : ℕ) (w a b v : List ℕ) → d.place ≡ Items → w ≡ codes "reserve" → a ≡ decimal c
    → b ≡ decimal reads → v ≡ decimal writes → Gives (Grows Items d (w ∷ a ∷ b ∷ v ∷ [])) (lengthened d c reads writes)
lengthened-grows d c reads writes w a b v e p q r t =
    if-gives (Grows Items d (w ∷ a ∷ b ∷ v ∷ [])) (ltb (length d.items) MAX_ITEMS) (Ok (Lengthen c reads writes)) 10
    (λ _. (e, lengthen-grows d c reads writes ∙ ap (λ x. written_at Items d ++ x ∷ []) (four-are (codes "reserve") (decimal c) (decimal reads) (decimal writes) w a b v p q r t)))

planned-grows : (d : Writing) (go : Go) (w a v : List ℕ) → d.place ≡ Turns → w ≡ codes "go" → IsGo a v go → Gives (Grows Turns d (w ∷ a ∷ v ∷ [])) (planned d go)
planned-grows d go w a v e p is =
    if-gives (Grows Turns d (w ∷ a ∷ v ∷ [])) (leb (d.turns + go.turns) MAX_TURNS) (Ok (Turn go (d.turns + go.turns))) 10
    (λ _. (e, turn-grows d go (d.turns + go.turns) ∙ ap (λ x. written_at Turns d ++ x ∷ []) (three-are (codes "go") (decimal go.caller) (decimal go.turns) w a v p is.0 is.1)))

triple-grows : (d : Writing) (x : Version) (w a v : List ℕ) → d.place ≡ Ops → d.header.version ≡ x → Gives (Grows Ops d (w ∷ a ∷ v ∷ [])) (triple_op x d w a v)
triple-grows d One w a v e one =
    let ws : List (List ℕ) = w ∷ a ∷ v ∷ [] in
    named-says (Grows Ops d ws) (codes "count") w (count_of a v >>= structured d)
    (λ name. then-gives (IsCount a v) (Grows Ops d ws) (count_of a v) (structured d) (count-says a v)
    (λ op is. structured-grows d ws op One e one (is ∙ ap (λ x. x ∷ a ∷ v ∷ []) (sym name))))
triple-grows d Two w a v e two = placed_keyed-grows d w a v e two

three-grows : (d : Writing) (p : NextLine) (w a v : List ℕ) → d.place ≡ p → Gives (Grows p d (w ∷ a ∷ v ∷ [])) (three_words p d w a v)
three-grows d Ops w a v e =
    let ws : List (List ℕ) = w ∷ a ∷ v ∷ [] in
    let P : ℕ × ℕ → Type 0 = λ p. (a ≡ decimal p.0) × (v ≡ decimal p.1) in
    let writes : Result Step ℕ = operands d a v >>= λ p. added d (Write p.0 p.1) in
    let adds : Result Step ℕ = operands d a v >>= λ p. added d (Sum p.0 p.1) in
    let triples : Result Step ℕ = triple_op d.header.version d w a v in
    if-else-says (Grows Ops d ws) (codes "write") w writes (if bytes_eq w (codes "add") then adds else triples)
    (λ name. then-gives P (Grows Ops d ws) (operands d a v) (λ p. added d (Write p.0 p.1)) (operands-say d a v)
    (λ p is. added-grows d ws (Write p.0 p.1) e (three-are (codes "write") (decimal p.0) (decimal p.1) w a v name is.0 is.1)))
    (if-else-says (Grows Ops d ws) (codes "add") w adds triples
    (λ name. then-gives P (Grows Ops d ws) (operands d a v) (λ p. added d (Sum p.0 p.1)) (operands-say d a v)
    (λ p is. added-grows d ws (Sum p.0 p.1) e (three-are (codes "add") (decimal p.0) (decimal p.1) w a v name is.0 is.1)))
    (triple-grows d d.header.version w a v e refl))
three-grows d Items w a v e =
    let P : Step → Type 0 = Grows Items d (w ∷ a ∷ v ∷ []) in
    named-says P (codes "switch") w (caller_of d a >>= λ c. algorithm v >>= λ alg. changed d c alg)
    (λ name. then-gives (λ c. a ≡ decimal c) P (caller_of d a) (λ c. algorithm v >>= λ alg. changed d c alg) (caller-says d a)
    (λ c k. then-gives (λ alg. v ≡ alg_name alg) P (algorithm v) (λ alg. changed d c alg) (algorithm-says v) (λ alg l. changed-grows d c alg w a v e name k l)))
three-grows d Turns w a v e =
    let P : Step → Type 0 = Grows Turns d (w ∷ a ∷ v ∷ []) in
    named-says P (codes "go") w (go_of d a v >>= planned d)
    (λ name. then-gives (IsGo a v) P (go_of d a v) (planned d) (go-says d a v) (λ go is. planned-grows d go w a v e name is))
three-grows d p w a v e = tt

quadruple-grows : (d : Writing) (x : Version) (w a b v : List ℕ) → d.place ≡ Ops → d.header.version ≡ x → Gives (Grows Ops d (w ∷ a ∷ b ∷ v ∷ [])) (quadruple_op x d w a b v)
quadruple-grows d One w a b v e one = tt
quadruple-grows d Two w a b v e two =
    let P : Step → Type 0 = Grows Ops d (w ∷ a ∷ b ∷ v ∷ []) in
    let sums : Result Step ℕ = named (codes "msum") w (map_sum_of d a b v) in
    if-else-says P (codes "count") w (placed_count d a b v) (if bytes_eq w (codes "mput") then map_put_of d a b v else sums) (λ name. placed_count-grows d w a b v e two name)
    (if-else-says P (codes "mput") w (map_put_of d a b v) sums (λ name. map_put-grows d w a b v e two name)
    (named-says P (codes "msum") w (map_sum_of d a b v) (λ name. map_sum-grows d w a b v e two name)))

reserve-grows : (d : Writing) (w a b v : List ℕ) → d.place ≡ Items → w ≡ codes "reserve" → Gives (Grows Items d (w ∷ a ∷ b ∷ v ∷ [])) (reserve_of d a b v)
reserve-grows d w a b v e name =
    let P : Step → Type 0 = Grows Items d (w ∷ a ∷ b ∷ v ∷ []) in
    let all : ℕ = d.header.callers in
    three-say P a b v (λ i j n. below all i >>= λ c. ranged 1 MAX_LOG j >>= λ reads. ranged 1 MAX_LOG n >>= λ writes. lengthened d c reads writes)
    (λ i j n x y z. then-gives (λ c. a ≡ decimal c) P (below all i) (λ c. ranged 1 MAX_LOG j >>= λ reads. ranged 1 MAX_LOG n >>= λ writes. lengthened d c reads writes) (below-says all i a x)
    (λ c p. then-gives (λ reads. b ≡ decimal reads) P (ranged 1 MAX_LOG j) (λ reads. ranged 1 MAX_LOG n >>= λ writes. lengthened d c reads writes) (ranged-says 1 MAX_LOG j b y)
    (λ reads q. then-gives (λ writes. v ≡ decimal writes) P (ranged 1 MAX_LOG n) (λ writes. lengthened d c reads writes) (ranged-says 1 MAX_LOG n v z)
    (λ writes t. lengthened-grows d c reads writes w a b v e name p q t))))

quadruple_item-grows : (d : Writing) (x : Version) (w a b v : List ℕ) → d.place ≡ Items → Gives (Grows Items d (w ∷ a ∷ b ∷ v ∷ [])) (quadruple_item x d w a b v)
quadruple_item-grows d One w a b v e = tt
quadruple_item-grows d Two w a b v e =
    named-says (Grows Items d (w ∷ a ∷ b ∷ v ∷ [])) (codes "reserve") w (reserve_of d a b v) (λ name. reserve-grows d w a b v e name)

four-grows : (m : Mode) (d : Writing) (p : NextLine) (w a b v : List ℕ) → At m p d → d.place ≡ p → Gives (Grows p d (w ∷ a ∷ b ∷ v ∷ [])) (four_words p d w a b v)
four-grows m d Ops w a b v at e =
    let ws : List (List ℕ) = w ∷ a ∷ b ∷ v ∷ [] in
    if-else-says (Grows Ops d ws) (codes "move") w (move_of d a b v >>= added d) (quadruple_op d.header.version d w a b v)
    (λ name. then-gives (IsMove d.header.version a b v) (Grows Ops d ws) (move_of d a b v) (added d) (move-says d a b v)
    (λ op is. added-grows d ws op e (is ∙ ap (λ x. x ∷ a ∷ b ∷ v ∷ []) (sym name))))
    (quadruple-grows d d.header.version w a b v e refl)
four-grows m d Items w a b v at e = quadruple_item-grows d d.header.version w a b v e
four-grows m d RegionLine w a b v at e = named-says (Grows RegionLine d (w ∷ a ∷ b ∷ v ∷ [])) (codes "region") w (region_of d a b v) (λ name. region-grows m d w a b v at name)
four-grows m d p w a b v at e = tt

words-grow : (m : Mode) (d : Writing) (ws : List (List ℕ)) → At m d.place d → Gives (Grows d.place d ws) (by_words m d ws)
words-grow m d [] at = tt
words-grow m d (w ∷ []) at = one-grows m d d.place w at refl
words-grow m d (w ∷ v ∷ []) at =
    filled-gives (Grows d.place d (w ∷ v ∷ [])) v (two_words d.place m d w v) (two-grows m d d.place w v at refl)
words-grow m d (w ∷ a ∷ v ∷ []) at =
    let P : Step → Type 0 = Grows d.place d (w ∷ a ∷ v ∷ []) in
    filled-gives P a (filled v (three_words d.place d w a v)) (filled-gives P v (three_words d.place d w a v) (three-grows d d.place w a v refl))
words-grow m d (w ∷ a ∷ b ∷ v ∷ []) at =
    let P : Step → Type 0 = Grows d.place d (w ∷ a ∷ b ∷ v ∷ []) in
    let four : Result Step ℕ = four_words d.place d w a b v in
    filled-gives P a (filled b (filled v four)) (filled-gives P b (filled v four) (filled-gives P v four (four-grows m d d.place w a b v at refl)))
words-grow m d (w ∷ a ∷ b ∷ v ∷ x ∷ ws) at = tt

-- a line that makes a step has an LF
abbrev Ends : Line → Writing → Step → Type 0
Ends l d step = (l.ended ≡ true) × Grows d.place d (words_of l.bytes) step

step-grows : (m : Mode) (d : Writing) (l : Line) → At m d.place d → Gives (Ends l d) (step_of m d l)
step-grows m d l at =
    let words : Result Step ℕ = by_words m d (words_of l.bytes) in
    if-both (Ends l d) (any_bad l.bytes) (Err 2) (if l.ended then words else Err 3) tt
    (if-gives (Ends l d) l.ended words 3 (λ e. ended-gives words e (words-grow m d (words_of l.bytes) at)))
  where
    ended-gives : (r : Result Step ℕ) → l.ended ≡ true → Gives (Grows d.place d (words_of l.bytes)) r → Gives (Ends l d) r
    ended-gives (Ok step) e h = (e, h)
    ended-gives (Err c) e h = tt

line-made : (l : Line) → l.ended ≡ true → l ≡ made (words_of l.bytes)
line-made l e =
    ap (λ x. let k : Line = record { bytes = l.bytes; ended = x } in k) e ∙ ap (λ x. let k : Line = record { bytes = x; ended = true } in k) (sym (joined-words_of l.bytes))

-- the lines so far and those to come are these
abbrev Meets : List (List (List ℕ)) → List Line → List (List (List ℕ)) → Type 0
Meets before ls lines = map made before ++ ls ≡ map made lines

-- they are the workload's
abbrev IsWhole : Mode → List (List (List ℕ)) → List Line → Workload → Type 0
IsWhole m before ls w = (lines : List (List (List ℕ))) × AreLinesOf m w lines × Meets before ls lines

meets-step : (before after' : List (List (List ℕ))) (l : Line) (ls : List Line) (lines : List (List (List ℕ))) → l.ended ≡ true
    → after' ≡ before ++ words_of l.bytes ∷ [] → Meets after' ls lines → Meets before (l ∷ ls) lines
meets-step before after' l ls lines e grows whole =
    ap (λ x. map made before ++ x ∷ ls) (line-made l e)
    ∙ (sym (append_assoc (map made before) (made (words_of l.bytes) ∷ []) ls)
    ∙ (ap (λ t. t ++ ls) (sym (map-append made before (words_of l.bytes ∷ []))) ∙ (ap (λ t. map made t ++ ls) (sym grows) ∙ whole)))

whole-step : (m : Mode) (before after' : List (List (List ℕ))) (l : Line) (ls : List Line) (w : Workload) → l.ended ≡ true → after' ≡ before ++ words_of l.bytes ∷ [] → IsWhole m after' ls w → IsWhole m before (l ∷ ls) w
whole-step m before after' l ls w e grows whole = (whole.0, whole.1, meets-step before after' l ls whole.0 e grows whole.2)

done-regroup : (h i s x : List (List (List ℕ))) → (h ++ (i ++ s)) ++ x ≡ h ++ (i ++ (s ++ x))
done-regroup h i s x = simp append_assoc

-- the workload of a draft
abbrev whole : Writing → Workload
whole d = record { header = d.header; items = d.items; schedule = d.schedule }

done-meets : (d : Writing) (l : Line) (before section : List (List (List ℕ))) → l.ended ≡ true → words_of l.bytes ≡ codes "done" ∷ [] → before ≡ header_lines d.header ++ (items_lines d.header.version d.items ++ section)
    → Meets before (l ∷ []) (lines_with section (whole d))
done-meets d l before section e is same =
    let end : Meets (before ++ words_of l.bytes ∷ []) [] (lines_with section (whole d)) =
    append-nil (map made (before ++ words_of l.bytes ∷ []))
    ∙ (ap (λ x. map made (before ++ x ∷ [])) is
    ∙ (ap (λ x. map made (x ++ (codes "done" ∷ []) ∷ [])) same
    ∙ ap (map made) (done-regroup (header_lines d.header) (items_lines d.header.version d.items) section ((codes "done" ∷ []) ∷ [])))) in
    meets-step before (before ++ words_of l.bytes ∷ []) l [] (lines_with section (whole d)) e refl end

plain-are : (m : Mode) (w : Workload) → w.schedule ≡ [] → AreLinesOf m w (lines_with [] w)
plain-are m w none = inl (ap (λ gs. lines_with (schedule_lines gs) w) (sym none))

section-are : (m : Mode) (w : Workload) (gos : List Go) → w.schedule ≡ gos → m ≡ Stepwise → AreLinesOf m w (lines_with (section_lines gos) w)
section-are m w [] none step = inr (step, none, refl)
section-are m w (g ∷ gs) is step = inl (ap (λ x. lines_with (schedule_lines x) w) (sym is))

done-whole : (m : Mode) (d : Writing) (l : Line) → Sound m d → l.ended ≡ true → words_of l.bytes ≡ codes "done" ∷ [] → (d.place ≡ Items) ⊎ (d.place ≡ Turns) → IsWhole m (written_at d.place d) (l ∷ []) (whole d)
done-whole m d l s e is (inl place) =
    let at : At m Items d = subst (λ p. At m p d) place s.here in
    (lines_with [] (whole d), plain-are m (whole d) at.1, done-meets d l (written_at d.place d) [] e is (ap (λ p. written_at p d) place))
done-whole m d l s e is (inr place) =
    let at : At m Turns d = subst (λ p. At m p d) place s.here in (
      lines_with (section_lines d.schedule) (whole d),
      section-are m (whole d) d.schedule refl at.1,
      done-meets d l (written_at d.place d) (section_lines d.schedule) e is (ap (λ p. written_at p d) place),
    )

ended-whole : (m : Mode) (d : Writing) (k : ℕ) (l : Line) (ls : List Line) → Sound m d → Ends l d Done → Gives (IsWhole m (written_at d.place d) (l ∷ ls)) (ended d k ls)
ended-whole m d k l [] s h = done-whole m d l s h.0 h.1.1 h.1.0
ended-whole m d k l (x ∷ ls) s h = tt

go_on-whole : (m : Mode) (d : Writing) (k : ℕ) (l : Line) (ls : List Line) (r : Result Step ℕ) (rest : Writing → Result Workload (ℕ × ℕ)) → Sound m d → Gives (Leaves m d) r → Gives (Ends l d) r
    → ((e : Writing) → Sound m e → Gives (IsWhole m (written_at e.place e) ls) (rest e))
    → Gives (IsWhole m (written_at d.place d) (l ∷ ls)) (go_on r d k ls rest)
go_on-whole m d k l ls (Err c) rest now s h g = tt
go_on-whole m d k l ls (Ok Done) rest now s h g = ended-whole m d (k + 1) l ls now h
go_on-whole m d k l ls (Ok (Head q x)) rest now s h g =
    let e : Writing = after (Head q x) d in
    gives-with (IsWhole m (written_at q e) ls) (IsWhole m (written_at d.place d) (l ∷ ls)) (rest e) (g e s) (λ w whole. whole-step m (written_at d.place d) (written_at q e) l ls w h.0 h.1 whole)
go_on-whole m d k l ls (Ok (Announce q n)) rest now s h g =
    let e : Writing = after (Announce q n) d in
    gives-with (IsWhole m (written_at q e) ls) (IsWhole m (written_at d.place d) (l ∷ ls)) (rest e) (g e s) (λ w whole. whole-step m (written_at d.place d) (written_at q e) l ls w h.0 h.1 whole)
go_on-whole m d k l ls (Ok (Begin c)) rest now s h g =
    let e : Writing = after (Begin c) d in
    gives-with (IsWhole m (written_at Ops e) ls) (IsWhole m (written_at d.place d) (l ∷ ls)) (rest e) (g e s) (λ w whole. whole-step m (written_at d.place d) (written_at Ops e) l ls w h.0 h.1 whole)
go_on-whole m d k l ls (Ok End) rest now s h g =
    let e : Writing = after End d in
    gives-with (IsWhole m (written_at Items e) ls) (IsWhole m (written_at d.place d) (l ∷ ls)) (rest e) (g e s) (λ w whole. whole-step m (written_at d.place d) (written_at Items e) l ls w h.0 h.1 whole)
go_on-whole m d k l ls (Ok Schedule) rest now s h g =
    let e : Writing = after Schedule d in
    gives-with (IsWhole m (written_at Turns e) ls) (IsWhole m (written_at d.place d) (l ∷ ls)) (rest e) (g e s) (λ w whole. whole-step m (written_at d.place d) (written_at Turns e) l ls w h.0 h.1 whole)
go_on-whole m d k l ls (Ok (Change c a)) rest now s h g =
    let e : Writing = after (Change c a) d in
    let place = h.1.0 in
    let grows : written_at d.place e ≡ written_at d.place d ++ words_of l.bytes ∷ [] = ap (λ p. written_at p e) place ∙ h.1.1 in
    gives-with (IsWhole m (written_at d.place e) ls) (IsWhole m (written_at d.place d) (l ∷ ls)) (rest e) (g e s) (λ w whole. whole-step m (written_at d.place d) (written_at d.place e) l ls w h.0 grows whole)
go_on-whole m d k l ls (Ok (Lengthen c r x)) rest now s h g =
    let e : Writing = after (Lengthen c r x) d in
    let place = h.1.0 in
    let grows : written_at d.place e ≡ written_at d.place d ++ words_of l.bytes ∷ [] = ap (λ p. written_at p e) place ∙ h.1.1 in
    gives-with (IsWhole m (written_at d.place e) ls) (IsWhole m (written_at d.place d) (l ∷ ls)) (rest e) (g e s) (λ w whole. whole-step m (written_at d.place d) (written_at d.place e) l ls w h.0 grows whole)
go_on-whole m d k l ls (Ok (Add op)) rest now s h g =
    let e : Writing = after (Add op) d in
    let place = h.1.0 in
    let grows : written_at d.place e ≡ written_at d.place d ++ words_of l.bytes ∷ [] = ap (λ p. written_at p e) place ∙ h.1.1 in
    gives-with (IsWhole m (written_at d.place e) ls) (IsWhole m (written_at d.place d) (l ∷ ls)) (rest e) (g e s) (λ w whole. whole-step m (written_at d.place d) (written_at d.place e) l ls w h.0 grows whole)
go_on-whole m d k l ls (Ok (Turn go all)) rest now s h g =
    let e : Writing = after (Turn go all) d in
    let place = h.1.0 in
    let grows : written_at d.place e ≡ written_at d.place d ++ words_of l.bytes ∷ [] = ap (λ p. written_at p e) place ∙ h.1.1 in
    gives-with (IsWhole m (written_at d.place e) ls) (IsWhole m (written_at d.place d) (l ∷ ls)) (rest e) (g e s) (λ w whole. whole-step m (written_at d.place d) (written_at d.place e) l ls w h.0 grows whole)

parsed-whole : (m : Mode) (d : Writing) (k : ℕ) (ls : List Line) → Sound m d → Gives (IsWhole m (written_at d.place d) ls) (parsed m d k ls)
parsed-whole m d k [] s = tt
parsed-whole m d k (l ∷ ls) s =
    go_on-whole m d k l ls (step_of m d l) (λ e. parsed m e (k + 1) ls) s (step-sound m d l s) (step-grows m d l s.here) (λ e t. parsed-whole m e (k + 1) ls t)

text-whole : (m : Mode) (text : List ℕ) → Gives (λ w. IsTextOf m w text) (parsed m opening 1 (lines_of text))
text-whole m text =
    gives-with (IsWhole m [] (lines_of text)) (λ w. IsTextOf m w text) (parsed m opening 1 (lines_of text)) (parsed-whole m opening 1 (lines_of text) (opening-sound m))
    (λ w whole. (whole.0, whole.1, sym (unlines-lines_of text) ∙ (ap unlines whole.2 ∙ unlines-made whole.0)))

-- a text that is read as a workload is a text of that workload
pub text-written : (m : Mode) (text : List ℕ) (w : Workload) → workload_of m text ≡ Ok w → IsTextOf m w text
text-written m text w is =
    given (λ x. IsTextOf m x text) (workload_of m text) w
    (by (ltb MAX_TEXT (length text)) (parsed m opening 1 (lines_of text)) (text-whole m text)) is
  where
    by : (b : Bool) (r : Result Workload (ℕ × ℕ)) → Gives (λ x. IsTextOf m x text) r → Gives (λ x. IsTextOf m x text) (if b then Err (0, 1) else r)
    by true r h = tt
    by false r h = h
