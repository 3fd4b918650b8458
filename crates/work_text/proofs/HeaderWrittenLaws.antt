-- A line of a header that is read is that line of the header.
use Rattle.std.proofs.Common.{ℕ, ◌≡◌, List, [], ◌∷◌, ◌++◌, Bool, true, false, ◌&&◌, Option, Some, None, Result, Ok, Err, refl, sym, ap, ◌∙◌, take, drop}
use Rattle.stm_model.specs.Algorithms.{alg_name}
use Rattle.std.specs.Prelude.{not, if◌then◌else◌, leb, ltb, codes, map, bytes_eq}
use Rattle.std.specs.Fmt.{decimal}
use Rattle.std.proofs.lemmas.List.{take-append-drop}
use Rattle.std.proofs.lemmas.Slice.Eq.{bytes_eq-Decides}
use Rattle.stm_model.specs.declared.alg.Alg.{Alg}
use Rattle.stm_model.specs.declared.alg.TheConstants.{ALGORITHMS}
use Rattle.stm_model.specs.declared.config.TheConstants.{MAX_RECORDS, MIN_RING, MAX_RING, MAX_CALLERS, MAX_LOG, CLOCK_LIMIT}
use Rattle.work_profile.specs.declared.policy.Policy.{Policy}
use Rattle.work_profile.specs.declared.policy.Policy.TheVariants as policies
use Rattle.work_profile.specs.declared.policy.TheConstants.{MOST_ROUND, MOST_STATE}
use Rattle.work_profile.specs.PolicyWords.{policy_word}
use Rattle.work_script.specs.declared.workload.Header.{Header}
use Rattle.work_script.specs.declared.workload.Version.{Version}
use Rattle.work_script.specs.declared.workload.Version.TheVariants.{One, Two}
use Rattle.work_script.specs.declared.workload.TheConstants.{STRUCTS_END}
use Rattle.work_text.specs.declared.draft.NextLine.{NextLine}
use Rattle.work_text.specs.declared.draft.NextLine.TheVariants.{Version as VersionLine, Words, Callers, Records, Ring, Reads, Writes, Clock, Algorithm, Structures, Regions, Region as RegionLine, Policy as PolicyLine, Items, Ops, Turns}
use Rattle.work_text.specs.declared.draft.Field.{Field}
use Rattle.work_text.specs.declared.draft.Field.TheVariants as fields
use Rattle.work_text.specs.Lines.{number_of}
use Rattle.work_text.specs.Drafts.{Writing, regions_where, with_field}
use Rattle.work_text.specs.Grammar.{◌>>=◌, named, formed, ranged, below, number, algorithm_of, algorithm, sized, switched, version_of, most_words, numbered_policy, policy_of, header_line, after_algorithm, next_line, no_region}
use Rattle.work_text.specs.Texts.{switch_of, op_words, items_lines, version_word, region_words, layout_lines, header_lines, section_lines}
use Rattle.work_text.proofs.Giving.{Gives, gives-with}
use Rattle.work_text.proofs.Numbers.{number_of-says}
use Rattle.work_text.proofs.HeaderLaws.{then-gives, if-gives, if-else-gives, both-true, HeadAt}

-- what an answer says of the words

formed-says-by : (w : List ℕ) (o : Option ℕ) → ((n : ℕ) → o ≡ Some n → w ≡ decimal n) → Gives (λ n. w ≡ decimal n) (formed o)
formed-says-by w None h = tt
formed-says-by w (Some n) h = h n refl

pub formed-says : (w : List ℕ) → Gives (λ n. w ≡ decimal n) (formed (number_of w))
formed-says w = formed-says-by w (number_of w) (λ n is. number_of-says n w is)

pub named-says : {A : Type 0} (P : A → Type 0) (name w : List ℕ) (rest : Result A ℕ) → (w ≡ name → Gives P rest) → Gives P (named name w rest)
named-says P name w rest h = if-gives P (bytes_eq w name) rest 4 (λ e. h ((bytes_eq-Decides w name).0 e))

pub below-says : (end n : ℕ) (w : List ℕ) → w ≡ decimal n → Gives (λ k. w ≡ decimal k) (below end n)
below-says end n w is = if-gives (λ k. w ≡ decimal k) (ltb n end) (Ok n) 6 (λ e. is)

pub ranged-says : (low high n : ℕ) (w : List ℕ) → w ≡ decimal n → Gives (λ k. w ≡ decimal k) (ranged low high n)
ranged-says low high n w is = if-gives (λ k. w ≡ decimal k) (leb low n && leb n high) (Ok n) 6 (λ e. is)

abbrev pub Names : List ℕ → List ℕ → List ℕ → ℕ → Type 0
Names name w v n = (w ≡ name) × (v ≡ decimal n)

algorithm_of-says : (algs : List Alg) (w : List ℕ) → Gives (λ a. w ≡ alg_name a) (algorithm_of algs w)
algorithm_of-says [] w = tt
algorithm_of-says (alg ∷ algs) w =
    if-else-gives (λ a. w ≡ alg_name a) (bytes_eq w (alg_name alg)) (Ok alg) (algorithm_of algs w)
    (λ e. (bytes_eq-Decides w (alg_name alg)).0 e) (algorithm_of-says algs w)

pub algorithm-says : (w : List ℕ) → Gives (λ a. w ≡ alg_name a) (algorithm w)
algorithm-says w = algorithm_of-says ALGORITHMS w

pub sized-says : (name : List ℕ) (low high : ℕ) (w v : List ℕ) → Gives (Names name w v) (sized name low high w v)
sized-says name low high w v = named-says (Names name w v) name w (number low high v)
    (λ is. then-gives (λ n. v ≡ decimal n) (Names name w v) (formed (number_of v)) (ranged low high) (formed-says v)
    (λ n h. gives-with (λ k. v ≡ decimal k) (Names name w v) (ranged low high n) (ranged-says low high n v h) (λ k g. (is, g))))

pub number-says : (low high : ℕ) (v : List ℕ) → Gives (λ k. v ≡ decimal k) (number low high v)
number-says low high v =
    let P : ℕ → Type 0 = λ k. v ≡ decimal k in
    then-gives P P (formed (number_of v)) (ranged low high) (formed-says v) (λ n is. ranged-says low high n v is)

-- three numbers of the form
pub three-say : {B : Type 0} (Q : B → Type 0) (a b v : List ℕ) (next : ℕ → ℕ → ℕ → Result B ℕ) → ((i j n : ℕ) → a ≡ decimal i → b ≡ decimal j → v ≡ decimal n → Gives Q (next i j n))
    → Gives Q (formed (number_of a) >>= λ i. formed (number_of b) >>= λ j. formed (number_of v) >>= λ n. next i j n)
three-say Q a b v next each =
    then-gives (λ n. a ≡ decimal n) Q (formed (number_of a)) (λ i. formed (number_of b) >>= λ j. formed (number_of v) >>= λ n. next i j n) (formed-says a)
    (λ i x. then-gives (λ n. b ≡ decimal n) Q (formed (number_of b)) (λ j. formed (number_of v) >>= λ n. next i j n) (formed-says b)
    (λ j y. then-gives (λ n. v ≡ decimal n) Q (formed (number_of v)) (λ n. next i j n) (formed-says v) (λ n z. each i j n x y z)))

-- the lines so far

-- those before the layout
abbrev pub nine_lines : Header → List (List (List ℕ))
nine_lines h =
    (codes "stm" ∷ version_word h.version ∷ [])
    ∷ (codes "words" ∷ decimal h.words ∷ [])
    ∷ (codes "callers" ∷ decimal h.callers ∷ [])
    ∷ (codes "records" ∷ decimal h.records ∷ [])
    ∷ (codes "ring" ∷ decimal h.ring ∷ [])
    ∷ (codes "reads" ∷ decimal h.reads ∷ [])
    ∷ (codes "writes" ∷ decimal h.writes ∷ [])
    ∷ (codes "clock" ∷ decimal h.clock ∷ [])
    ∷ (codes "alg" ∷ alg_name h.alg ∷ [])
    ∷ []

-- and those of regions, of which n were announced
abbrev pub region_lines : Header → ℕ → List (List (List ℕ))
region_lines h n = nine_lines h ++ (codes "regions" ∷ decimal n ∷ []) ∷ map region_words h.regions

abbrev pub head_so_far : NextLine → Header → ℕ → List (List (List ℕ))
head_so_far VersionLine h n = []
head_so_far Words h n = take 1 (nine_lines h)
head_so_far Callers h n = take 2 (nine_lines h)
head_so_far Records h n = take 3 (nine_lines h)
head_so_far Ring h n = take 4 (nine_lines h)
head_so_far Reads h n = take 5 (nine_lines h)
head_so_far Writes h n = take 6 (nine_lines h)
head_so_far Clock h n = take 7 (nine_lines h)
head_so_far Algorithm h n = take 8 (nine_lines h)
head_so_far Structures h n = nine_lines h
head_so_far Regions h n = nine_lines h
head_so_far RegionLine h n = region_lines h n
head_so_far PolicyLine h n = region_lines h n
head_so_far Items h n = header_lines h
head_so_far Ops h n = header_lines h
head_so_far Turns h n = header_lines h

abbrev pub open_lines : NextLine → Writing → List (List (List ℕ))
open_lines Ops d = (codes "tx" ∷ decimal d.caller ∷ []) ∷ map (op_words d.header.version) d.ops
open_lines Turns d = section_lines d.schedule
open_lines p d = []

abbrev pub written_at : NextLine → Writing → List (List (List ℕ))
written_at p d = head_so_far p d.header d.count ++ (items_lines d.header.version d.items ++ open_lines p d)

-- a line of the header is the one before the line q
abbrev pub HeadGrows : NextLine → NextLine → Header → ℕ → List ℕ → List ℕ → Field → Type 0
HeadGrows p q h n w v field = head_so_far q (with_field field h) n ≡ head_so_far p h n ++ (w ∷ v ∷ []) ∷ []

pub two-same : (xs : List (List (List ℕ))) (a b w v : List ℕ) → w ≡ a → v ≡ b → xs ++ (a ∷ b ∷ []) ∷ [] ≡ xs ++ (w ∷ v ∷ []) ∷ []
two-same xs a b w v p q = ap (λ x. xs ++ (x ∷ b ∷ []) ∷ []) (sym p) ∙ ap (λ x. xs ++ (w ∷ x ∷ []) ∷ []) (sym q)

number-grows : (p q : NextLine) (h : Header) (n : ℕ) (name : List ℕ) (low high : ℕ) (w v : List ℕ) (field : ℕ → Field)
    → ((k : ℕ) → head_so_far q (with_field (field k) h) n ≡ head_so_far p h n ++ (name ∷ decimal k ∷ []) ∷ [])
    → Gives (HeadGrows p q h n w v) (sized name low high w v >>= λ k. Ok (field k))
number-grows p q h n name low high w v field next =
    then-gives (Names name w v) (HeadGrows p q h n w v) (sized name low high w v) (λ k. Ok (field k)) (sized-says name low high w v)
    (λ k is. next k ∙ two-same (head_so_far p h n) name (decimal k) w v is.0 is.1)

switched-says : (words : ℕ) (v : List ℕ) → Gives (λ on. v ≡ switch_of on) (switched words v)
switched-says words v =
    let P : Bool → Type 0 = λ on. v ≡ switch_of on in
    let room : Result Bool ℕ = if leb STRUCTS_END words then Ok true else Err 8 in
    if-else-gives P (bytes_eq v (codes "off")) (Ok false) (named (codes "on") v room) (λ e. (bytes_eq-Decides v (codes "off")).0 e)
    (named-says P (codes "on") v room (λ is. if-gives P (leb STRUCTS_END words) (Ok true) 8 (λ _. is)))

version_of-says : (v : List ℕ) → Gives (λ k. v ≡ version_word k) (version_of v)
version_of-says v =
    let P : Version → Type 0 = λ k. v ≡ version_word k in
    if-else-gives P (bytes_eq v (codes "1")) (Ok One) (named (codes "2") v (Ok Two)) (λ e. (bytes_eq-Decides v (codes "1")).0 e)
    (named-says P (codes "2") v (Ok Two) (λ is. is))

-- the name of a policy, and its number
numbered-says : (name v : List ℕ) → Gives (λ p. name ++ v ≡ policy_word p) (numbered_policy name v)
numbered-says name v =
    let P : Policy → Type 0 = λ p. name ++ v ≡ policy_word p in
    let rounds : Result Policy ℕ = number 1 MOST_ROUND v >>= λ k. Ok (policies.Round k) in
    let states : Result Policy ℕ = number 1 MOST_STATE v >>= λ k. Ok (policies.State k) in
    if-else-gives P (bytes_eq name (codes "round:")) rounds (named (codes "state:") name states)
    (λ e. then-gives (λ k. v ≡ decimal k) P (number 1 MOST_ROUND v) (λ k. Ok (policies.Round k)) (number-says 1 MOST_ROUND v)
    (λ k is. ap (λ x. x ++ v) ((bytes_eq-Decides name (codes "round:")).0 e) ∙ ap (λ x. codes "round:" ++ x) is))
    (named-says P (codes "state:") name states
    (λ same. then-gives (λ k. v ≡ decimal k) P (number 1 MOST_STATE v) (λ k. Ok (policies.State k)) (number-says 1 MOST_STATE v)
    (λ k is. ap (λ x. x ++ v) same ∙ ap (λ x. codes "state:" ++ x) is)))

policy_of-says : (v : List ℕ) → Gives (λ p. v ≡ policy_word p) (policy_of v)
policy_of-says v =
    let P : Policy → Type 0 = λ p. v ≡ policy_word p in
    let numbered : Result Policy ℕ = numbered_policy (take 6 v) (drop 6 v) in
    if-else-gives P (bytes_eq v (codes "fixed")) (Ok policies.Fixed) (if bytes_eq v (codes "expert") then Ok policies.Expert else numbered) (λ e. (bytes_eq-Decides v (codes "fixed")).0 e)
    (if-else-gives P (bytes_eq v (codes "expert")) (Ok policies.Expert) numbered (λ e. (bytes_eq-Decides v (codes "expert")).0 e)
    (gives-with (λ p. take 6 v ++ drop 6 v ≡ policy_word p) P numbered (numbered-says (take 6 v) (drop 6 v)) (λ p is. sym (take-append-drop 6 v) ∙ is)))

behind-far : (x : Version) (h : Header) (n : ℕ) → head_so_far (after_algorithm x) h n ≡ nine_lines h
behind-far One h n = refl
behind-far Two h n = refl

switch-where : (on : Bool) → not (no_region (regions_where on)) ≡ on
switch-where true = refl
switch-where false = refl

pub header_line-grows : (p : NextLine) (h : Header) (n : ℕ) (w v : List ℕ) → HeadAt p h n → Gives (HeadGrows p (next_line h.version p) h n w v) (header_line p h w v)
header_line-grows VersionLine h n w v at =
    let Says : Version → Type 0 = λ k. (w ≡ codes "stm") × (v ≡ version_word k) in
    then-gives Says (HeadGrows VersionLine Words h n w v) (named (codes "stm") w (version_of v)) (λ k. Ok (fields.Version k))
    (named-says Says (codes "stm") w (version_of v) (λ a. gives-with (λ k. v ≡ version_word k) Says (version_of v) (version_of-says v) (λ k is. (a, is))))
    (λ k is. two-same [] (codes "stm") (version_word k) w v is.0 is.1)
header_line-grows Words h n w v at = number-grows Words Callers h n (codes "words") 1 (most_words h.version) w v (λ k. fields.Words k) (λ k. refl)
header_line-grows Callers h n w v at = number-grows Callers Records h n (codes "callers") 1 MAX_CALLERS w v (λ k. fields.Callers k) (λ k. refl)
header_line-grows Records h n w v at = number-grows Records Ring h n (codes "records") 1 MAX_RECORDS w v (λ k. fields.Records k) (λ k. refl)
header_line-grows Ring h n w v at = number-grows Ring Reads h n (codes "ring") MIN_RING MAX_RING w v (λ k. fields.Ring k) (λ k. refl)
header_line-grows Reads h n w v at = number-grows Reads Writes h n (codes "reads") 1 MAX_LOG w v (λ k. fields.Reads k) (λ k. refl)
header_line-grows Writes h n w v at = number-grows Writes Clock h n (codes "writes") 1 MAX_LOG w v (λ k. fields.Writes k) (λ k. refl)
header_line-grows Clock h n w v at = number-grows Clock Algorithm h n (codes "clock") 0 CLOCK_LIMIT w v (λ k. fields.Clock k) (λ k. refl)
header_line-grows Algorithm h n w v at =
    let Says : Alg → Type 0 = λ a. (w ≡ codes "alg") × (v ≡ alg_name a) in
    then-gives Says (HeadGrows Algorithm (after_algorithm h.version) h n w v) (named (codes "alg") w (algorithm v)) (λ a. Ok (fields.Algorithm a))
    (named-says Says (codes "alg") w (algorithm v) (λ a. gives-with (λ x. v ≡ alg_name x) Says (algorithm v) (algorithm-says v) (λ x is. (a, is))))
    (λ a is. behind-far h.version (record h { alg = a }) n ∙ two-same (head_so_far Algorithm h n) (codes "alg") (alg_name a) w v is.0 is.1)
header_line-grows Structures h n w v at =
    let Says : Bool → Type 0 = λ on. (w ≡ codes "structs") × (v ≡ switch_of on) in
    then-gives Says (HeadGrows Structures Items h n w v) (named (codes "structs") w (switched h.words v)) (λ on. Ok (fields.Structures on))
    (named-says Says (codes "structs") w (switched h.words v) (λ a. gives-with (λ on. v ≡ switch_of on) Says (switched h.words v) (switched-says h.words v) (λ on is. (a, is))))
    (λ on is.
    let g : Header = record h { regions = regions_where on } in
    ap (λ x. nine_lines h ++ layout_lines x g) at.0
    ∙ (ap (λ b. nine_lines h ++ (codes "structs" ∷ switch_of b ∷ []) ∷ []) (switch-where on) ∙ two-same (nine_lines h) (codes "structs") (switch_of on) w v is.0 is.1))
header_line-grows PolicyLine h n w v at =
    let Says : Policy → Type 0 = λ p. (w ≡ codes "policy") × (v ≡ policy_word p) in
    then-gives Says (HeadGrows PolicyLine Items h n w v) (named (codes "policy") w (policy_of v)) (λ p. Ok (fields.Policy p))
    (named-says Says (codes "policy") w (policy_of v) (λ a. gives-with (λ p. v ≡ policy_word p) Says (policy_of v) (policy_of-says v) (λ p is. (a, is))))
    (λ p is.
    let g : Header = record h { policy = p } in
    ap (λ x. nine_lines h ++ layout_lines x g) at.0
    ∙ (ap (λ k. nine_lines h ++ (codes "regions" ∷ decimal k ∷ []) ∷ (map region_words h.regions ++ (codes "policy" ∷ policy_word p ∷ []) ∷ [])) at.1
    ∙ two-same (region_lines h n) (codes "policy") (policy_word p) w v is.0 is.1))
header_line-grows Regions h n w v at = tt
header_line-grows RegionLine h n w v at = tt
header_line-grows Items h n w v at = tt
header_line-grows Ops h n w v at = tt
header_line-grows Turns h n w v at = tt
