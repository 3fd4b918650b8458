-- What the lines of a header leave fits.
use Rattle.std.proofs.Common.{ℕ, ◌≡◌, ◌≢◌, ◌<◌, ◌≤◌, ◌+◌, ◌^◌, List, [], ◌∷◌, ◌++◌, Bool, true, false, ◌&&◌, Option, Some, None, Result, Ok, Err, refl, sym, ap, subst, arith, length, length-append, take, drop, inl, inr}
use Rattle.std.specs.Prelude.{if◌then◌else◌, leb, ltb, codes, bytes_eq, All}
use Rattle.std.proofs.lemmas.Bool.Decides.{nat_tests}
use Rattle.std.proofs.lemmas.List.Elements.{All-nil, All-push}
use Rattle.stm_model.specs.declared.alg.Alg.{Alg}
use Rattle.stm_model.specs.declared.alg.TheConstants.{ALGORITHMS}
use Rattle.stm_model.specs.declared.config.TheConstants.{MAX_WORDS, MAX_RECORDS, MIN_RING, MAX_RING, MAX_CALLERS, MAX_LOG, CLOCK_LIMIT}
use Rattle.stm_model.specs.Algorithms.{alg_name}
use Rattle.work_profile.specs.declared.policy.Policy.{Policy}
use Rattle.work_profile.specs.declared.policy.Policy.TheVariants.{Fixed}
use Rattle.work_profile.specs.declared.policy.Policy.TheVariants as policies
use Rattle.work_profile.specs.declared.policy.TheConstants.{MOST_ROUND, MOST_STATE}
use Rattle.work_profile.specs.PolicyWords.{HasWord}
use Rattle.data_regions.specs.declared.region.Region.{Region}
use Rattle.data_regions.specs.declared.region.Structure.{Structure}
use Rattle.data_regions.specs.declared.region.Structure.TheVariants as structures
use Rattle.data_regions.specs.Regions.{start_of, size_of, region_for, EndsWithin}
use Rattle.work_script.specs.declared.workload.Header.{Header}
use Rattle.work_script.specs.declared.workload.Version.{Version}
use Rattle.work_script.specs.declared.workload.Version.TheVariants.{One, Two}
use Rattle.work_script.specs.declared.workload.TheConstants.{MAX_ITEMS, MAX_WORDS_ONE, MAX_REGIONS, STRUCTS_END}
use Rattle.work_text.specs.declared.table.TheConstants.{KINDS}
use Rattle.work_text.specs.declared.draft.NextLine.{NextLine}
use Rattle.work_text.specs.declared.draft.NextLine.TheVariants.{Version as VersionLine, Words, Callers, Records, Ring, Reads, Writes, Clock, Algorithm, Structures, Regions, Region as RegionLine, Policy as PolicyLine, Items, Ops, Turns}
use Rattle.work_text.specs.declared.draft.Field.{Field}
use Rattle.work_text.specs.declared.draft.Field.TheVariants as fields
use Rattle.work_text.specs.declared.draft.Step.{Step}
use Rattle.work_text.specs.declared.draft.Step.TheVariants.{Head, Count}
use Rattle.work_text.specs.declared.parse.Mode.{Mode}
use Rattle.work_text.specs.declared.parse.Mode.TheVariants.{Run, Step as Stepwise}
use Rattle.work_text.specs.Lines.{number_of}
use Rattle.work_text.specs.Drafts.{Writing, regions_where, with_field, after}
use Rattle.work_text.specs.Grammar.{◌>>=◌, named, formed, ranged, below, number, algorithm_of, algorithm, sized, switched, version_of, most_words, most_size, numbered_policy, policy_of, header_line, after_algorithm, next_line, next_region, kind_of, end_of, is_placed, placed, region_of}
use Rattle.work_text.specs.Parsed.{IsSized, Follow, RegionsOne, RegionsTwo, LayoutFits, HeaderFits, OpFits, ScriptFits, ItemFits, GoFits, all_turns, ScheduleFits}
use Rattle.work_text.proofs.Giving.{Gives}
use Rattle.work_text.proofs.Numbers.{Fits64, number_of-fits}

pub then-gives : {A B : Type 0} (P : A → Type 0) (Q : B → Type 0) (r : Result A ℕ) (next : A → Result B ℕ) → Gives P r → ((a : A) → P a → Gives Q (next a)) → Gives Q (r >>= next)
then-gives P Q (Ok a) next h g = g a h
then-gives P Q (Err c) next h g = tt

pub if-gives : {A : Type 0} (P : A → Type 0) (b : Bool) (x : Result A ℕ) (code : ℕ) → (b ≡ true → Gives P x) → Gives P (if b then x else Err code)
if-gives P true x code h = h refl
if-gives P false x code h = tt

pub if-else-gives : {A : Type 0} (P : A → Type 0) (b : Bool) (x y : Result A ℕ) → (b ≡ true → Gives P x) → Gives P y → Gives P (if b then x else y)
if-else-gives P true x y h g = h refl
if-else-gives P false x y h g = g

pub unless-gives : {A : Type 0} (P : A → Type 0) (b : Bool) (x : Result A ℕ) (code : ℕ) → Gives P x → Gives P (if b then Err code else x)
unless-gives P true x code h = tt
unless-gives P false x code h = h

pub named-gives : {A : Type 0} (P : A → Type 0) (name w : List ℕ) (rest : Result A ℕ) → Gives P rest → Gives P (named name w rest)
named-gives P name w rest h = if-gives P (bytes_eq w name) rest 4 (λ _. h)

pub formed-by : (o : Option ℕ) → Fits64 o → Gives (λ n. n < 2 ^ 64) (formed o)
formed-by None h = tt
formed-by (Some n) h = h

pub formed-fits : (w : List ℕ) → Gives (λ n. n < 2 ^ 64) (formed (number_of w))
formed-fits w = formed-by (number_of w) (number_of-fits w)

pub below-fits : (end n : ℕ) → Gives (λ k. k < end) (below end n)
below-fits end n = if-gives (λ k. k < end) (ltb n end) (Ok n) 6 (λ e. grind (arith, nat_tests))

pub both-true : (x y : Bool) → (x && y) ≡ true → (x ≡ true) × (y ≡ true)
both-true true y h = (refl, h)
both-true false y h = cc

pub ranged-fits : (low high n : ℕ) → Gives (λ k. (low ≤ k) × (k ≤ high)) (ranged low high n)
ranged-fits low high n = if-gives (λ k. (low ≤ k) × (k ≤ high)) (leb low n && leb n high) (Ok n) 6
    (λ e. let two = both-true (leb low n) (leb n high) e in (grind (arith, nat_tests), grind (arith, nat_tests)))

sized-fits : (name : List ℕ) (low high : ℕ) (w v : List ℕ) → Gives (λ k. (low ≤ k) × (k ≤ high)) (sized name low high w v)
sized-fits name low high w v =
    named-gives (λ k. (low ≤ k) × (k ≤ high)) name w (number low high v)
    (then-gives (λ n. n < 2 ^ 64) (λ k. (low ≤ k) × (k ≤ high)) (formed (number_of v)) (ranged low high) (formed-fits v) (λ n h. ranged-fits low high n))

pub if-both : {A : Type 0} (P : A → Type 0) (b : Bool) (x y : Result A ℕ) → Gives P x → Gives P y → Gives P (if b then x else y)
if-both P true x y h g = h
if-both P false x y h g = g

-- no region yet, and no policy
abbrev pub IsBare : Header → Type 0
IsBare h = (h.regions ≡ []) × (h.policy ≡ Fixed)

-- what the header is at a line, where n regions are to come
abbrev pub HeadAt : NextLine → Header → ℕ → Type 0
HeadAt VersionLine h n = (h.version ≡ One) × IsBare h
HeadAt Structures h n = (h.version ≡ One) × IsBare h
HeadAt Regions h n = (h.version ≡ Two) × IsBare h
HeadAt RegionLine h n = (h.version ≡ Two) × (length h.regions < n) × (n ≤ MAX_REGIONS)
HeadAt PolicyLine h n = (h.version ≡ Two) × (length h.regions ≡ n)
HeadAt Items h n = Unit {0}
HeadAt Ops h n = Unit {0}
HeadAt Turns h n = Unit {0}
HeadAt p h n = IsBare h

-- the header fits, and is what it is at a line
abbrev pub FitsAt : NextLine → ℕ → Header → Type 0
FitsAt p n h = HeaderFits h × HeadAt p h n

pub none-two : (h : Header) → h.regions ≡ [] → RegionsTwo h
none-two h none = record {
  count = omega (arith, ap length none);
  sized = subst (All IsSized) (sym none) (All-nil IsSized);
  follow = subst (Follow 0) (sym none) tt;
  within = subst (All (EndsWithin h.words)) (sym none) (All-nil (EndsWithin h.words));
}

pub bare-fits : (v : Version) (h : Header) → IsBare h → LayoutFits v h
bare-fits One h b = (inl b.0, b.1)
bare-fits Two h b = (none-two h b.0, subst HasWord (sym b.1) tt)

pub most-words : (v : Version) → most_words v ≤ MAX_WORDS
most-words One = omega arith
most-words Two = omega arith

least-words : (v : Version) (n : ℕ) → n ≤ MAX_WORDS_ONE → n ≤ most_words v
least-words One n le = le
least-words Two n le = omega arith

-- a field that keeps the header fit, up to the line q
abbrev pub Puts : Header → ℕ → NextLine → Field → Type 0
Puts h n q field = FitsAt q n (with_field field h)

-- a line that gives a number, where the header fits with each number in its range
number-fits : (P : Field → Type 0) (name : List ℕ) (low high : ℕ) (w v : List ℕ) (field : ℕ → Field) → ((n : ℕ) → (low ≤ n) × (n ≤ high) → P (field n)) → Gives P (sized name low high w v >>= λ n. Ok (field n))
number-fits P name low high w v field fits =
    then-gives (λ k. (low ≤ k) × (k ≤ high)) P (sized name low high w v) (λ n. Ok (field n)) (sized-fits name low high w v) fits

switched-fits : (words : ℕ) (v : List ℕ) → Gives (λ on. on ≡ true → STRUCTS_END ≤ words) (switched words v)
switched-fits words v =
    let P : Bool → Type 0 = λ on. on ≡ true → STRUCTS_END ≤ words in
    let room : Result Bool ℕ = if leb STRUCTS_END words then Ok true else Err 8 in
    if-both P (bytes_eq v (codes "off")) (Ok false) (named (codes "on") v room) (λ e. absurd cc)
    (named-gives P (codes "on") v room (if-gives P (leb STRUCTS_END words) (Ok true) 8 (λ e on. grind (arith, nat_tests))))

-- a number from low to high
pub number-within : (low high : ℕ) (v : List ℕ) → Gives (λ k. (low ≤ k) × (k ≤ high)) (number low high v)
number-within low high v = then-gives (λ n. n < 2 ^ 64) (λ k. (low ≤ k) × (k ≤ high)) (formed (number_of v)) (ranged low high) (formed-fits v) (λ n h. ranged-fits low high n)

numbered-fits : (name v : List ℕ) → Gives HasWord (numbered_policy name v)
numbered-fits name v =
    let states : Result Policy ℕ = number 1 MOST_STATE v >>= λ k. Ok (policies.State k) in
    if-both HasWord (bytes_eq name (codes "round:")) (number 1 MOST_ROUND v >>= λ k. Ok (policies.Round k)) (named (codes "state:") name states)
    (then-gives (λ k. (1 ≤ k) × (k ≤ MOST_ROUND)) HasWord (number 1 MOST_ROUND v) (λ k. Ok (policies.Round k)) (number-within 1 MOST_ROUND v) (λ k h. h))
    (named-gives HasWord (codes "state:") name states
    (then-gives (λ k. (1 ≤ k) × (k ≤ MOST_STATE)) HasWord (number 1 MOST_STATE v) (λ k. Ok (policies.State k)) (number-within 1 MOST_STATE v) (λ k h. h)))

policy-fits : (v : List ℕ) → Gives HasWord (policy_of v)
policy-fits v =
    let numbered : Result Policy ℕ = numbered_policy (take 6 v) (drop 6 v) in
    if-both HasWord (bytes_eq v (codes "fixed")) (Ok Fixed) (if bytes_eq v (codes "expert") then Ok policies.Expert else numbered) tt
    (if-both HasWord (bytes_eq v (codes "expert")) (Ok policies.Expert) numbered tt (numbered-fits (take 6 v) (drop 6 v)))

with-policy : (h : Header) (p : Policy) → h.version ≡ Two → LayoutFits h.version h → HasWord p → LayoutFits h.version (record h { policy = p })
with-policy h p e l word =
    let next : Header = record h { policy = p } in
    let old : LayoutFits Two h = subst (λ v. LayoutFits v h) e l in
    let two = old.0 in
    let now : LayoutFits Two next = (record { count = two.count; sized = two.sized; follow = two.follow; within = two.within }, word) in
    subst (λ v. LayoutFits v next) (sym e) now

regions-one : (h : Header) (on : Bool) → (on ≡ true → STRUCTS_END ≤ h.words) → RegionsOne (record h { regions = regions_where on })
regions-one h true room = inr (refl, room refl)
regions-one h false room = inl refl

with-regions : (h : Header) (on : Bool) → h.version ≡ One → h.policy ≡ Fixed → (on ≡ true → STRUCTS_END ≤ h.words) → LayoutFits h.version (record h { regions = regions_where on })
with-regions h on e fixed room =
    let next : Header = record h { regions = regions_where on } in
    let now : LayoutFits One next = (regions-one h on room, fixed) in
    subst (λ v. LayoutFits v next) (sym e) now

behind-at : (v : Version) (h : Header) (n : ℕ) → h.version ≡ v → IsBare h → HeadAt (after_algorithm v) h n
behind-at One h n e b = (e, b)
behind-at Two h n e b = (e, b)

pub gives-any : {A : Type 0} (r : Result A ℕ) → Gives (λ a. Unit {0}) r
gives-any (Ok a) = tt
gives-any (Err c) = tt

pub header_line-fits : (p : NextLine) (h : Header) (n : ℕ) (w v : List ℕ) → HeaderFits h → HeadAt p h n → Gives (Puts h n (next_line h.version p)) (header_line p h w v)
header_line-fits VersionLine h n w v f at =
    let first : Result Version ℕ = named (codes "stm") w (version_of v) in
    then-gives (λ k. Unit {0}) (Puts h n Words) first (λ k. Ok (fields.Version k)) (gives-any first)
    (λ k _.
    let words = subst (λ x. h.words ≤ most_words x) at.0 f.words in
    (record { config = f.config; words = least-words k h.words words; layout = bare-fits k (record h { version = k }) at.1 }, at.1))
header_line-fits Words h n w v f at =
    number-fits (Puts h n Callers) (codes "words") 1 (most_words h.version) w v (λ k. fields.Words k)
    (λ k le.
    let c = f.config in
    let most = le.1 in
    let all = most-words h.version in (
      record {
        config = record {
          words = (le.0, omega arith);
          records = c.records;
          ring = c.ring;
          callers = c.callers;
          reads = c.reads;
          writes = c.writes;
          clock = c.clock;
        };
        words = most;
        layout = bare-fits h.version (record h { words = k }) at;
      },
      at,
    ))
header_line-fits Callers h n w v f at =
    number-fits (Puts h n Records) (codes "callers") 1 MAX_CALLERS w v (λ k. fields.Callers k)
    (λ k le.
    let c = f.config in (
      record {
        config =
            record { words = c.words; records = c.records; ring = c.ring; callers = le; reads = c.reads; writes = c.writes; clock = c.clock };
        words = f.words;
        layout = bare-fits h.version (record h { callers = k }) at;
      },
      at,
    ))
header_line-fits Records h n w v f at =
    number-fits (Puts h n Ring) (codes "records") 1 MAX_RECORDS w v (λ k. fields.Records k)
    (λ k le.
    let c = f.config in (
      record {
        config =
            record { words = c.words; records = le; ring = c.ring; callers = c.callers; reads = c.reads; writes = c.writes; clock = c.clock };
        words = f.words;
        layout = bare-fits h.version (record h { records = k }) at;
      },
      at,
    ))
header_line-fits Ring h n w v f at =
    number-fits (Puts h n Reads) (codes "ring") MIN_RING MAX_RING w v (λ k. fields.Ring k)
    (λ k le.
    let c = f.config in (
      record {
        config =
            record { words = c.words; records = c.records; ring = le; callers = c.callers; reads = c.reads; writes = c.writes; clock = c.clock };
        words = f.words;
        layout = bare-fits h.version (record h { ring = k }) at;
      },
      at,
    ))
header_line-fits Reads h n w v f at =
    number-fits (Puts h n Writes) (codes "reads") 1 MAX_LOG w v (λ k. fields.Reads k)
    (λ k le.
    let c = f.config in (
      record {
        config =
            record { words = c.words; records = c.records; ring = c.ring; callers = c.callers; reads = le; writes = c.writes; clock = c.clock };
        words = f.words;
        layout = bare-fits h.version (record h { reads = k }) at;
      },
      at,
    ))
header_line-fits Writes h n w v f at =
    number-fits (Puts h n Clock) (codes "writes") 1 MAX_LOG w v (λ k. fields.Writes k)
    (λ k le.
    let c = f.config in (
      record {
        config =
            record { words = c.words; records = c.records; ring = c.ring; callers = c.callers; reads = c.reads; writes = le; clock = c.clock };
        words = f.words;
        layout = bare-fits h.version (record h { writes = k }) at;
      },
      at,
    ))
header_line-fits Clock h n w v f at =
    number-fits (Puts h n Algorithm) (codes "clock") 0 CLOCK_LIMIT w v (λ k. fields.Clock k)
    (λ k le.
    let c = f.config in (
      record {
        config =
            record { words = c.words; records = c.records; ring = c.ring; callers = c.callers; reads = c.reads; writes = c.writes; clock = le.1 };
        words = f.words;
        layout = bare-fits h.version (record h { clock = k }) at;
      },
      at,
    ))
header_line-fits Algorithm h n w v f at =
    let P : Field → Type 0 = Puts h n (after_algorithm h.version) in
    let named : Result Alg ℕ = named (codes "alg") w (algorithm v) in
    then-gives (λ a. Unit {0}) P named (λ a. Ok (fields.Algorithm a)) (gives-any named)
    (λ a _. let next : Header = record h { alg = a } in (record { config = f.config; words = f.words; layout = bare-fits h.version next at }, behind-at h.version next n refl at))
header_line-fits Structures h n w v f at =
    let P : Bool → Type 0 = λ on. on ≡ true → STRUCTS_END ≤ h.words in
    then-gives P (Puts h n Items) (named (codes "structs") w (switched h.words v)) (λ on. Ok (fields.Structures on))
    (named-gives P (codes "structs") w (switched h.words v) (switched-fits h.words v))
    (λ on room. (record { config = f.config; words = f.words; layout = with-regions h on at.0 at.1.1 room }, tt))
header_line-fits PolicyLine h n w v f at =
    then-gives HasWord (Puts h n Items) (named (codes "policy") w (policy_of v)) (λ p. Ok (fields.Policy p))
    (named-gives HasWord (codes "policy") w (policy_of v) (policy-fits v))
    (λ p word. (record { config = f.config; words = f.words; layout = with-policy h p at.0 f.layout word }, tt))
header_line-fits Regions h n w v f at = tt
header_line-fits RegionLine h n w v f at = tt
header_line-fits Items h n w v f at = tt
header_line-fits Ops h n w v f at = tt
header_line-fits Turns h n w v f at = tt

-- nothing stands after the header yet
abbrev pub IsFront : Writing → Type 0
IsFront d = (d.items ≡ []) × (d.ops ≡ []) × (d.schedule ≡ [])

-- what stands at a place
abbrev pub At : Mode → NextLine → Writing → Type 0
At m Items d = (d.ops ≡ []) × (d.schedule ≡ [])
At m Ops d = (length d.items < MAX_ITEMS) × (d.caller < d.header.callers) × (d.schedule ≡ [])
At m Turns d = (d.ops ≡ []) × (m ≡ Stepwise)
At m p d = (IsFront d) × HeadAt p d.header d.count

-- what is read so far fits
pub record Sound (m : Mode) (d : Writing) : Type 0 where
  pub header : HeaderFits d.header
  pub count : length d.items ≤ MAX_ITEMS
  pub items : All (ItemFits d.header) d.items
  pub ops : ScriptFits d.header d.ops
  pub schedule : ScheduleFits m d.header d.schedule
  pub turns : d.turns ≡ all_turns d.schedule
  pub here : At m d.place d

pub none-fit : (h : Header) → ScriptFits h []
none-fit h = record { count = omega arith; each = All-nil (OpFits h); order = tt }

pub none-planned : (m : Mode) (h : Header) → ScheduleFits m h []
none-planned Run h = refl
none-planned Stepwise h = (All-nil (GoFits h), omega arith)

head-by : (m : Mode) (q : NextLine) (d : Writing) → IsFront d → HeadAt q d.header d.count → q ≢ Ops → q ≢ Turns → At m q d
head-by m Items d front at n t = (front.1, front.2)
head-by m Ops d front at n t = absurd (n refl)
head-by m Turns d front at n t = absurd (t refl)
head-by m VersionLine d front at n t = (front, at)
head-by m Words d front at n t = (front, at)
head-by m Callers d front at n t = (front, at)
head-by m Records d front at n t = (front, at)
head-by m Ring d front at n t = (front, at)
head-by m Reads d front at n t = (front, at)
head-by m Writes d front at n t = (front, at)
head-by m Clock d front at n t = (front, at)
head-by m Algorithm d front at n t = (front, at)
head-by m Structures d front at n t = (front, at)
head-by m Regions d front at n t = (front, at)
head-by m RegionLine d front at n t = (front, at)
head-by m PolicyLine d front at n t = (front, at)

behind-no_ops : (v : Version) → after_algorithm v ≢ Ops
behind-no_ops One e = cc
behind-no_ops Two e = cc

behind-no_turns : (v : Version) → after_algorithm v ≢ Turns
behind-no_turns One e = cc
behind-no_turns Two e = cc

pub next-by : (v : Version) (p : NextLine) → next_line v p ≢ Ops
next-by v Algorithm e = behind-no_ops v e
next-by v p e = cc

pub next-no_turns : (v : Version) (p : NextLine) → next_line v p ≢ Turns
next-no_turns v Algorithm e = behind-no_turns v e
next-no_turns v p e = cc

-- a header that fits, and nothing after it
front-sound : (m : Mode) (d : Writing) → HeaderFits d.header → IsFront d → d.turns ≡ all_turns d.schedule → At m d.place d → Sound m d
front-sound m d f front turns at = let none = front.0 in record {
  header = f;
  count = omega (arith, ap length none);
  items = subst (All (ItemFits d.header)) (sym none) (All-nil (ItemFits d.header));
  ops = subst (ScriptFits d.header) (sym front.1) (none-fit d.header);
  schedule = subst (ScheduleFits m d.header) (sym front.2) (none-planned m d.header);
  turns = turns;
  here = at;
}

-- a step leaves what fits
abbrev pub Leaves : Mode → Writing → Step → Type 0
Leaves m d step = Sound m (after step d)

pub head-sound : (m : Mode) (d : Writing) (q : NextLine) (field : Field) → IsFront d → d.turns ≡ all_turns d.schedule → q ≢ Ops → q ≢ Turns → Puts d.header d.count q field → Leaves m d (Head q field)
head-sound m d q field front turns ops gos f =
    let next : Writing = after (Head q field) d in front-sound m next f.0 front turns (head-by m q next front f.1 ops gos)

-- the line that follows where k regions of n are there
next-at : (m : Mode) (d : Writing) (n k : ℕ) → IsFront d → d.header.version ≡ Two → d.count ≡ n → length d.header.regions ≡ k → k ≤ n → n ≤ MAX_REGIONS → At m (next_region n k) d
next-at m d n k front two count now le most = by (leb n k) refl
  where
    by : (b : Bool) → leb n k ≡ b → At m (if b then PolicyLine else RegionLine) d
    by true e = let all : n ≤ k = grind (arith, nat_tests) in (front, (two, omega arith))
    by false e = let more : k < n = grind (arith, nat_tests) in (front, (two, omega arith, omega arith))

pub regions-sound : (m : Mode) (d : Writing) (w v : List ℕ) → Sound m d → At m Regions d → Gives (Leaves m d) (sized (codes "regions") 0 MAX_REGIONS w v >>= λ n. Ok (Count (next_region n 0) n))
regions-sound m d w v s at =
    then-gives (λ k. (0 ≤ k) × (k ≤ MAX_REGIONS)) (Leaves m d) (sized (codes "regions") 0 MAX_REGIONS w v) (λ n. Ok (Count (next_region n 0) n)) (sized-fits (codes "regions") 0 MAX_REGIONS w v)
    (λ n le.
    let next : Writing = after (Count (next_region n 0) n) d in
    let none : length d.header.regions ≡ 0 = ap length at.1.1.0 in
    front-sound m next s.header at.0 s.turns (next-at m next n 0 at.0 at.1.0 refl none (omega arith) le.1))

-- where the last region ends, if what is above the first ends at `end`
last_end : ℕ → List Region → ℕ
last_end end [] = end
last_end end (r ∷ rs) = last_end (start_of r + size_of r) rs

end_of-last : (end : ℕ) (r : Region) (rs : List Region) → end_of (r ∷ rs) ≡ last_end end (r ∷ rs)
unfolding last_end
end_of-last end r [] = refl
end_of-last end r (s ∷ rs) = end_of-last (start_of r + size_of r) s rs

end_of-first : (rs : List Region) → end_of rs ≡ last_end 0 rs
unfolding last_end
end_of-first [] = refl
end_of-first (r ∷ rs) = end_of-last 0 r rs

follow-snoc : (end : ℕ) (rs : List Region) (r : Region) → Follow end rs → last_end end rs ≤ start_of r → Follow end (rs ++ r ∷ [])
unfolding last_end
follow-snoc end [] r f le = (le, tt)
follow-snoc end (x ∷ rs) r f le = (f.0, follow-snoc (start_of x + size_of x) rs r f.1 le)

sized-for : (kind : Structure) (at size : ℕ) → (1 ≤ size) × (size ≤ most_size kind) → IsSized (region_for kind at size)
sized-for structures.Counter at size h = h
sized-for structures.List at size h = h
sized-for structures.Hash at size h = h
sized-for structures.Tree at size h = h
sized-for structures.Queue at size h = h
sized-for structures.SumMap at size h = h

with-region : (h : Header) (r : Region) → h.version ≡ Two → LayoutFits h.version h → length h.regions < MAX_REGIONS → IsSized r → end_of h.regions ≤ start_of r → start_of r + size_of r ≤ h.words
    → LayoutFits h.version (record h { regions = h.regions ++ r ∷ [] })
with-region h r e l room size above within =
    let next : Header = record h { regions = h.regions ++ r ∷ [] } in
    let old : LayoutFits Two h = subst (λ v. LayoutFits v h) e l in
    let two = old.0 in
    let end : last_end 0 h.regions ≤ start_of r = subst (λ n. n ≤ start_of r) (end_of-first h.regions) above in
    let now : LayoutFits Two next = (
      record {
        count = omega (arith, length-append h.regions (r ∷ []));
        sized = All-push IsSized h.regions r two.sized size;
        follow = follow-snoc 0 h.regions r two.follow end;
        within = All-push (EndsWithin h.words) h.regions r two.within within;
      },
      old.1,
    ) in
    subst (λ v. LayoutFits v next) (sym e) now

placed-sound : (m : Mode) (d : Writing) (r : Region) → Sound m d → At m RegionLine d → IsSized r → Gives (Leaves m d) (placed d r)
placed-sound m d r s at size =
    let next : ℕ = length d.header.regions + 1 in
    if-gives (Leaves m d) (is_placed d.header.regions d.header.words r) (Ok (Head (next_region d.count next) (fields.Region r))) 8
    (λ e.
    let two = both-true (leb (end_of d.header.regions) (start_of r)) (leb (start_of r + size_of r) d.header.words) e in
    let p = two.0 in
    let q = two.1 in
    let above : end_of d.header.regions ≤ start_of r = grind (arith, nat_tests) in
    let within : start_of r + size_of r ≤ d.header.words = grind (arith, nat_tests) in
    let more = at.1.1 in
    let most = at.1.2 in
    let f = s.header in
    let left : Writing = after (Head (next_region d.count next) (fields.Region r)) d in
    let long : length left.header.regions ≡ next = length-append d.header.regions (r ∷ []) in
    front-sound m left (record { config = f.config; words = f.words; layout = with-region d.header r at.1.0 f.layout (omega arith) size above within }) at.0 s.turns
    (next-at m left d.count next at.0 at.1.0 refl long (omega arith) most))

pub region-sound : (m : Mode) (d : Writing) (k a v : List ℕ) → Sound m d → At m RegionLine d → Gives (Leaves m d) (region_of d k a v)
region-sound m d k a v s at =
    let P : Step → Type 0 = Leaves m d in
    let kinds : Result Structure ℕ = kind_of KINDS k in
    then-gives (λ kind. Unit {0}) P kinds (λ kind. formed (number_of a) >>= λ start. formed (number_of v) >>= λ n. ranged 1 (most_size kind) n >>= λ size. placed d (region_for kind start size)) (gives-any kinds)
    (λ kind _. then-gives (λ n. n < 2 ^ 64) P (formed (number_of a)) (λ start. formed (number_of v) >>= λ n. ranged 1 (most_size kind) n >>= λ size. placed d (region_for kind start size)) (formed-fits a)
    (λ start h. then-gives (λ n. n < 2 ^ 64) P (formed (number_of v)) (λ n. ranged 1 (most_size kind) n >>= λ size. placed d (region_for kind start size)) (formed-fits v)
    (λ n g. then-gives (λ size. (1 ≤ size) × (size ≤ most_size kind)) P (ranged 1 (most_size kind) n) (λ size. placed d (region_for kind start size)) (ranged-fits 1 (most_size kind) n)
    (λ size within. placed-sound m d (region_for kind start size) s at (sized-for kind start size within)))))
