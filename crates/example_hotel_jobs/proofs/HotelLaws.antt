-- What the transactions' writes leave of the rule, over plain memories.
use Rattle.std.proofs.Common.{ℕ, ◌≡◌, ◌≢◌, ◌<◌, ◌≤◌, ◌+◌, ◌-◌, ◌∙◌, List, [], ◌∷◌, length, get_or, set, inl, inr, refl, sym, ap, arith, get_or-set_other}
use Rattle.std.specs.Prelude.{◌==◌, cond}
use Rattle.std.proofs.lemmas.Bool.{cases_eq}
use Rattle.std.proofs.lemmas.Bool.Decides.{nat_tests}
use Rattle.std.proofs.lemmas.Grind.{elements}
use Rattle.stm_model.specs.Memories.{written}
use Rattle.tx_transaction.specs.Words.{count_in}
use Rattle.tx_transaction.specs.RangeLaws.{range_facts, range-most, part-of-count, none-passes}
use Rattle.example_hotel_jobs.specs.Hotels.{IsOrderly, is_taken}

counts-one : (guest : ℕ) → 0 < guest → cond {A = ℕ} (is_taken guest) 1 0 ≡ 1
counts-one guest some = grind (arith, nat_tests)

counts-none : (guest : ℕ) → guest ≡ 0 → cond {A = ℕ} (is_taken guest) 1 0 ≡ 0
counts-none guest none = grind (arith, nat_tests)

-- sixteen keys are out at most
pub few-keys : (m : List ℕ) → length m ≡ 18 → IsOrderly m → get_or m 17 0 ≤ 16
few-keys m long was =
    let most = range-most m 8 16 2 (omega arith) (omega arith) (λ a from lt.
    let two = was.two (a - 8) (omega arith) in
    let same : get_or m (8 + (a - 8)) 0 ≡ get_or m a 0 = ap (λ i. get_or m i 0) (let is : 8 + (a - 8) ≡ a = omega arith in is) in
    omega arith) in
    omega (arith, most, was.out)

-- a taken room is counted
pub some-taken : (m : List ℕ) (room : ℕ) → length m ≡ 18 → room < 8 → get_or m room 0 ≢ 0 → IsOrderly m → 1 ≤ get_or m 16 0
some-taken m room long low there was =
    let one = counts-one (get_or m room 0) (omega arith) in
    let part = part-of-count is_taken m 0 8 room (omega arith) low (omega arith) in
    omega (arith, one, part, was.taken)

-- a guest without a room takes a free one
pub checked-in : (m : List ℕ) (room guest taken out : ℕ) → length m ≡ 18 → room < 8 → 0 < guest → get_or m room 0 ≡ 0 → get_or m 16 0 ≡ taken → get_or m 17 0 ≡ out
    → count_in (λ x. x == guest) 0 8 m ≡ 0 → IsOrderly m
    → IsOrderly (written m ((room, guest) ∷ (8 + room, 1) ∷ (16, taken + 1) ∷ (17, out + 1) ∷ []))
checked-in m room guest taken out long low some free taken-is out-is none was =
    let new : (a : ℕ) → a < 8 → get_or m a 0 ≢ guest = λ a at same. let no = none-passes (λ x. x == guest) m 0 8 a none (omega arith) at (omega arith) in grind (arith, nat_tests) in
    let key = was.free room low free in
    let one = counts-one guest some in
    let zero' = counts-none (get_or m room 0) free in
    let taken = was.taken in
    let out = was.out in
    record {
      once = λ a b low-a low-b there same. let before = was.once a b low-a low-b in let new-a = new a low-a in let new-b = new b low-b in grind (arith, nat_tests, elements);
      free = λ a at none. let before = was.free a at in grind (arith, nat_tests, elements);
      two = λ a at. let before = was.two a at in grind (arith, nat_tests, elements);
      taken = omega range_facts;
      out = omega range_facts;
    }

-- a key of a taken room is handed out
pub handed-key : (m : List ℕ) (room keys out : ℕ) → length m ≡ 18 → room < 8 → get_or m room 0 ≢ 0 → get_or m (8 + room) 0 ≡ keys → get_or m 17 0 ≡ out → keys < 2
    → IsOrderly m → IsOrderly (written m ((8 + room, keys + 1) ∷ (17, out + 1) ∷ []))
handed-key m room keys out long low there keys-is out-is few was =
    let taken = was.taken in
    let out = was.out in
    record {
      once = λ a b low-a low-b there same. was.once a b low-a low-b (omega range_facts) (omega range_facts);
      free = λ a at none. let before = was.free a at in grind (arith, nat_tests, elements);
      two = λ a at. let before = was.two a at in grind (arith, nat_tests, elements);
      taken = omega range_facts;
      out = omega range_facts;
    }

-- a guest moves to a free room
pub moved : (m : List ℕ) (from to guest keys : ℕ) → length m ≡ 18 → from < 8 → to < 8 → guest ≢ 0 → get_or m from 0 ≡ guest → get_or m to 0 ≡ 0 → get_or m (8 + from) 0 ≡ keys
    → IsOrderly m → IsOrderly (written m ((from, 0) ∷ (to, guest) ∷ (8 + from, 0) ∷ (8 + to, keys) ∷ []))
moved m from to guest keys long low high there guest-is free keys-is was =
    let apart : to ≢ from = λ same. there (sym guest-is ∙ (ap (λ i. get_or m i 0) (sym same) ∙ free)) in
    let still = counts-none (get_or (set m from 0) to 0) (get_or-set_other m from to 0 0 apart ∙ free) in
    let none = was.free to high free in
    let one = counts-one guest (omega arith) in
    let one' = counts-one (get_or m from 0) (omega arith) in
    let zero' = counts-none (get_or m to 0) free in
    let zero'' = counts-none 0 refl in
    let taken = was.taken in
    let out = was.out in
    let most = was.two from low in
    record {
      once = λ a b low-a low-b there same. elim (cases_eq a to) [
        | inl e ↦ elim (cases_eq b to) [ inl f ↦ omega arith | inr f ↦ (let before = was.once from b low low-b in grind (arith, nat_tests, elements)) ]
        | inr e ↦ elim (cases_eq b to) [ inl f ↦ (let before = was.once a from low-a low in grind (arith, nat_tests, elements)) | inr f ↦ (let before = was.once a b low-a low-b in grind (arith, nat_tests, elements)) ]
      ];
      free = λ a at none. elim (cases_eq a from) [ inl e ↦ omega range_facts | inr e ↦ elim (cases_eq a to) [ inl f ↦ omega range_facts | inr f ↦ (let before = was.free a at (omega range_facts) in omega range_facts) ] ];
      two = λ a at. elim (cases_eq a from) [ inl e ↦ omega range_facts | inr e ↦ elim (cases_eq a to) [ inl f ↦ omega range_facts | inr f ↦ (let before = was.two a at in omega range_facts) ] ];
      taken = omega range_facts;
      out = omega range_facts;
    }

-- a guest leaves
pub checked-out : (m : List ℕ) (room keys taken out : ℕ) → length m ≡ 18 → room < 8 → get_or m room 0 ≢ 0 → get_or m (8 + room) 0 ≡ keys → get_or m 16 0 ≡ taken → get_or m 17 0 ≡ out
    → IsOrderly m → IsOrderly (written m ((room, 0) ∷ (8 + room, 0) ∷ (16, taken - 1) ∷ (17, out - keys) ∷ []))
checked-out m room keys taken out long low there keys-is taken-is out-is was =
    let one = counts-one (get_or m room 0) (omega arith) in
    let zero' = counts-none 0 refl in
    let taken = was.taken in
    let out = was.out in
    record {
      once = λ a b low-a low-b there same. let before = was.once a b low-a low-b in grind (arith, nat_tests, elements);
      free = λ a at none. elim (cases_eq a room) [ inl e ↦ omega range_facts | inr e ↦ (let before = was.free a at (omega range_facts) in omega range_facts) ];
      two = λ a at. elim (cases_eq a room) [ inl e ↦ omega range_facts | inr e ↦ (let before = was.two a at in omega range_facts) ];
      taken = omega range_facts;
      out = omega range_facts;
    }
