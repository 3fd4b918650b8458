-- One read more after those that were made.
use Rattle.std.specs.Prelude.{slice_index}
use Rattle.std.proofs.Common.{get_or-set_other, ℕ, zero, suc, ◌≡◌, ◌≢◌, ◌<◌, ◌≤◌, ◌+◌, ◌∙◌, List, [], ◌∷◌, ◌++◌, length, take, get_or, set, refl, sym, ap, subst, arith}
use Rattle.std.specs.Prelude.{Result, Ok}
use Rattle.stm_answers.specs.declared.answers.Read.{Read}
use Rattle.stm_answers.specs.declared.answers.Read.TheVariants.{Value}
use Rattle.tx_loops.specs.declared.looping_caller.LoopingCaller.{LoopingCaller}
use Rattle.tx_checked.specs.declared.misuse.Misuse.{Misuse}
use Rattle.tx_checked.specs.declared.misuse.Misuse.TheVariants as wrong
use Rattle.tx_checked.specs.declared.checked_caller.CheckedCaller.{CheckedCaller}
use Rattle.tx_checked.specs.CheckedCallers.{IsSameCheckedCaller}
use Rattle.tx_loops.proofs.AccessLaws.{read-same}
use Rattle.nekchhaul_c.specs.Codes.{misuse_code, read_code}
use Rattle.nekchhaul_c.specs.Reads.{ReadTells, ReadsInTurn, ReadManySays}

pub one-more : (at xs : List ℕ) (a x : ℕ) (m k n : LoopingCaller) → ReadsInTurn at xs m k → ReadTells a (Ok (Value x)) k n → ReadsInTurn (at ++ a ∷ []) (xs ++ x ∷ []) m n
one-more [] [] a x m k n same h = (n, subst (λ (q : LoopingCaller). ReadTells a (Ok (Value x)) q n) same h, refl)
one-more [] (y ∷ xs) a x m k n wrong h = absurd wrong
one-more (b ∷ at) [] a x m k n wrong h = absurd wrong
one-more (b ∷ at) (y ∷ xs) a x m k n r h = (r.0, r.1, one-more at xs a x r.0 k n r.2 h)

-- the first elements and the next, of a list and of one whose next was set
pub take-more : (n : ℕ) (xs : List ℕ) → n < length xs → take (suc n) xs ≡ take n xs ++ get_or xs n 0 ∷ []
take-more n [] lt = absurd (omega arith)
take-more zero (x ∷ xs) lt = refl
take-more (suc n) (x ∷ xs) lt = ap (λ l. x ∷ l) (take-more n xs (omega (arith, lt)))

take-set : (n : ℕ) (xs : List ℕ) (x : ℕ) → n < length xs → take (suc n) (set xs n x) ≡ take n xs ++ x ∷ []
take-set n [] x lt = absurd (omega arith)
take-set zero (y ∷ xs) x lt = refl
take-set (suc n) (y ∷ xs) x lt = ap (λ l. y ∷ l) (take-set n xs x (omega (arith, lt)))

pub read-more : (n : ℕ) (at xs : List ℕ) (x : ℕ) (m k o : LoopingCaller) → n < length at → n < length xs
    → ReadsInTurn (take n at) (take n xs) m k → ReadTells (get_or at n 0) (Ok (Value x)) k o
    → ReadsInTurn (take (n + 1) at) (take (n + 1) (set xs n x)) m o
read-more n at xs x m k o low room r h =
    let next : suc n ≡ n + 1 = omega arith in
    subst (λ j. ReadsInTurn (take j at) (take j (set xs n x)) m o) next
    (subst (λ l. ReadsInTurn l (take (suc n) (set xs n x)) m o) (sym (take-more n at low))
    (subst (λ l. ReadsInTurn (take n at ++ get_or at n 0 ∷ []) l m o) (sym (take-set n xs x room)) (one-more (take n at) (take n xs) (get_or at n 0) x m k o r h)))

pub same-trans : (m k n : CheckedCaller) → IsSameCheckedCaller m k → IsSameCheckedCaller k n → IsSameCheckedCaller m n
same-trans m k n a b = record { stm = b.stm ∙ a.stm; caller = record { table = b.caller.table ∙ a.caller.table; who = b.caller.who ∙ a.caller.who } }

pub same-after : (a : ℕ) (r : Result Read Misuse) (m k n : LoopingCaller) → IsSameCheckedCaller m.caller k.caller → ReadTells a r k n → IsSameCheckedCaller m.caller n.caller
same-after a r m k n s h = same-trans m.caller k.caller n.caller s (read-same a r k n h)

-- the places from n on are as they were
abbrev pub IsKeptFrom : ℕ → List ℕ → List ℕ → Type 0
IsKeptFrom n old xs = (i : ℕ) → n ≤ i → slice_index xs i ≡ slice_index old i

pub kept-more : (n x : ℕ) (old xs : List ℕ) → IsKeptFrom n old xs → IsKeptFrom (n + 1) old (set xs n x)
kept-more n x old xs h = λ i le. let ne : i ≢ n = omega (arith, le) in rw get_or-set_other (h i (omega (arith, le)))

pub stopped : (n : ℕ) (at old xs : List ℕ) (status : ℕ) (r : Result Read Misuse) (m k o : LoopingCaller) → n < length at
    → length at ≤ length old → length xs ≡ length old → IsKeptFrom n old xs → IsSameCheckedCaller m.caller k.caller
    → ReadsInTurn (take n at) (take n xs) m k → ReadTells (get_or at n 0) r k o
    → status ≡ read_code r → status ≢ 0 → ReadManySays at old xs status m o
stopped n at old xs status r m k o low room long kept same read tells number high = record {
  same = same-after (get_or at n 0) r m k o same tells;
  long = long;
  beyond = λ i le. kept i (omega (arith, le, low));
  room = λ lt. absurd (omega (arith, lt, room));
  read = λ z. absurd (high z);
  stops = λ le ne. record { count = n; low = low; before = k; read = read; beyond = kept; answer = r; number = number; tells = tells };
}

pub misuse-high : (e : Misuse) → misuse_code e ≡ 0 → ⊥
misuse-high wrong.NoAttempt h = cc
misuse-high wrong.InAttempt h = cc
misuse-high wrong.Committing h = cc
misuse-high wrong.Address h = cc
misuse-high wrong.Fenced h = cc
misuse-high wrong.HoldsRange h = cc
misuse-high wrong.NoRanges h = cc
misuse-high wrong.NoRange h = cc
misuse-high wrong.Depth h = cc
misuse-high wrong.Logs h = cc
misuse-high wrong.Room h = cc
misuse-high wrong.Stranger h = cc
misuse-high wrong.Closing h = cc
misuse-high wrong.NotClosing h = cc
