-- One write more after those that were made.
use Rattle.std.proofs.Common.{ℕ, suc, ◌≡◌, ◌≢◌, ◌<◌, ◌≤◌, ◌+◌, List, [], ◌∷◌, ◌++◌, length, take, get_or, refl, sym, subst, arith}
use Rattle.std.specs.Prelude.{Result, Ok, Err}
use Rattle.stm_answers.specs.declared.answers.Write.{Write}
use Rattle.stm_answers.specs.declared.answers.Write.TheVariants.{Done, Conflict, Full, ClockFull}
use Rattle.tx_loops.specs.declared.looping_caller.LoopingCaller.{LoopingCaller}
use Rattle.tx_checked.specs.declared.misuse.Misuse.{Misuse}
use Rattle.tx_checked.specs.CheckedCallers.{IsSameCheckedCaller}
use Rattle.nekchhaul_c.specs.Codes.{write_code}
use Rattle.nekchhaul_c.specs.Writes.{WriteTells, WritesInTurn, WriteManySays}
use Rattle.nekchhaul_c.proofs.InTurn.{misuse-high, same-trans, take-more}
use Rattle.tx_loops.proofs.AccessLaws.{write-same}

one-more : (at xs : List ℕ) (a x : ℕ) (m k n : LoopingCaller) → WritesInTurn at xs m k → WriteTells a x (Ok Done) k n → WritesInTurn (at ++ a ∷ []) (xs ++ x ∷ []) m n
one-more [] [] a x m k n same h = (n, subst (λ (q : LoopingCaller). WriteTells a x (Ok Done) q n) same h, refl)
one-more [] (y ∷ xs) a x m k n wrong h = absurd wrong
one-more (b ∷ at) [] a x m k n wrong h = absurd wrong
one-more (b ∷ at) (y ∷ xs) a x m k n r h = (r.0, r.1, one-more at xs a x r.0 k n r.2 h)

pub write-more : (n : ℕ) (at xs : List ℕ) (m k o : LoopingCaller) → n < length at → n < length xs → WritesInTurn (take n at) (take n xs) m k
    → WriteTells (get_or at n 0) (get_or xs n 0) (Ok Done) k o → WritesInTurn (take (n + 1) at) (take (n + 1) xs) m o
write-more n at xs m k o low enough r h =
    let next : suc n ≡ n + 1 = omega arith in
    subst (λ j. WritesInTurn (take j at) (take j xs) m o) next
    (subst (λ l. WritesInTurn l (take (suc n) xs) m o) (sym (take-more n at low))
    (subst (λ l. WritesInTurn (take n at ++ get_or at n 0 ∷ []) l m o) (sym (take-more n xs enough)) (one-more (take n at) (take n xs) (get_or at n 0) (get_or xs n 0) m k o r h)))

pub same-after-write : (a x : ℕ) (r : Result Write Misuse) (m k n : LoopingCaller) → IsSameCheckedCaller m.caller k.caller → WriteTells a x r k n → IsSameCheckedCaller m.caller n.caller
same-after-write a x r m k n s h = same-trans m.caller k.caller n.caller s (write-same a x r k n h)

-- 0 is the number of a write that was made
pub is-done : (r : Result Write Misuse) → write_code r ≡ 0 → r ≡ Ok Done
is-done (Ok Done) h = refl
is-done (Ok (Conflict cause)) h = absurd (let no : 1 ≡ 0 = h in cc)
is-done (Ok (Full limit)) h = absurd (let no : 6 ≡ 0 = h in cc)
is-done (Ok (ClockFull clock)) h = absurd (let no : 7 ≡ 0 = h in cc)
is-done (Err e) h = absurd (misuse-high e h)

pub stopped-write : (n : ℕ) (at xs : List ℕ) (status : ℕ) (r : Result Write Misuse) (m k o : LoopingCaller) → n < length at → length at ≤ length xs → IsSameCheckedCaller m.caller k.caller → WritesInTurn (take n at) (take n xs) m k
    → WriteTells (get_or at n 0) (get_or xs n 0) r k o → status ≡ write_code r → status ≢ 0 → WriteManySays at xs n status m o
stopped-write n at xs status r m k o low enough same wrote tells number high = record {
  same = same-after-write (get_or at n 0) (get_or xs n 0) r m k o same tells;
  few = λ lt. absurd (omega (arith, lt, enough));
  wrote = λ z. absurd (high z);
  stops = λ le ne. record { low = low; before = k; wrote = wrote; answer = r; number = number; tells = tells };
}
