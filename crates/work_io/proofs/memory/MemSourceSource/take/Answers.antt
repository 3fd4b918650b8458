use Rattle.std.proofs.Common.{◌≡◌, ◌≤◌, ◌+◌, ◌-◌, ◌∙◌, ap, sym, arith, List, ◌++◌, Some, take, drop, length, ℕ}
use Rattle.std.proofs.lemmas.List.{take_at, take_rest, length-take-le, take-append-drop, drop-drop}
use Rattle.work_io.proofs.memory.MemSourceSource.take.Goals as goal

-- the bytes copied to the front of a buffer, and then those that are left after, are those that were left
copied : (taken k : ℕ) (bytes buf : List ℕ) → k ≤ length (drop taken bytes) → drop taken bytes ≡ take k (take k (drop taken bytes) ++ buf) ++ drop (taken + k) bytes
copied taken k bytes buf fits =
    let front = take_at (take k (drop taken bytes)) buf k (length-take-le k (drop taken bytes) fits) in
    sym (take-append-drop k (drop taken bytes)) ∙ (ap (λ xs. xs ++ drop k (drop taken bytes)) (sym front) ∙ ap (λ rest. take k (take k (drop taken bytes) ++ buf) ++ rest) (drop-drop k taken bytes))

pub returns-clause-taken : goal.returns-clause-taken
returns-clause-taken c =
    let bytes = c.self.inside.bytes.items in
    let taken = c.self.inside.taken in
    let k = c.min-count.result in
    let left = ap (λ s. s.left) (sym c.self.view_is) in
    let source = ap (λ xs. take (length xs - taken) (drop taken xs)) c.deref.ensures.value ∙ take_rest bytes taken in
    let front = c.copy_from_slice.ensures.after ∙ ap (take k) source in
    let fits : k ≤ length (drop taken bytes) = omega (arith, c.min-count.ensures, ap length source) in
    ap Some (left ∙ (copied taken k bytes (drop k c.args.buf.now) fits ∙ ap (λ xs. take k (xs ++ drop k c.args.buf.now) ++ drop (taken + k) bytes) (sym front)))
