use Rattle.std.proofs.Common.{rules, ℕ, List, ◌≡◌, ◌<◌, ◌≤◌, ◌+◌, ◌-◌, ◌++◌, ◌∷◌, Result, Ok, Err, if◌then◌else◌, OnOk, is_ok, length, drop, take, get_or, replicate, ap, sym, ◌∙◌, arith, append-nil}
use Rattle.std.specs.Fmt.{decimal}
use Rattle.std.proofs.lemmas.Fmt.{length-decimal-le}
use Rattle.std.proofs.lemmas.List.{drop_more, take_all, get_or-take, length-drop}
use Rattle.std.proofs.lemmas.Simd.{get_or-replicate}
use Rattle.work_text.proofs.report.put_number.Goals as goal

-- the digits at the end of a room of spaces, and the space before them
spaced-word : (n start : ℕ) (room : List ℕ) → start + length (decimal n) ≡ 21 → length (decimal n) ≤ 20 → length room ≡ 21
    → drop start room ≡ decimal n ++ drop 21 (replicate 21 32) → take start room ≡ take start (replicate 21 32) → drop (start - 1) room ≡ 32 ∷ decimal n
spaced-word n start room whole short long written before =
    let i = start - 1 in
    let lt : i < start = omega (arith, whole, short) in
    let next : i + 1 ≡ start = omega (arith, whole, short) in
    let space : get_or room i 32 ≡ 32 =
    sym (get_or-take start room i 32 lt) ∙ (ap (λ l. get_or l i 32) before ∙ (get_or-take start (replicate 21 32) i 32 lt ∙ get_or-replicate 21 i 32 32 (omega (arith, whole, lt)))) in
    drop_more room i 32 (omega (arith, whole, lt, long))
    ∙ (ap (λ b. b ∷ drop (i + 1) room) space ∙ ap (λ l. 32 ∷ l) (ap (λ k. drop k room) next ∙ (written ∙ append-nil (decimal n))))

on-ok : {A E : Type 0} (r : Result A E) (old new piece word : List ℕ) → new ≡ (if is_ok r then old ++ piece else old) → piece ≡ word → OnOk r (new ≡ old ++ word)
on-ok (Ok v) old new piece word is same = is ∙ ap (λ l. old ++ l) same
on-ok (Err e) old new piece word is same = tt

pub write_digits-start-requires : goal.write_digits-start-requires
write_digits-start-requires c = (omega (arith, length-decimal-le 20 c.args.n (omega arith) (omega arith) c.ranges.n.fits), omega arith)

pub overflow_sub-start : goal.overflow_sub-start
overflow_sub-start c = omega (arith, length-decimal-le 20 c.args.n (omega arith) (omega arith) c.ranges.n.fits, c.write_digits-start.ensures.start)

pub returns : goal.returns
returns c =
    let n = c.args.n in
    let digits = c.write_digits-start in
    let short = length-decimal-le 20 n (omega arith) (omega arith) c.ranges.n.fits in
    let long : length digits.new.buf ≡ 21 = search rules in
    let piece = drop (digits.result - 1) digits.new.buf in
    let whole = take_all (21 - (digits.result - 1)) piece (omega (arith, length-drop (digits.result - 1) digits.new.buf, long)) in
    on-ok c.extend_from_slice.result c.args.text.now.items c.extend_from_slice.new.self.items (take (21 - (digits.result - 1)) piece) (32 ∷ decimal n) c.extend_from_slice.ensures.items
    (whole ∙ spaced-word n digits.result digits.new.buf digits.ensures.start short long digits.ensures.written digits.ensures.before)
