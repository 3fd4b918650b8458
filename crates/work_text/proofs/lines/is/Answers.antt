use Rattle.std.proofs.Common.{rules, ◌≡◌, ◌≢◌, ◌+◌, ◌++◌, ◌∷◌, [], List, ℕ, Bool, true, false, refl, sym, ap, ◌∙◌, length, take, get_or, add-one, arith}
use Rattle.std.specs.Prelude.{bytes_eq}
use Rattle.std.proofs.lemmas.List.{take_all}
use Rattle.std.proofs.lemmas.Slice.Eq.{bytes_eq-Decides}
use Rattle.std.proofs.Math.Seq.{take-suc}
use Rattle.work_text.proofs.lines.is.Goals as goal

other : (v : Bool) → (v ≡ true → ⊥) → false ≡ v
other false h = refl
other true h = absurd (h refl)

-- lists that are not one differ for the test
apart : (xs ys : List ℕ) → (xs ≡ ys → ⊥) → false ≡ bytes_eq xs ys
apart xs ys h = other (bytes_eq xs ys) (λ e. h ((bytes_eq-Decides xs ys).0 e))

pub returns-then-word-name : goal.returns-then-word-name
returns-then-word-name c =
    let word = c.args.word.now in
    let name = c.args.name.now in
    let ne : length word ≢ length name = search rules in
    apart word name (λ e. ne (ap length e))

pub returns-then-found-wanted : goal.returns-then-found-wanted
returns-then-found-wanted c =
    let word = c.args.word.now in
    let name = c.args.name.now in
    let ne : get_or word c.loop-i.i 0 ≢ get_or name c.loop-i.i 0 = search rules in
    apart word name (λ e. ne (ap (λ (l : List ℕ). get_or l c.loop-i.i 0) e))

pub loop-i-preserved : goal.loop-i-preserved
loop-i-preserved c =
    let word = c.args.word.now in
    let name = c.args.name.now in
    let i = c.loop-i.i in
    let w : take (i + 1) word ≡ take i word ++ get_or word i 0 ∷ [] = rw add-one (take-suc word i 0 (omega arith)) in
    let n : take (i + 1) name ≡ take i name ++ get_or name i 0 ∷ [] = rw add-one (take-suc name i 0 (omega arith)) in
    let same : get_or word i 0 ≡ get_or name i 0 = search rules in
    cc

pub returns : goal.returns
returns c =
    let word = c.args.word.now in
    let name = c.args.name.now in
    let i = c.loop-i.i in
    let w : take i word ≡ word = take_all i word (omega arith) in
    let n : take i name ≡ name = take_all i name (omega arith) in
    let prefix : take i word ≡ take i name = c.loop-i.invariant in
    sym ((bytes_eq-Decides word name).1 (sym w ∙ (prefix ∙ n)))
