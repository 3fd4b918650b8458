-- The words that name a part, cut at their dots and commas.
use Rattle.std.proofs.Common.{ℕ, zero, suc, ◌≡◌, List, [], ◌∷◌, take, drop, true, false, refl, ap, ◌∙◌, arith}
use Rattle.std.specs.Prelude.{◌==◌, Option, Some, None}
use Rattle.std.proofs.lemmas.Bool.Decides.{nat_tests}
use Rattle.work_text.specs.Lines.{with_letter, Lacks}
use Rattle.work_check.specs.Grammar.{◌>>=◌}
use Rattle.draw_pictures.specs.declared.part.Callers.{Callers}
use Rattle.draw_core.specs.Chosen.{cut_at, dotted, lines_in, parted_by, with_first, with_word, with_words}

cut-none : (mark : ℕ) (s : List ℕ) → Lacks mark s → cut_at mark s ≡ None
cut-none mark [] lacks = refl
cut-none mark (b ∷ bs) lacks =
    let other = lacks.0 in
    let t : (b == mark) ≡ false = grind (arith, nat_tests) in
    rw t (ap (with_first b) (cut-none mark bs lacks.1))

cut-some : (mark : ℕ) (s rest : List ℕ) (i : ℕ) → Lacks mark (take i s) → drop i s ≡ mark ∷ rest → cut_at mark s ≡ Some (take i s, rest)
cut-some mark [] rest zero lacks at = absurd cc
cut-some mark [] rest (suc i) lacks at = absurd cc
cut-some mark (b ∷ bs) rest zero lacks at =
    let same : b ≡ mark = cc in
    let later : bs ≡ rest = cc in
    let t : (b == mark) ≡ true = grind (arith, nat_tests) in
    rw t (ap (λ (l : List ℕ). (let p : Option (List ℕ × List ℕ) = Some ([], l) in p)) later)
cut-some mark (b ∷ bs) rest (suc i) lacks at =
    let other = lacks.0 in
    let t : (b == mark) ≡ false = grind (arith, nat_tests) in
    rw t (ap (with_first b) (cut-some mark bs rest i lacks.1 at))

parted-none : (mark : ℕ) (s : List ℕ) → Lacks mark s → parted_by mark s ≡ s ∷ []
parted-none mark [] lacks = refl
parted-none mark (b ∷ bs) lacks =
    let other = lacks.0 in
    let t : (b == mark) ≡ false = grind (arith, nat_tests) in
    rw t (ap (with_letter b) (parted-none mark bs lacks.1))

parted-some : (mark : ℕ) (s rest : List ℕ) (i : ℕ) → Lacks mark (take i s) → drop i s ≡ mark ∷ rest → parted_by mark s ≡ take i s ∷ parted_by mark rest
parted-some mark [] rest zero lacks at = absurd cc
parted-some mark [] rest (suc i) lacks at = absurd cc
parted-some mark (b ∷ bs) rest zero lacks at =
    let same : b ≡ mark = cc in
    let later : bs ≡ rest = cc in
    let t : (b == mark) ≡ true = grind (arith, nat_tests) in
    rw t (ap (λ (l : List ℕ). [] ∷ parted_by mark l) later)
parted-some mark (b ∷ bs) rest (suc i) lacks at =
    let other = lacks.0 in
    let t : (b == mark) ≡ false = grind (arith, nat_tests) in
    rw t (ap (with_letter b) (parted-some mark bs rest i lacks.1 at))

pub lines-none : (s : List ℕ) → Lacks 46 s → lines_in s ≡ None
lines-none s lacks = ap (λ (o : Option (List ℕ × List ℕ)). o >>= λ p. dotted p.0 p.1) (cut-none 46 s lacks)

pub lines-some : (s rest : List ℕ) (i : ℕ) → Lacks 46 (take i s) → drop i s ≡ 46 ∷ rest → lines_in s ≡ dotted (take i s) rest
lines-some s rest i lacks at = ap (λ (o : Option (List ℕ × List ℕ)). o >>= λ p. dotted p.0 p.1) (cut-some 46 s rest i lacks at)

pub words-more : (cs : Callers) (s rest : List ℕ) (i : ℕ) → Lacks 44 (take i s) → drop i s ≡ 44 ∷ rest
    → with_words cs (parted_by 44 s) ≡ (with_word cs (take i s) >>= λ more. with_words more (parted_by 44 rest))
words-more cs s rest i lacks at = ap (with_words cs) (parted-some 44 s rest i lacks at)

last-by : (o : Option Callers) → (o >>= λ more. with_words more []) ≡ o
last-by None = refl
last-by (Some cs) = refl

pub words-last : (cs : Callers) (s : List ℕ) → Lacks 44 s → with_words cs (parted_by 44 s) ≡ with_word cs s
words-last cs s lacks = ap (with_words cs) (parted-none 44 s lacks) ∙ last-by (with_word cs s)
