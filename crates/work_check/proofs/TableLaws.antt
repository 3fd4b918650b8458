-- Lines by their words.
use Rattle.std.proofs.Common.{ℕ, ◌≡◌, ◌<◌, ◌-◌, List, [], ◌∷◌, length, Bool, true, false, refl, sym, ap, ◌∙◌, arith}
use Rattle.std.specs.Prelude.{Option, Some, None, ltb, bytes_eq, codes, if◌then◌else◌, slice_get}
use Rattle.work_text.specs.LineLaws.{words_of-some}
use Rattle.work_check.specs.declared.table.NextReportLine.{NextReportLine}
use Rattle.work_check.specs.declared.table.NextReportLine.TheVariants.{Title, Rows, Words, After}
use Rattle.work_check.specs.Grammar.{Reading, words_left, above_last, step_by, one_word, one_row}

-- the words after one that isn't the last
pub some-left : (rest : List ℕ) → 0 < length rest → (w : List ℕ) × (ws : List (List ℕ)) × (words_left rest ≡ w ∷ ws)
some-left [] lt = absurd (omega arith)
some-left (b ∷ bs) lt = words_of-some bs

pub long-title : (d : Reading) (w v rest : List ℕ) → 0 < length rest → step_by Title d (w ∷ v ∷ words_left rest) ≡ None
long-title d w v rest lt = let s = some-left rest lt in ap (λ ws. step_by Title d (w ∷ v ∷ ws)) s.2

pub word-line : (d : Reading) (w rest : List ℕ) → 0 < length rest → step_by Words d (w ∷ words_left rest) ≡ one_word d (w ∷ words_left rest)
word-line d w rest lt = let s = some-left rest lt in ap (λ ws. step_by Words d (w ∷ ws)) s.2 ∙ ap (λ ws. one_word d (w ∷ ws)) (sym s.2)

by-mem : (d : Reading) (w : List ℕ) (ws : List (List ℕ)) (b : Bool) → bytes_eq w (codes "mem") ≡ b
    → (if bytes_eq w (codes "mem") then one_word d (w ∷ ws) else one_row d (w ∷ ws))
    ≡ (if b then one_word d (w ∷ ws) else one_row d (w ∷ ws))
by-mem d w ws b e = ap (λ c. if c then one_word d (w ∷ ws) else one_row d (w ∷ ws)) e

pub mem-line : (d : Reading) (w rest : List ℕ) → 0 < length rest → bytes_eq w (codes "mem") ≡ true → step_by Rows d (w ∷ words_left rest) ≡ one_word d (w ∷ words_left rest)
mem-line d w rest lt is = let s = some-left rest lt in ap (λ ws. step_by Rows d (w ∷ ws)) s.2 ∙ (by-mem d w (s.0 ∷ s.1) true is ∙ ap (λ ws. one_word d (w ∷ ws)) (sym s.2))

pub row-line : (d : Reading) (w rest : List ℕ) → 0 < length rest → bytes_eq w (codes "mem") ≡ false → step_by Rows d (w ∷ words_left rest) ≡ one_row d (w ∷ words_left rest)
row-line d w rest lt is = let s = some-left rest lt in ap (λ ws. step_by Rows d (w ∷ ws)) s.2 ∙ (by-mem d w (s.0 ∷ s.1) false is ∙ ap (λ ws. one_row d (w ∷ ws)) (sym s.2))

get-last : (p : ℕ × ℕ) (ps : List (ℕ × ℕ)) (q : ℕ × ℕ) (a : ℕ) → Some q ≡ slice_get (p ∷ ps) (length ps) → above_last (p ∷ ps) a ≡ ltb q.0 a
get-last p [] q a h = ap (λ (x : ℕ × ℕ). ltb x.0 a) (some-same p q (sym h))
  where
    some-same : (x y : ℕ × ℕ) → (let o : Option (ℕ × ℕ) = Some x in o) ≡ Some y → x ≡ y
    some-same x y h = cc
get-last p (r ∷ ps) q a h = get-last r ps q a h

pub above-by : (ps : List (ℕ × ℕ)) (q : ℕ × ℕ) (a : ℕ) → Some q ≡ slice_get ps (length ps - 1) → above_last ps a ≡ ltb q.0 a
above-by [] q a h = absurd cc
above-by (p ∷ ps) q a h = get-last p ps q a (h ∙ ap (slice_get (p ∷ ps)) (let e : length (p ∷ ps) - 1 ≡ length ps = omega arith in e))

pub rows-place : (p : NextReportLine) → (p ≡ Title → ⊥) → (p ≡ After → ⊥) → (p ≡ Words → ⊥) → p ≡ Rows
rows-place Title t b w = absurd (t refl)
rows-place Rows t b w = refl
rows-place Words t b w = absurd (w refl)
rows-place After t b w = absurd (b refl)
