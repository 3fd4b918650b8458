-- One report per text.
use Rattle.std.proofs.Common.{ℕ, ◌≡◌, ◌<◌, ◌≤◌, ◌^◌, List, [], ◌∷◌, ◌++◌, refl, sym, ap, ◌∙◌, subst, arith, append_assoc}
use Rattle.std.specs.Prelude.{All, codes}
use Rattle.std.specs.Fmt.{decimal}
use Rattle.std.proofs.lemmas.List.Elements.{All-head, All-tail, All-cons, All-nil}
use Rattle.work_script.specs.declared.report.Kind.{Kind}
use Rattle.work_script.specs.declared.report.Kind.TheVariants.{W, R, C}
use Rattle.work_script.specs.declared.report.Row.{Row}
use Rattle.work_script.specs.declared.report.Report.{Report}
use Rattle.work_text.specs.Reports.{spaced, emitted, letter_of, row_line, row_lines, memory_lines, report_bytes, IsWord, RowFits, ReportFits}
use Rattle.work_text.specs.Decimals.{IsDigit, NoDigit, StartsDigit, digits-decimal, decimal-cut, head-same}

-- no number follows: neither a digit nor a space and then a digit
abbrev NoNumber : List ℕ → Type 0
NoNumber [] = Unit {0}
NoNumber (b ∷ x) = (IsDigit b → ⊥) × (b ≡ 32 → NoDigit x)

no-digit : (x : List ℕ) → NoNumber x → NoDigit x
no-digit [] h = tt
no-digit (b ∷ x) h = h.0

spaced-no_digit : (ns x : List ℕ) → NoNumber x → NoDigit (spaced ns ++ x)
spaced-no_digit [] x h = no-digit x h
spaced-no_digit (n ∷ ns) x h = λ d. let low = d.0 in absurd (omega arith)

clash-digit : (ds u x : List ℕ) → StartsDigit ds → NoDigit x → x ≡ ds ++ u → ⊥
clash-digit [] u x s free e = absurd s
clash-digit (d ∷ ds) u [] s free e = cc
clash-digit (d ∷ ds) u (b ∷ x) s free e = free (subst IsDigit (sym (head-same b d x (ds ++ u) e).0) s)

-- numbers don't start where no number follows
clash : (n : ℕ) (u x : List ℕ) → n < 2 ^ 64 → NoNumber x → x ≡ 32 ∷ (decimal n ++ u) → ⊥
clash n u [] lt h is = cc
clash n u (b ∷ x) lt h is =
    let two = head-same b 32 x (decimal n ++ u) is in clash-digit (decimal n) u x (digits-decimal n lt).1 (h.1 two.0) two.1

spaced-first : (n : ℕ) (ns x : List ℕ) → spaced (n ∷ ns) ++ x ≡ 32 ∷ (decimal n ++ (spaced ns ++ x))
spaced-first n ns x = ap (λ t. 32 ∷ t) (append_assoc (decimal n) (spaced ns) x)

-- a list of numbers is read back, where no number follows
spaced-cut : (ms ns x y : List ℕ) → All IsWord ms → All IsWord ns → NoNumber x → NoNumber y → spaced ms ++ x ≡ spaced ns ++ y → (ms ≡ ns) × (x ≡ y)
spaced-cut [] [] x y am an nx ny is = (refl, is)
spaced-cut [] (n ∷ ns) x y am an nx ny is =
    absurd (clash n (spaced ns ++ y) x (All-head IsWord n ns an) nx (is ∙ spaced-first n ns y))
spaced-cut (m ∷ ms) [] x y am an nx ny is =
    absurd (clash m (spaced ms ++ x) y (All-head IsWord m ms am) ny (sym is ∙ spaced-first m ms x))
spaced-cut (m ∷ ms) (n ∷ ns) x y am an nx ny is =
    let whole : 32 ∷ (decimal m ++ (spaced ms ++ x)) ≡ 32 ∷ (decimal n ++ (spaced ns ++ y)) = sym (spaced-first m ms x) ∙ (is ∙ spaced-first n ns y) in
    let tails = (head-same 32 32 (decimal m ++ (spaced ms ++ x)) (decimal n ++ (spaced ns ++ y)) whole).1 in
    let first = decimal-cut m n (spaced ms ++ x) (spaced ns ++ y) (All-head IsWord m ms am) (All-head IsWord n ns an) (spaced-no_digit ms x nx) (spaced-no_digit ns y ny) tails in
    let rest = spaced-cut ms ns x y (All-tail IsWord m ms am) (All-tail IsWord n ns an) nx ny first.1 in
    (ap (λ k. k ∷ ms) first.0 ∙ ap (λ t. n ∷ t) rest.0, rest.1)

line-end : (x : List ℕ) → NoNumber (10 ∷ x)
line-end x = (λ d. let low = d.0 in absurd (omega arith), λ e. absurd (omega arith))

emitted-end : (es x : List ℕ) → NoNumber (emitted es ++ 10 ∷ x)
emitted-end [] x = line-end x
emitted-end (e ∷ es) x = (λ d. let low = d.0 in absurd (omega arith), λ e d. let low = d.0 in absurd (omega arith))

emitted-cut : (es fs x y : List ℕ) → All IsWord es → All IsWord fs → emitted es ++ 10 ∷ x ≡ emitted fs ++ 10 ∷ y → (es ≡ fs) × (x ≡ y)
emitted-cut [] [] x y ae af is = (refl, (head-same 10 10 x y is).1)
emitted-cut [] (f ∷ fs) x y ae af is =
    let first = (head-same 10 32 x (33 ∷ (spaced (f ∷ fs) ++ 10 ∷ y)) is).0 in absurd (omega arith)
emitted-cut (e ∷ es) [] x y ae af is =
    let first = (head-same 32 10 (33 ∷ (spaced (e ∷ es) ++ 10 ∷ x)) y is).0 in absurd (omega arith)
emitted-cut (e ∷ es) (f ∷ fs) x y ae af is =
    let one = (head-same 32 32 (33 ∷ (spaced (e ∷ es) ++ 10 ∷ x)) (33 ∷ (spaced (f ∷ fs) ++ 10 ∷ y)) is).1 in
    let two = (head-same 33 33 (spaced (e ∷ es) ++ 10 ∷ x) (spaced (f ∷ fs) ++ 10 ∷ y) one).1 in
    let rest = spaced-cut (e ∷ es) (f ∷ fs) (10 ∷ x) (10 ∷ y) ae af (line-end x) (line-end y) two in
    (rest.0, (head-same 10 10 x y rest.1).1)

letter-cut : (k j : Kind) (u v : List ℕ) → letter_of k ++ u ≡ letter_of j ++ v → (k ≡ j) × (u ≡ v)
letter-cut W W u v is = (refl, (head-same 87 87 u v is).1)
letter-cut W R u v is = let first = (head-same 87 82 u v is).0 in absurd (omega arith)
letter-cut W C u v is = let first = (head-same 87 67 u v is).0 in absurd (omega arith)
letter-cut R W u v is = let first = (head-same 82 87 u v is).0 in absurd (omega arith)
letter-cut R R u v is = (refl, (head-same 82 82 u v is).1)
letter-cut R C u v is = let first = (head-same 82 67 u v is).0 in absurd (omega arith)
letter-cut C W u v is = let first = (head-same 67 87 u v is).0 in absurd (omega arith)
letter-cut C R u v is = let first = (head-same 67 82 u v is).0 in absurd (omega arith)
letter-cut C C u v is = (refl, (head-same 67 67 u v is).1)

regroup : (l s c t u v x : List ℕ) → (l ++ (s ++ (c ++ (t ++ (u ++ v))))) ++ x ≡ l ++ (s ++ (c ++ (t ++ (u ++ (v ++ x)))))
regroup l s c t u v x = simp append_assoc

-- what a row's line is, before a text
row-first : (r : Row) (x : List ℕ) → row_line r ++ x ≡ letter_of r.kind ++ (spaced (r.place ∷ r.caller ∷ r.seq ∷ []) ++ (32 ∷ 58 ∷ (spaced r.replies ++ (emitted r.emits ++ 10 ∷ x))))
row-first r x =
    regroup (letter_of r.kind) (spaced (r.place ∷ r.caller ∷ r.seq ∷ [])) (codes " :") (spaced r.replies) (emitted r.emits) (10 ∷ []) x

row-same : (k k' : Kind) (p p' c c' s s' : ℕ) (r r' e e' : List ℕ) → k ≡ k' → p ∷ c ∷ s ∷ [] ≡ p' ∷ c' ∷ s' ∷ [] → r ≡ r' → e ≡ e'
    → (let row : Row = record { kind = k; place = p; caller = c; seq = s; replies = r; emits = e } in row) ≡ record { kind = k'; place = p'; caller = c'; seq = s'; replies = r'; emits = e' }
row-same k k' p p' c c' s s' r r' e e' h1 h2 h3 h4 = cc

colon-end : (x : List ℕ) → NoNumber (32 ∷ 58 ∷ x)
colon-end x = (λ d. let low = d.0 in absurd (omega arith), λ e d. let high = d.1 in absurd (omega arith))

three-words : (a b c : ℕ) → IsWord a → IsWord b → IsWord c → All IsWord (a ∷ b ∷ c ∷ [])
three-words a b c ha hb hc =
    All-cons IsWord a (b ∷ c ∷ []) ha (All-cons IsWord b (c ∷ []) hb (All-cons IsWord c [] hc (All-nil IsWord)))

-- a row is read back from its line
row-cut : (r s : Row) (x y : List ℕ) → RowFits r → RowFits s → row_line r ++ x ≡ row_line s ++ y → (r ≡ s) × (x ≡ y)
row-cut r s x y fr fs is =
    let rx : List ℕ = emitted r.emits ++ 10 ∷ x in
    let sy : List ℕ = emitted s.emits ++ 10 ∷ y in
    let rn : List ℕ = r.place ∷ r.caller ∷ r.seq ∷ [] in
    let sn : List ℕ = s.place ∷ s.caller ∷ s.seq ∷ [] in
    let rt : List ℕ = spaced r.replies ++ rx in
    let st : List ℕ = spaced s.replies ++ sy in
    let whole = sym (row-first r x) ∙ (is ∙ row-first s y) in
    let letter = letter-cut r.kind s.kind (spaced rn ++ (32 ∷ 58 ∷ rt)) (spaced sn ++ (32 ∷ 58 ∷ st)) whole in
    let numbers = spaced-cut rn sn (32 ∷ 58 ∷ rt) (32 ∷ 58 ∷ st) (three-words r.place r.caller r.seq fr.place fr.caller fr.seq)
    (three-words s.place s.caller s.seq fs.place fs.caller fs.seq) (colon-end rt) (colon-end st) letter.1 in
    let colon = (head-same 58 58 rt st (head-same 32 32 (58 ∷ rt) (58 ∷ st) numbers.1).1).1 in
    let replies = spaced-cut r.replies s.replies rx sy fr.replies fs.replies (emitted-end r.emits x) (emitted-end s.emits y) colon in
    let emits = emitted-cut r.emits s.emits x y fr.emits fs.emits replies.1 in
    (row-same r.kind s.kind r.place s.place r.caller s.caller r.seq s.seq r.replies s.replies r.emits s.emits letter.0 numbers.0 replies.0 emits.0, emits.1)

-- the text goes on with a small letter, and so with no row
abbrev NoRow : List ℕ → Type 0
NoRow [] = Unit {0}
NoRow (b ∷ x) = 97 ≤ b

row-first_letter : (k : Kind) (u x : List ℕ) → NoRow x → x ≡ letter_of k ++ u → ⊥
row-first_letter k u [] low is = no-letter k u is
  where
    no-letter : (k : Kind) (u : List ℕ) → [] ≡ letter_of k ++ u → ⊥
    no-letter W u is = cc
    no-letter R u is = cc
    no-letter C u is = cc
row-first_letter W u (b ∷ x) low is = let first = (head-same b 87 x u is).0 in absurd (omega arith)
row-first_letter R u (b ∷ x) low is = let first = (head-same b 82 x u is).0 in absurd (omega arith)
row-first_letter C u (b ∷ x) low is = let first = (head-same b 67 x u is).0 in absurd (omega arith)

rows-first : (r : Row) (rs : List Row) (x : List ℕ) → row_lines (r ∷ rs) ++ x ≡ row_line r ++ (row_lines rs ++ x)
rows-first r rs x = append_assoc (row_line r) (row_lines rs) x

no-row : (r : Row) (rs : List Row) (x y : List ℕ) → NoRow x → x ≡ row_lines (r ∷ rs) ++ y → ⊥
no-row r rs x y low is =
    row-first_letter r.kind (spaced (r.place ∷ r.caller ∷ r.seq ∷ []) ++ (32 ∷ 58 ∷ (spaced r.replies ++ (emitted r.emits ++ 10 ∷ (row_lines rs ++ y))))) x low
    (is ∙ (rows-first r rs y ∙ row-first r (row_lines rs ++ y)))

-- the rows are read back from their lines
rows-cut : (rs ss : List Row) (x y : List ℕ) → All RowFits rs → All RowFits ss → NoRow x → NoRow y → row_lines rs ++ x ≡ row_lines ss ++ y → (rs ≡ ss) × (x ≡ y)
rows-cut [] [] x y ar as' nx ny is = (refl, is)
rows-cut [] (s ∷ ss) x y ar as' nx ny is = absurd (no-row s ss x y nx is)
rows-cut (r ∷ rs) [] x y ar as' nx ny is = absurd (no-row r rs y x ny (sym is))
rows-cut (r ∷ rs) (s ∷ ss) x y ar as' nx ny is =
    let whole = sym (rows-first r rs x) ∙ (is ∙ rows-first s ss y) in
    let first = row-cut r s (row_lines rs ++ x) (row_lines ss ++ y) (All-head RowFits r rs ar) (All-head RowFits s ss as') whole in
    let rest = rows-cut rs ss x y (All-tail RowFits r rs ar) (All-tail RowFits s ss as') nx ny first.1 in
    (ap (λ k. k ∷ rs) first.0 ∙ ap (λ t. s ∷ t) rest.0, rest.1)

abbrev WordsFit : ℕ × ℕ → Type 0
WordsFit p = IsWord p.0 × IsWord p.1

two-words : (p : ℕ × ℕ) → WordsFit p → All IsWord (p.0 ∷ p.1 ∷ [])
two-words p h = All-cons IsWord p.0 (p.1 ∷ []) h.0 (All-cons IsWord p.1 [] h.1 (All-nil IsWord))

memory-group : (m s v x y : List ℕ) → ((m ++ (s ++ v)) ++ x) ++ y ≡ m ++ (s ++ (v ++ (x ++ y)))
memory-group m s v x y = simp append_assoc

memory-first : (p : ℕ × ℕ) (ps : List (ℕ × ℕ)) (x : List ℕ) → memory_lines (p ∷ ps) ++ x ≡ codes "mem" ++ (spaced (p.0 ∷ p.1 ∷ []) ++ (10 ∷ (memory_lines ps ++ x)))
memory-first p ps x = memory-group (codes "mem") (spaced (p.0 ∷ p.1 ∷ [])) (10 ∷ []) (memory_lines ps) x

pair-same : (p q : ℕ × ℕ) → p.0 ∷ p.1 ∷ [] ≡ q.0 ∷ q.1 ∷ [] → p ≡ q
pair-same p q is = pair-by p.0 p.1 q.0 q.1 is
  where
    pair-by : (a b c d : ℕ) → a ∷ b ∷ [] ≡ c ∷ d ∷ [] → (let one : ℕ × ℕ = (a, b) in one) ≡ (c, d)
    pair-by a b c d is = cc

-- the memory is read back from its lines
memory-cut : (ps qs : List (ℕ × ℕ)) → All WordsFit ps → All WordsFit qs → memory_lines ps ++ codes "end\n" ≡ memory_lines qs ++ codes "end\n" → ps ≡ qs
memory-cut [] [] ap' aq is = refl
memory-cut [] (q ∷ qs) ap' aq is = cc (is ∙ memory-first q qs (codes "end\n"))
memory-cut (p ∷ ps) [] ap' aq is = cc (sym is ∙ memory-first p ps (codes "end\n"))
memory-cut (p ∷ ps) (q ∷ qs) ap' aq is =
    let x : List ℕ = 10 ∷ (memory_lines ps ++ codes "end\n") in
    let y : List ℕ = 10 ∷ (memory_lines qs ++ codes "end\n") in
    let pn : List ℕ = p.0 ∷ p.1 ∷ [] in
    let qn : List ℕ = q.0 ∷ q.1 ∷ [] in
    let whole = sym (memory-first p ps (codes "end\n")) ∙ (is ∙ memory-first q qs (codes "end\n")) in
    let words = spaced-cut pn qn x y (two-words p (All-head WordsFit p ps ap')) (two-words q (All-head WordsFit q qs aq)) (line-end (memory_lines ps ++ codes "end\n")) (line-end (memory_lines qs ++ codes "end\n"))
    (after-mem (spaced pn ++ x) (spaced qn ++ y) whole) in
    let rest = memory-cut ps qs (All-tail WordsFit p ps ap') (All-tail WordsFit q qs aq) (head-same 10 10 (memory_lines ps ++ codes "end\n") (memory_lines qs ++ codes "end\n") words.1).1 in
    ap (λ k. k ∷ ps) (pair-same p q words.0) ∙ ap (λ t. q ∷ t) rest
  where
    after-mem : (u v : List ℕ) → codes "mem" ++ u ≡ codes "mem" ++ v → u ≡ v
    after-mem u v is = cc

report-same : (rows rows' : List Row) (memory memory' : List (ℕ × ℕ)) → rows ≡ rows' → memory ≡ memory'
    → (let report : Report = record { rows = rows; memory = memory } in report) ≡ record { rows = rows'; memory = memory' }
report-same rows rows' memory memory' h g = cc

memory-low : (ps : List (ℕ × ℕ)) → NoRow (memory_lines ps ++ codes "end\n")
memory-low [] = omega arith
memory-low (p ∷ ps) = omega arith

after-title : (u v : List ℕ) → codes "report 1\n" ++ u ≡ codes "report 1\n" ++ v → u ≡ v
after-title u v is = cc

-- two reports of one text are the same
pub report_bytes-injective : (r s : Report) → ReportFits r → ReportFits s → report_bytes r ≡ report_bytes s → r ≡ s
report_bytes-injective r s fr fs is =
    let body = after-title (row_lines r.rows ++ (memory_lines r.memory ++ codes "end\n")) (row_lines s.rows ++ (memory_lines s.memory ++ codes "end\n")) is in
    let rows = rows-cut r.rows s.rows (memory_lines r.memory ++ codes "end\n") (memory_lines s.memory ++ codes "end\n") fr.rows fs.rows (memory-low r.memory) (memory-low s.memory) body in
    report-same r.rows s.rows r.memory s.memory rows.0 (memory-cut r.memory s.memory fr.memory fs.memory rows.1)
