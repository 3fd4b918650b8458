-- A text that is read as a report is the text of that report.
use Rattle.std.proofs.Common.{ℕ, ◌≡◌, ◌<◌, ◌≤◌, ◌+◌, List, [], ◌∷◌, ◌++◌, Bool, true, false, Result, Ok, Err, refl, sym, ap, subst, ◌∙◌, arith, length, append_assoc, append-nil}
use Rattle.std.specs.Prelude.{Option, Some, None, if◌then◌else◌, ltb, codes, bytes_eq, All}
use Rattle.std.specs.Fmt.{decimal}
use Rattle.std.proofs.lemmas.Bool.Decides.{nat_tests}
use Rattle.std.proofs.lemmas.List.Elements.{All-nil, All-cons, All-push}
use Rattle.std.proofs.lemmas.Slice.Eq.{bytes_eq-Decides}
use Rattle.work_script.specs.declared.report.Kind.{Kind}
use Rattle.work_script.specs.declared.report.Kind.TheVariants.{W, R, C}
use Rattle.work_script.specs.declared.report.Report.{Report}
use Rattle.work_script.specs.declared.report.Row.{Row}
use Rattle.work_text.specs.declared.code.TheConstants.{UNENDED, LONG_REPORT}
use Rattle.work_text.specs.Lines.{Line, lines_of, words_of, number_of}
use Rattle.work_text.specs.Reports.{letter_of, row_line, row_lines, memory_line, memory_lines, report_bytes, IsWord, RowFits}
use Rattle.work_text.specs.Texts.{line}
use Rattle.work_text.proofs.Giving.{Gives, gives-with, given}
use Rattle.work_text.proofs.Numbers.{Fits64, number_of-fits, number_of-says}
use Rattle.work_text.specs.WordLaws.{joined-words_of, end_of, unlines, unlines-lines_of}
use Rattle.work_check.specs.declared.reading.TheConstants.{MAX_REPORT}
use Rattle.work_check.specs.declared.table.NextReportLine.{NextReportLine}
use Rattle.work_check.specs.declared.table.NextReportLine.TheVariants.{Title, Rows, Words, After}
use Rattle.work_check.specs.Grammar.{◌>>=◌, named, kind_of, numbers_of, emits_of, outputs_of, row_of, memory_word_of, Reading, opening, above_last, told, added, one_word, one_row, ended, step_by, line_by, line_of, whole_by, finished, go_on, read, report_of}
use Rattle.work_check.specs.Texts.{IsAscending, IsReadable}
use Rattle.work_check.proofs.TextLaws.{decimals, emit_words, output_words, row_words, memory_words, row_line-words, memory_line-words, WordsFit, NotZero}

-- what an answer says, where there is one
abbrev Says : {A : Type 0} → (A → Type 0) → Option A → Type 0
Says P None = Unit {0}
Says P (Some a) = P a

then-says : {A B : Type 0} (P : A → Type 0) (Q : B → Type 0) (o : Option A) (next : A → Option B) → Says P o → ((a : A) → P a → Says Q (next a)) → Says Q (o >>= next)
then-says P Q None next h g = tt
then-says P Q (Some a) next h g = g a h

if-says : {A : Type 0} (P : A → Type 0) (b : Bool) (x y : Option A) → (b ≡ true → Says P x) → Says P y → Says P (if b then x else y)
if-says P true x y h g = h refl
if-says P false x y h g = g

word-says : {A : Type 0} (P : A → Type 0) (name w : List ℕ) (x y : Option A) → (w ≡ name → Says P x) → Says P y → Says P (if bytes_eq w name then x else y)
word-says P name w x y h g = if-says P (bytes_eq w name) x y (λ e. h ((bytes_eq-Decides w name).0 e)) g

named-says : {A : Type 0} (P : A → Type 0) (name w : List ℕ) (rest : Option A) → (w ≡ name → Says P rest) → Says P (named name w rest)
named-says P name w rest h = word-says P name w rest None h tt

-- numbers

abbrev IsNumber : List ℕ → ℕ → Type 0
IsNumber w n = (w ≡ decimal n) × IsWord n

number-by : (w : List ℕ) (o : Option ℕ) → ((n : ℕ) → o ≡ Some n → w ≡ decimal n) → Fits64 o → Says (IsNumber w) o
number-by w None h fits = tt
number-by w (Some n) h fits = (h n refl, fits)

number-says : (w : List ℕ) → Says (IsNumber w) (number_of w)
number-says w = number-by w (number_of w) (λ n is. number_of-says n w is) (number_of-fits w)

abbrev AreNumbers : List (List ℕ) → List ℕ → Type 0
AreNumbers ws ns = (ws ≡ decimals ns) × All IsWord ns

cons-same : (w v : List ℕ) (ws vs : List (List ℕ)) → w ≡ v → ws ≡ vs → w ∷ ws ≡ v ∷ vs
cons-same w v ws vs p q = cc

numbers-say : (ws : List (List ℕ)) → Says (AreNumbers ws) (numbers_of ws)
numbers-say [] = (refl, All-nil IsWord)
numbers-say (w ∷ ws) =
    then-says (IsNumber w) (AreNumbers (w ∷ ws)) (number_of w) (λ n. numbers_of ws >>= λ ns. Some (n ∷ ns)) (number-says w)
    (λ n h. then-says (AreNumbers ws) (AreNumbers (w ∷ ws)) (numbers_of ws) (λ ns. Some (n ∷ ns)) (numbers-say ws)
    (λ ns g. (cons-same w (decimal n) ws (decimals ns) h.0 g.0, All-cons IsWord n ns h.1 g.1)))

abbrev AreEmits : List (List ℕ) → List ℕ → Type 0
AreEmits ws es = (codes "!" ∷ ws ≡ emit_words es) × All IsWord es

some-emits : (w : List ℕ) (ws : List (List ℕ)) (es : List ℕ) → AreNumbers (w ∷ ws) es → AreEmits (w ∷ ws) es
some-emits w ws [] h = absurd (no-words w ws h.0)
  where
    no-words : (w : List ℕ) (ws : List (List ℕ)) → w ∷ ws ≡ [] → ⊥
    no-words w ws e = cc
some-emits w ws (e ∷ es) h = (ap (λ x. codes "!" ∷ x) h.0, h.1)

says-with : {A : Type 0} (P Q : A → Type 0) (o : Option A) → Says P o → ((a : A) → P a → Q a) → Says Q o
says-with P Q None h g = tt
says-with P Q (Some a) h g = g a h

emits-say : (ws : List (List ℕ)) → Says (AreEmits ws) (emits_of ws)
emits-say [] = tt
emits-say (w ∷ ws) = says-with (AreNumbers (w ∷ ws)) (AreEmits (w ∷ ws)) (numbers_of (w ∷ ws)) (numbers-say (w ∷ ws)) (some-emits w ws)

abbrev AreOutputs : List (List ℕ) → List ℕ × List ℕ → Type 0
AreOutputs ws o = (ws ≡ output_words o.0 o.1) × All IsWord o.0 × All IsWord o.1

outputs-say : (ws : List (List ℕ)) → Says (AreOutputs ws) (outputs_of ws)
outputs-say [] = (refl, All-nil IsWord, All-nil IsWord)
outputs-say (w ∷ ws) =
    word-says (AreOutputs (w ∷ ws)) (codes "!") w (emits_of ws >>= λ es. Some ([], es)) (number_of w >>= λ n. outputs_of ws >>= λ o. Some (n ∷ o.0, o.1))
    (λ e. then-says (AreEmits ws) (AreOutputs (w ∷ ws)) (emits_of ws) (λ es. Some ([], es)) (emits-say ws) (λ es h. (ap (λ x. x ∷ ws) e ∙ h.0, All-nil IsWord, h.1)))
    (then-says (IsNumber w) (AreOutputs (w ∷ ws)) (number_of w) (λ n. outputs_of ws >>= λ o. Some (n ∷ o.0, o.1)) (number-says w)
    (λ n h. then-says (AreOutputs ws) (AreOutputs (w ∷ ws)) (outputs_of ws) (λ o. Some (n ∷ o.0, o.1)) (outputs-say ws)
    (λ o g. (cons-same w (decimal n) ws (output_words o.0 o.1) h.0 g.0, All-cons IsWord n o.0 h.1 g.1, g.2))))

kind-says : (w : List ℕ) → Says (λ k. w ≡ letter_of k) (kind_of w)
kind-says w =
    let P : Kind → Type 0 = λ k. w ≡ letter_of k in
    word-says P (codes "W") w (Some W) (if bytes_eq w (codes "R") then Some R else named (codes "C") w (Some C)) (λ e. e)
    (word-says P (codes "R") w (Some R) (named (codes "C") w (Some C)) (λ e. e) (named-says P (codes "C") w (Some C) (λ e. e)))

-- rows and words of the memory

abbrev IsRow : List (List ℕ) → Row → Type 0
IsRow ws r = (ws ≡ row_words r) × RowFits r

five-same : (a b c d e a' b' c' d' e' : List ℕ) (ws ws' : List (List ℕ)) → a ≡ a' → b ≡ b' → c ≡ c' → d ≡ d' → e ≡ e' → ws ≡ ws' → a ∷ b ∷ c ∷ d ∷ e ∷ ws ≡ a' ∷ b' ∷ c' ∷ d' ∷ e' ∷ ws'
five-same a b c d e a' b' c' d' e' ws ws' p q r s t u = cc

row-says : (ws : List (List ℕ)) → Says (IsRow ws) (row_of ws)
row-says [] = tt
row-says (k ∷ []) = tt
row-says (k ∷ p ∷ []) = tt
row-says (k ∷ p ∷ c ∷ []) = tt
row-says (k ∷ p ∷ c ∷ s ∷ []) = tt
row-says (k ∷ p ∷ c ∷ s ∷ colon ∷ ws) =
    let Q : Row → Type 0 = IsRow (k ∷ p ∷ c ∷ s ∷ colon ∷ ws) in
    then-says (λ x. k ≡ letter_of x) Q (kind_of k)
    (λ kind.
    number_of p >>= λ place.
    number_of c >>= λ caller.
    number_of s >>= λ seq.
    named (codes ":") colon
    (outputs_of ws >>= λ o. Some (record { kind = kind; place = place; caller = caller; seq = seq; replies = o.0; emits = o.1 })))
    (kind-says k)
    (λ kind hk. then-says (IsNumber p) Q (number_of p)
    (λ place. number_of c >>= λ caller. number_of s >>= λ seq. named (codes ":") colon (outputs_of ws >>= λ o. Some (record { kind = kind; place = place; caller = caller; seq = seq; replies = o.0; emits = o.1 })))
    (number-says p)
    (λ place hp. then-says (IsNumber c) Q (number_of c)
    (λ caller. number_of s >>= λ seq. named (codes ":") colon (outputs_of ws >>= λ o. Some (record { kind = kind; place = place; caller = caller; seq = seq; replies = o.0; emits = o.1 })))
    (number-says c)
    (λ caller hc. then-says (IsNumber s) Q (number_of s)
    (λ seq. named (codes ":") colon (outputs_of ws >>= λ o. Some (record { kind = kind; place = place; caller = caller; seq = seq; replies = o.0; emits = o.1 })))
    (number-says s)
    (λ seq hs. named-says Q (codes ":") colon (outputs_of ws >>= λ o. Some (record { kind = kind; place = place; caller = caller; seq = seq; replies = o.0; emits = o.1 }))
    (λ e. then-says (AreOutputs ws) Q (outputs_of ws) (λ o. Some (record { kind = kind; place = place; caller = caller; seq = seq; replies = o.0; emits = o.1 })) (outputs-say ws)
    (λ o ho. (
      five-same k p c s colon (letter_of kind) (decimal place) (decimal caller) (decimal seq) (codes ":") ws (output_words o.0 o.1) hk hp.0 hc.0 hs.0 e ho.0,
      record { place = hp.1; caller = hc.1; seq = hs.1; replies = ho.1; emits = ho.2 },
    )))))))

abbrev IsPair : List (List ℕ) → ℕ × ℕ → Type 0
IsPair ws p = (ws ≡ memory_words p) × (IsWord p.0 × IsWord p.1) × (0 < p.1)

three-same : (a b c a' b' c' : List ℕ) → a ≡ a' → b ≡ b' → c ≡ c' → a ∷ b ∷ c ∷ [] ≡ a' ∷ b' ∷ c' ∷ []
three-same a b c a' b' c' p q r = cc

pair-says : (ws : List (List ℕ)) → Says (IsPair ws) (memory_word_of ws)
pair-says [] = tt
pair-says (m ∷ []) = tt
pair-says (m ∷ a ∷ []) = tt
pair-says (m ∷ a ∷ v ∷ []) =
    let Q : ℕ × ℕ → Type 0 = IsPair (m ∷ a ∷ v ∷ []) in
    named-says Q (codes "mem") m (number_of a >>= λ at. number_of v >>= λ value. if ltb 0 value then Some (at, value) else None)
    (λ e. then-says (IsNumber a) Q (number_of a) (λ at. number_of v >>= λ value. if ltb 0 value then Some (at, value) else None) (number-says a)
    (λ at ha. then-says (IsNumber v) Q (number_of v) (λ value. if ltb 0 value then Some (at, value) else None) (number-says v)
    (λ value hv. if-says Q (ltb 0 value) (Some (at, value)) None
    (λ t. (three-same m a v (codes "mem") (decimal at) (decimal value) e ha.0 hv.0, (ha.1, hv.1), grind (arith, nat_tests))) tt)))
pair-says (m ∷ a ∷ v ∷ w ∷ ws) = tt

-- the text so far

abbrev text_at : NextReportLine → Reading → List ℕ
text_at Title d = []
text_at Rows d = codes "report 1\n" ++ row_lines d.rows
text_at Words d = codes "report 1\n" ++ (row_lines d.rows ++ memory_lines d.memory)
text_at After d = codes "report 1\n" ++ (row_lines d.rows ++ (memory_lines d.memory ++ codes "end\n"))

-- the report so far
abbrev report_so_far : Reading → Report
report_so_far d = record { rows = d.rows; memory = d.memory }

-- what there isn't yet
abbrev IsEarly : NextReportLine → Reading → Type 0
IsEarly Title d = (d.rows ≡ []) × (d.memory ≡ [])
IsEarly Rows d = d.memory ≡ []
IsEarly Words d = Unit {0}
IsEarly After d = Unit {0}

abbrev Sound : NextReportLine → Reading → Type 0
Sound p d = IsEarly p d × IsReadable (report_so_far d)

-- the line brings the text further
abbrev Grows : NextReportLine → Reading → List (List ℕ) → Reading → Type 0
Grows p d ws e = (text_at e.place e ≡ text_at p d ++ line ws) × Sound e.place e

row_lines-append : (rs ss : List Row) → row_lines (rs ++ ss) ≡ row_lines rs ++ row_lines ss
row_lines-append [] ss = refl
row_lines-append (r ∷ rs) ss = ap (λ l. row_line r ++ l) (row_lines-append rs ss) ∙ sym (append_assoc (row_line r) (row_lines rs) (row_lines ss))

memory_lines-append : (ps qs : List (ℕ × ℕ)) → memory_lines (ps ++ qs) ≡ memory_lines ps ++ memory_lines qs
memory_lines-append [] qs = refl
memory_lines-append (p ∷ ps) qs = ap (λ l. memory_line p ++ l) (memory_lines-append ps qs) ∙ sym (append_assoc (memory_line p) (memory_lines ps) (memory_lines qs))

ascending-snoc : (ps : List (ℕ × ℕ)) (p : ℕ × ℕ) → IsAscending ps → above_last ps p.0 ≡ true → IsAscending (ps ++ p ∷ [])
ascending-snoc [] p h above = tt
ascending-snoc (q ∷ []) p h above = (grind (arith, nat_tests), tt)
ascending-snoc (q ∷ r ∷ ps) p h above = (h.0, ascending-snoc (r ∷ ps) p h.1 above)

row-regroup : (t a b : List ℕ) → t ++ (a ++ (b ++ [])) ≡ (t ++ a) ++ b
row-regroup t a b = simp (append_assoc, append-nil)

row-grows : (d : Reading) (ws : List (List ℕ)) (r : Row) → d.place ≡ Rows → Sound Rows d → IsRow ws r → Grows Rows d ws (record d { rows = d.rows ++ r ∷ [] })
row-grows d ws r place s h =
    let e : Reading = record d { rows = d.rows ++ r ∷ [] } in
    let text : text_at Rows e ≡ text_at Rows d ++ line ws =
    ap (λ t. codes "report 1\n" ++ t) (row_lines-append d.rows (r ∷ []))
    ∙ (row-regroup (codes "report 1\n") (row_lines d.rows) (row_line r) ∙ ap (λ t. text_at Rows d ++ t) (row_line-words r ∙ ap line (sym h.0))) in
    let sound : Sound Rows e =
    (s.0, record { fits = record { rows = All-push RowFits d.rows r s.1.fits.rows h.1; memory = s.1.fits.memory }; ascending = s.1.ascending; nonzero = s.1.nonzero }) in
    (ap (λ p. text_at p e) place ∙ text, subst (λ p. Sound p e) (sym place) sound)

pair-regroup : (t a b c : List ℕ) → t ++ (a ++ (b ++ (c ++ []))) ≡ (t ++ (a ++ b)) ++ c
pair-regroup t a b c = simp (append_assoc, append-nil)

pair-grows : (d : Reading) (ws : List (List ℕ)) (p : ℕ × ℕ) → IsReadable (report_so_far d) → IsPair ws p → above_last d.memory p.0 ≡ true
    → Grows Words d ws (record { place = Words; rows = d.rows; memory = d.memory ++ p ∷ [] })
pair-grows d ws p s h above = (
  ap (λ t. codes "report 1\n" ++ (row_lines d.rows ++ t)) (memory_lines-append d.memory (p ∷ []))
      ∙ (pair-regroup (codes "report 1\n") (row_lines d.rows) (memory_lines d.memory) (memory_line p) ∙ ap (λ t. text_at Words d ++ t) (memory_line-words p ∙ ap line (sym h.0))),
  (
    tt,
    record {
      fits = record { rows = s.fits.rows; memory = All-push WordsFit d.memory p s.fits.memory h.1 };
      ascending = ascending-snoc d.memory p s.ascending above;
      nonzero = All-push NotZero d.memory p s.nonzero h.2;
    },
  ),
)

told-says : (d : Reading) (ws : List (List ℕ)) (p : ℕ × ℕ) → IsReadable (report_so_far d) → IsPair ws p → Says (Grows Words d ws) (told d p)
told-says d ws p s h =
    if-says (Grows Words d ws) (above_last d.memory p.0) (Some (record { place = Words; rows = d.rows; memory = d.memory ++ p ∷ [] })) None (λ above. pair-grows d ws p s h above) tt

one_word-says : (d : Reading) (ws : List (List ℕ)) → IsReadable (report_so_far d) → Says (Grows Words d ws) (one_word d ws)
one_word-says d ws s = then-says (IsPair ws) (Grows Words d ws) (memory_word_of ws) (told d) (pair-says ws) (λ p h. told-says d ws p s h)

one_row-says : (d : Reading) (ws : List (List ℕ)) → d.place ≡ Rows → Sound Rows d → Says (Grows Rows d ws) (one_row d ws)
one_row-says d ws place s = then-says (IsRow ws) (Grows Rows d ws) (row_of ws) (added d) (row-says ws) (λ r h. row-grows d ws r place s h)

-- before the first word of the memory
no-words-yet : (d : Reading) → d.memory ≡ [] → text_at Words d ≡ text_at Rows d
no-words-yet d none =
    ap (λ m. codes "report 1\n" ++ (row_lines d.rows ++ memory_lines m)) none ∙ ap (λ t. codes "report 1\n" ++ t) (append-nil (row_lines d.rows))

first_word-says : (d : Reading) (ws : List (List ℕ)) → Sound Rows d → Says (Grows Rows d ws) (one_word d ws)
first_word-says d ws s =
    says-with (Grows Words d ws) (Grows Rows d ws) (one_word d ws) (one_word-says d ws s.1)
    (λ e h. (h.0 ∙ ap (λ t. t ++ line ws) (no-words-yet d s.0), h.1))

end-regroup : (t a b c : List ℕ) → t ++ (a ++ (b ++ c)) ≡ (t ++ (a ++ b)) ++ c
end-regroup t a b c = simp append_assoc

end-grows : (d : Reading) (w : List ℕ) → w ≡ codes "end" → IsReadable (report_so_far d) → Grows Words d (w ∷ []) (ended d)
end-grows d w is s =
    (end-regroup (codes "report 1\n") (row_lines d.rows) (memory_lines d.memory) (codes "end\n") ∙ ap (λ x. text_at Words d ++ line (x ∷ [])) (sym is), (tt, s))

two-same : (a b a' b' : List ℕ) → a ≡ a' → b ≡ b' → a ∷ b ∷ [] ≡ a' ∷ b' ∷ []
two-same a b a' b' p q = cc

step-says : (p : NextReportLine) (d : Reading) (ws : List (List ℕ)) → d.place ≡ p → Sound p d → Says (Grows p d ws) (step_by p d ws)
step-says Title d [] place s = tt
step-says Title d (w ∷ []) place s = tt
step-says Title d (w ∷ v ∷ []) place s =
    let e : Reading = record d { place = Rows } in
    named-says (Grows Title d (w ∷ v ∷ [])) (codes "report") w (named (codes "1") v (Some e))
    (λ a. named-says (Grows Title d (w ∷ v ∷ [])) (codes "1") v (Some e)
    (λ b. (ap (λ rs. codes "report 1\n" ++ row_lines rs) s.0.0 ∙ ap line (two-same (codes "report") (codes "1") w v (sym a) (sym b)), (s.0.1, s.1))))
step-says Title d (w ∷ v ∷ u ∷ ws) place s = tt
step-says Rows d [] place s = tt
step-says Rows d (w ∷ []) place s =
    named-says (Grows Rows d (w ∷ [])) (codes "end") w (Some (ended d))
    (λ is. let h = end-grows d w is s.1 in (h.0 ∙ ap (λ t. t ++ line (w ∷ [])) (no-words-yet d s.0), h.1))
step-says Rows d (w ∷ v ∷ ws) place s =
    word-says (Grows Rows d (w ∷ v ∷ ws)) (codes "mem") w (one_word d (w ∷ v ∷ ws)) (one_row d (w ∷ v ∷ ws)) (λ is. first_word-says d (w ∷ v ∷ ws) s) (one_row-says d (w ∷ v ∷ ws) place s)
step-says Words d [] place s = tt
step-says Words d (w ∷ []) place s = named-says (Grows Words d (w ∷ [])) (codes "end") w (Some (ended d)) (λ is. end-grows d w is s.1)
step-says Words d (w ∷ v ∷ ws) place s = one_word-says d (w ∷ v ∷ ws) s.1
step-says After d ws place s = tt

-- lines, one after the other

abbrev LineGrows : Reading → Line → Reading → Type 0
LineGrows d l e = (l.ended ≡ true) × Grows d.place d (words_of l.bytes) e

line-by-says : (d : Reading) (l : Line) (o : Option Reading) → l.ended ≡ true → Says (Grows d.place d (words_of l.bytes)) o → Gives (LineGrows d l) (line_by o)
line-by-says d l None e h = tt
line-by-says d l (Some x) e h = (e, h)

line-if : (d : Reading) (l : Line) (t : Bool) → l.ended ≡ t → Says (Grows d.place d (words_of l.bytes)) (step_by d.place d (words_of l.bytes))
    → Gives (LineGrows d l) (if t then line_by (step_by d.place d (words_of l.bytes)) else Err UNENDED)
line-if d l true e h = line-by-says d l (step_by d.place d (words_of l.bytes)) e h
line-if d l false e h = tt

line-says : (d : Reading) (l : Line) → Sound d.place d → Gives (LineGrows d l) (line_of d l)
line-says d l s = line-if d l l.ended refl (step-says d.place d (words_of l.bytes) refl s)

-- the text so far and the lines to come are the report's
abbrev IsWhole : Reading → List Line → Report → Type 0
IsWhole d ls r = (text_at d.place d ++ unlines ls ≡ report_bytes r) × IsReadable r

go_on-says : (P : Reading → Type 0) (Q : Report → Type 0) (r : Result Reading ℕ) (k : ℕ) (rest : Reading → Result Report (ℕ × ℕ)) → Gives P r → ((e : Reading) → P e → Gives Q (rest e)) → Gives Q (go_on r k rest)
go_on-says P Q (Ok e) k rest h g = g e h
go_on-says P Q (Err c) k rest h g = tt

line-regroup : (a b c d : List ℕ) → a ++ (b ++ (c ++ d)) ≡ (a ++ (b ++ c)) ++ d
line-regroup a b c d = simp append_assoc

whole-step : (d e : Reading) (l : Line) (ls : List Line) (r : Report) → LineGrows d l e → IsWhole e ls r → IsWhole d (l ∷ ls) r
whole-step d e l ls r h w = (
  ap (λ t. text_at d.place d ++ (l.bytes ++ (end_of t ++ unlines ls))) h.0
      ∙ (line-regroup (text_at d.place d) l.bytes (10 ∷ []) (unlines ls)
      ∙ (ap (λ b. (text_at d.place d ++ (b ++ 10 ∷ [])) ++ unlines ls) (sym (joined-words_of l.bytes)) ∙ (ap (λ t. t ++ unlines ls) (sym h.1.0) ∙ w.0))),
  w.1,
)

end-says : (p : NextReportLine) (d : Reading) (k : ℕ) → d.place ≡ p → Sound p d → Gives (IsWhole d []) (finished (whole_by p d) k)
end-says Title d k place s = tt
end-says Rows d k place s = tt
end-says Words d k place s = tt
end-says After d k place s = (append-nil (text_at d.place d) ∙ ap (λ p. text_at p d) place, s.1)

read-says : (d : Reading) (k : ℕ) (ls : List Line) → Sound d.place d → Gives (IsWhole d ls) (read d k ls)
read-says d k [] s = end-says d.place d k refl s
read-says d k (l ∷ ls) s =
    go_on-says (LineGrows d l) (IsWhole d (l ∷ ls)) (line_of d l) k (λ e. read e (k + 1) ls) (line-says d l s)
    (λ e h. gives-with (IsWhole e ls) (IsWhole d (l ∷ ls)) (read e (k + 1) ls) (read-says e (k + 1) ls h.1.1) (λ r w. whole-step d e l ls r h w))

opening-sound : Sound Title opening
opening-sound = ((refl, refl), record { fits = record { rows = All-nil RowFits; memory = All-nil WordsFit }; ascending = tt; nonzero = All-nil NotZero })

-- what a text that is read is
abbrev IsWritten : List ℕ → Report → Type 0
IsWritten text r = (text ≡ report_bytes r) × IsReadable r × (length text ≤ MAX_REPORT)

text-by : (text : List ℕ) (b : Bool) (r : Result Report (ℕ × ℕ)) → (b ≡ false → length text ≤ MAX_REPORT) → Gives (IsWhole opening (lines_of text)) r → Gives (IsWritten text) (if b then Err (0, LONG_REPORT) else r)
text-by text true r short h = tt
text-by text false r short h = gives-with (IsWhole opening (lines_of text)) (IsWritten text) r h (λ x w. (sym (unlines-lines_of text) ∙ w.0, w.1, short refl))

text-says : (text : List ℕ) → Gives (IsWritten text) (report_of text)
text-says text =
    text-by text (ltb MAX_REPORT (length text)) (read opening 1 (lines_of text)) (λ e. grind (arith, nat_tests)) (read-says opening 1 (lines_of text) opening-sound)

-- a text that is read as a report is the text of that report
pub report-written : (text : List ℕ) (r : Report) → report_of text ≡ Ok r → IsWritten text r
report-written text r is = given (IsWritten text) (report_of text) r (text-says text) is
