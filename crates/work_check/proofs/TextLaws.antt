-- The text of a report is read as that report.
use Rattle.std.proofs.Common.{ℕ, ◌≡◌, ◌<◌, ◌≤◌, ◌+◌, List, [], ◌∷◌, ◌++◌, true, false, Ok, refl, sym, ap, ◌∙◌, arith, length, append_assoc, append-nil}
use Rattle.std.specs.Prelude.{◌==◌, Some, ltb, codes, bytes_eq, All}
use Rattle.std.specs.Fmt.{decimal}
use Rattle.std.proofs.lemmas.Bool.Decides.{nat_tests}
use Rattle.std.proofs.lemmas.List.Elements.{All-head, All-tail}
use Rattle.work_script.specs.declared.report.Kind.{Kind}
use Rattle.work_script.specs.declared.report.Kind.TheVariants.{W, R, C}
use Rattle.work_script.specs.declared.report.Report.{Report}
use Rattle.work_script.specs.declared.report.Row.{Row}
use Rattle.work_text.specs.Lines.{lines_of, words_of, number_of}
use Rattle.work_text.specs.Reports.{spaced, emitted, letter_of, row_line, row_lines, memory_line, memory_lines, report_bytes, IsWord, RowFits}
use Rattle.work_text.specs.Texts.{joined, line}
use Rattle.work_text.specs.Decimals.{StartsDigit, digits-decimal}
use Rattle.work_text.specs.LineLaws.{lines_of-first}
use Rattle.work_text.proofs.Numbers.{number_of-decimal}
use Rattle.work_text.specs.WordLaws.{seen, AllVisible, visible-decimal, joined-lacks, words_of-joined}
use Rattle.work_check.specs.declared.reading.TheConstants.{MAX_REPORT}
use Rattle.work_check.specs.declared.table.NextReportLine.{NextReportLine}
use Rattle.work_check.specs.declared.table.NextReportLine.TheVariants.{Title, Rows, Words, After}
use Rattle.work_check.specs.Grammar.{◌>>=◌, kind_of, numbers_of, outputs_of, row_of, memory_word_of, Reading, opening, above_last, told, added, step_by, line_of, go_on, read, report_of}
use Rattle.work_check.specs.Texts.{IsAscending, IsReadable}

-- the words of a line

abbrev pub decimals : List ℕ → List (List ℕ)
decimals [] = []
decimals (n ∷ ns) = decimal n ∷ decimals ns

abbrev pub emit_words : List ℕ → List (List ℕ)
emit_words [] = []
emit_words (e ∷ es) = codes "!" ∷ decimals (e ∷ es)

-- the replies, and the emits after them
abbrev pub output_words : List ℕ → List ℕ → List (List ℕ)
output_words [] es = emit_words es
output_words (n ∷ ns) es = decimal n ∷ output_words ns es

abbrev pub row_words : Row → List (List ℕ)
row_words r = letter_of r.kind ∷ decimal r.place ∷ decimal r.caller ∷ decimal r.seq ∷ codes ":" ∷ output_words r.replies r.emits

abbrev pub memory_words : ℕ × ℕ → List (List ℕ)
memory_words p = codes "mem" ∷ decimal p.0 ∷ decimal p.1 ∷ []

-- words, each with a space before it
abbrev spaced_words : List (List ℕ) → List ℕ
spaced_words [] = []
spaced_words (w ∷ ws) = 32 ∷ w ++ spaced_words ws

joined-spaced : (w : List ℕ) (ws : List (List ℕ)) → joined (w ∷ ws) ≡ w ++ spaced_words ws
joined-spaced w [] = sym (append-nil w)
joined-spaced w (v ∷ ws) = ap (λ t. w ++ 32 ∷ t) (joined-spaced v ws)

decimals-spaced : (ns : List ℕ) → spaced_words (decimals ns) ≡ spaced ns
decimals-spaced [] = refl
decimals-spaced (n ∷ ns) = ap (λ t. 32 ∷ decimal n ++ t) (decimals-spaced ns)

emit_words-spaced : (es : List ℕ) → spaced_words (emit_words es) ≡ emitted es
emit_words-spaced [] = refl
emit_words-spaced (e ∷ es) = ap (λ t. 32 ∷ 33 ∷ t) (decimals-spaced (e ∷ es))

output_words-spaced : (ns es : List ℕ) → spaced_words (output_words ns es) ≡ spaced ns ++ emitted es
output_words-spaced [] es = emit_words-spaced es
output_words-spaced (n ∷ ns) es =
    ap (λ t. 32 ∷ decimal n ++ t) (output_words-spaced ns es) ∙ ap (λ t. 32 ∷ t) (sym (append_assoc (decimal n) (spaced ns) (emitted es)))

row-regroup : (l p c s t e : List ℕ) → (l ++ (32 ∷ (p ++ (32 ∷ (c ++ (32 ∷ (s ++ (32 ∷ 58 ∷ (t ++ e))))))))) ++ 10 ∷ [] ≡ l ++ ((32 ∷ (p ++ (32 ∷ (c ++ (32 ∷ (s ++ [])))))) ++ (32 ∷ 58 ∷ (t ++ (e ++ 10 ∷ []))))
row-regroup l p c s t e = simp (append_assoc, append-nil)

-- a row's line is that of its words
pub row_line-words : (r : Row) → row_line r ≡ line (row_words r)
row_line-words r =
    let outs = output_words r.replies r.emits in
    sym (ap (λ t. t ++ 10 ∷ []) (joined-spaced (letter_of r.kind) (decimal r.place ∷ decimal r.caller ∷ decimal r.seq ∷ codes ":" ∷ outs))
    ∙ (ap (λ t. (letter_of r.kind ++ (32 ∷ (decimal r.place ++ (32 ∷ (decimal r.caller ++ (32 ∷ (decimal r.seq ++ (32 ∷ 58 ∷ t)))))))) ++ 10 ∷ []) (output_words-spaced r.replies r.emits)
    ∙ row-regroup (letter_of r.kind) (decimal r.place) (decimal r.caller) (decimal r.seq) (spaced r.replies) (emitted r.emits)))

memory-regroup : (m a v : List ℕ) → (m ++ (32 ∷ (a ++ (32 ∷ v)))) ++ 10 ∷ [] ≡ m ++ ((32 ∷ (a ++ (32 ∷ (v ++ [])))) ++ 10 ∷ [])
memory-regroup m a v = simp (append_assoc, append-nil)

pub memory_line-words : (p : ℕ × ℕ) → memory_line p ≡ line (memory_words p)
memory_line-words p = sym (memory-regroup (codes "mem") (decimal p.0) (decimal p.1))

-- what can be seen

decimals-visible : (ns : List ℕ) → All IsWord ns → AllVisible (decimals ns)
decimals-visible [] h = tt
decimals-visible (n ∷ ns) h = (visible-decimal n (All-head IsWord n ns h), decimals-visible ns (All-tail IsWord n ns h))

emit_words-visible : (es : List ℕ) → All IsWord es → AllVisible (emit_words es)
emit_words-visible [] h = tt
emit_words-visible (e ∷ es) h = (seen (codes "!") refl, decimals-visible (e ∷ es) h)

output_words-visible : (ns es : List ℕ) → All IsWord ns → All IsWord es → AllVisible (output_words ns es)
output_words-visible [] es h g = emit_words-visible es g
output_words-visible (n ∷ ns) es h g = (visible-decimal n (All-head IsWord n ns h), output_words-visible ns es (All-tail IsWord n ns h) g)

letter-visible : (k : Kind) (ws : List (List ℕ)) → AllVisible ws → AllVisible (letter_of k ∷ ws)
letter-visible W ws h = (seen (codes "W") refl, h)
letter-visible R ws h = (seen (codes "R") refl, h)
letter-visible C ws h = (seen (codes "C") refl, h)

row-visible : (r : Row) → RowFits r → AllVisible (row_words r)
row-visible r f =
    letter-visible r.kind (decimal r.place ∷ decimal r.caller ∷ decimal r.seq ∷ codes ":" ∷ output_words r.replies r.emits)
    (visible-decimal r.place f.place, (visible-decimal r.caller f.caller, (visible-decimal r.seq f.seq, (seen (codes ":") refl, output_words-visible r.replies r.emits f.replies f.emits))))

-- what the words tell

numbers_of-decimals : (ns : List ℕ) → All IsWord ns → numbers_of (decimals ns) ≡ Some ns
numbers_of-decimals [] h = refl
numbers_of-decimals (n ∷ ns) h =
    ap (λ o. o >>= λ m. numbers_of (decimals ns) >>= λ ms. Some (m ∷ ms)) (number_of-decimal n (All-head IsWord n ns h))
    ∙ ap (λ o. o >>= λ ms. Some (n ∷ ms)) (numbers_of-decimals ns (All-tail IsWord n ns h))

outputs_of-emits : (es : List ℕ) → All IsWord es → outputs_of (emit_words es) ≡ Some ([], es)
outputs_of-emits [] h = refl
outputs_of-emits (e ∷ es) h = ap (λ o. o >>= λ fs. Some ([], fs)) (numbers_of-decimals (e ∷ es) h)

-- digits are no `!`
digits-mark : (ds : List ℕ) → StartsDigit ds → bytes_eq ds (codes "!") ≡ false
digits-mark [] s = absurd s
digits-mark (d ∷ ds) s = let low = s.0 in let differs : (d == 33) ≡ false = grind (arith, nat_tests) in rw differs refl

output-number : (w : List ℕ) (ws : List (List ℕ)) (n : ℕ) (o : List ℕ × List ℕ) → bytes_eq w (codes "!") ≡ false → number_of w ≡ Some n → outputs_of ws ≡ Some o → outputs_of (w ∷ ws) ≡ Some (n ∷ o.0, o.1)
output-number w ws n o mark number rest = rw (mark, number, rest) refl

outputs_of-words : (ns es : List ℕ) → All IsWord ns → All IsWord es → outputs_of (output_words ns es) ≡ Some (ns, es)
outputs_of-words [] es h g = outputs_of-emits es g
outputs_of-words (n ∷ ns) es h g =
    let fits = All-head IsWord n ns h in
    output-number (decimal n) (output_words ns es) n (ns, es) (digits-mark (decimal n) (digits-decimal n fits).1) (number_of-decimal n fits) (outputs_of-words ns es (All-tail IsWord n ns h) g)

kind_of-letter : (k : Kind) → kind_of (letter_of k) ≡ Some k
kind_of-letter W = refl
kind_of-letter R = refl
kind_of-letter C = refl

row-by : (kw pw cw sw : List ℕ) (outs : List (List ℕ)) (r : Row) → kind_of kw ≡ Some r.kind → number_of pw ≡ Some r.place
    → number_of cw ≡ Some r.caller → number_of sw ≡ Some r.seq → outputs_of outs ≡ Some (r.replies, r.emits)
    → row_of (kw ∷ pw ∷ cw ∷ sw ∷ codes ":" ∷ outs) ≡ Some r
row-by kw pw cw sw outs r k p c s o = rw (k, p, c, s, o) refl

row_of-words : (r : Row) → RowFits r → row_of (row_words r) ≡ Some r
row_of-words r f =
    row-by (letter_of r.kind) (decimal r.place) (decimal r.caller) (decimal r.seq) (output_words r.replies r.emits) r
    (kind_of-letter r.kind) (number_of-decimal r.place f.place) (number_of-decimal r.caller f.caller) (number_of-decimal r.seq f.seq) (outputs_of-words r.replies r.emits f.replies f.emits)

word-by : (aw vw : List ℕ) (p : ℕ × ℕ) → number_of aw ≡ Some p.0 → number_of vw ≡ Some p.1 → ltb 0 p.1 ≡ true → memory_word_of (codes "mem" ∷ aw ∷ vw ∷ []) ≡ Some p
word-by aw vw p a v some = rw (a, v, some) refl

memory_word_of-words : (p : ℕ × ℕ) → IsWord p.0 → IsWord p.1 → 0 < p.1 → memory_word_of (memory_words p) ≡ Some p
memory_word_of-words p a v some =
    let test : ltb 0 p.1 ≡ true = grind (arith, nat_tests) in word-by (decimal p.0) (decimal p.1) p (number_of-decimal p.0 a) (number_of-decimal p.1 v) test

-- a line of words, and then the rest
line-read : (d : Reading) (k : ℕ) (w : List ℕ) (ws : List (List ℕ)) (rest : List ℕ) (e : Reading) → AllVisible (w ∷ ws) → step_by d.place d (w ∷ ws) ≡ Some e
    → read d k (lines_of (line (w ∷ ws) ++ rest)) ≡ read e (k + 1) (lines_of rest)
line-read d k w ws rest e seen is =
    let bytes : List ℕ = joined (w ∷ ws) in
    let cut : line (w ∷ ws) ++ rest ≡ bytes ++ 10 ∷ rest = append_assoc bytes (10 ∷ []) rest in
    let first : lines_of (line (w ∷ ws) ++ rest) ≡ record { bytes = bytes; ended = true } ∷ lines_of rest = ap lines_of cut ∙ lines_of-first bytes rest (joined-lacks (w ∷ ws) seen) in
    ap (read d k) first ∙ ap (λ r. go_on r k (λ f. read f (k + 1) (lines_of rest))) (line-by d bytes (w ∷ ws) e (words_of-joined w ws seen) is)
  where
    line-by : (d : Reading) (bytes : List ℕ) (ws : List (List ℕ)) (e : Reading) → words_of bytes ≡ ws → step_by d.place d ws ≡ Some e → line_of d (record { bytes = bytes; ended = true }) ≡ Ok e
    line-by d bytes ws e words is = rw (words, is) refl

-- a report, read as far as this
abbrev at : NextReportLine → List Row → List (ℕ × ℕ) → Reading
at place rows memory = record { place = place; rows = rows; memory = memory }

row-step : (d : Reading) (k : Kind) (v : List ℕ) (ws : List (List ℕ)) (r : Row) → row_of (letter_of k ∷ v ∷ ws) ≡ Some r → step_by Rows d (letter_of k ∷ v ∷ ws) ≡ Some (record d { rows = d.rows ++ r ∷ [] })
row-step d W v ws r is = ap (λ o. o >>= added d) is
row-step d R v ws r is = ap (λ o. o >>= added d) is
row-step d C v ws r is = ap (λ o. o >>= added d) is

-- the lines of rows
rows-read : (before rs : List Row) (k : ℕ) (rest : List ℕ) → All RowFits rs → (j : ℕ) × (read (at Rows before []) k (lines_of (row_lines rs ++ rest)) ≡ read (at Rows (before ++ rs) []) j (lines_of rest))
rows-read before [] k rest h = (k, ap (λ x. read (at Rows x []) k (lines_of rest)) (sym (append-nil before)))
rows-read before (r ∷ rs) k rest h =
    let fits = All-head RowFits r rs h in
    let more = rows-read (before ++ r ∷ []) rs (k + 1) rest (All-tail RowFits r rs h) in
    let words = decimal r.place ∷ decimal r.caller ∷ decimal r.seq ∷ codes ":" ∷ output_words r.replies r.emits in (
      more.0,
      ap (λ t. read (at Rows before []) k (lines_of t)) (append_assoc (row_line r) (row_lines rs) rest ∙ ap (λ t. t ++ (row_lines rs ++ rest)) (row_line-words r))
          ∙ (line-read (at Rows before []) k (letter_of r.kind) words (row_lines rs ++ rest) (at Rows (before ++ r ∷ []) []) (row-visible r fits)
          (row-step (at Rows before []) r.kind (decimal r.place) (decimal r.caller ∷ decimal r.seq ∷ codes ":" ∷ output_words r.replies r.emits) r (row_of-words r fits))
          ∙ (more.1 ∙ ap (λ x. read (at Rows x []) more.0 (lines_of rest)) (append_assoc before (r ∷ []) rs))),
    )

-- places where a word of the memory or the end may stand
abbrev IsOpen : NextReportLine → Type 0
IsOpen Title = ⊥
IsOpen Rows = Unit {0}
IsOpen Words = Unit {0}
IsOpen After = ⊥

told-above : (d : Reading) (p : ℕ × ℕ) → above_last d.memory p.0 ≡ true → told d p ≡ Some (at Words d.rows (d.memory ++ p ∷ []))
told-above d p above = rw above refl

word-step : (place : NextReportLine) (d : Reading) (p : ℕ × ℕ) → IsOpen place → IsWord p.0 → IsWord p.1 → 0 < p.1
    → above_last d.memory p.0 ≡ true → step_by place d (memory_words p) ≡ Some (at Words d.rows (d.memory ++ p ∷ []))
word-step Title d p opened a v some above = absurd opened
word-step Rows d p opened a v some above = ap (λ o. o >>= told d) (memory_word_of-words p a v some) ∙ told-above d p above
word-step Words d p opened a v some above = ap (λ o. o >>= told d) (memory_word_of-words p a v some) ∙ told-above d p above
word-step After d p opened a v some above = absurd opened

end-step : (place : NextReportLine) (d : Reading) → IsOpen place → step_by place d (codes "end" ∷ []) ≡ Some (record d { place = After })
end-step Title d opened = absurd opened
end-step Rows d opened = refl
end-step Words d opened = refl
end-step After d opened = absurd opened

above-snoc : (ps : List (ℕ × ℕ)) (p : ℕ × ℕ) (a : ℕ) → above_last (ps ++ p ∷ []) a ≡ ltb p.0 a
above-snoc [] p a = refl
above-snoc (q ∷ []) p a = refl
above-snoc (q ∷ r ∷ ps) p a = above-snoc (r ∷ ps) p a

-- the first pair may come next
abbrev MayFollow : List (ℕ × ℕ) → List (ℕ × ℕ) → Type 0
MayFollow before [] = Unit {0}
MayFollow before (p ∷ ps) = above_last before p.0 ≡ true

next-follows : (before : List (ℕ × ℕ)) (p : ℕ × ℕ) (ps : List (ℕ × ℕ)) → IsAscending (p ∷ ps) → MayFollow (before ++ p ∷ []) ps × IsAscending ps
next-follows before p [] h = (tt, tt)
next-follows before p (q ∷ ps) h =
    let lt = h.0 in let test : ltb p.0 q.0 ≡ true = grind (arith, nat_tests) in (above-snoc before p q.0 ∙ test, h.1)

abbrev pub WordsFit : ℕ × ℕ → Type 0
WordsFit p = IsWord p.0 × IsWord p.1

abbrev pub NotZero : ℕ × ℕ → Type 0
NotZero p = 0 < p.1

-- the lines of the memory, and the end
memory-read : (place : NextReportLine) (rows : List Row) (before ps : List (ℕ × ℕ)) (k : ℕ) → IsOpen place → All WordsFit ps → All NotZero ps → IsAscending ps → MayFollow before ps
    → read (at place rows before) k (lines_of (memory_lines ps ++ codes "end\n")) ≡ Ok (record { rows = rows; memory = before ++ ps })
memory-read place rows before [] k opened fits some up next =
    line-read (at place rows before) k (codes "end") [] [] (at After rows before) (seen (codes "end") refl, tt) (end-step place (at place rows before) opened)
    ∙ ap (λ m. Ok (record { rows = rows; memory = m })) (sym (append-nil before))
memory-read place rows before (p ∷ ps) k opened fits some up next =
    let fit = All-head WordsFit p ps fits in
    let follows = next-follows before p ps up in
    let rest : List ℕ = memory_lines ps ++ codes "end\n" in
    ap (λ t. read (at place rows before) k (lines_of t)) (append_assoc (memory_line p) (memory_lines ps) (codes "end\n") ∙ ap (λ t. t ++ rest) (memory_line-words p))
    ∙ (line-read (at place rows before) k (codes "mem") (decimal p.0 ∷ decimal p.1 ∷ []) rest (at Words rows (before ++ p ∷ []))
    (seen (codes "mem") refl, (visible-decimal p.0 fit.0, (visible-decimal p.1 fit.1, tt)))
    (word-step place (at place rows before) p opened fit.0 fit.1 (All-head NotZero p ps some) next)
    ∙ (memory-read Words rows (before ++ p ∷ []) ps (k + 1) tt (All-tail WordsFit p ps fits) (All-tail NotZero p ps some) follows.1 follows.0
    ∙ ap (λ m. Ok (record { rows = rows; memory = m })) (append_assoc before (p ∷ []) ps)))

first-follows : (ps : List (ℕ × ℕ)) → MayFollow [] ps
first-follows [] = tt
first-follows (p ∷ ps) = refl

lines-read : (r : Report) → IsReadable r → read opening 1 (lines_of (report_bytes r)) ≡ Ok r
lines-read r h =
    let tail : List ℕ = memory_lines r.memory ++ codes "end\n" in
    let rows = rows-read [] r.rows 2 tail h.fits.rows in
    line-read opening 1 (codes "report") (codes "1" ∷ []) (row_lines r.rows ++ tail) (at Rows [] []) (seen (codes "report") refl, (seen (codes "1") refl, tt)) refl
    ∙ (rows.1 ∙ memory-read Rows r.rows [] r.memory rows.0 tt h.fits.memory h.nonzero h.ascending (first-follows r.memory))

short-enough : (t : List ℕ) → length t ≤ MAX_REPORT → report_of t ≡ read opening 1 (lines_of t)
short-enough t le = let p : ltb MAX_REPORT (length t) ≡ false = grind (arith, nat_tests) in rw p refl

-- the text of a report is read as that report
pub report-read : (r : Report) → IsReadable r → length (report_bytes r) ≤ MAX_REPORT → report_of (report_bytes r) ≡ Ok r
report-read r h le = short-enough (report_bytes r) le ∙ lines-read r h
