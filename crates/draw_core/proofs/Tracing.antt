-- A trace and what follows it are read back.
use Rattle.std.proofs.Common.{ℕ, ◌≡◌, ◌<◌, ◌≤◌, ◌+◌, ◌^◌, List, [], ◌∷◌, ◌++◌, length, true, false, inl, inr, refl, sym, ap, subst, ◌∙◌, arith, append_assoc, append-nil, length-append}
use Rattle.std.specs.Prelude.{◌==◌, leb, ltb, if◌then◌else◌, slice_set, Some, None, Ok, codes, bytes_eq}
use Rattle.std.specs.Fmt.{decimal}
use Rattle.std.proofs.lemmas.Bool.Decides.{nat_tests}
use Rattle.stm_model.specs.declared.config.TheConstants.{MAX_CALLERS}
use Rattle.work_script.specs.declared.report.Report.{Report}
use Rattle.work_text.specs.Decimals.{StartsDigit, digits-decimal}
use Rattle.work_text.specs.LineLaws.{lines_of-first}
use Rattle.work_text.specs.Lines.{Line as TextLine, lines_of, words_of, number_of}
use Rattle.work_text.proofs.Numbers.{number_of-decimal}
use Rattle.work_text.specs.Reports.{report_bytes, row_lines, memory_lines, IsWord}
use Rattle.work_text.specs.Texts.{joined}
use Rattle.work_text.specs.WordLaws.{AllVisible, seen, visible-decimal, joined-lacks, words_of-joined, unlines, unlines-lines_of}
use Rattle.work_check.specs.Grammar.{◌>>=◌, report_of}
use Rattle.work_check.specs.Texts.{IsReadable, ReportIsRead}
use Rattle.work_check.specs.declared.reading.TheConstants.{MAX_REPORT}
use Rattle.work_trace.specs.declared.line.Line.{Line}
use Rattle.work_trace.specs.declared.line.Line.TheVariants.{Of, Finish}
use Rattle.work_trace.specs.declared.said.Phase.{Phase}
use Rattle.work_trace.specs.declared.said.Said.{Said}
use Rattle.work_trace.specs.Texts.{said_bytes, line_bytes, trace_bytes}
use Rattle.draw_core.specs.declared.reading.TheConstants.{MOST_DRAWN}
use Rattle.draw_core.specs.Grammar.{said_of, line_of, is_full_clock, is_title, reported, read, trace_of}
use Rattle.draw_pictures.specs.declared.kind.Kind.{Kind}
use Rattle.draw_pictures.specs.Kinds.{said_kind}
use Rattle.draw_pictures.specs.Shapes.{Box, line_box, line_boxes}
use Rattle.draw_pictures.specs.Steps.{bare, bare_of}
use Rattle.draw_core.specs.Phases.{first_phases, passed, passed_all, phase_at}
use Rattle.draw_core.specs.Statements.{LinesFit, LinesHaveWords, IsDrawnAlone, IsTail, TraceIsDrawn}
use Rattle.draw_core.proofs.Passing.{walks-alone}
use Rattle.draw_core.proofs.Saying.{spaced_words, Reads, said-reads}

joined-spaced : (w : List ℕ) (ws : List (List ℕ)) → joined (w ∷ ws) ≡ w ++ spaced_words ws
joined-spaced w [] = sym (append-nil w)
joined-spaced w (v ∷ ws) = ap (λ t. w ++ 32 ∷ t) (joined-spaced v ws)

-- digits are no word that begins with a letter
no-letters : (ds : List ℕ) (b : ℕ) (bs : List ℕ) → 58 ≤ b → StartsDigit ds → bytes_eq ds (b ∷ bs) ≡ false
no-letters [] b bs le s = absurd s
no-letters (d ∷ ds) b bs le s = let high = s.1 in let differs : (d == b) ≡ false = grind (arith, nat_tests) in rw differs refl

starts-more : (ds xs : List ℕ) → StartsDigit ds → StartsDigit (ds ++ xs)
starts-more [] xs s = absurd s
starts-more (d ∷ ds) xs s = s

abbrev whole_line : List ℕ → TextLine
whole_line bytes = record { bytes = bytes; ended = true }

-- a line that isn't a report's first one, nor tells of a full clock
read-line : (told : List Line) (k : ℕ) (bytes : List ℕ) (m : Line) (ls : List TextLine) → is_title bytes ≡ false → is_full_clock (words_of bytes) ≡ false → line_of (words_of bytes) ≡ Some m
    → read told k (whole_line bytes ∷ ls) ≡ read (told ++ m ∷ []) (k + 1) ls
read-line told k bytes m ls title full is = rw (title, full, is) refl

line-by : (w : List ℕ) (n : ℕ) (ws : List (List ℕ)) (s : Said) → bytes_eq w (codes "finish") ≡ false → number_of w ≡ Some n → leb MAX_CALLERS n ≡ false → said_of ws ≡ Some s → line_of (w ∷ ws) ≡ Some (Of n s)
line-by w n ws s finish number few is = rw (finish, number, few, is) refl

full-by : (w : List ℕ) (ws : List (List ℕ)) → bytes_eq w (codes "clock") ≡ false → is_full_clock (w ∷ ws) ≡ false
full-by w [] other = refl
full-by w (v ∷ ws) other = rw other refl

-- what a line is read as, which has the same box
pub record LineReads (line : Line) : Type 0 where
  pub got : Line
  pub box : (number : ℕ) → line_box number (bare got) ≡ line_box number (bare line)
  pub pass : (phases : List Phase) → passed phases got ≡ passed phases line
  pub step : (told : List Line) (k : ℕ) (rest : List ℕ) → read told k (lines_of (line_bytes line ++ rest)) ≡ read (told ++ got ∷ []) (k + 1) (lines_of rest)

regroup : (d s rest : List ℕ) → (d ++ (s ++ 10 ∷ [])) ++ rest ≡ (d ++ s) ++ 10 ∷ rest
regroup d s rest = simp append_assoc

box-same : (n number : ℕ) (k l : Kind) (v w : List ℕ) → k ≡ l → v ≡ w
    → (let b : Box = record { lane = n; kind = k; label = v; number = number; times = 1 } in b) ≡ record { lane = n; kind = l; label = w; number = number; times = 1 }
box-same n number k l v w p q = cc

module _ (n : ℕ) (said : Said) (few : n < MAX_CALLERS) (r : Reads said) where
  small : n < 2 ^ 64
  small = omega (arith, few)

  starts : StartsDigit (decimal n)
  starts = (digits-decimal n small).1

  visible : AllVisible (decimal n ∷ r.words)
  visible = (visible-decimal n small, r.visible)

  words-are : words_of (joined (decimal n ∷ r.words)) ≡ decimal n ∷ r.words
  words-are = words_of-joined (decimal n) r.words visible

  no-title : is_title (joined (decimal n ∷ r.words)) ≡ false
  no-title = ap is_title (joined-spaced (decimal n) r.words) ∙ no-letters (decimal n ++ spaced_words r.words) 114 (codes "eport 1") (omega arith) (starts-more (decimal n) (spaced_words r.words) starts)

  no-clock : is_full_clock (words_of (joined (decimal n ∷ r.words))) ≡ false
  no-clock = ap is_full_clock words-are ∙ full-by (decimal n) r.words (no-letters (decimal n) 99 (codes "lock") (omega arith) starts)

  in-range : leb MAX_CALLERS n ≡ false
  in-range = grind (arith, nat_tests, few)

  line-is : line_of (words_of (joined (decimal n ∷ r.words))) ≡ Some (Of n r.read)
  line-is = ap line_of words-are ∙ line-by (decimal n) n r.words r.read (no-letters (decimal n) 102 (codes "inish") (omega arith) starts) (number_of-decimal n small) in-range r.is

  cut : (rest : List ℕ) → line_bytes (Of n said) ++ rest ≡ joined (decimal n ∷ r.words) ++ 10 ∷ rest
  cut rest = regroup (decimal n) (said_bytes said) rest ∙ ap (λ t. t ++ 10 ∷ rest) (ap (λ t. decimal n ++ t) r.bytes ∙ sym (joined-spaced (decimal n) r.words))

  pass-same : (phases : List Phase) → passed phases (Of n r.read) ≡ passed phases (Of n said)
  pass-same phases =
      let at : Phase = phase_at phases n in
      (λ i. if leb (length phases) n then None else (if r.come at i then Some (slice_set phases n (r.after at i)) else None))

  turn-reads : LineReads (Of n said)
  turn-reads = record {
    got = Of n r.read;
    box = λ number. box-same n number (said_kind r.read) (said_kind said) (said_bytes r.read) (said_bytes said) r.kind r.label;
    pass = pass-same;
    step = λ told k rest.
        ap (λ t. read told k (lines_of t)) (cut rest)
        ∙ (ap (read told k) (lines_of-first (joined (decimal n ∷ r.words)) rest (joined-lacks (decimal n ∷ r.words) visible))
        ∙ read-line told k (joined (decimal n ∷ r.words)) (Of n r.read) (lines_of rest) no-title no-clock line-is);
  }

finish-lines : (rest : List ℕ) → lines_of (codes "finish\n" ++ rest) ≡ whole_line (codes "finish") ∷ lines_of rest
finish-lines rest = lines_of-first (codes "finish") rest (joined-lacks (codes "finish" ∷ []) (seen (codes "finish") refl, tt))

finish-reads : LineReads Finish
finish-reads = record {
  got = Finish;
  box = λ number. refl;
  pass = λ phases. refl;
  step = λ told k rest. ap (read told k) (finish-lines rest) ∙ read-line told k (codes "finish") Finish (lines_of rest) refl refl refl;
}

-- the lines of a trace, whatever follows
pub record TraceReads (lines told : List Line) (k : ℕ) (tail : List ℕ) : Type 0 where
  pub got : List Line
  pub at : ℕ
  pub boxes : (number : ℕ) → line_boxes number (bare_of got) ≡ line_boxes number (bare_of lines)
  pub pass : (phases : List Phase) → passed_all phases got ≡ passed_all phases lines
  pub is : read told k (lines_of (trace_bytes lines ++ tail)) ≡ read (told ++ got) at (lines_of tail)

cons-same : (b c : Box) (bs cs : List Box) → b ≡ c → bs ≡ cs → b ∷ bs ≡ c ∷ cs
cons-same b c bs cs p q = cc

one-more : (l : Line) (ls told : List Line) (k : ℕ) (tail : List ℕ) (one : LineReads l) → TraceReads ls (told ++ one.got ∷ []) (k + 1) tail → TraceReads (l ∷ ls) told k tail
one-more l ls told k tail one rest = record {
  got = one.got ∷ rest.got;
  at = rest.at;
  boxes = λ number. cons-same (line_box number (bare one.got)) (line_box number (bare l)) (line_boxes (number + 1) (bare_of rest.got)) (line_boxes (number + 1) (bare_of ls)) (one.box number) (rest.boxes (number + 1));
  pass = λ phases. (λ i. one.pass phases i >>= λ next. rest.pass next i);
  is = ap (λ t. read told k (lines_of t)) (append_assoc (line_bytes l) (trace_bytes ls) tail)
      ∙ (one.step told k (trace_bytes ls ++ tail) ∙ (rest.is ∙ ap (λ t. read t rest.at (lines_of tail)) (append_assoc told (one.got ∷ []) rest.got)));
}

trace-reads : (lines : List Line) → LinesFit lines → LinesHaveWords lines → (told : List Line) (k : ℕ) (tail : List ℕ) → TraceReads lines told k tail
unfolding finish-reads
trace-reads [] f w told k tail = record { got = []; at = k; boxes = λ number. refl; pass = λ phases. refl; is = ap (λ t. read t k (lines_of tail)) (sym (append-nil told)) }
trace-reads (Of n said ∷ ls) f w told k tail =
    let one = turn-reads n said f.0 (said-reads said w.0 f.1) in
    one-more (Of n said) ls told k tail one (trace-reads ls f.2 w.1 (told ++ one.got ∷ []) (k + 1) tail)
trace-reads (Finish ∷ ls) f w told k tail = one-more Finish ls told k tail finish-reads (trace-reads ls f w (told ++ Finish ∷ []) (k + 1) tail)

-- the report that follows

report-lines : (rest : List ℕ) → lines_of (codes "report 1\n" ++ rest) ≡ whole_line (codes "report 1") ∷ lines_of rest
report-lines rest = lines_of-first (codes "report 1") rest (joined-lacks (codes "report" ∷ codes "1" ∷ []) (seen (codes "report") refl, (seen (codes "1") refl, tt)))

title-read : (told : List Line) (k : ℕ) (ls : List TextLine) → read told k (whole_line (codes "report 1") ∷ ls) ≡ reported told k (report_of (unlines (whole_line (codes "report 1") ∷ ls)))
title-read told k ls = refl

titled-read : (told : List Line) (k : ℕ) (rest : List ℕ) → read told k (lines_of (codes "report 1\n" ++ rest)) ≡ reported told k (report_of (codes "report 1\n" ++ rest))
titled-read told k rest =
    ap (read told k) (report-lines rest)
    ∙ (title-read told k (lines_of rest) ∙ ap (λ t. reported told k (report_of t)) (ap unlines (sym (report-lines rest)) ∙ unlines-lines_of (codes "report 1\n" ++ rest)))

report-read : ReportIsRead → (told : List Line) (k : ℕ) (r : Report) → IsReadable r → length (report_bytes r) ≤ MAX_REPORT → read told k (lines_of (report_bytes r)) ≡ Ok told
report-read law told k r readable le =
    titled-read told k (row_lines r.rows ++ (memory_lines r.memory ++ codes "end\n")) ∙ ap (reported told k) (law r readable le)

-- the full clock that follows

clock-words : (w : List ℕ) (n : ℕ) → number_of w ≡ Some n → is_full_clock (codes "clock" ∷ codes "full" ∷ w ∷ []) ≡ true
clock-words w n x = rw x refl

last-read : (told : List Line) (k : ℕ) (bytes : List ℕ) → is_title bytes ≡ false → is_full_clock (words_of bytes) ≡ true → read told k (whole_line bytes ∷ []) ≡ Ok told
last-read told k bytes title full = rw (title, full) refl

clock-read : (told : List Line) (k n : ℕ) → IsWord n → read told k (lines_of (codes "clock full " ++ (decimal n ++ codes "\n"))) ≡ Ok told
clock-read told k n f =
    let words : List (List ℕ) = codes "full" ∷ decimal n ∷ [] in
    let visible : AllVisible (codes "clock" ∷ words) = (seen (codes "clock") refl, (seen (codes "full") refl, (visible-decimal n f, tt))) in
    ap (read told k) (lines_of-first (joined (codes "clock" ∷ words)) [] (joined-lacks (codes "clock" ∷ words) visible))
    ∙ last-read told k (joined (codes "clock" ∷ words)) refl (ap is_full_clock (words_of-joined (codes "clock") words visible) ∙ clock-words (decimal n) n (number_of-decimal n f))

short : (text : List ℕ) → length text ≤ MOST_DRAWN → trace_of text ≡ read [] 1 (lines_of text)
short text le = let p : ltb MOST_DRAWN (length text) ≡ false = grind (arith, nat_tests) in rw p refl

tail-read : ReportIsRead → (told : List Line) (k : ℕ) (tail : List ℕ) → IsTail tail → length tail ≤ MAX_REPORT → read told k (lines_of tail) ≡ Ok told
tail-read law told k tail (inl t) le = ap (λ x. read told k (lines_of x)) t.2 ∙ report-read law told k t.0 t.1 (subst (λ (x : List ℕ). length x ≤ MAX_REPORT) t.2 le)
tail-read law told k tail (inr t) le = ap (λ x. read told k (lines_of x)) t.2 ∙ clock-read told k t.0 t.1

tail-short : (text tail : List ℕ) → length (text ++ tail) ≤ MOST_DRAWN → length tail ≤ MAX_REPORT
tail-short text tail le = let both = length-append text tail in omega (arith, both, le)

pub trace-is-drawn : ReportIsRead → TraceIsDrawn
trace-is-drawn law lines tail fits words end le =
    let r = trace-reads lines fits words [] 1 tail in
    (r.got, short (trace_bytes lines ++ tail) le ∙ (r.is ∙ tail-read law r.got r.at tail end (tail-short (trace_bytes lines) tail le)), r.boxes 1)

-- where each of the lines may come, so may each that is read
pub trace-is-walked : ReportIsRead → (lines : List Line) (tail : List ℕ) → LinesFit lines → LinesHaveWords lines → IsTail tail → length (trace_bytes lines ++ tail) ≤ MOST_DRAWN
    → (last : List Phase) → passed_all first_phases lines ≡ Some last → IsDrawnAlone (trace_bytes lines ++ tail) lines
trace-is-walked law lines tail fits words end le last pass =
    let r = trace-reads lines fits words [] 1 tail in (
      r.got,
      short (trace_bytes lines ++ tail) le ∙ (r.is ∙ tail-read law r.got r.at tail end (tail-short (trace_bytes lines) tail le)),
      r.boxes 1,
      walks-alone r.got [] 1 first_phases last (r.pass first_phases ∙ pass),
    )
