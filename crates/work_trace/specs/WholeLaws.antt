-- THE WHOLE: its phases, one after the other, are a trace that fits; and so is a part that a full clock ended.
use Rattle.std.proofs.Common.{ℕ, ◌≡◌, List, [], ◌∷◌, ◌++◌, sym, ap, ◌∙◌, subst, append_assoc, inl, inr}
use Rattle.std.specs.Prelude.{All, IsPermutation, ◌⊎◌}
use Rattle.work_script.specs.declared.report.Row.{Row}
use Rattle.work_script.specs.declared.workload.Go.{Go}
use Rattle.work_script.specs.declared.workload.Header.{Header}
use Rattle.work_trace.specs.declared.line.Line.{Line}
use Rattle.work_trace.specs.declared.line.Line.TheVariants.{Of, Finish}
use Rattle.work_trace.specs.declared.said.Phase.TheVariants.{Between}
use Rattle.work_trace.specs.Fits.{Path, IsCalm, callers, turns, Rising, IsWhole, IsCut, Scheduled, Winding, Finishing, AreOverBelow, all_told}
use Rattle.work_trace.specs.Places.{CallerProgress}
use Rattle.work_trace.specs.Played.{Played, Halted, EndsFull}
use Rattle.work_trace.specs.PlayLaws.{calm-append}
use Rattle.work_trace.specs.TurnLaws.{rising-first}
use Rattle.work_trace.specs.Turns.{MaySay, MayWind, MayFinish, IsOver}

-- calm lines, and then some that end by a full clock
abbrev pub full-behind : (xs ys : List Line) (clock : ℕ) → IsCalm xs → EndsFull ys clock → EndsFull (xs ++ ys) clock
full-behind xs ys clock calm e = record {
  before = xs ++ e.before;
  caller = e.caller;
  said = e.said;
  parts = ap (λ w. xs ++ w) e.parts ∙ sym (append_assoc xs e.before (Of e.caller e.said ∷ []));
  calm = calm-append xs e.before calm e.calm;
  full = e.full;
}

-- h is the header; the places at the start, after the schedule, after the winding, and at the end
module _ (h : Header) (ps qs rs ss : List CallerProgress) (schedule : List Go) where
  scheduled-cut : (c : List Line) (clock : ℕ) (p : Halted h MaySay ps qs [] c (turns schedule) clock) → Scheduled h ps schedule c qs
  scheduled-cut c clock p = record {
    path = subst (λ ls. Path h MaySay ps ls qs) (sym p.lines) p.path;
    later = p.later;
    order = ap (λ ls. callers ls ++ p.later) p.lines ∙ p.turned;
  }

  cut-as : (c d : List Line) (clock : ℕ) (now : List CallerProgress) → c ≡ d → (f : EndsFull d clock)
      → Scheduled h ps schedule c now ⊎ (Finishing h ps schedule c now × AreOverBelow f.caller now) → IsCut h ps schedule c clock
  cut-as c d clock now e f r = record {
    before = f.before;
    caller = f.caller;
    said = f.said;
    parts = e ∙ f.parts;
    calm = f.calm;
    full = f.full;
    now = now;
    reached = r;
  }

  -- the clock was full in the schedule
  pub cut-in-schedule : (c : List Line) (clock : ℕ) → Halted h MaySay ps qs [] c (turns schedule) clock → IsCut h ps schedule c clock
  cut-in-schedule c clock p = cut-as c p.more clock qs p.lines p.full (inl (scheduled-cut c clock p))

  module _ (a : List Line) (p : Played h MaySay ps qs [] a (turns schedule)) where
    two : (b more : List Line) → b ≡ (a ++ Finish ∷ []) ++ more → b ≡ p.more ++ (Finish ∷ more)
    two b more e = e ∙ (append_assoc a (Finish ∷ []) more ∙ ap (λ w. w ++ (Finish ∷ more)) p.lines)

    winding : (b more : List Line) → b ≡ (a ++ Finish ∷ []) ++ more → Path h MayWind qs more rs → Rising 0 (callers more) → Winding h ps schedule b rs
    winding b more e path rises = record {
      first = p.more;
      second = more;
      parts = two b more e;
      middle = qs;
      played = p.path;
      order = p.turned;
      path = path;
      rises = rises;
    }

    module _ (b : List Line) (second : List ℕ) (q : Played h MayWind qs rs (a ++ Finish ∷ []) b second) (rises : Rising 0 second)
        (closed : All (λ (at : CallerProgress). at.phase ≡ Between) rs) where
      wound : Winding h ps schedule b rs
      wound = winding b q.more q.lines q.path (subst (Rising 0) (sym q.turned) rises)

      wound-calm : IsCalm (p.more ++ (Finish ∷ q.more))
      wound-calm = calm-append p.more (Finish ∷ q.more) p.calm q.calm

      three : (c more : List Line) → c ≡ b ++ more → c ≡ (p.more ++ (Finish ∷ q.more)) ++ more
      three c more e = e ∙ ap (λ w. w ++ more) (two b q.more q.lines)

      finishing : (c more : List Line) → c ≡ b ++ more → Path h MayFinish rs more ss → Rising 0 (callers more) → Finishing h ps schedule c ss
      finishing c more e path rise = record { first = b; second = more; parts = e; middle = rs; wound = wound; closed = closed; path = path; rises = rise }

      -- the clock was full in the turns to the end
      pub cut-in-finishing : (c : List Line) (third : List ℕ) (clock : ℕ) (r : Halted h MayFinish rs ss b c third clock)
          → Rising 0 third → AreOverBelow r.full.caller ss → IsCut h ps schedule c clock
      cut-in-finishing c third clock r rise over =
          cut-as c ((p.more ++ (Finish ∷ q.more)) ++ r.more) clock ss (three c r.more r.lines)
          (full-behind (p.more ++ (Finish ∷ q.more)) r.more clock wound-calm r.full)
          (inr (finishing c r.more r.lines r.path (rising-first 0 (callers r.more) r.later (subst (Rising 0) (sym r.turned) rise)), over))

      -- the schedule, `finish`, the ends of attempts and closings, and the turns to the end
      pub whole-fits : (c : List Line) (third : List ℕ) (rows : List Row) → Played h MayFinish rs ss b c third → Rising 0 third
          → All IsOver ss → IsPermutation (all_told ss) rows → IsWhole h ps schedule c rows
      whole-fits c third rows r rise over told = record {
        calm = subst IsCalm (sym (three c r.more r.lines)) (calm-append (p.more ++ (Finish ∷ q.more)) r.more wound-calm r.calm);
        now = ss;
        finished = finishing c r.more r.lines r.path (subst (Rising 0) (sym r.turned) rise);
        over = over;
        told = told;
      }
