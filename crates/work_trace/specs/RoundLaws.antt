-- Each caller's turns, one caller after the other.
use Rattle.std.proofs.Common.{ℕ, zero, suc, ◌≡◌, ◌<◌, ◌≤◌, List, [], ◌∷◌, ◌++◌, length, sym, ap, ◌∙◌, arith, append_assoc, subst, inl, inr}
use Rattle.std.specs.Prelude.{replicate, All, IsPermutation, ◌⊎◌}
use Rattle.std.proofs.lemmas.Bool.{cases_eq}
use Rattle.std.proofs.lemmas.List.Elements.{All-from_get_or}
use Rattle.work_script.specs.declared.report.Row.{Row}
use Rattle.work_script.specs.declared.workload.Go.{Go}
use Rattle.work_script.specs.declared.workload.Header.{Header}
use Rattle.work_trace.specs.declared.line.Line.TheVariants.{Of, Finish}
use Rattle.work_trace.specs.declared.said.Phase.TheVariants.{Between}
use Rattle.work_trace.specs.Turns.{MaySay, MayWind, MayFinish, IsOver}
use Rattle.work_trace.specs.WholeLaws.{cut-in-finishing, whole-fits}
use Rattle.work_trace.specs.declared.line.Line.{Line}
use Rattle.work_trace.specs.declared.said.Said.{Said}
use Rattle.work_trace.specs.Fits.{Path, callers, place_of, no_place, Rising, turns, all_told, IsWhole, IsCut}
use Rattle.work_trace.specs.Places.{CallerProgress}
use Rattle.work_trace.specs.Played.{Played, Halted}
use Rattle.work_trace.specs.PlayLaws.{append-nil, callers-append, path-others, played-none, played-append, halted-append, silent-replicate, silent-first, IsSilent}
use Rattle.work_trace.specs.TurnLaws.{InTurn, in_turn-none, in_turn-next, rises-next}

-- where all turns are caller n's, each is
each-turn : (xs : List ℕ) (x : ℕ) (ys : List ℕ) (j n : ℕ) → xs ++ (x ∷ ys) ≡ replicate j n → x ≡ n
each-turn [] x ys zero n e = absurd cc
each-turn [] x ys (suc j) n e = cc
each-turn (y ∷ xs) x ys zero n e = absurd cc
each-turn (y ∷ xs) x ys (suc j) n e = each-turn xs x ys j n (let t : xs ++ (x ∷ ys) ≡ replicate j n = cc in t)

module _ (h : Header) (may : CallerProgress → Said → Type 0) (holds : CallerProgress → Type 0) where
  -- a full clock came in the turns of a caller, and so each caller below it now stands
  pub record HaltedRound (places now : List CallerProgress) (old new : List Line) (clock : ℕ) : Type 0 where
    pub order : List ℕ
    pub halted : Halted h may places now old new order clock
    pub rises : Rising 0 order
    pub below : (k : ℕ) → k < halted.full.caller → holds (place_of now k)

  -- the callers below n took their turns, and so each of them now stands
  pub record WentRound (n : ℕ) (places now : List CallerProgress) (old new : List Line) : Type 0 where
    pub order : List ℕ
    pub played : Played h may places now old new order
    pub in_turn : InTurn n order
    pub each : (k : ℕ) → k < n → holds (place_of now k)

  pub round-none : (places : List CallerProgress) (lines : List Line) → WentRound 0 places places lines lines
  round-none places lines = record { order = []; played = played-none h may places lines; in_turn = in_turn-none; each = λ k lt. absurd (omega (arith, lt)) }

  module _ (n j : ℕ) (ps qs rs : List CallerProgress) (a b c : List Line) (round : WentRound n ps qs a b) where
    -- in turns that are all caller n's those below it stand as they did
    below-stay : (more : List Line) (later : List ℕ) → Path h may qs more rs → callers more ++ later ≡ replicate j n → (k : ℕ) → k < n → holds (place_of rs k)
    below-stay more later path turned k lt =
        let silent = silent-first k (callers more) later (subst (IsSilent k) (sym turned) (silent-replicate k n j (λ e. absurd (omega (arith, lt, e))))) in
        subst holds (sym (path-others h may qs more rs k path silent)) (round.each k lt)

    each-of : Played h may qs rs b c (replicate j n) → holds (place_of rs n) → (k : ℕ) → k < suc n → (k ≡ n) ⊎ (k ≡ n → ⊥) → holds (place_of rs k)
    each-of p here k lt (inl e) = subst (λ (i : ℕ). holds (place_of rs i)) (sym e) here
    each-of p here k lt (inr other) =
        below-stay p.more [] p.path (append-nil (callers p.more) ∙ p.turned) k (omega (arith, lt, other))

    -- the next caller's turns
    pub round-next : Played h may qs rs b c (replicate j n) → holds (place_of rs n) → WentRound (suc n) ps rs a c
    round-next p here = record {
      order = round.order ++ replicate j n;
      played = played-append h may ps qs rs a b c round.order (replicate j n) round.played p;
      in_turn = in_turn-next n j round.order round.in_turn;
      each = λ k lt. each-of p here k lt (cases_eq k n);
    }

    -- it was caller n that found the clock full
    halted-at : (clock : ℕ) (p : Halted h may qs rs b c (replicate j n) clock) → p.full.caller ≡ n
    halted-at clock p =
        let f = p.full in
        each-turn (callers f.before) f.caller p.later j n
        (sym (append_assoc (callers f.before) (f.caller ∷ []) p.later)
        ∙ (ap (λ (w : List ℕ). w ++ p.later) (sym (callers-append f.before (Of f.caller f.said ∷ [])))
        ∙ (ap (λ (ls : List Line). callers ls ++ p.later) (sym f.parts) ∙ p.turned)))

    -- a full clock came in them
    pub round-halted : (clock : ℕ) → Halted h may qs rs b c (replicate j n) clock → HaltedRound ps rs a c clock
    round-halted clock p = record {
      order = round.order ++ replicate j n;
      halted = halted-append h may ps qs rs a b c round.order (replicate j n) clock round.played p;
      rises = rises-next n j round.order round.in_turn;
      below = λ k lt. below-stay p.more p.later p.path p.turned k (subst (λ (i : ℕ). k < i) (halted-at clock p) lt);
    }

  -- all callers took theirs
  pub round-all : (n : ℕ) (places now : List CallerProgress) (old new : List Line) → WentRound n places now old new → length now ≤ n → All holds now
  round-all n places now old new round most = All-from_get_or holds now no_place (λ k lt. round.each k (omega (arith, lt, most)))

-- THE WHOLE of a driver: the schedule, `finish`, a round that ends attempts and closings, and a round to the end
module _ (h : Header) (ps qs rs ss : List CallerProgress) (schedule : List Go) (a b c : List Line) (n : ℕ)
    (played : Played h MaySay ps qs [] a (turns schedule)) where
  module _ (wound : WentRound h MayWind (λ (at : CallerProgress). at.phase ≡ Between) n qs rs (a ++ Finish ∷ []) b) (most : length rs ≤ n) where
    closed : All (λ (at : CallerProgress). at.phase ≡ Between) rs
    closed = round-all h MayWind (λ (at : CallerProgress). at.phase ≡ Between) n qs rs (a ++ Finish ∷ []) b wound most

    pub rounds-cut : (clock : ℕ) → HaltedRound h MayFinish IsOver rs ss b c clock → IsCut h ps schedule c clock
    rounds-cut clock r = cut-in-finishing h ps qs rs ss schedule a played b wound.order wound.played wound.in_turn.rises closed c r.order clock r.halted r.rises r.below

    pub rounds-fit : (rows : List Row) → WentRound h MayFinish IsOver n rs ss b c → length ss ≤ n → IsPermutation (all_told ss) rows → IsWhole h ps schedule c rows
    rounds-fit rows r over told =
        whole-fits h ps qs rs ss schedule a played b wound.order wound.played wound.in_turn.rises closed c r.order rows r.played r.in_turn.rises
        (round-all h MayFinish IsOver n rs ss b c r over) told
