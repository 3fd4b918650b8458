-- Laws of what came of attempts.
use Rattle.std.proofs.Common.{ℕ, zero, suc, ◌≡◌, ◌≢◌, ◌<◌, ◌+◌, ◌∙◌, List, [], ◌∷◌, ◌++◌, Bool, true, false, refl, sym, ap, subst, arith, inl, inr, append_assoc}
use Rattle.std.specs.Prelude.{◌⊎◌, ◌&&◌, ◌||◌, not, leb, min, Option, Some, None, Ok, Err, OnErr, MatchResult}
use Rattle.std.specs.declared.result.Result.{Result}
use Rattle.std.proofs.lemmas.Bool.Decides.{nat_tests}
use Rattle.std.proofs.lemmas.List.Elements.{Contains-append_left}
use Rattle.stm_model.specs.declared.config.Config.{Config}
use Rattle.stm_model.specs.declared.stop.Stop.{Stop}
use Rattle.stm_model.specs.declared.stop.Stop.TheVariants as stops
use Rattle.rule_base.specs.declared.layout.At.{At}
use Rattle.rule_base.specs.declared.layout.At.TheVariants.{Clock}
use Rattle.stm_model.specs.declared.alg.Alg.{Alg}
use Rattle.stm_answers.specs.declared.answers.Begin.{Begin}
use Rattle.stm_answers.specs.declared.answers.Begin.TheVariants as begins
use Rattle.stm_answers.specs.declared.answers.Commit.{Commit}
use Rattle.stm_answers.specs.declared.answers.Commit.TheVariants as commits
use Rattle.stm_answers.specs.declared.answers.Irrev.{Irrev}
use Rattle.stm_answers.specs.declared.answers.Irrev.TheVariants as grants
use Rattle.stm_answers.specs.Answers.{Begins, Commits, Irrevs, Stops}
use Rattle.stm_answers.specs.Causes.{FindsFull}
use Rattle.stm_answers.specs.Evidence.{Found}
use Rattle.stm_answers.specs.CallerState.{CallerState, Grows, is_irrevocable}
use Rattle.stm_answers.specs.CallerStateLaws.{carries-refl, grows-trans}
use Rattle.stm_tx.specs.declared.live.Halt.{Halt}
use Rattle.stm_tx.specs.Descs.{Since, address_of, stop_of}
use Rattle.tx_atomic.specs.declared.tally.Ended.{Ended}
use Rattle.tx_atomic.specs.declared.tally.Ended.TheVariants as ends
use Rattle.tx_atomic.specs.Accounts.{Account, ended_in, met_times, promoted_in, told}
use Rattle.tx_atomic.specs.Attempts.{ended_by}
use Rattle.tx_atomic.specs.AttemptLaws.{irrevs-grow, commits-grow}
use Rattle.tx_atomic.specs.Extends.{Extends}
use Rattle.tx_atomic.specs.ExtendsLaws.{grows-extends}
use Rattle.tx_atomic.specs.Tallies.{failed_after}
use Rattle.tx_atomic.specs.Tries.{Try, Round, EndsBegin, EndsPromotion, EndsAccess, EndsCommit, EndsRun, IsGranted, FindsBusy, FindsAgain, HasBegun, WasTried, Tried, Ran, RanAgain, HaveRun, Failing, Opens, Asks, IsStopped, IsTurnedBack, Finishes, Runs, has_committed, tried, counted_all, ran_full, was_crossed, any_short, crossed, Prepares}

pub grows-refl : (v : CallerState) → Grows v v
grows-refl v = (carries-refl v).grows

pub found-earlier : (p : At) (x : ℕ) (u v w : CallerState) → Extends u v → Found p x v w → Found p x u w
found-earlier p x u v w g f = (f.0 ++ g.more, f.1 ∙ (ap (λ t. f.0 ++ t) g.step_trace ∙ sym (append_assoc f.0 g.more u.step_trace)), f.2, Contains-append_left f.0 g.more _ f.3)

pub full-earlier : (clock : ℕ) (u v w : CallerState) → Extends u v → FindsFull clock v w → FindsFull clock u w
full-earlier clock u v w g f = record { limit = f.limit; found = found-earlier Clock clock u v w g f.found; top = f.top }

some-same : {A : Type 0} {d e : A} → Some d ≡ Some e → d ≡ e
some-same is = cc

-- the count of those that another was in the way of says when the next one is due
due-full : (s : ℕ) (any : Bool) (k : ℕ) → leb 16 s ≡ (any || leb 16 k) → ((any || leb 16 k) ≡ false → s ≡ k)
    → (leb 16 (min (s + 1) 4294967295) ≡ (any || leb 16 (1 + k))) × ((any || leb 16 (1 + k)) ≡ false → min (s + 1) 4294967295 ≡ 1 + k)
due-full s true k due low = (grind (arith, nat_tests, due), λ less. absurd cc)
due-full s false k due low = by (leb 16 k) refl
  where
    by : (b : Bool) → leb 16 k ≡ b → (leb 16 (min (s + 1) 4294967295) ≡ leb 16 (1 + k)) × (leb 16 (1 + k) ≡ false → min (s + 1) 4294967295 ≡ 1 + k)
    by true is = (grind (arith, nat_tests, due, is), λ less. absurd (grind (arith, nat_tests, less, is)))
    by false is = let e : s ≡ k = low is in let lt : k < 16 = grind (arith, nat_tests, is) in
        (rw e (let m : min (k + 1) 4294967295 ≡ 1 + k = omega arith in rw m refl), λ less. omega arith)

module _ (good : List ℕ → Type 0) (c : Config) (n : ℕ) where
  -- the calls that left an attempt going
  pub busy-grows : (k : ℕ) (u v : CallerState) → FindsBusy good c n k u v → Grows u v
  busy-grows zero u v h = subst (λ (w : CallerState). Grows u w) (sym h) (grows-refl u)
  busy-grows (suc k) u v h = irrevs-grow good c n (grants.Busy h.2 h.3) u h.0 v (busy-grows k u h.0 h.1) h.4

  pub again-grows : (k : ℕ) (u v : CallerState) → FindsAgain good c n k u v → Grows u v
  again-grows zero u v h = subst (λ (w : CallerState). Grows u w) (sym h) (grows-refl u)
  again-grows (suc k) u v h = commits-grow good c n (commits.Again h.2 h.3 h.4) u h.0 v (again-grows k u h.0 h.1) h.5

  granted-grows : (irrevocable : Bool) (busy : ℕ) (u v : CallerState) → IsGranted good c n irrevocable busy u v → Grows u v
  granted-grows true busy u v h = irrevs-grow good c n grants.Granted u h.0 v (busy-grows busy u h.0 h.1) h.2
  granted-grows false busy u v h = subst (λ (w : CallerState). Grows u w) (sym h.1) (grows-refl u)

  -- an access that was stopped, as the end of its attempt
  stop-refused : (a : ℕ) (stop : Stop) (v w : CallerState) → Stops good c n a stop v w → EndsAccess good c n a (ended_by stop) v w
  stop-refused a (stops.Conflict cause) v w h = h
  stop-refused a (stops.Full limit) v w h = (limit, h)
  stop-refused a (stops.ClockFull clock) v w h = (clock, h)

  -- a clock that ended an attempt was found in it
  clock-found : (x : Try) (u w : CallerState) → x.ended ≡ Some ends.ClockFull → WasTried good c n x u w → (clock : ℕ) × FindsFull clock u w
  clock-found x u w full (inl t) = (h.0, h.1.3) where
    h : EndsBegin good c n ends.ClockFull u w
    h = let same : t.ended ≡ ends.ClockFull = some-same (sym t.is ∙ full) in subst (λ (e : Ended). EndsBegin good c n e u w) same t.last
  clock-found x u w full (inr (inl t)) = (h.0, full-earlier h.0 u t.asked w (grows-extends u t.asked (grows-trans u t.begun t.asked t.begins.1.grows (busy-grows x.busy t.begun t.asked t.busy))) h.1.2) where
    h : EndsPromotion good c n ends.ClockFull t.asked w
    h = let same : t.ended ≡ ends.ClockFull = some-same (sym t.is ∙ full) in subst (λ (e : Ended). EndsPromotion good c n e t.asked w) same t.last
  clock-found x u w full (inr (inr t)) = by x.at (subst (λ (o : Option Ended). EndsRun good c n x.at o t.before w) full t.last) where
    grew : Extends u t.before
    grew =
        let opened = grows-trans u t.begun t.opened t.begins.1.grows (granted-grows x.irrevocable x.busy t.begun t.opened t.granted) in
        grows-extends u t.before (grows-trans u t.acted t.before (grows-trans u t.opened t.acted opened t.acts) (again-grows x.again t.acted t.before t.again))

    by : (at : Option ℕ) → EndsRun good c n at (Some ends.ClockFull) t.before w → (clock : ℕ) × FindsFull clock u w
    by (Some a) h = (h.0, full-earlier h.0 u t.before w grew h.1.2)
    by None h = (h.0, full-earlier h.0 u t.before w grew h.1.3)

  module _ {H : Type 0} (hears : Ended → Option ℕ → H → H) where
    pub tried-full : (irrevocable : Bool) (s t : Account H) (u w : CallerState) → Tried good c n hears irrevocable (Some ends.ClockFull) u w s t → (clock : ℕ) × FindsFull clock u w
    tried-full irrevocable s t u w h = clock-found _ u w refl h.was

    -- none was tried yet
    pub failing-none : (v : CallerState) (s : Account H) → Failing good c n hears 0 v v s s
    failing-none v s = record { tries = []; were = refl; all = tt; counted = refl; due = refl; low = λ less. refl }

    -- how long logs may become stays
    met-most : (k : ℕ) (e : Ended) (a : Account H) → (met_times hears k e a).most ≡ a.most
    met-most zero e a = refl
    met-most (suc k) e a = met-most k e a

    promoted-most : (b : Bool) (a : Account H) → (promoted_in b a).most ≡ a.most
    promoted-most true a = refl
    promoted-most false a = refl

    told-most : (o : Option Ended) (at : Option ℕ) (a : Account H) → (told hears o at a).most ≡ a.most
    told-most None at a = refl
    told-most (Some e) at a = refl

    ended-most : (o : Option Ended) (a : Account H) → (ended_in o a).most ≡ a.most
    ended-most None a = refl
    ended-most (Some e) a = refl

    tried-most : (x : Try) (a : Account H) → (tried hears x a).most ≡ a.most
    tried-most x a =
        let begun = met_times hears x.busy ends.Busy a in
        let promoted = promoted_in (x.irrevocable && has_committed x.ended) begun in
        told-most x.ended x.at (met_times hears x.again ends.Again promoted)
        ∙ (met-most x.again ends.Again promoted ∙ (promoted-most (x.irrevocable && has_committed x.ended) begun ∙ met-most x.busy ends.Busy a))

    counted-most : (xs : List Round) (a : Account H) → (counted_all hears xs a).most ≡ a.most
    counted-most [] a = refl
    counted-most (x ∷ xs) a =
        let before = counted_all hears xs a in ended-most x.attempt.ended (tried hears x.attempt before) ∙ (tried-most x.attempt before ∙ counted-most xs a)

    pub ran-most : (last : Option Ended) (u w : CallerState) (s t : Account H) → Ran good c n hears last u w s t → t.most ≡ s.most
    ran-most last u w s t ran = ap (λ (a : Account H). a.most) ran.counted ∙ counted-most ran.tries s

    -- one more, which failed, and what was done after it
    pub failing-more : (failed failed' : ℕ) (irrevocable lengthened : Bool) (e : Ended) (u v over w : CallerState) (r s t : Account H) → e ≢ ends.ClockFull
        → irrevocable ≡ leb 16 failed → failed' ≡ failed_after lengthened failed e → Failing good c n hears failed u v r s
        → Tried good c n hears irrevocable (Some e) v over s t → Prepares t.most lengthened (Some e) over w
        → Failing good c n hears failed' u w r (ended_in (Some e) t)
    failing-more failed failed' irrevocable lengthened e u v over w r s t apart is after h x prepares = record {
      tries = record { attempt = this; lengthened = lengthened } ∷ h.tries;
      were = (v, h.were, over, x.was, is ∙ h.due, subst (λ m. Prepares m lengthened (Some e) over w) most prepares);
      all = ((e, refl, apart), h.all);
      counted = ap (ended_in (Some e)) counts;
      due = ap (λ f. leb 16 f) after ∙ (next lengthened e prepares).0;
      low = λ less. after ∙ (next lengthened e prepares).1 less;
    }
      where
        this : Try
        this = record { irrevocable = irrevocable; busy = x.busy; again = x.again; ended = Some e; at = x.at }

        counts : t ≡ tried hears this (counted_all hears h.tries r)
        counts = x.counted ∙ ap (λ (q : Account H). tried hears this q) h.counted

        most : t.most ≡ r.most
        most = ap (λ (a : Account H). a.most) counts ∙ (tried-most this (counted_all hears h.tries r) ∙ counted-most h.tries r)

        Counts : ℕ → ℕ → Type 0
        Counts f k = (leb 16 f ≡ (any_short h.tries || leb 16 (k + crossed h.tries))) × ((any_short h.tries || leb 16 (k + crossed h.tries)) ≡ false → f ≡ k + crossed h.tries)

        same : Counts failed 0
        same = let z : 0 + crossed h.tries ≡ crossed h.tries = omega arith in rw z (h.due, h.low)

        next : (b : Bool) (d : Ended) → Prepares t.most b (Some d) over w
            → (leb 16 (failed_after b failed d) ≡ (((ran_full (Some d) && not b) || any_short h.tries) || leb 16 (was_crossed (Some d) + crossed h.tries)))
            × ((((ran_full (Some d) && not b) || any_short h.tries) || leb 16 (was_crossed (Some d) + crossed h.tries)) ≡ false
            → failed_after b failed d ≡ was_crossed (Some d) + crossed h.tries)
        next true ends.Full p = same
        next true ends.Closed p = absurd (let no = p.0 in cc)
        next true ends.Held p = absurd (let no = p.0 in cc)
        next true ends.Fenced p = absurd (let no = p.0 in cc)
        next true (ends.Conflict cause) p = absurd (let no = p.0 in cc)
        next true ends.Busy p = absurd (let no = p.0 in cc)
        next true ends.Taken p = absurd (let no = p.0 in cc)
        next true ends.Again p = absurd (let no = p.0 in cc)
        next true ends.ClockFull p = absurd (let no = p.0 in cc)
        next false ends.Closed p = same
        next false ends.Held p = same
        next false ends.Fenced p = same
        next false (ends.Conflict cause) p = due-full failed (any_short h.tries) (crossed h.tries) h.due h.low
        next false ends.Full p = (refl, λ less. absurd cc)
        next false ends.Busy p = due-full failed (any_short h.tries) (crossed h.tries) h.due h.low
        next false ends.Taken p = due-full failed (any_short h.tries) (crossed h.tries) h.due h.low
        next false ends.Again p = due-full failed (any_short h.tries) (crossed h.tries) h.due h.low
        next false ends.ClockFull p = due-full failed (any_short h.tries) (crossed h.tries) h.due h.low

    -- the last one
    pub ran : (failed : ℕ) (irrevocable : Bool) (o : Option Ended) (u v w : CallerState) (r s t : Account H) → irrevocable ≡ leb 16 failed
        → Failing good c n hears failed u v r s → Tried good c n hears irrevocable o v w s t → Ran good c n hears o u w r (ended_in o t)
    ran failed irrevocable o u v w r s t is h x = record {
      tries = record { attempt = this; lengthened = false } ∷ h.tries;
      were = (v, h.were, w, x.was, is ∙ h.due, refl);
      ended = (refl, h.all);
      counted = ap (ended_in o) (x.counted ∙ ap (λ (q : Account H). tried hears this q) h.counted);
    }
      where
        this : Try
        this = record { irrevocable = irrevocable; busy = x.busy; again = x.again; ended = o; at = x.at }

    -- runs, one after the other
    pub run-more : (k : ℕ) (u v w : CallerState) (r s t : Account H) → HaveRun good c n hears k u v r s → Ran good c n hears None v w s t → HaveRun good c n hears (suc k) u w r t
    run-more k u v w r s t h ran = (v, s, h, ran)

    pub ran-again : (last : Option Ended) (u v w : CallerState) (r s t : Account H) → (k : ℕ) × HaveRun good c n hears k u v r s → Ran good c n hears last v w s t → RanAgain good c n hears last u w r t
    ran-again last u v w r s t h ran = record { before = h.0; since = v; account = s; runs = h.1; ran = ran }

    have-run-most : (k : ℕ) (u w : CallerState) (s t : Account H) → HaveRun good c n hears k u w s t → t.most ≡ s.most
    have-run-most zero u w s t h = ap (λ (a : Account H). a.most) h.1
    have-run-most (suc k) u w s t h = ran-most None h.0 w h.1 t h.3 ∙ have-run-most k u h.0 s h.1 h.2

    pub again-most : (last : Option Ended) (u w : CallerState) (s t : Account H) → RanAgain good c n hears last u w s t → t.most ≡ s.most
    again-most last u w s t h = ran-most last h.since w h.account t h.ran ∙ have-run-most h.before u h.since s h.account h.runs

    -- an attempt from its parts: it didn't begin
    pub tried-unbegun : (irrevocable : Bool) (e : Ended) (u w : CallerState) (s t : Account H) → IsTurnedBack good c n hears e u w s t → Tried good c n hears irrevocable (Some e) u w s t
    tried-unbegun irrevocable e u w s t h = by irrevocable
      where
        by : (i : Bool) → Tried good c n hears i (Some e) u w s t
        by true = record { busy = 0; again = 0; at = None; was = inl (record { busy = refl; again = refl; at = refl; ended = e; is = refl; last = h.last }); counted = h.counted }
        by false = record { busy = 0; again = 0; at = None; was = inl (record { busy = refl; again = refl; at = refl; ended = e; is = refl; last = h.last }); counted = h.counted }

    -- it was not made irrevocable
    pub tried-asked : (irrevocable : Bool) (e : Ended) (u v w : CallerState) (s t : Account H) → irrevocable ≡ true → HasBegun good c n u v → Asks good c n hears (Some e) v w s t → Tried good c n hears irrevocable (Some e) u w s t
    tried-asked true e u v w s t is b a =
        record {
          busy = a.busy;
          again = 0;
          at = None;
          was = inr (inl (record
              { irrevocable = refl; begun = v; begins = b; asked = a.asked; busy = a.waits; again = refl; at = refl; ended = e; is = refl; last = a.last }));
          counted = a.counted;
        }
    tried-asked false e u v w s t is b a = absurd cc

    -- it was
    pub opens-asked : (irrevocable : Bool) (u v w : CallerState) (s t : Account H) → irrevocable ≡ true → HasBegun good c n u v → Asks good c n hears None v w s t → Opens good c n hears irrevocable u w s t
    opens-asked true u v w s t is b a = record { busy = a.busy; begun = v; begins = b; granted = (a.asked, a.waits, a.last); counted = a.counted }
    opens-asked false u v w s t is b a = absurd cc

    -- it was not to be
    pub opens-plain : (irrevocable : Bool) (u w : CallerState) (t : Account H) → irrevocable ≡ false → HasBegun good c n u w → Opens good c n hears irrevocable u w t t
    opens-plain true u w t is b = absurd cc
    opens-plain false u w t is b = record { busy = 0; begun = w; begins = b; granted = (refl, refl); counted = refl }

    -- what it did was refused, at the address that the access keeps
    pub stopped : (stop : Stop) (o : Option Halt) (v w : CallerState) (s t : Account H) → stop_of o ≡ Some stop → Since good c n None v o w
        → t ≡ told hears (Some (ended_by stop)) (address_of o) s → IsStopped good c n hears (ended_by stop) v w s t
    stopped stop None v w s t is since counted = absurd cc
    stopped stop (Some halt) v w s t is since counted =
        let at = since.1 in
        let same : halt.stop ≡ stop = some-same is in
        record {
          before = at.before;
          goes = at.carries.grows;
          at = halt.at;
          last = stop-refused halt.at stop at.before w (subst (λ (x : Stop). Stops good c n halt.at x at.before w) same at.stops);
          counted = counted;
        }

    pub runs-stopped : (e : Ended) (u w : CallerState) (s t : Account H) → IsStopped good c n hears e u w s t → Runs good c n hears (Some e) u w s t
    runs-stopped e u w s t x = record { acted = x.before; acts = x.goes; again = 0; before = x.before; waits = refl; at = Some x.at; last = x.last; counted = x.counted }

    -- it did what it does, and asked to commit
    pub runs-finished : (o : Option Ended) (u v w : CallerState) (s t : Account H) → Grows u v → Finishes good c n hears o v w s t → Runs good c n hears o u w s t
    runs-finished o u v w s t grew f = record { acted = v; acts = grew; again = f.again; before = f.before; waits = f.waits; at = None; last = f.last; counted = f.counted }

    -- it ran
    tried-run : (irrevocable : Bool) (o : Option Ended) (u v w : CallerState) (r s t : Account H) → (irrevocable ≡ true → has_committed o ≡ true)
        → Opens good c n hears irrevocable u v r s → Runs good c n hears o v w s t → Tried good c n hears irrevocable o u w r t
    tried-run irrevocable o u v w r s t stays opens runs = record {
      busy = opens.busy;
      again = runs.again;
      at = runs.at;
      was =
          inr (inr (record {
            begun = opens.begun;
            begins = opens.begins;
            opened = v;
            granted = opens.granted;
            acted = runs.acted;
            acts = runs.acts;
            before = runs.before;
            again = runs.waits;
            last = runs.last;
            irrevocable = stays;
          }));
      counted = runs.counted ∙ ap (λ (a : Account H). told hears o runs.at (met_times hears runs.again ends.Again a)) (opens.counted ∙ promoted irrevocable o stays);
    }
      where
        promoted : (i : Bool) (p : Option Ended) → (i ≡ true → has_committed p ≡ true)
            → promoted_in i (met_times hears opens.busy ends.Busy r) ≡ promoted_in (i && has_committed p) (met_times hears opens.busy ends.Busy r)
        promoted true p h = rw (h refl) refl
        promoted false p h = refl

    -- by what the attempt answered
    pub tried-ran : {A E : Type 0} (result : Result A E) (irrevocable : Bool) (e : Ended) (u v w : CallerState) (r s t : Account H)
        → (irrevocable ≡ true → is_irrevocable v ≡ true) → OnErr result (is_irrevocable v ≡ false) → Opens good c n hears irrevocable u v r s
        → MatchResult result (λ _. Runs good c n hears None v w s t) (λ _. Runs good c n hears (Some e) v w s t)
        → MatchResult result (λ _. Tried good c n hears irrevocable None u w r t) (λ _. Tried good c n hears irrevocable (Some e) u w r t)
    tried-ran (Ok x) irrevocable e u v w r s t stays unrefused o runs = tried-run irrevocable None u v w r s t (λ is. refl) o runs
    tried-ran (Err y) irrevocable e u v w r s t stays unrefused o runs =
        tried-run irrevocable (Some e) u v w r s t (λ is.
        let yes : is_irrevocable v ≡ true = stays is in
        let no : is_irrevocable v ≡ false = unrefused in let wrong : true ≡ false = sym yes ∙ no in absurd cc) o runs

  -- one call more that left it going, made by the same caller
  pub busy-more : (k m : ℕ) (r : Irrev) (caller status : ℕ) (u v w : CallerState) → m ≡ n → FindsBusy good c n k u v → r ≡ grants.Busy caller status → Irrevs good c m r v w → FindsBusy good c n (suc k) u w
  busy-more k m r caller status u v w same h is x = (v, h, caller, status, subst (λ i. Irrevs good c i (grants.Busy caller status) v w) same (subst (λ a. Irrevs good c m a v w) is x))

  pub again-more : (k m : ℕ) (r : Commit) (word had now : ℕ) (u v w : CallerState) → m ≡ n → FindsAgain good c n k u v → r ≡ commits.Again word had now → Commits good c m r v w → FindsAgain good c n (suc k) u w
  again-more k m r word had now u v w same h is x = (v, h, word, had, now, subst (λ i. Commits good c i (commits.Again word had now) v w) same (subst (λ a. Commits good c m a v w) is x))

  -- the answers that end an attempt
  pub begin-closed : (r : Begin) (gate : ℕ) (v w : CallerState) → r ≡ begins.Closed gate → Begins good c n r v w → EndsBegin good c n ends.Closed v w
  begin-closed r gate v w is h = (gate, subst (λ a. Begins good c n a v w) is h)

  pub begin-held : (r : Begin) (word : ℕ) (v w : CallerState) → r ≡ begins.Held word → Begins good c n r v w → EndsBegin good c n ends.Held v w
  begin-held r word v w is h = (word, subst (λ a. Begins good c n a v w) is h)

  pub begin-full : (r : Begin) (clock : ℕ) (v w : CallerState) → r ≡ begins.ClockFull clock → Begins good c n r v w → EndsBegin good c n ends.ClockFull v w
  begin-full r clock v w is h = (clock, subst (λ a. Begins good c n a v w) is h)

  pub begin-fenced : (r : Begin) (alg : Alg) (v x w : CallerState) → r ≡ begins.Begun alg → Begins good c n r v x → x.fence ≢ 0 → Grows x w → EndsBegin good c n ends.Fenced v w
  begin-fenced r alg v x w is h some grows = (x, alg, subst (λ a. Begins good c n a v x) is h, some, grows)

  pub grant-taken : (r : Irrev) (gate : ℕ) (v x w : CallerState) → r ≡ grants.Taken gate → Irrevs good c n r v x → Grows x w → EndsPromotion good c n ends.Taken v w
  grant-taken r gate v x w is h grows = (x, gate, subst (λ a. Irrevs good c n a v x) is h, grows)

  pub grant-full : (r : Irrev) (clock : ℕ) (v w : CallerState) → r ≡ grants.ClockFull clock → Irrevs good c n r v w → EndsPromotion good c n ends.ClockFull v w
  grant-full r clock v w is h = (clock, subst (λ a. Irrevs good c n a v w) is h)

  pub commit-full : (r : Commit) (clock : ℕ) (v w : CallerState) → r ≡ commits.ClockFull clock → Commits good c n r v w → EndsCommit good c n ends.ClockFull v w
  commit-full r clock v w is h = (clock, subst (λ a. Commits good c n a v w) is h)

  pub commit-done : (r : Commit) (v w : CallerState) → ((t : ℕ) × (r ≡ commits.Committed t)) ⊎ ((t : ℕ) × (r ≡ commits.ReadOnly t)) → Commits good c n r v w → EndsRun good c n None None v w
  commit-done r v w (inl p) h = (p.0, inl (subst (λ a. Commits good c n a v w) p.1 h))
  commit-done r v w (inr p) h = (p.0, inr (subst (λ a. Commits good c n a v w) p.1 h))
