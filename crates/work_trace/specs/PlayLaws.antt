-- Some turns after others.
use Rattle.std.proofs.Common.{ℕ, zero, suc, ◌≡◌, ◌≢◌, ◌<◌, List, [], ◌∷◌, ◌++◌, length, get_or, set, refl, sym, ap, ◌∙◌, subst, append_assoc, true, false}
use Rattle.std.specs.Prelude.{map, Some, None, replicate}
use Rattle.std.proofs.lemmas.List.{length-map, get_or-map, map-set, length-set, get_or-set_other}
use Rattle.stm_model.specs.declared.stop.Stop.TheVariants as stops
use Rattle.work_script.specs.declared.workload.Header.{Header}
use Rattle.stm_answers.specs.declared.answers.Begin.TheVariants as begins
use Rattle.stm_answers.specs.declared.answers.Commit.TheVariants as commits
use Rattle.stm_answers.specs.declared.answers.Irrev.TheVariants as irrevs
use Rattle.work_trace.specs.declared.line.Line.{Line}
use Rattle.work_trace.specs.declared.line.Line.TheVariants.{Of, Finish}
use Rattle.work_trace.specs.declared.said.Said.{Said}
use Rattle.work_trace.specs.declared.said.Said.TheVariants.{TryBegin, Reply, Stopped, TryCancel, TryIrrevocable, TryCommit, TryClose, Looked, Installed, Reserved, Idle, Dropped, Reopened}
use Rattle.work_trace.specs.Fits.{Path, IsCalm, callers, place_of, no_place, says}
use Rattle.work_trace.specs.Places.{CallerProgress, after, clock_of, irrevocable}
use Rattle.work_trace.specs.Played.{Played, Halted, EndsFull}
use Rattle.work_trace.specs.Turns.{IsFair, IsOver, MaySay, MayWind, MayFinish}
use Rattle.work_trace.specs.declared.said.Phase.TheVariants.{Between, Inside}

pub append-nil : {A : Type 0} (xs : List A) → xs ++ [] ≡ xs
append-nil [] = refl
append-nil (x ∷ xs) = ap (λ w. x ∷ w) (append-nil xs)

pub callers-append : (xs ys : List Line) → callers (xs ++ ys) ≡ callers xs ++ callers ys
callers-append [] ys = refl
callers-append (Of n said ∷ xs) ys = ap (λ w. n ∷ w) (callers-append xs ys)
callers-append (Finish ∷ xs) ys = callers-append xs ys

pub calm-append : (xs ys : List Line) → IsCalm xs → IsCalm ys → IsCalm (xs ++ ys)
calm-append [] ys a b = b
calm-append (Of n said ∷ xs) ys a b = (a.0, calm-append xs ys a.1 b)
calm-append (Finish ∷ xs) ys a b = calm-append xs ys a b

-- who isn't at the end says what may be said while the schedule goes on
pub may-finish : (at : CallerProgress) (said : Said) → (IsOver at → ⊥) → MaySay at said → MayFinish at said
may-finish at (TryBegin b) still m = m
may-finish at (Reply op reply) still m = m
may-finish at (Stopped op stop) still m = m
may-finish at (TryCancel c) still m = m
may-finish at (TryIrrevocable r) still m = m
may-finish at (TryCommit c) still m = m
may-finish at (TryClose c) still m = m
may-finish at (Looked l) still m = m
may-finish at (Installed alg) still m = m
may-finish at (Reserved reads writes) still m = m
may-finish at Idle still m = absurd (still m)
may-finish at Dropped still m = m
may-finish at Reopened still m = m

-- who can't cancel its open attempt says the same once the schedule is over
pub may-wind : (at : CallerProgress) (said : Said) → at.phase ≡ Inside → irrevocable at ≡ true → MaySay at said → MayWind at said
may-wind at (TryBegin b) here is m = (here, is, m)
may-wind at (Reply op reply) here is m = (here, is, m)
may-wind at (Stopped op stop) here is m = (here, is, m)
may-wind at (TryCancel c) here is m = (here, is, m)
may-wind at (TryIrrevocable r) here is m = (here, is, m)
may-wind at (TryCommit c) here is m = (here, is, m)
may-wind at (TryClose c) here is m = (here, is, m)
may-wind at (Looked l) here is m = (here, is, m)
may-wind at (Installed alg) here is m = (here, is, m)
may-wind at (Reserved reads writes) here is m = (here, is, m)
may-wind at Idle here is m = (here, is, m)
may-wind at Dropped here is m = absurd m
may-wind at Reopened here is m = absurd m

-- no turn is the caller's
abbrev pub IsSilent : ℕ → List ℕ → Type 0
IsSilent k [] = Unit {0}
IsSilent k (n ∷ ns) = (k ≢ n) × IsSilent k ns

pub silent-replicate : (k n turns : ℕ) → k ≢ n → IsSilent k (replicate turns n)
silent-replicate k n zero other = tt
silent-replicate k n (suc turns) other = (other, silent-replicate k n turns other)

pub silent-first : (k : ℕ) (xs ys : List ℕ) → IsSilent k (xs ++ ys) → IsSilent k xs
silent-first k [] ys s = tt
silent-first k (x ∷ xs) ys s = (s.0, silent-first k xs ys s.1)

-- who can't be cancelled is not refused, and so never meets a full clock
wind-calm : (h : Header) (at : CallerProgress) (said : Said) (clock : ℕ) → MayWind at said → IsFair h at said → clock_of said ≡ Some clock → ⊥
wind-calm h at (TryBegin (begins.Begun alg)) clock m f e = absurd cc
wind-calm h at (TryBegin (begins.Closed gate)) clock m f e = absurd cc
wind-calm h at (TryBegin (begins.Held word)) clock m f e = absurd cc
wind-calm h at (TryBegin (begins.ClockFull c)) clock m f e = absurd (let b : Between ≡ Inside = sym m.2.0 ∙ m.0 in cc)
wind-calm h at (Reply op reply) clock m f e = absurd cc
wind-calm h at (Stopped op (stops.Conflict cause)) clock m f e = absurd cc
wind-calm h at (Stopped op (stops.Full limit)) clock m f e = absurd cc
wind-calm h at (Stopped op (stops.ClockFull c)) clock m f e = absurd (let b : true ≡ false = sym m.1 ∙ f.0 in cc)
wind-calm h at (TryCancel c) clock m f e = absurd cc
wind-calm h at (TryIrrevocable irrevs.Granted) clock m f e = absurd cc
wind-calm h at (TryIrrevocable (irrevs.Busy caller status)) clock m f e = absurd cc
wind-calm h at (TryIrrevocable (irrevs.Taken gate)) clock m f e = absurd cc
wind-calm h at (TryIrrevocable (irrevs.Conflict cause)) clock m f e = absurd cc
wind-calm h at (TryIrrevocable (irrevs.ClockFull c)) clock m f e = absurd (let b : true ≡ false = sym m.1 ∙ f.0 in cc)
wind-calm h at (TryCommit (commits.Committed time)) clock m f e = absurd cc
wind-calm h at (TryCommit (commits.ReadOnly time)) clock m f e = absurd cc
wind-calm h at (TryCommit (commits.Conflict cause)) clock m f e = absurd cc
wind-calm h at (TryCommit (commits.Again word had now)) clock m f e = absurd cc
wind-calm h at (TryCommit (commits.ClockFull c)) clock m f e = absurd (let b : true ≡ false = sym m.1 ∙ f.0 in cc)
wind-calm h at (TryClose c) clock m f e = absurd cc
wind-calm h at (Looked l) clock m f e = absurd cc
wind-calm h at (Installed alg) clock m f e = absurd cc
wind-calm h at (Reserved reads writes) clock m f e = absurd cc
wind-calm h at Idle clock m f e = absurd cc
wind-calm h at Dropped clock m f e = absurd cc
wind-calm h at Reopened clock m f e = absurd cc

path-calm : (h : Header) (places : List CallerProgress) (before : List Line) (n : ℕ) (said : Said) (last : List CallerProgress) (clock : ℕ)
    → Path h MayWind places (before ++ Of n said ∷ []) last → clock_of said ≡ Some clock → ⊥
path-calm h places [] n said last clock p full = wind-calm h (place_of places n) said clock p.1 p.2 full
path-calm h places (Of k s ∷ before) n said last clock p full = path-calm h (says places k s) before n said last clock p.3 full
path-calm h places (Finish ∷ before) n said last clock p full = absurd p

-- so no turn after the schedule finds it full until nothing is open
pub never-full : (h : Header) (places : List CallerProgress) (lines : List Line) (last : List CallerProgress) (clock : ℕ) → Path h MayWind places lines last → EndsFull lines clock → ⊥
never-full h places lines last clock p f = path-calm h places f.before f.caller f.said last clock (subst (λ (ls : List Line). Path h MayWind places ls last) f.parts p) f.full

module _ (h : Header) (may : CallerProgress → Said → Type 0) where
  pub path-append : (places : List CallerProgress) (xs : List Line) (mid : List CallerProgress) (ys : List Line) (last : List CallerProgress)
      → Path h may places xs mid → Path h may mid ys last → Path h may places (xs ++ ys) last
  path-append places [] mid ys last a b = subst (λ s. Path h may s ys last) (sym a) b
  path-append places (Of n said ∷ xs) mid ys last a b = (a.0, a.1, a.2, path-append (says places n said) xs mid ys last a.3 b)
  path-append places (Finish ∷ xs) mid ys last a b = absurd a

  -- no caller comes or goes
  pub path-length : (places : List CallerProgress) (lines : List Line) (last : List CallerProgress) → Path h may places lines last → length last ≡ length places
  path-length places [] last a = ap (λ ps. length ps) (sym a)
  path-length places (Of n said ∷ lines) last a = path-length (says places n said) lines last a.3 ∙ length-set places n (after (place_of places n) said)
  path-length places (Finish ∷ lines) last a = absurd a

  -- who says nothing stays where it stands
  pub path-others : (places : List CallerProgress) (lines : List Line) (last : List CallerProgress) (k : ℕ) → Path h may places lines last → IsSilent k (callers lines) → place_of last k ≡ place_of places k
  path-others places [] last k a others = ap (λ ps. place_of ps k) (sym a)
  path-others places (Of n said ∷ lines) last k a others = path-others (says places n said) lines last k a.3 others.1 ∙ get_or-set_other places n k (after (place_of places n) said) no_place others.0
  path-others places (Finish ∷ lines) last k a others = absurd a

  -- one turn of one of many, whatever they are, of which f tells the place
  pub path-one : {W : Type 0} (f : W → CallerProgress) (ws : List W) (n : ℕ) (d w : W) (said : Said)
      → n < length ws → may (f (get_or ws n d)) said → IsFair h (f (get_or ws n d)) said → f w ≡ after (f (get_or ws n d)) said
      → Path h may (map f ws) (Of n said ∷ []) (map f (set ws n w))
  path-one f ws n d w said lt here fair now =
      let e : place_of (map f ws) n ≡ f (get_or ws n d) = get_or-map f ws n d no_place lt in
      let next = ap (λ a. set (map f ws) n a) (ap (λ a. after a said) e ∙ sym now) ∙ sym (map-set f ws n w) in
      (subst (λ k. n < k) (sym (length-map ws f)) lt, subst (λ a. may a said) (sym e) here, subst (λ a. IsFair h a said) (sym e) fair, next)

  pub played-none : (places : List CallerProgress) (lines : List Line) → Played h may places places lines lines []
  played-none places lines = record { more = []; lines = sym (append-nil lines); path = refl; turned = refl; calm = tt }

  module _ {W : Type 0} (f : W → CallerProgress) (ws : List W) (n : ℕ) (d w : W) (said : Said) (old new : List Line)
      (lt : n < length ws) (here : may (f (get_or ws n d)) said) (fair : IsFair h (f (get_or ws n d)) said) (now : f w ≡ after (f (get_or ws n d)) said)
      (lines : new ≡ old ++ Of n said ∷ []) where
    pub played-one : clock_of said ≡ None → Played h may (map f ws) (map f (set ws n w)) old new (n ∷ [])
    played-one calm = record { more = Of n said ∷ []; lines = lines; path = path-one f ws n d w said lt here fair now; turned = refl; calm = (calm, tt) }

    pub halted-one : (clock : ℕ) → clock_of said ≡ Some clock → Halted h may (map f ws) (map f (set ws n w)) old new (n ∷ []) clock
    halted-one clock full = record {
      more = Of n said ∷ [];
      lines = lines;
      path = path-one f ws n d w said lt here fair now;
      later = [];
      turned = refl;
      full = record { before = []; caller = n; said = said; parts = refl; calm = tt; full = full };
    }

  module _ (ps qs rs : List CallerProgress) (a b c : List Line) (first second : List ℕ) where
    pub played-append : Played h may ps qs a b first → Played h may qs rs b c second → Played h may ps rs a c (first ++ second)
    played-append p q = record {
      more = p.more ++ q.more;
      lines = q.lines ∙ (ap (λ w. w ++ q.more) p.lines ∙ append_assoc a p.more q.more);
      path = path-append ps p.more qs q.more rs p.path q.path;
      turned = callers-append p.more q.more ∙ (ap (λ w. w ++ callers q.more) p.turned ∙ ap (λ w. first ++ w) q.turned);
      calm = calm-append p.more q.more p.calm q.calm;
    }

    abbrev pub halted-append : (clock : ℕ) → Played h may ps qs a b first → Halted h may qs rs b c second clock → Halted h may ps rs a c (first ++ second) clock
    halted-append clock p q = record {
      more = p.more ++ q.more;
      lines = q.lines ∙ (ap (λ w. w ++ q.more) p.lines ∙ append_assoc a p.more q.more);
      path = path-append ps p.more qs q.more rs p.path q.path;
      later = q.later;
      turned = ap (λ w. w ++ q.later) (callers-append p.more q.more) ∙ (append_assoc (callers p.more) (callers q.more) q.later ∙ (ap (λ w. w ++ (callers q.more ++ q.later)) p.turned ∙ ap (λ w. first ++ w) q.turned));
      full = record {
        before = p.more ++ q.full.before;
        caller = q.full.caller;
        said = q.full.said;
        parts = ap (λ w. p.more ++ w) q.full.parts ∙ sym (append_assoc p.more q.full.before (Of q.full.caller q.full.said ∷ []));
        calm = calm-append p.more q.full.before p.calm q.full.calm;
        full = q.full.full;
      };
    }

  module _ (ps qs : List CallerProgress) (a b : List Line) (order : List ℕ) where
    pub played-as : (other : List ℕ) → order ≡ other → Played h may ps qs a b order → Played h may ps qs a b other
    played-as other e p = subst (λ o. Played h may ps qs a b o) e p

    -- more was to come
    pub halted-early : (more other : List ℕ) (clock : ℕ) → order ++ more ≡ other → Halted h may ps qs a b order clock → Halted h may ps qs a b other clock
    halted-early more other clock e p = record {
      more = p.more;
      lines = p.lines;
      path = p.path;
      later = p.later ++ more;
      turned = sym (append_assoc (callers p.more) p.later more) ∙ (ap (λ w. w ++ more) p.turned ∙ e);
      full = p.full;
    }
