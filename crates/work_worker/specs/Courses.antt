-- THE COURSE of a caller: its turns, one after the other.
use Rattle.std.specs.Prelude.{◌≡◌, Bool, true, false, List, [], ◌∷◌, ◌++◌, map, None}
use Rattle.stm_model.specs.declared.alg.Alg.{Alg}
use Rattle.work_script.specs.declared.report.Row.{Row}
use Rattle.work_script.specs.declared.workload.Header.{Header}
use Rattle.stm_answers.specs.declared.answers.Begin.TheVariants.{Begun}
use Rattle.work_trace.specs.Adapting.{no_profile}
use Rattle.work_trace.specs.declared.said.Phase.TheVariants.{Between}
use Rattle.work_trace.specs.declared.said.Said.{Said}
use Rattle.work_trace.specs.declared.said.Said.TheVariants.{TryBegin, Installed, Dropped, Reopened}
use Rattle.work_trace.specs.Places.{CallerProgress, after}
use Rattle.work_trace.specs.Turns.{MaySay, MayWind, IsFair, IsOver}
use Rattle.work_worker.specs.Installs.{InstallsBy, last_of}

-- what may be said in a schedule or after it
abbrev pub MayTurn : CallerProgress → Said → Type 0
MayTurn at Dropped = MayWind at Dropped
MayTurn at Reopened = MayWind at Reopened
MayTurn at said = MaySay at said

-- from one place to another, h being the workload's header: each turn says what may be said there, with fair numbers,
-- and leads where that leads
abbrev pub Went : Header → CallerProgress → List Said → CallerProgress → Type 0
Went h at [] to = at ≡ to
Went h at (said ∷ more) to = MayTurn at said × IsFair h at said × Went h (after at said) more to

-- what was installed in a turn
abbrev pub installed : Said → List Alg
installed (Installed alg) = alg ∷ []
installed said = []

-- and in all of them
abbrev pub all_installed : List Said → List Alg
all_installed [] = []
all_installed (said ∷ more) = installed said ++ all_installed more

-- an attempt begins under this algorithm
abbrev pub BeginsUnder : Alg → Said → Type 0
BeginsUnder knows (TryBegin (Begun alg)) = alg ≡ knows
BeginsUnder knows said = Unit {0}

-- who is alone knows the algorithm that it installed last: its attempts begin under that
abbrev pub Knows : Alg → List Said → Alg → Type 0
Knows knows [] last = last ≡ knows
Knows knows (said ∷ more) last = BeginsUnder knows said × Knows (last_of knows (installed said)) more last

-- an attempt is cancelled as a schedule is over
abbrev pub is_cut : Said → Bool
is_cut Dropped = true
is_cut said = false

-- no attempt was
abbrev pub IsUncut : List Said → Type 0
IsUncut [] = Unit {0}
IsUncut (Dropped ∷ more) = ⊥
IsUncut (said ∷ more) = IsUncut more

-- nothing is done
pub record IsFresh (at : CallerProgress) : Type 0 where
  pub between : at.phase ≡ Between
  pub unasked : at.chosen ≡ None
  pub noted : at.profile ≡ no_profile
  pub rows : at.rows ≡ []

-- what a caller has installed when nothing is left to it; start: the algorithm at its first turn
abbrev pub CoursesInstall : Type 0
CoursesInstall =
    (cut : Bool) (h : Header) (at to : CallerProgress) (course : List Said) (start last : Alg) → IsFresh at → Went h at course to
    → (cut ≡ false → IsUncut course) → (h.callers ≡ 1 → Knows start course last) → IsOver to
    → InstallsBy cut h.callers true at.policy start at.left (map (λ (row : Row). row.kind) to.rows) (all_installed course)
