-- What some turns add to a trace.
use Rattle.std.specs.Prelude.{ℕ, ◌≡◌, Some, List, [], ◌∷◌, ◌++◌}
use Rattle.work_script.specs.declared.workload.Header.{Header}
use Rattle.work_trace.specs.declared.line.Line.{Line}
use Rattle.work_trace.specs.declared.line.Line.TheVariants.{Of}
use Rattle.work_trace.specs.declared.said.Said.{Said}
use Rattle.work_trace.specs.Fits.{Path, IsCalm, callers}
use Rattle.work_trace.specs.Places.{CallerProgress, clock_of}

-- the last line, and no other, tells of this clock
pub record EndsFull (lines : List Line) (clock : ℕ) : Type 0 where
  pub before : List Line
  pub caller : ℕ
  pub said : Said
  pub parts : lines ≡ before ++ Of caller said ∷ []
  pub calm : IsCalm before
  pub full : clock_of said ≡ Some clock

module _ (h : Header) (may : CallerProgress → Said → Type 0) where
  -- the lines that were added are those of the turns of these callers in this order,
  -- and lead from one list of places to another
  pub record Played (places now : List CallerProgress) (old new : List Line) (order : List ℕ) : Type 0 where
    pub more : List Line
    pub lines : new ≡ old ++ more
    pub path : Path h may places more now
    pub turned : callers more ≡ order
    pub calm : IsCalm more

  -- the same up to a full clock, before or at the end of the order
  pub record Halted (places now : List CallerProgress) (old new : List Line) (order : List ℕ) (clock : ℕ) : Type 0 where
    pub more : List Line
    pub lines : new ≡ old ++ more
    pub path : Path h may places more now
    pub later : List ℕ
    pub turned : callers more ++ later ≡ order
    pub full : EndsFull more clock
