-- How far a walk is: what is left of it is what the whole finds.
use Rattle.std.specs.Prelude.{ℕ, ◌≡◌, List, slice_index}
use Rattle.data_tree.specs.declared.pool.Pool.{Pool}
use Rattle.data_tree.specs.Shapes.{IsShape, find, position_of, leftmost}

pub record Walked (r : Pool) (key a v n : ℕ) (m : List ℕ) : Type 0 where
  pub well : IsShape r m
  pub on : position_of r m key ≡ find r m key n a
  pub at : v ≡ slice_index m a

pub record WalkedLeft (r : Pool) (from a v n : ℕ) (m : List ℕ) : Type 0 where
  pub well : IsShape r m
  pub on : leftmost r m r.cells from ≡ leftmost r m n a
  pub at : v ≡ slice_index m a
