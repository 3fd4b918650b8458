-- Cells of words in a memory, by their tags.
use Rattle.std.specs.Prelude.{ℕ, ◌+◌, ◌*◌, ◌^◌, ◌<◌, ◌≤◌, List, slice_index}
use Rattle.data_effects.specs.declared.cells.Cells.{Cells}

abbrev pub tag_at : Cells → ℕ → ℕ
tag_at r j = r.first + r.width * j

abbrev pub tag : Cells → List ℕ → ℕ → ℕ
tag r m j = slice_index m (tag_at r j)

abbrev pub CellsFit : Cells → ℕ → Type 0
CellsFit r words = (0 < r.width) × (r.first + r.width * r.count ≤ words) × (r.first + r.width * r.count < 2 ^ 64)
