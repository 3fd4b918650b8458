-- What the law functions say.
use Rattle.std.specs.Prelude.{ℕ, List, Contains, IsTrue}
use Rattle.stm_logs.specs.Filters.{Has, filter_word, meets}

-- the filter of a list of addresses has each of them
abbrev pub FilterHas : Type 0
FilterHas = (a : ℕ) (addresses : List ℕ) → Contains addresses a → Has a (filter_word addresses)

-- the filters of two lists that share an address meet
abbrev pub SharedMeet : Type 0
SharedMeet = (a : ℕ) (xs ys : List ℕ) → Contains xs a → Contains ys a → IsTrue (meets (filter_word xs) (filter_word ys))
