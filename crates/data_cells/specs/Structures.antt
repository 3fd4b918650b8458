-- The structures that are chains: a list has one, a hash set sixteen.
use Rattle.data_cells.specs.declared.chains.Chains.{Chains}
use Rattle.data_cells.specs.declared.list.List.{List}
use Rattle.data_cells.specs.declared.hash.Hash.{Hash}

abbrev pub list_of : List → Chains
list_of l = record { at = l.at; heads = 1; cells = l.cells }

abbrev pub hash_of : Hash → Chains
hash_of h = record { at = h.at; heads = 16; cells = h.cells }
