-- THE TABLE OF THE ALGORITHMS: all that is said of an algorithm by its name, one definition a column.
use Rattle.std.specs.Prelude.{ℕ, ◌||◌, Bool, true, false, List, codes}
use Rattle.stm_model.specs.declared.alg.Alg.{Alg}
use Rattle.stm_model.specs.declared.alg.Alg.TheVariants.{Cgl, Tml, OrecLazy, OrecEager, RingSw, Serial}

-- the name in workloads and traces
abbrev pub alg_name : Alg → List ℕ
alg_name Cgl = codes "CGL"
alg_name Tml = codes "TML"
alg_name OrecLazy = codes "OrecLazy"
alg_name OrecEager = codes "OrecEager"
alg_name RingSw = codes "RingSW"
alg_name Serial = codes "Serial"

-- the number in a gate word
abbrev pub alg_number : Alg → ℕ
alg_number Cgl = 0
alg_number Tml = 1
alg_number OrecLazy = 2
alg_number OrecEager = 3
alg_number RingSw = 4
alg_number Serial = 5

-- an attempt has the lock from its begin to its end
abbrev pub takes_lock : Alg → Bool
takes_lock Cgl = true
takes_lock Tml = false
takes_lock OrecLazy = false
takes_lock OrecEager = false
takes_lock RingSw = false
takes_lock Serial = true

-- ownership records
abbrev pub has_records : Alg → Bool
has_records Cgl = false
has_records Tml = false
has_records OrecLazy = true
has_records OrecEager = true
has_records RingSw = false
has_records Serial = false

-- a ring of filters: attempts begin at DONE, all others at the clock
abbrev pub has_ring : Alg → Bool
has_ring Cgl = false
has_ring Tml = false
has_ring OrecLazy = false
has_ring OrecEager = false
has_ring RingSw = true
has_ring Serial = false

-- a read log, of the length `reads`
abbrev pub has_read_log : Alg → Bool
has_read_log Cgl = false
has_read_log Tml = false
has_read_log OrecLazy = true
has_read_log OrecEager = true
has_read_log RingSw = false
has_read_log Serial = false

-- a write log: what was written lies there until the commit; of the length `writes`
abbrev pub has_write_log : Alg → Bool
has_write_log Cgl = false
has_write_log Tml = false
has_write_log OrecLazy = true
has_write_log OrecEager = false
has_write_log RingSw = true
has_write_log Serial = false

-- an undo log: what was written lies in the heap, and can be taken back; of the length `writes`
abbrev pub has_undo_log : Alg → Bool
has_undo_log Cgl = false
has_undo_log Tml = false
has_undo_log OrecLazy = false
has_undo_log OrecEager = true
has_undo_log RingSw = false
has_undo_log Serial = true

-- a write needs an item of a log
abbrev pub logs_writes : Alg → Bool
logs_writes alg = has_write_log alg || has_undo_log alg

-- where the clock is compared with its limit: at a begin
abbrev pub asks_at_begin : Alg → Bool
asks_at_begin Cgl = true
asks_at_begin Tml = false
asks_at_begin OrecLazy = false
asks_at_begin OrecEager = false
asks_at_begin RingSw = false
asks_at_begin Serial = false

-- at a write
abbrev pub asks_at_write : Alg → Bool
asks_at_write Cgl = false
asks_at_write Tml = true
asks_at_write OrecLazy = false
asks_at_write OrecEager = true
asks_at_write RingSw = false
asks_at_write Serial = true

-- at the commit of an attempt that wrote
abbrev pub asks_at_commit : Alg → Bool
asks_at_commit Cgl = false
asks_at_commit Tml = false
asks_at_commit OrecLazy = true
asks_at_commit OrecEager = true
asks_at_commit RingSw = true
asks_at_commit Serial = false

-- and where an attempt that can still be cancelled is to become irrevocable
abbrev pub asks_at_grant : Alg → Bool
asks_at_grant Cgl = false
asks_at_grant Tml = true
asks_at_grant OrecLazy = true
asks_at_grant OrecEager = true
asks_at_grant RingSw = true
asks_at_grant Serial = true

-- an attempt becomes irrevocable by closing the gate and waiting until it is alone
abbrev pub closes_gate : Alg → Bool
closes_gate Cgl = false
closes_gate Tml = true
closes_gate OrecLazy = true
closes_gate OrecEager = true
closes_gate RingSw = true
closes_gate Serial = false

-- by how much an attempt that committed what it wrote has raised the clock
abbrev pub entry_rise : Alg → ℕ
entry_rise Cgl = 1
entry_rise Tml = 2
entry_rise OrecLazy = 1
entry_rise OrecEager = 1
entry_rise RingSw = 1
entry_rise Serial = 1

-- by how much at most one that ended without an entry has: OrecEager raises it above the versions that it gives back
abbrev pub quit_rise : Alg → Bool → ℕ
quit_rise Cgl wrote = 0
quit_rise Tml wrote = 0
quit_rise OrecLazy wrote = 0
quit_rise OrecEager false = 0
quit_rise OrecEager true = 1
quit_rise RingSw wrote = 0
quit_rise Serial wrote = 0

-- by how much at most an install does: TML begins at an even clock
abbrev pub install_rise : Alg → ℕ
install_rise Cgl = 0
install_rise Tml = 1
install_rise OrecLazy = 0
install_rise OrecEager = 0
install_rise RingSw = 0
install_rise Serial = 0

-- it begins at an even clock alone
abbrev pub begins_even : Alg → Bool
begins_even Cgl = false
begins_even Tml = true
begins_even OrecLazy = false
begins_even OrecEager = false
begins_even RingSw = false
begins_even Serial = false

-- an attempt can't be cancelled: from its begin, from its first write, or since it was granted
abbrev pub irrevocable_under : Alg → Bool → Bool → Bool
irrevocable_under Cgl granted wrote = true
irrevocable_under Tml granted wrote = granted || wrote
irrevocable_under OrecLazy granted wrote = granted
irrevocable_under OrecEager granted wrote = granted
irrevocable_under RingSw granted wrote = granted
irrevocable_under Serial granted wrote = granted
