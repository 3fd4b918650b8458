-- What contracts see of the adapters over std's readers and writers.
use Rattle.std.specs.Prelude.{ℕ}
use Rattle.work_io.specs.declared.adapters.ReadSource.{ReadSource}
use Rattle.work_io.specs.declared.adapters.WriteSink.{WriteSink}

-- the reader that a source takes from
abbrev pub read_source_inner : {R : Type 0} → ReadSource R → R
read_source_inner s = s.reader

-- how many of a source's calls have failed
abbrev pub read_source_faults : {R : Type 0} → ReadSource R → ℕ
read_source_faults s = s.faults

-- the writer that a sink puts to
abbrev pub write_sink_inner : {W : Type 0} → WriteSink W → W
write_sink_inner s = s.writer

-- how many of a sink's calls have failed
abbrev pub write_sink_faults : {W : Type 0} → WriteSink W → ℕ
write_sink_faults s = s.faults
