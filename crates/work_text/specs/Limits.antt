-- The numbers of workloads, and of the codes of faults.
use Rattle.std.specs.Prelude.{◌≡◌}
use Rattle.work_script.specs.declared.workload.TheConstants.{MAX_ITEMS, MAX_OPS, MAX_TURNS, MAX_KEY, MAX_WORDS_ONE, MAX_REGIONS, MAX_STRIPES, MAX_CELLS, STRUCTS_BEGIN, STRUCTS_END, STRIPES}
use Rattle.work_text.specs.declared.code.TheConstants.{LONG, BYTES, UNENDED, WORD, NUMBER, RANGE, ALG, REGION, ORDER, MANY, EXTRA, REPORT, LONG_REPORT}
use Rattle.work_text.specs.declared.parse.TheConstants.{MAX_TEXT}

pub record LimitsAre : Type 0 where
  -- the greatest number of items, of a transaction's operations, of turns, and of a text's bytes; the greatest key
  pub items : MAX_ITEMS ≡ 65536
  pub operations : MAX_OPS ≡ 4096
  pub turns : MAX_TURNS ≡ 1000000
  pub text : MAX_TEXT ≡ 16777216
  pub key : MAX_KEY ≡ 4294967295
  -- version 1: the greatest number of words; the words of structures, from the first to before the last; the stripes
  pub words_one : MAX_WORDS_ONE ≡ 65536
  pub begin : STRUCTS_BEGIN ≡ 64
  pub end : STRUCTS_END ≡ 1024
  pub stripes_one : STRIPES ≡ 4
  -- version 2: the greatest number of regions, of a counter's stripes, and of another structure's cells
  pub regions : MAX_REGIONS ≡ 16
  pub stripes : MAX_STRIPES ≡ 64
  pub cells : MAX_CELLS ≡ 4096

pub record CodesAre : Type 0 where
  pub long : LONG ≡ 1
  pub bytes : BYTES ≡ 2
  pub unended : UNENDED ≡ 3
  pub word : WORD ≡ 4
  pub number : NUMBER ≡ 5
  pub range : RANGE ≡ 6
  pub alg : ALG ≡ 7
  pub region : REGION ≡ 8
  pub order : ORDER ≡ 9
  pub many : MANY ≡ 10
  pub extra : EXTRA ≡ 11
  pub report : REPORT ≡ 12
  pub long_report : LONG_REPORT ≡ 13
