-- A workload as far as it is read.
use Rattle.std.specs.Prelude.{ℕ, Bool, true, false, List, [], ◌∷◌, ◌++◌}
use Rattle.stm_model.specs.declared.alg.Alg.TheVariants.{Cgl}
use Rattle.work_profile.specs.declared.policy.Policy.TheVariants.{Fixed}
use Rattle.data_regions.specs.declared.region.Region.{Region}
use Rattle.data_regions.specs.Regions.{version_one}
use Rattle.work_script.specs.declared.op.Op.{Op}
use Rattle.work_script.specs.declared.workload.Version.TheVariants.{One}
use Rattle.work_script.specs.declared.workload.Header.{Header}
use Rattle.work_script.specs.declared.workload.Item.{Item}
use Rattle.work_script.specs.declared.workload.Item.TheVariants.{Tx, Switch, Reserve}
use Rattle.work_script.specs.declared.workload.Go.{Go}
use Rattle.work_text.specs.declared.draft.NextLine.{NextLine}
use Rattle.work_text.specs.declared.draft.NextLine.TheVariants.{Version, Items, Ops, Turns}
use Rattle.work_text.specs.declared.draft.Step.{Step}
use Rattle.work_text.specs.declared.draft.Field.{Field}
use Rattle.work_text.specs.declared.draft.Field.TheVariants as fields
use Rattle.work_text.specs.declared.draft.Step.TheVariants.{Head, Count, Begin, Change, Lengthen, Add, End, Schedule, Turn, Done}

-- the line that comes next, the header, how many regions it has, the items, the open transaction's caller and
-- operations, the schedule and its turns in all
pub record Writing : Type 0 where
  pub place : NextLine
  pub header : Header
  pub count : ℕ
  pub items : List Item
  pub caller : ℕ
  pub ops : List Op
  pub schedule : List Go
  pub turns : ℕ

-- before the first line; each number of the header is the least that it may be until its line comes
abbrev pub opening : Writing
opening = record {
  place = Version;
  header = record { version = One; words = 1; records = 1; ring = 2; callers = 1; reads = 1; writes = 1; clock = 0; alg = Cgl; regions = []; policy = Fixed };
  count = 0;
  items = [];
  caller = 0;
  ops = [];
  schedule = [];
  turns = 0;
}

-- the four regions of version 1 where structures are on, and none where they are off
abbrev pub regions_where : Bool → List Region
regions_where true = version_one
regions_where false = []

-- the header with what a line gives
abbrev pub with_field : Field → Header → Header
with_field (fields.Version v) h = record h { version = v }
with_field (fields.Words n) h = record h { words = n }
with_field (fields.Callers n) h = record h { callers = n }
with_field (fields.Records n) h = record h { records = n }
with_field (fields.Ring n) h = record h { ring = n }
with_field (fields.Reads n) h = record h { reads = n }
with_field (fields.Writes n) h = record h { writes = n }
with_field (fields.Clock n) h = record h { clock = n }
with_field (fields.Algorithm alg) h = record h { alg = alg }
with_field (fields.Structures on) h = record h { regions = regions_where on }
with_field (fields.Region r) h = record h { regions = h.regions ++ r ∷ [] }
with_field (fields.Policy p) h = record h { policy = p }

-- what stands after a line
abbrev pub after : Step → Writing → Writing
after (Head place field) d = record d { place = place; header = with_field field d.header }
after (Count place n) d = record d { place = place; count = n }
after (Begin caller) d = record d { place = Ops; caller = caller }
after (Change caller alg) d = record d { items = d.items ++ Switch caller alg ∷ [] }
after (Lengthen caller reads writes) d = record d { items = d.items ++ Reserve caller reads writes ∷ [] }
after (Add op) d = record d { ops = d.ops ++ op ∷ [] }
after End d = record d { place = Items; items = d.items ++ Tx d.caller d.ops ∷ []; ops = [] }
after Schedule d = record d { place = Turns }
after (Turn go all) d = record d { schedule = d.schedule ++ go ∷ []; turns = all }
after Done d = d
