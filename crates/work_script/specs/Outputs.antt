-- Replies and emits, and the room for them.
use Rattle.std.specs.Prelude.{ℕ, ◌+◌, ◌≤◌, List, [], ◌∷◌, ◌++◌, length}
use Rattle.work_script.specs.declared.op.Op.{Op}
use Rattle.work_script.specs.Operations.{emits_of}

pub record Output : Type 0 where
  pub replies : List ℕ
  pub emits : List ℕ
  pub room : ℕ

-- there is room for n more of each
abbrev pub HasRoom : Output → ℕ → Type 0
HasRoom o n = (length o.replies + n ≤ o.room) × (length o.emits + n ≤ o.room)

-- the operation's reply is told, and what it emits
abbrev pub with_reply : Output → Op → ℕ → Output
with_reply o op reply = record o { replies = o.replies ++ reply ∷ []; emits = o.emits ++ emits_of op reply }
