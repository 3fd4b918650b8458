use Rattle.std.proofs.Common.{◌≡◌, ◌++◌, string_bytes}
use Rattle.draw_pictures.specs.Texts.{heads_bytes}
use Rattle.draw_pictures.proofs.picture.put_heads.Given as goal

abbrev pub invariant-loop-block : goal.invariant-loop-block
invariant-loop-block l = string_bytes l.text ≡ string_bytes l.initial.text ++ heads_bytes l.sheet l.lane l.block
