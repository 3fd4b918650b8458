use Rattle.std.proofs.Common.{◌≡◌, ◌≤◌, ◌++◌, drop, string_bytes}
use Rattle.draw_pictures.specs.Shown.{shown, shown_words}
use Rattle.draw_pictures.proofs.shown.put_shown.Given as goal

abbrev pub invariant-loop-i : goal.invariant-loop-i
invariant-loop-i l = record {
  bytes : string_bytes l.text ++ shown l.room l.before (drop l.i l.bytes) ≡ string_bytes l.initial.text ++ shown_words l.bytes;
  few : l.before ≤ l.i;
}
