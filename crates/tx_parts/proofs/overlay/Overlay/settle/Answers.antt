use Rattle.std.proofs.Common.{ℕ, ◌≡◌, refl, sym, ap, ◌∙◌, subst}
use Rattle.std.specs.Prelude.{Some, None}
use Rattle.stm_logs.specs.LogStates.{firsts}
use Rattle.tx_parts.specs.Laying.{Top, Within}
use Rattle.tx_parts.specs.LayingLaws.{no-stop, not-crowded}
use Rattle.tx_parts.proofs.overlay.Overlay.settle.Goals as goal

pub invariant_of-self : goal.invariant_of-self
invariant_of-self g c =
    let a = g.A.Access in
    let s = c.self.inside in
    let going : s.stopped ≡ None = ap (λ (t : Top g.row.A.Denot). t.stopped) c.self.view_is ∙ c.requires.going in
    record {
      passes = λ e. c.in-Ok.ensures.frame.goes ∙ sym going;
      goes = λ e. not-crowded s.room.now.len s.stopped (c.self.invariant.goes e).1 going;
      full = λ e. not-crowded s.room.now.len s.stopped (c.self.invariant.goes e).1 going;
      knew = λ e. not-crowded s.room.now.len s.stopped (c.self.invariant.goes e).1 going;
      seen = λ e. c.in-Ok.ensures.frame.explained;
      within = subst (λ (n : ℕ). Within n (firsts s.room.now.items)) (sym c.write_through.ensures.frame.words) c.self.invariant.within;
      deep = c.self.invariant.deep;
    }

pub invariant_of-self-in-Err : goal.invariant_of-self-in-Err
invariant_of-self-in-Err g c =
    let a = g.A.Access in
    let s = c.self.inside in
    let going : s.stopped ≡ None = ap (λ (t : Top g.row.A.Denot). t.stopped) c.self.view_is ∙ c.requires.going in
    record {
      passes = λ e. c.in-Err.ensures.frame.stops;
      goes = λ e. not-crowded s.room.now.len s.stopped (c.self.invariant.goes e).1 going;
      full = λ e. not-crowded s.room.now.len s.stopped (c.self.invariant.goes e).1 going;
      knew = λ e. not-crowded s.room.now.len s.stopped (c.self.invariant.goes e).1 going;
      seen = λ e. absurd (no-stop (Some c.in-Err.stop) c.in-Err.stop refl e);
      within = subst (λ (n : ℕ). Within n (firsts s.room.now.items)) (sym c.write_through.ensures.frame.words) c.self.invariant.within;
      deep = c.self.invariant.deep;
    }
