use Rattle.std.proofs.Common.{ℕ, ◌≡◌, ◌≤◌, length, sym, ap, ◌∙◌, subst}
use Rattle.std.specs.Prelude.{None}
use Rattle.stm_model.specs.declared.config.TheConstants.{MOST_MARKS}
use Rattle.stm_logs.specs.LogStates.{LogState, firsts}
use Rattle.tx_parts.specs.Laying.{IsFull, Top, Within}
use Rattle.tx_parts.specs.LayingLaws.{within-take, not-crowded}
use Rattle.tx_parts.proofs.overlay.OverlayNesting.roll_back.Goals as goal

pub invariant_of-self : goal.invariant_of-self
invariant_of-self g c =
    let i = c.self.invariant in
    let s = c.self.inside in
    let words = g.A.Access.words s.below in
    let r = c.roll_to.new.self in
    let going : s.stopped ≡ None = ap (λ (t : Top g.row.A.Denot). t.stopped) c.self.view_is ∙ c.requires.going in
    let len = ap (λ (l : LogState). l.len) c.release.ensures ∙ ap (λ (l : LogState). l.len) c.roll_to.ensures.rolled in
    let left = ap (λ (l : LogState). firsts l.items) c.release.ensures ∙ c.roll_to.ensures.prefix in
    record {
      passes = i.passes;
      goes = λ e. ((i.goes e).0, subst (λ (n : ℕ). IsFull n s.stopped) (sym len) (i.goes e).1);
      full = λ e. not-crowded s.room.now.len s.stopped (i.goes e).1 going;
      knew = i.knew;
      seen = i.seen;
      within = subst (Within words) (sym left) (within-take words (length r.items) (firsts s.room.now.items) i.within);
      deep = subst (λ (n : ℕ). MOST_MARKS ≤ n) (sym (ap (λ (l : LogState). l.marks_limit) c.release.ensures ∙ ap (λ (l : LogState). l.marks_limit) c.roll_to.ensures.rolled)) i.deep;
    }
