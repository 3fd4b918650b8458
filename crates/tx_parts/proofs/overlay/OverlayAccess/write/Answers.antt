use Rattle.std.proofs.Common.{ℕ, ◌≡◌, ◌<◌, ◌≤◌, sym, ap, ◌∙◌, subst, rules}
use Rattle.std.specs.Prelude.{None}
use Rattle.stm_model.specs.declared.config.TheConstants.{MOST_MARKS}
use Rattle.stm_model.specs.Logs.{Writes}
use Rattle.stm_logs.specs.LogStates.{LogState, firsts}
use Rattle.tx_parts.specs.Laying.{over, Top, IsFull, Overflows, Within}
use Rattle.tx_parts.specs.LayingLaws.{writes-top, within-put, not-crowded}
use Rattle.tx_parts.proofs.overlay.OverlayAccess.write.Goals as goal

pub invariant_of-self : goal.invariant_of-self
invariant_of-self g c =
    let i = c.self.invariant in
    let s = c.self.inside in
    let words = g.A.Access.words s.below in
    let going : s.stopped ≡ None = ap (λ (t : Top g.row.A.Denot). t.stopped) c.self.view_is ∙ c.requires.going in
    let is = c.in-Done.ensures.1 in
    let low : c.args.a < words = subst (λ (t : Top g.row.A.Denot). c.args.a < g.A.Access.words t.below) (sym c.self.view_is) c.requires.within in
    record {
      passes = i.passes;
      goes = λ e. ((i.goes e).0, subst (λ (n : ℕ). IsFull n s.stopped) (sym (ap (λ (l : LogState). l.len) is)) (i.goes e).1);
      full = λ e. not-crowded s.room.now.len s.stopped (i.goes e).1 going;
      knew = i.knew;
      seen = i.seen;
      within = subst (λ (l : LogState). Within words (firsts l.items)) (sym is) (within-put words c.args.a c.args.v s.room.now.items low i.within);
      deep = subst (λ (l : LogState). MOST_MARKS ≤ l.marks_limit) (sym is) i.deep;
    }

pub invariant_of-self-in-Full : goal.invariant_of-self-in-Full
invariant_of-self-in-Full g c =
    let i = c.self.invariant in
    let s = c.self.inside in
    let words = g.A.Access.words s.below in
    let going : s.stopped ≡ None = ap (λ (t : Top g.row.A.Denot). t.stopped) c.self.view_is ∙ c.requires.going in
    let f = c.in-Full.ensures in
    let low : c.args.a < words = subst (λ (t : Top g.row.A.Denot). c.args.a < g.A.Access.words t.below) (sym c.self.view_is) c.requires.within in
    let full : Overflows words c.push.new.self.len c.push.new.self.items = subst (λ (l : LogState). Overflows words l.len l.items) (sym f.3) (f.1, c.args.a, low, f.0) in
    record {
      passes = search rules;
      goes = search rules;
      full = λ e. full;
      knew = λ e. i.seen going;
      seen = search rules;
      within = search rules;
      deep = search rules;
    }

pub returns-in-Done-clause-value : goal.returns-in-Done-clause-value
returns-in-Done-clause-value g c =
    let log = g.A.Access.log in
    let s = c.self.inside in
    subst (λ (t : Top g.row.A.Denot). Writes (over t.room.items (log t.below)) c.args.a c.args.v (over c.push.new.self.items (log s.below))) c.self.view_is
    (subst (λ (l : LogState). Writes (over s.room.now.items (log s.below)) c.args.a c.args.v (over l.items (log s.below)))
    (sym c.in-Done.ensures.1) (writes-top s.room.now.items (log s.below) c.args.a c.args.v c.count-count.ensures.once))
