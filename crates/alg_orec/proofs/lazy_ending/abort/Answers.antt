use Rattle.std.proofs.Common.{◌≡◌, ◌≤◌, List, [], ◌∷◌, length, refl, sym, ap, ◌∙◌, subst, arith, true, false, drop, ◌+◌}
use Rattle.rule_base.specs.declared.entries.Cell.{Cell}
use Rattle.rule_base.specs.declared.seats.SeatView.{SeatView}
use Rattle.rule_base.specs.declared.views.View.{View}
use Rattle.rule_base.specs.Bridge.{items}
use Rattle.rule_base.specs.Encodings.{free_record}
use Rattle.rule_base.specs.History.{over, touches, without, Inside}
use Rattle.rule_orec.specs.OrecSteps.{HasOrec}
use Rattle.stm_gate.specs.LeavingLaws.{IsUnmade}
use Rattle.stm_gate.proofs.Peeling.{drop-all, peeled, inside-without, no-items}
use Rattle.alg_orec.proofs.CountingLaws.{takes-left}
use Rattle.alg_orec.proofs.Releasing.{release_item, Versions, released-step, versions-of, versions-without}
use Rattle.alg_orec.proofs.lazy_ending.abort.Goals.{After-item-r}
use Rattle.alg_orec.proofs.lazy_ending.abort.Goals as goal

-- the next item is one of those that are left
next : (g : _) (c : After-item-r g)
    → (touches c.loop-i.seat.me.0.view.owned.held c.item-r.result.0 ≡ true)
    × (c.item-r.result.1 ≡ over c.loop-i.seat.me.0.view.owned.held c.item-r.result.0 0)
    × (items (without c.loop-i.seat.me.0.view.owned.held c.item-r.result.0) ≡ drop (c.loop-i.i + 1) c.args.local.now.locks.items)
next g c =
    peeled c.args.local.now.locks.items c.loop-i.i c.loop-i.seat.me.0.view.owned.held c.item-r.result
    (omega (arith, c.loop-i-test.true, c.count-i-end.ensures.count)) c.count-i-end.ensures.once c.loop-i.invariant.left c.item-r.ensures

pub loop-i-init : goal.loop-i-init
loop-i-init g c = let k = c.requires.view in record {
  table = refl;
  id = refl;
  bare = refl;
  more = [];
  seat = refl;
  steps = omega arith;
  left = sym k.locks;
  places = k.places;
  versions = versions-of c.args.local.now c.args.seat.now.me.0.view.owned.held k.locks k.versions;
}

pub release_old-requires-clause-place : goal.release_old-requires-clause-place
release_old-requires-clause-place g c =
    let i = c.loop-i.invariant in
    let p = next g (goal.at.release_old-requires-clause-place g c).After-item-r in
    i.places c.item-r.result.0 p.0

pub release_old-requires-clause-limit : goal.release_old-requires-clause-limit
release_old-requires-clause-limit g c =
    let i = c.loop-i.invariant in
    let p = next g (goal.at.release_old-requires-clause-limit g c).After-item-r in
    let within = i.versions c.item-r.result.0 p.0 in
    let is = p.1 in
    omega arith

pub release_old-requires-clause-view : goal.release_old-requires-clause-view
release_old-requires-clause-view g c =
    let k = c.requires.view in
    let i = c.loop-i.invariant in
    let p = next g (goal.at.release_old-requires-clause-view g c).After-item-r in
    let is = ap (λ (y : SeatView g.row.K.Denot). y.view) i.seat in
    record {
      gives = record {
        has = subst HasOrec (sym is) (record { runs = record { phase = k.opens.has.runs.phase; algorithm = k.opens.has.runs.algorithm; plain = k.opens.has.runs.plain }; inside = k.opens.has.inside });
        held = p.0;
        clear = record {
          back = λ a e. ap (λ (y : View). touches y.owned.back a) is ∙ ap (λ (cs : List Cell). touches cs a) k.repaid;
          undo = λ a e. ap (λ (y : View). touches y.owned.undo a) is ∙ ap (λ (cs : List Cell). touches cs a) k.undone;
        };
      };
      undone = ap (λ (y : View). y.owned.committed) is ∙ k.opens.open_yet;
      lazy = ap (λ (y : View). y.owned.eager) is ∙ k.lazy;
      old = p.1;
    }

pub loop-i-preserved : goal.loop-i-preserved
loop-i-preserved g c =
    let i = c.loop-i.invariant in
    let s = c.loop-i.seat.me.0 in
    let t = c.release_old.new.seat.me.0 in
    let step = c.release_old.ensures.step in
    let same = c.release_old.ensures.same in
    let r = c.item-r.result.0 in
    let p = next g (goal.at.loop-i-preserved g c).After-item-r in
    let held : t.view.owned.held ≡ without s.view.owned.held r = ap (λ (y : SeatView g.row.K.Denot). y.view.owned.held) step.3 in
    record {
      table = same.0 ∙ i.table;
      id = same.1 ∙ i.id;
      bare = same.2 ∙ i.bare;
      more = release_item r c.item-r.result.1 ∷ i.more;
      seat = released-step c.args.seat.now.me.0 s t i.more r c.item-r.result.1 (free_record c.item-r.result.1) step.0 i.seat step.3;
      steps = let l = ap (λ (y : SeatView g.row.K.Denot). length y.view.steps.step_trace) step.3 in let q = i.steps in omega arith;
      left = ap items held ∙ p.2;
      places = subst (λ (cs : List Cell). Inside c.args.stm.now.config.records cs) (sym held) (inside-without c.args.stm.now.config.records r s.view.owned.held i.places);
      versions = subst Versions (sym held) (versions-without s.view.owned.held r i.versions);
    }

pub leave-requires-clause-view : goal.leave-requires-clause-view
leave-requires-clause-view g c =
    let k = c.requires.view in
    let i = c.loop-i.invariant in
    let s = c.loop-i.seat.me.0.view in
    let is = ap (λ (y : SeatView g.row.K.Denot). y.view) i.seat in
    let none : items s.owned.held ≡ [] = i.left ∙ drop-all c.args.local.now.locks.items c.loop-i.i (omega (arith, c.loop-i-test.false, c.count-i-end.ensures.count)) in
    record {
      phase = ap (λ (y : View). y.gate.phase) is ∙ k.opens.has.runs.phase;
      unlocked = ap (λ (y : View). y.lock.taken) is ∙ k.unlocked;
      unfixed = ap (λ (y : View). y.lock.irrevocable) is ∙ k.unfixed;
      disowned = no-items s.owned.held none;
      unwritten = ap (λ (y : View). y.tml.writer) is ∙ k.unwritten;
      uncommitted = ap (λ (y : View). y.ring_commit.committed) is ∙ k.uncommitted;
      ungranted = λ e. ap (λ (y : View). y.gate.granted) is ∙ k.opens.has.runs.plain;
      plain = λ e. ap (λ (y : View). y.attempt.entered) is ∙ k.unentered;
      unstored = λ e. ap (λ (y : View). y.attempt.stores) is ∙ k.unstored;
      marked = λ e q. absurd (let f : true ≡ false = sym q ∙ (ap (λ (y : View). y.attempt.entered) is ∙ k.unentered) in cc);
    }

pub leave-requires-clause-fence : goal.leave-requires-clause-fence
leave-requires-clause-fence g c = record { is = ap (λ (y : SeatView g.row.K.Denot). y.view.gate.fence) c.loop-i.invariant.seat ∙ c.requires.fence.is; fits = c.requires.fence.fits }

pub returns-clause-gives_up : goal.returns-clause-gives_up
returns-clause-gives_up g c =
    let i = c.loop-i.invariant in
    let v = c.args.seat.now.me.0.view in
    let s = c.loop-i.seat.me.0 in
    let is = ap (λ (y : SeatView g.row.K.Denot). y.view) i.seat in
    record {
      outside = c.leave.ensures.outside;
      before = s.view;
      unmade =
          subst (λ (y : View). IsUnmade v y) (sym is)
          (record {
            carried = record {
              named = refl;
              base = refl;
              installs = refl;
              fence = refl;
              step_trace = (i.more, refl);
              unlocked = c.requires.view.unlocked;
              unwritten = c.requires.view.unwritten;
            };
            history = refl;
          });
      rises = ap (λ (y : View). y.steps.rises) is;
      is = ap (λ (y : SeatView g.row.K.Denot). y.view) c.leave.ensures.left;
    }

pub returns-clause-steps : goal.returns-clause-steps
returns-clause-steps g c =
    let s = c.loop-i.seat.me.0.view in
    let e = ap (λ (y : SeatView g.row.K.Denot). length y.view.steps.step_trace) c.leave.ensures.left in
    let two = takes-left c.args.caller s in
    let q = c.loop-i.invariant.steps in
    let k = c.count-i-end.ensures in let most : c.loop-i.i ≤ length c.args.local.now.locks.items = omega (arith, c.loop-i.auto.i-end, k) in
    omega arith
