use Rattle.std.proofs.Common.{rules, ◌≡◌, ◌++◌, ◌∷◌, [], ◌<◌, length, sym, ap, ◌∙◌, arith}
use Rattle.std.specs.Prelude.{vec_len, vec_capacity}
use Rattle.work_script.specs.Outputs.{Output}
use Rattle.work_trace.specs.Places.{rest_of}
use Rattle.work_worker.specs.declared.worker.Worker.{Worker}
use Rattle.work_worker.specs.Workers.{cleared, spares}
use Rattle.work_worker.proofs.RoomLaws.{room-left, room-ended, one-less}
use Rattle.work_worker.proofs.worker.Worker.write_row.Goals as goal

-- there is room for each transaction
pub unreachable-requires : goal.unreachable-requires
unreachable-requires g c =
    let u = c.args.self.now in
    let more : 0 < length u.spare.items = room-left u.items_left.now u.spare.items u.out c.requires.here c.requires.roomy.spare in
    let is = ap (λ (w : Worker g.row.K.Denot). length w.spare.items) c.self.view_is in
    search rules

pub returns : goal.returns
returns g c =
    let u = c.args.self.now in
    let is = c.self.view_is in
    let was : u.spare.items ≡ c.pop.new.self.items ++ c.in-Some.fresh ∷ [] = ap (λ (w : Worker g.row.K.Denot). w.spare.items) (sym is) ∙ c.in-Some.ensures.items in
    let room = room-ended u.items_left.now u.spare.items c.pop.new.self.items u.out c.in-Some.fresh c.requires.here c.requires.roomy.spare was in
    let left : c.tail-self-inside.result.now ≡ rest_of u.items_left.now = c.tail-self-inside.ensures ∙ ap (λ (w : Worker g.row.K.Denot). rest_of w.items_left.now) is in
    let replies : c.in-Some.fresh.replies ≡ [] = ap (λ (o : Output). o.replies) room.0 in
    let emits : c.in-Some.fresh.emits ≡ [] = ap (λ (o : Output). o.emits) room.0 in
    let fewer = one-less u.spare.items c.pop.new.self.items c.in-Some.fresh was in
    let some = c.requires.roomy.rows in
    let long = ap (λ (w : Worker g.row.K.Denot). vec_len w.rows) is in
    let wide = ap (λ (w : Worker g.row.K.Denot). vec_capacity w.rows) is in
    record {
      wrote = record {
        at = search rules;
        desc = ap (λ (w : Worker g.row.K.Denot). w.desc) is;
        all = ap (λ (w : Worker g.row.K.Denot). w.all.now) is;
        regions = ap (λ (w : Worker g.row.K.Denot). w.regions.now) is;
        roomy = record {
          spare = ap (λ o. c.pop.new.self.items ++ cleared o ∷ []) c.replace.ensures.after ∙ (room.1 ∙ ap spares (sym left));
          rows = (let a = c.push_reserved.ensures.len in let b = c.push_reserved.ensures.capacity in omega arith);
        };
      };
    }
