use Rattle.std.proofs.Common.{◌++◌, ◌∷◌, [], refl, sym, ap, ◌∙◌}
use Rattle.stm_answers.specs.CallerState.{caller_of}
use Rattle.stm_tx.specs.Descs.{known}
use Rattle.work_worker.proofs.RoomLaws.{spare-empty, start-at}
use Rattle.work_worker.proofs.worker.Worker.new.Goals as goal

pub returns : goal.returns
returns g c =
    let room = c.in_ok-room.room in
    let is = c.in_ok-room.ensures in
    let empty = spare-empty c.args.items.now room.spare.items room.out is.spare in
    record {
      is_desc = refl;
      all = refl;
      at =
          start-at (caller_of c.args.desc.who.role) c.args.items.now c.args.alg c.args.policy (known c.args.desc).reads_limit
          (known c.args.desc).writes_limit room.profile room.out room.rows.items empty is.none is.noted;
      over = refl;
      roomy = record {
        spare = ap (λ o. room.spare.items ++ o ∷ []) (sym empty) ∙ is.spare;
        rows = is.rows;
      };
    }
