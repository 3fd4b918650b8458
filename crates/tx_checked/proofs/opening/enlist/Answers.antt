use Rattle.std.proofs.Common.{◌≡◌, ◌∙◌, length, ◌++◌, ◌∷◌, [], refl, sym, ap, arith, subst, append_assoc}
use Rattle.std.specs.Prelude.{All}
use Rattle.std.specs.Arc.{arc_value}
use Rattle.std.specs.Vec.Iter.{into_iter_items}
use Rattle.std.proofs.lemmas.List.{map-append}
use Rattle.std.proofs.lemmas.List.Elements.{All-push}
use Rattle.stm_model.specs.declared.rule.AnyMem.{AnyMem}
use Rattle.stm_rule.specs.declared.stm.Stm.{Stm}
use Rattle.stm_rule.specs.Callers.{IsOf}
use Rattle.stm_tx.specs.Descs.{known}
use Rattle.tx_atomic.specs.Callers.{IsReady}
use Rattle.tx_checked.specs.declared.note_exchange.NoteExchange.{NoteExchange}
use Rattle.tx_checked.specs.Ready.{HasMadeNone, IsUnused, desc_in, descs_in}
use Rattle.tx_checked.proofs.Held.{dated-none, no-range, idle-in_phase}
use Rattle.tx_checked.proofs.Newcomers.{all-head, all-tail}
use Rattle.tx_checked.proofs.opening.enlist.Goals as goal

pub invariant_of-push_reserved : goal.invariant_of-push_reserved
invariant_of-push_reserved c =
    let stm = arc_value c.args.stm.now in
    let desc = c.in-Some.desc in
    let rest = into_iter_items c.next.new.self in
    let ready : IsReady stm desc = all-head (IsReady stm) desc rest (subst (All (IsReady stm)) c.in-Some.ensures.steps.0 c.loop-desc.invariant.ready) in
    record {
      own = subst (λ (s : Stm AnyMem). IsOf desc s) (sym c.in-Ok.ensures) ready.own;
      exchange_own =
          subst (λ (s : Stm AnyMem). IsOf (arc_value c.in-Ok-try_clone.note_exchange).table.shared.key s) (sym c.in-Ok.ensures)
          (subst (λ (b : NoteExchange). IsOf b.table.shared.key stm) (sym c.in-Ok-try_clone.ensures) c.requires.note_exchange);
      in_phase = idle-in_phase (known desc) ready.idle;
      reaches = refl;
      dated = dated-none (known desc) (all-head HasMadeNone desc rest (subst (All HasMadeNone) c.in-Some.ensures.steps.0 c.loop-desc.invariant.none));
      ranged = no-range (arc_value c.in-Ok.shared).config.words (known desc).fenced;
    }

pub loop-desc-preserved : goal.loop-desc-preserved
loop-desc-preserved c =
    let at = c.loop-desc in
    let stm = arc_value c.args.stm.now in
    let desc = c.in-Some.desc in
    let rest = into_iter_items c.next.new.self in
    let steps : into_iter_items at.desc-iterator ≡ desc ∷ rest = c.in-Some.ensures.steps.0 in
    let checked_callers = at.checked_callers.items in
    let pushed : descs_in c.push_reserved.new.self.items ≡ descs_in checked_callers ++ desc ∷ [] = ap descs_in c.push_reserved.ensures.items ∙ map-append desc_in checked_callers _ in
    record {
      ready = all-tail (IsReady stm) desc rest (subst (All (IsReady stm)) steps at.invariant.ready);
      none = all-tail HasMadeNone desc rest (subst (All HasMadeNone) steps at.invariant.none);
      descs = ap (λ l. l ++ rest) pushed ∙ (append_assoc (descs_in checked_callers) (desc ∷ []) rest ∙ (ap (λ l. descs_in checked_callers ++ l) (sym steps) ∙ at.invariant.descs));
      unused =
          subst (All (IsUnused stm)) (sym c.push_reserved.ensures.items)
          (All-push (IsUnused stm) checked_callers _ at.invariant.unused
          (record {
            memory = c.in-Ok.ensures;
            phase = refl;
            range = refl;
            refusal = refl;
            counts = c.none.ensures;
          }));
      len = (let was = at.invariant.len in let gone = c.in-Some.ensures.steps.1 in let short = ap length steps in omega arith);
      room = (let was = at.invariant.room in let more = c.push_reserved.ensures.len in let kept = c.push_reserved.ensures.capacity in let short = ap length steps in omega arith);
    }
