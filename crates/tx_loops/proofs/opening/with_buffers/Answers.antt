use Rattle.std.proofs.Common.{length, List, ◌≡◌, ◌∙◌, ◌++◌, ◌∷◌, [], refl, sym, ap, arith, subst, append_assoc}
use Rattle.std.specs.Prelude.{All}
use Rattle.std.specs.Vec.Iter.{into_iter_items}
use Rattle.std.proofs.lemmas.List.{map-append}
use Rattle.std.proofs.lemmas.List.Elements.{All-push}
use Rattle.tx_checked.specs.CheckedCallers.{config_of}
use Rattle.stm_logs.specs.LogStates.{empty_at}
use Rattle.tx_loops.specs.Openings.{IsFree, caller_in, callers_in}
use Rattle.tx_loops.specs.declared.looping_caller.LoopingCaller.{LoopingCaller}
use Rattle.tx_loops.specs.declared.stage.Stage.TheVariants.{Free}
use Rattle.tx_loops.proofs.opening.with_buffers.Goals as goal

push-free : (ms ns : List LoopingCaller) (m : LoopingCaller) → ns ≡ ms ++ m ∷ [] → All IsFree ms → m.stage ≡ Free → m.plan.wanted ≡ 0 → m.buffer ≡ empty_at (config_of m.caller).writes 1 (config_of m.caller).marks → All IsFree ns
push-free ms ns m is all stage wanted buffer = subst (All IsFree) (sym is) (All-push IsFree ms m all (record { stage = stage; wanted = wanted; buffer = buffer }))

pub loop-caller-preserved : goal.loop-caller-preserved
loop-caller-preserved c =
    let at = c.loop-caller in
    let m = c.in-Some.caller in
    let rest = into_iter_items c.next.new.self in
    let steps : into_iter_items at.caller-iterator ≡ m ∷ rest = c.in-Some.ensures.steps.0 in
    let items = at.looping_callers.items in
    let sizes = c.deref.ensures in
    let empty = c.in_ok-buffer.ensures in
    let pushed : callers_in c.push.new.self.items ≡ callers_in items ++ m ∷ [] = ap callers_in c.in-Ok.ensures.items ∙ map-append caller_in items _ in
    record {
      callers = ap (λ l. l ++ rest) pushed ∙ (append_assoc (callers_in items) (m ∷ []) rest ∙ (ap (λ l. callers_in items ++ l) (sym steps) ∙ at.invariant.callers));
      free = push-free items c.push.new.self.items _ c.in-Ok.ensures.items at.invariant.free refl c.new-in-loop-caller.ensures.wanted cc;
      len = (let was = at.invariant.len in let gone = c.in-Some.ensures.steps.1 in let short = ap length steps in omega arith);
    }
