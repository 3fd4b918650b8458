use Rattle.std.proofs.Common.{◌≡◌, ◌<◌, ◌∙◌, length, get_or, sym, ap, subst, arith}
use Rattle.std.proofs.lemmas.List.{length-set}
use Rattle.std.specs.Prelude.{Ok, Err}
use Rattle.stm_answers.specs.declared.answers.Read.{Read}
use Rattle.stm_answers.specs.declared.answers.Read.TheVariants.{Value}
use Rattle.nekchhaul_c.specs.Codes.{read_code}
use Rattle.nekchhaul_c.specs.Reads.{ReadTells}
use Rattle.nekchhaul_c.proofs.InTurn.{kept-more, read-more, same-after, stopped, misuse-high}
use Rattle.tx_loops.proofs.AccessLaws.{read-served}
use Rattle.nekchhaul_c.proofs.reading.read_each.Goals as goal

pub read_by-requires : goal.read_by-requires
read_by-requires g c = record { served = c.loop-i.invariant.served }

pub returns-in-Ok-Conflict : goal.returns-in-Ok-Conflict
returns-in-Ok-Conflict g c =
    let at = c.loop-i.invariant in
    stopped c.loop-i.i c.args.addresses.now c.args.values.now c.loop-i.values 1 (Ok c.in-Ok-Conflict.field-0) c.args.looping_caller.now
    c.loop-i.looping_caller c.read_by.new.self c.loop-i-test.true c.requires.room at.count at.beyond at.same at.read
    c.in-Ok-Conflict.ensures
    (ap (λ (q : Read). read_code (Ok q)) (sym c.in-Ok-Conflict.field-0-is)) (λ z. let no : 1 ≡ 0 = z in cc)

pub returns-in-Ok-Full : goal.returns-in-Ok-Full
returns-in-Ok-Full g c =
    let at = c.loop-i.invariant in
    stopped c.loop-i.i c.args.addresses.now c.args.values.now c.loop-i.values 6 (Ok c.in-Ok-Full.field-0) c.args.looping_caller.now
    c.loop-i.looping_caller c.read_by.new.self c.loop-i-test.true c.requires.room at.count at.beyond at.same at.read c.in-Ok-Full.ensures
    (ap (λ (q : Read). read_code (Ok q)) (sym c.in-Ok-Full.field-0-is)) (λ z. let no : 6 ≡ 0 = z in cc)

pub returns-in-Err : goal.returns-in-Err
returns-in-Err g c =
    let at = c.loop-i.invariant in
    stopped c.loop-i.i c.args.addresses.now c.args.values.now c.loop-i.values c.of_misuse.result (Err c.in-Err.misuse)
    c.args.looping_caller.now c.loop-i.looping_caller c.read_by.new.self c.loop-i-test.true c.requires.room at.count at.beyond at.same
    at.read c.in-Err.ensures
    c.of_misuse.ensures (λ z. misuse-high c.in-Err.misuse (sym c.of_misuse.ensures ∙ z))

pub loop-i-preserved : goal.loop-i-preserved
loop-i-preserved g c =
    let at = c.loop-i.invariant in
    let i = c.loop-i.i in
    let k = c.loop-i.looping_caller in
    let o = c.read_by.new.self in
    let a = get_or c.args.addresses.now i 0 in
    let tells = subst (λ (q : Read). ReadTells a (Ok q) k o) c.in-Ok-Value.field-0-is c.in-Ok-Value.ensures in
    let low = c.loop-i-test.true in
    let room = c.requires.room in
    let count = at.count in
    let within : i < length c.loop-i.values = omega (arith, low, room, count) in
    record {
      served = read-served g.C.Calls.acts_as a c.in-Ok-Value.word k o at.served tells;
      same = same-after a (Ok (Value c.in-Ok-Value.word)) c.args.looping_caller.now k o at.same tells;
      beyond = kept-more i c.in-Ok-Value.word c.args.values.now c.loop-i.values at.beyond;
      count = length-set c.loop-i.values i c.in-Ok-Value.word ∙ count;
      read = read-more i c.args.addresses.now c.loop-i.values c.in-Ok-Value.word c.args.looping_caller.now k o low within at.read tells;
    }
