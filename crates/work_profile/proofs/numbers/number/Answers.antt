use Rattle.std.proofs.Common.{arith}
use Rattle.std.proofs.lemmas.Str.Pattern.{starts_char}
use Rattle.work_profile.proofs.WordLaws.{no-plus, zero-alone, one-zero, plain-number}
use Rattle.work_profile.proofs.numbers.number.Goals as goal

pub returns-then-starts_with : goal.returns-then-starts_with
returns-then-starts_with c =
    let first = starts_char 43 c.args.word.now c.starts_with.result c.starts_with.ensures.cases (omega arith) (omega arith) in
    no-plus c.args.word.now (first.0 c.if-starts_with.true)

pub returns-then-word-eq1 : goal.returns-then-word-eq1
returns-then-word-eq1 c =
    let first = starts_char 48 c.args.word.now c.starts_with-2.result c.starts_with-2.ensures.cases (omega arith) (omega arith) in
    one-zero c.args.word.now (first.0 c.if-starts_with-2.true) c.if-word-eq1.true

pub returns-else-word-eq1 : goal.returns-else-word-eq1
returns-else-word-eq1 c =
    let first = starts_char 48 c.args.word.now c.starts_with-2.result c.starts_with-2.ensures.cases (omega arith) (omega arith) in
    zero-alone c.args.word.now (first.0 c.if-starts_with-2.true) c.if-word-eq1.false

pub returns-in-Ok : goal.returns-in-Ok
returns-in-Ok c =
    let plus = starts_char 43 c.args.word.now c.starts_with.result c.starts_with.ensures.cases (omega arith) (omega arith) in
    let nought = starts_char 48 c.args.word.now c.starts_with-2.result c.starts_with-2.ensures.cases (omega arith) (omega arith) in
    rw c.in-Ok.is at (plain-number c.args.word.now c.parse.result c.parse.ensures.value.0 (λ h. let yes = plus.1 h in cc) (λ h. let yes = nought.1 h in cc))

pub returns-in-Err : goal.returns-in-Err
returns-in-Err c =
    let plus = starts_char 43 c.args.word.now c.starts_with.result c.starts_with.ensures.cases (omega arith) (omega arith) in
    let nought = starts_char 48 c.args.word.now c.starts_with-2.result c.starts_with-2.ensures.cases (omega arith) (omega arith) in
    rw c.in-Err.is at (plain-number c.args.word.now c.parse.result c.parse.ensures.value.0 (λ h. let yes = plus.1 h in cc) (λ h. let yes = nought.1 h in cc))
