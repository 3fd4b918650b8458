use Rattle.std.proofs.Common.{◌≡◌, ◌∙◌, true, false, length, ap, arith}
use Rattle.std.proofs.lemmas.Grind.{common_steps}
use Rattle.example_mail_jobs.proofs.DayLaws.{all-received}
use Rattle.example_mail_jobs.specs.Days.{IsThrough}
use Rattle.example_mail_jobs.proofs.day.each_came_once.Goals as goal

pub returns-clause-only : goal.returns-clause-only
returns-clause-only g c = λ some through.
    let urgent = rw (c.queue.ensures, c.deref.ensures.value) at c.len_in-urgent.ensures ∙ ap length (through.1 true) in
    let others = rw (c.queue-2.ensures, c.deref-2.ensures.value) at c.len_in-others.ensures ∙ ap length (through.1 false) in
    grind (arith, common_steps, urgent, others)

pub returns-clause-once : goal.returns-clause-once
returns-clause-once g c =
    let through : c.eq.result ≡ true → IsThrough c.args.came.now.words.items c.args.came.now.answers.items = grind (arith, common_steps) in
    λ none history day message low. all-received c.args.came.now.words.items c.args.came.now.answers.items history c.index.result.now (through none) day message low
