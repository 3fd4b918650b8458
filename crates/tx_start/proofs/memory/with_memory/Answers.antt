use Rattle.std.proofs.Common.{◌≡◌, ◌<◌, ◌≤◌, ◌∙◌, ap, arith, get_or, length, map, subst, sym}
use Rattle.std.proofs.lemmas.List.{length-map}
use Rattle.stm_model.specs.declared.config.Config.{Config}
use Rattle.stm_model.specs.Histories.{IsLegal, memory_at}
use Rattle.stm_rule.specs.Callers.{Handle}
use Rattle.stm_rule.specs.Closings.{AllTold, installs_of}
use Rattle.tx_atomic.specs.Callers.{AllReady}
use Rattle.tx_atomic.specs.CallerLaws.{ready-all, ready-idle}
use Rattle.tx_jobs.specs.Moments.{zeros}
use Rattle.tx_jobs.specs.Stories.{IsStory}
use Rattle.tx_start.specs.Lefts.{answer_in, answers_in}
use Rattle.tx_start.specs.Pasts.{past_of}
use Rattle.tx_start.specs.Counts.{AllCounted}
use Rattle.tx_start.proofs.LeftLaws.{all-counted, each-worked, stories}
use Rattle.tx_start.proofs.memory.with_memory.Goals as goal

pub work_all-requires-clause-ready : goal.work_all-requires-clause-ready
work_all-requires-clause-ready g c κs within = ready-all c.in_ok-stm.stm 0 c.in_ok-stm.descs.items c.in_ok-stm.ensures.ready

pub close_into-closed-requires-clause-descs : goal.close_into-closed-requires-clause-descs
close_into-closed-requires-clause-descs g c =
    let stm = c.in_ok-stm.stm in
    let worked = each-worked (g.K.MemRule.good stm.rule) stm c.args.alg (g.J.Job.postcondition c.args.job.now stm.rule stm.config.words) c.in_ok-stm.descs.items
    c.in_ok-left.left.items c.in_ok-stm.ensures.ready c.in_ok-left.ensures.count c.in_ok-left.ensures.done in
    ready-idle stm (ap (λ (k : Config). k.fence) c.in_ok-stm.ensures.stm.0 ∙ c.requires.unfenced) 0 _ (subst (AllReady stm 0) (sym c.part-descs.ensures.descs) worked)

pub returns-clause-came : goal.returns-clause-came
returns-clause-came g c =
    let stm = c.in_ok-stm.stm in
    let of = c.in_ok-stm.ensures.stm in
    let ds = c.in_ok-stm.descs.items in
    let ls = c.in_ok-left.left.items in
    let e = c.close_into-closed.result in
    let h = c.close_into-closed.ensures.closes in
    let parted = c.part-descs.ensures in
    let sizes : stm.config ≡ c.args.config = of.0 in
    let legal = subst (λ r. IsLegal (g.K.MemRule.good r) (zeros stm.config.words) stm.config.clock e.history) of.1 h.legal in
    record {
      kept = subst (λ r. g.K.MemRule.good r c.close_into-closed.new.words.items) of.1 c.close_into-closed.ensures.good;
      count = c.close_into-closed.ensures.all_words ∙ ap (λ (k : Config). k.words) sizes;
      each = ap length parted.answers ∙ (length-map ls answer_in ∙ (c.in_ok-left.ensures.count ∙ c.in_ok-stm.ensures.count));
      legal = subst (λ (k : Config). IsLegal (g.K.MemRule.good c.args.rule) (zeros k.words) k.clock e.history) sizes legal;
      within = h.times;
      end = subst (λ (k : Config). c.close_into-closed.new.words.items ≡ memory_at e.clock e.history (zeros k.words)) sizes h.words;
      stories = λ i a lt.
          let within : i < length ds = let many = c.in_ok-stm.ensures.count in omega (arith, lt, many) in
          let told = subst (AllTold e 0) parted.descs h.told in
          let installs = h.installs ∙ ap (map (λ (d : Handle g.row.K.Denot). installs_of d.view)) parted.descs in
          let one = stories (g.K.MemRule.good stm.rule) stm c.args.alg (g.J.Job.postcondition c.args.job.now stm.rule stm.config.words) ds ls e c.in_ok-stm.ensures.ready c.in_ok-stm.ensures.new
          c.in_ok-left.ensures.count c.in_ok-left.ensures.done told installs i a within in
          let two = subst (λ ts. IsStory c.args.alg (g.J.Job.postcondition c.args.job.now stm.rule stm.config.words i) (past_of e ts) i (get_or (answers_in ls) i a)) (sym parted.tallies) one in
          let three = subst (λ xs. IsStory c.args.alg (g.J.Job.postcondition c.args.job.now stm.rule stm.config.words i) (past_of e c.part-descs.result.2.items) i (get_or xs i a)) (sym parted.answers) two in
          let four = subst (λ (k : Config). IsStory c.args.alg (g.J.Job.postcondition c.args.job.now stm.rule k.words i) (past_of e c.part-descs.result.2.items) i (get_or c.part-descs.result.1.items i a)) sizes three in
          subst (λ r. IsStory c.args.alg (g.J.Job.postcondition c.args.job.now r c.args.config.words i) (past_of e c.part-descs.result.2.items) i (get_or c.part-descs.result.1.items i a)) of.1 four;
      nobody_else = λ n le. h.nobody_else n (subst (λ k. k ≤ n) (sym (ap (λ (k : Config). k.callers) sizes)) le);
    }

pub returns-clause-counted : goal.returns-clause-counted
returns-clause-counted g c =
    let stm = c.in_ok-stm.stm in
    let of = c.in_ok-stm.ensures.stm in
    let e = c.close_into-closed.result in
    let h = c.close_into-closed.ensures.closes in
    let parted = c.part-descs.ensures in
    let told = subst (AllTold e 0) parted.descs h.told in
    let installs = h.installs ∙ ap (map (λ (d : Handle g.row.K.Denot). installs_of d.view)) parted.descs in
    let one = all-counted (g.K.MemRule.good stm.rule) stm c.args.alg (g.J.Job.postcondition c.args.job.now stm.rule stm.config.words) c.in_ok-stm.descs.items
    c.in_ok-left.left.items e c.in_ok-stm.ensures.ready c.in_ok-stm.ensures.new c.in_ok-left.ensures.count (c.in_ok-stm.ensures.count ∙ sym (ap (λ (k : Config). k.callers) of.0)) c.in_ok-left.ensures.done told installs in
    let two = subst (AllCounted (g.K.MemRule.good stm.rule) stm.config c.args.alg e) (sym parted.tallies) one in
    let three = subst (λ (k : Config). AllCounted (g.K.MemRule.good stm.rule) k c.args.alg e c.part-descs.result.2.items) of.0 two in
    subst (λ r. AllCounted (g.K.MemRule.good r) c.args.config c.args.alg e c.part-descs.result.2.items) of.1 three
