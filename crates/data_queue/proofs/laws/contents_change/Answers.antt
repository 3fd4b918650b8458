use Rattle.data_queue.specs.QueueLaws.{puts-last, gets-first, counts-length, replies-tell}
use Rattle.data_queue.proofs.laws.contents_change.Goals as goal

pub returns-clause-puts : goal.returns-clause-puts
returns-clause-puts c = puts-last

pub returns-clause-gets : goal.returns-clause-gets
returns-clause-gets c = gets-first

pub returns-clause-counts : goal.returns-clause-counts
returns-clause-counts c = counts-length

pub returns-clause-tells : goal.returns-clause-tells
returns-clause-tells c = replies-tell
