use Rattle.std.proofs.Common.{sym}
use Rattle.data_queue.specs.QueueLaws.{counts-length}
use Rattle.data_queue.proofs.queue.Queue.len_in.Goals as goal

pub returns : goal.returns
returns c = sym (counts-length c.args.self.now c.args.words.now)
