use Rattle.data_queue.specs.QueueLaws.{zeros-empty, own-words, changes-own, beside}
use Rattle.data_queue.proofs.laws.queues_are_apart.Goals as goal

pub returns-clause-empty : goal.returns-clause-empty
returns-clause-empty c = zeros-empty

pub returns-clause-apart : goal.returns-clause-apart
returns-clause-apart c = own-words

pub returns-clause-within : goal.returns-clause-within
returns-clause-within c = changes-own

pub returns-clause-beside : goal.returns-clause-beside
returns-clause-beside c = beside
