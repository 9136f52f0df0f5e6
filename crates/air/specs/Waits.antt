-- What waits in a queue.
use Rattle.std.specs.Prelude.{List, take}
use Rattle.air.specs.Queues.{held_in}
use Rattle.air.specs.declared.entries.Entry.{Entry}
use Rattle.air.specs.declared.queues.Queue.{Queue}
use Rattle.protocol.specs.Airs.{Waiting}

abbrev pub held_entries : Queue → List Entry
held_entries q = take q.held q.entries

abbrev pub waits : Queue → List Waiting
waits q = held_in q.store q.entries q.held
