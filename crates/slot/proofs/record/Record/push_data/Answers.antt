use Rattle.std.proofs.Common.{◌+◌, leb, length, arith}
use Rattle.slot.specs.ConnectionViews.{part_of, append_data}
use Rattle.slot.proofs.RecordChanges.{line_adds}
use Rattle.slot.proofs.record.Record.push_data.Goals as goal

pub returns : goal.returns
returns c = line_adds c.args.c.number c.args.self.now c.push_data.new.self c.connection_mut.result.now (λ x. leb (length x.session_data + length (part_of c.args.start c.args.n x)) 2048) (append_data c.args.start c.args.n) c.push_data.result (omega arith) (omega arith) c.connection_mut.ensures.value c.push_data.ensures
