use Rattle.std.proofs.Common.{◌≡◌, rules}
use Rattle.wire.specs.TpduReading.{read_response}
use Rattle.wire.specs.TpduViews.{transport_response}
use Rattle.slot.proofs.DataFound.{found}
use Rattle.slot.proofs.receive.read.Goals as goal

pub returns : goal.returns
returns c =
    let said : transport_response c.response.result ≡ read_response c.args.c.number c.args.bytes.now = search rules in
    record { said = said; lies = found c.args.c.number c.args.bytes.now c.response.result said }
