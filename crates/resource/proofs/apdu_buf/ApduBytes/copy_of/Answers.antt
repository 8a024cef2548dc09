use Rattle.std.proofs.Common.{rules}
use Rattle.std.proofs.lemmas.List.{take_at}
use Rattle.resource.proofs.apdu_buf.ApduBytes.copy_of.Goals as goal

pub returns : goal.returns
returns c = record { bytes = search (rules, take_at); length = search rules }
