-- What a resource sends is short.
use Rattle.std.proofs.Common.{ℕ, ◌≤◌, leb, List, length, is_ok}
use Rattle.std.proofs.lemmas.Bool.{leb-true, and_parts}
use Rattle.wire.specs.ApduReading.{read_apdu}
use Rattle.resource.specs.ShortApdu.{object_limit, IsShortApdu}

pub object_brief : (bs : List ℕ) → IsShortApdu bs → length bs ≤ object_limit
object_brief bs h = leb-true (length bs) object_limit (and_parts (leb (length bs) object_limit) (is_ok (read_apdu bs)) h).0
