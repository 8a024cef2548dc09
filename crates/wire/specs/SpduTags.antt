-- Tags of session units.
use Rattle.std.specs.Prelude.{ℕ}

abbrev pub session_number : ℕ
session_number = 0x90

abbrev pub open_session_request : ℕ
open_session_request = 0x91

abbrev pub open_session_response : ℕ
open_session_response = 0x92

abbrev pub close_session_request : ℕ
close_session_request = 0x95

abbrev pub close_session_response : ℕ
close_session_response = 0x96
