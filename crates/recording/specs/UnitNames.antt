-- Names of units, statuses, resources and objects, and numbers in hexadecimal digits.
use Rattle.std.specs.Prelude.{ℕ, ◌+◌, ◌-◌, ◌/◌, ◌%◌, if◌then◌else◌, List, [], ◌∷◌, Some, None, codes, Option, ◌==◌, nat_lt}

-- the object of a transport unit, by its tag
abbrev pub name_of_tpdu : ℕ → List ℕ
name_of_tpdu tag =
    if tag == 0x80 then codes "T_SB"
    else if tag == 0x81 then codes "T_RCV"
    else if tag == 0x82 then codes "create_T_C"
    else if tag == 0x83 then codes "C_T_C_Reply"
    else if tag == 0x84 then codes "delete_T_C"
    else if tag == 0x85 then codes "D_T_C_Reply"
    else if tag == 0x86 then codes "request_T_C"
    else if tag == 0x87 then codes "new_T_C"
    else if tag == 0x88 then codes "T_C_Error"
    else if tag == 0xA0 then codes "T_data_last"
    else if tag == 0xA1 then codes "T_data_more"
    else codes "unknown"

-- a session unit, by its tag
abbrev pub name_of_spdu : ℕ → List ℕ
name_of_spdu tag =
    if tag == 0x90 then codes "session_number"
    else if tag == 0x91 then codes "open_session_request"
    else if tag == 0x92 then codes "open_session_response"
    else if tag == 0x95 then codes "close_session_request"
    else if tag == 0x96 then codes "close_session_response"
    else codes "unknown"

-- the status of a session that was asked for
abbrev pub name_of_open_status : ℕ → Option (List ℕ)
name_of_open_status status =
    if status == 0x00 then Some (codes "ok")
    else if status == 0xF0 then Some (codes "no such resource")
    else if status == 0xF1 then Some (codes "resource unavailable")
    else if status == 0xF2 then Some (codes "lower version")
    else if status == 0xF3 then Some (codes "busy")
    else None

-- the status of a session that was given back
abbrev pub name_of_close_status : ℕ → Option (List ℕ)
name_of_close_status status =
    if status == 0x00 then Some (codes "ok")
    else if status == 0xF0 then Some (codes "session not open")
    else None

-- a resource, by its identifier without the low 6 bits
abbrev pub name_of_unversioned : ℕ → Option (List ℕ)
name_of_unversioned n =
    if n == 0x401 then Some (codes "Resource Manager")
    else if n == 0x801 then Some (codes "Application Information")
    else if n == 0xC01 then Some (codes "Conditional Access Support")
    else if n == 0x8001 then Some (codes "Host Control")
    else if n == 0x9001 then Some (codes "Date-Time")
    else if n == 0x10001 then Some (codes "MMI")
    else None

-- a resource, by its identifier in any version
abbrev pub name_of_resource : ℕ → Option (List ℕ)
name_of_resource i = name_of_unversioned (i / 64)

-- an application object, by its tag
abbrev pub name_of_apdu : ℕ → Option (List ℕ)
name_of_apdu tag =
    if tag == 0x9F8010 then Some (codes "profile enquiry")
    else if tag == 0x9F8011 then Some (codes "profile reply")
    else if tag == 0x9F8012 then Some (codes "profile changed")
    else if tag == 0x9F8020 then Some (codes "application info enquiry")
    else if tag == 0x9F8021 then Some (codes "application info")
    else if tag == 0x9F8022 then Some (codes "enter menu")
    else if tag == 0x9F8030 then Some (codes "CA info enquiry")
    else if tag == 0x9F8031 then Some (codes "CA info")
    else if tag == 0x9F8032 then Some (codes "CA PMT")
    else if tag == 0x9F8033 then Some (codes "CA PMT reply")
    else if tag == 0x9F8440 then Some (codes "date-time enquiry")
    else if tag == 0x9F8441 then Some (codes "date-time")
    else None

-- the character of a number's last hexadecimal digit: 0 to 9, then A to F
abbrev pub hexadecimal_digit : ℕ → ℕ
hexadecimal_digit n = if nat_lt (n % 16) 10 then 48 + n % 16 else 65 + (n % 16 - 10)

-- a byte in two digits
abbrev pub byte_digits : ℕ → List ℕ
byte_digits n = hexadecimal_digit (n / 16) ∷ hexadecimal_digit n ∷ []

-- a number of 32 bits in eight digits
abbrev pub word_digits : ℕ → List ℕ
word_digits n =
    hexadecimal_digit (n / 0x10000000)
    ∷ hexadecimal_digit (n / 0x1000000)
    ∷ hexadecimal_digit (n / 0x100000)
    ∷ hexadecimal_digit (n / 0x10000)
    ∷ hexadecimal_digit (n / 0x1000)
    ∷ hexadecimal_digit (n / 0x100)
    ∷ hexadecimal_digit (n / 0x10)
    ∷ hexadecimal_digit n
    ∷ []
