-- Tags of application objects.
use Rattle.std.specs.Prelude.{ℕ}

abbrev pub profile_enquiry : ℕ
profile_enquiry = 0x9f8010

abbrev pub profile_reply : ℕ
profile_reply = 0x9f8011

abbrev pub profile_changed : ℕ
profile_changed = 0x9f8012

abbrev pub application_info_enquiry : ℕ
application_info_enquiry = 0x9f8020

abbrev pub application_info : ℕ
application_info = 0x9f8021

abbrev pub date_time_enquiry : ℕ
date_time_enquiry = 0x9f8440

abbrev pub date_time : ℕ
date_time = 0x9f8441
