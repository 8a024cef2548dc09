-- Tags of the objects of transport units.
use Rattle.std.specs.Prelude.{ℕ}

abbrev pub sb : ℕ
sb = 0x80

abbrev pub rcv : ℕ
rcv = 0x81

abbrev pub create_t_c : ℕ
create_t_c = 0x82

abbrev pub c_t_c_reply : ℕ
c_t_c_reply = 0x83

abbrev pub delete_t_c : ℕ
delete_t_c = 0x84

abbrev pub d_t_c_reply : ℕ
d_t_c_reply = 0x85

abbrev pub request_t_c : ℕ
request_t_c = 0x86

abbrev pub new_t_c : ℕ
new_t_c = 0x87

abbrev pub t_c_error : ℕ
t_c_error = 0x88

abbrev pub t_data_last : ℕ
t_data_last = 0xa0

abbrev pub t_data_more : ℕ
t_data_more = 0xa1
