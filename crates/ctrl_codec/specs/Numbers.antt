-- The numbers of control messages, beside the codes of requests. (Own definitions.)
use Rattle.std.specs.Prelude.{ℕ}

-- how many bytes of data go with one message at most
abbrev pub largest_data : ℕ
largest_data = 4096

-- where the data begins in a message that has some, behind four numbers
abbrev pub data_place : ℕ
data_place = 16

-- how many bytes a message has at most
abbrev pub largest_message : ℕ
largest_message = 4112
