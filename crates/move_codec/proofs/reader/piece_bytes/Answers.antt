use Rattle.std.proofs.Common.{sym, arith}
use Rattle.std.proofs.lemmas.List.{drop_all, take_rest}
use Rattle.move_codec.proofs.reader.piece_bytes.Goals as goal

pub returns-then-message-le-BYTES_PLACE : goal.returns-then-message-le-BYTES_PLACE
returns-then-message-le-BYTES_PLACE c = sym (drop_all 26 c.args.message.now (omega arith))

pub returns-else-message-le-BYTES_PLACE : goal.returns-else-message-le-BYTES_PLACE
returns-else-message-le-BYTES_PLACE c = take_rest c.args.message.now 26
