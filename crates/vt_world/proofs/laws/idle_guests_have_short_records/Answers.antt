use Rattle.vt_world.proofs.Short.{short_after, pieces_after}
use Rattle.vt_world.proofs.laws.idle_guests_have_short_records.Goals as goal

pub returns : goal.returns
returns c = record {
  short = λ b p w starts after idle. short_after c.guests_go_on.ensures.rests b p w starts after idle;
  pieces = λ b p piece w starts after idle. pieces_after c.guests_go_on.ensures.rests b p w starts after idle piece;
}
