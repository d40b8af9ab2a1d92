-- What a contract sees of a `PlainPort`. (Own definitions.)
use Rattle.std.specs.Prelude.{refl, [], Some, None}
use Rattle.crb_port.specs.Views.{PortView, is_nothing, claimed_number_in, IsExact}
use Rattle.crb_port.specs.declared.job.PortState.{PortState}

-- its state is known, and it has no lists
abbrev pub plain : PortState → PortView
plain port_state = record {
  which = [];
  is_free = is_nothing port_state;
  claimed_number = claimed_number_in port_state;
  state = Some port_state;
  looks = None;
  queued = None;
  collected = None;
  claimed = None;
  posted = None;
}

pub plain_is_exact : (port_state : PortState) → IsExact (plain port_state)
plain_is_exact port_state = (refl, refl)
