-- How far a worker is with its job. (Own definitions.)
use Rattle.std.specs.Prelude.{◌≡◌, ℕ, Bool, true, false, not, nat_lt, Option, Some, None}
use Rattle.crb_port.specs.Views.{PortView}
use Rattle.tpm_frame.specs.Sizes.{named_size}
use Rattle.tpm_frame.specs.Numbers.{header_size}
use Rattle.crb_worker.specs.Heads.{is_head}
use Rattle.crb_worker.specs.declared.progress.Progress.{Progress}
use Rattle.crb_worker.specs.declared.progress.Progress.TheVariants.{Free, Claimed, Sent, HeaderReceived}

-- the number of the claimed job
abbrev pub claimed_number_of : Progress → Option ℕ
claimed_number_of Free = None
claimed_number_of (Claimed job) = Some job.number
claimed_number_of (Sent job) = Some job.number
claimed_number_of (HeaderReceived job head) = Some job.number

-- the claimed job is the one that is claimed at the port; without one any port serves
abbrev pub HasClaimed : Progress → PortView → Type 0
HasClaimed Free k = Unit {0}
HasClaimed (Claimed job) k = k.claimed_number ≡ Some job.number
HasClaimed (Sent job) k = k.claimed_number ≡ Some job.number
HasClaimed (HeaderReceived job head) k = k.claimed_number ≡ Some job.number

-- a header that is kept is that of a response
abbrev pub holds_head : Progress → Bool
holds_head (HeaderReceived job head) = is_head head
holds_head _ = true

-- the next step calls the wires: to send a command that isn't cancelled, or to receive bytes that are left of a response
abbrev pub calls_wires : Progress → Bool
calls_wires Free = false
calls_wires (Claimed job) = not job.cancelled
calls_wires (Sent job) = true
calls_wires (HeaderReceived job head) = nat_lt header_size (named_size head)
