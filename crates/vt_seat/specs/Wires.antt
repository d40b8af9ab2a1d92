-- Wires in memory, as their callers see them. (Own definitions.)
use Rattle.std.specs.Prelude.{ℕ, zero, suc, Bool, true, false, List, [], drop, take, Option, Some, None}
use Rattle.tpm_core.specs.declared.parts.TpmParts.{TpmParts}
use Rattle.ctrl_model.specs.Link.{Link}
use Rattle.vt_emulator.specs.Emulator.{BufferedEmulator, fresh_emulator}

-- the link, how many calls come before the one that is to fail, where one is, and how many have failed
pub record WiresState : Type 0 where
  pub link : Link
  pub calls_to_fault : Option ℕ
  pub faults : ℕ

-- the link to an emulator, with the bytes that wait on either channel
abbrev pub link_of : BufferedEmulator → List ℕ → List ℕ → Link
link_of e replies responses = record {
  emulator = e.emulator;
  control = record { begun = e.request; pending = replies };
  commands = record { begun = e.command; pending = responses };
}

-- the emulator at the other end of a link
abbrev pub emulator_of : Link → BufferedEmulator
emulator_of l = record { emulator = l.emulator; request = l.control.begun; command = l.commands.begun }

-- wires to this emulator, on which nothing waits and none of whose calls is to fail
abbrev pub wires_to : BufferedEmulator → WiresState
wires_to e = record { link = link_of e [] []; calls_to_fault = None; faults = 0 }

-- wires to a new emulator with this TPM or none, none of whose calls is to fail
abbrev pub fresh_wires : Option TpmParts → ℕ → WiresState
fresh_wires tpm piece = wires_to (fresh_emulator tpm piece)

-- the bytes from one place up to another
abbrev pub slice_between : ℕ → ℕ → List ℕ → List ℕ
slice_between from to bytes = drop from (take to bytes)

-- whether the next call is to fail
abbrev pub fails_next : Option ℕ → Bool
fails_next (Some zero) = true
fails_next _ = false

-- after that call
abbrev pub after_call : Option ℕ → Option ℕ
after_call None = None
after_call (Some zero) = None
after_call (Some (suc before)) = Some before
