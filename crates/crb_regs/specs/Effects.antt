-- What a write asks for (PC Client Platform TPM Profile, the control area of the CRB; the exact cells are our own).
use Rattle.std.specs.Prelude.{ℕ, true, false, if◌then◌else◌, ◌==◌, nat_le}
use Rattle.crb_regs.specs.Numbers as number
use Rattle.crb_regs.specs.declared.effect.Effect.{Effect}
use Rattle.crb_regs.specs.declared.effect.Effect.TheVariants.{Buffer, CmdReady, GoIdle, Start, Cancel, Request, Relinquish, Nothing}

-- a write of this value to the register at this offset
abbrev pub register_effect : ℕ → ℕ → Effect
register_effect at value =
    if at == number.loc_ctrl then (if value == number.request_access then Request else (if value == number.relinquish then Relinquish else Nothing))
    else (if at == number.ctrl_req then (if value == number.cmd_ready then CmdReady else (if value == number.go_idle then GoIdle else Nothing))
    else (if at == number.ctrl_cancel then (if value == 0 then Cancel false else (if value == number.cancel then Cancel true else Nothing))
    else (if at == number.ctrl_start then (if value == number.start then Start else Nothing)
    else Nothing)))

-- any write into the buffer sets its bytes; a register takes a write of at most four bytes
abbrev pub effect : ℕ → ℕ → ℕ → Effect
effect at size value =
    if nat_le number.data_buffer at then Buffer
    else (if nat_le size 4 then register_effect at value else Nothing)
