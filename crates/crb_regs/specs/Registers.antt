-- The register page below the data buffer (PC Client Platform TPM Profile, the CRB at locality 0).
use Rattle.std.specs.Prelude.{ℕ, ◌*◌, ◌/◌, ◌%◌, Bool, true, false, if◌then◌else◌, ◌==◌}
use Rattle.crb_regs.specs.LittleEndian.{byte_of}
use Rattle.crb_regs.specs.Numbers as number
use Rattle.crb_regs.specs.declared.registers.Regs.{Regs}
use Rattle.crb_regs.specs.declared.phase.Phase.{Phase}
use Rattle.crb_regs.specs.declared.phase.Phase.TheVariants.{Idle, Execution, Lost}

-- whether no command is prepared
abbrev pub is_idle : Phase → Bool
is_idle Idle = true
is_idle _ = false

-- whether a command was started and hasn't ended
abbrev pub is_executing : Phase → Bool
is_executing Execution = true
is_executing _ = false

-- whether the TPM was lost
abbrev pub is_lost : Phase → Bool
is_lost Lost = true
is_lost _ = false

-- The registers after a reset: no access, CANCEL clear, idle.
abbrev pub reset_regs : Regs
reset_regs = record { granted = false; cancel = false; phase = Idle }

-- The value of the register of four bytes that begins at this offset; 0 where none begins.
abbrev pub register : Regs → ℕ → ℕ
register regs at =
    if at == number.loc_state then (if regs.granted then 0x83 else 0x81)
    else (if at == number.loc_sts then (if regs.granted then number.granted else 0)
    else (if at == number.intf_id_low then 0x00025811
    else (if at == number.intf_id_high then 0x00001014
    else (if at == number.ctrl_sts then (if is_lost regs.phase then number.tpm_sts else (if is_idle regs.phase then number.tpm_idle else 0))
    else (if at == number.ctrl_cancel then (if regs.cancel then number.cancel else 0)
    else (if at == number.ctrl_start then (if is_executing regs.phase then number.start else 0)
    else (if at == number.cmd_size then 0xF80
    else (if at == number.cmd_laddr then 0xFED40080
    else (if at == number.rsp_size then 0xF80
    else (if at == number.rsp_addr_low then 0xFED40080
    else 0))))))))))

-- the byte of the page at an offset below the buffer
abbrev pub register_byte : Regs → ℕ → ℕ
register_byte regs at = byte_of (register regs (4 * (at / 4))) (at % 4)
