-- The numbers of the register page (TCG PC Client Platform TPM Profile 1.05, the registers of the CRB at locality 0).
use Rattle.std.specs.Prelude.{ℕ}

-- ---- where the registers begin, and the buffer

abbrev pub loc_state : ℕ
loc_state = 0x00

abbrev pub loc_ctrl : ℕ
loc_ctrl = 0x08

abbrev pub loc_sts : ℕ
loc_sts = 0x0C

abbrev pub intf_id_low : ℕ
intf_id_low = 0x30

abbrev pub intf_id_high : ℕ
intf_id_high = 0x34

abbrev pub ctrl_req : ℕ
ctrl_req = 0x40

abbrev pub ctrl_sts : ℕ
ctrl_sts = 0x44

abbrev pub ctrl_cancel : ℕ
ctrl_cancel = 0x48

abbrev pub ctrl_start : ℕ
ctrl_start = 0x4C

abbrev pub cmd_size : ℕ
cmd_size = 0x58

abbrev pub cmd_laddr : ℕ
cmd_laddr = 0x5C

abbrev pub rsp_size : ℕ
rsp_size = 0x64

abbrev pub rsp_addr_low : ℕ
rsp_addr_low = 0x68

abbrev pub data_buffer : ℕ
data_buffer = 0x80

-- ---- the bits of what is written: requestAccess and relinquish, cmdReady and goIdle, cancel, start

abbrev pub request_access : ℕ
request_access = 0x01

abbrev pub relinquish : ℕ
relinquish = 0x02

abbrev pub cmd_ready : ℕ
cmd_ready = 0x01

abbrev pub go_idle : ℕ
go_idle = 0x02

abbrev pub cancel : ℕ
cancel = 0x01

abbrev pub start : ℕ
start = 0x01

-- ---- the bits of what is read

-- LOC_STS: access is granted to this locality
abbrev pub granted : ℕ
granted = 0x01

-- CTRL_STS, tpmSts: the TPM can't be used
abbrev pub tpm_sts : ℕ
tpm_sts = 0x01

-- CTRL_STS, tpmIdle: the interface is idle
abbrev pub tpm_idle : ℕ
tpm_idle = 0x02
