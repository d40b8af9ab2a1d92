-- The bytes behind a gate: version at 0, role at 8, top at 9, length of the stream at 17, stream at 19. (Own definitions.)
use Rattle.std.specs.Prelude.{ℕ, zero, suc, List, [], ◌∷◌, ◌++◌, take, drop, length, slice_index, Option, Some, None, if◌then◌else◌, nat_le}
use Rattle.std.specs.Int.{w16, w64}
use Rattle.vt_base.specs.Numbers.{big_endian_at, short, long}
use Rattle.own_store.specs.declared.body.Stored.{Stored}
use Rattle.own_store.specs.declared.entry.Entry.{Entry}
use Rattle.own_store.specs.declared.entry.Role.{Role}
use Rattle.own_store.specs.declared.entry.Role.TheVariants.{Empty, Running, Released, Prepared}

abbrev pub role_byte : Role → ℕ
role_byte Empty = 0
role_byte Running = 1
role_byte Released = 2
role_byte Prepared = 3

-- the role of a byte
abbrev pub role_of : ℕ → Option Role
role_of zero = Some Empty
role_of (suc zero) = Some Running
role_of (suc (suc zero)) = Some Released
role_of (suc (suc (suc zero))) = Some Prepared
role_of more = None

-- the entry of a body of this role, if its length is in range
abbrev pub stored_by : Role → List ℕ → ℕ → Option Stored
stored_by role body size =
    if nat_le size 7285
    then Some (record {
      version = big_endian_at w64 0 body;
      entry = record { role = role; top = big_endian_at w64 9 body; stream = take size (drop 19 body) };
    })
    else None

abbrev pub stored_as : Option Role → List ℕ → Option Stored
stored_as None body = None
stored_as (Some role) body = stored_by role body (big_endian_at w16 17 body)

-- the entry of a body, if its role and its length are in range
unfoldable pub stored_in : List ℕ → Option Stored
stored_in body = stored_as (role_of (slice_index body 8)) body

-- the bytes of an entry at the start of its body
abbrev pub encode_entry : ℕ → Entry → List ℕ
encode_entry version entry =
    long version ++ (role_byte entry.role ∷ []) ++ long entry.top ++ short (length entry.stream) ++ entry.stream
