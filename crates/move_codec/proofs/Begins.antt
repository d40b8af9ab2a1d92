-- Before the first byte nothing is decoded.
use Rattle.std.proofs.Common.{◌≡◌, ℕ, List, [], arith}
use Rattle.vt_base.specs.Layout.{HasFirst, IsOpen}
use Rattle.vt_base.proofs.Layouts.{open_start}
use Rattle.move_codec.specs.Messages.{messages}

first : HasFirst messages
unfolding messages
first = omega arith

pub open_nil : (bytes : List ℕ) → bytes ≡ [] → IsOpen messages bytes
open_nil bytes none = open_start messages bytes first none
