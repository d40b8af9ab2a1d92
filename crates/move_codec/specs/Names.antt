-- The names that stand in a message as one byte, and how long the kinds of messages are. (Own definitions.)
use Rattle.std.specs.Prelude.{ℕ, ◌==◌, Bool, nat_lt, List, [], ◌∷◌, Option, find}
use Rattle.vt_base.specs.declared.types.HostName.{HostName}
use Rattle.vt_base.specs.declared.types.HostName.TheVariants.{A, B}
use Rattle.move_codec.specs.declared.names.Part.{Part}
use Rattle.move_codec.specs.declared.names.Part.TheVariants as part
use Rattle.vt_base.specs.declared.types.Reason.{Reason}
use Rattle.vt_base.specs.declared.types.Reason.TheVariants as reason
use Rattle.move_codec.specs.declared.names.Kind.{Kind}
use Rattle.move_codec.specs.declared.names.Kind.TheVariants.{Offer, Need, Piece, Prepared, Commit, Abort, Refuse}

-- the name that has this byte, if one has it
abbrev pub named : {X : Type 0} → (X → ℕ) → List X → ℕ → Option X
named byte names b = find (λ name. byte name == b) names

abbrev pub host_byte : HostName → ℕ
host_byte A = 0
host_byte B = 1

abbrev pub hosts : List HostName
hosts = A ∷ B ∷ []

abbrev pub part_byte : Part → ℕ
part_byte part.Record = 0
part_byte part.Permanent = 1
part_byte part.Volatile = 2
part_byte part.Saved = 3

abbrev pub parts : List Part
parts = part.Record ∷ part.Permanent ∷ part.Volatile ∷ part.Saved ∷ []

abbrev pub reason_byte : Reason → ℕ
reason_byte reason.Busy = 1
reason_byte reason.Totals = 2
reason_byte reason.Record = 3
reason_byte reason.Blob = 4
reason_byte reason.Link = 5
reason_byte reason.Reply = 6

abbrev pub reasons : List Reason
reasons = reason.Busy ∷ reason.Totals ∷ reason.Record ∷ reason.Blob ∷ reason.Link ∷ reason.Reply ∷ []

abbrev pub kind_byte : Kind → ℕ
kind_byte Offer = 1
kind_byte Need = 2
kind_byte Piece = 3
kind_byte Prepared = 4
kind_byte Commit = 5
kind_byte Abort = 6
kind_byte Refuse = 7

abbrev pub kinds : List Kind
kinds = Offer ∷ Need ∷ Piece ∷ Prepared ∷ Commit ∷ Abort ∷ Refuse ∷ []

-- whether the kind may have this length, which is one of 10 to 4113
abbrev pub fits : Kind → ℕ → Bool
fits Offer len = len == 26
fits Need len = len == 15
fits Piece len = nat_lt 17 len
fits Prepared len = len == 10
fits Commit len = len == 10
fits Abort len = len == 10
fits Refuse len = len == 15
