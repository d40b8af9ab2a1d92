-- Where no call is to fail, none is after a delivery.
use Rattle.std.proofs.Common.{◌≡◌, ℕ, inl, inr, Bool, true, false, List, [], ◌∷◌, length, Option, Some, None, Ok, Err, sym, ap, subst, ◌∙◌}
use Rattle.std.specs.Prelude.{Result, IfSome}
use Rattle.vt_base.specs.declared.types.Kind.{Kind}
use Rattle.vt_base.specs.declared.types.Kind.TheVariants.{Saved}
use Rattle.crb_port.specs.Views.{PortView}
use Rattle.ctrl_codec.specs.declared.request.Request.TheVariants.{Init, SetStateBlob, Stop}
use Rattle.ctrl_client.specs.declared.fault.ClientFault.{ClientFault}
use Rattle.ctrl_model.specs.Emulator.{EmulatorState, RequestOutcome, BlobTaken, TakesPiece, kind_of, type_of}
use Rattle.ctrl_model.specs.Link.{Link}
use Rattle.ctrl_client.specs.Exchange.{IsQuiet}
use Rattle.ctrl_client.specs.Pieces.{HasField, Fetches, calls_for, piece_given}
use Rattle.move_core.specs.declared.answers.Delivered.{Delivered}
use Rattle.move_core.specs.declared.asking.Fetched.{Fetched}
use Rattle.move_core.specs.Model.{HostModel}
use Rattle.move_core.specs.Requests.{WiresView, FetchesPiece, SwitchesOn}
use Rattle.move_core.specs.Table.{Row}
use Rattle.move_core.specs.Table.Row.{Ends, Stops, Fetches as FetchesRow, Gives, GivesLast, Loads}
use Rattle.move_core.specs.Calls.{Follows}
use Rattle.hand_over.specs.Fine.{IsUndisturbed}
use Rattle.hand_over.proofs.Requests.{Outcome}
use Rattle.hand_over.proofs.Requests.Outcome.{Unsent, Obeyed}
use Rattle.hand_over.proofs.Bridging.{asked}
use Rattle.hand_over.proofs.Sure.{obeyed, undisturbed_after}

taken_open : (found : Option Kind) (bytes : List ℕ) (d : EmulatorState) (request_outcome : RequestOutcome) → TakesPiece found bytes d request_outcome → request_outcome.emulator.closed ≡ d.closed
taken_open None bytes d request_outcome t = ap (λ (t : RequestOutcome). t.emulator.closed) t
taken_open (Some k) [] d request_outcome t = ap (λ (t : RequestOutcome). t.emulator.closed) t
taken_open (Some k) (b ∷ bytes) d request_outcome (inl t) = ap (λ (t : RequestOutcome). t.emulator.closed) t.1
taken_open (Some k) (b ∷ bytes) d request_outcome (inr t) = ap (λ (t : RequestOutcome). t.emulator.closed) t.2

blob_open : (on : Bool) (type : ℕ) (bytes : List ℕ) (d : EmulatorState) (request_outcome : RequestOutcome) → BlobTaken on true type bytes d request_outcome → request_outcome.emulator.closed ≡ d.closed
blob_open true type bytes d request_outcome t = ap (λ (t : RequestOutcome). t.emulator.closed) t
blob_open false type bytes d request_outcome t = taken_open (kind_of type) bytes d request_outcome t

-- a quiet link is there after a piece was given, and is quiet
pub put_quiet : (k : Kind) (bytes : List ℕ) (l : Link) (r : Result (Unit {0}) ClientFault) (after : Option Link) → IsQuiet l → Outcome (SetStateBlob 0 (type_of k) (length bytes)) bytes l r after → (m : Link) × (after ≡ Some m) × IsQuiet m
put_quiet k bytes l r after quiet (Unsent is same) = (l, same, quiet)
put_quiet k bytes l r after quiet (Obeyed request_outcome obeys same said) =
    (record l { emulator = request_outcome.emulator }, same, record { nothing = quiet.nothing; listens = blob_open l.emulator.on (type_of k) bytes l.emulator request_outcome obeys ∙ quiet.listens })

switched_still : {Schedule : Type 0} (given : Result (Unit {0}) ClientFault) (w v : WiresView Schedule) (l : Link) (r : Result (Unit {0}) ClientFault) → w.link ≡ Some l → IsQuiet l → IsUndisturbed w → SwitchesOn given w v r → IsUndisturbed v
switched_still (Ok done) w v l r is quiet fine s = (obeyed (Init 0) [] w v l r is quiet fine s).1
switched_still (Err fault) w v l r is quiet fine s = subst IsUndisturbed (sym s.0) fine

pub fetched_still : {Schedule : Type 0} (kind : Kind) (offset : ℕ) (w v : WiresView Schedule) (l : Link) (answer : Result Fetched ClientFault) → w.link ≡ Some l → HasField kind l → IsUndisturbed w → FetchesPiece kind offset w v answer → IsUndisturbed v
fetched_still kind offset w v l answer is field fine f =
    let fetches = subst (λ (link : Option Link). IfSome link (λ l. HasField kind l → Fetches w.fails w.later kind offset (length f.room) l w.schedule f.piece f.room f.into v.link v.schedule)) is f.gets.exact field in
    undisturbed_after w v (calls_for (piece_given kind offset (length f.room) l.emulator)) fine f.gets.same_fails f.gets.same_later fetches.schedule_is

-- what a row that asks for a piece needs
abbrev pub FieldsFor : {P : Type 0} → Row P → Link → Type 0
FieldsFor (FetchesRow kind offset next) l = HasField kind l
FieldsFor _ l = Unit {0}

pub still : {P Schedule : Type 0} (port_view : P → PortView) (row : Row P) (w v : WiresView Schedule) (l : Link) (answer : Delivered) (new : HostModel P) → w.link ≡ Some l → IsQuiet l → IsUndisturbed w → FieldsFor row l
    → Follows port_view row w v answer new → IsUndisturbed v
still port_view (Ends after) w v l answer new is quiet fine field f = subst IsUndisturbed (sym f.0) fine
still port_view (Stops next) w v l answer new is quiet fine field f = (obeyed Stop [] w v l f.0 is quiet fine f.1).1
still port_view (FetchesRow kind offset next) w v l answer new is quiet fine field f = fetched_still kind offset w v l f.0 is field fine f.1
still port_view (Gives kind bytes next) w v l answer new is quiet fine field f = (obeyed (SetStateBlob 0 (type_of kind) (length bytes)) bytes w v l f.0 is quiet fine f.1).1
still port_view (GivesLast bytes next) w v l answer new is quiet fine field f =
    let g = f.1 in
    let between = put_quiet Saved bytes l g.given g.between.link quiet (asked (SetStateBlob 0 (type_of Saved) (length bytes)) bytes w g.between l g.given is quiet g.gives) in
    switched_still g.given g.between v between.0 f.0 between.1 between.2 (obeyed (SetStateBlob 0 (type_of Saved) (length bytes)) bytes w g.between l g.given is quiet fine g.gives).1 g.switches
still port_view (Loads bytes next) w v l answer new is quiet fine field f = subst IsUndisturbed (sym f.2) fine
