-- A delivery leaves the command that the emulator holds, and the bytes of the channel of commands.
use Rattle.std.proofs.Common.{◌≡◌, ℕ, inl, inr, Bool, true, false, List, [], ◌∷◌, length, Option, Some, None, Ok, Err, refl, sym, ap, ◌∙◌}
use Rattle.std.specs.Prelude.{Result}
use Rattle.vt_base.specs.declared.types.Kind.{Kind}
use Rattle.vt_base.specs.declared.types.Kind.TheVariants.{Saved}
use Rattle.crb_port.specs.Views.{PortView}
use Rattle.tpm_core.specs.declared.parts.TpmParts.{TpmParts}
use Rattle.ctrl_codec.specs.declared.request.Request.{Request}
use Rattle.ctrl_codec.specs.declared.request.Request.TheVariants.{Init, SetStateBlob, Stop}
use Rattle.ctrl_client.specs.declared.fault.ClientFault.{ClientFault}
use Rattle.ctrl_model.specs.Emulator.{EmulatorState, PendingCommand, RequestOutcome, HandlesRequest, BlobTaken, TakesPiece, StartsBy, started_here, is_nothing, kind_of, type_of}
use Rattle.ctrl_model.specs.Link.{Link}
use Rattle.ctrl_client.specs.Exchange.{IsQuiet}
use Rattle.move_core.specs.declared.answers.Delivered.{Delivered}
use Rattle.move_core.specs.Model.{HostModel}
use Rattle.move_core.specs.Requests.{WiresView, SwitchesOn}
use Rattle.move_core.specs.Table.{Row}
use Rattle.move_core.specs.Table.Row.{Ends, Stops, Fetches as FetchesRow, Gives, GivesLast, Loads}
use Rattle.move_core.specs.Calls.{Follows}
use Rattle.hand_over.specs.Counts.{commands_at}
use Rattle.hand_over.proofs.Requests.{Outcome}
use Rattle.hand_over.proofs.Requests.Outcome.{Unsent, Obeyed}
use Rattle.hand_over.proofs.Bridging.{asked}
use Rattle.hand_over.proofs.Pieces.{got}
use Rattle.hand_over.proofs.Undisturbed.{FieldsFor, put_quiet}

-- ---- what each request leaves

taken_held : (found : Option Kind) (bytes : List ℕ) (d : EmulatorState) (request_outcome : RequestOutcome) → TakesPiece found bytes d request_outcome → request_outcome.emulator.held ≡ d.held
taken_held None bytes d request_outcome t = ap (λ (t : RequestOutcome). t.emulator.held) t
taken_held (Some k) [] d request_outcome t = ap (λ (t : RequestOutcome). t.emulator.held) t
taken_held (Some k) (b ∷ bytes) d request_outcome (inl t) = ap (λ (t : RequestOutcome). t.emulator.held) t.1
taken_held (Some k) (b ∷ bytes) d request_outcome (inr t) = ap (λ (t : RequestOutcome). t.emulator.held) t.2

blob_held : (on : Bool) (type : ℕ) (bytes : List ℕ) (d : EmulatorState) (request_outcome : RequestOutcome) → BlobTaken on true type bytes d request_outcome → request_outcome.emulator.held ≡ d.held
blob_held true type bytes d request_outcome t = ap (λ (t : RequestOutcome). t.emulator.held) t
blob_held false type bytes d request_outcome t = taken_held (kind_of type) bytes d request_outcome t

here_held : (flags : ℕ) (tpm : Option TpmParts) (d : EmulatorState) → (started_here flags tpm d).emulator.held ≡ d.held
here_held flags None d = refl
here_held flags (Some t) d = refl

starts_held : (nothing : Bool) (flags : ℕ) (d : EmulatorState) (request_outcome : RequestOutcome) → StartsBy nothing flags d request_outcome → request_outcome.emulator.held ≡ d.held
starts_held true flags d request_outcome t = ap (λ (t : RequestOutcome). t.emulator.held) t ∙ here_held flags d.tpm d
starts_held false flags d request_outcome (inl fine) = ap (λ (t : RequestOutcome). t.emulator.held) fine.2
starts_held false flags d request_outcome (inr refused) = ap (λ (t : RequestOutcome). t.emulator.held) refused.2

-- a request that leaves the command that is held
kept_by : (q : Request) (bytes : List ℕ) (l : Link) (r : Result (Unit {0}) ClientFault) (after : Option Link) → ((request_outcome : RequestOutcome) → HandlesRequest q bytes l.emulator request_outcome → request_outcome.emulator.held ≡ l.emulator.held)
    → Outcome q bytes l r after → commands_at after ≡ commands_at (Some l)
kept_by q bytes l r after held (Unsent is same) = ap commands_at same
kept_by q bytes l r after held (Obeyed request_outcome obeys same said) =
    ap commands_at same ∙ ap (λ (h : Option PendingCommand). Some (record { held = h; channel = l.commands })) (held request_outcome obeys)

-- ---- and each row

put_kept : {Schedule : Type 0} (k : Kind) (bytes : List ℕ) (w v : WiresView Schedule) (l : Link) (r : Result (Unit {0}) ClientFault) → Outcome (SetStateBlob 0 (type_of k) (length bytes)) bytes l r v.link → commands_at v.link ≡ commands_at (Some l)
put_kept k bytes w v l r out = kept_by (SetStateBlob 0 (type_of k) (length bytes)) bytes l r v.link (λ request_outcome obeys. blob_held l.emulator.on (type_of k) bytes l.emulator request_outcome obeys) out

switches_kept : {Schedule : Type 0} (given : Result (Unit {0}) ClientFault) (w v : WiresView Schedule) (l : Link) (r : Result (Unit {0}) ClientFault) → w.link ≡ Some l → IsQuiet l → SwitchesOn given w v r → commands_at v.link ≡ commands_at (Some l)
switches_kept (Ok done) w v l r is quiet s =
    kept_by (Init 0) [] l r v.link (λ request_outcome obeys. starts_held (is_nothing l.emulator.gathers) 0 l.emulator request_outcome obeys) (asked (Init 0) [] w v l r is quiet s)
switches_kept {Schedule} (Err fault) w v l r is quiet s = ap (λ (s : WiresView Schedule). commands_at s.link) s.0 ∙ ap commands_at is

pub commands_kept : {P Schedule : Type 0} (port_view : P → PortView) (row : Row P) (w v : WiresView Schedule) (l : Link) (answer : Delivered) (new : HostModel P) → w.link ≡ Some l → IsQuiet l → FieldsFor row l
    → Follows port_view row w v answer new → commands_at v.link ≡ commands_at (Some l)
commands_kept {P} {Schedule} port_view (Ends after) w v l answer new is quiet field f = ap (λ (s : WiresView Schedule). commands_at s.link) f.0 ∙ ap commands_at is
commands_kept port_view (Stops next) w v l answer new is quiet field f =
    kept_by Stop [] l f.0 v.link (λ request_outcome obeys. ap (λ (t : RequestOutcome). t.emulator.held) obeys) (asked Stop [] w v l f.0 is quiet f.1)
commands_kept port_view (FetchesRow kind offset next) w v l answer new is quiet field f = ap commands_at (got kind offset w v l f.0 is field f.1).0
commands_kept port_view (Gives kind bytes next) w v l answer new is quiet field f =
    put_kept kind bytes w v l f.0 (asked (SetStateBlob 0 (type_of kind) (length bytes)) bytes w v l f.0 is quiet f.1)
commands_kept port_view (GivesLast bytes next) w v l answer new is quiet field f =
    let g = f.1 in
    let out = asked (SetStateBlob 0 (type_of Saved) (length bytes)) bytes w g.between l g.given is quiet g.gives in
    let between = put_quiet Saved bytes l g.given g.between.link quiet out in
    switches_kept g.given g.between v between.0 f.0 between.1 between.2 g.switches ∙ sym (ap commands_at between.1) ∙ put_kept Saved bytes w g.between l g.given out
commands_kept {P} {Schedule} port_view (Loads bytes next) w v l answer new is quiet field f = ap (λ (s : WiresView Schedule). commands_at s.link) f.2 ∙ ap commands_at is
