-- A turn of a move, and the whole of it, by their parts.
use Rattle.std.proofs.Common.{◌≡◌, ℕ, suc, ◌+◌, ◌*◌, ◌<◌, ◌≤◌, Bool, true, false, Option, Some, None, refl, sym, ap, subst, ◌∙◌, arith}
use Rattle.std.specs.Prelude.{IfSome}
use Rattle.crb_port.specs.Views.{PortView}
use Rattle.tpm_core.specs.declared.parts.TpmParts.{TpmParts}
use Rattle.ctrl_model.specs.Link.{Link}
use Rattle.move_codec.specs.declared.message.Message.{Message}
use Rattle.move_core.specs.Model.{HostModel}
use Rattle.move_core.specs.Requests.{WiresView}
use Rattle.hand_over.specs.Counts.{blob_piece, tpm_behind, parts_at, pieces_of, pieces_from, messages_left, left_with}
use Rattle.hand_over.specs.Arrival.{loses, arrives}
use Rattle.hand_over.specs.Ends.{host_as, Arrives, IsTakenBack, Ends, IsCalm}
use Rattle.hand_over.specs.Moving.{AreMoving, to_target, to_source, IsSameTarget, IsHandedOver, TargetGoes}
use Rattle.move_core.specs.Table as table
use Rattle.move_codec.specs.declared.message.Body.TheVariants as body
use Rattle.move_core.specs.declared.side.Side.TheVariants as side
use Rattle.move_core.specs.declared.stage.MoveStage.TheVariants.{Empty, Released, Prepared}
use Rattle.move_core.specs.Sides.{side_of}
use Rattle.hand_over.specs.Carrying.{GoesOnWith, TurnGoes}
use Rattle.hand_over.specs.Losses.{has_let_go, Resumed, aborted}
use Rattle.vt_base.specs.declared.types.Kind.TheVariants as kind
use Rattle.hand_over.specs.Parts.{Parts, PieceSizes}
use Rattle.hand_over.specs.Fine.{offered_by}
use Rattle.hand_over.proofs.Ceilings.{pieces_most}
use Rattle.hand_over.proofs.Starts.{BlobSizes, record_most}
use Rattle.hand_over.proofs.Hands.{IsSameSource, itself, same_pieces, sizes_are, parts_are}
use Rattle.hand_over.proofs.Losses.{apart_before, under_way, IsUnderWay, called_off, arrived, ends_from, lost_at, later_than, arrives_late, arrives_not, source_left}
use Rattle.hand_over.proofs.Losses.IsUnderWay.{StillOffers, LetGo}

-- ---- the numbers of messages are small

pub number_small : {P Schedule : Type 0} (port_view : P → PortView) → BlobSizes → (source : HostModel P) (w : WiresView Schedule) (target : HostModel P) (v : WiresView Schedule) (m : Message) (number : ℕ) → AreMoving port_view (to_source m) source w target v
    → number + messages_left source w.link m ≡ 2 * pieces_from source w.link + 3 → number < 100000
number_small {P} {Schedule} port_view sizes source w target v m number a count =
    let same : pieces_from source w.link ≡ pieces_of a.size (offered_by a.values a.tpm) =
    ap (λ (size : PieceSizes). pieces_of size (parts_at source w.link)) (sizes_are port_view (to_source m) source w target v a)
    ∙ ap (λ (parts : Parts). pieces_of a.size parts) (parts_are port_view (to_source m) source w target v a) in
    omega (
      arith,
      same,
      count,
      pieces_most a.size (offered_by a.values a.tpm) a.least,
      record_most a.values a.fit,
      sizes.most kind.Permanent a.tpm a.fit_too,
      sizes.most kind.Volatile a.tpm a.fit_too,
      sizes.most kind.Saved a.tpm a.fit_too,
    )

-- ---- a turn

pub calm_source : {P Schedule : Type 0} (port_view : P → PortView) (source : HostModel P) (w : WiresView Schedule) (target : HostModel P) (v : WiresView Schedule) (m : Message) → AreMoving port_view (to_source m) source w target v → IsCalm (blob_piece w.link) w × IsCalm (blob_piece v.link) v
calm_source port_view source w target v m a = (
  record { link = a.from; is_link = a.from_is; quiet = a.source_stands.quiet; pieces = sym (ap blob_piece a.from_is); undisturbed = a.from_fine },
  record { link = a.to; is_link = a.to_is; quiet = a.target_stands.quiet; pieces = sym (ap blob_piece a.to_is); undisturbed = a.to_fine },
)

pub calm_target : {P Schedule : Type 0} (port_view : P → PortView) (source : HostModel P) (w : WiresView Schedule) (target : HostModel P) (v : WiresView Schedule) (m : Message) → AreMoving port_view (to_target m) source w target v → IsCalm (blob_piece w.link) w × IsCalm (blob_piece v.link) v
calm_target port_view source w target v m a = (
  record { link = a.from; is_link = a.from_is; quiet = a.source_stands.quiet; pieces = sym (ap blob_piece a.from_is); undisturbed = a.from_fine },
  record { link = a.to; is_link = a.to_is; quiet = a.target_stands.quiet; pieces = sym (ap blob_piece a.to_is); undisturbed = a.to_fine },
)

-- without memory for a piece
pub turn_back : {P Schedule : Type 0} (port_view : P → PortView) (source : HostModel P) (w : WiresView Schedule) (target : HostModel P) (v : WiresView Schedule) (m : Message) (mid new_source new_target : HostModel P)
    → AreMoving port_view (to_source m) source w target v → mid ≡ source → Resumed port_view mid new_source → new_target ≡ aborted target.stage mid.top target
    → IsTakenBack port_view source source.device target source.top new_source new_target
turn_back {P} {Schedule} port_view source w target v m mid new_source new_target a is resumes aborts =
    called_off port_view source target new_source new_target (apart_before port_view source w target v m a)
    (subst (λ (h : HostModel P). Resumed port_view h new_source) is resumes)
    (subst (λ (h : HostModel P). new_target ≡ aborted target.stage h.top target) is aborts)

pub calm_same : {Schedule : Type 0} (w v : WiresView Schedule) (n : ℕ) → v ≡ w → IsCalm n w → IsCalm n v
calm_same {Schedule} w v n is calm = subst (λ (s : WiresView Schedule). IsCalm n s) (sym is) calm

pub ends_at : {P Schedule : Type 0} (port_view : P → PortView) (source : HostModel P) (k l : Option Link) (target new_source new_target : HostModel P) (after : WiresView Schedule) (lost : Option ℕ) → k ≡ l
    → Ends (arrives (pieces_from source l) lost) port_view source source.device (tpm_behind l) target source.top new_source new_target after
    → Ends (arrives (pieces_from source k) lost) port_view source source.device (tpm_behind k) target source.top new_source new_target after
ends_at {P} {Schedule} port_view source k l target new_source new_target after lost is ends =
    subst (λ (l : Option Link). Ends (arrives (pieces_from source l) lost) port_view source source.device (tpm_behind l) target source.top new_source new_target after) (sym is) ends

-- the answer was lost
pub turn_lost : {P Schedule : Type 0} (port_view : P → PortView) (source : HostModel P) (l : Option Link) (mid : HostModel P) (u : WiresView Schedule) (target : HostModel P) (v after : WiresView Schedule) (m next : Message) (number : ℕ) (lost : Option ℕ) (new_source new_target : HostModel P)
    → AreMoving port_view (to_target next) mid u target v → IsSameSource source mid → u.link ≡ l → suc (messages_left mid u.link next) ≡ messages_left source l m
    → number + messages_left source l m ≡ 2 * pieces_from source l + 3 → loses lost (number + 1) ≡ true
    → Ends (has_let_go mid.stage) port_view mid mid.device (tpm_behind u.link) target mid.top new_source new_target after
    → Ends (arrives (pieces_from source l) lost) port_view source source.device (tpm_behind l) target source.top new_source new_target after
turn_lost {P} {Schedule} port_view source l mid u target v after m next number lost new_source new_target a same link fewer count is ends =
    subst (λ (b : Bool). Ends b port_view source source.device (tpm_behind l) target source.top new_source new_target after) (by (under_way port_view mid u target v next a))
    (ends_from (has_let_go mid.stage) port_view source mid target target (tpm_behind l) new_source new_target after same (itself target)
    (subst (λ (k : Option Link). Ends (has_let_go mid.stage) port_view mid mid.device (tpm_behind k) target mid.top new_source new_target after) link ends))
  where
    at : arrives (pieces_from source l) lost ≡ arrives (pieces_from source l) (Some (number + 1))
    at = ap (arrives (pieces_from source l)) (lost_at lost (number + 1) is)

    by : IsUnderWay mid u target next → has_let_go mid.stage ≡ arrives (pieces_from source l) lost
    by (StillOffers two stays more) = stays ∙ sym (at ∙ arrives_not (pieces_from source l) (number + 1) (omega (arith, fewer, count, more)))
    by (LetGo e released prepared goes none says) = goes ∙ sym (at ∙ arrives_late (pieces_from source l) (number + 1) (omega (arith, fewer, count, none)))

-- the Commit was taken
pub turn_ended : {P Schedule : Type 0} (port_view : P → PortView) (source : HostModel P) (l : Option Link) (mid : HostModel P) (u : WiresView Schedule) (target : HostModel P) (v after : WiresView Schedule) (m next : Message) (number : ℕ) (lost : Option ℕ) (new : HostModel P)
    → AreMoving port_view (to_target next) mid u target v → IsSameSource source mid → u.link ≡ l → suc (messages_left mid u.link next) ≡ messages_left source l m
    → number + messages_left source l m ≡ 2 * pieces_from source l + 3 → IfSome lost (λ k. number < k) → loses lost (number + 1) ≡ false
    → IsHandedOver port_view mid u target new after → messages_left mid u.link next ≡ 0
    → Ends (arrives (pieces_from source l) lost) port_view source source.device (tpm_behind l) target source.top mid new after
turn_ended {P} {Schedule} port_view source l mid u target v after m next number lost new a same link fewer count ahead is handed none =
    subst (λ (b : Bool). Ends b port_view source source.device (tpm_behind l) target source.top mid new after) (sym (by lost ahead is))
    (ends_from true port_view source mid target target (tpm_behind l) mid new after same (itself target)
    (subst (λ (k : Option Link). Arrives port_view mid mid.device (tpm_behind k) target mid.top mid new after) link (arrived port_view mid u target new after a.source_consistent a.target_consistent handed)))
  where
    by : (lost : Option ℕ) → IfSome lost (λ k. number < k) → loses lost (number + 1) ≡ false → arrives (pieces_from source l) lost ≡ true
    by None ahead is = refl
    by (Some k) ahead is =
        let later = later_than (Some k) (number + 1) (omega (arith, ahead)) is in
        arrives_late (pieces_from source l) k (omega (arith, later, fewer, count, none))

-- it goes on
pub turn_goes : {P Schedule : Type 0} (port_view : P → PortView) → BlobSizes → (source : HostModel P) (l : Option Link) (mid : HostModel P) (u : WiresView Schedule) (target new : HostModel P) (after : WiresView Schedule) (m next reply : Message) (number : ℕ) (lost : Option ℕ)
    → IsSameSource source mid → u.link ≡ l → suc (messages_left mid u.link next) ≡ messages_left source l m
    → number + messages_left source l m ≡ 2 * pieces_from source l + 3 → IfSome lost (λ k. number < k) → loses lost (number + 1) ≡ false
    → AreMoving port_view (to_source reply) mid u new after → IsSameTarget target new → messages_left mid u.link next ≡ suc (messages_left mid u.link reply)
    → GoesOnWith port_view source mid u target new after number lost reply
turn_goes {P} {Schedule} port_view sizes source l mid u target new after m next reply number lost same link fewer count ahead is moving same_target left = record {
  moving = moving;
  source_is = same;
  target_is = same_target;
  count = omega (arith, fewer, count, left, same_pieces source mid l u.link same link);
  ahead = by lost ahead is;
  small = number_small port_view sizes mid u new after reply (number + 2) moving (omega (arith, fewer, count, left, same_pieces source mid l u.link same link));
}
  where
    by : (lost : Option ℕ) → IfSome lost (λ k. number < k) → loses lost (number + 1) ≡ false → IfSome lost (λ k. number + 2 ≤ k)
    by None ahead is = tt
    by (Some k) ahead is = let later = later_than (Some k) (number + 1) (omega (arith, ahead)) is in omega (arith, later)

-- by what the target answered
pub turn_either : {P Schedule : Type 0} (port_view : P → PortView) → BlobSizes → (source : HostModel P) (l : Option Link) (mid : HostModel P) (u : WiresView Schedule) (target : HostModel P) (v after : WiresView Schedule) (m next : Message) (number : ℕ) (lost : Option ℕ) (new : HostModel P) (result : Option Message)
    → AreMoving port_view (to_target next) mid u target v → IsSameSource source mid → u.link ≡ l → suc (messages_left mid u.link next) ≡ messages_left source l m
    → number + messages_left source l m ≡ 2 * pieces_from source l + 3 → IfSome lost (λ k. number < k) → loses lost (number + 1) ≡ false
    → TargetGoes port_view mid u target new after result → messages_left mid u.link next ≡ left_with mid u.link result
    → TurnGoes port_view source mid u target new after number lost result
turn_either {P} {Schedule} port_view sizes source l mid u target v after m next number lost new (Some reply) a same link fewer count ahead is goes left =
    turn_goes port_view sizes source l mid u target new after m next reply number lost same link fewer count ahead is goes.0 goes.1 left
turn_either {P} {Schedule} port_view sizes source l mid u target v after m next number lost new None a same link fewer count ahead is goes left =
    ends_at port_view source u.link l target mid new after lost link (turn_ended port_view source l mid u target v after m next number lost new a same link fewer count ahead is goes left)

pub calm_either : {P Schedule : Type 0} (port_view : P → PortView) (mid : HostModel P) (u : WiresView Schedule) (target new : HostModel P) (after : WiresView Schedule) (result : Option Message) → TargetGoes port_view mid u target new after result → IsCalm (blob_piece after.link) after
calm_either port_view mid u target new after (Some reply) goes = (calm_source port_view mid u new after reply goes.0).1
calm_either port_view mid u target new after None goes = goes.calm

-- ---- the loop

pub same_again : {P : Type 0} (a b c : HostModel P) → IsSameSource a b → IsSameSource b c → IsSameSource a c
same_again {P} a b c first second = second ∙ ap (λ (h : HostModel P). record h { stage = c.stage; record_bytes = c.record_bytes }) first

pub target_again : {P : Type 0} (a b c : HostModel P) → IsSameTarget a b → IsSameTarget b c → IsSameTarget a c
target_again {P} a b c first second = record {
  rest = second.rest ∙ ap (λ (h : HostModel P). record h { stage = c.stage; record_bytes = c.record_bytes; device = c.device }) first.rest;
  port = second.port ∙ first.port;
}

-- a message to the source was lost
pub head_lost : {P Schedule : Type 0} (port_view : P → PortView) (first source : HostModel P) (w : WiresView Schedule) (target_first target : HostModel P) (v after : WiresView Schedule) (m : Message) (number n : ℕ) (lost : Option ℕ) (tpm : Option TpmParts) (new_source new_target : HostModel P)
    → AreMoving port_view (to_source m) source w target v → IsSameSource first source → IsSameTarget target_first target → number + messages_left source w.link m ≡ 2 * n + 3 → 1 ≤ messages_left source w.link m → loses lost number ≡ true
    → Resumed port_view source new_source → new_target ≡ aborted target.stage source.top target
    → Ends (arrives n lost) port_view first first.device tpm target_first first.top new_source new_target after
head_lost {P} {Schedule} port_view first source w target_first target v after m number n lost tpm new_source new_target a same same_target count more is resumes aborts =
    subst (λ (b : Bool). Ends b port_view first first.device tpm target_first first.top new_source new_target after)
    (sym (ap (arrives n) (lost_at lost number is) ∙ arrives_not n number (omega (arith, count, more))))
    (ends_from false port_view first source target_first target tpm new_source new_target after same same_target
    (called_off port_view source target new_source new_target (apart_before port_view source w target v m a) resumes aborts))

-- ---- a message to the target is made good

-- the source has let go, and the target is prepared
pub record HasLetGo {P Schedule : Type 0} (source : HostModel P) (w : WiresView Schedule) (target : HostModel P) (m : Message) : Type 0 where
  pub epoch : ℕ
  pub released : source.stage ≡ Released epoch
  pub prepared : target.stage ≡ Prepared epoch
  pub goes : has_let_go source.stage ≡ true
  pub none : messages_left source w.link m ≡ 0
  pub says : m ≡ table.message_from source.name epoch body.Commit

pub let_go_by : {P Schedule : Type 0} (source : HostModel P) (w : WiresView Schedule) (target : HostModel P) (m : Message) → has_let_go source.stage ≡ true → IsUnderWay source w target m → HasLetGo source w target m
let_go_by source w target m goes (StillOffers two stays more) = absurd (let e = sym stays ∙ goes in cc)
let_go_by source w target m goes (LetGo e released prepared is none says) = record { epoch = e; released = released; prepared = prepared; goes = is; none = none; says = says }

let_go_else : {P Schedule : Type 0} (source : HostModel P) (w : WiresView Schedule) (target : HostModel P) (m : Message) → (side_of source.stage ≡ side.Offering source.top → ⊥) → IsUnderWay source w target m → HasLetGo source w target m
let_go_else source w target m not (StillOffers two stays more) = absurd (not two.offers)
let_go_else source w target m not (LetGo e released prepared is none says) = record { epoch = e; released = released; prepared = prepared; goes = is; none = none; says = says }

pub made_good : {P Schedule : Type 0} (port_view : P → PortView) (source : HostModel P) (w : WiresView Schedule) (target : HostModel P) (v : WiresView Schedule) (m : Message) (mid : HostModel P) (u : WiresView Schedule) (commit : Message) (new : HostModel P) (after : WiresView Schedule) (result : Option Message)
    → AreMoving port_view (to_target m) source w target v → AreMoving port_view (to_target commit) mid u target v → mid ≡ source → u.link ≡ w.link → TargetGoes port_view mid u target new after result
    → messages_left mid u.link commit ≡ left_with mid u.link result → (side_of source.stage ≡ side.Offering source.top → ⊥)
    → Ends (has_let_go source.stage) port_view source source.device (tpm_behind w.link) target source.top mid new after × IsCalm (blob_piece after.link) after
made_good {P} {Schedule} port_view source w target v m mid u commit new after result a b same link goes count not = by result goes count
  where
    gone : HasLetGo source w target m
    gone = let_go_else source w target m not (under_way port_view source w target v m a)

    gone_too : HasLetGo mid u target commit
    gone_too = let_go_by mid u target commit (ap (λ (h : HostModel P). has_let_go h.stage) same ∙ gone.goes) (under_way port_view mid u target v commit b)

    by : (result : Option Message) → TargetGoes port_view mid u target new after result → messages_left mid u.link commit ≡ left_with mid u.link result
        → Ends (has_let_go source.stage) port_view source source.device (tpm_behind w.link) target source.top mid new after × IsCalm (blob_piece after.link) after
    by None goes count = (
      subst (λ (b : Bool). Ends b port_view source source.device (tpm_behind w.link) target source.top mid new after) (sym gone.goes)
          (subst (λ (h : HostModel P). Arrives port_view h h.device (tpm_behind w.link) target h.top mid new after) same
          (subst (λ (l : Option Link). Arrives port_view mid mid.device (tpm_behind l) target mid.top mid new after) link (arrived port_view mid u target new after b.source_consistent b.target_consistent goes))),
      goes.calm,
    )
    by (Some reply) goes count = absurd (omega (arith, gone_too.none, count))

pub calm_at : {Schedule : Type 0} (w : WiresView Schedule) (n k : ℕ) → k ≡ n → IsCalm k w → IsCalm n w
calm_at w n k is calm = subst (λ (n : ℕ). IsCalm n w) is calm

-- ---- the loop's ends

pub loop_ends : {P Schedule : Type 0} (port_view : P → PortView) (first source : HostModel P) (l k : Option Link) (target_first target new_source new_target : HostModel P) (after : WiresView Schedule) (lost : Option ℕ)
    → IsSameSource first source → k ≡ l → IsSameTarget target_first target
    → Ends (arrives (pieces_from source k) lost) port_view source source.device (tpm_behind k) target source.top new_source new_target after
    → Ends (arrives (pieces_from first l) lost) port_view first first.device (tpm_behind l) target_first first.top new_source new_target after
loop_ends {P} {Schedule} port_view first source l k target_first target new_source new_target after lost same link same_target ends =
    subst (λ (n : ℕ). Ends (arrives n lost) port_view first first.device (tpm_behind l) target_first first.top new_source new_target after) (same_pieces first source l l same refl)
    (ends_from (arrives (pieces_from source l) lost) port_view first source target_first target (tpm_behind l) new_source new_target after same same_target
    (ends_at port_view source l k target new_source new_target after lost (sym link) ends))

pub loop_back : {P : Type 0} (port_view : P → PortView) (first source target_first target new_source new_target : HostModel P)
    → IsSameSource first source → IsSameTarget target_first target → IsTakenBack port_view source source.device target source.top new_source new_target
    → IsTakenBack port_view first first.device target_first first.top new_source new_target
loop_back {P} port_view first source target_first target new_source new_target same same_target back =
    let at = subst (λ (h : HostModel P). IsTakenBack port_view h h.device target h.top new_source new_target) same back in (
      record { source_is = at.0.source_is; goes_on = at.0.goes_on },
      (at.1.0 ∙ ap (λ (h : HostModel P). host_as Empty first.top new_target.device h) same_target.rest, at.1.1 ∙ same_target.port),
    )

pub loop_lost : {P Schedule : Type 0} (port_view : P → PortView) (first source : HostModel P) (l : Option Link) (w : WiresView Schedule) (target_first target : HostModel P) (v after : WiresView Schedule) (m : Message) (number : ℕ) (lost : Option ℕ) (new_source new_target : HostModel P)
    → AreMoving port_view (to_source m) source w target v → IsSameSource first source → w.link ≡ l → IsSameTarget target_first target
    → number + messages_left source w.link m ≡ 2 * pieces_from source w.link + 3 → loses lost number ≡ true → Resumed port_view source new_source → new_target ≡ aborted target.stage source.top target
    → Ends (arrives (pieces_from first l) lost) port_view first first.device (tpm_behind l) target_first first.top new_source new_target after
loop_lost {P} {Schedule} port_view first source l w target_first target v after m number lost new_source new_target a same link same_target count is resumes aborts =
    subst (λ (n : ℕ). Ends (arrives n lost) port_view first first.device (tpm_behind l) target_first first.top new_source new_target after) (same_pieces first source l w.link same link)
    (head_lost port_view first source w target_first target v after m number (pieces_from source w.link) lost (tpm_behind l) new_source new_target a same same_target count (source_left port_view source w target v m a) is resumes aborts)

pub none_goes : {P Schedule : Type 0} (port_view : P → PortView) (source new_source : HostModel P) (w : WiresView Schedule) (target new : HostModel P) (v : WiresView Schedule) (number : ℕ) (lost : Option ℕ) (result : Option Message) → result ≡ None
    → TurnGoes port_view source new_source w target new v number lost result → Ends (arrives (pieces_from source w.link) lost) port_view source source.device (tpm_behind w.link) target source.top new_source new v
none_goes {P} {Schedule} port_view source new_source w target new v number lost result is goes = subst (λ (o : Option Message). TurnGoes port_view source new_source w target new v number lost o) is goes
