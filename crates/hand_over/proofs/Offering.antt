-- An offer, its taking back and a word said again are those of the model.
use Rattle.std.proofs.Common.{◌≡◌, ℕ, ◌+◌, List, [], ◌∷◌, length, Option, Some, Ok, Err, refl, sym, ap, subst, ◌∙◌}
use Rattle.std.specs.Prelude.{Result, IfSome, ◌<◌, ◌^◌}
use Rattle.state_blobs.specs.Encodings.{encode_blob}
use Rattle.vt_base.specs.declared.types.Kind.{Kind}
use Rattle.vt_base.specs.declared.types.Kind.TheVariants as kind
use Rattle.crb_port.specs.Views.{PortView}
use Rattle.crb_machine.specs.Values.{held_values}
use Rattle.device_record.specs.Records.{encode_record}
use Rattle.tpm_core.specs.declared.parts.TpmParts.{TpmParts}
use Rattle.ctrl_client.specs.declared.fault.ClientFault.{ClientFault}
use Rattle.ctrl_model.specs.Link.{Link}
use Rattle.ctrl_client.specs.Pieces.{HasField, encode_blob_if_any}
use Rattle.move_codec.specs.declared.message.Message.{Message}
use Rattle.move_core.specs.declared.stage.MoveStage.{MoveStage}
use Rattle.move_core.specs.declared.stage.MoveStage.TheVariants.{Empty, Running, Draining, Offering, Released, Filling, Prepared}
use Rattle.move_core.specs.Model.{HostModel}
use Rattle.move_core.specs.Requests.{WiresView, GetsTotal, GetsTotals, ThenGets, total_in, before}
use Rattle.move_core.specs.Table.{message_from}
use Rattle.move_core.specs.declared.side.Side.TheVariants as side
use Rattle.move_codec.specs.declared.message.Body.TheVariants as body
use Rattle.move_core.specs.declared.answers.Offered.{Offered}
use Rattle.move_core.specs.declared.answers.Offered.TheVariants as answers
use Rattle.move_core.specs.declared.answers.Gave.TheVariants as gave
use Rattle.move_core.specs.Calls.{StopsAndOffers, Offers, Drains, GivesUp, GivesUpAt, said_again}
use Rattle.hand_over.specs.Parts.{PieceSizes, lengths}
use Rattle.hand_over.specs.Host.{HostState, with_content}
use Rattle.hand_over.specs.Host as model
use Rattle.hand_over.specs.Bridge.{port_state, model_of, IsReady, StandsFor, IsOffer}
use Rattle.hand_over.proofs.Pieces.{got, Got}
use Rattle.hand_over.proofs.Pieces.Got.{Fault, Part as APart}

-- the length of a blob that was asked for, and the link as it was
total_exact : {Schedule : Type 0} (k : Kind) (w v : WiresView Schedule) (l : Link) (n : ℕ) → w.link ≡ Some l → HasField k l → GetsTotal k w v (Ok n) → (v.link ≡ Some l) × (n ≡ length (encode_blob_if_any k l.emulator.tpm))
total_exact k w v l n is field g = let found = got k 0 w v l g.piece is field g.fetches in (found.0, by found.1 g.answer_is)
  where
    by : Got k 0 l.emulator g.piece → Ok n ≡ total_in g.piece → n ≡ length (encode_blob_if_any k l.emulator.tpm)
    by (Fault f is_fault) answer = absurd (let e = answer ∙ ap total_in is_fault in cc)
    by (APart t p tpm is_part bytes total) answer =
        let e = answer ∙ ap total_in is_part in
        let same : n ≡ p.total = cc in
        same ∙ total ∙ sym (ap (λ o. length (encode_blob_if_any k o)) tpm)

pub link_after : {Schedule : Type 0} (k : Kind) (w v : WiresView Schedule) (l : Link) (r : Result ℕ ClientFault) → w.link ≡ Some l → HasField k l → GetsTotal k w v r → v.link ≡ Some l
link_after k w v l r is field g = (got k 0 w v l g.piece is field g.fetches).0

-- how long the blobs of these kinds are
abbrev sizes : List Kind → Option TpmParts → List ℕ
sizes [] tpm = []
sizes (k ∷ kinds) tpm = length (encode_blob_if_any k tpm) ∷ sizes kinds tpm

totals_exact : {Schedule : Type 0} (kinds : List Kind) (w v : WiresView Schedule) (l : Link) (r : Result (List ℕ) ClientFault) → w.link ≡ Some l → ((k : Kind) → HasField k l) → GetsTotals kinds w v r
    → (v.link ≡ Some l) × ((totals : List ℕ) → r ≡ Ok totals → totals ≡ sizes kinds l.emulator.tpm)
totals_exact [] w v l r is field g = (ap (λ (s : WiresView _). s.link) g.0 ∙ is, λ totals ok. let e = sym g.1 ∙ ok in cc)
totals_exact {Schedule} (k ∷ kinds) w v l r is field g = by (λ others there more. totals_exact kinds g.0 v l others there field more) g.1 g.2 g.3
  where
    by : ((others : Result (List ℕ) ClientFault) → g.0.link ≡ Some l → GetsTotals kinds g.0 v others → (v.link ≡ Some l) × ((totals : List ℕ) → others ≡ Ok totals → totals ≡ sizes kinds l.emulator.tpm))
        → (first : Result ℕ ClientFault) → GetsTotal k w g.0 first → ThenGets first (GetsTotals kinds g.0 v) g.0 v r
        → (v.link ≡ Some l) × ((totals : List ℕ) → r ≡ Ok totals → totals ≡ sizes (k ∷ kinds) l.emulator.tpm)
    by again (Err fault) one more = (ap (λ (s : WiresView Schedule). s.link) more.0 ∙ link_after k w g.0 l (Err fault) is (field k) one, λ totals ok. absurd (let e = sym more.1 ∙ ok in cc))
    by again (Ok n) one more =
        let here = total_exact k w g.0 l n is (field k) one in
        let rest = again more.0 here.0 more.1 in
        (rest.0, λ totals ok. joined n more.0 totals here.1 (λ others is_ok. rest.1 others is_ok) (sym more.2 ∙ ok))
      where
        joined : (n : ℕ) (others : Result (List ℕ) ClientFault) (totals : List ℕ) → n ≡ length (encode_blob_if_any k l.emulator.tpm)
            → ((xs : List ℕ) → others ≡ Ok xs → xs ≡ sizes kinds l.emulator.tpm) → before n others ≡ Ok totals → totals ≡ sizes (k ∷ kinds) l.emulator.tpm
        joined n (Ok xs) totals size others_are ok =
            let prefix : n ∷ xs ≡ totals = cc in
            sym prefix ∙ ap (λ (m : ℕ). m ∷ xs) size ∙ ap (λ (ys : List ℕ). length (encode_blob_if_any k l.emulator.tpm) ∷ ys) (others_are xs refl)
        joined n (Err fault) totals size others_are ok = absurd cc

pub top_running : {P : Type 0} (size : PieceSizes) (h : HostModel P) (l : Link) (g : HostState) → StandsFor size h l g → h.stage ≡ Running → h.top ≡ g.top
top_running size h l g stands runs =
    let host = subst (λ (s : MoveStage). model_of s h l.emulator g ≡ g) runs stands.host in
    ap (λ (x : HostState). x.top) host

-- what an offering host stands for
offering_stands : {P : Type 0} (size : PieceSizes) (h : HostModel P) (l : Link) (g : HostState) (bytes : List ℕ) (totals : List ℕ) (t : TpmParts) → l.emulator.tpm ≡ Some t → StandsFor size h l g → h.top ≡ g.top → ((k : Kind) → HasField k l)
    → totals ≡ lengths (port_state bytes l.emulator.tpm)
    → StandsFor size (record h { top = h.top + 1; stage = Offering (h.top + 1) totals; record_bytes = bytes }) l (model.offering (with_content g (port_state bytes l.emulator.tpm)))
offering_stands size h l g bytes totals t tpm stands top field exact = record {
  host =
      ap (λ (t : ℕ). record g { side = side.Offering (t + 1); top = t + 1; content = port_state bytes l.emulator.tpm; totals = totals }) top
      ∙ ap (λ (ts : List ℕ). record g { side = side.Offering (g.top + 1); top = g.top + 1; content = port_state bytes l.emulator.tpm; totals = ts }) exact;
  quiet = stands.quiet;
  ready = (t, tpm, λ k. subst (λ (o : Option TpmParts). IfSome o (λ t. length (encode_blob k t) < 2 ^ 32)) tpm (field k).total);
  record_pieces = stands.record_pieces;
  blob_pieces = stands.blob_pieces;
}

-- what a stopped host offers stands for what the model offers
offer_made : {P Schedule : Type 0} (port_view : P → PortView) (size : PieceSizes) (h : HostModel P) (w v : WiresView Schedule) (l : Link) (g : HostState) (m : Message) (new : HostModel P)
    → w.link ≡ Some l → StandsFor size h l g → ((k : Kind) → HasField k l) → (t : TpmParts) → l.emulator.tpm ≡ Some t → h.stage ≡ Running → StopsAndOffers port_view h w (Ok m) v new → IsOffer size h new l v.link g m
offer_made port_view size h w v l g m new is stands field t tpm runs made_by =
    let made = made_by.offers.1 in
    let device = made_by.device in
    let bytes = encode_record (held_values device) in
    let exact = totals_exact (kind.Permanent ∷ kind.Volatile ∷ kind.Saved ∷ []) w v l (Ok made.totals) is field made.asked in
    let top = top_running size h l g stands runs in
    let totals : length bytes ∷ made.totals ≡ lengths (port_state bytes l.emulator.tpm) = ap (λ (ts : List ℕ). length bytes ∷ ts) (exact.1 made.totals refl) in
    let same = made_by.ends ∙ made.new_is in
    subst (λ (n : HostModel _). IsOffer size h n l v.link g m) (sym same) (record {
      link = exact.0;
      stands = offering_stands size (record h { device = device }) l g bytes (length bytes ∷ made.totals) t tpm
          (record { host = stands_again; quiet = stands.quiet; ready = ready_again; record_pieces = stands.record_pieces; blob_pieces = stands.blob_pieces }) top field totals;
      said = made.said ∙ ap (λ (t : ℕ). message_from h.name (t + 1) (body.Offer (length bytes ∷ made.totals))) top ∙ ap (λ (ts : List ℕ). message_from h.name (g.top + 1) (body.Offer ts)) totals;
    })
  where
    stands_again : model_of h.stage (record h { device = made_by.device }) l.emulator g ≡ g
    stands_again =
        subst (λ (s : MoveStage). model_of s (record h { device = made_by.device }) l.emulator g ≡ g) (sym runs)
        (subst (λ (s : MoveStage). model_of s h l.emulator g ≡ g) runs stands.host)

    ready_again : IsReady h.stage l.emulator
    ready_again = stands.ready

-- what an offer began, by its kind
pub offer_is : {P Schedule : Type 0} (port_view : P → PortView) (h : HostModel P) (w v : WiresView Schedule) (o p : Offered) (new : HostModel P) → o ≡ p → Offers port_view h w (Ok o) v new → Offers port_view h w (Ok p) v new
offer_is port_view h w v o p new same offers = subst (λ (x : Offered). Offers port_view h w (Ok x) v new) same offers

-- the offer of a running host
pub offered : {P Schedule : Type 0} (port_view : P → PortView) (size : PieceSizes) (h : HostModel P) (w v : WiresView Schedule) (l : Link) (g : HostState) (m : Message) (new : HostModel P)
    → w.link ≡ Some l → StandsFor size h l g → ((k : Kind) → HasField k l) → (t : TpmParts) → l.emulator.tpm ≡ Some t → Offers port_view h w (Ok (answers.Sent m)) v new → IsOffer size h new l v.link g m
offered port_view size h w v l g m new is stands field t tpm offers = offer_made port_view size h w v l g m new is stands field t tpm offers.0 offers.1

-- a running host that drains
pub begins_to_drain : {P Schedule : Type 0} (port_view : P → PortView) (size : PieceSizes) (h : HostModel P) (w v : WiresView Schedule) (l : Link) (g : HostState) (number : ℕ) (new : HostModel P)
    → StandsFor size h l g → Offers port_view h w (Ok (answers.Draining number)) v new → (v ≡ w) × StandsFor size new l (model.draining g)
begins_to_drain {P} port_view size h w v l g number new stands offers =
    let top = top_running size h l g stands offers.0 in (
      offers.2,
      subst (λ (n : HostModel P). StandsFor size n l (model.draining g)) (sym offers.4) (record {
        host = ap (λ (t : ℕ). record g { side = side.Draining; top = t }) top;
        quiet = stands.quiet;
        ready = tt;
        record_pieces = stands.record_pieces;
        blob_pieces = stands.blob_pieces;
      }),
    )

-- a draining host runs again
runs_on : {P : Type 0} (size : PieceSizes) (h : HostModel P) (l : Link) (g : HostState) → h.stage ≡ Draining → StandsFor size h l g → StandsFor size (record h { stage = Running }) l (model.running g)
runs_on size h l g drains stands =
    let host = subst (λ (s : MoveStage). model_of s h l.emulator g ≡ g) drains stands.host in
    record { host = ap model.running host; quiet = stands.quiet; ready = tt; record_pieces = stands.record_pieces; blob_pieces = stands.blob_pieces }

-- the offer of a host that drained
pub drained : {P Schedule : Type 0} (port_view : P → PortView) (size : PieceSizes) (h : HostModel P) (w v : WiresView Schedule) (l : Link) (g : HostState) (m : Message) (new : HostModel P)
    → w.link ≡ Some l → StandsFor size h l g → ((k : Kind) → HasField k l) → (t : TpmParts) → l.emulator.tpm ≡ Some t → h.stage ≡ Draining → Drains port_view h w (Ok (Some m)) v new
    → IsOffer size h new l v.link (model.running g) m
drained port_view size h w v l g m new is stands field t tpm drains offers =
    let made = offer_made port_view size (record h { stage = Running }) w v l (model.running g) m new is (runs_on size h l g drains stands) field t tpm refl offers in
    record { link = made.link; stands = made.stands; said = made.said }

-- a draining host that is given up
pub gave_up_draining : {P : Type 0} (port_view : P → PortView) (size : PieceSizes) (h : HostModel P) (l : Link) (g : HostState) (new : HostModel P)
    → StandsFor size h l g → GivesUp port_view h gave.Undrained new → StandsFor size new l (model.running g)
gave_up_draining {P} port_view size h l g new stands gives = by h.stage refl gives
  where
    by : (s : MoveStage) → h.stage ≡ s → GivesUpAt s port_view h gave.Undrained new → StandsFor size new l (model.running g)
    by Draining at_stage gives = subst (λ (n : HostModel P). StandsFor size n l (model.running g)) (sym gives.1) (runs_on size h l g at_stage stands)
    by (Offering e totals) at_stage gives = absurd (let e = gives.0 in cc)
    by Empty at_stage gives = absurd (let e = gives.0 in cc)
    by Running at_stage gives = absurd (let e = gives.0 in cc)
    by (Released e) at_stage gives = absurd (let e = gives.0 in cc)
    by (Filling e totals part place) at_stage gives = absurd (let e = gives.0 in cc)
    by (Prepared e) at_stage gives = absurd (let e = gives.0 in cc)

-- an offer that is taken back
pub gave_up : {P : Type 0} (port_view : P → PortView) (size : PieceSizes) (h : HostModel P) (l : Link) (g : HostState) (m : Message) (new : HostModel P)
    → StandsFor size h l g → GivesUp port_view h (gave.Abort m) new → StandsFor size new l (model.running g) × (m ≡ model.abort_message h.name g)
gave_up {P} port_view size h l g m new stands gives = by h.stage refl gives
  where
    by : (s : MoveStage) → h.stage ≡ s → GivesUpAt s port_view h (gave.Abort m) new → StandsFor size new l (model.running g) × (m ≡ model.abort_message h.name g)
    by (Offering e totals) at_stage gives =
        let host = subst (λ (s : MoveStage). model_of s h l.emulator g ≡ g) at_stage stands.host in
        let top : h.top ≡ g.top = ap (λ (x : HostState). x.top) host in
        let epoch : e ≡ model.epoch_of g.side = ap (λ (x : HostState). model.epoch_of x.side) host in
        let same : m ≡ message_from h.name e body.Abort = let e = gives.0 in cc in (
          subst (λ (n : HostModel P). StandsFor size n l (model.running g)) (sym gives.1.rest) (record {
            host = ap (λ (t : ℕ). record g { side = side.Running; top = t }) top;
            quiet = stands.quiet;
            ready = tt;
            record_pieces = stands.record_pieces;
            blob_pieces = stands.blob_pieces;
          }),
          same ∙ ap (λ (n : ℕ). message_from h.name n body.Abort) epoch,
        )
    by Empty at_stage gives = absurd (let e = gives.0 in cc)
    by Running at_stage gives = absurd (let e = gives.0 in cc)
    by Draining at_stage gives = absurd (let e = gives.0 in cc)
    by (Released e) at_stage gives = absurd (let e = gives.0 in cc)
    by (Filling e totals part place) at_stage gives = absurd (let e = gives.0 in cc)
    by (Prepared e) at_stage gives = absurd (let e = gives.0 in cc)

-- what a prepared host says again
pub said : {P : Type 0} (size : PieceSizes) (h : HostModel P) (l : Link) (g : HostState) (m : Message) → StandsFor size h l g → said_again h.stage h ≡ Some m → m ≡ model.prepared_message h.name g
said size h l g m stands says = by h.stage refl says
  where
    by : (s : MoveStage) → h.stage ≡ s → said_again s h ≡ Some m → m ≡ model.prepared_message h.name g
    by (Prepared e) at_stage says =
        let host = subst (λ (s : MoveStage). model_of s h l.emulator g ≡ g) at_stage stands.host in
        let epoch : e ≡ model.epoch_of g.side = ap (λ (x : HostState). model.epoch_of x.side) host in
        let same : message_from h.name e body.Prepared ≡ m = cc in
        sym same ∙ ap (λ (n : ℕ). message_from h.name n body.Prepared) epoch
    by Empty at_stage says = absurd cc
    by Running at_stage says = absurd cc
    by Draining at_stage says = absurd cc
    by (Offering e totals) at_stage says = absurd cc
    by (Released e) at_stage says = absurd cc
    by (Filling e totals part place) at_stage says = absurd cc
