-- What is offered may be offered: each part has a length that an Offer may have.
use Rattle.std.proofs.Common.{◌≡◌, ℕ, zero, suc, ◌≤◌, ◌<◌, ◌+◌, true, false, [], ◌∷◌, length, refl, arith, Some, None}
use Rattle.std.specs.Prelude.{Option, nat_lt, nat_le, ◌==◌}
use Rattle.std.proofs.lemmas.Bool.{cond_both}
use Rattle.std.proofs.lemmas.Bool.Decides.{nat_tests}
use Rattle.vt_base.specs.declared.types.Kind.TheVariants as kind
use Rattle.crb_machine.specs.Values.{DeviceValues}
use Rattle.device_record.specs.Records.{encode_record, trimmed}
use Rattle.device_record.proofs.Trims.{length-trimmed, trimmed_prefix}
use Rattle.device_record.proofs.Values.{length-encode_record}
use Rattle.state_blobs.proofs.Sizes.{text_least, text_most}
use Rattle.tpm_core.specs.Steps.{IsValid}
use Rattle.tpm_core.proofs.Law.{fit-past}
use Rattle.vt_script.specs.declared.event.Event.{Event}
use Rattle.vt_script.specs.declared.event.Event.TheVariants as line
use Rattle.vt_script.specs.declared.reply.Reply.{Reply}
use Rattle.crb_history.specs.Snapshot.{Snapshot, IsValidSnapshot}
use Rattle.crb_history.specs.Bytes.{bytes_at}
use Rattle.crb_history.specs.Event.{History}
use Rattle.crb_history.specs.Continued.{snapshot_after, content_after}
use Rattle.crb_history.specs.Device.{executed, buffer}
use Rattle.vt_base.specs.declared.types.HostName.{HostName}
use Rattle.move_codec.specs.declared.names.Part.TheVariants.{Record, Permanent, Volatile, Saved}
use Rattle.move_codec.specs.declared.message.Message.{Message}
use Rattle.move_core.specs.declared.stage.MoveStage.{MoveStage}
use Rattle.move_core.specs.declared.stage.MoveStage.TheVariants as stage
use Rattle.move_core.specs.Sides.{first_bad, is_bad}
use Rattle.vt_script.specs.declared.event.Event.TheVariants.{Offer, Deliver, GiveUp, Again, Show}
use Rattle.vt_script.specs.declared.reply.Reply.TheVariants as reply
use Rattle.two_hosts.specs.Parts.{part_bytes, totals_of}
use Rattle.two_hosts.specs.Hosts.{TwoHosts, hosts_after, stage_at, host_where, running_host, working_host, is_leaving, is_prepared, guest_line_on, worker_part, after_drained, after_work_at, after_work, message_at, after_delivery, after_offer, after_give_up, after_again, guest_line_on_any, after_line, after_exchange, with_offer}
use Rattle.vt_transcript.specs.Replies.{Transcript}
use Rattle.two_hosts.proofs.Refusals.{GoodTotals}

record_size : (v : DeviceValues) → length (encode_record v) ≡ 23 + length (trimmed v.content)
record_size v = length-encode_record v (length (trimmed v.content)) v.content refl (trimmed_prefix v.content) (length-trimmed v.content)

good : (n : ℕ) → 0 < n → n ≤ 4096 → is_bad n ≡ false
good n some most =
    let one : nat_lt 0 n ≡ true = grind (arith, nat_tests, some) in
    let two : nat_le n 4096 ≡ true = grind (arith, nat_tests, most) in
    rw (one, two) refl

none_bad : (a b c d : ℕ) → is_bad a ≡ false → is_bad b ≡ false → is_bad c ≡ false → is_bad d ≡ false → first_bad (a ∷ b ∷ c ∷ d ∷ []) ≡ None
none_bad a b c d p q r s = rw (p, q, r, s) refl

totals_good : (v : Snapshot) → length v.device.content ≤ 3968 → IsValid v.tpm → first_bad (totals_of v) ≡ None
totals_good v size fit = none_bad (length (part_bytes v Record)) (length (part_bytes v Permanent)) (length (part_bytes v Volatile)) (length (part_bytes v Saved))
    (good (length (encode_record v.device)) (omega (arith, record_size v.device)) (omega (arith, record_size v.device, length-trimmed v.device.content, size)))
    (good (length (part_bytes v Permanent)) (omega (arith, text_least kind.Permanent v.tpm)) (omega (arith, text_most kind.Permanent v.tpm fit)))
    (good (length (part_bytes v Volatile)) (omega (arith, text_least kind.Volatile v.tpm)) (omega (arith, text_most kind.Volatile v.tpm fit)))
    (good (length (part_bytes v Saved)) (omega (arith, text_least kind.Saved v.tpm)) (omega (arith, text_most kind.Saved v.tpm fit)))

length_bytes : (byte : ℕ → ℕ) (at size : ℕ) → length (bytes_at byte at size) ≡ size
length_bytes byte at zero = refl
length_bytes byte at (suc size) = omega (arith, length_bytes byte (at + 1) size)

content_size : (b : Snapshot) (p : History) → length (content_after b p) ≡ 3968
unfolding content_after
content_size b p = length_bytes (buffer b p) 0 3968

first_good : (b : Snapshot) → IsValidSnapshot b → first_bad (totals_of b) ≡ None
first_good b fit = totals_good b (omega (arith, fit.device.size)) fit.tpm

pub later_good : (b : Snapshot) (p : History) → IsValidSnapshot b → first_bad (totals_of (snapshot_after b p)) ≡ None
later_good b p fit = totals_good (snapshot_after b p) (omega (arith, content_size b p)) (fit-past b.tpm (executed b p) fit.tpm)

-- ---- every line

offered_good : (offered : ℕ → Snapshot) (e : ℕ) (v : Snapshot) → first_bad (totals_of v) ≡ None → GoodTotals offered → GoodTotals (with_offer offered e v)
offered_good offered e v new old d = cond_both (d == e) v (offered d) (λ (w : Snapshot). first_bad (totals_of w) ≡ None) (λ yes. new) (λ no. old d)

offer_good : (b : Snapshot) (t : TwoHosts) (found : Option HostName) (q : Reply) → IsValidSnapshot b → GoodTotals t.offered → GoodTotals (after_offer b t found q).offered
offer_good b t None q fit old = old
offer_good b t (Some n) (reply.Offered e m) fit old = offered_good t.offered _ (snapshot_after b t.history) (later_good b t.history fit) old
offer_good b t (Some n) (reply.Draining k) fit old = old
offer_good b t (Some n) _ fit old = old

delivery_good : (piece : ℕ) (t : TwoHosts) (found : Option Message) (q : Reply) → GoodTotals t.offered → GoodTotals (after_delivery piece t found q).offered
delivery_good piece t None q old = old
delivery_good piece t (Some m) q old = old

give_up_good : (t : TwoHosts) (found : Option HostName) → GoodTotals t.offered → GoodTotals (after_give_up t found).offered
give_up_good t None old = old
give_up_good t (Some n) old = old

again_good : (t : TwoHosts) (found : Option HostName) → GoodTotals t.offered → GoodTotals (after_again t found).offered
again_good t None old = old
again_good t (Some n) old = old

any_good : (b : Snapshot) (t : TwoHosts) (found : Option HostName) (e : Event) (g : Reply) → GoodTotals t.offered → GoodTotals (guest_line_on_any b t found e g).offered
any_good b t None e g old = old
any_good b t (Some n) e g old = old

drained_good : (b : Snapshot) (t : TwoHosts) (n : HostName) (q : Reply) → IsValidSnapshot b → GoodTotals t.offered → GoodTotals (after_drained b t n q).offered
drained_good b t n (reply.DoneOffered k e m) fit old = offered_good t.offered _ (snapshot_after b t.history) (later_good b t.history fit) old
drained_good b t n (reply.CancelledOffered k e m) fit old = offered_good t.offered _ (snapshot_after b t.history) (later_good b t.history fit) old
drained_good b t n (reply.DoneLink k) fit old = old
drained_good b t n (reply.CancelledLink k) fit old = old
drained_good b t n (reply.Lost k) fit old = old
drained_good b t n _ fit old = old

work_good_at : (b : Snapshot) (t : TwoHosts) (n : HostName) (g : MoveStage) (q : Reply) → IsValidSnapshot b → GoodTotals t.offered → GoodTotals (after_work_at b t n g q).offered
work_good_at b t n stage.Draining q fit old = drained_good b (guest_line_on b t n line.Work (worker_part q)) n q fit old
work_good_at b t n _ q fit old = old

work_good : (b : Snapshot) (t : TwoHosts) (found : Option HostName) (q : Reply) → IsValidSnapshot b → GoodTotals t.offered → GoodTotals (after_work b t found q).offered
work_good b t None q fit old = old
work_good b t (Some n) q fit old = work_good_at b t n (stage_at t n) q fit old

pub line_good : (b : Snapshot) (piece : ℕ) (t : TwoHosts) (l : Event) (q : Reply) → IsValidSnapshot b → GoodTotals t.offered → GoodTotals (after_line b piece t l q).offered
line_good b piece t (line.Access a) q fit old = any_good b t (running_host t) (line.Access a) q old
line_good b piece t line.Work q fit old = work_good b t (working_host t) q fit old
line_good b piece t line.Ask q fit old = any_good b t (running_host t) line.Ask q old
line_good b piece t line.Reset q fit old = any_good b t (running_host t) line.Reset q old
line_good b piece t (line.Fail host call) q fit old = old
line_good b piece t Offer q fit old = offer_good b t (running_host t) q fit old
line_good b piece t (Deliver k) q fit old = delivery_good piece t (message_at t.sent k) q old
line_good b piece t GiveUp q fit old = give_up_good t (host_where is_leaving t) old
line_good b piece t Again q fit old = again_good t (host_where is_prepared t) old
line_good b piece t (Show k) q fit old = old

exchange_good : (b : Snapshot) (piece : ℕ) (t : TwoHosts) (l : Option Event) (q : Reply) → IsValidSnapshot b → GoodTotals t.offered → GoodTotals (after_exchange b piece t l q).offered
exchange_good b piece t None q fit old = old
exchange_good b piece t (Some l) q fit old = line_good b piece t l q fit old

pub run_good : (b : Snapshot) (piece : ℕ) (t : Transcript) → IsValidSnapshot b → GoodTotals (hosts_after b piece t).offered
run_good b piece [] fit = λ e. first_good b fit
run_good b piece (x ∷ t) fit = exchange_good b piece (hosts_after b piece t) x.line x.reply fit (run_good b piece t fit)
