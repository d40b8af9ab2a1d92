-- What the worker's calls do to the emulator behind a link.
use Rattle.std.proofs.Common.{◌≡◌, ◌≢◌, ℕ, ◌+◌, ◌-◌, ◌≤◌, Bool, true, false, not, List, [], ◌∷◌, ◌++◌, length, take, drop, refl, ap, sym, subst, ◌∙◌, arith, Some, None}
use Rattle.std.specs.Prelude.{Option, slice_index, ◌&&◌}
use Rattle.std.specs.Int.{Width, w16, w32, byte_len, from_be_bytes}
use Rattle.std.specs.Str.{bytes_eq}
use Rattle.std.proofs.lemmas.Slice.Eq.{bytes_eq-Decides}
use Rattle.std.proofs.lemmas.Bool.Decides.{nat_tests}
use Rattle.std.proofs.lemmas.List.{take_all, take-take, drop-take, length-take, drop_all}
use Rattle.vt_base.specs.declared.types.Chan.TheVariants.{Data}
use Rattle.vt_base.proofs.Layouts.{parsed_encodes}
use Rattle.vt_base.specs.Numbers.{big_endian_at}
use Rattle.tpm_frame.specs.Frames.{frames, frame_length_of, first_frame, IsFrame}
use Rattle.tpm_frame.specs.Sizes.{named_size}
use Rattle.tpm_frame.proofs.Parts.{first_tell, prefix_is_frame}
use Rattle.tpm_core.specs.declared.parts.TpmParts.{TpmParts}
use Rattle.tpm_core.specs.Answers.{answer}
use Rattle.tpm_core.specs.Responses.{cancelled, IsResponse}
use Rattle.tpm_core.specs.Steps.{IsValid}
use Rattle.tpm_core.proofs.Replies.{answer_is_response, answer_not_cancelled}
use Rattle.ctrl_model.specs.Emulator.{EmulatorState, PendingCommand, holding, response_to, ran}
use Rattle.ctrl_model.specs.Link.{Link, ChannelState, empty_channel, Handed, HandedBy, takes, with_frame, opened, opened_by, receivable, received, cut}
use Rattle.ctrl_model.specs.Link as link
use Rattle.ctrl_client.specs.Exchange.{IsQuiet}
use Rattle.crb_history.specs.Bytes.{command_in}
use Rattle.crb_history.specs.Device.JobStage.{HasSent, HasHeader}
use Rattle.crb_history.proofs.Bytes.{take-command_in, frame_length-most}
use Rattle.crb_worker.specs.Heads.{is_head, is_cancelled}
use Rattle.vt_seat.specs.Follows.{given, tpm_behind, IsEmulator, IsBehind}
use Rattle.vt_seat.proofs.Jobs.{Rests}

-- ---- the command of a buffer

pub first_frame-command : (buf : List ℕ) → length buf ≡ 3968 → first_frame buf ≡ command_in (slice_index buf)
first_frame-command buf whole = ap (λ n. take n buf) (first_tell buf) ∙ take-command_in buf whole

-- it is heard as one command
command-heard : (buf : List ℕ) → length buf ≡ 3968 → link.command_in (first_frame buf) ≡ Some (first_frame buf)
unfolding link.command_in
command-heard buf whole =
    let size : ℕ = frame_length_of (take 6 buf) in
    let within_limit : size ≤ 3968 = frame_length-most (take 6 buf) in
    let frame : IsFrame (first_frame buf) = prefix_is_frame buf size (first_tell buf) (omega arith) in
    let head : take 6 (first_frame buf) ≡ take 6 buf = take-take 6 size buf (omega arith) in
    let long : length (first_frame buf) ≡ size = omega (arith, length-take size buf) in
    let all : take (frame_length_of (take 6 (first_frame buf))) (first_frame buf) ≡ first_frame buf = ap (λ (h : List ℕ). take (frame_length_of h) (first_frame buf)) head ∙ take_all size (first_frame buf) (omega arith) in
    rw (parsed_encodes frames (first_frame buf) tt frame) (ap Some all)

-- ---- a command is sent

-- a link that is quiet stays so where its control channel is left alone
pub quiet-same : (l m : Link) → m.control ≡ l.control → m.emulator.closed ≡ l.emulator.closed → IsQuiet l → IsQuiet m
quiet-same l m control closed quiet = record { nothing = control ∙ quiet.nothing; listens = closed ∙ quiet.listens }

rests_takes : (t : TpmParts) (l : Link) → Rests t l → takes Data l ≡ true
rests_takes t l rests = rw (rests.emulator.held_is, rests.channel) refl

handed_framed : (all bytes : List ℕ) (found : Option (List ℕ)) (l m : Link) → takes Data l ≡ true → l.commands.begun ++ bytes ≡ all → link.command_in all ≡ found → Handed Data bytes l m → m ≡ with_frame found all l
handed_framed all bytes found l m open_now whole is handed =
    let here : m ≡ with_frame (link.command_in (l.commands.begun ++ bytes)) (l.commands.begun ++ bytes) l = subst (λ (b : Bool). HandedBy b Data bytes l m) open_now handed in
    here ∙ ap (λ (x : List ℕ). with_frame (link.command_in x) x l) whole ∙ ap (λ (f : Option (List ℕ)). with_frame f all l) is

-- the emulator holds it
pub sent_behind : (t : TpmParts) (x buf : List ℕ) (l m : Link) → Rests t l → IsQuiet l → length buf ≡ 3968 → command_in (slice_index buf) ≡ x → Handed Data (first_frame buf) l m → IsBehind (Some HasSent) false t x m × IsQuiet m
sent_behind t x buf l m rests quiet whole is handed =
    let command : first_frame buf ≡ x = first_frame-command buf whole ∙ is in
    let begun : l.commands.begun ++ first_frame buf ≡ first_frame buf = ap (λ (channel : ChannelState). channel.begun ++ first_frame buf) rests.channel in
    let now : m ≡ record l { emulator = holding (first_frame buf) l.emulator; commands = empty_channel } = handed_framed (first_frame buf) (first_frame buf) (Some (first_frame buf)) l m (rests_takes t l rests) begun (command-heard buf whole) handed in
    rw now (
      record {
        emulator = record { tpm = rests.emulator.tpm; on = rests.emulator.on; stored = rests.emulator.stored; gathers = rests.emulator.gathers; held_is = ap (λ c. Some (record { command = c; cancelled = false })) command };
        channel = refl;
      },
      quiet-same l (record l { emulator = holding (first_frame buf) l.emulator; commands = empty_channel }) refl refl quiet,
    )

-- ---- the response

-- a response that a worker takes whole
pub record IsGiven (in_time : Bool) (bytes : List ℕ) : Type 0 where
  pub least : 10 ≤ length bytes
  pub most : length bytes ≤ 3968
  pub head : is_head (take 10 bytes) ≡ true
  pub size : named_size (take 10 bytes) ≡ length bytes
  pub is_said : is_cancelled bytes ≡ in_time

-- a number in the header is one of the whole
number-head : (w : Width) (at : ℕ) (bytes : List ℕ) → at + byte_len w ≤ 10 → big_endian_at w at (take 10 bytes) ≡ big_endian_at w at bytes
number-head w at bytes fits =
    let ten : at + (10 - at) ≡ 10 = omega arith in
    ap (λ n. big_endian_at w at (take n bytes)) (sym ten) ∙ ap (λ (xs : List ℕ). from_be_bytes w (take (byte_len w) xs)) (drop-take at (10 - at) bytes) ∙ ap (from_be_bytes w) (take-take (byte_len w) (10 - at) (drop at bytes) (omega arith))

bytes_differ : (xs ys : List ℕ) → xs ≢ ys → bytes_eq xs ys ≡ false
bytes_differ xs ys other = grind (arith, bytes_eq-Decides, other)

response-given : (bytes : List ℕ) → IsResponse bytes → bytes ≢ cancelled → IsGiven false bytes
response-given bytes is other =
    let size : named_size (take 10 bytes) ≡ length bytes = number-head w32 2 bytes (omega arith) ∙ is.size in
    let tag = number-head w16 0 bytes (omega arith) in
    record {
      least = is.head;
      most = is.room;
      head = rw (tag, size) (grind (arith, nat_tests, is.tag, is.head, is.room));
      size = size;
      is_said = bytes_differ bytes cancelled other;
    }

pub given-is : (in_time : Bool) (t : TpmParts) (x : List ℕ) → IsValid t → IsGiven in_time (given in_time t x)
given-is true t x fit = record { least = omega arith; most = omega arith; head = refl; size = refl; is_said = refl }
given-is false t x fit = response-given (answer t [] x) (answer_is_response t [] x fit) (answer_not_cancelled t [] x)

response_held : (in_time : Bool) (t : TpmParts) (x : List ℕ) (d : EmulatorState) (held : Option PendingCommand) → IsEmulator d t held → response_to (record { command = x; cancelled = in_time }) d ≡ given in_time t x
response_held true t x d held is = rw is.on refl
response_held false t x d held is = rw (is.on, is.tpm) refl

-- once it is given the command was executed, unless a cancel came in time
ran_emulator : (in_time : Bool) (t : TpmParts) (x : List ℕ) (d : EmulatorState) (held : Option PendingCommand) → IsEmulator d t held → IsEmulator (ran (record { command = x; cancelled = in_time }) d) (tpm_behind (Some HasHeader) in_time t x) None
ran_emulator true t x d held is = rw (and_false d.on) (record { tpm = is.tpm; on = is.on; stored = is.stored; gathers = is.gathers; held_is = refl })
  where
    and_false : (b : Bool) → (b && false) ≡ false
    and_false true = refl
    and_false false = refl
ran_emulator false t x d held is =
    let executes : (d.on && true) ≡ true = rw is.on refl in
    rw executes (record { tpm = rw is.tpm refl; on = is.on; stored = refl; gathers = is.gathers; held_is = refl })

closed_ran : (h : PendingCommand) (d : EmulatorState) → (ran h d).closed ≡ d.closed
closed_ran h d = go (d.on && not h.cancelled) refl
  where
    go : (test : Bool) → (d.on && not h.cancelled) ≡ test → (ran h d).closed ≡ d.closed
    go true is = rw is refl
    go false is = rw is refl

-- a receive has the command executed that is held
opened_held : (h : PendingCommand) (l : Link) → l.commands ≡ empty_channel → l.emulator.held ≡ Some h → opened Data l ≡ record l { emulator = ran h l.emulator; commands = record { begun = []; pending = response_to h l.emulator } }
opened_held h l channel held =
    let one : opened Data l ≡ opened_by [] l.emulator.held l = ap (λ (x : ChannelState). opened_by x.pending l.emulator.held l) channel in
    let two : opened_by [] l.emulator.held l ≡ record l { emulator = ran h l.emulator; commands = record { begun = l.commands.begun; pending = response_to h l.emulator } } = ap (λ (x : Option PendingCommand). opened_by [] x l) held in
    one ∙ two ∙ ap (λ (x : ChannelState). record l { emulator = ran h l.emulator; commands = record { begun = x.begun; pending = response_to h l.emulator } }) channel

opened_none : (l : Link) → l.emulator.held ≡ None → opened Data l ≡ l
opened_none l none = go l.commands.pending refl
  where
    go : (pending : List ℕ) → l.commands.pending ≡ pending → opened Data l ≡ l
    go [] is = ap (λ (xs : List ℕ). opened_by xs l.emulator.held l) is ∙ ap (λ (x : Option PendingCommand). opened_by [] x l) none
    go (x ∷ xs) is = ap (λ (ys : List ℕ). opened_by ys l.emulator.held l) is

-- the response to the command that is held
pub at_hand-held : (in_time : Bool) (t : TpmParts) (x : List ℕ) (l : Link) → IsBehind (Some HasSent) in_time t x l → receivable Data l ≡ given in_time t x
at_hand-held in_time t x l is =
    ap (λ (m : Link). m.commands.pending) (opened_held (record { command = x; cancelled = in_time }) l is.channel is.emulator.held_is) ∙ response_held in_time t x l.emulator (Some (record { command = x; cancelled = in_time })) is.emulator

-- its header is received
pub head_behind : (in_time : Bool) (t : TpmParts) (x : List ℕ) (l : Link) → IsBehind (Some HasSent) in_time t x l → IsQuiet l → IsBehind (Some HasHeader) in_time t x (received true Data 10 l) × IsQuiet (received true Data 10 l)
head_behind in_time t x l is quiet =
    let h : PendingCommand = record { command = x; cancelled = in_time } in
    let ran_now : opened Data l ≡ record l { emulator = ran h l.emulator; commands = record { begun = []; pending = response_to h l.emulator } } = opened_held h l is.channel is.emulator.held_is in
    let response = response_held in_time t x l.emulator (Some h) is.emulator in
    let now : received true Data 10 l ≡ record l { emulator = ran h l.emulator; commands = record { begun = []; pending = drop 10 (response_to h l.emulator) } } = ap (λ (m : Link). link.taken Data 10 m) ran_now in
    rw now (
      record { emulator = ran_emulator in_time t x l.emulator (Some h) is.emulator; channel = ap (λ (r : List ℕ). record { begun = []; pending = drop 10 r }) response },
      quiet-same l (record l { emulator = ran h l.emulator; commands = record { begun = []; pending = drop 10 (response_to h l.emulator) } }) refl (closed_ran h l.emulator) quiet,
    )

-- what is left of it
pub at_hand-rest : (in_time : Bool) (t : TpmParts) (x : List ℕ) (l : Link) → IsBehind (Some HasHeader) in_time t x l → receivable Data l ≡ drop 10 (given in_time t x)
at_hand-rest in_time t x l is = ap (λ (m : Link). m.commands.pending) (opened_none l is.emulator.held_is) ∙ ap (λ (channel : ChannelState). channel.pending) is.channel

-- and once that is received the emulator rests
pub rest_behind : (in_time : Bool) (t : TpmParts) (x : List ℕ) (count : ℕ) (l : Link) → IsBehind (Some HasHeader) in_time t x l → IsQuiet l → length (drop 10 (given in_time t x)) ≤ count → Rests (tpm_behind (Some HasHeader) in_time t x) (received true Data count l) × IsQuiet (received true Data count l)
rest_behind in_time t x count l is quiet enough =
    let now : received true Data count l ≡ link.taken Data count l = ap (λ (m : Link). link.taken Data count m) (opened_none l is.emulator.held_is) in
    let nothing : drop count l.commands.pending ≡ [] = ap (λ (channel : ChannelState). drop count channel.pending) is.channel ∙ drop_all count (drop 10 (given in_time t x)) enough in
    let channel : (link.taken Data count l).commands ≡ empty_channel = ap (λ (xs : List ℕ). record { begun = l.commands.begun; pending = xs }) nothing ∙ ap (λ (x : ChannelState). record { begun = x.begun; pending = [] }) is.channel in
    rw now (record { emulator = record { tpm = is.emulator.tpm; on = is.emulator.on; stored = is.emulator.stored; gathers = is.emulator.gathers; held_is = is.emulator.held_is }; channel = channel }, quiet-same l (link.taken Data count l) refl refl quiet)

-- where nothing is left it rests already
pub none_behind : (in_time : Bool) (t : TpmParts) (x : List ℕ) (l : Link) → IsBehind (Some HasHeader) in_time t x l → drop 10 (given in_time t x) ≡ [] → Rests (tpm_behind (Some HasHeader) in_time t x) l
none_behind in_time t x l is none = record { emulator = is.emulator; channel = is.channel ∙ ap (λ (xs : List ℕ). record { begun = []; pending = xs }) none }

-- a call that failed leaves the control channel
pub quiet-cut : (l : Link) → IsQuiet l → IsQuiet (cut Data l)
quiet-cut l quiet = quiet-same l (cut Data l) refl refl quiet
