-- Commands at the start of bytes.
use Rattle.std.proofs.Common.{◌≡◌, ℕ, ◌-◌, Bool, true, false, List, [], ◌++◌, length, take, drop, Option, Some, None, Result, Ok, Err, refl, sym, ap, subst, ◌∙◌, arith, lit<}
use Rattle.std.proofs.lemmas.List.{take_at, take_all, take-append-drop, take-append-le, length-drop, append_assoc}
use Rattle.std.specs.Bool.{OnTrue, OnFalse}
use Rattle.vt_base.specs.declared.grammar.Missing.{Missing}
use Rattle.vt_base.specs.Parsing.{parsed}
use Rattle.vt_base.proofs.Layouts.{parsed_encodes, parsed-append-ended, encodes_prefix, open_start}
use Rattle.tpm_frame.specs.Frames.{frames, frame_length_of, IsFrame, IsPartOfFrame}
use Rattle.ctrl_model.specs.Link.{command_by, command_in}
use Rattle.vt_emulator.specs.CoreStates.{command_channel, Takes}

-- before the first byte there is no command
pub part_nil : (bytes : List ℕ) → bytes ≡ [] → IsPartOfFrame bytes
unfolding frames
part_nil bytes none = open_start frames bytes (lit< tt) none

-- a command that is whole at the start is the one that is found, whatever follows
pub command_prefix : (frame more : List ℕ) → IsFrame frame → command_in (frame ++ more) ≡ Some frame
unfolding command_in frames
command_prefix frame more whole =
    let exact : parsed frames (frame ++ more) ≡ Ok tt = parsed-append-ended frames frame more tt (parsed_encodes frames frame tt whole) in
    let head : take 6 (frame ++ more) ≡ take 6 frame = take-append-le 6 frame more whole.0 in
    let rest : length (drop (frame_length_of (take 6 frame) - 6) (drop 6 frame)) ≡ 0 = ap length whole.1.1.1 in
    let size : frame_length_of (take 6 frame) ≡ length frame = omega (arith, rest, whole.0, whole.1.0, length-drop 6 frame, length-drop (frame_length_of (take 6 frame) - 6) (drop 6 frame)) in
    rw exact (ap (λ (n : ℕ). Some (take n (frame ++ more))) (ap frame_length_of head ∙ size) ∙ ap Some (take_at frame more (length frame) refl))

-- the bytes that were found
abbrev found_in : Option (List ℕ) → List ℕ
found_in None = []
found_in (Some command) = command

-- what is found is a command
pub found_is_frame : (bytes command : List ℕ) → command_in bytes ≡ Some command → IsFrame command
unfolding command_in frames
found_is_frame bytes command is = go (parsed frames bytes) refl is
  where
    go : (exact : Result (Unit {0}) Missing) → parsed frames bytes ≡ exact → command_by exact bytes ≡ Some command → IsFrame command
    go (Err missing) was found = absurd cc
    go (Ok end) was found =
        let prefix = encodes_prefix frames bytes end was in
        let parts : bytes ≡ take prefix.0 bytes ++ drop prefix.0 bytes = sym (take-append-drop prefix.0 bytes) in
        let there : command_in bytes ≡ Some (take prefix.0 bytes) = ap command_in parts ∙ command_prefix (take prefix.0 bytes) (drop prefix.0 bytes) prefix.2 in
        subst IsFrame (ap found_in (sym there ∙ is)) prefix.2

-- where none is whole, none is found
pub command_part : (bytes : List ℕ) → IsPartOfFrame bytes → command_in bytes ≡ None
unfolding command_in
command_part bytes part = go (parsed frames bytes) refl
  where
    go : (exact : Result (Unit {0}) Missing) → parsed frames bytes ≡ exact → command_by exact bytes ≡ None
    go (Err missing) is = refl
    go (Ok end) is = let prefix = encodes_prefix frames bytes end is in absurd (part end prefix.0 prefix.2)

-- bytes that were taken, and those that weren't
pub rejoined : (begun bytes : List ℕ) (used : ℕ) → (begun ++ take used bytes) ++ drop used bytes ≡ begun ++ bytes
rejoined begun bytes used = append_assoc begun (take used bytes) (drop used bytes) ∙ ap (λ (r : List ℕ). begun ++ r) (take-append-drop used bytes)

-- bytes that a cutter took
pub fed : (begun bytes held : List ℕ) (used : ℕ) (whole : Bool) → held ≡ begun ++ take used bytes → OnTrue whole (IsFrame held) → OnFalse whole (used ≡ length bytes) → OnFalse whole (IsPartOfFrame held)
    → Takes false bytes used whole (record { begun = begun; held = None }) (command_channel whole false held)
fed begun bytes held used true is frame all part =
    let found : command_in (begun ++ bytes) ≡ Some held = ap command_in (sym (ap (λ (t : List ℕ). t ++ drop used bytes) is ∙ rejoined begun bytes used)) ∙ command_prefix held (drop used bytes) frame in
    rw found (record { state = refl; taken = is; is_whole = refl })
fed begun bytes held used false is frame all part =
    let kept : held ≡ begun ++ bytes = is ∙ ap (λ (t : List ℕ). begun ++ t) (take_all used bytes (omega (arith, all))) in
    let found : command_in (begun ++ bytes) ≡ None = ap command_in (sym kept) ∙ command_part held part in
    rw found (record { state = ap (λ (t : List ℕ). record { begun = t; held = None }) kept; all_used = all; not_whole = refl })
