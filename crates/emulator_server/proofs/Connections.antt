-- A connection, message after message.
use Rattle.std.proofs.Common.{◌≡◌, ℕ, ◌+◌, ◌-◌, ◌^◌, ◌≤◌, ◌<◌, Bool, true, false, List, [], ◌∷◌, ◌++◌, length, take, drop, Option, refl, sym, ap, subst, ◌∙◌, arith, append_assoc, eqb, inl, inr}
use Rattle.std.specs.Prelude.{cond, ◌⊎◌}
use Rattle.std.specs.Io.KnownBytes.{Appends, Consumes, IsAtEnd}
use Rattle.std.proofs.KnownBytes.{Appends-nil, Appends-trans, Consumes-nil, Consumes-trans}
use Rattle.std.proofs.lemmas.List.{append-nil, length-append, take-append-drop}
use Rattle.vt_base.specs.declared.types.Chan.{Chan}
use Rattle.vt_base.specs.declared.types.Chan.TheVariants.{Data, Ctrl}
use Rattle.vt_base.specs.Output.{AppendsPrefix}
use Rattle.ctrl_model.specs.Emulator.{EmulatorState}
use Rattle.vt_emulator.specs.Emulator.{BufferedEmulator}
use Rattle.emulator_server.specs.declared.served.Served.TheVariants.{Ended, Closed, Cut, ReadFault, WriteFault, Turns, Memory}
use Rattle.emulator_server.specs.Messages.{AnsweredMessage, AnswersMessage, AnswersMessages, messages_read, replies_written, has_message, begun_on, with_begun, TakesMessages, TakesNone, HoldsNone, IsFreshChannel, AwaitsBytes}
use Rattle.emulator_server.specs.Serving.{AnswersWhole, KeepsBytes, TakesUnlessShut, ServesSoFar, Serves, end_with_part}
use Rattle.emulator_server.proofs.Lengths.{part_short, messages_short, none_in_nothing}

-- ---- states

begun_is_set : (chan : Chan) (d : EmulatorState) (part : List ℕ) (e f : BufferedEmulator) → f ≡ with_begun chan d part e → begun_on chan f ≡ part
begun_is_set Data d part e f is = ap (λ (s : BufferedEmulator). s.command) is
begun_is_set Ctrl d part e f is = ap (λ (s : BufferedEmulator). s.request) is

-- set twice
set_again : (chan : Chan) (d : EmulatorState) (part more : List ℕ) (e f g : BufferedEmulator) → f ≡ with_begun chan f.emulator part e → g ≡ with_begun chan d more f → g ≡ with_begun chan d more e
set_again Data d part more e f g first next = next ∙ ap (λ (s : BufferedEmulator). record s { emulator = d; command = more }) first
set_again Ctrl d part more e f g first next = next ∙ ap (λ (s : BufferedEmulator). record s { emulator = d; request = more }) first

state_is_set : (chan : Chan) (d : EmulatorState) (part : List ℕ) (e f : BufferedEmulator) → f ≡ with_begun chan d part e → f.emulator ≡ d
state_is_set Data d part e f is = ap (λ (s : BufferedEmulator). s.emulator) is
state_is_set Ctrl d part e f is = ap (λ (s : BufferedEmulator). s.emulator) is

nothing_set : (chan : Chan) (e : BufferedEmulator) → begun_on chan e ≡ [] → e ≡ with_begun chan e.emulator [] e
nothing_set Data e none = ap (λ (t : List ℕ). record e { command = t }) none
nothing_set Ctrl e none = ap (λ (t : List ℕ). record e { request = t }) none

-- ---- one message more

answers_more : (chan : Chan) (xs : List AnsweredMessage) (x : AnsweredMessage) (d e f : EmulatorState) → AnswersMessages chan xs d e → AnswersMessage chan x e f → AnswersMessages chan (xs ++ x ∷ []) d f
answers_more chan [] x d e f none answers = (f, subst (λ (s : EmulatorState). AnswersMessage chan x s f) none answers, refl)
answers_more chan (y ∷ later) x d e f steps answers = (steps.0, steps.1, answers_more chan later x steps.0 e f steps.2 answers)

read_more : (xs : List AnsweredMessage) (x : AnsweredMessage) → messages_read (xs ++ x ∷ []) ≡ messages_read xs ++ x.message
read_more [] x = append-nil x.message
read_more (y ∷ later) x = ap (λ (t : List ℕ). y.message ++ t) (read_more later x) ∙ sym (append_assoc y.message (messages_read later) x.message)

written_more : (xs : List AnsweredMessage) (x : AnsweredMessage) → replies_written (xs ++ x ∷ []) ≡ replies_written xs ++ x.reply
written_more [] x = append-nil x.reply
written_more (y ∷ later) x = ap (λ (t : List ℕ). y.reply ++ t) (written_more later x) ∙ sym (append_assoc y.reply (replies_written later) x.reply)

pub nil_of : (xs : List ℕ) → length xs ≡ 0 → xs ≡ []
nil_of [] none = refl
nil_of (x ∷ xs) none = absurd (omega (arith, none))

-- ---- messages

start_takes : (chan : Chan) (d : EmulatorState) → HoldsNone chan d → TakesUnlessShut chan [] [] d
start_takes Data d none = inl none
start_takes Ctrl d none = go d.closed refl
  where
    go : (b : Bool) → d.closed ≡ b → TakesUnlessShut Ctrl [] [] d
    go false is = inl is
    go true is = inr ((refl, is), refl, refl)

takes_or_none : (chan : Chan) (messages : List AnsweredMessage) (rest : List ℕ) (d : EmulatorState) → TakesUnlessShut chan messages rest d → TakesMessages chan d ⊎ TakesNone chan d
takes_or_none chan messages rest d (inl takes) = inl takes
takes_or_none chan messages rest d (inr shut) = inr shut.0

takes_some : (chan : Chan) (messages : List AnsweredMessage) (rest : List ℕ) (d : EmulatorState) → 0 < length messages + length rest → TakesUnlessShut chan messages rest d → TakesMessages chan d
takes_some chan messages rest d some (inl takes) = takes
takes_some chan messages rest d some (inr shut) = absurd (omega (arith, some, ap length shut.1, ap length shut.2))

pub so_far_start : (chan : Chan) (left was : Option (List ℕ)) (e : BufferedEmulator) → IsFreshChannel chan e → ServesSoFar chan left left was was 0 0 0 [] e e
so_far_start chan left was e fresh = record {
  messages = [];
  part = [];
  steps = refl;
  state = nothing_set chan e fresh.none_begun;
  takes = start_takes chan e.emulator fresh.none_held;
  not_whole = none_in_nothing chan;
  read = Consumes-nil left;
  wrote = Appends-nil was;
  counted = refl;
  begun_is = refl;
  progressed = omega arith;
}

module _ (chan : Chan) (left now was written : Option (List ℕ)) (count begun rounds : ℕ) (e f : BufferedEmulator) where
  pub so_far_awaits : (rest : List ℕ) → ServesSoFar chan left now was written count begun rounds rest e f → AwaitsBytes chan f
  so_far_awaits rest so = record { takes = takes_or_none chan so.messages so.part f.emulator so.takes; part = ap (has_message chan) (begun_is_set chan f.emulator so.part e f so.state) ∙ so.not_whole }

  pub so_far_short : (rest : List ℕ) → ServesSoFar chan left now was written count begun rounds rest e f → begun ≤ 4112
  so_far_short rest so = let short = part_short chan so.part so.not_whole in omega (arith, short, so.begun_is)

  -- more was read
  pub so_far_read : (later : Option (List ℕ)) (bytes : List ℕ) (on : ℕ) → ServesSoFar chan left now was written count begun rounds [] e f → Consumes now later bytes → on ≤ rounds + length bytes → ServesSoFar chan left later was written count begun on bytes e f
  so_far_read later bytes on so more le = record {
    progressed = omega (arith, le, so.progressed, length-append (messages_read so.messages ++ so.part) [], length-append (messages_read so.messages ++ so.part) bytes);
    messages = so.messages;
    part = so.part;
    steps = so.steps;
    state = so.state;
    takes = so.takes;
    not_whole = so.not_whole;
    read = Consumes-trans left now later (messages_read so.messages ++ so.part) bytes (subst (λ (t : List ℕ). Consumes left now t) (append-nil (messages_read so.messages ++ so.part)) so.read) more;
    wrote = so.wrote;
    counted = so.counted;
    begun_is = so.begun_is;
  }

  -- no message became whole
  pub so_far_kept : (after : Option (List ℕ)) (rest : List ℕ) (g : BufferedEmulator) → ServesSoFar chan left now was written count begun rounds rest e f → KeepsBytes chan rest f g → TakesMessages chan g.emulator → Appends written after []
      → ServesSoFar chan left now was after count (begun + length rest) rounds [] e g
  so_far_kept after rest g so kept takes wrote =
      let same : begun_on chan f ≡ so.part = begun_is_set chan f.emulator so.part e f so.state in
      let state : g.emulator ≡ f.emulator = state_is_set chan f.emulator (begun_on chan f ++ rest) f g kept.state in
      record {
        messages = so.messages;
        progressed = omega (arith, so.progressed, length-append (messages_read so.messages ++ so.part) rest, length-append (messages_read so.messages) so.part, length-append so.part rest, length-append (messages_read so.messages) (so.part ++ rest), length-append (messages_read so.messages ++ (so.part ++ rest)) []);
        part = so.part ++ rest;
        steps = rw state so.steps;
        state = set_again chan g.emulator so.part (so.part ++ rest) e f g so.state (kept.state ∙ ap (λ (d : EmulatorState). with_begun chan d (begun_on chan f ++ rest) f) (sym state) ∙ ap (λ (t : List ℕ). with_begun chan g.emulator (t ++ rest) f) same);
        takes = inl takes;
        not_whole = rw (← same) kept.part;
        read = subst (λ (t : List ℕ). Consumes left now t) (append_assoc (messages_read so.messages) so.part rest ∙ sym (append-nil (messages_read so.messages ++ (so.part ++ rest)))) so.read;
        wrote = subst (λ (t : List ℕ). Appends was after t) (append-nil (replies_written so.messages)) (Appends-trans was written after (replies_written so.messages) [] so.wrote wrote);
        counted = so.counted;
        begun_is = omega (arith, so.begun_is, length-append so.part rest);
      }

  module _ (after : Option (List ℕ)) (rest : List ℕ) (used : ℕ) (reply : List ℕ) (g : BufferedEmulator)
      (so : ServesSoFar chan left now was written count begun rounds rest e f) (answered : AnswersWhole chan rest used reply f g) where
    abbrev answered_message : AnsweredMessage
    answered_message = record { message = begun_on chan f ++ take used rest; reply = reply }

    abbrev all_messages : List AnsweredMessage
    all_messages = so.messages ++ answered_message ∷ []

    steps_on : AnswersMessages chan all_messages e.emulator g.emulator
    steps_on = answers_more chan so.messages answered_message e.emulator f.emulator g.emulator so.steps answered.answers

    state_on : g ≡ with_begun chan g.emulator [] e
    state_on = set_again chan g.emulator so.part [] e f g so.state answered.state

    read_on : (messages_read so.messages ++ so.part) ++ rest ≡ messages_read all_messages ++ drop used rest
    read_on =
        let same : begun_on chan f ≡ so.part = begun_is_set chan f.emulator so.part e f so.state in
        ap (λ (t : List ℕ). (messages_read so.messages ++ so.part) ++ t) (sym (take-append-drop used rest))
        ∙ sym (append_assoc (messages_read so.messages ++ so.part) (take used rest) (drop used rest))
        ∙ ap (λ (t : List ℕ). t ++ drop used rest) (append_assoc (messages_read so.messages) so.part (take used rest) ∙ ap (λ (t : List ℕ). messages_read so.messages ++ (t ++ take used rest)) (sym same) ∙ sym (read_more so.messages answered_message))

    wrote_on : Appends written after reply → Appends was after (replies_written all_messages)
    wrote_on wrote = subst (λ (t : List ℕ). Appends was after t) (sym (written_more so.messages answered_message)) (Appends-trans was written after (replies_written so.messages) reply so.wrote wrote)

    count_on : count + 1 ≡ length all_messages
    count_on = omega (arith, so.counted, length-append so.messages (answered_message ∷ []))

    -- a message was answered
    pub so_far_answered : TakesMessages chan g.emulator → Appends written after reply → ServesSoFar chan left now was after (count + 1) 0 rounds (drop used rest) e g
    so_far_answered takes wrote = record {
      messages = all_messages;
      progressed = omega (arith, so.progressed, ap length read_on, length-append (messages_read all_messages) [], length-append (messages_read all_messages ++ []) (drop used rest), length-append (messages_read all_messages) (drop used rest));
      part = [];
      steps = steps_on;
      state = state_on;
      takes = inl takes;
      not_whole = none_in_nothing chan;
      read = subst (λ (t : List ℕ). Consumes left now t) (read_on ∙ ap (λ (t : List ℕ). t ++ drop used rest) (sym (append-nil (messages_read all_messages)))) so.read;
      wrote = wrote_on wrote;
      counted = count_on;
      begun_is = refl;
    }

    -- and the channel was closed
    pub serves_closed : count < 1000000 → 0 < length rest → TakesNone chan g.emulator → Appends written after reply → Serves chan left now was after Closed e g
    serves_closed few some closed wrote = record {
      messages = all_messages;
      rest = drop used rest;
      steps = steps_on;
      state = ([], state_on);
      read = subst (λ (t : List ℕ). Consumes left now t) read_on so.read;
      wrote = wrote_on wrote;
      within_limit = omega (arith, count_on, few);
      ended = (closed, omega (arith, some, ap length read_on, length-append (messages_read so.messages ++ so.part) rest));
    }

    -- or only a prefix of the reply was written
    pub serves_unwritten : count < 1000000 → AppendsPrefix written after reply → Serves chan left now was after WriteFault e g
    serves_unwritten few wrote = record {
      messages = all_messages;
      rest = drop used rest;
      steps = steps_on;
      state = ([], state_on);
      read = subst (λ (t : List ℕ). Consumes left now t) read_on so.read;
      wrote = (
        replies_written so.messages ++ wrote.0,
        wrote.1,
        append_assoc (replies_written so.messages) wrote.0 wrote.1 ∙ ap (λ (t : List ℕ). replies_written so.messages ++ t) wrote.2 ∙ sym (written_more so.messages answered_message),
        Appends-trans was written after (replies_written so.messages) wrote.0 so.wrote wrote.3,
      );
      within_limit = omega (arith, count_on, few);
      ended = tt;
    }

  -- the channel was closed from the start
  pub serves_shut : (after : Option (List ℕ)) (rest : List ℕ) (g : BufferedEmulator) → ServesSoFar chan left now was written count begun rounds rest e f → count < 1000000 → 0 < length rest → TakesNone chan f.emulator → g ≡ f → Appends written after []
      → Serves chan left now was after Closed e g
  serves_shut after rest g so few some none same wrote = record {
    messages = so.messages;
    rest = so.part ++ rest;
    steps = rw same so.steps;
    state = (so.part, rw same so.state);
    read = subst (λ (t : List ℕ). Consumes left now t) (append_assoc (messages_read so.messages) so.part rest) so.read;
    wrote = subst (λ (t : List ℕ). Appends was after t) (append-nil (replies_written so.messages)) (Appends-trans was written after (replies_written so.messages) [] so.wrote wrote);
    within_limit = omega (arith, so.counted, few);
    ended = (rw same none, omega (arith, some, length-append (messages_read so.messages) (so.part ++ rest), length-append so.part rest));
  }

  -- so few messages can't fill so many rounds
  pub so_far_ends : ServesSoFar chan left now was written count begun rounds [] e f → count < 1000000 → rounds < 2 ^ 64 - 1
  so_far_ends so few =
      let read = messages_short chan so.messages e.emulator f.emulator so.steps in
      let short = part_short chan so.part so.not_whole in
      omega (arith, so.progressed, so.counted, read, short, few, length-append (messages_read so.messages ++ so.part) [], length-append (messages_read so.messages) so.part)

  -- ---- ends

  pub serves_turns : (rest : List ℕ) → ServesSoFar chan left now was written count begun rounds rest e f → count ≡ 1000000 → Serves chan left now was written Turns e f
  serves_turns rest so all = record {
    messages = so.messages;
    rest = so.part ++ rest;
    steps = so.steps;
    state = (so.part, so.state);
    read = subst (λ (t : List ℕ). Consumes left now t) (append_assoc (messages_read so.messages) so.part rest) so.read;
    wrote = so.wrote;
    within_limit = omega (arith, so.counted, all);
    ended = (sym so.counted ∙ all, takes_some chan so.messages so.part f.emulator (omega (arith, so.counted, all)) so.takes);
  }

  pub serves_fault : ServesSoFar chan left now was written count begun rounds [] e f → count < 1000000 → Serves chan left now was written ReadFault e f
  serves_fault so few = record {
    messages = so.messages;
    rest = so.part;
    steps = so.steps;
    state = (so.part, so.state);
    read = subst (λ (t : List ℕ). Consumes left now t) (append-nil (messages_read so.messages ++ so.part)) so.read;
    wrote = so.wrote;
    within_limit = omega (arith, so.counted, few);
    ended = (so.not_whole, so.takes, omega (arith, so.counted, few));
  }

  pub serves_end : ServesSoFar chan left now was written count begun rounds [] e f → count < 1000000 → IsAtEnd now → Serves chan left now was written (end_with_part begun) e f
  serves_end so few end = go (eqb begun 0) refl
    where
      some : eqb begun 0 ≡ false → 0 < length so.messages + length so.part
      some is = let above : 0 < begun = grind (arith, is) in omega (arith, above, so.begun_is)

      go : (b : Bool) → eqb begun 0 ≡ b → Serves chan left now was written (cond b Ended (Cut begun)) e f
      go true is = record {
        messages = so.messages;
        rest = so.part;
        steps = so.steps;
        state = (so.part, so.state);
        read = subst (λ (t : List ℕ). Consumes left now t) (append-nil (messages_read so.messages ++ so.part)) so.read;
        wrote = so.wrote;
        within_limit = omega (arith, so.counted, few);
        ended = (nil_of so.part (sym so.begun_is ∙ grind (arith, is)), end, so.takes, omega (arith, so.counted, few));
      }
      go false is = record {
        messages = so.messages;
        rest = so.part;
        steps = so.steps;
        state = (so.part, so.state);
        read = subst (λ (t : List ℕ). Consumes left now t) (append-nil (messages_read so.messages ++ so.part)) so.read;
        wrote = so.wrote;
        within_limit = omega (arith, so.counted, few);
        ended = (so.begun_is, grind (arith, is), so.not_whole, end, takes_some chan so.messages so.part f.emulator (some is) so.takes, omega (arith, so.counted, few));
      }

-- nothing was read, for want of memory
pub serves_memory : (chan : Chan) (left was : Option (List ℕ)) (e : BufferedEmulator) → IsFreshChannel chan e → Serves chan left left was was Memory e e
serves_memory chan left was e fresh = record {
  messages = [];
  rest = [];
  steps = refl;
  state = ([], nothing_set chan e fresh.none_begun);
  read = Consumes-nil left;
  wrote = Appends-nil was;
  within_limit = omega arith;
  ended = (refl, refl);
}
