use Rattle.std.proofs.Common.{◌≡◌, ◌++◌, ◌∙◌, List, ℕ, sym, subst, take, false, rules}
use Rattle.vt_base.specs.Numbers.{IsBytes}
use Rattle.ctrl_codec.specs.declared.request_reader.FedRequest.{FedRequest}
use Rattle.ctrl_codec.specs.declared.request.RequestFault.TheVariants.{Code, Length}
use Rattle.ctrl_codec.specs.Requests.{Asks, Refuses}
use Rattle.ctrl_codec.specs.RequestReading.{IsReaderAfter, IfWhole, IfRefused, IfMore, IsUndecided}
use Rattle.vt_emulator.proofs.Hearings.{heard_more, heard_whole, heard_refused}
use Rattle.vt_emulator.proofs.emulator.EmulatorDesk.control.Goals.{in-More, in-Whole, in-BadCode, in-BadLength}
use Rattle.vt_emulator.proofs.emulator.EmulatorDesk.control.Goals as goal

pub returns-clause-step : goal.returns-clause-step
returns-clause-step c =
    let reader = c.self.inside.reader in
    let core = c.self.inside.core in
    let bytes = c.args.bytes.now in
    let used = c.feed-used.result.0 in
    let now = c.feed-used.new.self in
    let fed = c.feed-used.ensures in
    let fits : IsBytes bytes = search rules in
    let prefix = reader.begun ++ take used bytes in
    let listens : core.emulator.closed ≡ false = sym c.is_closed.ensures.closed ∙ c.if-is_closed.false in
    elim c.match-fed.branch [
      | in-More w ↦
          let none = subst (λ (f : FedRequest). IfMore f (IsUndecided (reader.begun ++ bytes))) w.in-More.is fed.more in
          let after = subst (λ (f : FedRequest). IsReaderAfter reader bytes used f now) w.in-More.is fed.after in
          rw (w.out-is, w.self-inside-is, ← c.self.view_is) (heard_more bytes used c.args.out.now reader now core listens c.self.invariant.bytes fits none after c.requires.empty)
      | in-Whole w ↦
          let asks = subst (λ (f : FedRequest). IfWhole f (λ q. Asks q now.payload prefix)) w.in-Whole.is fed.whole in
          let after = subst (λ (f : FedRequest). IsReaderAfter reader bytes used f now) w.in-Whole.is fed.after in
          let asked = subst (λ (payload : List ℕ). Asks w.in-Whole.request payload prefix) (sym w.data.ensures) asks in
          rw (w.out-is, w.self-inside-is, ← c.self.view_is) (heard_whole w.in-Whole.request w.data.result.now bytes used w.handle_request.new.out reader now core w.handle_request.new.self listens asked after w.handle_request.ensures)
      | in-BadCode w ↦
          let refuses = subst (λ (f : FedRequest). IfRefused f (λ fault. Refuses fault prefix)) w.in-BadCode.is fed.refused in
          let after = subst (λ (f : FedRequest). IsReaderAfter reader bytes used f now) w.in-BadCode.is fed.after in
          rw (w.out-is, w.self-inside-is, ← c.self.view_is)
          (heard_refused (Code w.in-BadCode.field-0) bytes used w.refuse.new.out reader now core w.refuse.new.self listens refuses after.1 w.refuse.ensures.state w.refuse.ensures.reply)
      | in-BadLength w ↦
          let refuses = subst (λ (f : FedRequest). IfRefused f (λ fault. Refuses fault prefix)) w.in-BadLength.is fed.refused in
          let after = subst (λ (f : FedRequest). IsReaderAfter reader bytes used f now) w.in-BadLength.is fed.after in
          rw (w.out-is, w.self-inside-is, ← c.self.view_is)
          (heard_refused (Length w.in-BadLength.field-0) bytes used w.refuse-in-BadLength.new.out reader now core w.refuse-in-BadLength.new.self listens refuses after.1 w.refuse-in-BadLength.ensures.state w.refuse-in-BadLength.ensures.reply)
    ]
