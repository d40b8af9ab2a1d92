use Rattle.std.proofs.Common.{◌≡◌, ◌≢◌, ◌∙◌, ap, arith}
use Rattle.crb_port.specs.declared.job.PortState.{PortState}
use Rattle.move_core.specs.Model.{HostModel}
use Rattle.vt_seat.specs.Wires.{WiresState}
use Rattle.vt_seat.specs.Seats.{world_of}
use Rattle.vt_world.specs.Bus.{Leads}
use Rattle.vt_world.proofs.Buses.{read-after, read-leads, start-leads, ready-on}
use Rattle.vt_world.proofs.bus.read_at.Goals as goal

pub returns-then-offset-eq-CTRL_START-clause-leads : goal.returns-then-offset-eq-CTRL_START-clause-leads
returns-then-offset-eq-CTRL_START-clause-leads c =
    let start : c.args.a.now.offset ≡ 0x4C = omega (arith, c.offset.ensures.value) in
    start-leads (world_of c.args.seat.now) (world_of c.access.new.self) (world_of c.work.new.self) c.args.a.now c.in-Value.value c.in-Value.size c.work.result c.requires.is_read start c.in-Value.ensures.steps c.work.ensures.steps

pub returns-then-offset-eq-CTRL_START-clause-ready : goal.returns-then-offset-eq-CTRL_START-clause-ready
returns-then-offset-eq-CTRL_START-clause-ready c =
    let start : c.args.a.now.offset ≡ 0x4C = omega (arith, c.offset.ensures.value) in
    let leads : Leads (world_of c.args.seat.now) c.args.a.now c.in-Value.value (world_of c.work.new.self) =
    start-leads (world_of c.args.seat.now) (world_of c.access.new.self) (world_of c.work.new.self) c.args.a.now c.in-Value.value c.in-Value.size c.work.result c.requires.is_read start c.in-Value.ensures.steps c.work.ensures.steps in
    ready-on (world_of c.args.seat.now) (world_of c.work.new.self) c.args.a.now c.in-Value.value c.requires.ready leads

pub returns-else-offset-eq-CTRL_START-clause-leads : goal.returns-else-offset-eq-CTRL_START-clause-leads
returns-else-offset-eq-CTRL_START-clause-leads c =
    let away : c.args.a.now.offset ≢ 0x4C = omega (arith, c.offset.ensures.value) in
    read-leads (world_of c.args.seat.now) (world_of c.access.new.self) c.args.a.now c.in-Value.value c.in-Value.size c.requires.is_read away c.in-Value.ensures.steps

pub returns-else-offset-eq-CTRL_START-clause-ready : goal.returns-else-offset-eq-CTRL_START-clause-ready
returns-else-offset-eq-CTRL_START-clause-ready c =
    let away : c.args.a.now.offset ≢ 0x4C = omega (arith, c.offset.ensures.value) in
    ready-on (world_of c.args.seat.now) (world_of c.access.new.self) c.args.a.now c.in-Value.value c.requires.ready
    (read-leads (world_of c.args.seat.now) (world_of c.access.new.self) c.args.a.now c.in-Value.value c.in-Value.size c.requires.is_read away c.in-Value.ensures.steps)

pub returns-then-offset-eq-CTRL_START-clause-keeps : goal.returns-then-offset-eq-CTRL_START-clause-keeps
returns-then-offset-eq-CTRL_START-clause-keeps c =
    let b = c.requires.ready.0 in
    let p = c.requires.ready.1 in
    let middle = read-after b p (world_of c.args.seat.now) (world_of c.access.new.self) c.args.a.now c.in-Value.value c.in-Value.size (c.in-Value.ensures.steps b) c.requires.ready.2 in
    record {
      host = c.work.ensures.others ∙ ap (λ (h : HostModel PortState). record h { device = c.work.new.self.host.device }) c.access.ensures.others;
      piece = c.work.ensures.piece b middle.host middle.follows ∙ ap (λ (w : WiresState). w.link.emulator.piece) c.access.ensures.wires;
    }
