use Rattle.std.proofs.Common.{◌∙◌, ap}
use Rattle.vt_seat.proofs.Handing.{names_kept}
use Rattle.vt_seat.proofs.seat.Seat.move_to.Goals as goal

pub returns-clause-names : goal.returns-clause-names
returns-clause-names g c =
    let kept = names_kept g.P.PortModel.port_view c.move_guest.result _ _ _ _ _ _ _ c.move_guest.ensures.moved c.move_guest.ensures.given_up in
    (kept.0 ∙ ap (λ s. s.host.name) c.self.view_is, kept.1 ∙ ap (λ s. s.host.name) c.target.view_is)
