use Rattle.std.proofs.Common.{drop, sym, subst}
use Rattle.vt_base.specs.declared.types.Malformed.{Malformed}
use Rattle.saved_stream.specs.Parts.{parts}
use Rattle.saved_stream.specs.Refusals.{ArePartsRefused}
use Rattle.saved_stream.proofs.Passed.{err_with, permanent_stopped, volatile_stopped, saved_stopped}
use Rattle.saved_stream.proofs.reading.parts_at.Goals as goal

pub returns-in_err-permanent_end-clause-refused : goal.returns-in_err-permanent_end-clause-refused
returns-in_err-permanent_end-clause-refused c =
    let fault = c.in_err-permanent_end.field-0.0 in
    let refused : ArePartsRefused parts 9 fault (drop 9 c.args.bytes.now) =
    permanent_stopped c.args.bytes.now c.args.permanent.now c.args.volatile.now c.args.saved.now c.in_ok-record_end.record_end fault c.in_ok-record_end.ensures.part c.requires.permanent c.in_err-permanent_end.ensures.refused in
    err_with c.from_residual-in_err-permanent_end.result _ (λ f. ArePartsRefused parts 9 f (drop 9 c.args.bytes.now)) (λ f is. subst (λ (x : Malformed). ArePartsRefused parts 9 x (drop 9 c.args.bytes.now)) (sym is) refused) c.from_residual-in_err-permanent_end.ensures.1

pub returns-in_err-volatile_end-clause-refused : goal.returns-in_err-volatile_end-clause-refused
returns-in_err-volatile_end-clause-refused c =
    let fault = c.in_err-volatile_end.field-0.0 in
    let refused : ArePartsRefused parts 9 fault (drop 9 c.args.bytes.now) =
    volatile_stopped c.args.bytes.now c.args.permanent.now c.args.volatile.now c.args.saved.now c.in_ok-record_end.record_end c.in_ok-permanent_end.permanent_end fault
    c.in_ok-record_end.ensures.part c.requires.permanent c.in_ok-permanent_end.ensures.part c.requires.volatile c.in_err-volatile_end.ensures.refused in
    err_with c.from_residual-in_err-volatile_end.result _ (λ f. ArePartsRefused parts 9 f (drop 9 c.args.bytes.now)) (λ f is. subst (λ (x : Malformed). ArePartsRefused parts 9 x (drop 9 c.args.bytes.now)) (sym is) refused) c.from_residual-in_err-volatile_end.ensures.1

pub returns-in_err-saved_end-clause-refused : goal.returns-in_err-saved_end-clause-refused
returns-in_err-saved_end-clause-refused c =
    let fault = c.in_err-saved_end.field-0.0 in
    let refused : ArePartsRefused parts 9 fault (drop 9 c.args.bytes.now) =
    saved_stopped c.args.bytes.now c.args.permanent.now c.args.volatile.now c.args.saved.now c.in_ok-record_end.record_end c.in_ok-permanent_end.permanent_end c.in_ok-volatile_end.volatile_end fault
    c.in_ok-record_end.ensures.part c.requires.permanent c.in_ok-permanent_end.ensures.part c.requires.volatile c.in_ok-volatile_end.ensures.part c.requires.saved c.in_err-saved_end.ensures.refused in
    err_with c.from_residual-in_err-saved_end.result _ (λ f. ArePartsRefused parts 9 f (drop 9 c.args.bytes.now)) (λ f is. subst (λ (x : Malformed). ArePartsRefused parts 9 x (drop 9 c.args.bytes.now)) (sym is) refused) c.from_residual-in_err-saved_end.ensures.1
