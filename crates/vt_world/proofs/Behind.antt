-- A stream that was put together apart is appended.
use Rattle.std.proofs.Common.{◌≡◌, ℕ, List, [], ◌++◌, ap, ◌∙◌}
use Rattle.std.proofs.lemmas.List.{append-nil}
use Rattle.crb_history.specs.Snapshot.{Snapshot}
use Rattle.crb_history.specs.Event.{History}
use Rattle.vt_seat.specs.Saving.{Saves}
use Rattle.vt_seat.specs.declared.saving.Saved.{Saved}
use Rattle.vt_seat.specs.declared.saving.Saved.TheVariants as saved

pub saved-behind : (b : Snapshot) (p : History) (answer : Saved) (old stream new : List ℕ) → Saves b p answer [] stream → new ≡ old ++ stream → Saves b p answer old new
saved-behind b p saved.Whole old stream new saves is = record { may = saves.may; fit = saves.fit; appended = is ∙ ap (λ s. old ++ s) saves.appended }
saved-behind b p (saved.NotYet number) old stream new saves is = (saves.0, saves.1, is ∙ ap (λ s. old ++ s) saves.2 ∙ append-nil old)
