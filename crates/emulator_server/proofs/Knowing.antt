-- Steps of an emulator whose state may be known, one after another.
use Rattle.std.proofs.Common.{◌≡◌, Option, Some, None, refl}
use Rattle.std.specs.Prelude.{IfSome}
use Rattle.vt_emulator.specs.Emulator.{BufferedEmulator, EmulatorSteps}

-- what follows from a step
pub steps_imply : (Step Then : BufferedEmulator → BufferedEmulator → Type 0) (a b : Option BufferedEmulator) → EmulatorSteps Step a b
    → ((e f : BufferedEmulator) → a ≡ Some e → b ≡ Some f → Step e f → Then e f) → EmulatorSteps Then a b
steps_imply Step Then None b step k = step
steps_imply Step Then (Some e) None step k = absurd step
steps_imply Step Then (Some e) (Some f) step k = k e f refl refl step

-- what follows from two steps
pub steps_join : (First Second Then : BufferedEmulator → BufferedEmulator → Type 0) (a b d : Option BufferedEmulator) → EmulatorSteps First a b → EmulatorSteps Second b d
    → ((e m f : BufferedEmulator) → a ≡ Some e → b ≡ Some m → First e m → Second m f → Then e f) → EmulatorSteps Then a d
steps_join First Second Then None None d step on k = on
steps_join First Second Then None (Some m) d step on k = let never = step in absurd cc
steps_join First Second Then (Some e) None d step on k = absurd step
steps_join First Second Then (Some e) (Some m) None step on k = absurd on
steps_join First Second Then (Some e) (Some m) (Some f) step on k = k e m f refl refl step on

-- what holds before the first step
pub no_step : (P : BufferedEmulator → Type 0) (Then : BufferedEmulator → BufferedEmulator → Type 0) (a : Option BufferedEmulator) → IfSome a P → ((e : BufferedEmulator) → P e → Then e e) → EmulatorSteps Then a a
no_step P Then None holds k = refl
no_step P Then (Some e) holds k = k e holds

-- what holds of the emulator afterwards
pub holds_after : (Step : BufferedEmulator → BufferedEmulator → Type 0) (P : BufferedEmulator → Type 0) (a b : Option BufferedEmulator) → EmulatorSteps Step a b → ((e f : BufferedEmulator) → Step e f → P f) → IfSome b P
holds_after Step P None None step k = tt
holds_after Step P None (Some m) step k = let never = step in absurd cc
holds_after Step P (Some e) None step k = absurd step
holds_after Step P (Some e) (Some f) step k = k e f step
