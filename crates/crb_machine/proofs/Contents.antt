-- A whole buffer is what it is followed by zeros.
use Rattle.std.proofs.Common.{◌≡◌, ℕ, ◌-◌, List, ◌++◌, length, ap, ◌∙◌, arith, append-nil}
use Rattle.vt_base.specs.Buffer.{zeros, followed_by_zeros}
use Rattle.crb_regs.specs.declared.phase.Phase.TheVariants.{Idle}
use Rattle.crb_machine.specs.Values.{DeviceValues, AreValid}

no_zeros : (bytes : List ℕ) → bytes ++ zeros 0 ≡ bytes
unfolding zeros
no_zeros bytes = append-nil bytes

pub content_is_whole : (v : DeviceValues) → AreValid v → followed_by_zeros v.content ≡ v.content
content_is_whole v fit =
    let none : 3968 - length v.content ≡ 0 = omega (arith, fit.size) in
    ap (λ (n : ℕ). v.content ++ zeros n) none ∙ no_zeros v.content

pub idle_is_zeros : (v : DeviceValues) → AreValid v → v.phase ≡ Idle → followed_by_zeros v.content ≡ zeros 3968
idle_is_zeros v fit idle = content_is_whole v fit ∙ fit.idle idle
