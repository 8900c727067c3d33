-- The phases as the marks name them, and the phase at each end of a scan.
-- Assumes nothing: these are definitions.
use Rattle.std.specs.Prelude.{◌≡◌, refl, Bool, true, false}
use mathlib.Core.Path.{ap}
use mathlib.Core.Bool.{true≢false, false≢true}
use Rattle.requirement.specs.declared.Phase.{Phase}
use Rattle.requirement.specs.declared.Phase.TheVariants.{Input, Exe, Output}
use Rattle.requirement.specs.declared.End.{End}
use Rattle.requirement.specs.declared.End.TheVariants.{Reads, Writes}

-- The phase just after a read, and just after a write.
abbrev pub phase_of : End → Phase
phase_of Reads = Input
phase_of Writes = Output

-- Which of the phases a phase is, as a test: by these two are told apart.
abbrev pub is_input : Phase → Bool
is_input Input = true
is_input Exe = false
is_input Output = false

abbrev pub is_exe : Phase → Bool
is_exe Input = false
is_exe Exe = true
is_exe Output = false

-- Whether two phases are the same.
abbrev pub Phase-discrete : (p q : Phase) → Dec (p ≡ q)
Phase-discrete Input Input = yes refl
Phase-discrete Input Exe = no (λ e. true≢false (ap is_input e))
Phase-discrete Input Output = no (λ e. true≢false (ap is_input e))
Phase-discrete Exe Input = no (λ e. false≢true (ap is_input e))
Phase-discrete Exe Exe = yes refl
Phase-discrete Exe Output = no (λ e. true≢false (ap is_exe e))
Phase-discrete Output Input = no (λ e. false≢true (ap is_input e))
Phase-discrete Output Exe = no (λ e. false≢true (ap is_exe e))
Phase-discrete Output Output = yes refl
