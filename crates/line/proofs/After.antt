-- What a row is to keep: the invariant, of the line as the course then has it. Assumes nothing.
use Prim.Native.Nat.{ℕ}
use mathlib.Core.List.{List}
use Rattle.stage.specs.Table.{upd}
use Rattle.stage.specs.declared.Private.{Private}
use Rattle.stage.specs.declared.Shared.{Shared}
use Rattle.stage.specs.declared.Stepped.{Stepped}
use Rattle.line.specs.History.{Course, stepping}
use Rattle.line.specs.PlainLine.{Place}
use Rattle.line.proofs.Invariant.{Inv}

abbrev pub Good : (ℕ → ℕ) → (ℕ → Private) → (ℕ → Shared) → ℕ → List Place → Type 0
Good g private sh lock l = (h : ℕ) × Inv g private sh lock l h

-- p stepped, looking at x, and r is what the step left
abbrev pub After : Course → (ℕ → Private) → (ℕ → Shared) → ℕ → ℕ → Stepped → Type 0
After o private sh p x r =
    Good o.given (upd private p r.me) (upd sh x r.its) r.lock (stepping p r.answer.event o).line
