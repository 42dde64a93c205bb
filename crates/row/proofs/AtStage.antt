-- A step at a known stage is that stage's row.
-- Assumes nothing.
use mathlib.Core.Path.{◌≡◌, ◌∙◌, ap, sym}
use Prim.Native.Nat.{ℕ}
use borrow.Author.Tests.{eqb-true, eq-eqb, ne_eqb, lt-ltb, le-ltb}
use Rattle.stage.specs.Rows.{find, rows, looked, looks_at, stepped}
use Rattle.stage.specs.declared.Private.{Private}
use Rattle.stage.specs.declared.Shared.{Shared}
use Rattle.stage.specs.declared.Stepped.{Stepped}

pub at_stage : (k : ℕ) (bump : ℕ → ℕ) (p : ℕ) (me : Private) (its : Shared) (lock : ℕ) (r : Stepped) → me.stage ≡ k → r ≡ (find rows k).row bump p me its lock → r ≡ stepped bump p me its lock
unfolding stepped
at_stage k bump p me its lock r e same = same ∙ ap (λ (j : ℕ). (find rows j).row bump p me its lock) (sym e)

pub looks_at_stage : (k p : ℕ) (me : Private) (r : ℕ) → me.stage ≡ k → r ≡ looked (find rows k).looks p me → r ≡ looks_at p me
unfolding looks_at
looks_at_stage k p me r e same = same ∙ ap (λ (j : ℕ). looked (find rows j).looks p me) (sym e)

-- what the code's tests say of the table's
pub ruleset tests = (at_stage, looks_at_stage, eq-eqb, ne_eqb, lt-ltb, le-ltb)
