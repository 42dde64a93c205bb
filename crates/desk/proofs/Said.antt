-- What an exported call's contract admits.
-- Assumes nothing.
use mathlib.Core.Path.{◌≡◌, sym, ◌∙◌}
use mathlib.Core.List.{List}
use Prim.Native.Nat.{ℕ}
use Rattle.stage.specs.Calls.{Call}
use Rattle.desk.specs.Packed.{Exports}

-- A contract of an exported call leaves nothing open: any two outcomes that it admits are the same.
pub one_outcome : (c : Call) (b : List ℕ) {x x' : ℕ} {b₁ b₂ : List ℕ} → Exports c b x b₁ → Exports c b x' b₂ → (x ≡ x') × (b₁ ≡ b₂)
one_outcome c b one other = (one.says ∙ sym other.says, one.leaves ∙ sym other.leaves)
