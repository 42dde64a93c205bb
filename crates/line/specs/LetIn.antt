-- Document 02, R-1, "Let the urgent one into the line": what it adds to demand 3.
use Rattle.std.specs.Prelude.{ℕ, ◌≡◌, List, ◌∷◌, ◌≢◌}
use Rattle.stage.specs.Calls.{Call, step}
use Rattle.line.specs.Demand3.{Premise, Inside}
use Rattle.line.specs.History.{Desk, table}

-- "Added: a step at stage 6 that looks at a module inside never returns to stage 1, in demand 3's histories begun under this rule." The step looks at
-- prev; it counts whether prev is inside when the step is made.
abbrev pub LetIn : (D : Desk) → D.State → ℕ → Type 0
LetIn D s m =
    (cs : List Call) → Premise D s m cs
    → (p : ℕ) → ((table D s cs).private p).stage ≡ 6 → Inside (table D s cs) ((table D s cs).private p).prev
    → ((table D s (step p ∷ cs)).private p).stage ≢ 1
