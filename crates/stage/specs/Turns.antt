-- Whose turn is next. Document 02, R-2: "a small turn marker .. holds the last one served; next is the first after it around the table, itself
-- last, not at stage 0 or 13."
use Rattle.std.specs.Prelude.{ℕ, zero, suc, ◌-◌, Bool, cond, not, List, [], ◌∷◌, ◌++◌, Option, None, Some}
use Rattle.stage.specs.Calls.{rests}
use Rattle.stage.specs.Table.{Table}

-- k numbers, from a on
unfoldable pub from : ℕ → ℕ → List ℕ
from a zero = []
from a (suc k) = a ∷ from (suc a) k

-- n modules in the order after m: "around the table, itself last"
unfoldable pub around : ℕ → ℕ → List ℕ
around n m = from (suc m) (n - m) ++ from 1 m

-- the first of a list that passes a test, if one does
unfoldable pub first_that : (ℕ → Bool) → List ℕ → Option ℕ
first_that passes [] = None
first_that passes (p ∷ others) = cond (passes p) (Some p) (first_that passes others)

-- the module whose turn is next, if anybody can step
unfoldable pub next_after : Table → ℕ → Option ℕ
next_after t m = first_that (λ p. not (rests t p)) (around t.n m)
