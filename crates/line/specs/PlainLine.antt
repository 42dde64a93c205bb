-- The plain line of the minutes, demand 3. It knows nothing of the machine.
use Rattle.std.specs.Prelude.{ℕ, cond, List, [], ◌∷◌, leb}

-- somebody in the line: which module, and how urgent
pub record Place : Type 0 where
  pub «module» : ℕ
  pub priority : ℕ

-- behind everyone at least as urgent, ahead of all others
unfoldable pub stand : Place → List Place → List Place
stand x [] = x ∷ []
stand x (y ∷ others) = cond (leb x.priority y.priority) (y ∷ stand x others) (x ∷ y ∷ others)

-- "a join stands behind the line's first and everyone at least as urgent, ahead of all others"
unfoldable pub join : Place → List Place → List Place
join x [] = x ∷ []
join x (first ∷ others) = first ∷ stand x others

-- "a leave drops the first"
unfoldable pub leave : List Place → List Place
leave [] = []
leave (first ∷ others) = others

-- the first, if there is one
unfoldable pub first_of : List Place → List ℕ
first_of [] = []
first_of (first ∷ others) = first.module ∷ []

-- the modules of the line
unfoldable pub modules : List Place → List ℕ
modules [] = []
modules (x ∷ others) = x.module ∷ modules others
