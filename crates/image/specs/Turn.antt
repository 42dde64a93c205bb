-- A turn on an image, with the marker m. Document 02, R-2.
use Rattle.std.specs.Prelude.{ℕ, ◌≡◌, not, List, [], ◌∷◌, Option, Some, None, Ok, Err}
use Rattle.stage.specs.Answers.{answer_of, Reply}
use Rattle.stage.specs.Calls.{step, within, refusing}
use Rattle.stage.specs.Turns.{next_after}
use Rattle.stage.specs.declared.Event.TheVariants.{Nobody}
use Rattle.stage.specs.declared.Refusal.{Refusal}
use Rattle.stage.specs.declared.Refusal.TheVariants.{Unsound, WrongMarker}
use Rattle.layout.specs.Layout.{read}
use Rattle.soundness.specs.SoundImage.{sound}
use Rattle.image.specs.Call.{Does}

-- what a turn comes to: it is refused, it finds nobody, or it is a module's step
pub data Turn : Type 0 where
  refused : Refusal → Turn
  nobody : Turn
  step_by : ℕ → Turn

abbrev pub found : Option ℕ → Turn
found None = nobody
found (Some p) = step_by p

-- "Refusals: 10, marker not 1 to n, after 1."
unfoldable pub turn_of : List ℕ → ℕ → Turn
turn_of b m = refusing ((not (sound b), Unsound) ∷ (not (within 1 (read b).n m), WrongMarker) ∷ []) refused (found (next_after (read b) m))

-- the marker, where the step of p says r: it is "moved on", but "where it is refused 5, so is the turn"
abbrev pub moved : ℕ → ℕ → Reply → ℕ
moved p m (Err k) = m
moved p m (Ok a) = p

-- From the image b and the marker m the turn says r, and leaves the image b' and the marker m'. "The step obeys demand 2": it is held to what
-- the call `step` is held to.
abbrev pub Gives : Turn → (b : List ℕ) (m : ℕ) (r : Reply) (b' : List ℕ) (m' : ℕ) → Type 0
Gives (refused k) b m r b' m' = (r ≡ Err k) × (b' ≡ b) × (m' ≡ m)
-- "If nobody can step, the answer is 9 and the marker stays."
Gives nobody b m r b' m' = (r ≡ Ok (answer_of Nobody)) × (b' ≡ b) × (m' ≡ m)
Gives (step_by p) b m r b' m' = Does (step p) b r b' × (m' ≡ moved p m r)

abbrev pub GivesTurn : (b : List ℕ) (m : ℕ) (r : Reply) (b' : List ℕ) (m' : ℕ) → Type 0
GivesTurn b m = Gives (turn_of b m) b m
