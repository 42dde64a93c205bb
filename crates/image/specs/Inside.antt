-- What the private functions of this crate say of what they hand one another. No public contract cites this file.
use Rattle.std.specs.Prelude.{◌≡◌, Bool, true, cond, not, List, [], ◌∷◌, ℕ, ◌≤◌, eqb, length, set, Option, Some, None, Result, Ok, Err}
use Rattle.link.specs.Count as Count
use Rattle.link.specs.Count.{size}
use Rattle.stage.specs.Answers.{answer_of}
use Rattle.stage.specs.Calls.{step, within, capacity, refusing, rests}
use Rattle.stage.specs.Rows.{looks_at}
use Rattle.stage.specs.Table.{step_of}
use Rattle.stage.specs.Turns.{from, first_that}
use Rattle.layout.specs.Layout.{length_for, trailer_at, modules, log_at, first_at, record_at, held, read}
use Rattle.layout.proofs.Stores.{puts}
use Rattle.layout.proofs.Changes.{private_bytes, shared_bytes}
use Rattle.soundness.specs.SoundImage.{sound}
use Rattle.image.specs.Call.{Does}
use Rattle.image.specs.declared.Frame.{Frame}
use Rattle.image.specs.declared.Module.{Module}
use Rattle.image.specs.declared.Looked.{Looked}
use Rattle.stage.specs.declared.Answer.{Answer}
use Rattle.stage.specs.declared.Event.TheVariants.{Done, Waiting, Admitted, Joined, Left, Finished}
use Rattle.stage.specs.declared.Refusal.{Refusal}
use Rattle.stage.specs.declared.Refusal.TheVariants.{Unsound}

-- where the parts of a sound image lie
pub record Framed (b : List ℕ) (f : Frame) : Type 0 where
  pub is : sound b ≡ true
  pub n_is : f.n ≡ modules b
  pub first_is : f.first ≡ first_at b
  pub log_is : f.log ≡ log_at b
  pub trailer_is : f.trailer ≡ trailer_at b
  pub held_is : f.held ≡ held b
  pub fits : length_for (modules b) ≤ length b
  pub least : 1 ≤ modules b
  pub most : modules b ≤ 64
  pub held_fits : held b ≤ capacity

-- a module of a sound image, by its number, and with its private part
abbrev pub IsNumber : List ℕ → ℕ → Type 0
IsNumber b p = (sound b ≡ true) × (1 ≤ p) × (p ≤ modules b)

pub record IsModule (b : List ℕ) (m : Module) : Type 0 where
  pub framed : Framed b m.frame
  pub least : 1 ≤ m.number
  pub most : m.number ≤ modules b
  pub at_is : m.at ≡ record_at b m.number
  pub me_is : m.me ≡ (read b).private m.number

-- what is given for a list of refusals, if anything is
unfoldable pub given : List (Bool × Refusal) → Option Refusal
given es = refusing es Some None

-- the refusals of everything that names a module, `unknown` being the one for a number that is no module's
unfoldable pub unfound : List ℕ → ℕ → Refusal → List (Bool × Refusal)
unfound b p unknown = (not (sound b), Unsound) ∷ (not (within 1 (modules b) p), unknown) ∷ []

-- what the search for a module comes to
abbrev pub Finds : List ℕ → ℕ → Refusal → Result ℕ Refusal → Type 0
Finds b p unknown (Err k) = given (unfound b p unknown) ≡ Some k
Finds b p unknown (Ok q) = IsNumber b q × (q ≡ p)

-- the first of k modules from p on that can step
abbrev pub first_able : List ℕ → ℕ → ℕ → Option ℕ
first_able b p k = first_that (λ q. not (rests (read b) q)) (from p k)

-- a module's step, before it is stored
pub record Looks (b : List ℕ) (m : Module) (l : Looked) : Type 0 where
  pub is : IsModule b m
  pub least : 1 ≤ looks_at m.number m.me
  pub most : looks_at m.number m.me ≤ modules b
  pub at_is : l.at ≡ record_at b (looks_at m.number m.me)
  pub stepped_is : l.stepped ≡ step_of (Count.next size) (read b) m.number

-- the image with the parts that a step leaves stored
unfoldable pub parts_put : List ℕ → Module → Looked → List ℕ
parts_put b m l =
    set (puts (puts b m.at (private_bytes l.stepped.me)) l.at (shared_bytes l.stepped.its)) m.frame.trailer l.stepped.lock

-- the answer of module p's step, by its number
unfoldable pub numbered : ℕ → ℕ → Answer
numbered p number =
    cond (eqb number 0) (answer_of Done)
    (cond (eqb number 1) (answer_of Waiting)
    (cond (eqb number 2) (answer_of (Admitted p))
    (cond (eqb number 3) (answer_of Joined)
    (cond (eqb number 4) (answer_of Left)
    (answer_of Finished)))))

-- from the image b the step of module p says that, by the number of its answer, and leaves the image b'
abbrev pub Says : ℕ → List ℕ → Result ℕ Refusal → List ℕ → Type 0
Says p b (Ok number) b' = Does (step p) b (Ok (numbered p number)) b'
Says p b (Err k) b' = Does (step p) b (Err k) b'
