-- The five calls, what each is refused for, and what an accepted one says and does. Document 01, "What a call says".
use Rattle.std.specs.Prelude.{ℕ, Bool, true, false, cond, not, ◌&&◌, ◌||◌, List, [], ◌∷◌, eqb, leb, ltb, length, Ok, Err}
use Rattle.stage.specs.Answers.{answer_of, Reply}
use Rattle.stage.specs.Table.{Table, fresh_table, begun_acquisition, begun_release, step_of, after_step, log_taken}
use Rattle.stage.specs.declared.Answer.{Answer}
use Rattle.stage.specs.declared.Event.{Event}
use Rattle.stage.specs.declared.Event.TheVariants.{Done, Waiting, Admitted, Joined, Left, Finished, Taken, Nobody}
use Rattle.stage.specs.declared.Refusal.{Refusal}
use Rattle.stage.specs.declared.Refusal.TheVariants.{NoSuchModule, WrongPriority, WrongStage, LogFull, ShortLogBuffer, WrongNumberOfModules, ShortBuffer}

-- A call with its numbers, whatever they are. `take_log room` is lent a buffer of `room` bytes for the log.
pub data Call : Type 0 where
  set_up : ℕ → Call
  begin_acquisition : ℕ → ℕ → Call
  begin_release : ℕ → Call
  step : ℕ → Call
  take_log : ℕ → Call

-- "image unsound (every call but set-up, which looks at no earlier byte)"
abbrev pub asks_sound : Call → Bool
asks_sound (set_up k) = false
asks_sound (begin_acquisition p r) = true
asks_sound (begin_release p) = true
asks_sound (step p) = true
asks_sound (take_log room) = true

abbrev pub within : ℕ → ℕ → ℕ → Bool
within a b x = leb a x && leb x b

-- how many entries the log can hold
abbrev pub capacity : ℕ
capacity = 256

-- the step would admit
abbrev pub admits : Event → Bool
admits Done = false
admits Waiting = false
admits (Admitted p) = true
admits Joined = false
admits Left = false
admits Finished = false
admits (Taken k) = false
admits Nobody = false

-- "0: idle, no step. 13: inside, no step."
abbrev pub rests : Table → ℕ → Bool
rests t p = eqb (t.private p).stage 0 || eqb (t.private p).stage 13

-- What a call is refused for, in the order of the numbers: a test and the refusal that is given where it holds. `fits k` says whether the
-- buffer has room for k modules. (The first, an unsound image, is the image's to give, and comes before these.)
unfoldable pub refusals : (ℕ → ℕ) → (ℕ → Bool) → Call → Table → List (Bool × Refusal)
refusals bump fits (set_up k) t = (not (within 1 64 k), WrongNumberOfModules) ∷ (not (fits k), ShortBuffer) ∷ []
refusals bump fits (begin_acquisition p r) t =
    (not (within 1 t.n p), NoSuchModule)
    ∷ (not (within 1 254 r), WrongPriority)
    ∷ (not (eqb (t.private p).stage 0), WrongStage)
    ∷ []
refusals bump fits (begin_release p) t =
    (not (within 1 t.n p), NoSuchModule) ∷ (not (eqb (t.private p).stage 13), WrongStage) ∷ []
refusals bump fits (step p) t =
    (not (within 1 t.n p), NoSuchModule)
    ∷ (rests t p, WrongStage)
    ∷ (admits (step_of bump t p).answer.event && leb capacity (length t.log), LogFull)
    ∷ []
refusals bump fits (take_log room) t = (ltb room (length t.log), ShortLogBuffer) ∷ []

-- "The lowest number that applies is given."
unfoldable pub refusing : {A : Type 0} → List (Bool × Refusal) → (Refusal → A) → A → A
refusing [] refused accepted = accepted
refusing (e ∷ others) refused accepted = cond e.0 (refused e.1) (refusing others refused accepted)

-- what an accepted call answers, and the table after it
unfoldable pub answered : (ℕ → ℕ) → Call → Table → Answer
answered bump (set_up k) t = answer_of Done
answered bump (begin_acquisition p r) t = answer_of Done
answered bump (begin_release p) t = answer_of Done
answered bump (step p) t = (step_of bump t p).answer
answered bump (take_log room) t = answer_of (Taken (length t.log))

unfoldable pub after : (ℕ → ℕ) → Call → Table → Table
after bump (set_up k) t = fresh_table k
after bump (begin_acquisition p r) t = begun_acquisition t p r
after bump (begin_release p) t = begun_release t p
after bump (step p) t = after_step bump t p
after bump (take_log room) t = log_taken t

-- the call on the machine: what it says, and the table that it leaves
unfoldable pub called : (ℕ → ℕ) → (ℕ → Bool) → Call → Table → Reply × Table
called bump fits c t = refusing (refusals bump fits c t) (λ k. (Err k, t)) (Ok (answered bump c t), after bump c t)
