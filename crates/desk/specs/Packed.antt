-- What a call says, as one number for other languages. Document 01, "What a call says": "The answer carries what happened and, for an admission,
-- which module", "Taking the log answers 0 and its length", and a refusal "returns that number alone".
use Rattle.std.specs.Prelude.{ℕ, ◌+◌, ◌-◌, ◌*◌, ◌/◌, ◌%◌, ◌≡◌, Bool, true, false, cond, List, eqb, leb, Ok, Err, Option, Some, None, option_map}
use Rattle.stage.specs.Answers.{module_admitted, length_taken, refusal_number, Reply}
use Rattle.stage.specs.Calls.{Call, set_up, begin_acquisition, begin_release, step, take_log}
use Rattle.stage.specs.declared.Event.{Event}
use Rattle.stage.specs.declared.Event.TheVariants.{Done, Waiting, Admitted, Joined, Left, Finished, Taken, Nobody}
use Rattle.stage.specs.declared.Refusal.{Refusal}
use Rattle.stage.specs.declared.Refusal.TheVariants.{Unsound, NoSuchModule, WrongPriority, WrongStage, LogFull, ShortLogBuffer, WrongNumberOfModules, ShortBuffer, Malformed, WrongMarker}
use Rattle.image.specs.Call.{reply, image}
use Rattle.image.specs.Turn.{GivesTurn}

-- the top bit of 32
abbrev pub top : ℕ
top = 2147483648

-- A refusal sets the top bit and gives its number alone. An answer gives its number in the lowest byte, the admitted module in the next, and
-- the length of the log taken in the upper half.
unfoldable pub packed : Reply → ℕ
packed (Err k) = top + refusal_number k
packed (Ok a) = a.number + 256 * module_admitted a.event + 65536 * length_taken a.event

-- what every contract of an exported call says: from the image b the call c answers r and leaves the image b'
pub record Exports (c : Call) (b : List ℕ) (r : ℕ) (b' : List ℕ) : Type 0 where
  pub says : r ≡ packed (reply c b)
  pub leaves : b' ≡ image c b

-- r is the number of something said that P holds of
pub record Says (P : Reply → Type 0) (r : ℕ) : Type 0 where
  pub said : Reply
  pub says : r ≡ packed said
  pub holds : P said

-- what the contract of the exported turn says, with the marker m before it and m' after it
abbrev pub ExportsTurn : (b : List ℕ) (m r : ℕ) (b' : List ℕ) (m' : ℕ) → Type 0
ExportsTurn b m r b' m' = Says (λ said. GivesTurn b m said b' m') r

-- The call takes the log. A caller knows that, since it made the call: a log of no entry and a call that is done are both packed to 0.
abbrev pub takes : Call → Bool
takes (set_up k) = false
takes (begin_acquisition p r) = false
takes (begin_release p) = false
takes (step p) = false
takes (take_log room) = true

-- the event of an answer, by its number, the module and the length beside it
unfoldable pub event_of : Bool → ℕ → ℕ → ℕ → Event
event_of true number p k = Taken k
event_of false number p k =
    cond (eqb number 0) Done
    (cond (eqb number 1) Waiting
    (cond (eqb number 2) (Admitted p)
    (cond (eqb number 3) Joined
    (cond (eqb number 4) Left
    (cond (eqb number 5) Finished
    Nobody)))))

-- the refusal of a number, if it is a refusal's
unfoldable pub refusal_of : ℕ → Option Refusal
refusal_of k =
    cond (eqb k 1) (Some Unsound)
    (cond (eqb k 2) (Some NoSuchModule)
    (cond (eqb k 3) (Some WrongPriority)
    (cond (eqb k 4) (Some WrongStage)
    (cond (eqb k 5) (Some LogFull)
    (cond (eqb k 6) (Some ShortLogBuffer)
    (cond (eqb k 7) (Some WrongNumberOfModules)
    (cond (eqb k 8) (Some ShortBuffer)
    (cond (eqb k 9) (Some Malformed)
    (cond (eqb k 10) (Some WrongMarker)
    None)))))))))

-- what a caller reads out of the number: nothing where it is that of no refusal
unfoldable pub unpacked : Bool → ℕ → Option Reply
unpacked log x =
    cond (leb top x)
    (option_map Err (refusal_of (x - top)))
    (Some (Ok (record { number = x % 256; event = event_of log (x % 256) (x / 256 % 256) (x / 65536) })))

-- What is proved of it: the packing loses nothing of what a call says on any image.
abbrev pub LosesNothing : Type 0
LosesNothing = (c : Call) (b : List ℕ) → unpacked (takes c) (packed (reply c b)) ≡ Some (reply c b)

-- nor of what a turn says
abbrev pub TurnsToo : Type 0
TurnsToo =
    (b : List ℕ) (m : ℕ) (r : Reply) (b' : List ℕ) (m' : ℕ) → GivesTurn b m r b' m' → unpacked false (packed r) ≡ Some r
