-- What a call says. Document 01, "What a call says": "Numbers: 0 done, 1 waiting (stage 12, Locked 1), 2 admitted, 3 joined,
-- 4 left (stage 14), 5 release finished (the step that returns to idle). Taking the log answers 0 and its length." Document 02, R-2: 9, nobody can step.
use Rattle.std.specs.Prelude.{ℕ, Option, Some, None, unwrap_or, Result}
use Rattle.stage.specs.declared.Answer.{Answer}
use Rattle.stage.specs.declared.Event.{Event}
use Rattle.stage.specs.declared.Event.TheVariants.{Done, Waiting, Admitted, Joined, Left, Finished, Taken, Nobody}
use Rattle.stage.specs.declared.Refusal.{Refusal}
use Rattle.stage.specs.declared.Refusal.TheVariants.{Unsound, NoSuchModule, WrongPriority, WrongStage, LogFull, ShortLogBuffer, WrongNumberOfModules, ShortBuffer, Malformed, WrongMarker}

abbrev pub number_of : Event → ℕ
number_of Done = 0
number_of Waiting = 1
number_of (Admitted «module») = 2
number_of Joined = 3
number_of Left = 4
number_of Finished = 5
number_of (Taken length) = 0
number_of Nobody = 9

-- the answer for an event: its number, and it
abbrev pub answer_of : Event → Answer
answer_of e = record { number = number_of e; event = e }

-- the module that an event admits, and the length of the log that it takes
abbrev pub admission : Event → Option ℕ
admission Done = None
admission Waiting = None
admission (Admitted «module») = Some «module»
admission Joined = None
admission Left = None
admission Finished = None
admission (Taken length) = None
admission Nobody = None

abbrev pub log_length : Event → Option ℕ
log_length Done = None
log_length Waiting = None
log_length (Admitted «module») = None
log_length Joined = None
log_length Left = None
log_length Finished = None
log_length (Taken length) = Some length
log_length Nobody = None

-- the same as numbers, 0 where there is none
abbrev pub module_admitted : Event → ℕ
module_admitted e = unwrap_or (admission e) 0

abbrev pub length_taken : Event → ℕ
length_taken e = unwrap_or (log_length e) 0

-- "It returns that number alone": the numbers of the refusals. 01's table has 1 to 9; 02, R-2: "10, marker not 1 to n".
abbrev pub refusal_number : Refusal → ℕ
refusal_number Unsound = 1
refusal_number NoSuchModule = 2
refusal_number WrongPriority = 3
refusal_number WrongStage = 4
refusal_number LogFull = 5
refusal_number ShortLogBuffer = 6
refusal_number WrongNumberOfModules = 7
refusal_number ShortBuffer = 8
refusal_number Malformed = 9
refusal_number WrongMarker = 10

-- what a call says: an answer, or why it is refused
abbrev pub Reply : Type 0
Reply = Result Answer Refusal
