-- A history of calls on a desk, and what somebody who hears each call and its answer makes of it.
use Rattle.std.specs.Prelude.{ℕ, List, [], ◌∷◌, ◌++◌, Ok, Err}
use Rattle.stage.specs.Calls.{Call, set_up, begin_acquisition, begin_release, step, take_log}
use Rattle.stage.specs.Table.{Table, upd}
use Rattle.stage.specs.declared.Event.{Event}
use Rattle.stage.specs.declared.Event.TheVariants.{Done, Waiting, Admitted, Joined, Left, Finished, Taken, Nobody}
use Rattle.line.specs.PlainLine.{Place, join, leave, first_of}
use Rattle.stage.specs.Answers.{Reply}

-- A desk: what a call says, what it leaves, and the table that a state shows. The machine is one, whose state is the table itself; so is an image.
pub record Desk : Type 1 where
  pub State : Type 0
  pub says : Call → State → Reply
  pub leaves : Call → State → State
  pub shows : State → Table

-- What is heard of a history: each call and what it said, the latest first.
abbrev pub Transcript : Type 0
Transcript = List (Call × Reply)

-- What is made of it: the plain line; its firsts, in order; and the priority that each module was given last.
pub record Course : Type 0 where
  pub line : List Place
  pub firsts : List ℕ
  pub given : ℕ → ℕ

unfoldable pub start : Course
start = record { line = []; firsts = []; given = λ p. 0 }

-- who joins an empty line is a first
unfoldable pub entering : ℕ → List Place → List ℕ
entering p [] = p ∷ []
entering p (x ∷ others) = []

-- "The deciding steps are stage 2 where it succeeds and stage 9 where it succeeds (join), and stage 14 (leave)": those that answer joined and left.
unfoldable pub stepping : ℕ → Event → Course → Course
stepping p Done o = o
stepping p Waiting o = o
stepping p (Admitted q) o = o
stepping p Joined o =
    record {
      line = join (record { «module» = p; priority = o.given p }) o.line;
      firsts = o.firsts ++ entering p o.line;
      given = o.given;
    }
stepping p Left o =
    record { line = leave o.line; firsts = o.firsts ++ first_of (leave o.line); given = o.given }
stepping p Finished o = o
stepping p (Taken k) o = o
stepping p Nobody o = o

-- "A new set-up starts a new history": every other call goes on with one
abbrev pub Ongoing : Call → Type 0
Ongoing (set_up k) = ⊥
Ongoing (begin_acquisition p r) = Unit {0}
Ongoing (begin_release p) = Unit {0}
Ongoing (step p) = Unit {0}
Ongoing (take_log room) = Unit {0}

-- an accepted call with its event
unfoldable pub accepted : Call → Event → Course → Course
accepted (set_up k) e o = start
accepted (begin_acquisition p r) e o = record { line = o.line; firsts = o.firsts; given = upd o.given p r }
accepted (begin_release p) e o = o
accepted (step p) e o = stepping p e o
accepted (take_log room) e o = o

-- a refused call changes nothing
unfoldable pub heard : Call → Reply → Course → Course
heard c (Err k) o = o
heard c (Ok a) o = accepted c a.event o

unfoldable pub course : Transcript → Course
course [] = start
course (x ∷ earlier) = heard x.0 x.1 (course earlier)

-- "all that was ever taken" of the log, one call on, where `held` was held
unfoldable pub takes : Call → Reply → List ℕ → List ℕ → List ℕ
takes c (Err k) held taken = taken
takes (set_up k) (Ok a) held taken = []
takes (begin_acquisition p r) (Ok a) held taken = taken
takes (begin_release p) (Ok a) held taken = taken
takes (step p) (Ok a) held taken = taken
takes (take_log room) (Ok a) held taken = taken ++ held

-- A history is a list of calls, the latest first. After it, from the state s on the desk D:
module _ (D : Desk) (s : D.State) where
  unfoldable pub state : List Call → D.State
  state [] = s
  state (c ∷ earlier) = D.leaves c (state earlier)

  abbrev pub table : List Call → Table
  table cs = D.shows (state cs)

  unfoldable pub transcript : List Call → Transcript
  transcript [] = []
  transcript (c ∷ earlier) = (c, D.says c (state earlier)) ∷ transcript earlier

  unfoldable pub taken : List Call → List ℕ
  taken [] = []
  taken (c ∷ earlier) = takes c (D.says c (state earlier)) (table earlier).log (taken earlier)
