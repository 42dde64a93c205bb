-- What users rely on besides demand 3, of a moment of a history: of what was heard of it and of the table.
use Rattle.std.specs.Prelude.{ℕ, ◌+◌, ◌≤◌, ◌≡◌, Bool, true, false, cond, List, [], ◌∷◌, ◌++◌, ◌⊎◌, eqb, Ok, Err}
use Rattle.stage.specs.Answers.{answer_of, Reply}
use Rattle.stage.specs.Calls.{Call, set_up, begin_acquisition, begin_release, step, take_log}
use Rattle.stage.specs.Table.{Table}
use Rattle.stage.specs.declared.Event.{Event}
use Rattle.stage.specs.declared.Event.TheVariants.{Done, Waiting, Admitted, Joined, Left, Finished, Taken, Nobody}
use Rattle.line.specs.Demand3.{Premise, Found}
use Rattle.line.specs.History.{Desk, Transcript, course, table, transcript}
use Rattle.line.specs.PlainLine.{Place, modules}

-- p is one of these
abbrev pub OneOf : ℕ → List ℕ → Type 0
OneOf p [] = ⊥
OneOf p (x ∷ others) = (p ≡ x) ⊎ OneOf p others

-- p is one of these, and q one of those after it
abbrev pub Ahead : ℕ → ℕ → List ℕ → Type 0
Ahead p q [] = ⊥
Ahead p q (x ∷ others) = ((p ≡ x) × OneOf q others) ⊎ Ahead p q others

-- x is a place of the line
abbrev pub InLine : Place → List Place → Type 0
InLine x [] = ⊥
InLine x (y ∷ others) = (x ≡ y) ⊎ InLine x others

-- without p
unfoldable pub without : ℕ → List ℕ → List ℕ
without p [] = []
without p (x ∷ others) = cond (eqb p x) others (x ∷ without p others)

-- An accepted step of a module, with its event, if this is one.
pub data Step : Type 0 where
  stepped : ℕ → Event → Step
  other : Step

unfoldable pub step_in : Call → Reply → Step
step_in c (Err k) = other
step_in (set_up k) (Ok a) = other
step_in (begin_acquisition p r) (Ok a) = other
step_in (begin_release p) (Ok a) = other
step_in (step p) (Ok a) = stepped p a.event
step_in (take_log room) (Ok a) = other

-- Who has joined and not left, in the order of joining; nobody after a new set-up.
unfoldable pub stands : Step → List ℕ → List ℕ
stands other l = l
stands (stepped p Done) l = l
stands (stepped p Waiting) l = l
stands (stepped p (Admitted q)) l = l
stands (stepped p Joined) l = l ++ p ∷ []
stands (stepped p Left) l = without p l
stands (stepped p Finished) l = l
stands (stepped p (Taken k)) l = l
stands (stepped p Nobody) l = l

unfoldable pub unless_set_up : {A : Type 0} → Call → Reply → A → A → A
unless_set_up c (Err k) fresh ongoing = ongoing
unless_set_up (set_up k) (Ok a) fresh ongoing = fresh
unless_set_up (begin_acquisition p r) (Ok a) fresh ongoing = ongoing
unless_set_up (begin_release p) (Ok a) fresh ongoing = ongoing
unless_set_up (step p) (Ok a) fresh ongoing = ongoing
unless_set_up (take_log room) (Ok a) fresh ongoing = ongoing

unfoldable pub standing : Transcript → List ℕ
standing [] = []
standing (x ∷ earlier) = unless_set_up x.0 x.1 [] (stands (step_in x.0 x.1) (standing earlier))

-- the step is p's, and it is p's leave
unfoldable pub steps_now : ℕ → Step → Bool
steps_now p other = false
steps_now p (stepped q e) = eqb q p

unfoldable pub leaves_now : ℕ → Step → Bool
leaves_now p other = false
leaves_now p (stepped q Done) = false
leaves_now p (stepped q Waiting) = false
leaves_now p (stepped q (Admitted r)) = false
leaves_now p (stepped q Joined) = false
leaves_now p (stepped q Left) = eqb q p
leaves_now p (stepped q Finished) = false
leaves_now p (stepped q (Taken j)) = false
leaves_now p (stepped q Nobody) = false

-- p's own steps of its latest release: its leave is the first
unfoldable pub own_steps : ℕ → Transcript → ℕ
own_steps p [] = 0
own_steps p (x ∷ earlier) =
    cond (leaves_now p (step_in x.0 x.1)) 1
    (cond (steps_now p (step_in x.0 x.1)) (own_steps p earlier + 1) (own_steps p earlier))

-- whether there was a successor: somebody was in the line just after p's latest leave
unfoldable pub someone : List Place → Bool
someone [] = false
someone (x ∷ others) = true

unfoldable pub succeeded : ℕ → Transcript → Bool
succeeded p [] = false
succeeded p (x ∷ earlier) =
    cond (leaves_now p (step_in x.0 x.1)) (someone (course (x ∷ earlier)).line) (succeeded p earlier)

-- The corollaries, of a moment with the transcript h and the table t.
pub record Corollaries (h : Transcript) (t : Table) : Type 0 where
  -- no lost module: whoever has joined and not left is found
  pub none_lost : (l : List ℕ) → Found t l → (p : ℕ) → OneOf p (standing h) → OneOf p l
  -- no line but one: what is found is one list, and nobody is in it who has not joined, or has left
  pub one_line : (l l' : List ℕ) → Found t l → Found t l' → l ≡ l'
  pub no_other : (l : List ℕ) → Found t l → (p : ℕ) → OneOf p l → OneOf p (standing h)
  -- whoever becomes first by a leave is the most urgent of those that waited then
  pub most_urgent :
      (earlier : Transcript) (p : ℕ) → h ≡ (step p, Ok (answer_of Left)) ∷ earlier
      → (first : Place) (others : List Place) → (course h).line ≡ first ∷ others
      → (x : Place) → InLine x others → x.priority ≤ first.priority
  -- equals stand in the order of joining; the log names the firsts, so they are admitted in it
  pub equals_in_order :
      (x y : Place) → InLine x (course h).line → InLine y (course h).line → x.priority ≡ y.priority
      → Ahead x.module y.module (standing h) → Ahead x.module y.module (modules (course h).line)
  -- "A release takes 3 own steps with no successor and 5 with one, however other modules' steps fall between"
  pub release_steps :
      (earlier : Transcript) (p : ℕ) → h ≡ (step p, Ok (answer_of Finished)) ∷ earlier
      → own_steps p h ≡ cond (succeeded p earlier) 5 3

-- so it is in every history under demand 3's premise
abbrev pub Relied : (D : Desk) → D.State → ℕ → Type 0
Relied D s m = (cs : List Call) → Premise D s m cs → Corollaries (transcript D s cs) (table D s cs)
