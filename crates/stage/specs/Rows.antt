-- The stage table. Document 01, "The stage table": its rows 1 to 18, in its order and its words; and document 02, R-1: row 19, and where 2 goes.
--
-- A row is given the stepping module's number p and private part `me`, the shared part `its` of the one module that it looks at, and the
-- lock word. It leaves all three, and answers what happened. "What a row doesn't name keeps its value." `bump` is how a count changes.
use Rattle.std.specs.Prelude.{ℕ, cond, List, [], ◌∷◌, eqb, ltb, Ok, Err}
use Rattle.link.specs.Operations.{CLOSED, pointed, opened, closed, Swapped, swapped}
use Rattle.link.specs.declared.Link.{Link}
use Rattle.stage.specs.Answers.{answer_of}
use Rattle.stage.specs.declared.Private.{Private}
use Rattle.stage.specs.declared.Shared.{Shared}
use Rattle.stage.specs.declared.Stepped.{Stepped}
use Rattle.stage.specs.declared.Event.{Event}
use Rattle.stage.specs.declared.Event.TheVariants.{Done, Waiting, Admitted, Joined, Left, Finished}

-- one part changed, the others kept
abbrev pub goes : ℕ → Private → Private
goes k me = record { stage = k; own = me.own; prev = me.prev; w = me.w; s = me.s }

abbrev pub with_own : ℕ → Private → Private
with_own k me = record { stage = me.stage; own = k; prev = me.prev; w = me.w; s = me.s }

abbrev pub with_prev : ℕ → Private → Private
with_prev k me = record { stage = me.stage; own = me.own; prev = k; w = me.w; s = me.s }

abbrev pub with_w : Link → Private → Private
with_w l me = record { stage = me.stage; own = me.own; prev = me.prev; w = l; s = me.s }

abbrev pub with_s : ℕ → Private → Private
with_s k me = record { stage = me.stage; own = me.own; prev = me.prev; w = me.w; s = k }

abbrev pub with_link : Link → Shared → Shared
with_link l its = record { link = l; priority = its.priority; locked = its.locked }

abbrev pub with_priority : ℕ → Shared → Shared
with_priority k its = record { link = its.link; priority = k; locked = its.locked }

abbrev pub with_locked : ℕ → Shared → Shared
with_locked k its = record { link = its.link; priority = its.priority; locked = k }

-- what a row leaves
abbrev pub leaves : Private → Shared → ℕ → Event → Stepped
leaves me its lock e = record { me = me; its = its; lock = lock; answer = answer_of e }

-- whose shared part a row looks at: the stepping module's own, prev's, that of w's pointer, or that of s
pub data Looks : Type 0 where
  itself : Looks
  prev's : Looks
  w's : Looks
  s's : Looks

abbrev pub looked : Looks → ℕ → Private → ℕ
looked itself p me = p
looked prev's p me = me.prev
looked w's p me = me.w.pointer
looked s's p me = me.s

abbrev pub Row : Type 0
Row = (ℕ → ℕ) → ℕ → Private → Shared → ℕ → Stepped

-- 1: own link's pointer := nil, mark stays; 2
abbrev pub row1 : Row
row1 bump p me its lock = leaves (goes 2 me) (with_link (pointed bump its.link 0) its) lock Done

-- 2: lock word 0: it becomes this module; 19. R-1: "A new stage 19 follows a success at stage 2"
--    else prev := lock word; 4
abbrev pub row2 : Row
row2 bump p me its lock =
    cond (eqb lock 0)
    (leaves (goes 19 me) its p Joined)
    (leaves (goes 4 (with_prev lock me)) its lock Done)

-- 3: open own link, log admission; 13
abbrev pub row3 : Row
row3 bump p me its lock = leaves (goes 13 me) (with_link (opened bump its.link) its) lock (Admitted p)

-- 4: own Locked := 1; 5
abbrev pub row4 : Row
row4 bump p me its lock = leaves (goes 5 me) (with_locked 1 its) lock Done

-- 5: w := prev's link. Closed; 1
--    open; 6
abbrev pub row5 : Row
row5 bump p me its lock = leaves (goes (cond (eqb its.link.mark CLOSED) 1 6) (with_w its.link me)) its lock Done

-- 6: prev's record priority below own; 1
--    else w's pointer nil; 8
--    else; 7
abbrev pub row6 : Row
row6 bump p me its lock =
    leaves (goes (cond (ltb its.priority me.own) 1 (cond (eqb me.w.pointer 0) 8 7)) me) its lock Done

-- 7: record priority of w's pointer below own; 8
--    else prev := w's pointer; 5
abbrev pub row7 : Row
row7 bump p me its lock =
    cond (ltb its.priority me.own)
    (leaves (goes 8 me) its lock Done)
    (leaves (goes 5 (with_prev me.w.pointer me)) its lock Done)

-- 8: own link's pointer := w's pointer, mark stays; 9
abbrev pub row8 : Row
row8 bump p me its lock = leaves (goes 9 me) (with_link (pointed bump its.link me.w.pointer) its) lock Done

-- 9: swap prev's link, expecting w, to this module; 11
--    failed: w := found. Closed; 1
--    failed and open; 10
abbrev pub after9 : Private → Shared → ℕ → Swapped → Stepped
after9 me its lock (Ok l) = leaves (goes 11 me) (with_link l its) lock Joined
after9 me its lock (Err found) = leaves (goes (cond (eqb found.mark CLOSED) 1 10) (with_w found me)) its lock Done

abbrev pub row9 : Row
row9 bump p me its lock = after9 me its lock (swapped bump its.link me.w p)

-- 10: prev's record priority below own; 1
--     else; 5
abbrev pub row10 : Row
row10 bump p me its lock = leaves (goes (cond (ltb its.priority me.own) 1 5) me) its lock Done

-- 11: open own link; 12
abbrev pub row11 : Row
row11 bump p me its lock = leaves (goes 12 me) (with_link (opened bump its.link) its) lock Done

-- 12: own Locked is 1: nothing changes; 12
--     is 0: log admission; 13
abbrev pub row12 : Row
row12 bump p me its lock = cond (eqb its.locked 0) (leaves (goes 13 me) its lock (Admitted p)) (leaves me its lock Waiting)

-- 14: close own link; 15
abbrev pub row14 : Row
row14 bump p me its lock = leaves (goes 15 me) (with_link (closed bump its.link) its) lock Left

-- 15: s := own link's pointer; 16
abbrev pub row15 : Row
row15 bump p me its lock = leaves (goes 16 (with_s its.link.pointer me)) its lock Done

-- 16: lock word := s. If s is nil, own priority := 0; 0
--     else; 17
abbrev pub row16 : Row
row16 bump p me its lock =
    cond (eqb me.s 0)
    (leaves (goes 0 (with_own 0 me)) its me.s Finished)
    (leaves (goes 17 me) its me.s Done)

-- 17: record priority of s := 255; 18
abbrev pub row17 : Row
row17 bump p me its lock = leaves (goes 18 me) (with_priority 255 its) lock Done

-- 18: Locked of s := 0; own priority := 0; 0
abbrev pub row18 : Row
row18 bump p me its lock = leaves (goes 0 (with_own 0 me)) (with_locked 0 its) lock Finished

-- 19: R-1: "own record priority := 255, then stage 3"
abbrev pub row19 : Row
row19 bump p me its lock = leaves (goes 3 me) (with_priority 255 its) lock Done

-- 0: idle, no step. 13: inside, no step. A call there is refused; nothing changes.
abbrev pub no_step_row : Row
no_step_row bump p me its lock = leaves me its lock Done

-- the table: each stage's number, whose shared part its row looks at (the rows on the lock word, and on nothing, look at no other's), and its row
pub record Entry : Type 0 where
  pub number : ℕ
  pub looks : Looks
  pub row : Row

abbrev pub at : ℕ → Looks → Row → Entry
at k looks row = record { number = k; looks = looks; row = row }

unfoldable pub rows : List Entry
rows =
    at 1 itself row1
    ∷ at 2 itself row2
    ∷ at 3 itself row3
    ∷ at 4 itself row4
    ∷ at 5 prev's row5
    ∷ at 6 prev's row6
    ∷ at 7 w's row7
    ∷ at 8 itself row8
    ∷ at 9 prev's row9
    ∷ at 10 prev's row10
    ∷ at 11 itself row11
    ∷ at 12 itself row12
    ∷ at 14 itself row14
    ∷ at 15 itself row15
    ∷ at 16 itself row16
    ∷ at 17 s's row17
    ∷ at 18 s's row18
    ∷ at 19 itself row19
    ∷ []

-- stages are numbered from 0 to this
abbrev pub last : ℕ
last = 19

-- the entry of a stage; stages 0 and 13, and numbers that are no stage, have none
unfoldable pub find : List Entry → ℕ → Entry
find [] k = at k itself no_step_row
find (e ∷ others) k = cond (eqb k e.number) e (find others k)

-- whose shared part the module p with the private part `me` looks at in its step
unfoldable pub looks_at : ℕ → Private → ℕ
looks_at p me = looked (find rows me.stage).looks p me

-- the step
unfoldable pub stepped : Row
stepped bump p me its lock = (find rows me.stage).row bump p me its lock
