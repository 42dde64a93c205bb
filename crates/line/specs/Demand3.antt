-- Demand 3 of the minutes, item 4, of a history of calls on a desk; document 01 has its words "found from the lock word", "inside" and "the log".
use Rattle.std.specs.Prelude.{ℕ, ◌+◌, ◌<◌, ◌≡◌, Bool, false, cond, ◌&&◌, ◌||◌, List, [], ◌∷◌, ◌++◌, ◌⊎◌, ◌≢◌, eqb}
use Rattle.link.specs.Operations.{same}
use Rattle.stage.specs.Calls.{Call, set_up, begin_acquisition, begin_release, step, take_log}
use Rattle.stage.specs.Table.{Table}
use Rattle.line.specs.PlainLine.{modules}
use Rattle.line.specs.History.{Desk, Course, course, table, transcript, taken}

-- The premise: "where no link changes 65,536 times or more between one module's reading of it and its swap".

-- how often the link of x was changed by a call, with the table before it and after it: once, or not at all
unfoldable pub changed : Table → Table → ℕ → ℕ
changed t t' x = cond (same (t.shared x).link (t'.shared x).link) 0 1

-- the call is p's reading of prev's link, on the table t: its step at stage 5
unfoldable pub reads : ℕ → Call → Table → Bool
reads p (set_up k) t = false
reads p (begin_acquisition q r) t = false
reads p (begin_release q) t = false
reads p (step q) t = eqb q p && eqb (t.private p).stage 5
reads p (take_log room) t = false

module _ (D : Desk) (s : D.State) where
  -- how often the link of x was changed after p's latest reading
  unfoldable pub changes_since : ℕ → ℕ → List Call → ℕ
  changes_since p x [] = 0
  changes_since p x (c ∷ earlier) =
      cond (reads p c (table D s earlier)) 0
      (changes_since p x earlier + changed (table D s earlier) (table D s (c ∷ earlier)) x)

  -- a step of p at stage 9 is a swap of prev's link: fewer than m changes of it came after p's reading
  unfoldable pub InTime : ℕ → Call → List Call → Type 0
  InTime m (set_up k) earlier = Unit {0}
  InTime m (begin_acquisition p r) earlier = Unit {0}
  InTime m (begin_release p) earlier = Unit {0}
  InTime m (step p) earlier =
      ((table D s earlier).private p).stage ≡ 9 → changes_since p ((table D s earlier).private p).prev earlier < m
  InTime m (take_log room) earlier = Unit {0}

  -- so it is at every swap of the history
  unfoldable pub Premise : ℕ → List Call → Type 0
  Premise m [] = Unit {0}
  Premise m (c ∷ earlier) = InTime m c earlier × Premise m earlier

-- "Found from the lock word means: follow link pointers from the lock word to nil": from q, link pointers lead through just these modules and then to nil
unfoldable pub Leads : Table → ℕ → List ℕ → Type 0
Leads t q [] = q ≡ 0
Leads t q (x ∷ others) = (q ≡ x) × (x ≢ 0) × Leads t (t.shared x).link.pointer others

-- "and leave off the first record if its module is at stage 15 or 16"
unfoldable pub left_off : Table → List ℕ → List ℕ
left_off t [] = []
left_off t (x ∷ others) = cond (eqb (t.private x).stage 15 || eqb (t.private x).stage 16) others (x ∷ others)

abbrev pub Found : Table → List ℕ → Type 0
Found t l = (met : List ℕ) × Leads t t.lock met × (left_off t met ≡ l)

-- "Inside means stage 13 or 14."
abbrev pub Inside : Table → ℕ → Type 0
Inside t p = ((t.private p).stage ≡ 13) ⊎ ((t.private p).stage ≡ 14)

-- the entries are the firsts in order, "lacking at most the latest"
abbrev pub Names : List ℕ → List ℕ → Type 0
Names entries firsts = (entries ≡ firsts) ⊎ ((latest : ℕ) × (entries ++ latest ∷ [] ≡ firsts))

-- What demand 3 says of a moment: of the table, of what was made of the history up to then, and of the entries taken.
pub record Holds (t : Table) (o : Course) (taken : List ℕ) : Type 0 where
  -- "the records found from the lock word are that line"
  pub found : Found t (modules o.line)
  -- "at most one module is inside and it is the line's first"
  pub alone : (p q : ℕ) → Inside t p → Inside t q → p ≡ q
  pub first : (p : ℕ) → Inside t p → (others : List ℕ) × (modules o.line ≡ p ∷ others)
  -- "the log of admissions names the firsts in order, lacking at most the latest": "all that was ever taken, then what is held"
  pub log : Names (taken ++ t.log) o.firsts

-- Demand 3 of every history from the state s, where counts run from 0 to m - 1. "At every moment": a history's earlier moments are those of the
-- histories that it continues.
abbrev pub Demand3 : (D : Desk) → D.State → ℕ → Type 0
Demand3 D s m = (cs : List Call) → Premise D s m cs → Holds (table D s cs) (course (transcript D s cs)) (taken D s cs)
