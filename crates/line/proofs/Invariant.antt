-- What holds of the machine whose counts never wrap, after every history. `l` is the plain line, `g` the priorities given, `h` who holds the lock or is
-- handing it on; h is stale where nobody does. Stages are told apart by their numbers: `only (among k ..) X` claims X at those stages.
-- Assumes nothing.
use Prim.Native.Nat.{ℕ, ◌≤◌, ◌<◌}
use mathlib.Core.Path.{◌≡◌}
use mathlib.Core.List.{List, [], ◌∷◌, ◌++◌}
use mathlib.Core.Logic.{◌⊎◌, ◌≢◌}
use Rattle.laws.proofs.Only.{only, among}
use Rattle.link.specs.Operations.{OPEN}
use Rattle.link.specs.declared.Link.{Link}
use Rattle.stage.specs.Rows.{last}
use Rattle.stage.specs.declared.Private.{Private}
use Rattle.stage.specs.declared.Shared.{Shared}
use Rattle.line.specs.PlainLine.{Place}
use Rattle.line.proofs.Places.{In, All, Distinct, Sorted, head, behind, Chain}

-- Every stage but 0, which is idle, is one of these. Seeking, with the given priority in the record:
abbrev pub seekers : List ℕ
seekers = 1 ∷ 2 ∷ 4 ∷ 5 ∷ 6 ∷ 7 ∷ 8 ∷ 9 ∷ 10 ∷ []

-- in the line, not inside yet
abbrev pub waiters : List ℕ
waiters = 11 ∷ 12 ∷ []

-- the line's first: from taking the lock free, or admission, to its leave
abbrev pub leaders : List ℕ
leaders = 19 ∷ 3 ∷ 13 ∷ 14 ∷ []

-- a release after its leave
abbrev pub leavers : List ℕ
leavers = 15 ∷ 16 ∷ 17 ∷ 18 ∷ []

-- away from the line: idle or seeking
abbrev pub outs : List ℕ
outs = 0 ∷ seekers

-- the holder's alone
abbrev pub holders : List ℕ
holders = leaders ++ leavers

-- in the line
abbrev pub members : List ℕ
members = leaders ++ waiters

-- seeking nothing
abbrev pub settled : List ℕ
settled = 0 ∷ holders ++ waiters

-- how a module q at stage k, its Locked as given, stands to the line
pub record Stands (l : List Place) (h q k locked : ℕ) : Type 0 where
  pub known : k ≤ last
  pub out : only (among k outs) (In q l → ⊥)
  pub waits : only (among k waiters) (In q l × (((q ≡ h) × (locked ≡ 0)) ⊎ ((q ≢ h) × (locked ≡ 1))))
  pub holds : only (among k holders) (q ≡ h)

-- what a link that was read says of the link as it is: its count has not fallen, and where it is the same nothing has changed
abbrev pub Read : Link → Link → Type 0
Read w l = (w.mark ≡ OPEN) × (w.count ≤ l.count) × (l.count ≡ w.count → l ≡ w)

-- what a seeker has tested of prev's priority, and of the next one's, holds while prev's link is as it was read
abbrev pub Above : (ℕ → Shared) → Private → Type 0
Above sh me = (sh me.prev).link ≡ me.w → me.own ≤ (sh me.prev).priority

abbrev pub Below : (ℕ → Shared) → Private → Type 0
Below sh me = (sh me.prev).link ≡ me.w → (me.w.pointer ≡ 0) ⊎ ((sh me.w.pointer).priority < me.own)

-- what a module with the private part `me` at stage k has read and tested
abbrev pub Knows : (ℕ → Shared) → ℕ → Private → Type 0
Knows sh k me =
    only (among k (6 ∷ 7 ∷ 8 ∷ 9 ∷ []))
    (Read me.w (sh me.prev).link × only (among k (7 ∷ 8 ∷ 9 ∷ [])) (Above sh me) × only (among k (8 ∷ 9 ∷ [])) (Below sh me))

-- what a seeker q at stage k has in its own parts, and what it knows of others'
pub record Seeks (g : ℕ → ℕ) (sh : ℕ → Shared) (q k : ℕ) (me : Private) (its : Shared) : Type 0 where
  pub given : only (among k seekers) ((its.priority ≡ me.own) × (me.own ≡ g q))
  pub nil : only (among k (2 ∷ [])) (its.link.pointer ≡ 0)
  pub locked : only (among k (5 ∷ 6 ∷ 7 ∷ 8 ∷ 9 ∷ 10 ∷ [])) (its.locked ≡ 1)
  pub copied : only (among k (9 ∷ [])) (its.link.pointer ≡ me.w.pointer)
  pub knows : Knows sh k me

-- what the holder's stage k says of the lock word and the line
pub record Holder (h k : ℕ) (me : Private) (its : Shared) (lock : ℕ) (l : List Place) : Type 0 where
  pub free : only (among k outs) ((l ≡ []) × (lock ≡ 0))
  pub first : only (among k members) ((lock ≡ h) × (l ≢ []) × (head l ≡ h))
  pub away : only (among k leavers) (In h l → ⊥)
  pub closing : only (among k (15 ∷ 16 ∷ [])) ((lock ≡ h) × (its.link.pointer ≡ head l))
  pub next : only (among k (16 ∷ [])) (me.s ≡ head l)
  pub handing : only (among k (17 ∷ 18 ∷ [])) ((lock ≡ head l) × (me.s ≡ head l) × (l ≢ []))

-- the record's priority is the one the place was given
abbrev pub Urgent : (ℕ → Shared) → Place → Type 0
Urgent sh x = (sh x.module).priority ≡ x.priority

pub record Inv (g : ℕ → ℕ) (private : ℕ → Private) (sh : ℕ → Shared) (lock : ℕ) (l : List Place) (h : ℕ) : Type 0 where
  pub stands : (q : ℕ) → Stands l h q (private q).stage (sh q).locked
  pub seeks : (q : ℕ) → Seeks g sh q (private q).stage (private q) (sh q)
  pub holder : Holder h (private h).stage (private h) (sh h) lock l
  pub nobody : (private 0).stage ≡ 0
  pub distinct : Distinct l
  pub chain : Chain (λ q. (sh q).link.pointer) l
  pub sorted : Sorted (behind l)
  pub urgent : All (Urgent sh) (behind l)
  pub opens : (q : ℕ) → (sh q).link.mark ≡ OPEN → In q l
  pub marks : (q : ℕ) → (sh q).link.mark ≤ 1
  pub bytes : (q : ℕ) → (sh q).priority ≤ 255
