-- How far a release has come, from its begin until the next first is admitted, and what one call does to that. Assumes nothing.
use Prim.Native.Nat.{ℕ, ◌+◌, ◌≤◌}
use mathlib.Core.Path.{◌≡◌}
use mathlib.Core.Bool.{true, false}
use mathlib.Core.List.{List, [], ◌∷◌, ◌++◌}
use mathlib.Core.Logic.{◌⊎◌, ◌≢◌}
use lib.Dec.{T}
use lib.ListN.{length}
use Rattle.laws.proofs.Only.{among}
use Rattle.stage.specs.Answers.{answer_of, Reply}
use Rattle.stage.specs.Calls.{Call}
use Rattle.stage.specs.Table.{Table}
use Rattle.stage.specs.declared.Event.TheVariants.{Admitted}
use Rattle.line.specs.Corollaries.{step_in, steps_now}
use Rattle.line.specs.Demand3.{Premise}
use Rattle.line.specs.History.{Desk, Ongoing, course, state, table, transcript}
use Rattle.line.specs.PlainLine.{Place}
use Rattle.line.proofs.Invariant.{leavers, waiters}
use Rattle.line.proofs.Places.{head}
use Rattle.std.specs.Prelude.{Ok}

-- the stages of those that it needs: about to leave, waiting, leaving
abbrev pub busy : List ℕ
busy = 14 ∷ waiters ++ leavers

-- p is about to leave, and somebody stands behind it
abbrev pub Begun : ℕ → Table → List Place → Type 0
Begun p t l = ((t.private p).stage ≡ 14) × (2 ≤ length l)

-- p has left; x is first, and waits to be freed
pub record Leaves (p x : ℕ) (t : Table) (l : List Place) : Type 0 where
  pub leaver : T (among (t.private p).stage leavers)
  pub waiter : T (among (t.private x).stage waiters)
  pub other : x ≢ p
  pub first : head l ≡ x
  pub some : l ≢ []

-- x is freed, and is not inside yet
pub record Freed (x : ℕ) (t : Table) : Type 0 where
  pub waiter : T (among (t.private x).stage waiters)
  pub freed : (t.shared x).locked ≡ 0

-- What a call that says r does to all that, from the table t and the line l to t' and l'.
pub record Goes (c : Call) (r : Reply) (t : Table) (l : List Place) (t' : Table) (l' : List Place) : Type 0 where
  pub same_n : t'.n ≡ t.n
  pub begun_stays : (p : ℕ) → steps_now p (step_in c r) ≡ false → Begun p t l → Begun p t' l'
  pub begun_steps : (p : ℕ) → steps_now p (step_in c r) ≡ true → Begun p t l → ((t'.private p).stage ≡ 15) × ((x : ℕ) × Leaves p x t' l')
  pub leaves_stays : (p x : ℕ) → steps_now p (step_in c r) ≡ false → Leaves p x t l → ((t'.private p).stage ≡ (t.private p).stage) × Leaves p x t' l'
  pub leaves_steps :
      (p x : ℕ) → steps_now p (step_in c r) ≡ true → Leaves p x t l
      → (((t'.private p).stage ≡ (t.private p).stage + 1) × Leaves p x t' l') ⊎ (((t.private p).stage ≡ 18) × Freed x t')
  pub freed_stays : (x : ℕ) → steps_now x (step_in c r) ≡ false → Freed x t → Freed x t'
  pub freed_steps :
      (x : ℕ) → steps_now x (step_in c r) ≡ true → Freed x t
      → (((t.private x).stage ≡ 11) × Freed x t') ⊎ ((q : ℕ) × (r ≡ Ok (answer_of (Admitted q))))
  -- a waiter stays at its stage until it steps, and is not at 11 then
  pub waiter_stays : (x : ℕ) → steps_now x (step_in c r) ≡ false → T (among (t.private x).stage waiters) → (t'.private x).stage ≡ (t.private x).stage
  pub waiter_steps : (x : ℕ) → steps_now x (step_in c r) ≡ true → T (among (t.private x).stage waiters) → (t'.private x).stage ≢ 11

-- so it is with every call of a history
abbrev pub HandsOn : (D : Desk) → D.State → ℕ → Type 0
HandsOn D s m =
    (c : Call) (cs : List Call) → Ongoing c → Premise D s m (c ∷ cs)
    → Goes c (D.says c (state D s cs)) (table D s cs) (course (transcript D s cs)).line (table D s (c ∷ cs)) (course (transcript D s (c ∷ cs))).line
