-- The answer of a step: its number is that of its event, whoever is admitted is the module that steps, and no log is taken. Assumes nothing.
use Prim.Native.Nat.{ℕ, ◌≤◌}
use mathlib.Core.Path.{◌≡◌, refl}
use lib.Dec.{eqb, ltb}
use Rattle.laws.proofs.Cases.{choose}
use Rattle.link.specs.Operations.{same, swapped, Swapped}
use Rattle.stage.specs.Answers.{answer_of}
use Rattle.stage.specs.Rows.{leaves, find, rows, stepped, after9, last}
use Rattle.stage.specs.declared.Event.{Event}
use Rattle.stage.specs.declared.Event.TheVariants.{Done, Waiting, Admitted, Joined, Left, Finished, Taken, Nobody}
use Rattle.stage.specs.declared.Private.{Private}
use Rattle.stage.specs.declared.Shared.{Shared}
use Rattle.stage.specs.declared.Stepped.{Stepped}
use Rattle.stage.proofs.ByStage.{by_stage}

-- an admission is p's, and no step takes the log
abbrev pub Of : ℕ → Event → Type 0
Of p Done = Unit {0}
Of p Waiting = Unit {0}
Of p (Admitted q) = q ≡ p
Of p Joined = Unit {0}
Of p Left = Unit {0}
Of p Finished = Unit {0}
Of p (Taken k) = ⊥
Of p Nobody = ⊥

-- number and event agree, and the event is one of a step of p
pub record Agrees (p : ℕ) (r : Stepped) : Type 0 where
  pub number : r.answer ≡ answer_of r.answer.event
  pub itself : Of p r.answer.event

module _ (bump : ℕ → ℕ) (p : ℕ) (me : Private) (its : Shared) (lock : ℕ) where
  says : (me' : Private) (its' : Shared) (lock' : ℕ) (e : Event) → Of p e → Agrees p (leaves me' its' lock' e)
  says me' its' lock' e z = record { number = refl; itself = z }

  pub agrees : me.stage ≤ last → Agrees p (stepped bump p me its lock)
  unfolding stepped find rows swapped
  agrees known =
      by_stage (λ k. Agrees p ((find rows k).row bump p me its lock))
      (says _ _ _ Done tt)
      (says _ _ _ Done tt)
      (choose (Agrees p) (eqb lock 0) (λ _. says _ _ _ Joined tt) (λ _. says _ _ _ Done tt))
      (says _ _ _ (Admitted p) refl)
      (says _ _ _ Done tt)
      (says _ _ _ Done tt)
      (says _ _ _ Done tt)
      (choose (Agrees p) (ltb its.priority me.own) (λ _. says _ _ _ Done tt) (λ _. says _ _ _ Done tt))
      (says _ _ _ Done tt)
      (choose (λ (r : Swapped). Agrees p (after9 me its lock r)) (same its.link me.w) (λ _. says _ _ _ Joined tt) (λ _. says _ _ _ Done tt))
      (says _ _ _ Done tt)
      (says _ _ _ Done tt)
      (choose (Agrees p) (eqb its.locked 0) (λ _. says _ _ _ (Admitted p) refl) (λ _. says _ _ _ Waiting tt))
      (says _ _ _ Done tt)
      (says _ _ _ Left tt)
      (says _ _ _ Done tt)
      (choose (Agrees p) (eqb me.s 0) (λ _. says _ _ _ Finished tt) (λ _. says _ _ _ Done tt))
      (says _ _ _ Done tt)
      (says _ _ _ Finished tt)
      (says _ _ _ Done tt)
      me.stage known
