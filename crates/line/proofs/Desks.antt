-- What a call by a desk of today or of before R-1 comes to: a refusal, what an accepted call leaves, or that with a module taken from 19 to 3.
-- Assumes nothing.
use Prim.Native.Nat.{ℕ}
use mathlib.Core.Path.{◌≡◌}
use mathlib.Core.Bool.{Bool, ◌&&◌}
use lib.Dec.{eqb}
use borrow.Author.Tests.{eqb-true}
use Rattle.laws.proofs.Cases.{choose, both_hold}
use Rattle.stage.proofs.Refusing.{Unrefused, refused_or}
use Rattle.stage.specs.Calls.{Call, set_up, begin_acquisition, begin_release, step, take_log, refusals, answered, after, called}
use Rattle.stage.specs.Table.{Table}
use Rattle.line.specs.History.{Desk}
use Rattle.line.specs.Mixed.{unraised, left_before, sound_before, called_by, mixed}
use Rattle.stage.specs.Answers.{Reply}
use Rattle.std.specs.Prelude.{Ok, Err}
use Rattle.stage.specs.declared.Refusal.{Refusal}
use Rattle.stage.specs.declared.Refusal.TheVariants.{Unsound}

-- The machine as a desk: `bump` is how a link's count changes, `fits k` whether there is room for k modules.
abbrev pub machine : (ℕ → ℕ) → (ℕ → Bool) → Desk
machine bump fits =
    record { State = Table; says = λ c t. (called bump fits c t).0; leaves = λ c t. (called bump fits c t).1; shows = λ t. t }

-- desks of both kinds on one table
abbrev pub called_table : Bool → (ℕ → ℕ) → (ℕ → Bool) → Call → Table → Reply × Table
called_table before bump fits = called_by before (machine bump fits) (λ t s. t)

abbrev pub mixed_tables : (ℕ → Bool) → (ℕ → ℕ) → (ℕ → Bool) → Desk
mixed_tables before bump fits = mixed before (machine bump fits) (λ t s. t)

-- what a desk of before R-1 leaves is what is left today, or that with a module taken from 19 to 3
pub left_or : (P : Table → Type 0) (c : Call) (t t' : Table) → P t' → ((p : ℕ) → (t'.private p).stage ≡ 19 → P (unraised p t')) → P (left_before c t t')
unfolding left_before
left_or P (set_up k) t t' today on = today
left_or P (begin_acquisition p r) t t' today on = today
left_or P (begin_release p) t t' today on = today
left_or P (step p) t t' today on =
    choose P (eqb (t.private p).stage 2 && eqb (t'.private p).stage 19)
    (λ e. on p (eqb-true (t'.private p).stage 19 (both_hold (eqb (t.private p).stage 2) _ e).1)) (λ _. today)
left_or P (take_log room) t t' today on = today

module _ (bump : ℕ → ℕ) (fits : ℕ → Bool) (c : Call) (t : Table) (P : Reply × Table → Type 0)
    (refused : (k : Refusal) → P (Err k, t))
    (accepted : Unrefused (refusals bump fits c t) → P (Ok (answered bump c t), after bump c t)) where
  today : P (called bump fits c t)
  unfolding called
  today = refused_or P (refusals bump fits c t) _ _ refused accepted

  -- what is so where p is at 19 is so where it is at 3
  pub by_desk : ((p : ℕ) (r : Reply) (t' : Table) → (t'.private p).stage ≡ 19 → P (r, t') → P (r, unraised p t')) → (before : Bool) → P (called_table before bump fits c t)
  unfolding called_by
  by_desk on before =
      let r = called bump fits c t in
      choose P before
      (λ _. choose P (sound_before c t) (λ _. left_or (λ (z : Table). P (r.0, z)) c t r.1 today (λ p e. on p r.0 r.1 e today)) (λ _. refused Unsound))
      (λ _. today)
