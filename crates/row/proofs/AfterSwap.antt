-- What follows a swap, and row 9 by it. Assumes nothing.
use Prim.Native.Nat.{ℕ}
use mathlib.Core.Path.{◌≡◌, refl, sym, ◌∙◌, ap, subst⁻¹}
use mathlib.Core.Bool.{cond}
use lib.Dec.{eqb}
use Rattle.std.specs.Prelude.{Result, Ok, Err}
use Rattle.link.specs.Operations.{CLOSED, swapped, Swapped}
use Rattle.stage.specs.Answers.{answer_of}
use Rattle.stage.specs.Rows.{goes, with_w, leaves, after9, find, rows, stepped}
use Rattle.stage.specs.declared.Event.TheVariants.{Done, Joined}
use Rattle.stage.specs.declared.Private.{Private}
use Rattle.stage.specs.declared.Shared.{Shared}
use Rattle.row.specs.AfterSwap.{Follows}
use Rattle.row.proofs.AtStage.{at_stage}

pub done : (r : Result (Unit {0}) ℕ) (u : Unit {0}) → r ≡ Ok u → Follows r (record { stage = 11; answer = answer_of Joined })
done r u e = subst⁻¹ (λ (x : Result (Unit {0}) ℕ). Follows x (record { stage = 11; answer = answer_of Joined })) e (λ me its lock l. refl)

pub failed : (r : Result (Unit {0}) ℕ) (mark k : ℕ) → r ≡ Err mark → k ≡ cond (eqb mark CLOSED) 1 10 → Follows r (record { stage = k; answer = answer_of Done })
failed r mark k e to =
    subst⁻¹ (λ (x : Result (Unit {0}) ℕ). Follows x (record { stage = k; answer = answer_of Done })) e
    (λ me its lock found same. ap (λ (j : ℕ). leaves (goes j (with_w found me)) its lock Done) (ap (λ (m : ℕ). cond (eqb m CLOSED) 1 10) same ∙ sym to))

-- row 9, by what its swap says
pub by_swap : (bump : ℕ → ℕ) (p : ℕ) (me : Private) (its : Shared) (lock : ℕ) → me.stage ≡ 9 → (s : Swapped) → swapped bump its.link me.w p ≡ s
    → after9 me its lock s ≡ stepped bump p me its lock
unfolding find rows
by_swap bump p me its lock nine s e = at_stage 9 bump p me its lock _ nine (ap (after9 me its lock) (sym e))
