-- Which events admit, by the module that is admitted. Assumes nothing.
use mathlib.Core.Path.{◌≡◌, refl, sym, ◌∙◌, ap, subst}
use mathlib.Core.Bool.{Bool, false, false≢true, ◌&&◌}
use Prim.Native.Nat.{ℕ, ◌<◌}
use borrow.Author.Tests.{leb-false}
use lib.Dec.{leb}
use Rattle.std.specs.Prelude.{Option, Some, None, is_some, unwrap_or}
use Rattle.stage.specs.Answers.{admission}
use Rattle.stage.specs.Calls.{admits, capacity}
use Rattle.stage.specs.declared.Event.{Event}
use Rattle.stage.specs.declared.Event.TheVariants.{Done, Waiting, Admitted, Joined, Left, Finished, Taken, Nobody}

pub admits_is : (e : Event) → admits e ≡ is_some (admission e)
admits_is Done = refl
admits_is Waiting = refl
admits_is (Admitted p) = refl
admits_is Joined = refl
admits_is Left = refl
admits_is Finished = refl
admits_is (Taken k) = refl
admits_is Nobody = refl

pub is_admitted : (e : Event) (k : ℕ) → admission e ≡ Some k → e ≡ Admitted k
is_admitted Done k some = absurd (false≢true (ap is_some some))
is_admitted Waiting k some = absurd (false≢true (ap is_some some))
is_admitted (Admitted p) k some = ap (λ (o : Option ℕ). Admitted (unwrap_or o 0)) some
is_admitted Joined k some = absurd (false≢true (ap is_some some))
is_admitted Left k some = absurd (false≢true (ap is_some some))
is_admitted Finished k some = absurd (false≢true (ap is_some some))
is_admitted (Taken j) k some = absurd (false≢true (ap is_some some))
is_admitted Nobody k some = absurd (false≢true (ap is_some some))

-- a step that admits is let pass where the log has room
pub room_for : (e : Event) (k held : ℕ) → admission e ≡ Some k → (admits e && leb capacity held) ≡ false → held < capacity
room_for e k held some passed = leb-false capacity held (subst (λ (t : Bool). (t && leb capacity held) ≡ false) (admits_is e ∙ ap is_some some) passed)
