-- What a step says, by the number of its answer. Assumes nothing.
use Prim.Native.Nat.{ℕ}
use mathlib.Core.Path.{◌≡◌, refl, sym, ◌∙◌, ap, subst, subst⁻¹}
use mathlib.Core.Bool.{Bool, true, false, ◌&&◌}
use mathlib.Core.List.{List}
use lib.Dec.{leb}
use Rattle.std.specs.Prelude.{Ok, Err}
use Rattle.link.specs.Count.{next, size}
use Rattle.stage.specs.Answers.{answer_of}
use Rattle.stage.specs.Calls.{step, rests, admits, capacity}
use Rattle.stage.specs.Rows.{looks_at}
use Rattle.stage.specs.Table.{step_of, after_step}
use Rattle.stage.specs.declared.Answer.{Answer}
use Rattle.stage.specs.declared.Event.{Event}
use Rattle.stage.specs.declared.Event.TheVariants.{Done, Waiting, Admitted, Joined, Left, Finished, Taken, Nobody}
use Rattle.stage.specs.declared.Refusal.TheVariants.{LogFull}
use Rattle.stage.specs.declared.Stepped.{Stepped}
use Rattle.stage.proofs.Events.{Of, agrees}
use Rattle.layout.specs.Layout.{read, put}
use Rattle.image.specs.Call.{Does}
use Rattle.image.specs.Inside.{IsNumber, Looks, numbered, Says}
use Rattle.image.specs.declared.Module.{Module}
use Rattle.image.specs.declared.Looked.{Looked}
use Rattle.image.proofs.Named.{full, steps, overfull_is}
use Rattle.image.proofs.Sound.{table}

-- the number of an answer, read back: every event of a step
by_number : (p : ℕ) (e : Event) → Of p e → numbered p (answer_of e).number ≡ answer_of e
unfolding numbered
by_number p Done o = refl
by_number p Waiting o = refl
by_number p (Admitted q) o = ap (λ (j : ℕ). answer_of (Admitted j)) (sym o)
by_number p Joined o = refl
by_number p Left o = refl
by_number p Finished o = refl
by_number p (Taken k) o = absurd o
by_number p Nobody o = absurd o

pub answer_said : (b : List ℕ) (p : ℕ) → IsNumber b p → (a : Answer) → a ≡ (step_of (next size) (read b) p).answer → numbered p a.number ≡ a
unfolding step_of read
answer_said b p is a e =
    let t = read b in
    let says = agrees (next size) p (t.private p) (t.shared (looks_at p (t.private p))) t.lock ((table b is.0).private p is.1 is.2).stage in
    subst⁻¹ (λ (x : Answer). numbered p x.number ≡ x) (e ∙ says.number) (by_number p (step_of (next size) t p).answer.event says.itself)

-- a step of p, by the number of the answer that it gives
pub by_answer : (p : ℕ) (b : List ℕ) {a a' : Answer} {b' : List ℕ} → a ≡ a' → Does (step p) b (Ok a') b' → Does (step p) b (Ok a) b'
by_answer p b {b' = b'} e = subst⁻¹ (λ (x : Answer). Does (step p) b (Ok x) b') e

-- a row by value, of a module that was found for p
module _ (b : List ℕ) (m : Module) (l : Looked) (looks : Looks b m l) where
  abbrev asks : Bool
  asks = admits l.stepped.answer.event && leb capacity m.frame.held

  is_number : IsNumber b m.number
  is_number = (looks.is.framed.is, looks.is.least, looks.is.most)

  pub row_full : (p : ℕ) → m.number ≡ p → rests (read b) p ≡ false → asks ≡ true → Says p b (Err LogFull) b
  row_full p same moves e =
      subst (λ (j : ℕ). Does (step j) b (Err LogFull) b) same (full b m.number is_number (ap (rests (read b)) same ∙ moves) (overfull_is b m l looks ∙ e))

  pub row_steps : (p : ℕ) {b' : List ℕ} → m.number ≡ p → rests (read b) p ≡ false → asks ≡ false → b' ≡ put (after_step (next size) (read b) m.number) b → Says p b (Ok l.stepped.answer.number) b'
  row_steps p {b'} same moves e put_is =
      let says : l.stepped.answer ≡ (step_of (next size) (read b) m.number).answer = ap (λ (x : Stepped). x.answer) looks.stepped_is in
      subst (λ (j : ℕ). Says j b (Ok l.stepped.answer.number) b') same
      (by_answer m.number b (answer_said b m.number is_number l.stepped.answer says)
      (steps b m.number is_number (ap (rests (read b)) same ∙ moves) l.stepped.answer (overfull_is b m l looks ∙ e) says put_is))
