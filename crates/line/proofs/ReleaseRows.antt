-- What no row does to a release: nobody leaves the line but at stage 14, and nobody takes back another's Locked of 0. Assumes nothing.
use Prim.Native.Nat.{ℕ, suc, ◌≤◌}
use mathlib.Core.Path.{◌≡◌, refl, ap, subst⁻¹}
use mathlib.Core.List.{List, [], ◌∷◌}
use mathlib.Core.Logic.{◌≢◌, ◌⊎◌, inl, inr}
use lib.Dec.{T, eqb, ltb}
use lib.ListN.{length}
use borrow.Author.Tests.{eqb-true}
use native.Mathlib.Nat.{le_refl}
use native.Mathlib.Omega.{arith}
use Rattle.laws.proofs.Cases.{choose}
use Rattle.laws.proofs.Only.{among, one_of}
use Rattle.link.specs.Operations.{same, swapped, Swapped}
use Rattle.stage.proofs.ByStage.{by_stage}
use Rattle.stage.specs.Rows.{find, rows, looked, looks_at, stepped, after9, last}
use Rattle.stage.specs.declared.Private.{Private}
use Rattle.stage.specs.declared.Shared.{Shared}
use Rattle.stage.specs.declared.Stepped.{Stepped}
use Rattle.line.specs.History.{Course, stepping}
use Rattle.line.specs.PlainLine.{Place, stand, join}
use Rattle.line.proofs.Places.{head, standing}

-- what holds of each of these numbers holds of whatever is among them
abbrev pub Each : (ℕ → Type 0) → List ℕ → Type 0
Each P [] = Unit {0}
Each P (j ∷ js) = P j × Each P js

pub among_each : (P : ℕ → Type 0) (js : List ℕ) → Each P js → (k : ℕ) → T (among k js) → P k
among_each P [] all k t = elim t [ ]
among_each P (j ∷ js) all k t =
    one_of (eqb k j) (among k js) (λ e. subst⁻¹ P (eqb-true k j e) all.0) (λ rest. among_each P js all.1 k rest) t

-- nobody leaves: the line is not shorter, and its first stays
abbrev pub Grows : List Place → List Place → Type 0
Grows l l' = (length l ≤ length l') × (l ≢ [] → (head l' ≡ head l) × (l' ≢ []))

same_line : (l : List Place) → Grows l l
same_line l = (le_refl (length l), λ some. (refl, some))

length_stand : (x : Place) (l : List Place) → length l ≤ length (stand x l)
length_stand x = standing x (λ l m. length l ≤ length m) (omega arith) (λ y l h ih. omega (arith, ih)) (λ y l h. omega arith)

join_grows : (x : Place) (l : List Place) → Grows l (join x l)
unfolding join
join_grows x [] = (omega arith, λ some. absurd (some refl))
join_grows x (y ∷ l) = (omega (arith, length_stand x l), λ some. (refl, λ e. omega (arith, ap length e)))

-- A row, whoever steps: nobody leaves but at stage 14, and a Locked of 0 stays but where it is the stepping module's own.
module _ (o : Course) (p : ℕ) (me : Private) (its : Shared) (lock : ℕ) where
  abbrev pub Mild : ℕ → ℕ → Stepped → Type 0
  Mild k x r =
      ((k ≡ 14) ⊎ Grows o.line (stepping p r.answer.event o).line) × (its.locked ≡ 0 → (r.its.locked ≡ 0) ⊎ (x ≡ p))

  pub mild : me.stage ≤ last → Mild me.stage (looks_at p me) (stepped suc p me its lock)
  unfolding looks_at stepped find rows swapped stepping
  mild =
      by_stage (λ k. Mild k (looked (find rows k).looks p me) ((find rows k).row suc p me its lock))
      calm
      calm
      (choose (Mild 2 p) (eqb lock 0) (λ _. (inr (join_grows _ o.line), inl)) (λ _. calm))
      calm
      (inr (same_line o.line), λ _. inr refl)
      calm
      calm
      (choose (Mild 7 me.w.pointer) (ltb its.priority me.own) (λ _. calm) (λ _. calm))
      calm
      (choose (λ (r : Swapped). Mild 9 me.prev (after9 me its lock r)) (same its.link me.w) (λ _. (inr (join_grows _ o.line), inl)) (λ _. calm))
      calm
      calm
      (choose (Mild 12 p) (eqb its.locked 0) (λ _. calm) (λ _. calm))
      calm
      (inl refl, inl)
      calm
      (choose (Mild 16 p) (eqb me.s 0) (λ _. calm) (λ _. calm))
      calm
      (inr (same_line o.line), λ _. inl refl)
      calm
      me.stage
    where
      calm : {A B C : Type 0} → (A ⊎ Grows o.line o.line) × (B → B ⊎ C)
      calm = (inr (same_line o.line), inl)
