-- What the invariant asks at a stage of each kind. Assumes nothing.
use Prim.Native.Nat.{ℕ, ◌≤◌}
use mathlib.Core.Path.{◌≡◌}
use mathlib.Core.List.{List, [], ◌∷◌}
use mathlib.Core.Logic.{◌≢◌}
use lib.Dec.{T}
use Rattle.laws.proofs.Only.{among, disjoint}
use Rattle.stage.specs.Rows.{last}
use Rattle.stage.specs.declared.Private.{Private}
use Rattle.stage.specs.declared.Shared.{Shared}
use Rattle.line.specs.PlainLine.{Place}
use Rattle.line.proofs.Invariant.{Stands, Holder, outs, waiters, holders, leavers, members}
use Rattle.line.proofs.Places.{In, head}

pub out_stands : (l : List Place) (h q k locked : ℕ) → k ≤ last → T (among k outs) → (In q l → ⊥) → Stands l h q k locked
out_stands l h q k locked known o out =
    record {
      known = known;
      out = λ _. out;
      waits = λ t. absurd (disjoint outs waiters tt k o t);
      holds = λ t. absurd (disjoint outs holders tt k o t);
    }

pub out_holder : (h k : ℕ) (me : Private) (its : Shared) (lock : ℕ) (l : List Place) → T (among k outs) → (l ≡ []) × (lock ≡ 0) → Holder h k me its lock l
out_holder h k me its lock l o free =
    record {
      free = λ _. free;
      first = λ t. absurd (disjoint outs members tt k o t);
      away = λ t. absurd (disjoint outs leavers tt k o t);
      closing = λ t. absurd (disjoint outs (15 ∷ 16 ∷ []) tt k o t);
      next = λ t. absurd (disjoint outs (16 ∷ []) tt k o t);
      handing = λ t. absurd (disjoint outs (17 ∷ 18 ∷ []) tt k o t);
    }

pub held_stands : (l : List Place) (h q k locked : ℕ) → k ≤ last → T (among k holders) → q ≡ h → Stands l h q k locked
held_stands l h q k locked known m holds =
    record {
      known = known;
      out = λ t. absurd (disjoint holders outs tt k m t);
      waits = λ t. absurd (disjoint holders waiters tt k m t);
      holds = λ _. holds;
    }

pub first_holder : (h k : ℕ) (me : Private) (its : Shared) (lock : ℕ) (l : List Place) → T (among k members) → (lock ≡ h) × (l ≢ []) × (head l ≡ h) → Holder h k me its lock l
first_holder h k me its lock l m first =
    record {
      free = λ t. absurd (disjoint members outs tt k m t);
      first = λ _. first;
      away = λ t. absurd (disjoint members leavers tt k m t);
      closing = λ t. absurd (disjoint members (15 ∷ 16 ∷ []) tt k m t);
      next = λ t. absurd (disjoint members (16 ∷ []) tt k m t);
      handing = λ t. absurd (disjoint members (17 ∷ 18 ∷ []) tt k m t);
    }
