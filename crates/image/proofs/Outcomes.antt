-- A contract of a call leaves nothing open: any two outcomes that it admits are the same.
-- Assumes nothing.
use mathlib.Core.Path.{◌≡◌, sym, ◌∙◌, ap}
use mathlib.Core.List.{List}
use Prim.Native.Nat.{ℕ}
use Rattle.stage.specs.Calls.{Call, step}
use Rattle.image.specs.Call.{buffer, Does}
use Rattle.image.specs.Turn.{Turn, refused, nobody, step_by, turn_of, moved, Gives, GivesTurn}
use Rattle.stage.specs.Answers.{Reply}

pub one_outcome : (c : Call) (b : List ℕ) {r r' : Reply} {b₁ b₂ : List ℕ} → Does c b r b₁ → Does c b r' b₂ → (r ≡ r') × (b₁ ≡ b₂)
one_outcome c b one other = (one.says ∙ sym other.says, one.leaves ∙ sym other.leaves)

-- the same of the buffer that is lent for the log
pub one_buffer : (b lent : List ℕ) {l l' : List ℕ} → l ≡ buffer b lent → l' ≡ buffer b lent → l ≡ l'
one_buffer b lent one other = one ∙ sym other

-- the same of a turn
pub one_turn : (b : List ℕ) (m : ℕ) {r r' : Reply} {b₁ b₂ : List ℕ} {m₁ m₂ : ℕ} → GivesTurn b m r b₁ m₁ → GivesTurn b m r' b₂ m₂
    → (r ≡ r') × (b₁ ≡ b₂) × (m₁ ≡ m₂)
one_turn b m = by_turn (turn_of b m)
  where
    by_turn : (t : Turn) {r r' : Reply} {b₁ b₂ : List ℕ} {m₁ m₂ : ℕ} → Gives t b m r b₁ m₁ → Gives t b m r' b₂ m₂ → (r ≡ r') × (b₁ ≡ b₂) × (m₁ ≡ m₂)
    by_turn (refused k) one other = (one.0 ∙ sym other.0, one.1 ∙ sym other.1, one.2 ∙ sym other.2)
    by_turn nobody one other = (one.0 ∙ sym other.0, one.1 ∙ sym other.1, one.2 ∙ sym other.2)
    by_turn (step_by p) one other =
        let same = one_outcome (step p) b one.0 other.0 in
        (same.0, same.1, one.1 ∙ ap (moved p m) same.0 ∙ sym other.1)
