-- Cases on a test, with what the test then says. Assumes nothing.
use Prim.Native.Nat.{ℕ, ◌≤◌, ◌<◌}
use mathlib.Core.Path.{◌≡◌, refl, ◌∙◌, ap}
use mathlib.Core.Bool.{Bool, true, false, cond, ◌&&◌}
use mathlib.Core.Logic.{◌⊎◌, inl, inr}
use lib.Dec.{eqb, ltb}
use native.Mathlib.Omega.{arith}
use borrow.Author.Tests.{eqb-true, eqb-false, ltb-true, ltb-false}

-- a test is true or false
pub test : (b : Bool) → (b ≡ true) ⊎ (b ≡ false)
test true = inl refl
test false = inr refl

-- what holds of both arms, given how the test came out, holds of the choice
pub choose {ℓ} : {A : Type 0} (P : A → Type ℓ) (b : Bool) {x y : A} → (b ≡ true → P x) → (b ≡ false → P y) → P (cond b x y)
choose P true yes_b no_b = yes_b refl
choose P false yes_b no_b = no_b refl

pub below : (m n : ℕ) → (m < n) ⊎ (n ≤ m)
below m n = go (ltb m n) refl
  where
    go : (b : Bool) → ltb m n ≡ b → (m < n) ⊎ (n ≤ m)
    go true e = inl (ltb-true m n e)
    go false e = inr (ltb-false m n e)

pub equal : (m n : ℕ) → (m ≡ n) ⊎ (m ≡ n → ⊥)
equal m n = go (eqb m n) refl
  where
    go : (b : Bool) → eqb m n ≡ b → (m ≡ n) ⊎ (m ≡ n → ⊥)
    go true e = inl (eqb-true m n e)
    go false e = inr (eqb-false m n e)

-- a conjunction holds where both parts do
pub both_hold : (a b : Bool) → (a && b) ≡ true → (a ≡ true) × (b ≡ true)
both_hold true b e = (refl, e)
both_hold false b e = absurd (let z : ◌≡◌ {A = ℕ} 0 1 = cc in omega arith)

-- f of a choice is the choice of f's
pub cond_map : {A B : Type 0} (f : A → B) (b : Bool) (x y : A) → f (cond b x y) ≡ cond b (f x) (f y)
cond_map f true x y = refl
cond_map f false x y = refl

-- the same of a choice in a choice
pub cond_map₂ : {A B : Type 0} (f : A → B) (b c : Bool) (x y z : A) → f (cond b (cond c x y) z) ≡ cond b (cond c (f x) (f y)) (f z)
cond_map₂ f true c x y z = cond_map f c x y
cond_map₂ f false c x y z = refl

pub both_are : {a b : Bool} → a ≡ true → b ≡ true → (a && b) ≡ true
both_are {b = b} e f = ap (λ (x : Bool). x && b) e ∙ f
