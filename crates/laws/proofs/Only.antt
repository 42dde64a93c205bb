-- A fact that is claimed only where a test holds, and tests of which number it is. Assumes nothing.
use Prim.Native.Nat.{ℕ, zero, suc, ◌≤◌}
use mathlib.Core.Path.{◌≡◌, refl, sym, subst, subst⁻¹}
use mathlib.Core.Bool.{Bool, true, false, not, ◌&&◌, ◌||◌}
use mathlib.Core.List.{List, [], ◌∷◌, ◌++◌}
use mathlib.Core.Logic.{◌⊎◌, inl, inr, ⊎_elim}
use lib.Dec.{T, T_not, eqb}
use borrow.Author.Tests.{eqb-true}
use native.Mathlib.Nat.{le_of_suc-le-suc, eq-or-lt_of_le}
use native.Mathlib.Omega.{arith}

-- X, where the test holds: at a known number it computes to a function of `tt`, or of nothing
abbrev pub only : Bool → Type 0 → Type 0
only b X = T b → X

abbrev pub among : ℕ → List ℕ → Bool
among k [] = false
among k (j ∷ js) = eqb k j || among k js

-- no number of the first list is in the second, or each is: tests that compute
abbrev pub apart : List ℕ → List ℕ → Bool
apart [] ks = true
apart (j ∷ js) ks = not (among j ks) && apart js ks

abbrev pub inside : List ℕ → List ℕ → Bool
inside [] ks = true
inside (j ∷ js) ks = among j ks && inside js ks

-- one of two tests holds, or both do
pub one_of : {A : Type 0} (b c : Bool) → (b ≡ true → A) → (T c → A) → T (b || c) → A
one_of true c f g t = f refl
one_of false c f g t = g t

or_right : (b c : Bool) → T c → T (b || c)
or_right true c t = tt
or_right false c t = t

pub both : (a b : Bool) → T (a && b) → T a × T b
both true b t = (tt, t)
both false b t = elim t [ ]

pub disjoint : (js ks : List ℕ) → T (apart js ks) → (k : ℕ) → T (among k js) → T (among k ks) → ⊥
disjoint [] ks t k here there = elim here [ ]
disjoint (j ∷ js) ks t k here there =
    let a = both (not (among j ks)) (apart js ks) t in
    one_of (eqb k j) (among k js)
    (λ e. T_not (among j ks) a.0 (subst (λ (i : ℕ). T (among i ks)) (eqb-true k j e) there))
    (λ rest. disjoint js ks a.1 k rest there)
    here

pub included : (js ks : List ℕ) → T (inside js ks) → (k : ℕ) → T (among k js) → T (among k ks)
included [] ks t k here = elim here [ ]
included (j ∷ js) ks t k here =
    let a = both (among j ks) (inside js ks) t in
    one_of (eqb k j) (among k js)
    (λ e. subst⁻¹ (λ (i : ℕ). T (among i ks)) (eqb-true k j e) a.0)
    (λ rest. included js ks a.1 k rest)
    here

-- a number of one list after another is of one of them
pub either : (js ks : List ℕ) (k : ℕ) → T (among k (js ++ ks)) → T (among k js) ⊎ T (among k ks)
either [] ks k t = inr t
either (j ∷ js) ks k t =
    one_of (eqb k j) (among k (js ++ ks)) (λ e. inl (subst⁻¹ (λ (b : Bool). T (b || among k js)) e tt))
    (λ rest. ⊎_elim (λ a. inl (or_right (eqb k j) (among k js) a)) inr (either js ks k rest))
    t

-- P of each number from 0 to n, as a tuple nested to the left
abbrev pub Upto : (ℕ → Type 0) → ℕ → Type 0
Upto P zero = P zero
Upto P (suc n) = Upto P n × P (suc n)

pub upto : (P : ℕ → Type 0) (n : ℕ) → Upto P n → (k : ℕ) → k ≤ n → P k
upto P zero all k h = (let e : zero ≡ k = omega arith in subst P e all)
upto P (suc n) all k h =
    ⊎_elim (λ e. subst P (sym e) all.1) (λ less. upto P n all.0 k (le_of_suc-le-suc less)) (eq-or-lt_of_le h)
