-- The first around the table that passes a test: it is a module, and no module that passes is asked before it. So whoever passes is found next,
-- or has fewer asked before it from then on. Assumes nothing.
use Prim.Native.Nat.{ℕ, zero, suc, ◌+◌, ◌-◌, ◌≤◌, ◌<◌}
use mathlib.Core.Path.{◌≡◌, refl, sym, ◌∙◌, ap, subst}
use mathlib.Core.Bool.{Bool, true, false, cond, true≢false}
use mathlib.Core.List.{List, [], ◌++◌, append-nil}
use mathlib.Core.Logic.{◌⊎◌, inl, inr, ⊎_elim, ◌≢◌}
use lib.Dec.{ltb}
use borrow.Author.Tests.{ltb-true, ltb-false}
use native.Mathlib.Nat.{eq-or-lt_of_le}
use native.Mathlib.Omega.{arith}
use Rattle.laws.proofs.Cases.{choose, below, equal}
use Rattle.stage.specs.Turns.{from, around, first_that}
use Rattle.std.specs.Prelude.{Option, None, Some}

-- how many of n modules are asked before p, after the marker m
unfoldable pub ahead : ℕ → ℕ → ℕ → ℕ
ahead n m p = cond (ltb m p) (p - m - 1) (n - m + p - 1)

-- a are asked before p: p is so far on, straight or once around
abbrev pub Asked : (n m p a : ℕ) → Type 0
Asked n m p a = ((m < p) × (a + m + 1 ≡ p)) ⊎ ((p ≤ m) × (a + m + 1 ≡ n + p))

pub ahead_is : (n m p : ℕ) → m ≤ n → 1 ≤ p → Asked n m p (ahead n m p)
unfolding ahead
ahead_is n m p high low =
    choose (Asked n m p) (ltb m p) (λ e. let h = ltb-true m p e in inl (h, omega arith)) (λ e. let h = ltb-false m p e in inr (h, omega arith))

pub ahead_most : (n m p : ℕ) → m ≤ n → 1 ≤ p → p ≤ n → ahead n m p + 1 ≤ n
ahead_most n m p high low_p high_p = ⊎_elim (λ z. omega arith) (λ z. omega arith) (ahead_is n m p high low_p)

pub ahead_other : (n m p : ℕ) → 1 ≤ m → m ≤ n → 1 ≤ p → p ≤ n → p ≢ m → ahead n m p + 2 ≤ n
ahead_other n m p low high low_p high_p other = ⊎_elim (λ z. omega arith) (λ z. omega arith) (ahead_is n m p high low_p)

-- who is asked before q, where q is after m, and where it is not
nearer_after : (n m i q a c : ℕ) → q ≤ n → m < q → Asked n m i a → Asked n m q c → 1 ≤ i → a < c → (m < i) × (i < q)
nearer_after n m i q a c high on (inl x) (inl y) low less = omega arith
nearer_after n m i q a c high on (inl x) (inr y) low less = omega arith
nearer_after n m i q a c high on (inr x) (inl y) low less = omega arith
nearer_after n m i q a c high on (inr x) (inr y) low less = omega arith

nearer_round : (n m i q a c : ℕ) → q ≤ m → Asked n m i a → Asked n m q c → a < c → (m < i) ⊎ (i < q)
nearer_round n m i q a c round (inl x) y less = inl x.0
nearer_round n m i q a c round (inr x) (inl y) less = inr (omega arith)
nearer_round n m i q a c round (inr x) (inr y) less = inr (omega arith)

-- after q, fewer are asked before p than after m, where q is asked before p
nearer : (n m q p a b c : ℕ) → 1 ≤ q → m ≤ n → p ≤ n → q ≢ p → Asked n m q a → Asked n m p b → Asked n q p c → a ≤ b → c < b
nearer n m q p a b c low high high_p other (inl x) (inl y) (inl z) less = omega arith
nearer n m q p a b c low high high_p other (inl x) (inl y) (inr z) less = omega arith
nearer n m q p a b c low high high_p other (inl x) (inr y) (inl z) less = omega arith
nearer n m q p a b c low high high_p other (inl x) (inr y) (inr z) less = omega arith
nearer n m q p a b c low high high_p other (inr x) (inl y) (inl z) less = omega arith
nearer n m q p a b c low high high_p other (inr x) (inl y) (inr z) less = omega arith
nearer n m q p a b c low high high_p other (inr x) (inr y) (inl z) less = omega arith
nearer n m q p a b c low high high_p other (inr x) (inr y) (inr z) less = omega arith

module _ (f : ℕ → Bool) where
  -- none of a to b passes, but for b itself
  abbrev NonePass : ℕ → ℕ → Type 0
  NonePass a b = (i : ℕ) → a ≤ i → i < b → f i ≡ false

  one_more : (a b : ℕ) → f a ≡ false → NonePass (suc a) b → NonePass a b
  one_more a b e others i low less = ⊎_elim (λ (z : a ≡ i). ap f (sym z) ∙ e) (λ on. others i on less) (eq-or-lt_of_le low)

  -- the first of k numbers from a on, or of those after them
  first_from :
      (P : Option ℕ → Type 0) (a k : ℕ) (after : List ℕ)
      → ((q : ℕ) → a ≤ q → q < a + k → f q ≡ true → NonePass a q → P (Some q))
      → (NonePass a (a + k) → P (first_that f after))
      → P (first_that f (from a k ++ after))
  unfolding from first_that
  first_from P a zero after one others = others (λ i low less. absurd (omega arith))
  first_from P a (suc k) after one others =
      choose P (f a)
      (λ e. one a (omega arith) (omega arith) e (λ i low less. absurd (omega arith)))
      (λ e.
      first_from P (suc a) k after
      (λ q low less t none_q. one q (omega arith) (omega arith) t (one_more a q e none_q))
      (λ none_k. others (one_more a (a + suc k) e (λ i low less. none_k i low (omega arith)))))

  module _ (n m : ℕ) (high : m ≤ n) where
    -- what holds of each module that passes, where none that is asked before it does, and of nobody, where none passes, holds of what is found
    pub first_around :
        (P : Option ℕ → Type 0)
        → ((q : ℕ) → 1 ≤ q → q ≤ n → f q ≡ true → ((i : ℕ) → 1 ≤ i → i ≤ n → ahead n m i < ahead n m q → f i ≡ false) → P (Some q))
        → (((i : ℕ) → 1 ≤ i → i ≤ n → f i ≡ false) → P None)
        → P (first_that f (around n m))
    unfolding around first_that
    first_around P one nobody =
        first_from P (suc m) (n - m) (from 1 m)
        (λ q low less t none_q.
        one q (omega arith) (omega arith) t
        (λ i low_i high_i before.
        let z = nearer_after n m i q (ahead n m i) (ahead n m q) (omega arith) low (ahead_is n m i high low_i) (ahead_is n m q high (omega arith)) low_i before in
        none_q i z.0 z.1))
        (λ none_after.
        subst (λ (l : List ℕ). P (first_that f l)) (append-nil (from 1 m))
        (first_from P 1 m []
        (λ q low less t none_q.
        one q low (omega arith) t
        (λ i low_i high_i before.
        ⊎_elim (λ on. none_after i on (omega arith)) (λ less_i. none_q i low_i less_i)
        (nearer_round n m i q (ahead n m i) (ahead n m q) (omega arith) (ahead_is n m i high low_i) (ahead_is n m q high low) before)))
        (λ none_m. nobody (λ i low high_i. ⊎_elim (λ on. none_after i on (omega arith)) (λ less. none_m i low (omega arith)) (below m i)))))

    pub first_known : (q : ℕ) → first_that f (around n m) ≡ Some q → (1 ≤ q) × (q ≤ n) × (f q ≡ true)
    first_known q =
        first_around (λ o. o ≡ Some q → (1 ≤ q) × (q ≤ n) × (f q ≡ true))
        (λ r low high_r t before e.
        let same : r ≡ q = cc in subst (λ (x : ℕ). (1 ≤ x) × (x ≤ n) × (f x ≡ true)) same (low, high_r, t))
        (λ all e. absurd (let z : ◌≡◌ {A = ℕ} 0 1 = cc in omega arith))

    pub first_closer :
        (p : ℕ) → 1 ≤ p → p ≤ n → f p ≡ true
        → (q : ℕ) × (first_that f (around n m) ≡ Some q) × ((q ≡ p) ⊎ (ahead n q p < ahead n m p))
    first_closer p low_p high_p t_p =
        first_around (λ o. (q : ℕ) × (o ≡ Some q) × ((q ≡ p) ⊎ (ahead n q p < ahead n m p)))
        (λ q low high_q t before. (
          q,
          refl,
          ⊎_elim inl
              (λ (other : q ≢ p).
              inr (nearer n m q p (ahead n m q) (ahead n m p) (ahead n q p) low high high_p other (ahead_is n m q high low) (ahead_is n m p high low_p) (ahead_is n q p high_q low_p)
              (⊎_elim (λ less. absurd (true≢false (sym t_p ∙ before p low_p high_p less))) (λ least. least)
              (below (ahead n m p) (ahead n m q)))))
              (equal q p),
        ))
        (λ all. absurd (true≢false (sym t_p ∙ all p low_p high_p)))
