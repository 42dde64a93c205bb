-- A function that is changed at one number. Assumes nothing.
use Prim.Native.Nat.{ℕ}
use mathlib.Core.Path.{◌≡◌, refl, fun_ext, ap, sym, subst⁻¹}
use mathlib.Core.Bool.{cond}
use mathlib.Core.Logic.{◌≢◌, ⊎_elim}
use lib.Dec.{eqb}
use borrow.Author.Tests.{eq-eqb, ne_eqb, eqb-true, eqb-false}
use Rattle.laws.proofs.Cases.{choose, equal}
use Rattle.stage.specs.Table.{upd}

module _ {A : Type 0} (f : ℕ → A) (p : ℕ) (v : A) where
  pub upd_same : upd f p v p ≡ v
  unfolding upd
  upd_same = simp (eq-eqb p p refl)

  pub upd_other : (q : ℕ) → q ≢ p → upd f p v q ≡ f q
  unfolding upd
  upd_other q other = simp (ne_eqb q p other)

  -- what holds of the new value at p, and of the old ones elsewhere, holds of all
  pub upd_all : (P : ℕ → A → Type 0) → P p v → ((q : ℕ) → q ≢ p → P q (f q)) → (q : ℕ) → P q (upd f p v q)
  unfolding upd
  upd_all P here there q =
      choose (P q) (eqb q p) (λ e. rw (eqb-true q p e) here) (λ e. there q (eqb-false q p e))

-- what was there already
pub upd_kept : {A : Type 0} (f : ℕ → A) (p : ℕ) → upd f p (f p) ≡ f
unfolding upd
upd_kept f p = fun_ext (λ q. choose (λ v. v ≡ f q) (eqb q p) (λ e. ap f (sym (eqb-true q p e))) (λ e. refl))

-- the same of two functions that are changed at one number
pub upd_both :
    {A B : Type 0} (f : ℕ → A) (f' : ℕ → B) (p : ℕ) (v : A) (v' : B) (P : ℕ → A → B → Type 0)
    → P p v v'
    → ((q : ℕ) → q ≢ p → P q (f q) (f' q))
    → (q : ℕ)
    → P q (upd f p v q) (upd f' p v' q)
upd_both f f' p v v' P here there q =
    ⊎_elim
    (λ e. subst⁻¹ (λ (z : ℕ). P z (upd f p v z) (upd f' p v' z)) e (rw (upd_same f p v, upd_same f' p v') here))
    (λ n. rw (upd_other f p v q n, upd_other f' p v' q n) (there q n))
    (equal q p)

-- f of every value, after a change and before it
pub upd_map : {A B : Type 0} (f : A → B) (g : ℕ → A) (p : ℕ) (v : A) → ◌≡◌ {A = ℕ → B} (λ q. f (upd g p v q)) (upd (λ q. f (g q)) p (f v))
unfolding upd
upd_map {B = B} f g p v =
    fun_ext (λ q. choose (λ w. f w ≡ upd (λ q'. f (g q')) p (f v) q) (eqb q p)
    (λ e. ap (λ b. cond b (f v) (f (g q))) (sym e)) (λ e. ap (λ b. cond b (f v) (f (g q))) (sym e)))
