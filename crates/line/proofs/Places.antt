-- A line of places: who is in it, that nobody is twice, that it is sorted, and that links lead along it. What a join keeps of all that.
-- Assumes nothing.
use Prim.Native.Nat.{ℕ, ◌≤◌, ◌<◌}
use mathlib.Core.Path.{◌≡◌, refl, sym, ◌∙◌, ap, subst}
use mathlib.Core.List.{List, [], ◌∷◌}
use mathlib.Core.Logic.{◌⊎◌, inl, inr, ⊎_elim, ◌≢◌}
use lib.Dec.{leb}
use borrow.Author.Tests.{leb-true, leb-false, le-leb, lt-leb}
use native.Mathlib.Omega.{arith}
use Rattle.laws.proofs.Cases.{choose, equal}
use Rattle.line.specs.PlainLine.{Place, stand}

abbrev pub In : ℕ → List Place → Type 0
In q [] = ⊥
In q (x ∷ l) = (q ≡ x.module) ⊎ In q l

abbrev pub All : (Place → Type 0) → List Place → Type 0
All P [] = Unit {0}
All P (x ∷ l) = P x × All P l

abbrev pub Distinct : List Place → Type 0
Distinct [] = Unit {0}
Distinct (x ∷ l) = (In x.module l → ⊥) × Distinct l

-- nobody in l comes before somebody more urgent; the head is at most as urgent as r
abbrev pub Under : ℕ → List Place → Type 0
Under r [] = Unit {0}
Under r (x ∷ l) = x.priority ≤ r

abbrev pub Sorted : List Place → Type 0
Sorted [] = Unit {0}
Sorted (x ∷ l) = Under x.priority l × Sorted l

-- the first module, or nil
abbrev pub head : List Place → ℕ
head [] = 0
head (x ∷ l) = x.module

abbrev pub behind : List Place → List Place
behind [] = []
behind (x ∷ l) = l

-- the pointers lead from each to the next, and from the last to nil
abbrev pub Chain : (ℕ → ℕ) → List Place → Type 0
Chain to [] = Unit {0}
Chain to (x ∷ l) = (to x.module ≡ head l) × Chain to l

pub in? : (q : ℕ) (l : List Place) → In q l ⊎ (In q l → ⊥)
in? q [] = inr (λ z. z)
in? q (x ∷ l) = go (equal q x.module) (in? q l)
  where
    go : (q ≡ x.module) ⊎ (q ≡ x.module → ⊥) → In q l ⊎ (In q l → ⊥) → In q (x ∷ l) ⊎ (In q (x ∷ l) → ⊥)
    go (inl e) r = inl (inl e)
    go (inr no_e) (inl i) = inl (inr i)
    go (inr no_e) (inr no_i) = inr (⊎_elim no_e no_i)

-- All ----------------------------------------------------------------------------------------------------------------------------

pub all_at : (P : Place → Type 0) (l : List Place) (q : ℕ) → All P l → In q l → (x : Place) × (x.module ≡ q) × P x
all_at P [] q all x'' = elim x'' [ ]
all_at P (x ∷ l) q all (inl e) = (x, sym e, all.0)
all_at P (x ∷ l) q all (inr i) = all_at P l q all.1 i

pub all_map : (P Q : Place → Type 0) (l : List Place) → ((x : Place) → In x.module l → P x → Q x) → All P l → All Q l
all_map P Q [] f all = tt
all_map P Q (x ∷ l) f all = (f x (inl refl) all.0, all_map P Q l (λ y i. f y (inr i)) all.1)

-- Chain --------------------------------------------------------------------------------------------------------------------------

pub chain_map : (to to' : ℕ → ℕ) (l : List Place) → ((q : ℕ) → In q l → to' q ≡ to q) → Chain to l → Chain to' l
chain_map to to' [] f c = tt
chain_map to to' (x ∷ l) f c = (f x.module (inl refl) ∙ c.0, chain_map to to' l (λ q i. f q (inr i)) c.1)

-- a pointer of somebody in the line that is not nil is to somebody behind the first
pub chain_behind : (to : ℕ → ℕ) (l : List Place) → Chain to l → (q : ℕ) → In q l → to q ≢ 0 → In (to q) (behind l)
chain_behind to (x ∷ []) c q (inr i) n = elim i [ ]
chain_behind to [] c q x3 n = elim x3 [ ]
chain_behind to (x ∷ []) c q (inl e) n = absurd (n (ap to e ∙ c.0))
chain_behind to (x ∷ y ∷ l) c q (inl e) n = inl (ap to e ∙ c.0)
chain_behind to (x ∷ y ∷ l) c q (inr i) n = inr (chain_behind to (y ∷ l) c.1 q i n)

pub in_behind : (l : List Place) (q : ℕ) → In q (behind l) → In q l
in_behind [] q i = i
in_behind (x ∷ l) q i = inr i

-- behind the first --------------------------------------------------------------------------------------------------------------

pub sorted_behind : (l : List Place) → Sorted l → Sorted (behind l)
sorted_behind [] s = s
sorted_behind (x ∷ l) s = s.1

pub all_behind : (P : Place → Type 0) (l : List Place) → All P l → All P (behind l)
all_behind P [] a = a
all_behind P (x ∷ l) a = a.1

-- stand --------------------------------------------------------------------------------------------------------------------------

-- what holds where the place is last, where the next is at least as urgent, and where the next is not, holds of every standing
pub standing :
    (x : Place) (P : List Place → List Place → Type 0)
    → P [] (x ∷ [])
    → ((y : Place) (l : List Place) → x.priority ≤ y.priority → P l (stand x l) → P (y ∷ l) (y ∷ stand x l))
    → ((y : Place) (l : List Place) → y.priority < x.priority → P (y ∷ l) (x ∷ y ∷ l))
    → (l : List Place)
    → P l (stand x l)
unfolding stand
standing x P last on here [] = last
standing x P last on here (y ∷ l) =
    choose (P (y ∷ l)) (leb x.priority y.priority)
    (λ e. on y l (leb-true x.priority y.priority e) (standing x P last on here l))
    (λ e. here y l (leb-false x.priority y.priority e))

module _ (x : Place) where
  pub in_stand : (q : ℕ) (l : List Place) → In q (stand x l) → (q ≡ x.module) ⊎ In q l
  in_stand q =
      standing x (λ l m. In q m → (q ≡ x.module) ⊎ In q l) (λ i. i)
      (λ y l h ih. ⊎_elim (λ e. inr (inl e)) (λ i. ⊎_elim inl (λ j. inr (inr j)) (ih i)))
      (λ y l h i. i)

  pub stand_in : (q : ℕ) (l : List Place) → (q ≡ x.module) ⊎ In q l → In q (stand x l)
  stand_in q =
      standing x (λ l m. (q ≡ x.module) ⊎ In q l → In q m) (λ i. i)
      (λ y l h ih. ⊎_elim (λ e. inr (ih (inl e))) (⊎_elim inl (λ i. inr (ih (inr i)))))
      (λ y l h i. i)

  pub all_stand : (P : Place → Type 0) → P x → (l : List Place) → All P l → All P (stand x l)
  all_stand P here =
      standing x (λ l m. All P l → All P m) (λ all. (here, all)) (λ y l h ih all. (all.0, ih all.1)) (λ y l h all. (here, all))

  pub distinct_stand : (l : List Place) → (In x.module l → ⊥) → Distinct l → Distinct (stand x l)
  distinct_stand =
      standing x (λ l m. (In x.module l → ⊥) → Distinct l → Distinct m) (λ new d. (new, d))
      (λ y l h ih new d.
      (λ i. ⊎_elim (λ e. new (inl (sym e))) d.0 (in_stand y.module l i), ih (λ i. new (inr i)) d.1))
      (λ y l h new d. (new, d))

  pub sorted_stand : (l : List Place) → Sorted l → Sorted (stand x l)
  sorted_stand l s =
      (standing x (λ l m. Sorted l → Sorted m × ((r : ℕ) → x.priority ≤ r → Under r l → Under r m))
      (λ s. ((tt, tt), λ r h u. h))
      (λ y l h ih s. (((ih s.1).1 y.priority h s.0, (ih s.1).0), λ r g u. u))
      (λ y l h s. ((omega arith, s), λ r g u. g))
      l s).0

-- A swap puts x right behind `at`: at's pointer was to `next` and is now to x, x's is to `next`. If `at` is in the line and at least as urgent as x, or
-- first, and `next` is nil or less urgent, then the pointers lead along the line into which x was joined.
module _ (to to' : ℕ → ℕ) (x : Place) (at next : ℕ)
    (now : to' at ≡ x.module)
    (its : to' x.module ≡ next)
    (others : (q : ℕ) → q ≢ at → q ≢ x.module → to' q ≡ to q)
    (was : to at ≡ next)
    (urgent : ℕ → ℕ)
    (before : x.priority ≤ urgent at)
    (after : (next ≡ 0) ⊎ (urgent next < x.priority)) where
  first : (y : Place) → (at ≡ y.module) × (urgent y.module ≡ y.priority) → x.priority ≤ y.priority
  first y e = let h : urgent at ≡ y.priority = ap urgent e.0 ∙ e.1 in omega arith

  -- whoever stands before somebody at least as urgent as x is so too
  at_least : (y : Place) (l : List Place) → Sorted (y ∷ l) → All (λ z. urgent z.module ≡ z.priority) (y ∷ l) → In at (y ∷ l) → x.priority ≤ y.priority
  at_least y [] s u (inr i) = elim i [ ]
  at_least y [] s u (inl e) = first y (e, u.0)
  at_least y (z ∷ l) s u (inl e) = first y (e, u.0)
  at_least y (z ∷ l) s u (inr i) = let h = at_least z l s.1 u.1 i in omega arith

  same : (l : List Place) → (In at l → ⊥) → (In x.module l → ⊥) → Chain to l → Chain to' l
  same l a n = chain_map to to' l (λ q i. others q (λ e. a (subst (λ (k : ℕ). In k l) e i)) (λ e. n (subst (λ (k : ℕ). In k l) e i)))

  pub joined :
      (y : Place) (l : List Place) → Distinct (y ∷ l) → (In x.module (y ∷ l) → ⊥) → ((q : ℕ) → In q (y ∷ l) → q ≢ 0)
      → Sorted l → All (λ z. urgent z.module ≡ z.priority) l → Chain to (y ∷ l) → In at (y ∷ l) → Chain to' (y ∷ stand x l)
  unfolding stand
  joined y [] d n z s u c (inr i) = elim i [ ]
  joined y [] d n z s u c (inl e) = (ap to' (sym e) ∙ now, (its ∙ sym was ∙ ap to e ∙ c.0, tt))
  joined y (w ∷ l) d n z s u c (inl e) =
      let to_w : next ≡ w.module = sym was ∙ ap to e ∙ c.0 in
      let less : w.priority < x.priority =
      ⊎_elim (λ nil. absurd (z w.module (inr (inl refl)) (sym to_w ∙ nil))) (λ h. omega (arith, ap urgent to_w, u.0)) after in
      simp (lt-leb x.priority w.priority less) (
        ap to' (sym e) ∙ now,
        (its ∙ to_w, same (w ∷ l) (λ i. d.0 (subst (λ (k : ℕ). In k (w ∷ l)) e i)) (λ i. n (inr i)) c.1),
      )
  joined y (w ∷ l) d n z s u c (inr i) =
      let more : x.priority ≤ w.priority = at_least w l s u i in
      simp (le-leb x.priority w.priority more) (
        others y.module (λ e. d.0 (subst (λ (k : ℕ). In k (w ∷ l)) (sym e) i)) (λ e. n (inl (sym e))) ∙ c.0,
        joined w l d.1 (λ j. n (inr j)) (λ q j. z q (inr j)) s.1 u.1 c.1 i,
      )
