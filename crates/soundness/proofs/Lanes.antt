-- How far off the bytes of all records so far are, lane by lane: 0 in every lane if each byte lies between its least and its greatest.
-- Assumes nothing.
use Prim.Native.Nat.{ℕ, zero, suc, ◌+◌, ◌-◌, ◌<◌, ◌≤◌, max}
use mathlib.Core.Path.{◌≡◌, refl, sym, ◌∙◌}
use mathlib.Core.Bool.{Bool, true, false, ◌&&◌, and_assoc}
use mathlib.Core.List.{List, [], ◌∷◌}
use native.Mathlib.Nat.{le_of_suc-le-suc, not-suc-le-zero}
use native.Mathlib.Numerals.{add-one}
use native.Mathlib.Omega.{arith}
use borrow.Author.Tests.{leb-true, leb-false, le-leb, lt-leb}
use lib.Dec.{leb, leb-zero}
use lib.ListN.{length, get_or, set}
use Rattle.std.specs.List.{list_all}
use Rattle.stage.specs.Calls.{within}
use Rattle.soundness.specs.Parts.{below}
use Rattle.soundness.proofs.Lists.{sorted}

leb_sub : (a b : ℕ) → leb (a - b) 0 ≡ leb a b
leb_sub a b = go (leb a b) refl
  where
    go : (t : Bool) → leb a b ≡ t → leb (a - b) 0 ≡ t
    go true e = le-leb (a - b) 0 (let h : a ≤ b = leb-true a b e in omega arith)
    go false e = lt-leb (a - b) 0 (let h : b < a = leb-false a b e in omega arith)

leb_max : (a b k : ℕ) → leb (max a b) k ≡ (leb a k && leb b k)
leb_max a b k = go (leb a k) (leb b k) refl refl
  where
    go : (t u : Bool) → leb a k ≡ t → leb b k ≡ u → leb (max a b) k ≡ (t && u)
    go true true e f = le-leb (max a b) k (let h : a ≤ k = leb-true a k e in let i : b ≤ k = leb-true b k f in omega arith)
    go true false e f = lt-leb (max a b) k (let h : k < b = leb-false b k f in omega arith)
    go false u e f = lt-leb (max a b) k (let h : k < a = leb-false a k e in omega arith)

-- a lane is at 0 if it was, and the byte lies between the two
lane : (a low x high : ℕ) → within 0 0 (max (max a (low - x)) (x - high)) ≡ (within 0 0 a && within low high x)
lane a low x high = simp (leb-zero, leb_max, leb_sub, and_assoc)

-- one element is set to a value that passes the test if the old one did and g holds
set_and : (f : ℕ → Bool) (l : List ℕ) (k v : ℕ) (g : Bool) → k < length l → f v ≡ (f (get_or l k 0) && g) → list_all f (set l k v) ≡ (list_all f l && g)
set_and f [] k v g h e = absurd (not-suc-le-zero h)
set_and f (x ∷ l) zero v g h e = rw e (simp sorted)
set_and f (x ∷ l) (suc k) v g h e = rw (set_and f l k v g (le_of_suc-le-suc h) e) (sym (and_assoc (f x) (list_all f l) g))

-- all lanes so far, and one more
pub lanes_more : (f : ℕ → Bool) (l l₀ : List ℕ) (k x low high v : ℕ) → list_all (within 0 0) l ≡ (list_all (within 0 0) l₀ && below k f) → k < length l
    → f k ≡ within low high x → v ≡ max (max (get_or l k 0) (low - x)) (x - high) → list_all (within 0 0) (set l k v) ≡ (list_all (within 0 0) l₀ && below (k + 1) f)
unfolding below
lanes_more f l l₀ k x low high v e h ef ev =
    set_and (within 0 0) l k v (f k) h (rw (ev, ef) (lane (get_or l k 0) low x high))
    ∙ rw (e, add-one) (and_assoc (list_all (within 0 0) l₀) (below k f) (f k))
