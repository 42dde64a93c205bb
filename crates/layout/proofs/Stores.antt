-- Bytes stored at places of a list, each at its offset from one place, and where they fall in a list that is put together from parts.
-- Assumes nothing.
use mathlib.Core.Path.{◌≡◌, refl, sym, ◌∙◌, ap, ap₂}
use mathlib.Core.Bool.{Bool, true, false, ◌&&◌}
use mathlib.Core.List.{List, [], ◌∷◌, ◌++◌, append_assoc}
use Prim.Native.Nat.{ℕ, ◌+◌, ◌≤◌}
use native.Mathlib.Nat.{zero-add, suc-add, add_assoc}
use native.Mathlib.Omega.{arith}
use lib.Dec.{T, ltb, ltb→lt}
use lib.ListN.{length, set, take, drop, length-set, length-append}
use lib.Seq.{set-append_left, paste, take_at, drop_at}

-- values, each with its offset
abbrev pub Offsets : Type 0
Offsets = List (ℕ × ℕ)

-- each value stored at its offset from `at`. Where the values are written out it computes to the stores themselves.
abbrev pub puts : List ℕ → ℕ → Offsets → List ℕ
puts l at [] = l
puts l at (e ∷ others) = puts (set l (at + e.0) e.1) at others

-- all offsets are below n
abbrev pub under : ℕ → Offsets → Bool
under n [] = true
under n (e ∷ others) = ltb e.0 n && under n others

both : (a b : Bool) → T (a && b) → T a × T b
both true b h = (tt, h)
both false b h = absurd h

set_right : (xs ys : List ℕ) (i v : ℕ) → set (xs ++ ys) (length xs + i) v ≡ xs ++ set ys i v
set_right [] ys i v = ap (λ (k : ℕ). set ys k v) (zero-add i)
set_right (x ∷ xs) ys i v = ap (λ (k : ℕ). set (x ∷ (xs ++ ys)) k v) (suc-add (length xs) i) ∙ ap (λ (r : List ℕ). x ∷ r) (set_right xs ys i v)

-- what is stored past the first part falls into the second
pub puts_right : (xs ys : List ℕ) (at : ℕ) (es : Offsets) → puts (xs ++ ys) (length xs + at) es ≡ xs ++ puts ys at es
puts_right xs ys at [] = refl
puts_right xs ys at (e ∷ es) =
    ap (λ (l : List ℕ). puts l (length xs + at) es) (ap (λ (k : ℕ). set (xs ++ ys) k e.1) (add_assoc (length xs) at e.0) ∙ set_right xs ys (at + e.0) e.1)
    ∙ puts_right xs (set ys (at + e.0) e.1) at es

-- what is stored within the first part leaves the second alone
pub puts_left : (n : ℕ) (xs ys : List ℕ) (at : ℕ) (es : Offsets) → T (under n es) → at + n ≤ length xs → puts (xs ++ ys) at es ≡ puts xs at es ++ ys
puts_left n xs ys at [] u h = refl
puts_left n xs ys at (e ∷ es) u h =
    ap (λ (l : List ℕ). puts l at es) (set-append_left xs ys (at + e.0) e.1 (omega (arith, ltb→lt e.0 n (both (ltb e.0 n) (under n es) u).0)))
    ∙ puts_left n (set xs (at + e.0) e.1) ys at es (both (ltb e.0 n) (under n es) u).1 (omega (arith, length-set xs (at + e.0) e.1))

-- the three parts that an image has behind the owner's bytes, each with what is stored there
module _ (f r l t : List ℕ) (at n : ℕ) (es : Offsets) (u : T (under n es)) where
  pub puts_first : at + n ≤ length r → puts (f ++ (r ++ l ++ t)) (length f + at) es ≡ f ++ (puts r at es ++ l ++ t)
  puts_first h =
      puts_right f (r ++ l ++ t) at es
      ∙ ap (λ (x : List ℕ). f ++ x) (puts_left n (r ++ l) t at es u (omega (arith, length-append r l)) ∙ ap (λ (x : List ℕ). x ++ t) (puts_left n r l at es u h))

  pub puts_second : at + n ≤ length l → puts (f ++ (r ++ l ++ t)) (length f + (length r + at)) es ≡ f ++ (r ++ puts l at es ++ t)
  puts_second h =
      puts_right f (r ++ l ++ t) (length r + at) es
      ∙ ap (λ (x : List ℕ). f ++ x) (puts_left n (r ++ l) t (length r + at) es u (omega (arith, length-append r l)) ∙ ap (λ (x : List ℕ). x ++ t) (puts_right r l at es))

pub puts_third : (f r l t : List ℕ) (at : ℕ) (es : Offsets) → puts (f ++ (r ++ l ++ t)) (length f + (length (r ++ l) + at)) es ≡ f ++ (r ++ l ++ puts t at es)
puts_third f r l t at es = puts_right f (r ++ l ++ t) (length (r ++ l) + at) es ∙ ap (λ (x : List ℕ). f ++ x) (puts_right (r ++ l) t at es)

-- the second of those parts replaced whole
pub paste_second : (f r l t s : List ℕ) (n : ℕ) → length l ≡ n → paste (f ++ (r ++ l ++ t)) (length f + length r) s n ≡ f ++ (r ++ take n s ++ t)
paste_second f r l t s n e =
    let at : ℕ = length f + length r in
    let front : take at (f ++ (r ++ l ++ t)) ≡ f ++ r =
    ap (λ (x : List ℕ). take at x) (ap (λ (x : List ℕ). f ++ x) (append_assoc r l t) ∙ sym (append_assoc f r (l ++ t))) ∙ take_at (f ++ r) (l ++ t) at (length-append f r) in
    let back : drop (at + n) (f ++ (r ++ l ++ t)) ≡ t =
    ap (λ (x : List ℕ). drop (at + n) x) (sym (append_assoc f (r ++ l) t)) ∙ drop_at (f ++ (r ++ l)) t (at + n) (omega (arith, length-append f (r ++ l), length-append r l)) in
    ap₂ (λ (x y : List ℕ). x ++ take n s ++ y) front back ∙ append_assoc (f ++ r) (take n s) t ∙ append_assoc f r (take n s ++ t) ∙ ap (λ (x : List ℕ). f ++ x) (sym (append_assoc r (take n s) t))
