-- Writing what was read: a list of bytes whose zeros, edition, distance and log are right is the image of the table that it holds.
-- Assumes nothing.
use mathlib.Core.Path.{◌≡◌, refl, sym, ◌∙◌, ap, ap₂, fun_ext}
use mathlib.Core.Bool.{Bool, true, cond, ◌&&◌}
use mathlib.Core.List.{List, [], ◌∷◌, ◌++◌}
use Prim.Native.Nat.{ℕ, zero, suc, ◌+◌, ◌-◌, ◌*◌, ◌/◌, ◌%◌, ◌≤◌, ◌<◌}
use native.Mathlib.Nat.{add-zero, add-suc, suc-add, add_assoc}
use native.Mathlib.Omega.{arith}
use borrow.Author.Tests.{le-leb}
use lib.ListN.{length, take, drop, replicate, length-drop, take-append-drop}
use lib.Seq.{drop-cons, length-take-le, take_all, take-take, drop-drop, take-add}
use Rattle.stage.specs.Calls.{within, capacity}
use Rattle.stage.specs.Table.{idle, untouched}
use Rattle.layout.specs.Layout.{byte, two, four, length_for, distance_for, trailer_at, modules, log_at, first_at, record_at, private_at, shared_at, held, read, record_of, records_of, log_of, trailer_of, write, put}

pub record Written (b : List ℕ) : Type 0 where
  pub fits : length_for (modules b) ≤ length b
  pub edition : byte b (trailer_at b + 1) ≡ 1
  pub zeros : two b (trailer_at b + 6) ≡ 0
  pub distance : four b (trailer_at b + 8) ≡ distance_for (modules b)
  pub record_zeros : (p : ℕ) → 1 ≤ p → p ≤ modules b → (byte b (record_at b p + 5) ≡ 0) × (byte b (record_at b p + 15) ≡ 0)
  pub held_fits : held b ≤ capacity
  pub rest : drop (held b) (take capacity (drop (log_at b) b)) ≡ replicate (capacity - held b) 0

-- n numbers, by their places
abbrev spell : ℕ → (ℕ → ℕ) → List ℕ
spell zero f = []
spell (suc n) f = f zero ∷ spell n (λ k. f (suc k))

-- n bytes of b from a place, one by one
spelled : (n at : ℕ) (b : List ℕ) → at + n ≤ length b → take n (drop at b) ≡ spell n (λ k. byte b (at + k))
spelled zero at b h = refl
spelled (suc n) at b h =
    ap (λ (l : List ℕ). take (suc n) l) (drop-cons b at 0 (omega arith))
    ∙ ap₂ (λ (x : ℕ) (l : List ℕ). x ∷ l) (ap (λ (k : ℕ). byte b k) (sym (add-zero at)))
    (spelled n (suc at) b (omega arith) ∙ ap (spell n) (fun_ext (λ k. ap (λ (j : ℕ). byte b j) (suc-add at k ∙ sym (add-suc at k)))))

module _ (b : List ℕ) (small : (i : ℕ) → byte b i < 256) where
  -- the two bytes of a number of two bytes
  high : (at : ℕ) → two b at / 256 ≡ byte b at
  unfolding two
  high at = omega (arith, small (at + 1))

  low : (at : ℕ) → two b at % 256 ≡ byte b (at + 1)
  unfolding two
  low at = omega (arith, small (at + 1))

  -- and of four
  upper : (at : ℕ) → four b at / 65536 ≡ two b at
  unfolding four two
  upper at = omega (arith, small (at + 2), small (at + 2 + 1))

  lower : (at : ℕ) → four b at % 65536 ≡ two b (at + 2)
  unfolding four two
  lower at = omega (arith, small (at + 2), small (at + 2 + 1))

  none : (at : ℕ) → two b at ≡ 0 → (0 ≡ byte b at) × (0 ≡ byte b (at + 1))
  unfolding two
  none at e = omega arith

  record_spelled : (at : ℕ) → at + 16 ≤ length b → byte b (at + 5) ≡ 0 → byte b (at + 15) ≡ 0 → record_of (private_at b at) (shared_at b at) ≡ take 16 (drop at b)
  unfolding record_of private_at shared_at
  record_spelled at h five fifteen =
      simp (high, low) (cc (five, fifteen, add-zero at, add_assoc at 6 1, add_assoc at 10 1, spelled 16 at b h))

-- a module's parts
module _ (b : List ℕ) (p : ℕ) (least : 1 ≤ p) (most : p ≤ modules b) where
  within_n : within 1 (modules b) p ≡ true
  within_n = ap₂ (λ (x y : Bool). x && y) (le-leb 1 p least) (le-leb p (modules b) most)

  pub private_read : (read b).private p ≡ private_at b (record_at b p)
  unfolding read
  private_read = ap (λ (x : Bool). cond x (private_at b (record_at b p)) idle) within_n

  pub shared_read : (read b).shared p ≡ shared_at b (record_at b p)
  unfolding read
  shared_read = ap (λ (x : Bool). cond x (shared_at b (record_at b p)) untouched) within_n

-- four parts of a list that follow one another
joined : (b : List ℕ) (first n : ℕ) {x y z : List ℕ} → x ≡ take n (drop first b) → y ≡ take capacity (drop (first + n) b) → z ≡ drop (first + (n + capacity)) b → take first b ++ (x ++ y ++ z) ≡ b
joined b first n {x} {y} {z} ex ey ez =
    let rest : List ℕ = drop first b in
    let parts : take first b ++ (x ++ y ++ z) ≡ take first b ++ (take n rest ++ take capacity (drop n rest) ++ drop (n + capacity) rest) =
    λ i. take first b ++ (ex i ++ (ey ∙ ap (λ (l : List ℕ). take capacity l) (sym (drop-drop n first b))) i ++ (ez ∙ sym (drop-drop (n + capacity) first b)) i) in
    parts
    ∙ ap (λ (l : List ℕ). take first b ++ (l ++ drop (n + capacity) rest)) (sym (take-add n capacity rest))
    ∙ ap (λ (l : List ℕ). take first b ++ l) (take-append-drop (n + capacity) rest)
    ∙ take-append-drop first b

pub length_held : (b : List ℕ) → length_for (modules b) ≤ length b → held b ≤ capacity → length (read b).log ≡ held b
unfolding read
length_held b fits few = length-take-le (held b) (drop (log_at b) b) (omega (arith, length-drop (log_at b) b))

module _ (b : List ℕ) (w : Written b) (bytes : (i : ℕ) → byte b i < 256) where
  records_spelled : (k : ℕ) → k ≤ modules b → records_of k (read b) ≡ take (16 * k) (drop (first_at b) b)
  unfolding records_of
  records_spelled zero h = refl
  records_spelled (suc k) h =
      let at : ℕ = record_at b (suc k) in
      let place : at ≡ first_at b + 16 * k = omega arith in
      let more : 16 * k + 16 ≡ 16 * suc k = omega arith in
      let zeros : (byte b (at + 5) ≡ 0) × (byte b (at + 15) ≡ 0) = w.record_zeros (suc k) (omega arith) h in
      ap₂ (λ (x y : List ℕ). x ++ y) (records_spelled k (omega arith))
      (ap₂ record_of (private_read b (suc k) (omega arith) h) (shared_read b (suc k) (omega arith) h)
      ∙ record_spelled b bytes at (omega (arith, w.fits)) zeros.0 zeros.1
      ∙ ap (λ (i : ℕ). take 16 (drop i b)) place
      ∙ ap (λ (l : List ℕ). take 16 l) (sym (drop-drop (16 * k) (first_at b) b)))
      ∙ sym (take-add (16 * k) 16 (drop (first_at b) b))
      ∙ ap (λ (i : ℕ). take i (drop (first_at b) b)) more

  log_spelled : log_of (read b).log ≡ take capacity (drop (log_at b) b)
  unfolding log_of read
  log_spelled =
      ap₂ (λ (x y : List ℕ). x ++ y) (sym (take-take (held b) capacity (drop (log_at b) b) w.held_fits))
      (ap (λ (k : ℕ). replicate (capacity - k) 0) (length_held b w.fits w.held_fits) ∙ sym w.rest)
      ∙ take-append-drop (held b) (take capacity (drop (log_at b) b))

  trailer_spelled : trailer_of (read b) ≡ drop (trailer_at b) b
  unfolding trailer_of read held
  trailer_spelled =
      let at : ℕ = trailer_at b in
      let length_is : length (take (held b) (drop (log_at b) b)) ≡ two b (at + 4) = length_held b w.fits w.held_fits in
      let zeros : (0 ≡ byte b (at + 6)) × (0 ≡ byte b (at + 6 + 1)) = none b bytes (at + 6) w.zeros in
      let all : drop at b ≡ spell 12 (λ k. byte b (at + k)) =
      sym (take_all 12 (drop at b) (omega (arith, length-drop at b))) ∙ spelled 12 at b (omega (arith, w.fits)) in
      simp (length_is, ← w.distance, high b bytes, low b bytes, upper b bytes, lower b bytes, add_assoc)
      (cc (w.edition, zeros.0, zeros.1, add-zero at, add_assoc at 6 1, all))

  pub put_read : put (read b) b ≡ b
  unfolding put write read
  put_read =
      joined b (first_at b) (16 * modules b) (records_spelled (modules b) (omega arith))
      (log_spelled ∙ ap (λ (i : ℕ). take capacity (drop i b)) log_there)
      (trailer_spelled ∙ ap (λ (i : ℕ). drop i b) trailer_there)
    where
      log_there : log_at b ≡ first_at b + 16 * modules b
      log_there = omega (arith, w.fits)

      trailer_there : trailer_at b ≡ first_at b + (16 * modules b + capacity)
      trailer_there = omega (arith, w.fits)
