-- The tests that the code makes, on the parts that it cuts an image into, are `sound`.
-- Assumes nothing.
use Prim.Native.Nat.{ℕ, suc, ◌+◌, ◌-◌, ◌*◌, ◌<◌, ◌≤◌}
use mathlib.Core.Path.{◌≡◌, refl, ◌∙◌, ap}
use mathlib.Core.Bool.{Bool, true, false, cond, ◌&&◌, and-true, and-false}
use mathlib.Core.List.{List}
use native.Mathlib.Omega.{arith}
use borrow.Author.Tests.{leb-true, leb-false, le-leb, lt-leb}
use lib.Dec.{eqb, leb}
use lib.ListN.{length, take, drop, length-take}
use Rattle.std.specs.List.{list_all}
use Rattle.std.specs.Simd.{first_chunks}
use Rattle.std.proofs.lemmas.List.{get_or-take, get_or-drop, take-take, drop-take}
use Rattle.stage.specs.Calls.{within, capacity}
use Rattle.stage.specs.Sound.{every, each, sound_private, sound_shared, sound_table}
use Rattle.stage.specs.Table.{idle, untouched}
use Rattle.stage.specs.declared.Private.{Private}
use Rattle.stage.specs.declared.Shared.{Shared}
use Rattle.layout.specs.Layout.{byte, two, four, distance_for, length_for, trailer_at, log_at, record_at, modules, held, read, private_at, shared_at}
use Rattle.soundness.specs.SoundImage.{sound_trailer, sound_zeros, sound_log, sound}
use Rattle.soundness.specs.Parts.{trailer_right, log_right, record_right, content_right}
use Rattle.soundness.proofs.Lists.{sorted, only_zero, all_are, every_same, every_and}
use Rattle.soundness.proofs.Records.{chunks_every, record_is}

-- the trailer's tests by where its bytes lie in the image
two_there : (b : List ℕ) (at k : ℕ) → two (drop at b) k ≡ two b (at + k)
unfolding two
two_there b at k = let e : at + (k + 1) ≡ at + k + 1 = omega arith in rw (get_or-drop at b k 0, get_or-drop at b (k + 1) 0, e)

trailer_there : (b : List ℕ) (at n : ℕ)
    → trailer_right (drop at b) n
    ≡ (eqb (byte b (at + 1)) 1 && eqb (two b (at + 6)) 0 && eqb (four b (at + 8)) (distance_for n) && leb 1 n && leb (byte b at) n)
unfolding trailer_right four
trailer_there b at n =
    let e : at + 10 ≡ at + 8 + 2 = omega arith in
    let z : at + 0 ≡ at = omega arith in
    rw (get_or-drop at b 1 0, get_or-drop at b 0 0, two_there b at 6, two_there b at 8, two_there b at 10, e, z)

-- what a table has of a module is what is read at its record
there : {A : Type 0} (n p : ℕ) (x y : A) → 1 ≤ p → p ≤ n → cond (within 1 n p) x y ≡ x
there n p x y low high = rw (le-leb 1 p low, le-leb p n high)

records_are : (n : ℕ) (zeros : ℕ → Bool) (me : ℕ → Private) (its : ℕ → Shared) (x : Private) (y : Shared)
    → every n (λ p. zeros p && sound_private n (me p) && sound_shared n (its p))
    ≡ (every n zeros && every n (λ p. sound_private n (cond (within 1 n p) (me p) x)) && every n (λ p. sound_shared n (cond (within 1 n p) (its p) y)))
records_are n zeros me its x y =
    every_same _ (λ p. zeros p && sound_private n (cond (within 1 n p) (me p) x) && sound_shared n (cond (within 1 n p) (its p) y)) n
    (λ p low high. rw (there n p (me p) x low high, there n p (its p) y low high))
    ∙ every_and _ _ n
    ∙ ap (λ (t : Bool). t && every n (λ p. sound_shared n (cond (within 1 n p) (its p) y))) (every_and _ _ n)

-- the records that the code cuts out of what is above the log
cut_out : (b : List ℕ) (n : ℕ) → 16 * n + 268 ≤ length b
    → list_all (record_right n) (first_chunks 16 n (drop (length (take (length b - 268) b) - 16 * n) (take (length b - 268) b)))
    ≡ every n (λ p. sound_zeros b (length b - length_for n + 16 * (p - 1)) && sound_private n (private_at b (length b - length_for n + 16 * (p - 1)))
    && sound_shared n (shared_at b (length b - length_for n + 16 * (p - 1))))
cut_out b n fits = chunks_every (record_right n) n _ cut (λ i below. record_is n (take 16 (drop (16 * i) cut)) b _ (same i below))
  where
    above : List ℕ
    above = take (length b - 268) b

    cut : List ℕ
    cut = drop (length above - 16 * n) above

    same : (i : ℕ) → i < n → (j : ℕ) → j < 16 → byte (take 16 (drop (16 * i) cut)) j ≡ byte b (length b - length_for n + 16 * (suc i - 1) + j)
    same i below j small =
        let long : length above ≡ length b - 268 = simp length-take (omega arith) in
        let place : length b - 268 - 16 * n + (16 * i + j) ≡ length b - length_for n + 16 * (suc i - 1) + j = omega arith in
        get_or-take 16 (drop (16 * i) cut) j 0 small
        ∙ get_or-drop (16 * i) cut j 0
        ∙ get_or-drop (length above - 16 * n) above (16 * i + j) 0
        ∙ rw long (get_or-take (length b - 268) b (length b - 268 - 16 * n + (16 * i + j)) 0 (omega arith) ∙ ap (byte b) place)

-- what the code tests
unfoldable pub checks : List ℕ → List ℕ → List ℕ → ℕ → ℕ → Bool
checks above log t n h = trailer_right t n && content_right above log n h

-- the order of `checks` in an image that is long enough, and that of `sound`
reorder : (v e z d w lk en r m p s : Bool)
    → (e && z && d && w && lk && (v && (en && r && (m && p && s))))
    ≡ (e && z && d && m && r && (w && v && en && lk && p && s))
reorder v e z d w lk en r m p s = simp sorted

checks_are : (b : List ℕ) → 268 ≤ length b
    → checks (take (length b - 268) b) (take 256 (drop (log_at b) b)) (drop (trailer_at b) b) (modules b) (held b) ≡ sound b
unfolding checks content_right log_right sound sound_trailer sound_log sound_table read
checks_are b long = go (leb (16 * modules b) (length (take (length b - 268) b))) refl (leb (held b) 256) refl
  where
    above : length (take (length b - 268) b) ≡ length b - 268
    above = simp length-take (omega arith)

    go : (s : Bool) → leb (16 * modules b) (length (take (length b - 268) b)) ≡ s → (t : Bool) → leb (held b) 256 ≡ t
        → checks (take (length b - 268) b) (take 256 (drop (log_at b) b)) (drop (trailer_at b) b) (modules b) (held b) ≡ sound b
    go false e t f =
        let short : length b < length_for (modules b) =
        let h : length (take (length b - 268) b) < 16 * modules b = leb-false (16 * modules b) (length (take (length b - 268) b)) e in omega (arith, above)
        in rw (e, lt-leb (length_for (modules b)) (length b) short) (simp and-false)
    go true e false f = rw f (simp and-false)
    go true e true f =
        let n = modules b in
        let at = trailer_at b in
        let log = drop (log_at b) b in
        let fits : length_for n ≤ length b =
        let h : 16 * n ≤ length (take (length b - 268) b) = leb-true (16 * n) (length (take (length b - 268) b)) e in omega (arith, above)
        in let h : held b ≤ 256 = leb-true (held b) 256 f in
        let twelve : leb 12 (length b) ≡ true = le-leb 12 (length b) (omega arith) in
        let held_long : leb (length (take (held b) log)) 256 ≡ true = le-leb (length (take (held b) log)) 256 (simp length-take (omega arith)) in
        rw (
          e,
          f,
          twelve,
          held_long,
          le-leb (length_for n) (length b) fits,
          take-take (held b) 256 log h,
          all_are (within 1 n) (within 1 n) (λ x. refl),
          all_are (within 0 0) (eqb 0) (λ x. (only_zero x).0),
          trailer_there b at n,
          cut_out b n fits,
          records_are n (λ p. sound_zeros b (record_at b p)) (λ p. private_at b (record_at b p)) (λ p. shared_at b (record_at b p)) idle untouched,
        )
        (simp and-true
        (reorder (leb n 64) (eqb (byte b (at + 1)) 1) (eqb (two b (at + 6)) 0) (eqb (four b (at + 8)) (distance_for n)) (leb 1 n) (leb (byte b at) n)
        (each (within 1 n) (take (held b) log)) (each (eqb 0) (drop (held b) (take capacity log))) _ _ _))

-- an image that is too short for a trailer or a log
pub too_short : (b : List ℕ) → length b < 268 → false ≡ sound b
unfolding sound sound_trailer
too_short b h = rw (lt-leb (length_for (modules b)) (length b) (omega arith)) (simp and-false)

-- the two parts that a list is cut into, of which the second has k elements
abbrev Cut : ℕ → List ℕ → List ℕ → List ℕ → Type 0
Cut k l front back = (front ≡ take (length l - k) l) × (back ≡ drop (length l - k) l) × (length front + k ≡ length l)

pub answer : (b upper above log t : List ℕ) (n h : ℕ) (r : Bool) → Cut 12 b upper t → Cut 256 upper above log → n ≡ two t 2 → h ≡ two t 4
    → r ≡ checks above log t n h → r ≡ sound b
unfolding held
answer b upper above log t n h r first second en eh e =
    let short : length upper - 256 ≡ length b - 268 = omega (arith, first.2) in
    let long : length b - 12 ≡ length b - 268 + 256 = omega (arith, first.2, second.2) in
    let above_is : above ≡ take (length b - 268) b = second.0 ∙ rw (short, first.0) (take-take (length b - 268) (length b - 12) b (omega arith)) in
    let log_is : log ≡ take 256 (drop (log_at b) b) = second.1 ∙ rw (short, first.0, long) (drop-take (length b - 268) 256 b) in
    let n_is : n ≡ modules b = en ∙ rw first.1 (two_there b (trailer_at b) 2) in
    let h_is : h ≡ two b (trailer_at b + 4) = eh ∙ rw first.1 (two_there b (trailer_at b) 4) in
    e ∙ rw (above_is, log_is, first.1, n_is, h_is) (checks_are b (omega (arith, first.2, second.2)))
