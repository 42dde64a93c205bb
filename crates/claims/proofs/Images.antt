-- A call on a sound image is the machine's call on the table that it shows. Assumes nothing.
use Prim.Native.Nat.{ℕ, ◌≤◌}
use mathlib.Core.Path.{◌≡◌, refl, sym, ◌∙◌, ap, subst, subst₂}
use mathlib.Core.Bool.{Bool, true, false, cond, not}
use mathlib.Core.List.{List, ◌∷◌}
use mathlib.Core.Logic.{⊎_elim}
use lib.Dec.{leb}
use lib.ListN.{length}
use native.Mathlib.Omega.{arith}
use borrow.Author.Tests.{leb-true, le-leb, not-false}
use Rattle.laws.proofs.Cases.{test, both_are, both_hold}
use Rattle.laws.proofs.Said.{no_right}
use Rattle.link.specs.Count.{next, size}
use Rattle.stage.proofs.Refusing.{Unrefused, refused_or, refusing_map, is_within}
use Rattle.stage.proofs.SoundCalls.{Soundly, looks_known, accepted_sound, table_tests}
use Rattle.stage.proofs.Update.{upd_all}
use Rattle.stage.specs.Calls.{Call, set_up, begin_acquisition, begin_release, step, take_log, asks_sound, within, refusals, refusing, answered, after, called}
use Rattle.stage.specs.Rows.{looks_at}
use Rattle.stage.specs.Table.{Table, upd, idle, untouched, fresh_table, begun_acquisition, begun_release, after_step, log_taken}
use Rattle.stage.specs.declared.Private.{Private}
use Rattle.layout.proofs.ReadBack.{Held, length_put, read_put}
use Rattle.layout.specs.Layout.{length_for, record_at, private_at, shared_at, read, put}
use Rattle.soundness.specs.SoundImage.{sound}
use Rattle.image.proofs.Sound as Sound
use Rattle.image.proofs.Sound.{put_sound}
use Rattle.image.specs.Call.{refused, reply, image}
use Rattle.stage.specs.Answers.{Reply}
use Rattle.stage.specs.declared.Refusal.{Refusal}
use Rattle.stage.specs.declared.Refusal.TheVariants.{Unsound}
use Rattle.std.specs.Prelude.{Ok, Err}

-- what stands outside 1 to n stays where a module's part is changed
pub outside : {A : Type 0} (f : ℕ → A) (n p : ℕ) (v other : A) → 1 ≤ p → p ≤ n
    → ((q : ℕ) → within 1 n q ≡ false → f q ≡ other)
    → (q : ℕ) → within 1 n q ≡ false → upd f p v q ≡ other
outside f n p v other low high all =
    upd_all f p v (λ q x. within 1 n q ≡ false → x ≡ other)
    (λ e. absurd (let z : ◌≡◌ {A = ℕ} 0 1 = ap (λ (b : Bool). cond b 0 1) (sym (both_are (le-leb 1 p low) (le-leb p n high)) ∙ e) in omega arith))
    (λ q ne. all q)

pub fresh_held : (k : ℕ) → Held (fresh_table k)
unfolding fresh_table
fresh_held k = record { few = omega arith; private_outside = λ p e. refl; shared_outside = λ p e. refl }

-- an accepted call leaves a table that an image can hold
held_after : (bump : ℕ → ℕ) (room : ℕ → Bool) (c : Call) (t : Table) → Soundly t → Unrefused (refusals bump room c t) → Held t → Held (after bump c t)
unfolding refusals after begun_acquisition begun_release after_step log_taken
held_after bump room (set_up k) t s u h = fresh_held k
held_after bump room (begin_acquisition p r) t s u h =
    let k = is_within 1 t.n p u.0 in
    record {
      few = h.few;
      private_outside = outside t.private t.n p _ idle k.0 k.1 h.private_outside;
      shared_outside = outside t.shared t.n p _ untouched k.0 k.1 h.shared_outside;
    }
held_after bump room (begin_release p) t s u h =
    let k = is_within 1 t.n p u.0 in
    record {
      few = h.few;
      private_outside = outside t.private t.n p _ idle k.0 k.1 h.private_outside;
      shared_outside = h.shared_outside;
    }
held_after bump room (step p) t s u h =
    let k = is_within 1 t.n p u.0 in
    let there = looks_known t.n p (t.private p) k.0 k.1 (s.private p k.0 k.1) in
    record {
      few = (accepted_sound bump room (step p) t s u).held;
      private_outside = outside t.private t.n p _ idle k.0 k.1 h.private_outside;
      shared_outside = outside t.shared t.n (looks_at p (t.private p)) _ untouched there.0 there.1 h.shared_outside;
    }
held_after bump room (take_log k) t s u h = record { few = omega arith; private_outside = h.private_outside; shared_outside = h.shared_outside }

-- a call but set-up leaves n; set-up was not refused for want of room
room_after : (bump : ℕ → ℕ) (long : ℕ) (c : Call) (t : Table) → Unrefused (refusals bump (λ k. leb (length_for k) long) c t) → length_for t.n ≤ long → length_for (after bump c t).n ≤ long
unfolding refusals after fresh_table begun_acquisition begun_release after_step log_taken
room_after bump long (set_up k) t u h = leb-true (length_for k) long (not-false (leb (length_for k) long) u.1.0)
room_after bump long (begin_acquisition p r) t u h = h
room_after bump long (begin_release p) t u h = h
room_after bump long (step p) t u h = h
room_after bump long (take_log k) t u h = h

pub fits_read : (b : List ℕ) → sound b ≡ true → length_for (read b).n ≤ length b
unfolding read
fits_read b is = (Sound.written b is).fits

-- the image s is sound, in a buffer of this length, and shows t
pub record Shows (long : ℕ) (s : List ℕ) (t : Table) : Type 0 where
  pub is : sound s ≡ true
  pub length_is : length s ≡ long
  pub table : read s ≡ t
  pub held : Held t

-- a sound table that fits, once it is written
pub put_shows : (t : Table) (s : List ℕ) → Soundly t → Held t → length_for t.n ≤ length s → Shows (length s) (put t s) t
put_shows t s sound_t held room =
    record {
      is = put_sound t s held (table_tests t sound_t) room;
      length_is = length_put t s (record { fits = room; held = held.few });
      table = read_put t s held room;
      held = held;
    }

-- a sound image shows the table that is read from it, idle outside 1 to n
pub read_idle : (b : List ℕ) (p : ℕ) → within 1 (read b).n p ≡ false → (read b).private p ≡ idle
unfolding read
read_idle b p e = ap (λ x. cond x (private_at b (record_at b p)) idle) e

pub shown : (b : List ℕ) → sound b ≡ true → Shows (length b) b (read b)
unfolding read
shown b is =
    record {
      is = is;
      length_is = refl;
      table = refl;
      held =
          record {
            few = (Sound.table b is).held;
            private_outside = read_idle b;
            shared_outside = λ p e. ap (λ x. cond x (shared_at b (record_at b p)) untouched) e;
          };
    }

-- so whoever is not idle is a module of the table
pub known : (t : Table) → ((p : ℕ) → within 1 t.n p ≡ false → t.private p ≡ idle)
    → (a : ℕ) → ((t.private a).stage ≡ 0 → ⊥) → (1 ≤ a) × (a ≤ t.n)
unfolding idle
known t outside_n a busy_a =
    ⊎_elim (λ e. let f = both_hold (leb 1 a) (leb a t.n) e in (leb-true 1 a f.0, leb-true a t.n f.1))
    (λ e. absurd (busy_a (ap (λ (me : Private). me.stage) (outside_n a e))))
    (test (within 1 t.n a))

module _ (long : ℕ) (s : List ℕ) (t : Table) (shows : Shows long s t) (c : Call) where
  abbrev room : ℕ → Bool
  room k = leb (length_for k) long

  abbrev tests : List (Bool × Refusal)
  tests = refusals (next size) room c t

  sound_t : Soundly t
  sound_t = subst Soundly shows.table (Sound.table s shows.is)

  -- it is refused for what the machine refuses it for
  refused_is : refused c s ≡ (false, Unsound) ∷ tests
  unfolding refused
  refused_is =
      λ i. (no_right (asks_sound c) (not (sound s)) (ap not shows.is) i, Unsound)
      ∷ refusals (next size) (λ k. leb (length_for k) (shows.length_is i)) c (shows.table i)

  pub says_is : reply c s ≡ (called (next size) room c t).0
  unfolding reply called refusing
  says_is =
      (λ i. refusing (refused_is i) Err (Ok (answered (next size) c (shows.table i))))
      ∙ sym (refusing_map (λ (r : Reply × Table). r.0) tests (λ k. (Err k, t)) (Ok (answered (next size) c t), after (next size) c t))

  -- what is left, in bytes and as a table
  abbrev left : List ℕ × Table
  left = refusing tests (λ k. (s, t)) (put (after (next size) c t) s, after (next size) c t)

  left_shows : Shows long left.0 left.1
  left_shows =
      refused_or (λ (r : List ℕ × Table). Shows long r.0 r.1) tests (λ k. (s, t)) (put (after (next size) c t) s, after (next size) c t)
      (λ k. shows)
      (λ u.
      subst (λ (k : ℕ). Shows k (put (after (next size) c t) s) (after (next size) c t)) shows.length_is
      (put_shows (after (next size) c t) s (accepted_sound (next size) room c t sound_t u) (held_after (next size) room c t sound_t u shows.held)
      (subst (λ (k : ℕ). length_for (after (next size) c t).n ≤ k) (sym shows.length_is)
      (room_after (next size) long c t u
      (subst₂ (λ (t' : Table) (k : ℕ). length_for t'.n ≤ k) shows.table shows.length_is (fits_read s shows.is))))))

  image_is : left.0 ≡ image c s
  unfolding image refusing
  image_is =
      refusing_map (λ (r : List ℕ × Table). r.0) tests (λ k. (s, t)) (put (after (next size) c t) s, after (next size) c t)
      ∙ sym (λ i. refusing (refused_is i) (λ k. s) (put (after (next size) c (shows.table i)) s))

  table_is : left.1 ≡ (called (next size) room c t).1
  unfolding called
  table_is =
      refusing_map (λ (r : List ℕ × Table). r.1) tests (λ k. (s, t)) (put (after (next size) c t) s, after (next size) c t)
      ∙ sym (refusing_map (λ (r : Reply × Table). r.1) tests (λ k. (Err k, t)) (Ok (answered (next size) c t), after (next size) c t))

  pub leaves_is : Shows long (image c s) (called (next size) room c t).1
  leaves_is = subst₂ (Shows long) image_is table_is left_shows
