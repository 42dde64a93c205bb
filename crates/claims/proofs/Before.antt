-- A call on a sound image by a desk of before R-1, or by one of today, is the call on the table that it shows. Assumes nothing.
use Prim.Native.Nat.{ℕ, ◌≤◌}
use mathlib.Core.Path.{◌≡◌, sym, ◌∙◌, subst, subst₂}
use mathlib.Core.Bool.{Bool, cond}
use mathlib.Core.List.{List}
use lib.Dec.{leb}
use lib.ListN.{length}
use native.Mathlib.Omega.{arith}
use Rattle.laws.proofs.Cases.{choose, cond_map₂}
use Rattle.link.specs.Count.{next, size}
use Rattle.stage.proofs.SoundCalls.{Soundly}
use Rattle.stage.proofs.Soundly.{SoundMe}
use Rattle.stage.proofs.Update.{upd_all}
use Rattle.stage.specs.Calls.{Call, called}
use Rattle.stage.specs.Rows.{goes}
use Rattle.stage.specs.Table.{Table, idle}
use Rattle.layout.proofs.ReadBack.{Held}
use Rattle.layout.specs.Layout.{length_for, put}
use Rattle.image.proofs.Sound as Sound
use Rattle.image.specs.Call.{reply, image}
use Rattle.line.proofs.Desks.{called_table, left_or}
use Rattle.line.specs.Mixed.{unraised, left_before, sound_before, called_by}
use Rattle.claims.proofs.Images.{Shows, known, outside, fits_read, put_shows, says_is, leaves_is}
use Rattle.claims.specs.Claims.{images}
use Rattle.stage.specs.Answers.{Reply}
use Rattle.stage.specs.declared.Refusal.TheVariants.{Unsound}
use Rattle.std.specs.Prelude.{Err}

-- a module at stage 19 is one of the table
module _ (t : Table) (sound_t : Soundly t) (held : Held t) (p : ℕ) (at_19 : (t.private p).stage ≡ 19) where
  is_p : (1 ≤ p) × (p ≤ t.n)
  is_p = known t held.private_outside p (λ z. omega (arith, at_19, z))

  at_3 : SoundMe t.n (goes 3 (t.private p))
  at_3 = let m = sound_t.private p is_p.0 is_p.1 in let o = m.busy (omega arith) in omega arith

  unraised_sound : Soundly (unraised p t)
  unfolding unraised
  unraised_sound =
      record {
        some = sound_t.some;
        few = sound_t.few;
        held = sound_t.held;
        entries = sound_t.entries;
        lock = sound_t.lock;
        private = upd_all t.private p _ (λ q me. 1 ≤ q → q ≤ t.n → SoundMe t.n me) (λ low high. at_3) (λ q other. sound_t.private q);
        shared = sound_t.shared;
      }

  unraised_held : Held (unraised p t)
  unfolding unraised
  unraised_held =
      record {
        few = held.few;
        private_outside = outside t.private t.n p _ idle is_p.0 is_p.1 held.private_outside;
        shared_outside = held.shared_outside;
      }

module _ (long : ℕ) (s : List ℕ) (t : Table) (shows : Shows long s t) where
  sound_t : Soundly t
  sound_t = subst Soundly shows.table (Sound.table s shows.is)

  room : length_for t.n ≤ length s
  room = subst (λ (t' : Table). length_for t'.n ≤ length s) shows.table (fits_read s shows.is)

  -- the image shows t; rewritten, it shows what a desk of before R-1 leaves in place of t
  rewritten : (c : Call) (earlier : Table) → Shows long (put (left_before c earlier t) s) (left_before c earlier t)
  unfolding unraised
  rewritten c earlier =
      left_or (λ (t' : Table). Shows long (put t' s) t') c earlier t (as_long t (put_shows t s sound_t shows.held room))
      (λ p e. as_long (unraised p t) (put_shows (unraised p t) s (unraised_sound t sound_t shows.held p e) (unraised_held t sound_t shows.held p e) room))
    where
      as_long : (t' : Table) → Shows (length s) (put t' s) t' → Shows long (put t' s) t'
      as_long t' = subst (λ (k : ℕ). Shows k (put t' s) t') shows.length_is

module _ (long : ℕ) (s : List ℕ) (t : Table) (shows : Shows long s t) (c : Call) (before : Bool) where
  abbrev fits : ℕ → Bool
  fits k = leb (length_for k) long

  abbrev Both : Type 0
  Both = (Reply × List ℕ) × (Reply × Table)

  abbrev Alike : Both → Type 0
  Alike r = (r.0.0 ≡ r.1.0) × Shows long r.0.1 r.1.1

  abbrev s' : List ℕ
  s' = image c s

  abbrev r' : Reply × Table
  r' = called (next size) fits c t

  now : Shows long s' r'.1
  now = leaves_is long s t shows c

  -- what is said and left, of the image and of the table
  abbrev old : Both
  old = ((reply c s, put (left_before c t r'.1) s'), (r'.0, left_before c t r'.1))

  abbrev unsound : Both
  unsound = ((Err Unsound, s), (Err Unsound, t))

  abbrev today : Both
  today = ((reply c s, s'), r')

  both_alike : Alike (cond before (cond (sound_before c t) old unsound) today)
  both_alike =
      choose Alike before
      (λ _. choose Alike (sound_before c t) (λ _. (says_is long s t shows c, rewritten long s' r'.1 now c t)) (λ _. (λ i. Err Unsound, shows)))
      (λ _. (says_is long s t shows c, now))

  of_image : (cond before (cond (sound_before c t) old unsound) today).0 ≡ called_by before images put c s
  unfolding called_by
  of_image =
      cond_map₂ (λ (r : Both). r.0) before (sound_before c t) old unsound today
      ∙ sym (λ i. cond before (cond (sound_before c (shows.table i)) (reply c s, put (left_before c (shows.table i) (now.table i)) s') (Err Unsound, s)) (reply c s, s'))

  of_table : (cond before (cond (sound_before c t) old unsound) today).1 ≡ called_table before (next size) fits c t
  unfolding called_by
  of_table = cond_map₂ (λ (r : Both). r.1) before (sound_before c t) old unsound today

  pub alike : Alike (called_by before images put c s, called_table before (next size) fits c t)
  alike = subst₂ (λ (r : Reply × List ℕ) (r' : Reply × Table). Alike (r, r')) of_image of_table both_alike
