-- What a sound image is known for: its ranges, the rules on its table, and all that writing it back asks. And an image is sound where it is
-- written right and its table is sound.
-- Assumes nothing.
use mathlib.Core.Path.{◌≡◌, refl, sym, ◌∙◌, ap, ap₂}
use mathlib.Core.Bool.{Bool, true, ◌&&◌}
use mathlib.Core.List.{List, [], ◌∷◌}
use Prim.Native.Nat.{ℕ, zero, suc, ◌-◌, ◌≤◌}
use native.Mathlib.Omega.{arith}
use borrow.Author.Tests.{eqb-true, eq-eqb, leb-true, le-leb}
use lib.Dec.{eqb, leb}
use lib.ListN.{length, take, drop, replicate, length-drop}
use lib.Seq.{length-take-le}
use Rattle.laws.proofs.Cases.{both_hold, both_are}
use Rattle.stage.specs.Calls.{capacity}
use Rattle.stage.specs.Sound.{every, each, sound_table}
use Rattle.stage.specs.Table.{Table}
use Rattle.stage.proofs.Every.{every_gives, every_holds}
use Rattle.stage.proofs.SoundCalls.{Soundly, table_facts}
use Rattle.layout.specs.Layout.{length_for, modules, log_at, record_at, held, read, put}
use Rattle.layout.proofs.ReadBack.{Held, put_written, read_put}
use Rattle.layout.proofs.Rewritten.{Written}
use Rattle.soundness.specs.SoundImage.{sound_trailer, sound_zeros, sound_log, sound}

all_zero : (l : List ℕ) → each (eqb 0) l ≡ true → l ≡ replicate (length l) 0
unfolding each
all_zero [] e = refl
all_zero (x ∷ l) e = let f = both_hold (eqb 0 x) (each (eqb 0) l) e in ap₂ (λ (y : ℕ) (r : List ℕ). y ∷ r) (sym (eqb-true 0 x f.0)) (all_zero l f.1)

zero_all : (k : ℕ) → each (eqb 0) (replicate k 0) ≡ true
unfolding each
zero_all zero = refl
zero_all (suc k) = zero_all k

-- the rules on the bytes
abbrev bytes : List ℕ → Bool
bytes b = sound_trailer b && every (modules b) (λ p. sound_zeros b (record_at b p)) && sound_log b

module _ (b : List ℕ) (is : sound b ≡ true) where
  -- all but what the bytes mean
  pub written : Written b
  unfolding sound sound_trailer sound_zeros sound_log
  written =
      let log = both_hold _ _ (both_hold (bytes b) (sound_table (read b)) is).0 in
      let zeros = both_hold _ _ log.0 in
      let room = both_hold _ _ zeros.0 in
      let distance = both_hold _ _ room.0 in
      let zero_bytes = both_hold _ _ distance.0 in
      let entries = both_hold _ _ log.1 in
      let all : List ℕ = take capacity (drop (log_at b) b) in
      let fits : length_for (modules b) ≤ length b = leb-true _ _ room.1 in
      record {
        fits = fits;
        edition = eqb-true _ _ (both_hold (leb 12 (length b)) _ zero_bytes.0).1;
        zeros = eqb-true _ _ zero_bytes.1;
        distance = eqb-true _ _ distance.1;
        record_zeros = λ p least most.
            let both = both_hold _ _ (every_gives (modules b) (λ q. sound_zeros b (record_at b q)) zeros.1 p least most) in
            (eqb-true _ _ both.0, eqb-true _ _ both.1);
        held_fits = leb-true _ _ entries.0;
        rest =
            all_zero (drop (held b) all) entries.1
            ∙ ap (λ (k : ℕ). replicate k 0) (length-drop (held b) all ∙ ap (λ (k : ℕ). k - held b) (length-take-le capacity (drop (log_at b) b) (omega (arith, length-drop (log_at b) b))));
      }

  pub table : Soundly (read b)
  unfolding sound
  table = table_facts (read b) (both_hold (bytes b) (sound_table (read b)) is).1

sound_image : (b : List ℕ) → Written b → sound_table (read b) ≡ true → sound b ≡ true
unfolding sound sound_trailer sound_zeros sound_log
sound_image b w is =
    both_are
    (both_are
    (both_are
    (both_are (both_are (both_are (both_are (le-leb 12 (length b) (omega (arith, w.fits))) (eq-eqb _ _ w.edition)) (eq-eqb _ _ w.zeros)) (eq-eqb _ _ w.distance)) (le-leb _ _ w.fits))
    (every_holds (modules b) (λ p. sound_zeros b (record_at b p)) (λ p least most. let z = w.record_zeros p least most in both_are (eq-eqb _ _ z.0) (eq-eqb _ _ z.1))))
    (both_are (le-leb _ _ w.held_fits) (ap (each (eqb 0)) w.rest ∙ zero_all (capacity - held b))))
    is

-- so the image of a sound table is sound
pub put_sound : (t : Table) (b : List ℕ) → Held t → sound_table t ≡ true → length_for t.n ≤ length b → sound (put t b) ≡ true
put_sound t b held is fits = sound_image (put t b) (put_written t b (record { fits = fits; held = held.few })) (ap sound_table (read_put t b held fits) ∙ is)
