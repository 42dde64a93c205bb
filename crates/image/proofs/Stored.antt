-- What a call stores, part after part, is the image of the table after it.
-- Assumes nothing.
use mathlib.Core.Path.{◌≡◌, refl, sym, ◌∙◌, ap, ap₂}
use mathlib.Core.Bool.{true, false, false≢true}
use mathlib.Core.List.{List, [], ◌∷◌, ◌++◌}
use Prim.Native.Nat.{ℕ, ◌+◌, ◌-◌, ◌≤◌, ◌<◌}
use native.Mathlib.Omega.{arith}
use lib.ListN.{length, set}
use lib.Seq.{paste}
use Rattle.link.specs.Count.{next, size}
use Rattle.stage.specs.Calls.{admits, capacity}
use Rattle.stage.specs.Rows.{goes, with_own, with_priority, looks_at}
use Rattle.stage.specs.Table.{Table, logged, begun_acquisition, begun_release, after_step, log_taken}
use Rattle.stage.specs.declared.Event.{Event}
use Rattle.stage.specs.declared.Event.TheVariants.{Done, Waiting, Admitted, Joined, Left, Finished, Taken, Nobody}
use Rattle.stage.specs.declared.Private.{Private}
use Rattle.stage.specs.declared.Shared.{Shared}
use Rattle.stage.specs.declared.Stepped.{Stepped}
use Rattle.layout.specs.Layout.{byte, trailer_at, log_at, shared_at, read, log_of, put}
use Rattle.layout.proofs.Stores.{puts}
use Rattle.layout.proofs.Changes.{with_private, with_shared, with_lock, with_log, private_bytes, shared_bytes, length_bytes, Room, place_in, put_private, put_shared, put_lock, put_logged, put_taken}
use Rattle.layout.proofs.Rewritten.{shared_read, length_held, put_read}
use Rattle.soundness.specs.SoundImage.{sound}
use Rattle.image.specs.declared.Module.{Module}
use Rattle.image.specs.declared.Looked.{Looked}
use Rattle.image.specs.Inside.{Framed, IsModule, Looks, parts_put}
use Rattle.image.proofs.Modules.{entries}
use Rattle.image.proofs.Sound.{written}

-- b₁ is the image of a table, and b₂ has one part more stored
module _ (t : Table) (b : List ℕ) (room : Room t b) {b₁ b₂ : List ℕ} (so_far : b₁ ≡ put t b) where
  then_private : {at : ℕ} (p : ℕ) (me : Private) → 1 ≤ p → p ≤ t.n → at ≡ place_in t b p → b₂ ≡ puts b₁ at (private_bytes me) → b₂ ≡ put (with_private t p me) b
  then_private p me least most place same = same ∙ ap₂ (λ (l : List ℕ) (i : ℕ). puts l i (private_bytes me)) so_far place ∙ sym (put_private t b room p me least most)

  then_shared : {at : ℕ} (p : ℕ) (its : Shared) → 1 ≤ p → p ≤ t.n → at ≡ place_in t b p → b₂ ≡ puts b₁ at (shared_bytes its) → b₂ ≡ put (with_shared t p its) b
  then_shared p its least most place same = same ∙ ap₂ (λ (l : List ℕ) (i : ℕ). puts l i (shared_bytes its)) so_far place ∙ sym (put_shared t b room p its least most)

  then_lock : {at : ℕ} (k : ℕ) → at ≡ length b - 12 → b₂ ≡ set b₁ at k → b₂ ≡ put (with_lock t k) b
  then_lock k place same = same ∙ ap₂ (λ (l : List ℕ) (i : ℕ). set l i k) so_far place ∙ sym (put_lock t b room k)

  then_logged : {log trailer entries : ℕ} (k : ℕ) → log ≡ length b - 268 → trailer ≡ length b - 12 → entries ≡ length t.log → entries < capacity →
      b₂ ≡ puts (set b₁ (log + entries) k) trailer (length_bytes (entries + 1)) → b₂ ≡ put (with_log t (t.log ++ k ∷ [])) b
  then_logged {log} {trailer} {entries} k log_is trailer_is entries_are h same =
      let there : puts (set b₁ (log + entries) k) trailer (length_bytes (entries + 1)) ≡ puts (set (put t b) (length b - 268 + length t.log) k) (length b - 12) (length_bytes (length t.log + 1)) =
      λ i. puts (set (so_far i) (log_is i + entries_are i) k) (trailer_is i) (length_bytes (entries_are i + 1)) in
      same ∙ there ∙ sym (put_logged t b room k (omega arith))

  then_taken : {zeros : List ℕ} {log trailer : ℕ} → log ≡ length b - 268 → trailer ≡ length b - 12 → zeros ≡ log_of [] → b₂ ≡ puts (paste b₁ log zeros capacity) trailer (length_bytes 0) → b₂ ≡ put (with_log t []) b
  then_taken {zeros} {log} {trailer} log_is trailer_is zero same =
      let there : puts (paste b₁ log zeros capacity) trailer (length_bytes 0) ≡ puts (paste (put t b) (length b - 268) (log_of []) capacity) (length b - 12) (length_bytes 0) =
      λ i. puts (paste (so_far i) (log_is i) (zero i) capacity) (trailer_is i) (length_bytes 0) in
      same ∙ there ∙ sym (put_taken t b room)

-- a sound image is the image of its table
module _ (b : List ℕ) (is : sound b ≡ true) (bytes : (i : ℕ) → byte b i < 256) where
  pub at_first : b ≡ put (read b) b
  at_first = sym (put_read b (written b is) bytes)

  pub room : Room (read b) b
  unfolding read
  room = record { fits = (written b is).fits; held = omega (arith, length_held b (written b is).fits (written b is).held_fits, (written b is).held_fits) }

  -- the log taken
  pub log_cleared : {zeros b₁ b₂ : List ℕ} → zeros ≡ log_of [] → b₁ ≡ paste b (log_at b) zeros capacity → b₂ ≡ puts b₁ (trailer_at b) (length_bytes 0) → b₂ ≡ put (log_taken (read b)) b
  unfolding log_taken
  log_cleared zero first second = then_taken (read b) b room at_first refl refl zero (second ∙ ap (λ (l : List ℕ). puts l (trailer_at b) (length_bytes 0)) first)

-- a module's call
module _ (b : List ℕ) (m : Module) (is : IsModule b m) (bytes : (i : ℕ) → byte b i < 256) where
  private_put : {b₁ : List ℕ} (me : Private) → b₁ ≡ puts b m.at (private_bytes me) → b₁ ≡ put (with_private (read b) m.number me) b
  unfolding read
  private_put me same = then_private (read b) b (room b is.framed.is bytes) (at_first b is.framed.is bytes) m.number me is.least is.most is.at_is same

  pub release_begun : {b₁ : List ℕ} (me : Private) → me ≡ goes 14 m.me → b₁ ≡ puts b m.at (private_bytes me) → b₁ ≡ put (begun_release (read b) m.number) b
  unfolding begun_release
  release_begun me begun same =
      private_put me same ∙ ap (λ (x : Private). put (with_private (read b) m.number x) b) (begun ∙ ap (λ (x : Private). goes 14 x) is.me_is)

  pub acquisition_begun : {b₁ b₂ : List ℕ} (r : ℕ) (me : Private) (old its : Shared) → me ≡ goes 1 (with_own r m.me) → old ≡ shared_at b m.at → its ≡ with_priority r old →
      b₁ ≡ puts b m.at (private_bytes me) → b₂ ≡ puts b₁ m.at (shared_bytes its) → b₂ ≡ put (begun_acquisition (read b) m.number r) b
  unfolding begun_acquisition read
  acquisition_begun r me old its begun old_is its_is first second =
      then_shared (with_private (read b) m.number me) b (room b is.framed.is bytes) (private_put me first) m.number its is.least is.most is.at_is second
      ∙ ap₂ (λ (x : Private) (y : Shared). put (with_shared (with_private (read b) m.number x) m.number y) b)
      (begun ∙ ap (λ (x : Private). goes 1 (with_own r x)) is.me_is)
      (its_is ∙ ap (λ (x : Shared). with_priority r x) (old_is ∙ ap (shared_at b) is.at_is ∙ sym (shared_read b m.number is.least is.most)))

-- a step that admits nobody keeps the log
pub kept : (log : List ℕ) (e : Event) → admits e ≡ false → logged log e ≡ log
unfolding logged
kept log Done no_e = refl
kept log Waiting no_e = refl
kept log (Admitted p) no_e = absurd (false≢true (sym no_e))
kept log Joined no_e = refl
kept log Left no_e = refl
kept log Finished no_e = refl
kept log (Taken k) no_e = refl
kept log Nobody no_e = refl

-- a step
module _ (b : List ℕ) (m : Module) (l : Looked) (looks : Looks b m l) (bytes : (i : ℕ) → byte b i < 256) where
  -- the parts in the table
  parts : Private → Stepped → Table
  parts me s = with_lock (with_shared (with_private (read b) m.number s.me) (looks_at m.number me) s.its) s.lock

  left : Table
  left = parts m.me l.stepped

  from_parts_put : {b₁ : List ℕ} → b₁ ≡ parts_put b m l → b₁ ≡ put left b
  unfolding parts_put parts left read
  from_parts_put same =
      let s : Stepped = l.stepped in
      let r : Room (read b) b = room b looks.is.framed.is bytes in
      let t : Table = with_private (read b) m.number s.me in
      then_lock (with_shared t (looks_at m.number m.me) s.its) b r
      (then_shared t b r (private_put b m looks.is bytes s.me refl) (looks_at m.number m.me) s.its looks.least looks.most looks.at_is refl)
      s.lock looks.is.framed.trailer_is same

  after_is : with_log left (logged (read b).log l.stepped.answer.event) ≡ after_step (next size) (read b) m.number
  unfolding parts left after_step
  after_is = ap₂ (λ (s : Stepped) (me : Private). with_log (parts me s) (logged (read b).log s.answer.event)) looks.stepped_is looks.is.me_is

  -- b₁ is the image with the parts stored, b₂ with the admission too
  pub kept_put : {b₁ : List ℕ} → b₁ ≡ parts_put b m l → admits l.stepped.answer.event ≡ false → b₁ ≡ put (after_step (next size) (read b) m.number) b
  unfolding parts left
  kept_put first no_e = from_parts_put first ∙ ap (λ (log : List ℕ). put (with_log left log) b) (sym (kept (read b).log _ no_e)) ∙ ap (λ (t : Table). put t b) after_is

  pub admitted_put : {b₁ b₂ : List ℕ} (k : ℕ) → b₁ ≡ parts_put b m l → b₂ ≡ puts (set b₁ (m.frame.log + m.frame.held) k) m.frame.trailer (length_bytes (m.frame.held + 1)) →
      l.stepped.answer.event ≡ Admitted k → m.frame.held < capacity → b₂ ≡ put (after_step (next size) (read b) m.number) b
  unfolding parts left logged
  admitted_put k first second e h =
      let framed : Framed b m.frame = looks.is.framed in
      then_logged left b (room b looks.is.framed.is bytes) (from_parts_put first) k framed.log_is framed.trailer_is (sym (entries b m.frame framed)) h second
      ∙ ap (λ (x : Event). put (with_log left (logged (read b).log x)) b) (sym e)
      ∙ ap (λ (t : Table). put t b) after_is
