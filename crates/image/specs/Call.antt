-- The five calls on an image: refuse by number, or the machine's call between reading and writing. Document 01, "What a call says".
use Rattle.std.specs.Prelude.{ℕ, ◌≡◌, Bool, cond, not, ◌&&◌, List, ◌∷◌, ◌++◌, leb, length, drop, Ok, Err}
use Rattle.link.specs.Count.{next, size}
use Rattle.stage.specs.Calls.{Call, take_log, asks_sound, refusals, refusing, answered, after}
use Rattle.layout.specs.Layout.{length_for, read, put}
use Rattle.soundness.specs.SoundImage.{sound}
use Rattle.stage.specs.Answers.{Reply}
use Rattle.stage.specs.declared.Refusal.{Refusal}
use Rattle.stage.specs.declared.Refusal.TheVariants.{Unsound}

-- "set-up buffer shorter than 16n + 268"
abbrev pub fits : List ℕ → ℕ → Bool
fits b k = leb (length_for k) (length b)

-- all that a call on the image b may be refused for, with the refusal given
unfoldable pub refused : Call → List ℕ → List (Bool × Refusal)
refused c b = (asks_sound c && not (sound b), Unsound) ∷ refusals (next size) (fits b) c (read b)

-- what a call on the image b says
unfoldable pub reply : Call → List ℕ → Reply
reply c b = refusing (refused c b) Err (Ok (answered (next size) c (read b)))

-- the image after it: where it was refused, every byte as it was
unfoldable pub image : Call → List ℕ → List ℕ
image c b = refusing (refused c b) (λ k. b) (put (after (next size) c (read b)) b)

-- the buffer lent for the log after taking it: "Taking the log writes the first bytes of the buffer, keeps the others"
unfoldable pub buffer : List ℕ → List ℕ → List ℕ
buffer b lent =
    refusing (refused (take_log (length lent)) b) (λ k. lent) ((read b).log ++ drop (length (read b).log) lent)

-- "`lock` with the lock word .. an unsound image `lock 0`" (01, "The program `turns`")
unfoldable pub lock_word : List ℕ → ℕ
lock_word b = cond (sound b) (read b).lock 0

-- what every contract of a call says: from the image b the call c says r and leaves the image b'
pub record Does (c : Call) (b : List ℕ) (r : Reply) (b' : List ℕ) : Type 0 where
  pub says : r ≡ reply c b
  pub leaves : b' ≡ image c b
