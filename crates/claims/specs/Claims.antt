-- What the deck lock promises of images: the words that the contracts of the five calls cite, held against demand 3 of the minutes, item 4.
use Rattle.std.specs.Prelude.{ℕ, ◌≤◌, ◌≡◌, Bool, true, List, length}
use Rattle.link.specs.Count.{size}
use Rattle.stage.specs.Calls.{Call, set_up}
use Rattle.layout.specs.Layout.{length_for, read, put}
use Rattle.soundness.specs.SoundImage.{sound}
use Rattle.image.specs.Call.{reply, image}
use Rattle.line.specs.History.{Desk}
use Rattle.line.specs.Demand3.{Demand3}
use Rattle.line.specs.Corollaries as Corollaries
use Rattle.line.specs.LetIn as R1
use Rattle.line.specs.Mixed.{mixed}

-- Images as a desk: a state is a buffer with an image at its end.
abbrev pub images : Desk
images = record { State = List ℕ; says = reply; leaves = image; shows = read }

-- P of every fresh image: of n modules, at the end of a buffer with room for it.
abbrev pub OfFresh : (List ℕ → Type 0) → Type 0
OfFresh P = (n : ℕ) (b : List ℕ) → 1 ≤ n → n ≤ 64 → length_for n ≤ length b → P (image (set_up n) b)

-- Demand 3: "where no link changes 65,536 times or more between one module's reading of it and its swap, every history from a fresh table ..".
abbrev pub DeckLock : Type 0
DeckLock = OfFresh (λ b. Demand3 images b size)

-- What users rely on besides, of the same histories.
abbrev pub Relied : Type 0
Relied = OfFresh (λ b. Corollaries.Relied images b size)

-- R-1: "a step at stage 6 that looks at a module inside never returns to stage 1, in demand 3's histories begun under this rule".
abbrev pub LetIn : Type 0
LetIn = OfFresh (λ b. R1.LetIn images b size)

-- What stands where desks of before R-1 work on the same image, whichever call is whose: demand 3, and what users rely on besides. (That R-1's
-- addition does not stand there is a row of the bench table, B7_before.)
abbrev pub MixedDesks : Type 0
MixedDesks =
    (before : ℕ → Bool) → OfFresh (λ b. Demand3 (mixed before images put) (0, b) size × Corollaries.Relied (mixed before images put) (0, b) size)

-- Every call, refused or accepted, with whatever numbers, leaves a sound image sound, reached or not, and the buffer as long as it was.
abbrev pub StaysSound : Type 0
StaysSound = (c : Call) (b : List ℕ) → sound b ≡ true → (sound (image c b) ≡ true) × (length (image c b) ≡ length b)
