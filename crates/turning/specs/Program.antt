-- What the program writes for its whole input. Document 01, "The program `turns`": "one command a line .. The last newline may lack. The image starts as 1,292
-- zero bytes. Each command prints its answer number, or `x` and a space and the refusal. At the end of input come `lock` with the lock word and `log` with the
-- held entries, blank-parted; an empty log prints `log` alone, an unsound image `lock 0` and `log`."
use Rattle.std.specs.Prelude.{ℕ, cond, List, [], ◌∷◌, ◌++◌, eqb, replicate}
use Rattle.layout.specs.Layout.{read}
use Rattle.soundness.specs.SoundImage.{sound}
use Rattle.image.specs.Call.{lock_word}
use Rattle.lines.specs.Text.{reply_text, lock_text, log_text}
use Rattle.turning.specs.Turn.{answer_to, image_after}

-- what follows the last newline is a line only where it is not empty
unfoldable pub last_line : List ℕ → List (List ℕ)
last_line [] = []
last_line (x ∷ l) = (x ∷ l) ∷ []

-- the lines of an input, each ended by the byte 10, where l was read of the first
unfoldable pub lines_from : List ℕ → List ℕ → List (List ℕ)
lines_from l [] = last_line l
lines_from l (x ∷ input) = cond (eqb x 10) (l ∷ lines_from [] input) (lines_from (l ++ x ∷ []) input)

-- the log that is held, none in an unsound image
unfoldable pub held_log : List ℕ → List ℕ
held_log b = cond (sound b) (read b).log []

-- what is written at the end of input
unfoldable pub end_text : List ℕ → List ℕ
end_text b = lock_text (lock_word b) ++ log_text (held_log b)

-- what is written for these lines and at their end, where the image is b
unfoldable pub text_of : List (List ℕ) → List ℕ → List ℕ
text_of [] b = end_text b
text_of (l ∷ others) b = reply_text (answer_to l b) ++ text_of others (image_after l b)

-- what is written for a whole input
unfoldable pub output : List ℕ → List ℕ
output input = text_of (lines_from [] input) (replicate 1292 0)
