-- What the private functions of this crate say of what they hand one another. No public contract cites this file.
use Rattle.std.specs.Prelude.{ℕ, cond, List, [], ◌∷◌, ◌++◌, eqb, ltb, length, take, Ok, Err}
use Rattle.stage.specs.Answers.{length_taken, Reply}
use Rattle.lines.specs.Text.{reply_text}
use Rattle.turning.specs.Turn.{answer_to, image_after}
use Rattle.turning.specs.Program.{last_line, text_of}

-- where the program stands in its input: the image, what is kept of the line that has begun, and the text that is written
pub record Session : Type 0 where
  pub image : List ℕ
  pub line : List ℕ
  pub text : List ℕ

-- of a line 17 bytes are kept: it is malformed then, whatever follows
unfoldable pub grown : List ℕ → ℕ → List ℕ
grown l x = cond (ltb (length l) 17) (l ++ x ∷ []) l

-- the line has ended, and is answered
unfoldable pub ended : Session → Session
ended s = record { image = image_after s.line s.image; line = []; text = s.text ++ reply_text (answer_to s.line s.image) }

-- a byte more of the input: a newline, or a byte of the line
unfoldable pub fed : Session → ℕ → Session
fed s x = cond (eqb x 10) (ended s) (record { image = s.image; line = grown s.line x; text = s.text })

unfoldable pub fed_all : Session → List ℕ → Session
fed_all s [] = s
fed_all s (x ∷ input) = fed_all (fed s x) input

-- what is written at the end of input
unfoldable pub finished : Session → List ℕ
finished s = s.text ++ text_of (last_line s.line) s.image

-- with no text, as each block begins
abbrev pub afresh : Session → Session
afresh s = record { image = s.image; line = s.line; text = [] }

-- what is written for an input that comes in blocks: the text of each block, and after the last one the text of the end. So `run` goes about it.
unfoldable pub in_blocks : Session → List (List ℕ) → List ℕ
in_blocks s [] = finished (afresh s)
in_blocks s (block ∷ others) = (fed_all (afresh s) block).text ++ in_blocks (fed_all (afresh s) block) others

-- where the program stands, by what it has: the image, the bytes that are kept of the line, and a buffer whose first `at` bytes are the text
unfoldable pub standing : List ℕ → List ℕ → List ℕ → ℕ → Session
standing image line out at = record { image = image; line = line; text = take at out }

-- how many entries of a log were taken
abbrev pub taken_of : Reply → ℕ
taken_of (Err k) = 0
taken_of (Ok a) = length_taken a.event
