-- What is written. Document 01, "The program `turns`": "Each command prints its answer number, or `x` and a space and the refusal. At the end of input come
-- `lock` with the lock word and `log` with the held entries, blank-parted; an empty log prints `log` alone".
use Rattle.std.specs.Prelude.{ℕ, ◌+◌, ◌/◌, ◌%◌, ◌≡◌, Bool, cond, List, [], ◌∷◌, ◌++◌, leb, ltb, length, take, drop, codes, Ok, Err}
use Rattle.std.specs.List.{flat_map}
use Rattle.stage.specs.Answers.{refusal_number, Reply}
use Rattle.lines.specs.declared.Text.{Text}

-- a number below 1000 in decimal
unfoldable pub decimal : ℕ → List ℕ
decimal x =
    cond (ltb x 10) ((48 + x) ∷ [])
    (cond (ltb x 100) ((48 + x / 10) ∷ (48 + x % 10) ∷ [])
    ((48 + x / 100) ∷ (48 + x / 10 % 10) ∷ (48 + x % 10) ∷ []))

-- a line: a word, what follows it, and the newline, which is 10
unfoldable pub line_text : List ℕ → List ℕ → List ℕ
line_text word rest = word ++ rest ++ 10 ∷ []

-- `x`, a space and the refusal's number
unfoldable pub refusal_text : ℕ → List ℕ
refusal_text k = line_text (codes "x ") (decimal k)

unfoldable pub reply_text : Reply → List ℕ
reply_text (Err k) = refusal_text (refusal_number k)
reply_text (Ok a) = line_text [] (decimal a.number)

-- "lock", a space and the lock word
unfoldable pub lock_text : ℕ → List ℕ
lock_text k = line_text (codes "lock ") (decimal k)

-- each entry with a space in front
abbrev pub entries_text : List ℕ → List ℕ
entries_text l = flat_map (λ x. 32 ∷ decimal x) l

-- "log" and the entries
unfoldable pub log_text : List ℕ → List ℕ
log_text l = line_text (codes "log") (entries_text l)

-- Where a text has room in a buffer from the place `at` on, it is put there and the place after it is answered. Where it has none, nothing is written and `at`
-- is answered back.
unfoldable pub fits : List ℕ → List ℕ → ℕ → Bool
fits text out at = leb (at + length text) (length out)

unfoldable pub place_after : List ℕ → List ℕ → ℕ → ℕ
place_after text out at = cond (fits text out at) (at + length text) at

unfoldable pub written : List ℕ → List ℕ → ℕ → List ℕ
written text out at = cond (fits text out at) (take at out ++ text ++ drop (at + length text) out) out

-- the bytes and the place after a text is written, by those before
pub record Writes (text out : List ℕ) (at r : ℕ) (out' : List ℕ) : Type 0 where
  pub answers : r ≡ place_after text out at
  pub leaves : out' ≡ written text out at

-- the reference is still to the same buffer
abbrev pub SameBuffer : Text → Text → Type 0
SameBuffer old new = new.buffer.ghost_name ≡ old.buffer.ghost_name

-- what every contract of a function that writes says: the bytes were written where they had room, in the same buffer
pub record WritesTo (bytes : List ℕ) (old new : Text) : Type 0 where
  pub text : Writes bytes old.buffer.now old.at new.at new.buffer.now
  pub same_buffer : SameBuffer old new
