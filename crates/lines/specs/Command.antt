-- What a line of input asks for. Document 01, "The program `turns`": "one command a line: `n N` set up, `a P R` begin acquisition, `s P` step, `r P`
-- begin release. Fields are parted by one space; numbers are decimal, 1 to 3 digits, no leading zero but `0` itself. A line over 16 bytes, an empty
-- line and anything else are malformed".
use Rattle.std.specs.Prelude.{ℕ, ◌+◌, ◌-◌, ◌*◌, Bool, cond, ◌&&◌, List, [], ◌∷◌, Option, Some, None, option_and_then, option_map, eqb, leb, ltb, length}
use Rattle.lines.specs.declared.Command.{Command}
use Rattle.lines.specs.declared.Command.TheVariants.{SetUp, BeginAcquisition, BeginRelease, Step}

-- `0` is 48, and `9` is 57
abbrev pub digit : ℕ → Bool
digit x = leb 48 x && leb x 57

-- a number with one digit more, if the line begins with one, and the line after it
abbrev pub longer : ℕ → List ℕ → ℕ × List ℕ
longer n [] = (n, [])
longer n (x ∷ l) = cond (digit x) (10 * n + (x - 48), l) (n, x ∷ l)

-- "numbers are decimal, 1 to 3 digits, no leading zero but `0` itself": the number with which a line begins, and the line after it
abbrev pub number : List ℕ → Option (ℕ × List ℕ)
number [] = None
number (x ∷ l) = cond (eqb x 48) (Some (0, l)) (cond (digit x) (let two = longer (x - 48) l in Some (longer two.0 two.1)) None)

-- the number with which a line ends
abbrev pub last : List ℕ → Option ℕ
last l = option_and_then (λ p. cond (eqb (length p.1) 0) (Some p.0) None) (number l)

-- after the first number, p, stand a space, which is 32, and the second, with which the line ends
abbrev pub second : ℕ → List ℕ → Option Command
second p [] = None
second p (x ∷ l) = cond (eqb x 32) (option_map (BeginAcquisition p) (last l)) None

-- by the letter, with the line after it and a space: n, a, s and r are 110, 97, 115 and 114, and a has two numbers
abbrev pub by_letter : ℕ → List ℕ → Option Command
by_letter letter l =
    cond (eqb letter 110) (option_map SetUp (last l))
    (cond (eqb letter 97) (option_and_then (λ p. second p.0 p.1) (number l))
    (cond (eqb letter 115) (option_map Step (last l))
    (cond (eqb letter 114) (option_map BeginRelease (last l))
    None)))

-- after the letter stands a space
abbrev pub spaced : List ℕ → Option Command
spaced [] = None
spaced (letter ∷ []) = None
spaced (letter ∷ x ∷ l) = cond (eqb x 32) (by_letter letter l) None

-- what a line asks for
unfoldable pub command_of : List ℕ → Option Command
command_of l = cond (ltb 16 (length l)) None (spaced l)
