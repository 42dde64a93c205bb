-- A number in decimal, by how many digits it has, and how long a line is. Assumes nothing.
use mathlib.Core.Path.{◌≡◌}
use mathlib.Core.List.{List, []}
use Prim.Native.Nat.{ℕ, ◌+◌, ◌≤◌}
use native.Mathlib.Omega.{arith}
use lib.ListN.{length, length-append}
use Rattle.stage.specs.Answers.{refusal_number, Reply}
use Rattle.std.proofs.lemmas.Bool.Decides.{nat_tests}
use Rattle.std.specs.Prelude.{codes, Ok, Err}
use Rattle.lines.specs.Text.{decimal, line_text, refusal_text, reply_text, lock_text}

pub decimal_short : (x : ℕ) → length (decimal x) ≤ 3
unfolding decimal
decimal_short x = grind (arith, nat_tests)

pub line_length : (word rest : List ℕ) → length (line_text word rest) ≡ length word + length rest + 1
unfolding line_text
line_length word rest = simp length-append

pub reply_short : (r : Reply) → length (reply_text r) ≤ 6
unfolding refusal_text reply_text
reply_short (Err k) = omega (arith, decimal_short (refusal_number k), line_length (codes "x ") (decimal (refusal_number k)))
reply_short (Ok a) = omega (arith, decimal_short a.number, line_length [] (decimal a.number))

pub lock_short : (k : ℕ) → length (lock_text k) ≤ 9
unfolding lock_text
lock_short k = omega (arith, decimal_short k, line_length (codes "lock ") (decimal k))
