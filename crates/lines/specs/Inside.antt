-- What private functions, of this crate and of `turning`, say of what they write, and those of this crate of what they read. No public contract cites this
-- file.
use Rattle.std.specs.Prelude.{ℕ, ◌+◌, ◌≤◌, ◌≡◌, List, ◌++◌, length, take, drop}
use Rattle.std.specs.Borrow.{Bor}
use Rattle.lines.specs.declared.Text.{Text}
use Rattle.lines.specs.Text.{SameBuffer}

-- the text had room from the place `at` on and was put there; r is the place after it
pub record Put (text out : List ℕ) (at r : ℕ) (out' : List ℕ) : Type 0 where
  pub after : r ≡ at + length text
  pub room : r ≤ length out
  pub same : length out' ≡ length out
  pub leaves : out' ≡ take at out ++ text ++ drop r out

-- so many bytes have room
abbrev pub HasRoom : Text → ℕ → Type 0
HasRoom text n = text.at + n ≤ length text.buffer.now

-- the bytes were put, in the same buffer
pub record Puts (bytes : List ℕ) (old new : Text) : Type 0 where
  pub text : Put bytes old.buffer.now old.at new.at new.buffer.now
  pub same_buffer : SameBuffer old new

-- what was read, with the line behind the reference
abbrev pub number_and_rest : ℕ × Bor (List ℕ) → ℕ × List ℕ
number_and_rest p = (p.0, p.1.now)
