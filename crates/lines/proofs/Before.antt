-- What a line asks for as it was told before: by places in the line and the bytes there, here with `None` for a malformed line and for no number. It is the
-- same command for every line. At the end the words of what is written, by their bytes, and the text of the entries, entry by entry. Assumes nothing.
use Rattle.std.proofs.Common.{◌≡◌, ℕ, ◌+◌, ◌-◌, ◌*◌, ◌≤◌, ◌<◌, true, cond, not, eqb, ltb, ◌⊎◌, inl, inr, List, [], ◌∷◌, ◌++◌, length, get_or, drop, Option, Some, None, option_and_then, option_map, refl, sym, ◌∙◌, ap, add-zero, arith}
use Rattle.std.proofs.lemmas.Bool.Decides.{nat_tests}
use Rattle.std.proofs.lemmas.List.{get_or-drop, length-drop, drop_more, drop_all}
use lib.ListN.{get_or-eq_default}
use lib.Seq.{drop-drop}
use Rattle.laws.proofs.Cases.{cond_map, below}
use Rattle.lines.specs.declared.Command.{Command}
use Rattle.lines.specs.declared.Command.TheVariants.{SetUp, BeginAcquisition, BeginRelease, Step}
use Rattle.lines.specs.Command as now
use Rattle.lines.specs.Command.{digit}
use Rattle.lines.specs.Text.{decimal, line_text, lock_text, entries_text, log_text}

-- the byte at a place; past the end there is none, and 0 stands for it, which is no digit, space or letter
abbrev byte : List ℕ → ℕ → ℕ
byte l at = get_or l at 0

-- the number of the digits a, b and c
abbrev value : ℕ → ℕ → ℕ → ℕ
value a b c = 100 * (a - 48) + 10 * (b - 48) + (c - 48)

-- what is read where the bytes a, b, c and d stand, a at the place `at`, and the place after it
number_from : ℕ → ℕ → ℕ → ℕ → ℕ → Option (ℕ × ℕ)
number_from a b c d at =
    cond (not (digit a)) None
    (cond (not (digit b)) (Some (value 48 48 a, at + 1))
    (cond (eqb a 48) None
    (cond (not (digit c)) (Some (value 48 a b, at + 2))
    (cond (not (digit d)) (Some (value a b c, at + 3))
    None))))

-- the number that stands at a place of a line
number_at : List ℕ → ℕ → Option (ℕ × ℕ)
number_at l at = number_from (byte l at) (byte l (at + 1)) (byte l (at + 2)) (byte l (at + 3)) at

-- that number, if the line ends with it
last : List ℕ → Option (ℕ × ℕ) → Option (ℕ × ℕ)
last l (Some p) = cond (eqb p.1 (length l)) (Some p) None
last l None = None

-- a command of one number, by its letter: n, s or r
of_one : ℕ → Option (ℕ × ℕ) → Option Command
of_one letter (Some p) =
    cond (eqb letter 110) (Some (SetUp p.0))
    (cond (eqb letter 115) (Some (Step p.0))
    (cond (eqb letter 114) (Some (BeginRelease p.0))
    None))
of_one letter None = None

-- a command of two numbers, the first of which is p
of_two : ℕ → Option (ℕ × ℕ) → Option Command
of_two p (Some r) = Some (BeginAcquisition p r.0)
of_two p None = None

-- after the first number stands a space, and after it the second, with which the line ends
parted : List ℕ → Option (ℕ × ℕ) → Option Command
parted l (Some p) = cond (eqb (byte l p.1) 32) (of_two p.0 (last l (number_at l (p.1 + 1)))) None
parted l None = None

-- by the letter, with the byte after it: a has two numbers
by_letter : ℕ → ℕ → List ℕ → Option Command
by_letter letter space l = cond (eqb space 32) (cond (eqb letter 97) (parted l (number_at l 2)) (of_one letter (last l (number_at l 2)))) None

-- what a line asks for
pub command_of : List ℕ → Option Command
command_of l = cond (ltb 16 (length l)) None (by_letter (byte l 0) (byte l 1) l)

from_there : (l : List ℕ) (at : ℕ) → number_at l at ≡ number_from (byte (drop at l) 0) (byte (drop at l) 1) (byte (drop at l) 2) (byte (drop at l) 3) at
unfolding number_at
from_there l at = simp (get_or-drop, add-zero)

-- a function f of a number and of the line after it, which takes no digit there, and a function g of the number and of the place after it
module _ {A : Type 0} (f : ℕ → List ℕ → Option A) (no_digit : (n x : ℕ) (l : List ℕ) → digit x ≡ true → f n (x ∷ l) ≡ None) (g : ℕ → ℕ → Option A) where
  abbrev of_number : Option (ℕ × ℕ) → Option A
  of_number o = option_and_then (λ p. g p.0 p.1) o

  abbrev now_of : List ℕ → Option A
  now_of m = option_and_then (λ p. f p.0 p.1) (now.number m)

  module _ (a at : ℕ) where
    one_byte : g (a - 48) (at + 1) ≡ f (a - 48) [] → of_number (number_from a 0 0 0 at) ≡ now_of (a ∷ [])
    unfolding number_from
    one_byte h = grind (arith, nat_tests)

    two_bytes : (b : ℕ) → g (a - 48) (at + 1) ≡ f (a - 48) (b ∷ []) → g (10 * (a - 48) + (b - 48)) (at + 2) ≡ f (10 * (a - 48) + (b - 48)) [] → of_number (number_from a b 0 0 at) ≡ now_of (a ∷ b ∷ [])
    unfolding number_from
    two_bytes b h i = grind (arith, nat_tests, no_digit 0 b [])

    three_bytes : (b c : ℕ) → g (a - 48) (at + 1) ≡ f (a - 48) (b ∷ c ∷ []) → g (10 * (a - 48) + (b - 48)) (at + 2) ≡ f (10 * (a - 48) + (b - 48)) (c ∷ []) → g (value a b c) (at + 3) ≡ f (value a b c) [] → of_number (number_from a b c 0 at) ≡ now_of (a ∷ b ∷ c ∷ [])
    unfolding number_from
    three_bytes b c h i j = grind (arith, nat_tests, no_digit 0 b (c ∷ []))

    four_bytes : (b c d : ℕ) (m : List ℕ) → g (a - 48) (at + 1) ≡ f (a - 48) (b ∷ c ∷ d ∷ m) → g (10 * (a - 48) + (b - 48)) (at + 2) ≡ f (10 * (a - 48) + (b - 48)) (c ∷ d ∷ m) → g (value a b c) (at + 3) ≡ f (value a b c) (d ∷ m) → of_number (number_from a b c d at) ≡ now_of (a ∷ b ∷ c ∷ d ∷ m)
    unfolding number_from
    four_bytes b c d m h i j = grind (arith, nat_tests, no_digit 0 b (c ∷ d ∷ m), no_digit (value a b c) d m)

  same_front : (m : List ℕ) (at : ℕ) → ((n k : ℕ) → k ≤ length m → g n (at + k) ≡ f n (drop k m)) → of_number (number_from (byte m 0) (byte m 1) (byte m 2) (byte m 3) at) ≡ now_of m
  unfolding number_from
  same_front [] at h = refl
  same_front (a ∷ []) at h = one_byte a at (h _ 1 (omega arith))
  same_front (a ∷ b ∷ []) at h = two_bytes a at b (h _ 1 (omega arith)) (h _ 2 (omega arith))
  same_front (a ∷ b ∷ c ∷ []) at h = three_bytes a at b c (h _ 1 (omega arith)) (h _ 2 (omega arith)) (h _ 3 (omega arith))
  same_front (a ∷ b ∷ c ∷ d ∷ m) at h = four_bytes a at b c d m (h _ 1 (omega arith)) (h _ 2 (omega arith)) (h _ 3 (omega arith))

  -- where they say the same at each place, they do so of the number that stands at one
  same_number : (l : List ℕ) (at : ℕ) → at ≤ length l → ((n p : ℕ) → p ≤ length l → g n p ≡ f n (drop p l)) → of_number (number_at l at) ≡ now_of (drop at l)
  same_number l at inside h =
      ap of_number (from_there l at)
      ∙ same_front (drop at l) at (λ n k short. h n (at + k) (omega (arith, length-drop at l)) ∙ ap (f n) (sym (drop-drop k at l)))

module _ (l : List ℕ) where
  -- the line ends with a number at a place as the line from there on does
  ends : (o : Option (ℕ × ℕ)) → option_map (λ p. p.0) (last l o) ≡ option_and_then (λ p. cond (eqb p.1 (length l)) (Some p.0) None) o
  unfolding last
  ends (Some p) = cond_map (option_map (λ q. q.0)) (eqb p.1 (length l)) (Some p) None
  ends None = refl

  same_last : (at : ℕ) → at ≤ length l → option_map (λ p. p.0) (last l (number_at l at)) ≡ now.last (drop at l)
  same_last at inside =
      ends (number_at l at)
      ∙ same_number (λ n m. cond (eqb (length m) 0) (Some n) None) (λ n x m e. grind (arith, nat_tests)) (λ n p. cond (eqb p (length l)) (Some n) None) l at inside
      (λ n p short. grind (arith, nat_tests, length-drop p l))

  -- what follows the first number, n
  after : ℕ → ℕ → Option Command
  after n p = cond (eqb (byte l p) 32) (of_two n (last l (number_at l (p + 1)))) None

  two_of : (n : ℕ) (o : Option (ℕ × ℕ)) → of_two n o ≡ option_map (BeginAcquisition n) (option_map (λ p. p.0) o)
  unfolding of_two
  two_of n (Some p) = refl
  two_of n None = refl

  same_second : (n p : ℕ) → p ≤ length l → after n p ≡ now.second n (drop p l)
  unfolding after
  same_second n p short = by (below p (length l))
    where
      by : (p < length l) ⊎ (length l ≤ p) → cond (eqb (byte l p) 32) (of_two n (last l (number_at l (p + 1)))) None ≡ now.second n (drop p l)
      by (inl h) = rw (drop_more l p 0 h, two_of, same_last (p + 1) (omega arith)) refl
      by (inr h) = rw (drop_all p l h, get_or-eq_default l 0 h) refl

  parts : (o : Option (ℕ × ℕ)) → parted l o ≡ option_and_then (λ p. after p.0 p.1) o
  unfolding parted after
  parts (Some p) = refl
  parts None = refl

  no_space : (n x : ℕ) (m : List ℕ) → digit x ≡ true → now.second n (x ∷ m) ≡ None
  no_space n x m e = grind (arith, nat_tests)

  same_parted : (at : ℕ) → at ≤ length l → parted l (number_at l at) ≡ option_and_then (λ p. now.second p.0 p.1) (now.number (drop at l))
  same_parted at inside = parts (number_at l at) ∙ same_number now.second no_space after l at inside same_second

one_of : (letter : ℕ) (o : Option (ℕ × ℕ)) → of_one letter o ≡ cond (eqb letter 110) (option_map SetUp (option_map (λ p. p.0) o)) (cond (eqb letter 115) (option_map Step (option_map (λ p. p.0) o)) (cond (eqb letter 114) (option_map BeginRelease (option_map (λ p. p.0) o)) None))
unfolding of_one
one_of letter (Some p) = refl
one_of letter None = grind (arith, nat_tests)

same_letter : (letter x : ℕ) (m : List ℕ) → cond (eqb x 32) (now.by_letter letter m) None ≡ by_letter letter x (letter ∷ x ∷ m)
unfolding by_letter
same_letter letter x m =
    let two = same_parted (letter ∷ x ∷ m) 2 (omega arith) in
    let one = same_last (letter ∷ x ∷ m) 2 (omega arith) in
    rw (two, one_of, one) (grind (arith, nat_tests))

same_spaced : (l : List ℕ) → now.spaced l ≡ by_letter (byte l 0) (byte l 1) l
unfolding by_letter
same_spaced [] = refl
same_spaced (letter ∷ []) = refl
same_spaced (letter ∷ x ∷ m) = same_letter letter x m

-- the same command for every line
pub same_command : (l : List ℕ) → now.command_of l ≡ command_of l
unfolding now.command_of command_of
same_command l = ap (cond (ltb 16 (length l)) None) (same_spaced l)

-- what is written is what was told before
pub same_lock : (k : ℕ) → lock_text k ≡ line_text (108 ∷ 111 ∷ 99 ∷ 107 ∷ 32 ∷ []) (decimal k)
unfolding lock_text
same_lock k = refl

pub same_log : (l : List ℕ) → log_text l ≡ line_text (108 ∷ 111 ∷ 103 ∷ []) (entries_text l)
unfolding log_text
same_log l = refl

pub same_entries : (entries_text [] ≡ []) × ((x : ℕ) (others : List ℕ) → entries_text (x ∷ others) ≡ (32 ∷ decimal x) ++ entries_text others)
same_entries = (refl, λ x others. refl)
