-- The text of a log's entries, entry by entry. Assumes nothing.
use mathlib.Core.Path.{◌≡◌}
use mathlib.Core.List.{List, [], ◌∷◌, ◌++◌}
use Prim.Native.Nat.{ℕ, ◌+◌, ◌*◌, ◌≤◌, ◌<◌}
use native.Mathlib.Omega.{arith}
use lib.ListN.{length, take, get_or, length-append}
use Rattle.std.proofs.lemmas.List.Folds.{length-flat_map-take}
use Rattle.std.proofs.lemmas.Grind.{common_steps}
use Rattle.std.specs.Prelude.{codes}
use Rattle.lines.specs.Text.{decimal, entries_text, log_text}
use Rattle.lines.proofs.Texts.{decimal_short, line_length}

module _ (l : List ℕ) (i : ℕ) (h : i < length l) where
  -- with one entry more
  pub entries_more : entries_text (take (i + 1) l) ≡ entries_text (take i l) ++ (32 ∷ decimal (get_or l i 0))
  entries_more = grind (arith, common_steps)

  -- which is no longer than of them all
  pub entries_within : length (entries_text (take i l)) + length (32 ∷ decimal (get_or l i 0)) ≤ length (entries_text l)
  entries_within = length-flat_map-take (λ x. 32 ∷ decimal x) l i 0 h

-- how long they are at most
pub entries_short : (l : List ℕ) → length (entries_text l) ≤ 4 * length l
entries_short [] = omega arith
entries_short (x ∷ l) = omega (arith, entries_short l, decimal_short x, length-append (32 ∷ decimal x) (entries_text l))

pub log_short : (l : List ℕ) → length (log_text l) ≤ 4 * length l + 4
unfolding log_text
log_short l = omega (arith, entries_short l, line_length (codes "log") (entries_text l))
