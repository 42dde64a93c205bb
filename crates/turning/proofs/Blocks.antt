-- However an input is cut into blocks, what is written for them is what the program writes for the whole input, and what is kept of a line is
-- enough. Assumes nothing.
use mathlib.Core.Path.{◌≡◌, refl, sym, ◌∙◌}
use mathlib.Core.List.{List, [], ◌∷◌, ◌++◌, append_assoc, append-nil, flatten}
use Prim.Native.Nat.{ℕ}
use native.Mathlib.Omega.{arith}
use lib.ListN.{length, take, replicate}
use Rattle.std.proofs.lemmas.Grind.{common_steps}
use Rattle.std.specs.Prelude.{cond, ltb, Option, None}
use Rattle.lines.specs.declared.Command.{Command}
use Rattle.lines.specs.Command.{spaced, command_of}
use Rattle.lines.specs.Text.{reply_text}
use Rattle.turning.specs.Inside.{Session, grown, ended, fed, fed_all, finished, afresh, in_blocks}
use Rattle.turning.specs.Program.{last_line, lines_from, text_of, output}
use Rattle.turning.specs.Turn.{answer_to, image_after}
use Rattle.turning.proofs.Feeding.{fed_append}

abbrev session : List ℕ → List ℕ → List ℕ → Session
session b l t = record { image = b; line = l; text = t }

-- more than 16 bytes ask for nothing, so the first 17 ask for what the line asks for
same_kept : (f : List ℕ → Option Command) (l : List ℕ) → cond (ltb 16 (length (take 17 l))) None (f (take 17 l)) ≡ cond (ltb 16 (length l)) None (f l)
same_kept f l = grind (arith, common_steps)

same_command : (l : List ℕ) → command_of (take 17 l) ≡ command_of l
unfolding command_of
same_command l = same_kept spaced l

same_last : (l b : List ℕ) → text_of (last_line (take 17 l)) b ≡ text_of (last_line l) b
unfolding last_line text_of answer_to image_after
same_last [] b = refl
same_last (x ∷ l) b = simp (same_command (x ∷ l))

grows : (l : List ℕ) (x : ℕ) → grown (take 17 l) x ≡ take 17 (l ++ x ∷ [])
unfolding grown
grows l x = grind (arith, common_steps)

-- the rest of an input is answered as its lines are, where l was read of the first
by_lines : (input b l t : List ℕ) → finished (fed_all (session b (take 17 l) t) input) ≡ t ++ text_of (lines_from l input) b
unfolding finished fed_all fed ended lines_from text_of answer_to image_after
by_lines [] b l t = simp (same_last l b)
by_lines (x ∷ input) b l t =
    grind (arith, common_steps, append_assoc, same_command l, grows l x, by_lines input (image_after l b) [] (t ++ reply_text (answer_to l b)), by_lines input b (l ++ x ∷ []) t)

-- text that was written before stands in front
in_front : (input b l t t' : List ℕ) → t ++ finished (fed_all (session b l t') input) ≡ finished (fed_all (session b l (t ++ t')) input)
unfolding finished fed_all fed ended
in_front [] b l t t' = sym (append_assoc t t' (text_of (last_line l) b))
in_front (x ∷ input) b l t t' =
    grind (arith, common_steps, append_assoc, in_front input (image_after l b) [] t (t' ++ reply_text (answer_to l b)), in_front input b (grown l x) t t')

-- block by block as all at once
at_once : (blocks : List (List ℕ)) (s : Session) → in_blocks s blocks ≡ finished (fed_all (afresh s) (flatten blocks))
unfolding in_blocks fed_all flatten
at_once [] s = refl
at_once (block ∷ others) s =
    let m : Session = fed_all (afresh s) block in
    grind (arith, append-nil, at_once others m, in_front (flatten others) m.image m.line m.text [], fed_append (afresh s) block (flatten others))

-- from the image of 1,292 zero bytes
pub whole : (blocks : List (List ℕ)) → in_blocks (session (replicate 1292 0) [] []) blocks ≡ output (flatten blocks)
unfolding output
whole blocks = at_once blocks (session (replicate 1292 0) [] []) ∙ by_lines (flatten blocks) (replicate 1292 0) [] []
