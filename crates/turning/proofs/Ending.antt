-- What is written at the end of input. Assumes nothing.
use mathlib.Core.Path.{◌≡◌, refl}
use mathlib.Core.Bool.{true}
use mathlib.Core.List.{List, [], ◌∷◌}
use Prim.Native.Nat.{ℕ, ◌≤◌}
use native.Mathlib.Nat.{suc-ne-zero}
use native.Mathlib.Omega.{arith}
use lib.ListN.{length, take}
use Rattle.std.proofs.lemmas.Grind.{common_steps}
use Rattle.stage.specs.Calls.{take_log, capacity, refusals, refusing, answered}
use Rattle.stage.specs.Answers.{Reply}
use Rattle.layout.specs.Layout.{read}
use Rattle.layout.proofs.Rewritten.{length_held}
use Rattle.soundness.specs.SoundImage.{sound}
use Rattle.image.specs.Call.{refused, reply, buffer, lock_word}
use Rattle.image.proofs.Sound.{written}
use Rattle.lines.specs.declared.Text.{Text}
use Rattle.lines.specs.Inside.{Put, HasRoom, Puts}
use Rattle.lines.specs.Text.{reply_text, lock_text, log_text, WritesTo}
use Rattle.lines.proofs.Putting.{put_then, writes_put}
use Rattle.lines.proofs.Texts.{reply_short, lock_short}
use Rattle.turning.specs.Inside.{finished, standing, taken_of}
use Rattle.turning.specs.Program.{last_line, held_log, end_text, text_of}
use Rattle.turning.specs.Turn.{Turns}

-- what taking the log says, and what it leaves in a buffer that is long enough, are the held log
module _ (b : List ℕ) where
  few : sound b ≡ true → length (read b).log ≤ capacity
  few is = omega (arith, length_held b (written b is).fits (written b is).held_fits, (written b is).held_fits)

  pub held_short : length (held_log b) ≤ capacity
  unfolding held_log
  held_short = grind (arith, common_steps, few)

  pub held_count : taken_of (reply (take_log 256) b) ≡ length (held_log b)
  unfolding reply refused refusals refusing answered held_log
  held_count = grind (arith, common_steps, few)

  pub held_there : (lent : List ℕ) → length lent ≡ capacity → take (length (held_log b)) (buffer b lent) ≡ held_log b
  unfolding buffer refused refusals refusing held_log
  held_there lent room = grind (arith, common_steps, few)

pub ruleset helds = (held_short, held_count, held_there)

-- the two lines of the end
pub end_put : (b : List ℕ) {k : ℕ} {old mid new : Text} → k ≡ lock_word b → HasRoom old 9 → WritesTo (lock_text k) old mid → Puts (log_text (held_log b)) mid new → Puts (end_text b) old new
unfolding end_text
end_put b {k} e h writes put = put_then (writes_put (omega (arith, lock_short k)) writes) put (rw e refl)

-- a buffer that a `Text` had holds what was left there
pub put_left : {text out : List ℕ} {at r : ℕ} {out' out'' : List ℕ} → out'' ≡ out' → Put text out at r out' → Put text out at r out''
put_left e p = rw e p

-- no line has begun, so the end alone is written
pub finish_none : (b line : List ℕ) {old new : Text} → length line ≡ 0 → Puts (end_text b) old new →
    Put (finished (standing b line old.buffer.now 0)) old.buffer.now old.at new.at new.buffer.now
unfolding finished standing text_of last_line
finish_none b [] e put = put.text
finish_none b (x ∷ l) e put = absurd (suc-ne-zero (length l) e)

-- what follows the last newline is answered first
pub finish_line : (b line : List ℕ) {old mid new : Text} {r : Reply} {b' : List ℕ} →
    (length line ≡ 0 → ⊥) → Turns line b r b' → HasRoom old 6 → WritesTo (reply_text r) old mid → Puts (end_text b') mid new →
    Put (finished (standing b line old.buffer.now 0)) old.buffer.now old.at new.at new.buffer.now
unfolding finished standing text_of last_line
finish_line b [] begun turns h writes put = absurd (begun refl)
finish_line b (x ∷ l) {r = r} begun turns h writes put =
    (put_then (writes_put (omega (arith, reply_short r)) writes) put (rw (turns.says, turns.leaves) refl)).text
