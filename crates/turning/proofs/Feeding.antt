-- Where the program stands after one byte of input. Assumes nothing.
use mathlib.Core.Path.{◌≡◌, refl, ◌∙◌, ap}
use mathlib.Core.List.{List, [], ◌∷◌, ◌++◌}
use Prim.Native.Nat.{ℕ, ◌+◌, ◌≤◌, ◌<◌}
use native.Mathlib.Omega.{arith}
use lib.ListN.{length, take, get_or}
use Rattle.std.proofs.lemmas.List.{take_more}
use Rattle.stage.specs.Answers.{Reply}
use Rattle.lines.specs.declared.Text.{Text}
use Rattle.lines.specs.Inside.{HasRoom, Puts}
use Rattle.lines.specs.Text.{reply_text, WritesTo}
use Rattle.lines.proofs.Texts.{reply_short}
use Rattle.lines.proofs.Putting.{writes_put, front}
use Rattle.turning.specs.Inside.{Session, fed, fed_all}

-- an answer that was put has at most six bytes
module _ (r : Reply) {old new : Text} (writes : WritesTo (reply_text r) old new) (room : HasRoom old 6) where
  put : Puts (reply_text r) old new
  put = writes_put (omega (arith, reply_short r)) writes

  pub reply_near : new.at ≤ old.at + 6
  reply_near = omega (arith, reply_short r, put.text.after)

  pub reply_front : take new.at new.buffer.now ≡ take old.at old.buffer.now ++ reply_text r
  reply_front = front put

  pub reply_same : length new.buffer.now ≡ length old.buffer.now
  reply_same = put.text.same

pub ruleset replies = (reply_front, reply_same)

-- one input after another
pub fed_append : (s : Session) (l more : List ℕ) → fed_all s (l ++ more) ≡ fed_all (fed_all s l) more
unfolding fed_all
fed_append s [] more = refl
fed_append s (x ∷ l) more = fed_append (fed s x) l more

-- one byte more of an input
pub fed_more : (s : Session) (l : List ℕ) (i : ℕ) → i < length l → fed_all s (take (i + 1) l) ≡ fed (fed_all s (take i l)) (get_or l i 0)
unfolding fed_all
fed_more s l i h = ap (fed_all s) (take_more l i 0 h) ∙ fed_append s (take i l) (get_or l i 0 ∷ [])
