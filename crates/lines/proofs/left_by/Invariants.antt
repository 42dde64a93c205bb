-- `left_by` takes what each entry needs from the room. The invariant: what is left and the text of the entries passed are all the room.
use mathlib.Core.Path.{◌≡◌}
use Prim.Native.Nat.{◌+◌}
use lib.ListN.{length, take}
use Rattle.lines.specs.Text.{entries_text}
use Rattle.lines.proofs.left_by.Given as goal

abbrev pub invariant-loop-x : goal.invariant-loop-x
invariant-loop-x l = length (entries_text (take l.x-index l.entries)) + l.left ≡ l.bytes
