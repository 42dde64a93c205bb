-- `answer` feeds byte after byte of the block. The invariant: those passed are fed.
use mathlib.Core.Path.{◌≡◌}
use Prim.Native.Nat.{◌*◌, ◌≤◌}
use lib.ListN.{length, take}
use Rattle.lines.specs.Text.{SameBuffer}
use Rattle.turning.specs.Inside.{fed_all, standing}
use Rattle.turning.proofs.answer.Given as goal

abbrev pub invariant-loop-x : goal.invariant-loop-x
invariant-loop-x l = record {
  session : standing l.image l.kept l.text.buffer.now l.text.at ≡ fed_all (standing l.initial.image l.initial.kept l.initial.text.buffer.now 0) (take l.x-index l.block);
  near : l.text.at ≤ 6 * l.x-index;
  same_length : length l.text.buffer.now ≡ length l.initial.text.buffer.now;
  same_buffer : SameBuffer l.initial.text l.text;
}
