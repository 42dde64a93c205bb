-- `put_entries` puts entry after entry. The invariant: the text of those passed is put.
use lib.ListN.{take}
use Rattle.lines.specs.Inside.{Puts}
use Rattle.lines.specs.Text.{entries_text}
use Rattle.lines.proofs.Text.put_entries.Given as goal

abbrev pub invariant-loop-x : goal.invariant-loop-x
invariant-loop-x l = Puts (entries_text (take l.x-index l.entries)) l.initial.self l.self
