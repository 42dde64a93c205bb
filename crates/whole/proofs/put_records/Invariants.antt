-- `put_records` copies one fresh record a turn: after k turns the first k are there.
use mathlib.Core.Path.{◌≡◌}
use Prim.Native.Nat.{◌*◌}
use lib.Seq.{paste}
use Rattle.stage.specs.Table.{fresh_table}
use Rattle.layout.specs.Layout.{records_of}
use Rattle.whole.proofs.put_records.Given as goal

abbrev pub invariant-loop-k : goal.invariant-loop-k
invariant-loop-k l = l.image ≡ paste l.initial.image l.first (records_of l.k (fresh_table l.n)) (16 * l.k)
