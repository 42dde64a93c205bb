-- What holds at each stage of the table holds at every stage. Assumes nothing.
use Prim.Native.Nat.{ℕ, ◌≤◌}
use Rattle.laws.proofs.Only.{upto}
use Rattle.stage.specs.Rows.{last}

pub by_stage : (P : ℕ → Type 0) → P 0 → P 1 → P 2 → P 3 → P 4 → P 5 → P 6 → P 7 → P 8 → P 9 → P 10 → P 11 → P 12 → P 13 → P 14 → P 15 → P 16 → P 17 → P 18 → P 19 → (k : ℕ) → k ≤ last → P k
by_stage P p0 p1 p2 p3 p4 p5 p6 p7 p8 p9 p10 p11 p12 p13 p14 p15 p16 p17 p18 p19 =
    upto P last (((((((((((((((((((p0, p1), p2), p3), p4), p5), p6), p7), p8), p9), p10), p11), p12), p13), p14), p15), p16), p17), p18), p19)
