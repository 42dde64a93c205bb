-- A release is handed on: what every call does to it, of every history on a fresh image. Assumes nothing.
use Prim.Native.Nat.{ℕ, ◌≤◌}
use mathlib.Core.List.{List}
use lib.ListN.{length}
use Rattle.link.specs.Count.{size}
use Rattle.stage.specs.Calls.{set_up}
use Rattle.stage.specs.Table.{fresh_table}
use Rattle.layout.specs.Layout.{length_for, put}
use Rattle.image.specs.Call.{image}
use Rattle.line.proofs.Alike.{never, today, says_today}
use Rattle.line.proofs.HandingOn.{modular_hands_on, hands_on_alike}
use Rattle.line.proofs.Release.{HandsOn}
use Rattle.line.specs.History.{Desk}
use Rattle.claims.proofs.Promises.{two, bytes, tables, says, same_table}
use Rattle.claims.specs.Claims.{images}

pub today_hands_on : (n : ℕ) (b : List ℕ) → 1 ≤ n → n ≤ 64 → length_for n ≤ length b → HandsOn images (image (set_up n) b) size
today_hands_on n b some few room =
    hands_on_alike images D s (0, s) (today images put s) (says_today images put s) size
    (hands_on_alike D (tables n b some few room never) (0, s) (0, fresh_table n) (same_table n b some few room never) (says n b some few room never) size
    (modular_hands_on size two _ n))
  where
    s : List ℕ
    s = image (set_up n) b

    D : Desk
    D = bytes n b some few room never
