-- The promises of specs/Claims.antt. Assumes nothing.
use Prim.Native.Nat.{ℕ, suc, ◌≤◌, ◌<◌}
use mathlib.Core.Path.{◌≡◌, refl, ◌∙◌, ap, subst⁻¹}
use mathlib.Core.Bool.{Bool}
use mathlib.Core.List.{List, [], ◌∷◌}
use borrow.Author.Tests.{le-leb}
use lib.Dec.{leb, lit<}
use lib.ListN.{length}
use Rattle.link.specs.Count.{next, size}
use Rattle.stage.proofs.SoundCalls.{fresh_sound}
use Rattle.stage.specs.Calls.{Call, set_up, refusals, refusing, after}
use Rattle.stage.specs.Table.{Table, fresh_table}
use Rattle.layout.specs.Layout.{length_for, read, put}
use Rattle.image.specs.Call.{refused, image}
use Rattle.line.proofs.Alike.{demand3_alike, relied_alike, let_in_alike, never, today, says_today}
use Rattle.line.proofs.Consequences.{modular_corollaries}
use Rattle.line.proofs.Desks.{mixed_tables}
use Rattle.line.proofs.LettingIn.{modular_lets_in}
use Rattle.line.proofs.Modular.{modular}
use Rattle.line.specs.Corollaries as Corollaries
use Rattle.line.specs.Demand3.{Demand3}
use Rattle.line.specs.History.{Desk, state, table}
use Rattle.line.specs.LetIn as R1
use Rattle.line.specs.Mixed.{called_by, mixed}
use Rattle.claims.proofs.Before.{alike}
use Rattle.claims.proofs.Images.{Shows, fresh_held, put_shows, leaves_is, shown}
use Rattle.claims.specs.Claims.{images, DeckLock, Relied, LetIn, MixedDesks, StaysSound}

pub stays_sound : StaysSound
stays_sound c b is =
    let left = leaves_is (length b) b (read b) (shown b is) c in
    (left.is, left.length_is)

pub two : 1 < size
two = lit< tt

-- Every history on a fresh image, whichever calls are made by desks of before R-1, is one on a fresh table.
module _ (n : ℕ) (b : List ℕ) (some : 1 ≤ n) (few : n ≤ 64) (room : length_for n ≤ length b) where
  abbrev start : List ℕ
  start = image (set_up n) b

  abbrev fits : ℕ → Bool
  fits k = leb (length_for k) (length b)

  pub start_shows : Shows (length b) start (fresh_table n)
  unfolding image refused refusals refusing after fresh_table
  start_shows =
      subst⁻¹ (λ (s : List ℕ). Shows (length b) s (fresh_table n)) (simp (le-leb 1 n some, le-leb n 64 few, le-leb (length_for n) (length b) room))
      (put_shows (fresh_table n) b (fresh_sound n some few) (fresh_held n) room)

  module _ (before : ℕ → Bool) where
    abbrev pub bytes : Desk
    bytes = mixed before images put

    abbrev pub tables : Desk
    tables = mixed_tables before (next size) fits

    abbrev now : List Call → ℕ × List ℕ
    now = state bytes (0, start)

    abbrev then : List Call → ℕ × Table
    then = state tables (0, fresh_table n)

    -- as many calls, and an image that shows the table
    shows : (cs : List Call) → ((now cs).0 ≡ (then cs).0) × Shows (length b) (now cs).1 (then cs).1
    unfolding state
    shows [] = (refl, start_shows)
    shows (c ∷ cs) =
        let s = shows cs in (
          ap suc s.0,
          subst⁻¹ (λ (k : ℕ). Shows (length b) (called_by (before k) images put c (now cs).1).1 (then (c ∷ cs)).1) s.0
              (alike (length b) (now cs).1 (then cs).1 s.1 c (before (then cs).0)).1,
        )

    pub says : (c : Call) (cs : List Call) → bytes.says c (now cs) ≡ tables.says c (then cs)
    says c cs =
        let s = shows cs in
        ap (λ (k : ℕ). (called_by (before k) images put c (now cs).1).0) s.0
        ∙ (alike (length b) (now cs).1 (then cs).1 s.1 c (before (then cs).0)).0

    pub same_table : (cs : List Call) → table bytes (0, start) cs ≡ table tables (0, fresh_table n) cs
    same_table cs = (shows cs).1.table

    mixed_demand3 : Demand3 bytes (0, start) size
    mixed_demand3 = demand3_alike bytes tables (0, start) (0, fresh_table n) same_table says size (modular size two fits before n)

    mixed_relied : Corollaries.Relied bytes (0, start) size
    mixed_relied = relied_alike bytes tables (0, start) (0, fresh_table n) same_table says size (modular_corollaries size two fits before n)

  -- desks of today alone
  today_demand3 : Demand3 images start size
  today_demand3 = demand3_alike images (bytes never) start (0, start) (today images put start) (says_today images put start) size (mixed_demand3 never)

  today_relied : Corollaries.Relied images start size
  today_relied = relied_alike images (bytes never) start (0, start) (today images put start) (says_today images put start) size (mixed_relied never)

  today_lets_in : R1.LetIn images start size
  today_lets_in =
      let_in_alike images (bytes never) start (0, start) (today images put start) (says_today images put start) size
      (let_in_alike (bytes never) (tables never) (0, start) (0, fresh_table n) (same_table never) (says never) size (modular_lets_in size two fits n))

pub deck_lock : DeckLock
deck_lock = today_demand3

pub relied : Relied
relied = today_relied

pub let_in : LetIn
let_in = today_lets_in

pub mixed_desks : MixedDesks
mixed_desks before n b some few room = (mixed_demand3 n b some few room before, mixed_relied n b some few room before)
