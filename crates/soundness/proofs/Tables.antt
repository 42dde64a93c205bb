-- The tables have the rules of a record in them: a record whose bytes lie between the numbers that they have for its stage is a sound one.
-- Assumes nothing.
use Prim.Native.Nat.{ℕ, zero, suc, ◌+◌, ◌%◌, ◌<◌, ◌≤◌}
use mathlib.Core.Path.{◌≡◌, refl, sym, ◌∙◌, subst}
use mathlib.Core.Bool.{Bool, true, false, cond, ◌&&◌, and-true, true≢false}
use mathlib.Core.Logic.{⊎_elim}
use mathlib.Core.List.{List, [], ◌∷◌}
use native.Mathlib.Nat.{le_of_suc-le-suc, not-suc-le-zero, eq-or-lt_of_le}
use native.Mathlib.Omega.{arith}
use borrow.Author.Tests.{leb-true, le-leb}
use lib.Dec.{eqb, leb, leb-zero}
use lib.ListN.{length, get_or, take}
use Rattle.std.specs.List.{list_all}
use Rattle.std.proofs.lemmas.List.Folds.{list_all_at, list_all_more}
use Rattle.stage.specs.Calls.{within}
use Rattle.stage.specs.Rows.{last}
use Rattle.stage.specs.Sound.{at, sound_link, sound_own, sound_stage, sound_private, sound_shared}
use Rattle.layout.specs.Layout.{byte, private_at, shared_at}
use Rattle.soundness.specs.declared.TheConstants.{LEAST, ROWS}
use Rattle.soundness.specs.SoundImage.{sound_zeros}
use Rattle.soundness.specs.Parts.{record_right, below, lanes_right, greatest_row, greatest_rows}
use Rattle.soundness.proofs.Lists.{only_zero, sorted}

-- each stage's row is one of the five
pub row_below : (stage place row : ℕ) → place ≡ stage % 32 → row ≡ get_or ROWS place 0 → row < 5
row_below stage place row ep er = rw er (go (leb (get_or ROWS place 0) 4) refl)
  where
    go : (t : Bool) → leb (get_or ROWS place 0) 4 ≡ t → get_or ROWS place 0 < 5
    go true e = let h : get_or ROWS place 0 ≤ 4 = leb-true (get_or ROWS place 0) 4 e in omega arith
    go false e = absurd (true≢false (list_all_at (λ x. leb x 4) ROWS place 0 (omega arith) e))

-- a rule of a table's entries, shown of each
abbrev Below : ℕ → (ℕ → Type 0) → Type 0
Below zero P = Unit {0}
Below (suc k) P = Below k P × P k

from_below : (P : ℕ → Type 0) (k : ℕ) → Below k P → (i : ℕ) → i < k → P i
from_below P zero all i h = absurd (not-suc-le-zero h)
from_below P (suc k) all i h =
    ⊎_elim (λ e. subst P (sym e) all.1) (λ lt. from_below P k all.0 i lt) (eq-or-lt_of_le (le_of_suc-le-suc h))

-- a row of leasts, by those of own priority, prev, w's pointer and s
abbrev least_row : ℕ → ℕ → ℕ → ℕ → List ℕ
least_row own prev pointer s = 0 ∷ own ∷ prev ∷ pointer ∷ 0 ∷ 0 ∷ 0 ∷ 0 ∷ 0 ∷ 0 ∷ 0 ∷ 0 ∷ 0 ∷ 0 ∷ s ∷ 0 ∷ []

-- what the rows ask of a record at a stage, and what is looked up in the tables
asked : List ℕ → ℕ → ℕ → Bool
asked r n s =
    lanes_right r (least_row (cond (eqb s 0) 0 1) (cond (within 4 10 s) 1 0) (cond (within 7 7 s) 1 0) (cond (within 17 18 s) 1 0))
    (greatest_row (cond (eqb s 0) 0 254) n)

abbrev looked : List ℕ → ℕ → ℕ → Bool
looked r n row = lanes_right r (get_or LEAST row []) (get_or (greatest_rows n) row [])

looked_up : (r : List ℕ) (n s : ℕ) → s < 32 → looked r n (get_or ROWS s 0) ≡ asked r n s
unfolding asked lanes_right below
looked_up r n =
    from_below (λ s. looked r n (get_or ROWS s 0) ≡ asked r n s) 32
    ((((((((((((((((((((((((((((((((tt, refl), refl), refl), refl), refl), refl), refl), refl), refl), refl), refl), refl), refl), refl), refl), refl), refl), refl), refl), refl), refl), refl), refl), refl), refl), refl), refl), refl), refl), refl), refl), refl)

-- a lane by what it asks: not 0 where c holds; own priority; any byte
set_where : (c : Bool) (x : ℕ) → leb (cond c 1 0) x ≡ at c (leb 1 x)
set_where true x = refl
set_where false x = leb-zero x

own_where : (c : Bool) (x : ℕ) → within (cond c 0 1) (cond c 0 254) x ≡ cond c (eqb x 0) (within 1 254 x)
own_where true x = (only_zero x).1
own_where false x = refl

any : (x : ℕ) → x < 256 → within 0 255 x ≡ true
any x h = rw (leb-zero, le-leb x 255 (omega arith))

-- the rules of `sound_stage`, where what they ask goes by s
abbrev stage_rules : ℕ → ℕ → ℕ → ℕ → ℕ → ℕ → Bool
stage_rules s stage own prev pointer next =
    leb stage last && sound_own s own && at (within 4 10 s) (leb 1 prev) && at (within 7 7 s) (leb 1 pointer) && at (within 17 18 s) (leb 1 next)

-- the tests in the order of the bytes, and in that of `record_right`
reorder : (v o p lp q lq m z l8 m9 m13 t lt y : Bool)
    → (v && o && (p && lp) && (q && lq) && m && z && l8 && m9 && m13 && (t && lt) && y)
    ≡ (z && y && (lq && m && lp && lt && (v && o && p && q && t)) && (l8 && m9 && m13))
reorder v o p lp q lq m z l8 m9 m13 t lt y = simp sorted

asked_is : (r : List ℕ) (n s : ℕ) → ((i : ℕ) → byte r i < 256)
    → asked r n s
    ≡ (sound_zeros r 0
    && (sound_link n (private_at r 0).w && leb (byte r 2) n && leb (byte r 14) n
    && stage_rules s (byte r 0) (byte r 1) (byte r 2) (byte r 3) (byte r 14))
    && sound_shared n (shared_at r 0))
unfolding asked lanes_right below sound_own sound_zeros sound_link sound_shared private_at shared_at
asked_is r n s small =
    let x : ℕ → ℕ = byte r in
    rw (own_where, (only_zero (x 5)).1, (only_zero (x 15)).1, any (x 6) (small _), any (x 7) (small _), any (x 10) (small _), any (x 11) (small _), any (x 12) (small _))
    (simp (leb-zero, set_where, and-true)
    (reorder (leb (x 0) last) (sound_own s (x 1)) (at (within 4 10 s) (leb 1 (x 2))) (leb (x 2) n) (at (within 7 7 s) (leb 1 (x 3))) (leb (x 3) n) (leb (x 4) 1) (eqb (x 5) 0)
    (leb (x 8) n) (leb (x 9) 1) (leb (x 13) 1) (at (within 17 18 s) (leb 1 (x 14))) (leb (x 14) n) (eqb (x 15) 0)))

-- a row is looked up by the stage's remainder, which is the stage where that is one
by_remainder : (stage own prev pointer next : ℕ) → stage_rules (stage % 32) stage own prev pointer next ≡ sound_stage stage own prev pointer next
unfolding sound_stage
by_remainder stage own prev pointer next = go (leb stage last) refl
  where
    go : (t : Bool) → leb stage last ≡ t → stage_rules (stage % 32) stage own prev pointer next ≡ sound_stage stage own prev pointer next
    go true e = let h : stage ≤ last = leb-true stage last e in let same : stage % 32 ≡ stage = omega arith in rw same
    go false e = rw e

by_tables : (r : List ℕ) (n : ℕ) → ((i : ℕ) → byte r i < 256) → looked r n (get_or ROWS (byte r 0 % 32) 0) ≡ record_right n r
unfolding record_right sound_private private_at
by_tables r n small =
    looked_up r n (byte r 0 % 32) (omega arith)
    ∙ asked_is r n (byte r 0 % 32) small
    ∙ rw (by_remainder (byte r 0) (byte r 1) (byte r 2) (byte r 3) (byte r 14))

-- all records so far, and one more
pub records_more : (rows greatest : List (List ℕ)) (n p place row : ℕ) (was now : Bool) → ((i : ℕ) → byte (get_or rows p []) i < 256) → p < length rows
    → greatest ≡ greatest_rows n → place ≡ byte (get_or rows p []) 0 % 32 → row ≡ get_or ROWS place 0
    → was ≡ list_all (record_right n) (take p rows) → now ≡ (was && lanes_right (get_or rows p []) (get_or LEAST row []) (get_or greatest row []))
    → now ≡ list_all (record_right n) (take (p + 1) rows)
records_more rows greatest n p place row was now small h eg ep er ew e =
    e ∙ rw (eg, er, ep, ew, by_tables (get_or rows p []) n small) (sym (list_all_more (record_right n) rows p [] h))
