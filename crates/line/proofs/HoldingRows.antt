-- The rows of a module in the line, and of a release, that leave the line and its holder as they are. Assumes nothing.
use Prim.Native.Nat.{ℕ, suc, ◌≤◌}
use mathlib.Core.Path.{◌≡◌, refl, sym, ◌∙◌, ap, subst, subst₂}
use mathlib.Core.List.{List}
use mathlib.Core.Logic.{◌≢◌, inl, inr}
use lib.Dec.{T, lit≤, eqb}
use borrow.Author.Tests.{eqb-true, eqb-false}
use native.Mathlib.Omega.{arith}
use Rattle.laws.proofs.Cases.{choose}
use Rattle.laws.proofs.Only.{among, included}
use Rattle.link.specs.Operations.{changed}
use Rattle.stage.proofs.Update.{upd_kept}
use Rattle.stage.specs.Rows.{goes, row3, row11, row12, row15, row16, last}
use Rattle.stage.specs.Table.{upd}
use Rattle.stage.specs.declared.Private.{Private}
use Rattle.stage.specs.declared.Shared.{Shared}
use Rattle.line.specs.History.{Course, stepping}
use Rattle.line.specs.PlainLine.{Place}
use Rattle.line.proofs.After.{Good, After}
use Rattle.line.proofs.Facts.{stands_at, holder_at, seeks_not, head_in, empty, freed_first}
use Rattle.line.proofs.Invariant.{Inv, holders, members, settled}
use Rattle.line.proofs.Kept.{kept}
use Rattle.line.proofs.Places.{head}
use Rattle.line.proofs.Tables.{out_stands, out_holder, held_stands, first_holder}

module _ (o : Course) {private : ℕ → Private} {sh : ℕ → Shared} {lock : ℕ} {h : ℕ} (i : Inv o.given private sh lock o.line h) (p : ℕ) (some : p ≢ 0) where
  abbrev l : List Place
  l = o.line

  pub row11_keeps : (private p).stage ≡ 11 → After o private sh p p (row11 suc p (private p) (sh p) lock)
  unfolding stepping changed
  row11_keeps e =
      let s = (stands_at i p 11 e).waits tt in (
        h,
        kept i p _ _ (inr (omega arith)) (λ _. (refl, refl)) lock (λ _. refl) some (λ _. s.0) (lit≤ tt) (i.bytes p)
            (record { known = lit≤ tt; out = absurd; waits = λ _. s; holds = absurd })
            (seeks_not _ _ p 12 _ _ tt)
            (λ e'. first_holder p 12 _ _ lock l tt ((holder_at i p 11 e e').first tt)),
      )

  pub row12_keeps : (private p).stage ≡ 12 → After o private sh p p (row12 suc p (private p) (sh p) lock)
  unfolding stepping
  row12_keeps e =
      let s = (stands_at i p 12 e).waits tt in
      choose (After o private sh p p) (eqb (sh p).locked 0)
      (λ free.
      let z = eqb-true (sh p).locked 0 free in
      let e' = freed_first i p e z in (
        h,
        kept i p _ _ (inl refl) (λ _. (refl, refl)) lock (λ _. refl) some (i.opens p) (i.marks p) (i.bytes p)
            (held_stands l h p 13 _ (lit≤ tt) tt e')
            (seeks_not _ _ p 13 _ _ tt)
            (λ _. first_holder p 13 _ _ lock l tt ((holder_at i p 12 e e').first tt)),
      ))
      (λ wait. (h, subst₂ (λ (f : ℕ → Private) (f' : ℕ → Shared). Inv o.given f f' lock l h) (sym (upd_kept private p)) (sym (upd_kept sh p)) i))

  pub row3_keeps : (private p).stage ≡ 3 → After o private sh p p (row3 suc p (private p) (sh p) lock)
  unfolding stepping changed
  row3_keeps e =
      let e' = (stands_at i p 3 e).holds tt in
      let f = (holder_at i p 3 e e').first tt in (
        h,
        kept i p _ _ (inr (omega arith)) (λ _. (refl, refl)) lock (λ _. refl) some (λ _. head_in i p f.1 f.2) (lit≤ tt) (i.bytes p)
            (held_stands l h p 13 _ (lit≤ tt) tt e')
            (seeks_not _ _ p 13 _ _ tt)
            (λ _. first_holder p 13 _ _ lock l tt f),
      )

  -- the line's first goes from one stage to another of those it holds the lock at, and no record changes
  holds_on : (k k' : ℕ) → (private p).stage ≡ k → T (among k holders) → T (among k members) → k' ≤ last → T (among k' holders) → T (among k' members)
      → Good o.given (upd private p (goes k' (private p))) sh lock l
  holds_on k k' e held in_line known held' in_line' =
      let e' = (stands_at i p k e).holds held in (
        h,
        subst (λ (f : ℕ → Shared). Inv o.given (upd private p (goes k' (private p))) f lock l h) (upd_kept sh p)
            (kept i p _ _ (inl refl) (λ _. (refl, refl)) lock (λ _. refl) some (i.opens p) (i.marks p) (i.bytes p)
            (held_stands l h p k' _ known held' e')
            (seeks_not _ _ p k' _ _ (included holders settled tt k' held'))
            (λ _. first_holder p k' _ _ lock l in_line' ((holder_at i p k e e').first in_line))),
      )

  -- begin release
  pub release_keeps : (private p).stage ≡ 13 → Good o.given (upd private p (goes 14 (private p))) sh lock l
  release_keeps e = holds_on 13 14 e tt tt (lit≤ tt) tt tt

  -- a desk of before R-1 leaves out stage 19
  pub unraised_keeps : (private p).stage ≡ 19 → Good o.given (upd private p (goes 3 (private p))) sh lock l
  unraised_keeps e = holds_on 19 3 e tt tt (lit≤ tt) tt tt

  pub row15_keeps : (private p).stage ≡ 15 → After o private sh p p (row15 suc p (private p) (sh p) lock)
  unfolding stepping
  row15_keeps e =
      let e' = (stands_at i p 15 e).holds tt in
      let f = holder_at i p 15 e e' in (
        h,
        kept i p _ _ (inl refl) (λ _. (refl, refl)) lock (λ _. refl) some (i.opens p) (i.marks p) (i.bytes p)
            (held_stands l h p 16 _ (lit≤ tt) tt e')
            (seeks_not _ _ p 16 _ _ tt)
            (λ _. record { free = absurd; first = absurd; away = f.away; closing = f.closing; next = λ _. (f.closing tt).1; handing = absurd }),
      )

  pub row16_keeps : (private p).stage ≡ 16 → After o private sh p p (row16 suc p (private p) (sh p) lock)
  unfolding stepping
  row16_keeps e =
      let e' = (stands_at i p 16 e).holds tt in
      let f = holder_at i p 16 e e' in
      let s = f.next tt in
      choose (After o private sh p p) (eqb (private p).s 0)
      (λ nil.
      let z = eqb-true (private p).s 0 nil in (
        h,
        kept i p _ _ (inl refl) (λ _. (refl, refl)) (private p).s (λ n. absurd (n e')) some (i.opens p) (i.marks p) (i.bytes p)
            (out_stands l h p 0 _ (lit≤ tt) tt (f.away tt))
            (seeks_not _ _ p 0 _ _ tt)
            (λ _. out_holder p 0 _ _ (private p).s l tt (empty i (sym s ∙ z), z)),
      ))
      (λ on. (
        h,
        kept i p _ _ (inl refl) (λ _. (refl, refl)) (private p).s (λ n. absurd (n e')) some (i.opens p) (i.marks p) (i.bytes p)
            (held_stands l h p 17 _ (lit≤ tt) tt e')
            (seeks_not _ _ p 17 _ _ tt)
            (λ _. record {
              free = absurd;
              first = absurd;
              away = f.away;
              closing = absurd;
              next = absurd;
              handing = λ _. (s, s, λ none. eqb-false _ _ on (s ∙ ap head none));
            }),
      ))
