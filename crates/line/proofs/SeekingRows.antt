-- The rows by which a module seeks its place: each keeps it away from the line. Assumes nothing.
use Prim.Native.Nat.{ℕ, suc, ◌≤◌}
use mathlib.Core.Path.{◌≡◌, refl, subst⁻¹}
use mathlib.Core.Logic.{◌≢◌, inl, inr}
use lib.Dec.{T, lit≤, eqb, ltb}
use borrow.Author.Tests.{eqb-true, eqb-false, ltb-true, ltb-false}
use native.Mathlib.Omega.{arith}
use Rattle.laws.proofs.Cases.{choose}
use Rattle.laws.proofs.Only.{among}
use Rattle.link.specs.Operations.{CLOSED, changed}
use Rattle.stage.proofs.Update.{upd_kept}
use Rattle.stage.specs.Rows.{goes, with_prev, with_w, row1, row4, row5, row6, row7, row8, after9, row10, last}
use Rattle.stage.specs.Table.{upd}
use Rattle.stage.specs.declared.Private.{Private}
use Rattle.stage.specs.declared.Shared.{Shared}
use Rattle.line.specs.History.{Course, stepping}
use Rattle.line.proofs.After.{Good, After}
use Rattle.line.proofs.Calm.{knows_on}
use Rattle.line.proofs.Facts.{seeks_at}
use Rattle.line.proofs.Invariant.{Seeks, Inv, outs}
use Rattle.line.proofs.Kept.{own_calm}
use Rattle.line.proofs.Seeking.{not_in, seek, look}
use Rattle.std.specs.Prelude.{Err}

module _ (o : Course) {private : ℕ → Private} {sh : ℕ → Shared} {lock : ℕ} {h : ℕ} (i : Inv o.given private sh lock o.line h) (p : ℕ) (some : p ≢ 0) where
  -- the stage is k, one of those away from the line
  at_out : (k : ℕ) → (private p).stage ≡ k → T (among k outs) → T (among (private p).stage outs)
  at_out k e = subst⁻¹ (λ (j : ℕ). T (among j outs)) e

  -- a row that only looks at x
  looked : (k : ℕ) → (private p).stage ≡ k → T (among k outs) → (x : ℕ) (me' : Private) → me'.stage ≤ last → T (among me'.stage outs)
      → Seeks o.given sh p me'.stage me' (sh p) → Good o.given (upd private p me') (upd sh x (sh x)) lock o.line
  looked k e out x me' known o' seeks = (
    h,
    subst⁻¹ (λ (s : ℕ → Shared). Inv o.given (upd private p me') s lock o.line h) (upd_kept sh x)
        (look i p some (at_out k e out) me' known o' seeks),
  )

  pub row1_keeps : (private p).stage ≡ 1 → After o private sh p p (row1 suc p (private p) (sh p) lock)
  unfolding stepping changed
  row1_keeps e =
      let s = seeks_at i p 1 e in (
        h,
        seek i p some (at_out 1 e tt) _ _ (lit≤ tt) tt (inr (omega arith)) refl (i.bytes p)
            (record { given = s.given; nil = λ _. refl; locked = absurd; copied = absurd; knows = absurd }),
      )

  pub row2_waits : (private p).stage ≡ 2 → Good o.given (upd private p (goes 4 (with_prev lock (private p)))) (upd sh p (sh p)) lock o.line
  row2_waits e =
      let s = seeks_at i p 2 e in
      looked 2 e tt p _ (lit≤ tt) tt (record { given = s.given; nil = absurd; locked = absurd; copied = absurd; knows = absurd })

  pub row4_keeps : (private p).stage ≡ 4 → After o private sh p p (row4 suc p (private p) (sh p) lock)
  unfolding stepping
  row4_keeps e =
      let s = seeks_at i p 4 e in (
        h,
        seek i p some (at_out 4 e tt) _ _ (lit≤ tt) tt (inl refl) refl (i.bytes p)
            (record { given = s.given; nil = absurd; locked = λ _. refl; copied = absurd; knows = absurd }),
      )

  pub row5_keeps : (private p).stage ≡ 5 → After o private sh p (private p).prev (row5 suc p (private p) (sh (private p).prev) lock)
  unfolding stepping
  row5_keeps e =
      let s = seeks_at i p 5 e in
      let x = (private p).prev in
      choose (λ k. Good o.given (upd private p (goes k (with_w (sh x).link (private p)))) (upd sh x (sh x)) lock o.line) (eqb (sh x).link.mark CLOSED)
      (λ shut. looked 5 e tt x _ (lit≤ tt) tt (record { given = s.given; nil = absurd; locked = absurd; copied = absurd; knows = absurd }))
      (λ is_open. looked 5 e tt x _ (lit≤ tt) tt
      (record {
        given = s.given;
        nil = absurd;
        locked = s.locked;
        copied = absurd;
        knows = λ _. ((omega (arith, eqb-false (sh x).link.mark CLOSED is_open, i.marks x), omega arith, λ _. refl), absurd, absurd);
      }))

  pub row6_keeps : (private p).stage ≡ 6 → After o private sh p (private p).prev (row6 suc p (private p) (sh (private p).prev) lock)
  unfolding stepping
  row6_keeps e =
      let s = seeks_at i p 6 e in
      let me = private p in
      let x = me.prev in
      choose (λ k. Good o.given (upd private p (goes k me)) (upd sh x (sh x)) lock o.line) (ltb (sh x).priority me.own)
      (λ less. looked 6 e tt x _ (lit≤ tt) tt (record { given = s.given; nil = absurd; locked = absurd; copied = absurd; knows = absurd }))
      (λ more. choose (λ k. Good o.given (upd private p (goes k me)) (upd sh x (sh x)) lock o.line) (eqb me.w.pointer 0)
      (λ last. looked 6 e tt x _ (lit≤ tt) tt
      (record {
        given = s.given;
        nil = absurd;
        locked = s.locked;
        copied = absurd;
        knows = λ _. ((s.knows tt).0, (λ _ _. ltb-false _ _ more), λ _ _. inl (eqb-true _ _ last));
      }))
      (λ on. looked 6 e tt x _ (lit≤ tt) tt
      (record {
        given = s.given;
        nil = absurd;
        locked = s.locked;
        copied = absurd;
        knows = λ _. ((s.knows tt).0, (λ _ _. ltb-false _ _ more), absurd);
      })))

  pub row7_keeps : (private p).stage ≡ 7 → After o private sh p (private p).w.pointer (row7 suc p (private p) (sh (private p).w.pointer) lock)
  unfolding stepping
  row7_keeps e =
      let s = seeks_at i p 7 e in
      let me = private p in
      let x = me.w.pointer in
      choose (After o private sh p x) (ltb (sh x).priority me.own)
      (λ less. looked 7 e tt x _ (lit≤ tt) tt
      (record {
        given = s.given;
        nil = absurd;
        locked = s.locked;
        copied = absurd;
        knows = λ _. ((s.knows tt).0, (s.knows tt).1, λ _ _. inr (ltb-true _ _ less));
      }))
      (λ more. looked 7 e tt x _ (lit≤ tt) tt (record { given = s.given; nil = absurd; locked = s.locked; copied = absurd; knows = absurd }))

  pub row8_keeps : (private p).stage ≡ 8 → After o private sh p p (row8 suc p (private p) (sh p) lock)
  unfolding stepping changed
  row8_keeps e =
      let s = seeks_at i p 8 e in
      let out = at_out 8 e tt in (
        h,
        seek i p some out _ _ (lit≤ tt) tt (inr (omega arith)) refl (i.bytes p)
            (record {
              given = s.given;
              nil = absurd;
              locked = s.locked;
              copied = λ _. refl;
              knows = knows_on i _ (own_calm i p (private p) _ (inr (omega arith)) (λ into. absurd (not_in i p some out into))) 8 (private p) s.knows;
            }),
      )

  pub row10_keeps : (private p).stage ≡ 10 → After o private sh p (private p).prev (row10 suc p (private p) (sh (private p).prev) lock)
  unfolding stepping
  row10_keeps e =
      let s = seeks_at i p 10 e in
      let me = private p in
      let x = me.prev in
      choose (λ k. Good o.given (upd private p (goes k me)) (upd sh x (sh x)) lock o.line) (ltb (sh x).priority me.own)
      (λ less. looked 10 e tt x _ (lit≤ tt) tt (record { given = s.given; nil = absurd; locked = absurd; copied = absurd; knows = absurd }))
      (λ more. looked 10 e tt x _ (lit≤ tt) tt (record { given = s.given; nil = absurd; locked = s.locked; copied = absurd; knows = absurd }))

  pub row9_fails : (private p).stage ≡ 9 → After o private sh p (private p).prev (after9 (private p) (sh (private p).prev) lock (Err (sh (private p).prev).link))
  unfolding stepping
  row9_fails e =
      let s = seeks_at i p 9 e in
      let x = (private p).prev in
      choose (λ k. Good o.given (upd private p (goes k (with_w (sh x).link (private p)))) (upd sh x (sh x)) lock o.line) (eqb (sh x).link.mark CLOSED)
      (λ shut. looked 9 e tt x _ (lit≤ tt) tt (record { given = s.given; nil = absurd; locked = absurd; copied = absurd; knows = absurd }))
      (λ is_open. looked 9 e tt x _ (lit≤ tt) tt (record { given = s.given; nil = absurd; locked = s.locked; copied = absurd; knows = absurd }))
