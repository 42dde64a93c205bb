-- Stage 2: a module takes a free lock, and is the line. Assumes nothing.
use Prim.Native.Nat.{ℕ, suc}
use mathlib.Core.Path.{◌≡◌, refl, sym, ◌∙◌, ap, subst⁻¹}
use mathlib.Core.List.{List, [], ◌∷◌, cons-ne-nil}
use mathlib.Core.Logic.{◌≢◌, ⊎_elim}
use lib.Dec.{T, lit≤, eqb}
use borrow.Author.Tests.{eqb-true}
use Rattle.laws.proofs.Cases.{choose}
use Rattle.laws.proofs.Only.{among, disjoint}
use Rattle.stage.proofs.Update.{upd_other, upd_all, upd_kept}
use Rattle.stage.specs.Rows.{goes, row2}
use Rattle.stage.specs.Table.{upd}
use Rattle.stage.specs.declared.Private.{Private}
use Rattle.stage.specs.declared.Shared.{Shared}
use Rattle.line.specs.History.{Course, stepping}
use Rattle.line.specs.PlainLine.{Place, join}
use Rattle.line.proofs.After.{Good, After}
use Rattle.line.proofs.Facts.{seeks_at, seeks_not, free}
use Rattle.line.proofs.Invariant.{Stands, Seeks, Holder, Inv, outs, holders}
use Rattle.line.proofs.Places.{In}
use Rattle.line.proofs.SeekingRows.{row2_waits}
use Rattle.line.proofs.Tables.{held_stands, first_holder}

module _ (o : Course) {private : ℕ → Private} {sh : ℕ → Shared} {lock : ℕ} {h : ℕ} (i : Inv o.given private sh lock o.line h) (p : ℕ) (some : p ≢ 0) where
  taking : (private p).stage ≡ 2 → lock ≡ 0 → Inv o.given (upd private p (goes 19 (private p))) sh p (record { «module» = p; priority = o.given p } ∷ []) p
  taking e z =
      record {
        stands =
            upd_all private p me' (λ q me. Stands (x ∷ []) p q me.stage (sh q).locked) (held_stands (x ∷ []) p p 19 _ (lit≤ tt) tt refl)
            (λ q n. let s = i.stands q in
            record {
              known = s.known;
              out = λ t. ⊎_elim n (λ a. a);
              waits = λ t. absurd (nobody_in q (s.waits t).0);
              holds = λ t. absurd (disjoint holders outs tt (private q).stage t (subst⁻¹ (λ (k : ℕ). T (among (private k).stage outs)) (s.holds t) (free i z).1));
            });
        seeks = upd_all private p me' (λ q me. Seeks o.given sh q me.stage me (sh q)) (seeks_not _ sh p 19 me' (sh p) tt) (λ q n. i.seeks q);
        holder =
            upd_all private p me' (λ q me. q ≡ p → Holder q me.stage me (sh q) p (x ∷ []))
            (λ _. first_holder p 19 me' (sh p) p (x ∷ []) tt (refl, cons-ne-nil x [], refl))
            (λ q n e'. absurd (n e'))
            p refl;
        nobody = ap (λ (me : Private). me.stage) (upd_other private p me' 0 (λ e'. some (sym e'))) ∙ i.nobody;
        distinct = ((λ a. a), tt);
        chain = ((seeks_at i p 2 e).nil tt, tt);
        sorted = tt;
        urgent = tt;
        opens = λ q a. absurd (nobody_in q (i.opens q a));
        marks = i.marks;
        bytes = i.bytes;
      }
    where
      me' : Private
      me' = goes 19 (private p)

      x : Place
      x = record { «module» = p; priority = o.given p }

      nobody_in : (q : ℕ) → In q o.line → ⊥
      nobody_in q = subst⁻¹ (λ (l : List Place). In q l → ⊥) (free i z).0 (λ a. a)

  pub row2_keeps : (private p).stage ≡ 2 → After o private sh p p (row2 suc p (private p) (sh p) lock)
  unfolding stepping join
  row2_keeps e =
      choose (After o private sh p p) (eqb lock 0)
      (λ zero. let z = eqb-true lock 0 zero in
      subst⁻¹ (λ (l : List Place). Good o.given (upd private p (goes 19 (private p))) (upd sh p (sh p)) p (join (record { «module» = p; priority = o.given p }) l)) (free i z).0
      (p, subst⁻¹ (λ (f : ℕ → Shared). Inv o.given (upd private p (goes 19 (private p))) f p (record { «module» = p; priority = o.given p } ∷ []) p) (upd_kept sh p) (taking e z)))
      (λ held. row2_waits o i p some e)
