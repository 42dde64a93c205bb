-- A fresh table, and begin acquisition. Assumes nothing.
use Prim.Native.Nat.{ℕ, ◌≤◌}
use mathlib.Core.Path.{◌≡◌, refl, sym, ◌∙◌, ap, subst⁻¹}
use mathlib.Core.List.{List, []}
use mathlib.Core.Logic.{◌≢◌, inl}
use lib.Dec.{T, lit≤}
use native.Mathlib.Omega.{arith}
use Rattle.laws.proofs.Only.{among}
use Rattle.link.specs.Operations.{fresh}
use Rattle.stage.proofs.Update.{upd_same, upd_other}
use Rattle.stage.specs.Rows.{goes, with_own, with_priority}
use Rattle.stage.specs.Table.{upd, idle, untouched}
use Rattle.stage.specs.declared.Private.{Private}
use Rattle.stage.specs.declared.Shared.{Shared}
use Rattle.line.specs.PlainLine.{Place}
use Rattle.line.proofs.Facts.{seeks_not}
use Rattle.line.proofs.Invariant.{Inv, outs, seekers}
use Rattle.line.proofs.Seeking.{seek}
use Rattle.line.proofs.Tables.{out_stands, out_holder}

pub fresh_good : Inv (λ p. 0) (λ p. idle) (λ p. untouched) 0 [] 0
unfolding idle untouched fresh
fresh_good =
    record {
      stands = λ q. out_stands [] 0 q 0 0 (lit≤ tt) tt (λ z. z);
      seeks = λ q. seeks_not _ _ q 0 _ _ tt;
      holder = out_holder 0 0 _ _ 0 [] tt (refl, refl);
      nobody = refl;
      distinct = tt;
      chain = tt;
      sorted = tt;
      urgent = tt;
      opens = λ q z. absurd (omega arith);
      marks = λ q. lit≤ tt;
      bytes = λ q. lit≤ tt;
    }

module _ {g : ℕ → ℕ} {private : ℕ → Private} {sh : ℕ → Shared} {lock : ℕ} {l : List Place} {h : ℕ} (i : Inv g private sh lock l h) where
  -- only a seeker's given priority matters
  regive : (g' : ℕ → ℕ) → ((q : ℕ) → T (among (private q).stage seekers) → g' q ≡ g q) → Inv g' private sh lock l h
  regive g' same =
      record {
        stands = i.stands;
        seeks = λ q. let s = i.seeks q in
            record { given = λ t. ((s.given t).0, (s.given t).1 ∙ sym (same q t)); nil = s.nil; locked = s.locked; copied = s.copied; knows = s.knows };
        holder = i.holder;
        nobody = i.nobody;
        distinct = i.distinct;
        chain = i.chain;
        sorted = i.sorted;
        urgent = i.urgent;
        opens = i.opens;
        marks = i.marks;
        bytes = i.bytes;
      }

  pub begin_keeps :
      (p r : ℕ) → p ≢ 0 → r ≤ 255 → (private p).stage ≡ 0
      → Inv (upd g p r) (upd private p (goes 1 (with_own r (private p)))) (upd sh p (with_priority r (sh p))) lock l h
  begin_keeps p r some byte e =
      seek
      (regive (upd g p r) (λ q t. upd_other g p r q (λ e'. subst⁻¹ (λ (k : ℕ). T (among k seekers) → ⊥) (ap (λ (z : ℕ). (private z).stage) e' ∙ e) (λ z. z) t)))
      p some (subst⁻¹ (λ (k : ℕ). T (among k outs)) e tt) _ _ (lit≤ tt) tt (inl refl) refl byte
      (record { given = λ _. (refl, sym (upd_same g p r)); nil = absurd; locked = absurd; copied = absurd; knows = absurd })
