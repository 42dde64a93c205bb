-- Stage 14: the first closes its link and is out of the line. Assumes nothing.
use Prim.Native.Nat.{ℕ, suc}
use mathlib.Core.Path.{◌≡◌, refl, sym, ◌∙◌, ap, subst⁻¹}
use mathlib.Core.List.{List, [], ◌∷◌}
use mathlib.Core.Logic.{◌≢◌, inr, ⊎_elim}
use lib.Dec.{lit≤}
use native.Mathlib.Omega.{arith}
use Rattle.link.specs.Operations.{OPEN, CLOSED, changed}
use Rattle.stage.proofs.Update.{upd_all, upd_both}
use Rattle.stage.specs.Rows.{goes, with_link, row14}
use Rattle.stage.specs.Table.{upd}
use Rattle.stage.specs.declared.Private.{Private}
use Rattle.stage.specs.declared.Shared.{Shared}
use Rattle.line.specs.History.{Course, stepping}
use Rattle.line.specs.PlainLine.{Place, leave}
use Rattle.line.proofs.After.{Good, After}
use Rattle.line.proofs.Calm.{Onward, urgent_on}
use Rattle.line.proofs.Facts.{stands_at, holder_at, seeks_not}
use Rattle.line.proofs.Invariant.{Stands, Holder, Urgent, Inv}
use Rattle.line.proofs.Kept.{own_calm, own_seeks, own_nobody, own_marks, own_bytes}
use Rattle.line.proofs.Places.{In, chain_map, sorted_behind, all_behind}
use Rattle.line.proofs.Tables.{held_stands}

abbrev shut : Shared → Shared
shut its = with_link (changed suc its.link its.link.pointer CLOSED) its

leaving :
    (g : ℕ → ℕ) (private : ℕ → Private) (sh : ℕ → Shared) (lock : ℕ) (l : List Place) (h p : ℕ)
    → Inv g private sh lock l h
    → p ≢ 0
    → (private p).stage ≡ 14
    → Good g (upd private p (goes 15 (private p))) (upd sh p (shut (sh p))) lock (leave l)
unfolding leave changed
leaving g private sh lock [] h p i some e = absurd (((holder_at i p 14 e ((stands_at i p 14 e).holds tt)).first tt).1 refl)
leaving g private sh lock (x ∷ l) h p i some e = (
  h,
  record {
    stands =
        upd_both private sh p me' its' (λ q me its. Stands l h q me.stage its.locked) (held_stands l h p 15 _ (lit≤ tt) tt e')
        (λ q n. let s = i.stands q in
        record { known = s.known; out = λ t into. s.out t (inr into); waits = λ t. (others q n (s.waits t).0, (s.waits t).1); holds = s.holds });
    seeks = own_seeks i p me' its' link line some (seeks_not g sh' p 15 me' its' tt);
    holder =
        upd_both private sh p me' its' (λ q me its. q ≡ h → Holder q me.stage me its lock l)
        (λ _. record {
          free = absurd;
          first = absurd;
          away = λ _ into. i.distinct.0 (subst⁻¹ (λ (z : ℕ). In z l) f.2 into);
          closing = λ _. (f.0, ap (λ (z : ℕ). (sh z).link.pointer) (sym f.2) ∙ i.chain.0);
          next = absurd;
          handing = absurd;
        })
        (λ q n z. absurd (n (z ∙ sym e')))
        h refl;
    nobody = own_nobody i p me' its' link line some;
    distinct = i.distinct.1;
    chain =
        chain_map (λ q. (sh q).link.pointer) (λ q. (sh' q).link.pointer) l
        (λ q into. upd_all sh p its' (λ q s. s.link.pointer ≡ (sh q).link.pointer) refl (λ q n. refl) q)
        i.chain.1;
    sorted = sorted_behind l i.sorted;
    urgent = all_behind (Urgent sh') l (urgent_on i sh' (own_calm i p me' its' link line));
    opens = upd_all sh p its' (λ q s. s.link.mark ≡ OPEN → In q l) (λ z. absurd (omega arith)) (λ q n z. others q n (i.opens q z));
    marks = own_marks i p me' its' link line some (lit≤ tt);
    bytes = own_bytes i p me' its' link line some (i.bytes p);
  },
)
  where
    e' : p ≡ h
    e' = (stands_at i p 14 e).holds tt

    f : (lock ≡ p) × ((x ∷ l) ≢ []) × (x.module ≡ p)
    f = (holder_at i p 14 e e').first tt

    me' : Private
    me' = goes 15 (private p)

    its' : Shared
    its' = shut (sh p)

    sh' : ℕ → Shared
    sh' = upd sh p its'

    link : Onward (sh p).link its'.link
    link = inr (omega arith)

    line : In p (x ∷ l) → (its'.link.pointer ≡ (sh p).link.pointer) × (its'.priority ≡ (sh p).priority)
    line _ = (refl, refl)

    others : (q : ℕ) → q ≢ p → In q (x ∷ l) → In q l
    others q n = ⊎_elim (λ a. absurd (n (a ∙ f.2))) (λ a. a)

pub row14_keeps :
    (o : Course) {private : ℕ → Private} {sh : ℕ → Shared} {lock h : ℕ} → Inv o.given private sh lock o.line h → (p : ℕ) → p ≢ 0
    → (private p).stage ≡ 14 → After o private sh p p (row14 suc p (private p) (sh p) lock)
unfolding stepping
row14_keeps o i p some e = leaving _ _ _ _ o.line _ p i some e
