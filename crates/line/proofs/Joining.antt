-- Stage 9: a swap that succeeds puts the module into the line, at the place of the plain line. Assumes nothing.
use Prim.Native.Nat.{ℕ, suc, ◌≤◌, ◌<◌}
use mathlib.Core.Path.{◌≡◌, refl, sym, ◌∙◌, ap, subst, subst⁻¹}
use mathlib.Core.List.{List, [], ◌∷◌, cons-ne-nil}
use mathlib.Core.Logic.{◌≢◌, ◌⊎◌, inl, inr, ⊎_elim}
use lib.Dec.{lit≤}
use native.Mathlib.Nat.{le_refl}
use native.Mathlib.Omega.{arith}
use Rattle.laws.proofs.Cases.{choose}
use Rattle.laws.proofs.Only.{included}
use Rattle.link.proofs.Comparing.{same_true}
use Rattle.link.specs.Operations.{OPEN, same, changed, swapped}
use Rattle.link.specs.declared.Link.{Link}
use Rattle.stage.proofs.Update.{upd_same, upd_other, upd_all}
use Rattle.stage.specs.Rows.{goes, with_link, after9, row9}
use Rattle.stage.specs.Table.{upd}
use Rattle.stage.specs.declared.Private.{Private}
use Rattle.stage.specs.declared.Shared.{Shared}
use Rattle.line.specs.History.{Course, stepping}
use Rattle.line.specs.PlainLine.{Place, join, stand}
use Rattle.line.proofs.After.{After}
use Rattle.line.proofs.Calm.{Onward, urgent_on}
use Rattle.line.proofs.Facts.{stands_at, seeks_at, holder_at, not_nil}
use Rattle.line.proofs.Invariant.{Stands, Seeks, Holder, Urgent, Inv, leavers}
use Rattle.line.proofs.Others.{other_calm, other_seeks}
use Rattle.line.proofs.Places.{In, in_stand, stand_in, all_stand, distinct_stand, sorted_stand, joined}
use Rattle.line.proofs.SeekingRows.{row9_fails}

-- the module p, at stage 9, whose prev's link is still as it was read
joining :
    (g : ℕ → ℕ) (private : ℕ → Private) (sh : ℕ → Shared) (lock : ℕ) (l : List Place) (h p : ℕ)
    → Inv g private sh lock l h
    → p ≢ 0
    → (private p).stage ≡ 9
    → (sh (private p).prev).link ≡ (private p).w
    → Inv g (upd private p (goes 11 (private p)))
    (upd sh (private p).prev (with_link (changed suc (sh (private p).prev).link p OPEN) (sh (private p).prev))) lock (join (record { «module» = p; priority = g p }) l) h
unfolding join changed
joining g private sh lock [] h p i some e was_read = absurd (i.opens (private p).prev (ap (λ (k : Link). k.mark) was_read ∙ ((seeks_at i p 9 e).knows tt).0.0))
joining g private sh lock (y ∷ l) h p i some e was_read =
    record {
      stands =
          upd_all private p me' (λ q me. Stands l' h q me.stage (sh' q).locked)
          (record { known = lit≤ tt; out = absurd; waits = λ _. (inr (stand_in x p l (inl refl)), inr (p_h, locked p ∙ s.locked tt)); holds = absurd })
          (λ q n. subst⁻¹ (λ (k : ℕ). Stands l' h q (private q).stage k) (locked q)
          (let z = i.stands q in
          record {
            known = z.known;
            out = λ t into. ⊎_elim n (z.out t) (from q into);
            waits = λ t. (to q (z.waits t).0, (z.waits t).1);
            holds = z.holds;
          }));
      seeks = other_seeks i p a me' its' into link (le_refl _) (λ _. refl) tt;
      holder =
          upd_all private p me' (λ q me. q ≡ h → Holder q me.stage me (sh' q) lock l') (λ e'. absurd (p_h e'))
          (λ q n e'. let f = holder_at i q (private q).stage refl e' in
          record {
            free = λ t. absurd (cons-ne-nil y l (f.free t).0);
            first = λ t. ((f.first t).0, cons-ne-nil y (stand x l), (f.first t).2);
            away = λ t z. ⊎_elim n (f.away t) (from q z);
            closing = λ t. ((f.closing t).0, ap (λ (k : Shared). k.link.pointer) (upd_other sh a its' q (apart q (f.away (included (15 ∷ 16 ∷ []) leavers tt (private q).stage t)))) ∙ (f.closing t).1);
            next = f.next;
            handing = λ t. ((f.handing t).0, (f.handing t).1, cons-ne-nil y (stand x l));
          })
          h refl;
      nobody = ap (λ (me : Private). me.stage) (upd_other private p me' 0 (λ e'. some (sym e'))) ∙ i.nobody;
      distinct = ((λ z. ⊎_elim (λ e'. new (inl (sym e'))) i.distinct.0 (in_stand x y.module l z)), distinct_stand x l (λ z. new (inr z)) i.distinct.1);
      chain =
          joined (λ q. (sh q).link.pointer) (λ q. (sh' q).link.pointer) x a me.w.pointer
          (ap (λ (k : Shared). k.link.pointer) (upd_same sh a its'))
          (ap (λ (k : Shared). k.link.pointer) (upd_other sh a its' p p_a) ∙ s.copied tt)
          (λ q n n'. ap (λ (k : Shared). k.link.pointer) (upd_other sh a its' q n))
          (ap (λ (k : Link). k.pointer) was_read)
          (λ q. (sh q).priority)
          (subst (λ (k : ℕ). k ≤ (sh a).priority) (s.given tt).1 ((s.knows tt).1 tt was_read))
          (subst (λ (k : ℕ). (me.w.pointer ≡ 0) ⊎ ((sh me.w.pointer).priority < k)) (s.given tt).1 ((s.knows tt).2 tt was_read))
          y l i.distinct new (not_nil i) i.sorted i.urgent i.chain into;
      sorted = sorted_stand x l i.sorted;
      urgent = all_stand x (Urgent sh') (ap (λ (k : Shared). k.priority) (upd_other sh a its' p p_a) ∙ (s.given tt).0 ∙ (s.given tt).1) l (urgent_on i sh' (other_calm i p a me' its' into link (le_refl _) (λ _. refl)));
      opens = upd_all sh a its' (λ q s. s.link.mark ≡ OPEN → In q l') (λ _. to a into) (λ q n z. to q (i.opens q z));
      marks = upd_all sh a its' (λ q s. s.link.mark ≤ 1) (lit≤ tt) (λ q n. i.marks q);
      bytes = upd_all sh a its' (λ q s. s.priority ≤ 255) (i.bytes a) (λ q n. i.bytes q);
    }
  where
    me : Private
    me = private p

    me' : Private
    me' = goes 11 me

    a : ℕ
    a = me.prev

    its' : Shared
    its' = with_link (changed suc (sh a).link p OPEN) (sh a)

    sh' : ℕ → Shared
    sh' = upd sh a its'

    x : Place
    x = record { «module» = p; priority = g p }

    l' : List Place
    l' = y ∷ stand x l

    s : Seeks g sh p 9 me (sh p)
    s = seeks_at i p 9 e

    into : In a (y ∷ l)
    into = i.opens a (ap (λ (k : Link). k.mark) was_read ∙ (s.knows tt).0.0)

    new : In p (y ∷ l) → ⊥
    new = (stands_at i p 9 e).out tt

    p_a : p ≢ a
    p_a e' = new (subst⁻¹ (λ (k : ℕ). In k (y ∷ l)) e' into)

    p_h : p ≢ h
    p_h e' = cons-ne-nil y l ((holder_at i p 9 e e').free tt).0

    link : Onward (sh a).link its'.link
    link = inr (omega arith)

    locked : (q : ℕ) → (sh' q).locked ≡ (sh q).locked
    locked = upd_all sh a its' (λ q s. s.locked ≡ (sh q).locked) refl (λ q n. refl)

    from : (q : ℕ) → In q l' → (q ≡ p) ⊎ In q (y ∷ l)
    from q = ⊎_elim (λ e'. inr (inl e')) (λ z. ⊎_elim inl (λ j. inr (inr j)) (in_stand x q l z))

    to : (q : ℕ) → In q (y ∷ l) → In q l'
    to q = ⊎_elim inl (λ z. inr (stand_in x q l (inr z)))

    apart : (q : ℕ) → (In q (y ∷ l) → ⊥) → q ≢ a
    apart q out e' = out (subst⁻¹ (λ (k : ℕ). In k (y ∷ l)) e' into)

pub row9_keeps :
    (o : Course) {private : ℕ → Private} {sh : ℕ → Shared} {lock h : ℕ} → Inv o.given private sh lock o.line h → (p : ℕ) → p ≢ 0
    → (private p).stage ≡ 9 → After o private sh p (private p).prev (row9 suc p (private p) (sh (private p).prev) lock)
unfolding swapped stepping
row9_keeps o {private} {sh} {lock} {h} i p some e =
    let me = private p in
    let its = sh me.prev in
    choose (λ r. After o private sh p me.prev (after9 me its lock r)) (same its.link me.w)
    (λ yes_there. (h, joining _ _ _ _ o.line h p i some e (same_true its.link me.w yes_there)))
    (λ no_there. row9_fails o i p some e)
