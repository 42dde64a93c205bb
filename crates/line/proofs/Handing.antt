-- Stages 17 and 18: the next first is raised, then freed, and holds the lock from then on. Stage 19: who took the lock free is raised. Assumes nothing.
use Prim.Native.Nat.{ℕ, suc, ◌≤◌}
use mathlib.Core.Path.{◌≡◌, refl, sym, ◌∙◌, ap, subst, subst⁻¹}
use mathlib.Core.List.{List, [], ◌∷◌}
use mathlib.Core.Logic.{◌≢◌, ◌⊎◌, inl, inr, ⊎_elim}
use lib.Dec.{T, lit≤}
use native.Mathlib.Nat.{le_refl}
use Rattle.laws.proofs.Cases.{equal}
use Rattle.laws.proofs.Only.{among, included}
use Rattle.stage.proofs.Update.{upd_same, upd_other, upd_all}
use Rattle.stage.specs.Rows.{goes, with_own, with_priority, with_locked, row17, row18, row19, last}
use Rattle.stage.specs.Table.{upd}
use Rattle.stage.specs.declared.Private.{Private}
use Rattle.stage.specs.declared.Shared.{Shared}
use Rattle.line.specs.History.{Course, stepping}
use Rattle.line.specs.PlainLine.{Place}
use Rattle.line.proofs.After.{After}
use Rattle.line.proofs.Calm.{urgent_on}
use Rattle.line.proofs.Facts.{stands_at, holder_at, member, head_in}
use Rattle.line.proofs.Invariant.{Stands, Holder, Inv, holders, members, settled}
use Rattle.line.proofs.Others.{other_calm, other_seeks}
use Rattle.line.proofs.Places.{In, Distinct, head, behind, chain_map}
use Rattle.line.proofs.Tables.{out_stands, held_stands, first_holder}

-- the first is not behind the first
head_not_behind : (l : List Place) → Distinct l → In (head l) (behind l) → ⊥
head_not_behind [] d into = into
head_not_behind (x ∷ l) d into = d.0 into

module _ (o : Course) {private : ℕ → Private} {sh : ℕ → Shared} {lock : ℕ} {h : ℕ} (i : Inv o.given private sh lock o.line h) (p : ℕ) (some : p ≢ 0) where
  abbrev l : List Place
  l = o.line

  nobody' : (me' : Private) → (upd private p me' 0).stage ≡ 0
  nobody' me' = ap (λ (me : Private). me.stage) (upd_other private p me' 0 (λ e. some (sym e))) ∙ i.nobody

  -- what a change of a record's priority or Locked leaves alone: the pointers and marks
  same_link : (x : ℕ) (its' : Shared) → its'.link ≡ (sh x).link → (q : ℕ) → (upd sh x its' q).link ≡ (sh q).link
  same_link x its' e = upd_all sh x its' (λ q s. s.link ≡ (sh q).link) e (λ q n. refl)

  -- the holder raises the record of the line's first, x, and goes on holding the lock
  raising : p ≡ h → (x : ℕ) → l ≢ [] → head l ≡ x → (me' : Private) → me'.stage ≤ last → T (among me'.stage holders)
      → ((its : Shared) → Holder p me'.stage me' its lock l)
      → Inv o.given (upd private p me') (upd sh x (with_priority 255 (sh x))) lock l h
  raising e' x filled first me' known held hold =
      record {
        stands =
            upd_all private p me' (λ q me. Stands l h q me.stage (sh' q).locked) (held_stands l h p me'.stage _ known held e')
            (λ q n. subst⁻¹ (λ (k : ℕ). Stands l h q (private q).stage k) (upd_all sh x its' (λ q z. z.locked ≡ (sh q).locked) refl (λ q n. refl) q) (i.stands q));
        seeks = other_seeks i p x me' its' into (inl refl) (i.bytes x) only_first (included holders settled tt me'.stage held);
        holder =
            upd_all private p me' (λ q me. q ≡ h → Holder q me.stage me (sh' q) lock l) (λ _. hold (sh' p)) (λ q n z. absurd (n (z ∙ sym e')))
            h refl;
        nobody = nobody' me';
        distinct = i.distinct;
        chain = chain_map (λ q. (sh q).link.pointer) (λ q. (sh' q).link.pointer) l (λ q _. ap (λ k. k.pointer) (same_link x its' refl q)) i.chain;
        sorted = i.sorted;
        urgent = urgent_on i sh' (other_calm i p x me' its' into (inl refl) (i.bytes x) only_first);
        opens = λ q z. i.opens q (ap (λ k. k.mark) (sym (same_link x its' refl q)) ∙ z);
        marks = λ q. subst⁻¹ (λ k. k.mark ≤ 1) (same_link x its' refl q) (i.marks q);
        bytes = upd_all sh x its' (λ q z. z.priority ≤ 255) (le_refl 255) (λ q n. i.bytes q);
      }
    where
      into : In x l
      into = head_in i x filled first

      only_first : In x (behind l) → 255 ≡ (sh x).priority
      only_first z = absurd (head_not_behind l i.distinct (subst⁻¹ (λ (k : ℕ). In k (behind l)) first z))

      its' : Shared
      its' = with_priority 255 (sh x)

      sh' : ℕ → Shared
      sh' = upd sh x its'

  pub row17_keeps : (private p).stage ≡ 17 → After o private sh p (private p).s (row17 suc p (private p) (sh (private p).s) lock)
  unfolding stepping
  row17_keeps e =
      let e' = (stands_at i p 17 e).holds tt in
      let f = (holder_at i p 17 e e').handing tt in (
        h,
        raising e' (private p).s f.2 (sym f.1) (goes 18 (private p)) (lit≤ tt) tt
            (λ _. record { free = absurd; first = absurd; away = (holder_at i p 17 e e').away; closing = absurd; next = absurd; handing = λ _. f }),
      )

  pub row19_keeps : (private p).stage ≡ 19 → After o private sh p p (row19 suc p (private p) (sh p) lock)
  unfolding stepping
  row19_keeps e =
      let e' = (stands_at i p 19 e).holds tt in
      let f = (holder_at i p 19 e e').first tt in (
        h,
        raising e' p f.1 f.2 (goes 3 (private p)) (lit≤ tt) tt (λ its. first_holder p 3 _ its lock l tt f),
      )

  pub row18_keeps : (private p).stage ≡ 18 → After o private sh p (private p).s (row18 suc p (private p) (sh (private p).s) lock)
  unfolding stepping
  row18_keeps e = (
    s,
    record {
      stands =
          upd_all private p me' (λ q me. Stands l s q me.stage (sh' q).locked) (out_stands l s p 0 _ (lit≤ tt) tt away)
          (λ q n. let z = i.stands q in
          record {
            known = z.known;
            out = z.out;
            waits = λ t. ((z.waits t).0, ⊎_elim (λ a. absurd (n (a.0 ∙ sym e'))) (λ a. freed q a.1) (z.waits t).1);
            holds = λ t. absurd (n (z.holds t ∙ sym e'));
          });
      seeks = other_seeks i p s me' its' into (inl refl) (le_refl _) (λ _. refl) tt;
      holder = first_holder s _ _ _ lock l s_member (f.0 ∙ sym f.1, f.2, sym f.1);
      nobody = nobody' me';
      distinct = i.distinct;
      chain = chain_map (λ q. (sh q).link.pointer) (λ q. (sh' q).link.pointer) l (λ q _. ap (λ k. k.pointer) (same_link s its' refl q)) i.chain;
      sorted = i.sorted;
      urgent = urgent_on i sh' (other_calm i p s me' its' into (inl refl) (le_refl _) (λ _. refl));
      opens = λ q z. i.opens q (ap (λ k. k.mark) (sym (same_link s its' refl q)) ∙ z);
      marks = λ q. subst⁻¹ (λ k. k.mark ≤ 1) (same_link s its' refl q) (i.marks q);
      bytes = upd_all sh s its' (λ q z. z.priority ≤ 255) (i.bytes s) (λ q n. i.bytes q);
    },
  )
    where
      e' : p ≡ h
      e' = (stands_at i p 18 e).holds tt

      f : (lock ≡ head l) × ((private p).s ≡ head l) × (l ≢ [])
      f = (holder_at i p 18 e e').handing tt

      away : In p l → ⊥
      away = (holder_at i p 18 e e').away tt

      s : ℕ
      s = (private p).s

      into : In s l
      into = head_in i s f.2 (sym f.1)

      me' : Private
      me' = goes 0 (with_own 0 (private p))

      its' : Shared
      its' = with_locked 0 (sh s)

      sh' : ℕ → Shared
      sh' = upd sh s its'

      s_member : T (among (upd private p me' s).stage members)
      s_member =
          subst⁻¹ (λ (me : Private). T (among me.stage members))
          (upd_other private p me' s (λ z. away (subst (λ (k : ℕ). In k l) z into))) (member i s into)

      freed : (q : ℕ) → (sh q).locked ≡ 1 → ((q ≡ s) × ((sh' q).locked ≡ 0)) ⊎ ((q ≢ s) × ((sh' q).locked ≡ 1))
      freed q z =
          ⊎_elim (λ a. inl (a, ap (λ (k : ℕ). (sh' k).locked) a ∙ ap (λ (k : Shared). k.locked) (upd_same sh s its')))
          (λ n. inr (n, ap (λ (k : Shared). k.locked) (upd_other sh s its' q n) ∙ z))
          (equal q s)
