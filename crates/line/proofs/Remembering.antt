-- What every step keeps of what was heard: who has joined and not left is the line, and a release is as far on as its own steps since its leave.
-- Assumes nothing.
use Prim.Native.Nat.{ℕ, suc, ◌+◌}
use mathlib.Core.Path.{◌≡◌, refl, sym, ◌∙◌, ap, subst, subst⁻¹}
use mathlib.Core.Bool.{Bool, true, false, cond, not}
use mathlib.Core.List.{List, [], ◌∷◌, ◌++◌}
use mathlib.Core.Logic.{◌≢◌}
use lib.Dec.{T, T_not, eqb, ltb}
use borrow.Author.Tests.{eqb-true, eq-eqb, ne_eqb}
use native.Mathlib.Omega.{arith}
use Rattle.laws.proofs.Cases.{choose}
use Rattle.laws.proofs.Only.{only, among, disjoint, included}
use Rattle.link.proofs.Comparing.{same_true}
use Rattle.link.specs.Operations.{same, swapped, CLOSED}
use Rattle.link.specs.declared.Link.{Link}
use Rattle.stage.proofs.ByStage.{by_stage}
use Rattle.stage.proofs.Update.{upd_all}
use Rattle.stage.specs.Calls.{step}
use Rattle.stage.specs.Rows.{find, rows, looked, looks_at, stepped, after9}
use Rattle.stage.specs.Table.{upd}
use Rattle.stage.specs.declared.Event.TheVariants.{Done, Waiting, Admitted, Joined, Left, Finished, Taken, Nobody}
use Rattle.stage.specs.declared.Private.{Private}
use Rattle.stage.specs.declared.Shared.{Shared}
use Rattle.stage.specs.declared.Stepped.{Stepped}
use Rattle.line.specs.Corollaries as C
use Rattle.line.specs.Corollaries.{Step, step_in, stands, unless_set_up, standing, steps_now, own_steps, someone, leaves_now, succeeded, without}
use Rattle.line.specs.History.{Transcript, course, heard, accepted, stepping}
use Rattle.line.specs.PlainLine.{Place, join, leave}
use Rattle.line.proofs.Facts.{stands_at, seeks_at, holder_at, empty, free}
use Rattle.line.proofs.Invariant.{Inv, outs, holders, leavers}
use Rattle.line.proofs.Joiners.{Stood, join_stood, leave_stood}
use Rattle.line.proofs.Places.{In, Sorted, behind}
use Rattle.std.specs.Prelude.{Ok}

-- of a module q: where it is a release after its leave, how many steps it has taken, and whether it has a successor
abbrev pub Released : List Place → (ℕ → ℕ) → (ℕ → Bool) → ℕ → Private → Type 0
Released l steps successor q me = only (among me.stage leavers) ((steps q + 14 ≡ me.stage) × (successor q ≡ someone l))

-- k is no stage of a release after its leave
abbrev pub Away : ℕ → Type 0
Away k = T (not (among k leavers))

pub no_release : {A : Type 0} (k : ℕ) → Away k → only (among k leavers) A
no_release k away t = absurd (T_not (among k leavers) away t)

-- what a leave, and the last step of a release, say of the transcript h that they end
abbrev pub Said : Step → Transcript → Transcript → Type 0
Said C.other h earlier = Unit {0}
Said (C.stepped p Done) h earlier = Unit {0}
Said (C.stepped p Waiting) h earlier = Unit {0}
Said (C.stepped p (Admitted q)) h earlier = Unit {0}
Said (C.stepped p Joined) h earlier = Unit {0}
Said (C.stepped p Left) h earlier = Sorted (course h).line
Said (C.stepped p Finished) h earlier = own_steps p h ≡ cond (succeeded p earlier) 5 3
Said (C.stepped p (Taken k)) h earlier = Unit {0}
Said (C.stepped p Nobody) h earlier = Unit {0}

abbrev pub Latest : Transcript → Type 0
Latest [] = Unit {0}
Latest (x ∷ earlier) = Said (step_in x.0 x.1) (x ∷ earlier) earlier

abbrev pub Remembered : Transcript → (ℕ → Private) → Type 0
Remembered h private =
    record {
      stood : Stood (course h).line (standing h);
      released : (q : ℕ) → Released (course h).line (λ r. own_steps r h) (λ r. succeeded r h) q (private q);
      latest : Latest h;
    }

someone_in : (l : List Place) → l ≢ [] → someone l ≡ true
unfolding someone
someone_in [] some = absurd (some refl)
someone_in (x ∷ l) some = refl

someone_joined : (x : Place) (l : List Place) (q : ℕ) → In q l → someone (join x l) ≡ someone l
unfolding join someone
someone_joined x [] q into = elim into [ ]
someone_joined x (y ∷ l) q into = refl

sorted_leave : (l : List Place) → Sorted (behind l) → Sorted (leave l)
unfolding leave
sorted_leave [] s = s
sorted_leave (x ∷ l) s = s

module _ (h : Transcript) {private : ℕ → Private} {sh : ℕ → Shared} {lock : ℕ} {holder : ℕ}
    (i : Inv (course h).given private sh lock (course h).line holder) (before : Remembered h private) (p : ℕ) where
  abbrev l : List Place
  l = (course h).line

  abbrev x : Place
  x = record { «module» = p; priority = (course h).given p }

  -- who leaves is the holder
  leaver : (q : ℕ) → T (among (private q).stage leavers) → q ≡ holder
  leaver q t = (i.stands q).holds (included leavers holders tt (private q).stage t)

  released_at : (k : ℕ) → (private p).stage ≡ k → T (among k leavers) → (own_steps p h + 14 ≡ k) × (succeeded p h ≡ someone l)
  released_at k e t = let r = before.released p (subst⁻¹ (λ (j : ℕ). T (among j leavers)) e t) in (r.0 ∙ e, r.1)

  -- after a step of p that is no leave, where `said` is what it says
  abbrev more : ℕ → ℕ
  more q = cond (eqb p q) (own_steps q h + 1) (own_steps q h)

  abbrev Stays : Private → List Place → List ℕ → Type 0 → Type 0
  Stays me' l' s said = record { stood : Stood l' s; released : (q : ℕ) → Released l' more (λ r. succeeded r h) q (upd private p me' q); latest : said }

  -- the line stays empty, or not empty, while somebody leaves
  on : {l' : List Place} {s : List ℕ} → Stood l' s → (T (among (private holder).stage leavers) → someone l' ≡ someone l)
      → (me' : Private) → only (among me'.stage leavers) ((own_steps p h + 1 + 14 ≡ me'.stage) × (succeeded p h ≡ someone l'))
      → Stays me' l' s (Unit {0})
  on {l'} st as_was me' here =
      record {
        stood = st;
        released =
            upd_all private p me' (Released l' more (λ r. succeeded r h)) (simp (eq-eqb p p refl) here)
            (λ q n t. simp (ne_eqb p q (λ z. n (sym z)))
            (let r = before.released q t in (r.0, r.1 ∙ sym (as_was (subst (λ (j : ℕ). T (among (private j).stage leavers)) (leaver q t) t)))));
        latest = tt;
      }

  -- no release goes on
  joins : (In p l → ⊥) → (T (among (private holder).stage leavers) → someone (join x l) ≡ someone l)
      → (me' : Private) → Away me'.stage → Stays me' (join x l) (standing h ++ p ∷ []) (Unit {0})
  joins out as_was me' away = on (join_stood x l (standing h) i.sorted out before.stood) as_was me' (no_release me'.stage away)

  calm : (me' : Private) → Away me'.stage → Stays me' l (standing h) (Unit {0})
  calm me' away = on before.stood (λ t. refl) me' (no_release me'.stage away)

  -- a release goes one stage on
  onward : (k : ℕ) → (private p).stage ≡ k → T (among k leavers) → (me' : Private) → me'.stage ≡ k + 1 → Stays me' l (standing h) (Unit {0})
  onward k e t me' e' = on before.stood (λ t. refl) me' (λ _. let r = released_at k e t in (omega arith, r.1))

  -- a release ends, where b says whether somebody is in the line
  finishes : (k : ℕ) → (private p).stage ≡ k → T (among k leavers) → (b : Bool) → someone l ≡ b → k + 1 ≡ cond b 5 3 + 14
      → (me' : Private) → Away me'.stage → Stays me' l (standing h) (more p ≡ cond (succeeded p h) 5 3)
  finishes k e t b b_is last me' away =
      let c = calm me' away in
      let r = released_at k e t in
      record { stood = c.stood; released = c.released; latest = simp (eq-eqb p p refl, r.1, b_is) (omega arith) }

  -- after its leave
  abbrev once : ℕ → ℕ
  once q = cond (eqb p q) 1 (cond (eqb p q) (own_steps q h + 1) (own_steps q h))

  leaves : (private p).stage ≡ 14 → (me' : Private) → me'.stage ≡ 15
      → record {
        stood : Stood (leave l) (without p (standing h));
        released : (q : ℕ) → Released (leave l) once (λ r. cond (eqb p r) (someone (leave l)) (succeeded r h)) q (upd private p me' q);
        latest : Sorted (leave l);
      }
  leaves e me' e' =
      let p_holder = (stands_at i p 14 e).holds tt in
      let f = (holder_at i p 14 e p_holder).first tt in
      record {
        stood = subst (λ (q : ℕ). Stood (leave l) (without q (standing h))) f.2 (leave_stood l (standing h) f.1 i.distinct before.stood);
        released =
            upd_all private p me' (Released (leave l) once (λ r. cond (eqb p r) (someone (leave l)) (succeeded r h)))
            (λ t. simp (eq-eqb p p refl) (sym e', refl)) (λ q n t. absurd (n (leaver q t ∙ sym p_holder)));
        latest = sorted_leave l i.sorted;
      }

  pub step_remembers :
      let r = stepped suc p (private p) (sh (looks_at p (private p))) lock in
      Remembered ((step p, Ok r.answer) ∷ h) (upd private p r.me)
  unfolding looks_at stepped find rows swapped
      course heard accepted stepping standing unless_set_up step_in stands own_steps steps_now succeeded leaves_now someone
  step_remembers =
      by_stage (λ k. (private p).stage ≡ k → AfterStep ((find rows k).row suc p me (sh (looked (find rows k).looks p me)) lock))
      (λ e. calm _ (subst⁻¹ Away e tt))
      (λ e. calm _ tt)
      (λ e. choose AfterStep (eqb lock 0)
      (λ z. joins ((stands_at i p 2 e).out tt) (λ t. absurd (disjoint leavers outs tt (private holder).stage t (free i (eqb-true lock 0 z)).1)) _ tt)
      (λ _. calm _ tt))
      (λ e. calm _ tt)
      (λ e. calm _ tt)
      (λ e. calm _ (choose Away (eqb (sh me.prev).link.mark CLOSED) (λ _. tt) (λ _. tt)))
      (λ e. calm _ (choose Away (ltb (sh me.prev).priority me.own) (λ _. tt) (λ _. choose Away (eqb me.w.pointer 0) (λ _. tt) (λ _. tt))))
      (λ e. choose AfterStep (ltb (sh me.w.pointer).priority me.own) (λ _. calm _ tt) (λ _. calm _ tt))
      (λ e. calm _ tt)
      (λ e. choose (λ r. AfterStep (after9 me (sh me.prev) lock r)) (same (sh me.prev).link me.w)
      (λ z. joins ((stands_at i p 9 e).out tt)
      (λ _. someone_joined x l me.prev (i.opens me.prev (ap (λ (k : Link). k.mark) (same_true (sh me.prev).link me.w z) ∙ ((seeks_at i p 9 e).knows tt).0.0)))
      _ tt)
      (λ _. calm _ (choose Away (eqb (sh me.prev).link.mark CLOSED) (λ _. tt) (λ _. tt))))
      (λ e. calm _ (choose Away (ltb (sh me.prev).priority me.own) (λ _. tt) (λ _. tt)))
      (λ e. calm _ tt)
      (λ e. choose AfterStep (eqb (sh p).locked 0) (λ _. calm _ tt) (λ _. calm _ (subst⁻¹ Away e tt)))
      (λ e. calm _ (subst⁻¹ Away e tt))
      (λ e. leaves e _ refl)
      (λ e. onward 15 e tt _ refl)
      (λ e. choose AfterStep (eqb me.s 0)
      (λ z. finishes 16 e tt false
      (ap someone (empty i (sym ((holder_at i p 16 e ((stands_at i p 16 e).holds tt)).next tt) ∙ eqb-true me.s 0 z))) refl _ tt)
      (λ _. onward 16 e tt _ refl))
      (λ e. onward 17 e tt _ refl)
      (λ e. finishes 18 e tt true (someone_in l ((holder_at i p 18 e ((stands_at i p 18 e).holds tt)).handing tt).2) refl _ tt)
      (λ e. calm _ tt)
      me.stage (i.stands p).known refl
    where
      me : Private
      me = private p

      AfterStep : Stepped → Type 0
      AfterStep r = Remembered ((step p, Ok r.answer) ∷ h) (upd private p r.me)
