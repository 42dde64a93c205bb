-- The log: the firsts of the line are all that was admitted, and then the first that is not inside yet. Assumes nothing.
use Prim.Native.Nat.{ℕ, suc}
use mathlib.Core.Path.{◌≡◌, refl, sym, ◌∙◌, ap, subst⁻¹}
use mathlib.Core.Bool.{Bool, true, false, cond}
use mathlib.Core.List.{List, [], ◌∷◌, ◌++◌, append_assoc, append-nil}
use mathlib.Core.Logic.{◌≢◌, inl, inr, ⊎_elim}
use lib.Dec.{T, eqb, ltb}
use borrow.Author.Tests.{eqb-true}
use Rattle.laws.proofs.Cases.{choose, test}
use Rattle.laws.proofs.Only.{among, included}
use Rattle.link.specs.Operations.{same, swapped, CLOSED}
use Rattle.stage.proofs.Update.{upd_same, upd_other, upd_all, upd_kept}
use Rattle.stage.specs.Rows.{find, rows, looked, looks_at, stepped, after9}
use Rattle.stage.specs.Table.{upd, logged}
use Rattle.stage.specs.declared.Private.{Private}
use Rattle.stage.specs.declared.Shared.{Shared}
use Rattle.stage.specs.declared.Stepped.{Stepped}
use Rattle.line.specs.History.{Course, stepping, entering}
use Rattle.line.specs.PlainLine.{Place, join, leave, first_of}
use Rattle.stage.proofs.ByStage.{by_stage}
use Rattle.line.proofs.Facts.{stands_at, holder_at, freed_first}
use Rattle.line.proofs.Invariant.{Stands, Inv, holders}
use Rattle.line.proofs.Places.{In, Distinct, head}

-- 13 and 14 are inside
abbrev pub insides : List ℕ
insides = 13 ∷ 14 ∷ []

-- the first that is not inside yet
abbrev pub pending : (ℕ → Private) → List Place → List ℕ
pending private [] = []
pending private (x ∷ l) = cond (among (private x.module).stage insides) [] (x.module ∷ [])

-- what was taken, what is held and what is pending are the firsts
abbrev pub Logs : Course → List ℕ → (ℕ → Private) → List ℕ → Type 0
Logs o taken private log = o.firsts ≡ (taken ++ log) ++ pending private o.line

abbrev pub AfterLogs : Course → List ℕ → (ℕ → Private) → List ℕ → ℕ → Stepped → Type 0
AfterLogs o taken private log p r = Logs (stepping p r.answer.event o) taken (upd private p r.me) (logged log r.answer.event)

-- a step from outside to outside, or from inside to inside, leaves pending what was
pub quiet : (private : ℕ → Private) (p : ℕ) (me' : Private) → among me'.stage insides ≡ among (private p).stage insides → (l : List Place)
    → pending (upd private p me') l ≡ pending private l
quiet private p me' e [] = refl
quiet private p me' e (x ∷ l) =
    ap (λ (b : Bool). cond b [] (x.module ∷ []))
    (upd_all private p me' (λ q me. among me.stage insides ≡ among (private q).stage insides) e (λ q n. refl) x.module)

module _ (o : Course) {private : ℕ → Private} {sh : ℕ → Shared} {lock : ℕ} {h : ℕ} (i : Inv o.given private sh lock o.line h) (taken log : List ℕ) (logs : Logs o taken private log) (p : ℕ) where
  -- no admission, no join, no leave, and the stage not inside before or after
  unheard : (k : ℕ) → (private p).stage ≡ k → among k insides ≡ false → (me' : Private) → among me'.stage insides ≡ false → Logs o taken (upd private p me') log
  unheard k e no_k me' no_k' =
      logs ∙ ap (λ (l : List ℕ). (taken ++ log) ++ l)
      (sym (quiet private p me' (no_k' ∙ sym (ap (λ (j : ℕ). among j insides) e ∙ no_k)) o.line))

  -- a join: a new line's first is pending, and another line's pending is what was
  joins : (k : ℕ) → (private p).stage ≡ k → among k insides ≡ false → (me' : Private) → among me'.stage insides ≡ false → (r : ℕ)
      → o.firsts ++ entering p o.line ≡ (taken ++ log) ++ pending (upd private p me') (join (record { «module» = p; priority = r }) o.line)
  unfolding entering join
  joins k e no_k me' no_k' r = go o.line logs
    where
      go : (l : List Place) → o.firsts ≡ (taken ++ log) ++ pending private l
          → o.firsts ++ entering p l ≡ (taken ++ log) ++ pending (upd private p me') (join (record { «module» = p; priority = r }) l)
      go [] z =
          ap (λ (l : List ℕ). l ++ p ∷ []) (z ∙ append-nil (taken ++ log))
          ∙ ap (λ (b : Bool). (taken ++ log) ++ cond b [] (p ∷ [])) (sym (ap (λ (me : Private). among me.stage insides) (upd_same private p me') ∙ no_k'))
      go (x ∷ l) z =
          append-nil o.firsts ∙ z ∙ ap (λ (l : List ℕ). (taken ++ log) ++ l)
          (sym (quiet private p me' (no_k' ∙ sym (ap (λ (j : ℕ). among j insides) e ∙ no_k)) (x ∷ l)))

  -- an admission: the first was pending, and is logged
  admitted : (k : ℕ) → (private p).stage ≡ k → among k insides ≡ false → (me' : Private) → among me'.stage insides ≡ true
      → (o.line ≢ []) × (head o.line ≡ p)
      → o.firsts ≡ (taken ++ (log ++ p ∷ [])) ++ pending (upd private p me') o.line
  admitted k e no_k me' yes_k' first = go o.line first.0 first.1 logs
    where
      go : (l : List Place) → l ≢ [] → head l ≡ p → o.firsts ≡ (taken ++ log) ++ pending private l
          → o.firsts ≡ (taken ++ (log ++ p ∷ [])) ++ pending (upd private p me') l
      go [] some e' z = absurd (some refl)
      go (x ∷ l) some e' z =
          z
          ∙ ap (λ (l : List ℕ). (taken ++ log) ++ l)
          (ap (λ (b : Bool). cond b [] (x.module ∷ [])) (ap (λ (q : ℕ). among (private q).stage insides) e' ∙ ap (λ (j : ℕ). among j insides) e ∙ no_k) ∙ ap (λ (q : ℕ). q ∷ []) e')
          ∙ append_assoc (taken) log (p ∷ [])
          ∙ sym (append-nil (taken ++ (log ++ p ∷ [])))
          ∙ ap (λ (b : Bool). (taken ++ (log ++ p ∷ [])) ++ cond b [] (x.module ∷ []))
          (sym (ap (λ (q : ℕ). among (upd private p me' q).stage insides) e' ∙ ap (λ (me : Private). among me.stage insides) (upd_same private p me') ∙ yes_k'))

  -- a leave: the first was inside, and the next is pending
  leaves : (private p).stage ≡ 14 → (me' : Private)
      → o.firsts ++ first_of (leave o.line) ≡ (taken ++ log) ++ pending (upd private p me') (leave o.line)
  unfolding first_of leave
  leaves e me' = go o.line first.1 first.2 i.distinct (λ q into. i.stands q) logs
    where
      e' : p ≡ h
      e' = (stands_at i p 14 e).holds tt

      first : (lock ≡ p) × (o.line ≢ []) × (head o.line ≡ p)
      first = (holder_at i p 14 e e').first tt

      inside : (x : Place) → x.module ≡ p → (l : List ℕ) → cond (among (private x.module).stage insides) [] l ≡ []
      inside x a l = ap (λ (b : Bool). cond b [] l) (ap (λ (q : ℕ). among (private q).stage insides) a ∙ ap (λ (j : ℕ). among j insides) e)

      go : (l : List Place) → l ≢ [] → head l ≡ p → Distinct l → ((q : ℕ) → In q l → Stands o.line h q (private q).stage (sh q).locked)
          → o.firsts ≡ (taken ++ log) ++ pending private l
          → o.firsts ++ first_of (leave l) ≡ (taken ++ log) ++ pending (upd private p me') (leave l)
      go [] some a d st z = absurd (some refl)
      go (x ∷ []) some a d st z = append-nil o.firsts ∙ z ∙ ap (λ (l : List ℕ). (taken ++ log) ++ l) (inside x a (x.module ∷ []))
      go (x ∷ y ∷ l) some a d st z =
          ap (λ (l : List ℕ). l ++ y.module ∷ [])
          (z ∙ ap (λ (l : List ℕ). (taken ++ log) ++ l) (inside x a (x.module ∷ [])) ∙ append-nil (taken ++ log))
          ∙ ap (λ (b : Bool). (taken ++ log) ++ cond b [] (y.module ∷ [])) (sym waits)
        where
          y_p : y.module ≢ p
          y_p b = d.0 (inl (a ∙ sym b))

          waits : among (upd private p me' y.module).stage insides ≡ false
          waits =
              ap (λ (me : Private). among me.stage insides) (upd_other private p me' y.module y_p)
              ∙ ⊎_elim
              (λ t. absurd (y_p ((st y.module (inr (inl refl))).holds (included insides holders tt (private y.module).stage (subst⁻¹ T t tt)) ∙ sym e')))
              (λ f. f)
              (test (among (private y.module).stage insides))

  pub step_logs : AfterLogs o taken private log p (stepped suc p (private p) (sh (looks_at p (private p))) lock)
  unfolding looks_at stepped find rows swapped stepping logged
  step_logs =
      by_stage
      (λ k. (private p).stage ≡ k → AfterLogs o taken private log p ((find rows k).row suc p (private p) (sh (looked (find rows k).looks p (private p))) lock))
      (λ e. unmoved)
      (λ e. unheard 1 e refl _ refl)
      (λ e. choose (AfterLogs o taken private log p) (eqb lock 0) (λ _. joins 2 e refl _ refl (o.given p)) (λ _. unheard 2 e refl _ refl))
      (λ e. let f = (holder_at i p 3 e ((stands_at i p 3 e).holds tt)).first tt in admitted 3 e refl _ refl (f.1, f.2))
      (λ e. unheard 4 e refl _ refl)
      (λ e. unheard 5 e refl _ (either 1 6 refl refl (eqb (sh me.prev).link.mark CLOSED)))
      (λ e. unheard 6 e refl _ (either 1 _ refl (either 8 7 refl refl (eqb me.w.pointer 0)) (ltb (sh me.prev).priority me.own)))
      (λ e. choose (AfterLogs o taken private log p) (ltb (sh me.w.pointer).priority me.own) (λ _. unheard 7 e refl _ refl) (λ _. unheard 7 e refl _ refl))
      (λ e. unheard 8 e refl _ refl)
      (λ e. choose (λ r. AfterLogs o taken private log p (after9 me (sh me.prev) lock r)) (same (sh me.prev).link me.w)
      (λ _. joins 9 e refl _ refl (o.given p))
      (λ _. unheard 9 e refl _ (either 1 10 refl refl (eqb (sh me.prev).link.mark CLOSED))))
      (λ e. unheard 10 e refl _ (either 1 5 refl refl (ltb (sh me.prev).priority me.own)))
      (λ e. unheard 11 e refl _ refl)
      (λ e. choose (AfterLogs o taken private log p) (eqb (sh p).locked 0)
      (λ z. let f = (holder_at i p 12 e (freed_first i p e (eqb-true (sh p).locked 0 z))).first tt in admitted 12 e refl _ refl (f.1, f.2))
      (λ _. unmoved))
      (λ e. unmoved)
      (λ e. leaves e _)
      (λ e. unheard 15 e refl _ refl)
      (λ e. choose (AfterLogs o taken private log p) (eqb me.s 0) (λ _. unheard 16 e refl _ refl) (λ _. unheard 16 e refl _ refl))
      (λ e. unheard 17 e refl _ refl)
      (λ e. unheard 18 e refl _ refl)
      (λ e. unheard 19 e refl _ refl)
      me.stage (i.stands p).known refl
    where
      me : Private
      me = private p

      unmoved : Logs o taken (upd private p (private p)) log
      unmoved = subst⁻¹ (λ (f : ℕ → Private). Logs o taken f log) (upd_kept private p) logs

      either : (j j' : ℕ) → among j insides ≡ false → among j' insides ≡ false → (b : Bool) → among (cond b j j') insides ≡ false
      either j j' f f' true = f
      either j j' f f' false = f'
