-- R-1: whoever is inside, or about to be, has the highest priority in its record; every row keeps it so. Assumes nothing.
use Prim.Native.Nat.{ℕ, suc}
use mathlib.Core.Path.{◌≡◌, refl, sym, ◌∙◌, ap, subst, subst₂}
use mathlib.Core.Bool.{Bool, cond}
use mathlib.Core.List.{List, [], ◌∷◌}
use mathlib.Core.Logic.{◌≢◌, ◌⊎◌, inl, inr, ⊎_elim}
use lib.Dec.{T, eqb, ltb}
use borrow.Author.Tests.{eqb-true}
use native.Mathlib.Omega.{arith}
use Rattle.laws.proofs.Cases.{choose}
use Rattle.laws.proofs.Only.{only, among, disjoint, included}
use Rattle.link.specs.Operations.{CLOSED, same, swapped}
use Rattle.stage.proofs.ByStage.{by_stage}
use Rattle.stage.proofs.Update.{upd_same, upd_other, upd_all, upd_both, upd_kept}
use Rattle.stage.specs.Rows.{goes, with_own, with_priority, find, rows, looked, looks_at, stepped, after9}
use Rattle.stage.specs.Table.{upd}
use Rattle.stage.specs.declared.Private.{Private}
use Rattle.stage.specs.declared.Shared.{Shared}
use Rattle.stage.specs.declared.Stepped.{Stepped}
use Rattle.line.specs.PlainLine.{Place}
use Rattle.line.proofs.Facts.{seeks_at, holder_at, member, head_in}
use Rattle.line.proofs.Invariant.{Inv, holders, members}

-- of a module at stage k: inside, or on its way there with nobody ahead; freed while it waits; and handing on, of the next one
pub record Up (sh : ℕ → Shared) (k : ℕ) (me : Private) (its : Shared) : Type 0 where
  pub inside : only (among k (3 ∷ 13 ∷ 14 ∷ [])) (its.priority ≡ 255)
  pub freed : only (among k (11 ∷ 12 ∷ [])) (its.locked ≡ 0 → its.priority ≡ 255)
  pub next : only (among k (18 ∷ [])) ((sh me.s).priority ≡ 255)

abbrev pub Raised : (ℕ → Private) → (ℕ → Shared) → Type 0
Raised private sh = (q : ℕ) → Up sh (private q).stage (private q) (sh q)

-- the stages at which nothing is claimed
abbrev lows : List ℕ
lows = 0 ∷ 1 ∷ 2 ∷ 4 ∷ 5 ∷ 6 ∷ 7 ∷ 8 ∷ 9 ∷ 10 ∷ 15 ∷ 16 ∷ 17 ∷ 19 ∷ []

pub low : (sh : ℕ → Shared) (k : ℕ) (me : Private) (its : Shared) → T (among k lows) → Up sh k me its
low sh k me its t =
    record {
      inside = λ t'. absurd (disjoint lows (3 ∷ 13 ∷ 14 ∷ []) tt k t t');
      freed = λ t'. absurd (disjoint lows (11 ∷ 12 ∷ []) tt k t t');
      next = λ t'. absurd (disjoint lows (18 ∷ []) tt k t t');
    }

module _ {private : ℕ → Private} {sh : ℕ → Shared} (raised : Raised private sh) where
  pub raised_at : (q k : ℕ) → (private q).stage ≡ k → Up sh k (private q) (sh q)
  raised_at q k e = subst (λ (j : ℕ). Up sh j (private q) (sh q)) e (raised q)

  -- p steps, and leaves `its'` in the record of x: 255 stays, and nobody is freed whose record is not raised
  module _ (p x : ℕ) (me' : Private) (its' : Shared)
      (stays : (sh x).priority ≡ 255 → its'.priority ≡ 255)
      (frees : its'.locked ≡ 0 → ((sh x).locked ≡ 0) ⊎ (its'.priority ≡ 255)) where
    abbrev sh' : ℕ → Shared
    sh' = upd sh x its'

    still_up : (q : ℕ) → (sh q).priority ≡ 255 → (sh' q).priority ≡ 255
    still_up = upd_all sh x its' (λ q s. (sh q).priority ≡ 255 → s.priority ≡ 255) stays (λ q n e. e)

    still_freed : (q : ℕ) → ((sh q).locked ≡ 0 → (sh q).priority ≡ 255) → (sh' q).locked ≡ 0 → (sh' q).priority ≡ 255
    still_freed q was z =
        ⊎_elim (λ e. still_up q (was e)) (λ a. a)
        (upd_all sh x its' (λ r s. s.locked ≡ 0 → ((sh r).locked ≡ 0) ⊎ (s.priority ≡ 255)) frees (λ r n e. inl e) q z)

    moved : Up sh' me'.stage me' (sh' p) → Raised (upd private p me') sh'
    moved here =
        upd_all private p me' (λ q me. Up sh' me.stage me (sh' q)) here
        (λ q n. let u = raised q in
        record { inside = λ t. still_up q (u.inside t); freed = λ t. still_freed q (u.freed t); next = λ t. still_up (private q).s (u.next t) })

  -- priority and Locked stay, and the stage is one of those at which nothing is claimed
  calm : (p x : ℕ) (me' : Private) (its' : Shared) → its'.priority ≡ (sh x).priority → its'.locked ≡ (sh x).locked → T (among me'.stage lows)
      → Raised (upd private p me') (upd sh x its')
  calm p x me' its' e e' t = moved p x me' its' (λ z. e ∙ z) (λ z. inl (sym e' ∙ z)) (low _ me'.stage me' _ t)

  module _ {g : ℕ → ℕ} {lock : ℕ} {l : List Place} {h : ℕ} (i : Inv g private sh lock l h) (p : ℕ) where
    abbrev After : ℕ → Stepped → Type 0
    After x r = Raised (upd private p r.me) (upd sh x r.its)

    pub step_raises : After (looks_at p (private p)) (stepped suc p (private p) (sh (looks_at p (private p))) lock)
    unfolding looks_at stepped find rows swapped
    step_raises =
        by_stage (λ k. (private p).stage ≡ k → After (looked (find rows k).looks p me) ((find rows k).row suc p me (sh (looked (find rows k).looks p me)) lock))
        (λ e. unmoved)
        (λ e. calm p p _ _ refl refl tt)
        (λ e. choose (After p) (eqb lock 0) (λ _. calm p p _ _ refl refl tt) (λ _. calm p p _ _ refl refl tt))
        (λ e. moved p p _ _ (λ z. z) inl (record { inside = λ _. still_up p p me _ (λ z. z) inl p ((raised_at p 3 e).inside tt); freed = absurd; next = absurd }))
        (λ e. moved p p _ _ (λ z. z) (λ z. absurd (omega (arith, z))) (low _ 5 _ _ tt))
        (λ e. calm p a _ _ refl refl (one 1 6 tt tt (eqb (sh a).link.mark CLOSED)))
        (λ e. calm p a _ _ refl refl (one 1 _ tt (one 8 7 tt tt (eqb me.w.pointer 0)) (ltb (sh a).priority me.own)))
        (λ e. choose (After me.w.pointer) (ltb (sh me.w.pointer).priority me.own) (λ _. calm p _ _ _ refl refl tt) (λ _. calm p _ _ _ refl refl tt))
        (λ e. calm p p _ _ refl refl tt)
        (λ e. choose (λ r. After a (after9 me (sh a) lock r)) (same (sh a).link me.w)
        (λ _. moved p a _ _ (λ z. z) inl
        (record { inside = absurd; freed = λ _. still_freed p a me _ (λ z. z) inl p (λ z. absurd (omega (arith, z, (seeks_at i p 9 e).locked tt))); next = absurd }))
        (λ _. calm p a _ _ refl refl (one 1 10 tt tt (eqb (sh a).link.mark CLOSED))))
        (λ e. calm p a _ _ refl refl (one 1 5 tt tt (ltb (sh a).priority me.own)))
        (λ e. moved p p _ _ (λ z. z) inl (record { inside = absurd; freed = λ _. still_freed p p me _ (λ z. z) inl p ((raised_at p 11 e).freed tt); next = absurd }))
        (λ e. choose (After p) (eqb (sh p).locked 0)
        (λ z. moved p p _ _ (λ z'. z') inl
        (record { inside = λ _. still_up p p me _ (λ z'. z') inl p ((raised_at p 12 e).freed tt (eqb-true (sh p).locked 0 z)); freed = absurd; next = absurd }))
        (λ _. unmoved))
        (λ e. unmoved)
        (λ e. calm p p _ _ refl refl tt)
        (λ e. calm p p _ _ refl refl tt)
        (λ e. choose (After p) (eqb me.s 0) (λ _. calm p p _ _ refl refl tt) (λ _. calm p p _ _ refl refl tt))
        (λ e. moved p me.s _ _ (λ _. refl) inl (record { inside = absurd; freed = absurd; next = λ _. ap (λ (s : Shared). s.priority) (upd_same sh me.s _) }))
        (λ e. moved p me.s _ _ (λ z. z) (λ _. inr ((raised_at p 18 e).next tt)) (low _ 0 _ _ tt))
        (λ e. moved p p _ _ (λ _. refl) inl (record { inside = λ _. ap (λ (s : Shared). s.priority) (upd_same sh p _); freed = absurd; next = absurd }))
        (private p).stage (i.stands p).known refl
      where
        me : Private
        me = private p

        a : ℕ
        a = me.prev

        unmoved : Raised (upd private p (private p)) (upd sh p (sh p))
        unmoved = subst₂ Raised (sym (upd_kept private p)) (sym (upd_kept sh p)) raised

        one : (j j' : ℕ) → T (among j lows) → T (among j' lows) → (b : Bool) → T (among (cond b j j') lows)
        one j j' t t' b = choose (λ (k : ℕ). T (among k lows)) b (λ _. t) (λ _. t')

    -- begin acquisition: nobody hands on to an idle module
    pub begin_raises : (r : ℕ) → (private p).stage ≡ 0 → Raised (upd private p (goes 1 (with_own r (private p)))) (upd sh p (with_priority r (sh p)))
    begin_raises r e =
        upd_both private sh p _ _ (λ q me its. Up (upd sh p (with_priority r (sh p))) me.stage me its) (low _ 1 _ _ tt)
        (λ q n. let u = raised q in
        record {
          inside = u.inside;
          freed = u.freed;
          next = λ t. ap (λ (s : Shared). s.priority) (upd_other sh p _ (private q).s (away q t)) ∙ u.next t;
        })
      where
        away : (q : ℕ) → T (among (private q).stage (18 ∷ [])) → (private q).s ≢ p
        away q t z =
            let k = (private q).stage in
            let f = (holder_at i q k refl ((i.stands q).holds (included (18 ∷ []) holders tt k t))).handing (included (18 ∷ []) (17 ∷ 18 ∷ []) tt k t) in
            subst (λ (j : ℕ). T (among j members)) e (member i p (head_in i p f.2 (sym f.1 ∙ z)))

    -- begin release
    pub release_raises : (private p).stage ≡ 13 → Raised (upd private p (goes 14 (private p))) sh
    release_raises e =
        upd_all private p _ (λ q me. Up sh me.stage me (sh q)) (record { inside = λ _. (raised_at p 13 e).inside tt; freed = absurd; next = absurd })
        (λ q n. raised q)
