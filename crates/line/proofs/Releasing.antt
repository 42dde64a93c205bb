-- What a step does to a release on its way to the next admission. Assumes nothing.
use Prim.Native.Nat.{ℕ, suc, ◌+◌, ◌≤◌}
use mathlib.Core.Path.{◌≡◌, refl, sym, ◌∙◌, ap, subst, subst⁻¹}
use mathlib.Core.List.{List, [], ◌∷◌}
use mathlib.Core.Logic.{◌≢◌, ◌⊎◌, inl, inr, ⊎_elim}
use lib.Dec.{T, eqb}
use lib.ListN.{length}
use borrow.Author.Tests.{eqb-true, eqb-false}
use native.Mathlib.Omega.{arith}
use Rattle.laws.proofs.Cases.{choose, equal}
use Rattle.laws.proofs.Only.{among, included, either}
use Rattle.stage.proofs.Update.{upd_same, upd_other, upd_all}
use Rattle.stage.specs.Answers.{answer_of, Reply}
use Rattle.stage.specs.Calls.{step}
use Rattle.stage.specs.Rows.{find, rows, looked, looks_at, stepped}
use Rattle.stage.specs.Table.{Table, upd, step_of, after_step}
use Rattle.stage.specs.declared.Event.TheVariants.{Admitted}
use Rattle.stage.specs.declared.Private.{Private}
use Rattle.stage.specs.declared.Shared.{Shared}
use Rattle.stage.specs.declared.Stepped.{Stepped}
use Rattle.line.specs.Corollaries.{step_in, steps_now}
use Rattle.line.specs.History.{Course, stepping}
use Rattle.line.specs.PlainLine.{Place, leave}
use Rattle.line.proofs.After.{Good}
use Rattle.line.proofs.Facts.{stands_at, holder_at, member, head_in, empty}
use Rattle.line.proofs.Invariant.{Inv, waiters, leaders, leavers, holders}
use Rattle.line.proofs.Places.{In, head}
use Rattle.line.proofs.Release.{Begun, Leaves, Freed, Goes}
use Rattle.line.proofs.ReleaseRows.{among_each, Grows, Mild, mild}
use Rattle.line.proofs.Steps.{step_keeps}
use Rattle.std.specs.Prelude.{Ok}

-- of a line of two or more, somebody is left
some_left : (l : List Place) → 2 ≤ length l → leave l ≢ []
unfolding leave
some_left [] two e = omega (arith, two)
some_left (x ∷ []) two e = omega (arith, two)
some_left (x ∷ y ∷ l) two e = omega (arith, ap length e)

-- while q leaves, the line's first waits
first_waits :
    {g : ℕ → ℕ} {private : ℕ → Private} {sh : ℕ → Shared} {lock : ℕ} {l : List Place} {h : ℕ} → Inv g private sh lock l h
    → (q : ℕ) → T (among (private q).stage leavers) → l ≢ [] → T (among (private (head l)).stage waiters) × (head l ≢ q)
first_waits {private = private} {l = l} i q v some =
    let x = head l in
    let into = head_in i x some refl in
    let q_holder = (i.stands q).holds (included leavers holders tt (private q).stage v) in
    let other : x ≢ q = λ e. (holder_at i q _ refl q_holder).away v (subst (λ (z : ℕ). In z l) e into) in (
      ⊎_elim (λ a. absurd (other ((i.stands x).holds (included leaders holders tt (private x).stage a) ∙ sym q_holder))) (λ w. w)
          (either leaders waiters (private x).stage (member i x into)),
      other,
    )

-- A step of q.
module _ (t : Table) (o : Course) {h : ℕ} (i : Inv o.given t.private t.shared t.lock o.line h) (q : ℕ) where
  abbrev me : Private
  me = t.private q

  abbrev l : List Place
  l = o.line

  abbrev r : Stepped
  r = step_of suc t q

  abbrev t' : Table
  t' = after_step suc t q

  abbrev l' : List Place
  l' = (stepping q r.answer.event o).line

  -- whose shared part the row of stage k looks at, and what it leaves
  abbrev seen : ℕ → ℕ
  seen k = looked (find rows k).looks q me

  abbrev row : ℕ → Stepped
  row k = (find rows k).row suc q me (t.shared (seen k)) t.lock

  mild_here : Mild o q me (t.shared (looks_at q me)) t.lock me.stage (looks_at q me) r
  unfolding step_of
  mild_here = mild o q me (t.shared (looks_at q me)) t.lock (i.stands q).known

  here : (t'.private q).stage ≡ r.me.stage
  unfolding after_step
  here = ap (λ (m : Private). m.stage) (upd_same t.private q _)

  others : (p : ℕ) → q ≢ p → (t'.private p).stage ≡ (t.private p).stage
  unfolding after_step
  others p n = ap (λ (m : Private). m.stage) (upd_other t.private q _ p (λ e. n (sym e)))

  looked_here : (x : ℕ) → looks_at q me ≡ x → (t'.shared x).locked ≡ r.its.locked
  unfolding after_step
  looked_here x e =
      ap (λ (s : Shared). s.locked) (subst (λ (z : ℕ). upd t.shared (looks_at q me) r.its z ≡ r.its) e (upd_same t.shared (looks_at q me) r.its))

  holder_is : (p : ℕ) → T (among (t.private p).stage leavers) → p ≡ h
  holder_is p v = (i.stands p).holds (included leavers holders tt (t.private p).stage v)

  -- who holds the lock is alone in leaving
  grows : (p : ℕ) → q ≢ p → p ≡ h → Grows l l'
  grows p n p_h = ⊎_elim (λ e. absurd (n ((stands_at i q 14 e).holds tt ∙ sym p_h))) (λ g. g) mild_here.0

  -- the row at a known stage
  at_row : (k : ℕ) → me.stage ≡ k → r ≡ row k
  unfolding step_of stepped looks_at
  at_row k e = ap row e

  kept : q ≢ 0 → Good o.given t'.private t'.shared t'.lock l'
  unfolding after_step step_of
  kept some = step_keeps o i q some

  -- its leave
  leaving : Begun q t l → ((t'.private q).stage ≡ 15) × ((x : ℕ) × Leaves q x t' l')
  unfolding find rows stepping
  leaving b =
      let row_14 = at_row 14 b.0 in
      let at_15 : (t'.private q).stage ≡ 15 = here ∙ ap (λ (z : Stepped). z.me.stage) row_14 in
      let left : l' ≡ leave l = ap (λ (z : Stepped). (stepping q z.answer.event o).line) row_14 in
      let some : l' ≢ [] = subst⁻¹ (λ (m : List Place). m ≢ []) left (some_left l b.1) in
      let leaver = subst⁻¹ (λ (k : ℕ). T (among k leavers)) at_15 tt in
      let i' = (kept (λ z. omega (arith, b.0, i.nobody, ap (λ (p : ℕ). (t.private p).stage) z))).1 in
      let f = first_waits i' q leaver some in
      (at_15, (head l', record { leaver = leaver; waiter = f.0; other = f.1; first = refl; some = some }))

  -- its steps after that: to the next stage of a release, or to the end of it, where the line's first is freed
  abbrev Onward : ℕ → ℕ → Stepped → Type 0
  Onward k x z =
      ((z.me.stage ≡ k + 1) × T (among z.me.stage leavers) × ((stepping q z.answer.event o).line ≡ l))
      ⊎ ((k ≡ 18) × (x ≡ head l) × (z.its.locked ≡ 0))

  onward : l ≢ [] → T (among me.stage leavers) → Onward me.stage (looks_at q me) r
  unfolding step_of stepped looks_at find rows stepping
  onward some v =
      among_each (λ k. me.stage ≡ k → Onward k (seen k) (row k)) leavers
      (λ e. inl (refl, tt, refl), (at_16, (λ e. inl (refl, tt, refl), (λ e. inr (refl, ((holder_at i q 18 e ((stands_at i q 18 e).holds tt)).handing tt).1, refl), tt))))
      me.stage v refl
    where
      at_16 : me.stage ≡ 16 → Onward 16 (seen 16) (row 16)
      at_16 e =
          choose (Onward 16 q) (eqb me.s 0)
          (λ nil. absurd (some (empty i (sym ((holder_at i q 16 e ((stands_at i q 16 e).holds tt)).next tt) ∙ eqb-true me.s 0 nil))))
          (λ _. inl (refl, tt, refl))

  waits_other : (x : ℕ) → x ≢ q → T (among (t.private x).stage waiters) → T (among (t'.private x).stage waiters)
  waits_other x n w = subst⁻¹ (λ (k : ℕ). T (among k waiters)) (others x (λ e. n (sym e))) w

  releasing : (x : ℕ) → Leaves q x t l → (((t'.private q).stage ≡ me.stage + 1) × Leaves q x t' l') ⊎ ((me.stage ≡ 18) × Freed x t')
  releasing x v =
      ⊎_elim
      (λ a. inl (
        here ∙ a.0,
        record {
          leaver = subst⁻¹ (λ (k : ℕ). T (among k leavers)) here a.1;
          waiter = waits_other x v.other v.waiter;
          other = v.other;
          first = ap head a.2 ∙ v.first;
          some = subst⁻¹ (λ (m : List Place). m ≢ []) a.2 v.some;
        },
      ))
      (λ a. inr (a.0, record { waiter = waits_other x v.other v.waiter; freed = looked_here x (a.1 ∙ v.first) ∙ a.2 }))
      (onward v.some v.leaver)

  -- its steps while it waits: it goes on waiting, its Locked as it was, at 12 only where that is not 0; or it is admitted
  abbrev Waits : ℕ → ℕ → Stepped → Type 0
  Waits k x z =
      (z.me.stage ≢ 11)
      × (((x ≡ q) × T (among z.me.stage waiters) × (z.its.locked ≡ (t.shared q).locked) × ((k ≡ 11) ⊎ ((t.shared q).locked ≢ 0)))
      ⊎ (((t.shared q).locked ≡ 0) × (z.answer ≡ answer_of (Admitted q))))

  waiting : T (among me.stage waiters) → Waits me.stage (looks_at q me) r
  unfolding step_of stepped looks_at find rows
  waiting w =
      among_each (λ k. me.stage ≡ k → Waits k (seen k) (row k)) waiters
      (λ e. (λ z. omega (arith, z), inl (refl, tt, refl, inl refl)), (at_12, tt))
      me.stage w refl
    where
      at_12 : me.stage ≡ 12 → Waits 12 (seen 12) (row 12)
      at_12 e =
          choose (Waits 12 q) (eqb (t.shared q).locked 0)
          (λ z. (λ z'. omega (arith, z'), inr (eqb-true (t.shared q).locked 0 z, refl)))
          (λ z. (
            λ z'. omega (arith, e, z'),
            inl (refl, subst⁻¹ (λ (k : ℕ). T (among k waiters)) e tt, refl, inr (eqb-false (t.shared q).locked 0 z)),
          ))

  -- who waits behind another's hold waits on
  waits_on : (x : ℕ) → x ≢ h → T (among (t.private x).stage waiters) → T (among (t'.private x).stage waiters)
  waits_on x n w =
      ⊎_elim
      (λ e. subst (λ (z : ℕ). z ≢ h → T (among (t.private z).stage waiters) → T (among (t'.private z).stage waiters)) e itself n w)
      (λ n'. waits_other x (λ e. n' (sym e)) w)
      (equal q x)
    where
      itself : q ≢ h → T (among me.stage waiters) → T (among (t'.private q).stage waiters)
      itself n_q w_q =
          ⊎_elim
          (λ a. subst⁻¹ (λ (k : ℕ). T (among k waiters)) here a.1)
          (λ a. absurd (⊎_elim (λ b. n_q b.0) (λ b. omega (arith, a.0, b.1)) ((i.stands q).waits w_q).1))
          (waiting w_q).1

  entering : Freed q t → ((me.stage ≡ 11) × Freed q t') ⊎ ((p : ℕ) × ◌≡◌ {A = Reply} (Ok r.answer) (Ok (answer_of (Admitted p))))
  entering f =
      ⊎_elim
      (λ a. ⊎_elim
      (λ e. inl (e, record { waiter = subst⁻¹ (λ (k : ℕ). T (among k waiters)) here a.1; freed = looked_here q a.0 ∙ a.2 ∙ f.freed }))
      (λ n. absurd (n f.freed))
      a.3)
      (λ a. inr (q, ap Ok a.1))
      (waiting f.waiter).1

  -- nobody else's step takes back that x is freed
  still_freed : (x : ℕ) → x ≢ q → (t.shared x).locked ≡ 0 → (t'.shared x).locked ≡ 0
  unfolding after_step
  still_freed =
      upd_all t.shared (looks_at q me) r.its (λ x s. x ≢ q → (t.shared x).locked ≡ 0 → s.locked ≡ 0)
      (λ n z. ⊎_elim (λ a. a) (λ e. absurd (n e)) (mild_here.1 z))
      (λ x _ _ z. z)

  pub step_goes : Goes (step q) (Ok r.answer) t l t' l'
  unfolding step_in steps_now after_step
  step_goes =
      record {
        same_n = refl;
        begun_stays = λ p no_p b.
            let n = eqb-false q p no_p in
            let g = (grows p n ((stands_at i p 14 b.0).holds tt)).0 in
            (others p n ∙ b.0, omega (arith, b.1, g));
        begun_steps = λ p yes_p.
            subst (λ (z : ℕ). Begun z t l → ((t'.private z).stage ≡ 15) × ((x : ℕ) × Leaves z x t' l')) (eqb-true q p yes_p) leaving;
        leaves_stays = λ p x no_p v.
            let n = eqb-false q p no_p in
            let p_holder = holder_is p v.leaver in
            let g = (grows p n p_holder).1 v.some in (
              others p n,
              record {
                leaver = subst⁻¹ (λ (k : ℕ). T (among k leavers)) (others p n) v.leaver;
                waiter = waits_on x (λ e. v.other (e ∙ sym p_holder)) v.waiter;
                other = v.other;
                first = g.0 ∙ v.first;
                some = g.1;
              },
            );
        leaves_steps = λ p x yes_p.
            subst (λ (z : ℕ). Leaves z x t l → (((t'.private z).stage ≡ (t.private z).stage + 1) × Leaves z x t' l') ⊎ (((t.private z).stage ≡ 18) × Freed x t'))
            (eqb-true q p yes_p) (releasing x);
        freed_stays = λ x no_x f.
            let n : x ≢ q = λ e. eqb-false q x no_x (sym e) in
            record { waiter = waits_other x n f.waiter; freed = still_freed x n f.freed };
        freed_steps = λ x yes_x.
            subst (λ (z : ℕ). Freed z t → (((t.private z).stage ≡ 11) × Freed z t') ⊎ ((p : ℕ) × ◌≡◌ {A = Reply} (Ok r.answer) (Ok (answer_of (Admitted p)))))
            (eqb-true q x yes_x) entering;
        waiter_stays = λ x no_x _. others x (eqb-false q x no_x);
        waiter_steps = λ x yes_x.
            subst (λ (z : ℕ). T (among (t.private z).stage waiters) → (t'.private z).stage ≢ 11) (eqb-true q x yes_x)
            (λ w z. (waiting w).0 (sym here ∙ z));
      }
