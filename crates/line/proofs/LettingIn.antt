-- R-1's addition: in a history wholly under R-1 a step at stage 6 that looks at a module inside does not return to stage 1. Assumes nothing.
use Prim.Native.Nat.{ℕ, suc, ◌<◌}
use mathlib.Core.Path.{◌≡◌, sym, ◌∙◌, ap, subst⁻¹, subst₂}
use mathlib.Core.Bool.{Bool, false, cond}
use mathlib.Core.List.{List, [], ◌∷◌}
use mathlib.Core.Logic.{◌≢◌, ⊎_elim}
use lib.Dec.{eqb, ltb}
use borrow.Author.Tests.{eqb-true, not-false, le-ltb}
use native.Mathlib.Omega.{arith}
use Rattle.laws.proofs.Cases.{choose}
use Rattle.link.specs.Count.{next}
use Rattle.stage.proofs.Refusing.{Unrefused, refused_or}
use Rattle.stage.proofs.Update.{upd_same}
use Rattle.stage.specs.Calls.{Call, set_up, begin_acquisition, begin_release, step, take_log, refusals, after, called}
use Rattle.stage.specs.Rows.{find, rows, looked, looks_at, stepped}
use Rattle.stage.specs.Table.{Table, idle, fresh_table, begun_acquisition, begun_release, step_of, after_step, log_taken}
use Rattle.stage.specs.declared.Private.{Private}
use Rattle.line.specs.Demand3.{InTime, Inside, Premise}
use Rattle.line.specs.History.{Course, state, table}
use Rattle.line.specs.LetIn.{LetIn}
use Rattle.line.specs.Mixed.{called_by}
use Rattle.line.proofs.Desks.{mixed_tables}
use Rattle.line.proofs.Alike.{never}
use Rattle.line.proofs.Facts.{seeks_at}
use Rattle.line.proofs.Ideal.{Kept, ideal_kept}
use Rattle.line.proofs.Modular.{follows}
use Rattle.line.proofs.Raised.{Raised, low, raised_at, step_raises, begin_raises, release_raises}
use Rattle.stage.specs.Answers.{Reply}

fresh_raised : (n : ℕ) → Raised (fresh_table n).private (fresh_table n).shared
unfolding fresh_table idle
fresh_raised n q = low _ 0 _ _ tt

module _ (fits : ℕ → Bool) where
  accepted_raises : {o : Course} {l : List ℕ} (t : Table) → Kept o l t → Raised t.private t.shared
      → (c : Call) → Unrefused (refusals suc fits c t) → Raised (after suc c t).private (after suc c t).shared
  unfolding refusals after begun_acquisition begun_release step_of after_step log_taken
  accepted_raises t kept raised (set_up k) u = fresh_raised k
  accepted_raises t kept raised (begin_acquisition p r) u =
      begin_raises raised kept.inv p r (eqb-true (t.private p).stage 0 (not-false (eqb (t.private p).stage 0) u.1.1.0))
  accepted_raises t kept raised (begin_release p) u =
      release_raises raised kept.inv p (eqb-true (t.private p).stage 13 (not-false (eqb (t.private p).stage 13) u.1.0))
  accepted_raises t kept raised (step p) u = step_raises raised kept.inv p
  accepted_raises t kept raised (take_log room) u = raised

  module _ (n : ℕ) where
    abbrev ideal : List Call → Table
    ideal = table (mixed_tables never suc fits) (0, fresh_table n)

    raised : (cs : List Call) → Raised (ideal cs).private (ideal cs).shared
    unfolding state called_by called
    raised [] = fresh_raised n
    raised (c ∷ cs) =
        refused_or (λ (r : Reply × Table). Raised r.1.private r.1.shared) (refusals suc fits c (ideal cs)) _ _
        (λ k. raised cs) (accepted_raises (ideal cs) (ideal_kept fits never n cs) (raised cs) c)

    -- 255 is not below any priority
    not_below : (cs : List Call) (p : ℕ) → ((ideal cs).private p).stage ≡ 6 → Inside (ideal cs) ((ideal cs).private p).prev
        → ltb ((ideal cs).shared ((ideal cs).private p).prev).priority ((ideal cs).private p).own ≡ false
    not_below cs p e inside =
        let t = ideal cs in
        let i = (ideal_kept fits never n cs).inv in
        let a = (t.private p).prev in
        let top : (t.shared a).priority ≡ 255 = ⊎_elim (λ z. (raised_at (raised cs) a 13 z).inside tt) (λ z. (raised_at (raised cs) a 14 z).inside tt) inside in
        let own = ((seeks_at i p 6 e).given tt).0 in
        let byte = i.bytes p in
        le-ltb (t.shared a).priority (t.private p).own (omega (arith, top, own, byte))

    ideal_lets_in : (cs : List Call) (p : ℕ) → ((ideal cs).private p).stage ≡ 6 → Inside (ideal cs) ((ideal cs).private p).prev
        → ((ideal (step p ∷ cs)).private p).stage ≢ 1
    unfolding state called_by called after after_step step_of stepped looks_at find rows
    ideal_lets_in cs p e inside =
        refused_or (λ (r : Reply × Table). (r.1.private p).stage ≢ 1) (refusals suc fits (step p) t) _ _
        (λ k z. omega (arith, e, z))
        (λ _. subst⁻¹ (λ (k : ℕ). k ≢ 1)
        (ap (λ (x : Private). x.stage) (upd_same t.private p _)
        ∙ ap (λ (k : ℕ). ((find rows k).row suc p me (t.shared (looked (find rows k).looks p me)) t.lock).me.stage) e
        ∙ ap (λ (b : Bool). cond b 1 (cond (eqb me.w.pointer 0) 8 7)) (not_below cs p e inside))
        (choose (λ (k : ℕ). k ≢ 1) (eqb me.w.pointer 0) (λ _ z. omega (arith, z)) (λ _ z. omega (arith, z))))
      where
        t : Table
        t = ideal cs

        me : Private
        me = t.private p

module _ (m : ℕ) (two : 1 < m) (fits : ℕ → Bool) (n : ℕ) where
  -- counts do not matter to it
  pub modular_lets_in : LetIn (mixed_tables never (next m) fits) (0, fresh_table n) m
  unfolding Premise InTime
  modular_lets_in cs z p e inside =
      let s = (follows m two fits never n cs z).same_state in
      let s' = (follows m two fits never n (step p ∷ cs) ((λ nine. absurd (omega (arith, e, nine))), z)).same_state in
      subst₂ (λ (t t' : Table). (t.private p).stage ≡ 6 → Inside t (t.private p).prev → (t'.private p).stage ≢ 1)
      (sym (ap (λ (k : ℕ × Table). k.1) s)) (sym (ap (λ (k : ℕ × Table). k.1) s')) (ideal_lets_in fits n cs p) e inside
