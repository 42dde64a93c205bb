-- The machine whose counts never wrap keeps the invariant over every history. Assumes nothing.
use Prim.Native.Nat.{ℕ, suc}
use mathlib.Core.Path.{◌≡◌, refl, sym, ◌∙◌, ap, subst⁻¹}
use mathlib.Core.Bool.{Bool}
use mathlib.Core.List.{List, [], ◌∷◌, ◌++◌, append-nil}
use borrow.Author.Tests.{eqb-true, not-false}
use lib.Dec.{eqb}
use native.Mathlib.Omega.{arith}
use Rattle.laws.proofs.Only.{among}
use Rattle.stage.proofs.Refusing.{Unrefused, is_within}
use Rattle.stage.specs.Calls.{Call, set_up, begin_acquisition, begin_release, step, take_log, refusals, answered, after}
use Rattle.stage.specs.Rows.{goes, with_own}
use Rattle.stage.specs.Table.{Table, upd, fresh_table, begun_acquisition, begun_release, step_of, after_step, log_taken}
use Rattle.stage.specs.declared.Event.{Event}
use Rattle.stage.specs.declared.Event.TheVariants.{Done, Waiting, Admitted, Joined, Left, Finished, Taken, Nobody}
use Rattle.stage.specs.declared.Private.{Private}
use Rattle.stage.specs.declared.Shared.{Shared}
use Rattle.line.specs.History.{Course, start, stepping, accepted, heard, course, takes, state, table, transcript, taken}
use Rattle.line.specs.Mixed.{unraised}
use Rattle.line.specs.PlainLine.{Place}
use Rattle.line.proofs.Beginning.{fresh_good, begin_keeps}
use Rattle.line.proofs.Desks.{called_table, mixed_tables, by_desk}
use Rattle.line.proofs.HoldingRows.{release_keeps, unraised_keeps}
use Rattle.line.proofs.Invariant.{Inv}
use Rattle.line.proofs.Logs.{Logs, pending, insides, quiet, step_logs}
use Rattle.line.proofs.Steps.{step_keeps}
use Rattle.stage.specs.Answers.{Reply}
use Rattle.std.specs.Prelude.{Ok}

-- the invariant, of a course, what was taken of the log, and a table
pub record Kept (o : Course) (taken : List ℕ) (t : Table) : Type 0 where
  pub h : ℕ
  pub inv : Inv o.given t.private t.shared t.lock o.line h
  pub logs : Logs o taken t.private t.log

pub fresh_kept : (n : ℕ) → Kept start [] (fresh_table n)
unfolding start fresh_table
fresh_kept n = record { h = 0; inv = fresh_good; logs = refl }

stepping_given : (p : ℕ) (e : Event) (o : Course) → (stepping p e o).given ≡ o.given
unfolding stepping
stepping_given p Done o = refl
stepping_given p Waiting o = refl
stepping_given p (Admitted q) o = refl
stepping_given p Joined o = refl
stepping_given p Left o = refl
stepping_given p Finished o = refl
stepping_given p (Taken k) o = refl
stepping_given p Nobody o = refl

as_given : {g g' : ℕ → ℕ} {private : ℕ → Private} {sh : ℕ → Shared} {lock : ℕ} {l : List Place} {h : ℕ} → g ≡ g' → Inv g' private sh lock l h → Inv g private sh lock l h
as_given {private = private} {sh = sh} {lock = lock} {l = l} {h = h} e i = subst⁻¹ (λ (k : ℕ → ℕ). Inv k private sh lock l h) e i

-- the stage of a module stays inside, or stays outside, and nothing else is heard
relog : (o : Course) (taken : List ℕ) (t : Table) (p k : ℕ) (me' : Private) → (t.private p).stage ≡ k → among me'.stage insides ≡ among k insides
    → Logs o taken t.private t.log → Logs o taken (upd t.private p me') t.log
relog o taken t p k me' e same logs =
    logs ∙ ap (λ (l : List ℕ). (taken ++ t.log) ++ l) (sym (quiet t.private p me' (same ∙ sym (ap (λ (j : ℕ). among j insides) e)) o.line))

module _ (fits : ℕ → Bool) where
  accepted_keeps : (c : Call) (o : Course) (l : List ℕ) (t : Table) → Kept o l t → Unrefused (refusals suc fits c t)
      → Kept (accepted c (answered suc c t).event o) (takes c (Ok (answered suc c t)) t.log l) (after suc c t)
  unfolding refusals answered after accepted takes begun_acquisition begun_release step_of after_step log_taken
  accepted_keeps (set_up k) o l t kept u = fresh_kept k
  accepted_keeps (begin_acquisition p r) o l t kept u =
      let known = is_within 1 t.n p u.0 in
      let range = is_within 1 254 r u.1.0 in
      let e = eqb-true (t.private p).stage 0 (not-false (eqb (t.private p).stage 0) u.1.1.0) in
      record {
        h = kept.h;
        inv = begin_keeps kept.inv p r (omega arith) (omega arith) e;
        logs = relog o l t p 0 (goes 1 (with_own r (t.private p))) e refl kept.logs;
      }
  accepted_keeps (begin_release p) o l t kept u =
      let known = is_within 1 t.n p u.0 in
      let e = eqb-true (t.private p).stage 13 (not-false (eqb (t.private p).stage 13) u.1.0) in
      let z = release_keeps o kept.inv p (omega arith) e in
      record { h = z.0; inv = z.1; logs = relog o l t p 13 (goes 14 (t.private p)) e refl kept.logs }
  accepted_keeps (step p) o l t kept u =
      let known = is_within 1 t.n p u.0 in
      let z = step_keeps o kept.inv p (omega arith) in
      record { h = z.0; inv = as_given (stepping_given p _ o) z.1; logs = step_logs o kept.inv l t.log kept.logs p }
  accepted_keeps (take_log room) o l t kept u =
      record {
        h = kept.h;
        inv = kept.inv;
        logs = kept.logs ∙ ap (λ (z : List ℕ). z ++ pending t.private o.line) (sym (append-nil (l ++ t.log)));
      }

  -- a module that a desk of before R-1 takes past stage 19
  unraised_kept : (o : Course) (l : List ℕ) (t : Table) (p : ℕ) → (t.private p).stage ≡ 19 → Kept o l t → Kept o l (unraised p t)
  unfolding unraised
  unraised_kept o l t p e kept =
      let z = unraised_keeps o kept.inv p (λ nil. let none = ap (λ (q : ℕ). (t.private q).stage) nil ∙ kept.inv.nobody in omega (arith, e, none)) e in
      record { h = z.0; inv = z.1; logs = relog o l t p 19 (goes 3 (t.private p)) e refl kept.logs }

  call_keeps : (before : Bool) (c : Call) (o : Course) (l : List ℕ) (t : Table) → Kept o l t
      → let r = called_table before suc fits c t in Kept (heard c r.0 o) (takes c r.0 t.log l) r.1
  unfolding heard takes
  call_keeps before c o l t kept =
      by_desk suc fits c t (λ (r : Reply × Table). Kept (heard c r.0 o) (takes c r.0 t.log l) r.1)
      (λ k. kept) (accepted_keeps c o l t kept) (λ p r t' e z. unraised_kept _ _ t' p e z) before

  -- the ideal machine, from a fresh table of n modules
  module _ (before : ℕ → Bool) (n : ℕ) where
    pub ideal_kept : (cs : List Call)
        → Kept (course (transcript (mixed_tables before suc fits) (0, fresh_table n) cs)) (taken (mixed_tables before suc fits) (0, fresh_table n) cs) (table (mixed_tables before suc fits) (0, fresh_table n) cs)
    unfolding course transcript taken state
    ideal_kept [] = fresh_kept n
    ideal_kept (c ∷ cs) = call_keeps _ c _ _ _ (ideal_kept cs)
