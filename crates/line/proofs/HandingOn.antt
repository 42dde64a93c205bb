-- A release is handed on: what every call does to it, of the machine whose counts never wrap and, under the premise, of the one that counts modulo m; and of
-- two desks that show the same tables and say the same. Desks of today alone. Assumes nothing.
use Prim.Native.Nat.{ℕ, suc, ◌<◌}
use mathlib.Core.Path.{◌≡◌, refl, sym, ◌∙◌, subst, subst⁻¹, transport}
use mathlib.Core.Bool.{Bool, true, false}
use mathlib.Core.List.{List, [], ◌∷◌}
use mathlib.Core.Logic.{inl, inr, ⊎_elim}
use lib.Dec.{T, eqb}
use borrow.Author.Tests.{eqb-true, not-false}
use Rattle.laws.proofs.Only.{among, included}
use Rattle.link.specs.Count.{next}
use Rattle.stage.proofs.Refusing.{Unrefused, refused_or}
use Rattle.stage.proofs.Update.{upd_all}
use Rattle.stage.specs.Calls.{Call, set_up, begin_acquisition, begin_release, step, take_log, refusals, answered, after, called}
use Rattle.stage.specs.Table.{Table, upd, fresh_table, begun_acquisition, begun_release, log_taken}
use Rattle.stage.specs.declared.Private.{Private}
use Rattle.line.specs.Corollaries.{step_in, steps_now}
use Rattle.line.specs.Demand3.{Premise}
use Rattle.line.specs.History.{Desk, Course, Transcript, Ongoing, accepted, heard, course, state, table, transcript}
use Rattle.line.specs.Mixed.{called_by}
use Rattle.line.specs.PlainLine.{Place}
use Rattle.line.proofs.Alike.{never, premise, heard_alike}
use Rattle.line.proofs.Desks.{mixed_tables}
use Rattle.line.proofs.Ideal.{ideal_kept}
use Rattle.line.proofs.Invariant.{Inv, waiters, leavers}
use Rattle.line.proofs.Modular.{follows}
use Rattle.line.proofs.Release.{busy, Leaves, Freed, Goes, HandsOn}
use Rattle.line.proofs.Releasing.{step_goes}
use Rattle.line.proofs.WrapCalls.{wrap}
use Rattle.stage.specs.Answers.{Reply}
use Rattle.stage.specs.declared.Refusal.TheVariants.{Unsound}
use Rattle.std.specs.Prelude.{Ok, Err}

-- the same of another table, where the stages and Locked that it speaks of are the same
leaves_as : {t u : Table} {p x : ℕ} {l : List Place} → (u.private p).stage ≡ (t.private p).stage → (u.private x).stage ≡ (t.private x).stage
    → Leaves p x t l → Leaves p x u l
leaves_as e e' v =
    record {
      leaver = subst⁻¹ (λ (k : ℕ). T (among k leavers)) e v.leaver;
      waiter = subst⁻¹ (λ (k : ℕ). T (among k waiters)) e' v.waiter;
      other = v.other;
      first = v.first;
      some = v.some;
    }

freed_as : {t u : Table} {x : ℕ} → (u.private x).stage ≡ (t.private x).stage → (u.shared x).locked ≡ (t.shared x).locked → Freed x t → Freed x u
freed_as e e' f = record { waiter = subst⁻¹ (λ (k : ℕ). T (among k waiters)) e f.waiter; freed = e' ∙ f.freed }

-- A call that is no step of anybody: who is busy is not moved by it, and the line and every Locked stay.
quiet : (c : Call) (r : Reply) (t t' : Table) (l : List Place)
    → ((p : ℕ) → steps_now p (step_in c r) ≡ false)
    → t'.n ≡ t.n
    → ((p : ℕ) → T (among (t.private p).stage busy) → (t'.private p).stage ≡ (t.private p).stage)
    → ((p : ℕ) → (t'.shared p).locked ≡ (t.shared p).locked)
    → Goes c r t l t' l
quiet c r t t' l none same_n same_stage same_locked =
    record {
      same_n = same_n;
      begun_stays = λ p _ b. (same_stage p (subst⁻¹ (λ (k : ℕ). T (among k busy)) b.0 tt) ∙ b.0, b.1);
      begun_steps = λ p yes_p _. no_step p yes_p;
      leaves_stays = λ p x _ v.
          let e = same_stage p (included leavers busy tt (t.private p).stage v.leaver) in
          (e, leaves_as e (waits x v.waiter) v);
      leaves_steps = λ p x yes_p _. no_step p yes_p;
      freed_stays = λ x _ f. freed_as (waits x f.waiter) (same_locked x) f;
      freed_steps = λ x yes_x _. no_step x yes_x;
      waiter_stays = λ x _. waits x;
      waiter_steps = λ x yes_x _. no_step x yes_x;
    }
  where
    no_step : {A : Type 0} (p : ℕ) → steps_now p (step_in c r) ≡ true → A
    no_step p yes_p = absurd (subst T (sym yes_p ∙ none p) tt)

    waits : (x : ℕ) → T (among (t.private x).stage waiters) → (t'.private x).stage ≡ (t.private x).stage
    waits x w = same_stage x (included waiters busy tt (t.private x).stage w)

-- a module that is not on its way may be moved
moved : (private : ℕ → Private) (p k : ℕ) (me' : Private) → (private p).stage ≡ k → (T (among k busy) → ⊥)
    → (q : ℕ) → T (among (private q).stage busy) → (upd private p me' q).stage ≡ (private q).stage
moved private p k me' e idle =
    upd_all private p me' (λ q me. T (among (private q).stage busy) → me.stage ≡ (private q).stage)
    (λ b. absurd (idle (subst (λ (j : ℕ). T (among j busy)) e b))) (λ q _ _. refl)

module _ (fits : ℕ → Bool) where
  accepted_goes : (c : Call) → Ongoing c → (t : Table) (o : Course) {h : ℕ} → Inv o.given t.private t.shared t.lock o.line h
      → Unrefused (refusals suc fits c t) → Goes c (Ok (answered suc c t)) t o.line (after suc c t) (accepted c (answered suc c t).event o).line
  unfolding refusals answered after accepted begun_acquisition begun_release log_taken step_in steps_now
  accepted_goes (set_up k) z t o i u = absurd z
  accepted_goes (begin_acquisition p r) z t o i u =
      quiet (begin_acquisition p r) _ t _ o.line (λ _. refl) refl
      (moved t.private p 0 _ (eqb-true (t.private p).stage 0 (not-false (eqb (t.private p).stage 0) u.1.1.0)) absurd)
      (upd_all t.shared p _ (λ q s. s.locked ≡ (t.shared q).locked) refl (λ q _. refl))
  accepted_goes (begin_release p) z t o i u =
      quiet (begin_release p) _ t _ o.line (λ _. refl) refl
      (moved t.private p 13 _ (eqb-true (t.private p).stage 13 (not-false (eqb (t.private p).stage 13) u.1.0)) absurd) (λ _. refl)
  accepted_goes (step p) z t o i u = step_goes t o i p
  accepted_goes (take_log room) z t o i u = quiet (take_log room) _ t _ o.line (λ _. refl) refl (λ _ _. refl) (λ _. refl)

  module _ (n : ℕ) where
    abbrev Ideal : Desk
    Ideal = mixed_tables never suc fits

    abbrev ideal : List Call → Table
    ideal = table Ideal (0, fresh_table n)

    abbrev told : List Call → Transcript
    told = transcript Ideal (0, fresh_table n)

    pub ideal_hands_on : (c : Call) (cs : List Call) → Ongoing c
        → Goes c (Ideal.says c (state Ideal (0, fresh_table n) cs)) (ideal cs) (course (told cs)).line (ideal (c ∷ cs)) (course (told (c ∷ cs))).line
    unfolding state transcript course heard called_by called step_in steps_now
    ideal_hands_on c cs ongoing =
        let t = ideal cs in
        let o = course (told cs) in
        refused_or (λ (r : Reply × Table). Goes c r.0 t o.line r.1 (heard c r.0 o).line) (refusals suc fits c t) _ _
        (λ k. quiet c (Err k) t t o.line (λ _. refl) refl (λ _ _. refl) (λ _. refl))
        (accepted_goes c ongoing t o (ideal_kept fits never n cs).inv)

-- counts are not spoken of
goes_wrap : (m : ℕ) {c : Call} {r : Reply} {t t' : Table} {l l' : List Place} → Goes c r t l t' l' → Goes c r (wrap m t) l (wrap m t') l'
goes_wrap m g =
    record {
      same_n = g.same_n;
      begun_stays = g.begun_stays;
      begun_steps = λ p yes_p b. let a = g.begun_steps p yes_p b in (a.0, (a.1.0, leaves_as refl refl a.1.1));
      leaves_stays = λ p x no_p v. let a = g.leaves_stays p x no_p (leaves_as refl refl v) in (a.0, leaves_as refl refl a.1);
      leaves_steps = λ p x yes_p v.
          ⊎_elim (λ a. inl (a.0, leaves_as refl refl a.1)) (λ a. inr (a.0, freed_as refl refl a.1)) (g.leaves_steps p x yes_p (leaves_as refl refl v));
      freed_stays = λ x no_x f. freed_as refl refl (g.freed_stays x no_x (freed_as refl refl f));
      freed_steps = λ x yes_x f. ⊎_elim (λ a. inl (a.0, freed_as refl refl a.1)) inr (g.freed_steps x yes_x (freed_as refl refl f));
      waiter_stays = g.waiter_stays;
      waiter_steps = g.waiter_steps;
    }

-- what the latest call said
abbrev latest : Transcript → Reply
latest [] = Err Unsound
latest (x ∷ earlier) = x.1

module _ (m : ℕ) (two : 1 < m) (fits : ℕ → Bool) (n : ℕ) where
  pub modular_hands_on : HandsOn (mixed_tables never (next m) fits) (0, fresh_table n) m
  unfolding Premise transcript
  modular_hands_on c cs ongoing z =
      let f = follows m two fits never n cs z.1 in
      let f' = follows m two fits never n (c ∷ cs) z in
      transport
      (λ j. Goes c (latest (sym f'.heard j)) (sym f.same_state j).1 (course (sym f.heard j)).line (sym f'.same_state j).1 (course (sym f'.heard j)).line)
      (goes_wrap m (ideal_hands_on fits n c cs ongoing))

module _ (D E : Desk) (s : D.State) (e : E.State) (tables : (cs : List Call) → table D s cs ≡ table E e cs)
    (says : (c : Call) (cs : List Call) → D.says c (state D s cs) ≡ E.says c (state E e cs)) where
  pub hands_on_alike : (m : ℕ) → HandsOn E e m → HandsOn D s m
  hands_on_alike m d c cs ongoing z =
      let h = heard_alike D E s e tables says in
      transport
      (λ j. Goes c (sym (says c cs) j) (sym (tables cs) j) (course (sym (h cs) j)).line (sym (tables (c ∷ cs)) j) (course (sym (h (c ∷ cs)) j)).line)
      (d c cs ongoing (premise D E s e tables says m (c ∷ cs) z))
