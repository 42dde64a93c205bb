-- What users rely on besides demand 3, of the machine whose counts never wrap and, under the premise, of the one that counts modulo m.
-- Assumes nothing.
use Prim.Native.Nat.{ℕ, suc, ◌<◌}
use mathlib.Core.Path.{◌≡◌, sym, ◌∙◌, ap, subst, subst⁻¹, subst₂, transport}
use mathlib.Core.Bool.{Bool}
use mathlib.Core.List.{List, [], ◌∷◌}
use Rattle.link.specs.Count.{next}
use Rattle.stage.proofs.Update.{upd_all}
use Rattle.stage.specs.Calls.{Call, set_up, begin_acquisition, begin_release, step, take_log, answered, after}
use Rattle.stage.specs.Table.{Table, upd, idle, fresh_table, begun_acquisition, begun_release, step_of, after_step, log_taken}
use Rattle.stage.specs.declared.Private.{Private}
use Rattle.line.specs.Corollaries.{OneOf, step_in, stands, unless_set_up, standing, steps_now, own_steps, leaves_now, succeeded, Corollaries, Relied}
use Rattle.line.specs.Demand3.{Found}
use Rattle.line.specs.History.{Desk, Transcript, start, course, heard, accepted, state, table, transcript}
use Rattle.line.specs.Mixed.{unraised}
use Rattle.line.specs.PlainLine.{modules}
use Rattle.line.proofs.Desks.{mixed_tables, by_desk}
use Rattle.line.proofs.Holding.{kept_holds}
use Rattle.line.proofs.Ideal.{Kept, ideal_kept}
use Rattle.line.proofs.Joiners.{none_stood, under}
use Rattle.line.proofs.Modular.{follows}
use Rattle.line.proofs.OneFound.{found_one, found_wraps}
use Rattle.line.proofs.Places.{Sorted}
use Rattle.line.proofs.Remembering.{Released, Away, no_release, Latest, Remembered, step_remembers}
use Rattle.line.proofs.WrapCalls.{wrap}
use Rattle.stage.specs.Answers.{Reply}
use Rattle.std.specs.Prelude.{Ok}

-- a call that is no step, and takes a module to a stage that is no release's
begins : (h : Transcript) (private : ℕ → Private) → Remembered h private → (p : ℕ) (me' : Private) → Away me'.stage
    → (q : ℕ) → Released (course h).line (λ r. own_steps r h) (λ r. succeeded r h) q (upd private p me' q)
begins h private m p me' away =
    upd_all private p me' (Released (course h).line (λ r. own_steps r h) (λ r. succeeded r h)) (no_release me'.stage away) (λ q _. m.released q)

accepted_remembers : (c : Call) (h : Transcript) {taken : List ℕ} (t : Table) → Kept (course h) taken t → Remembered h t.private
    → Remembered ((c, Ok (answered suc c t)) ∷ h) (after suc c t).private
unfolding answered after fresh_table idle begun_acquisition begun_release step_of after_step log_taken start course heard accepted
    standing unless_set_up step_in stands own_steps steps_now succeeded leaves_now
accepted_remembers (set_up k) h t kept m = record { stood = none_stood; released = λ q. absurd; latest = tt }
accepted_remembers (begin_acquisition p r) h t kept m = record { stood = m.stood; released = begins h t.private m p _ tt; latest = tt }
accepted_remembers (begin_release p) h t kept m = record { stood = m.stood; released = begins h t.private m p _ tt; latest = tt }
accepted_remembers (step p) h t kept m = step_remembers h kept.inv m p
accepted_remembers (take_log room) h t kept m = record { stood = m.stood; released = m.released; latest = tt }

-- a module that a desk of before R-1 takes past stage 19
unraised_remembered : (h : Transcript) (t : Table) (p : ℕ) → Remembered h t.private → Remembered h (unraised p t).private
unfolding unraised
unraised_remembered h t p m = record { stood = m.stood; released = begins h t.private m p _ tt; latest = m.latest }

module _ (fits : ℕ → Bool) (before : ℕ → Bool) (n : ℕ) where
  abbrev Ideal : Desk
  Ideal = mixed_tables before suc fits

  remembered : (cs : List Call) → Remembered (transcript Ideal (0, fresh_table n) cs) (table Ideal (0, fresh_table n) cs).private
  unfolding transcript state course heard standing unless_set_up step_in stands own_steps steps_now succeeded leaves_now fresh_table idle start
  remembered [] = record { stood = none_stood; released = λ q. absurd; latest = tt }
  remembered (c ∷ cs) =
      let m = remembered cs in
      by_desk suc fits c _ (λ (r : Reply × Table). Remembered ((c, r.0) ∷ transcript Ideal (0, fresh_table n) cs) r.1.private)
      (λ k. record { stood = m.stood; released = m.released; latest = tt })
      (λ _. accepted_remembers c _ _ (ideal_kept fits before n cs) m)
      (λ p r t' e z. unraised_remembered ((c, r) ∷ transcript Ideal (0, fresh_table n) cs) t' p z)
      _

corollaries : {h : Transcript} {taken : List ℕ} {t : Table} → Kept (course h) taken t → Remembered h t.private → Corollaries h t
unfolding step_in
corollaries {h} {t = t} kept m =
    record {
      none_lost = λ l f p i. subst (OneOf p) (line l f) (m.stood.from p i);
      one_line = found_one t;
      no_other = λ l f p i. m.stood.to p (subst⁻¹ (OneOf p) (line l f) i);
      most_urgent = λ earlier p e first others now.
          under first others (subst Sorted (sym (ap (λ (h' : Transcript). (course h').line) e) ∙ now) (subst Latest e m.latest));
      equals_in_order = m.stood.order;
      release_steps = λ earlier p e. ap (own_steps p) e ∙ subst Latest e m.latest;
    }
  where
    line : (l : List ℕ) → Found t l → modules (course h).line ≡ l
    line l f = found_one t _ l (kept_holds kept).found f

-- the counts are not spoken of
corollaries_wrap : (m : ℕ) {h : Transcript} {t : Table} → Corollaries h t → Corollaries h (wrap m t)
corollaries_wrap m {t = t} c =
    record {
      none_lost = λ l f. c.none_lost l (back l f);
      one_line = λ l l' f f'. c.one_line l l' (back l f) (back l' f');
      no_other = λ l f. c.no_other l (back l f);
      most_urgent = c.most_urgent;
      equals_in_order = c.equals_in_order;
      release_steps = c.release_steps;
    }
  where
    back : (l : List ℕ) → Found (wrap m t) l → Found t l
    back l = transport (found_wraps t m l)

module _ (m : ℕ) (two : 1 < m) (fits : ℕ → Bool) where
  pub modular_corollaries : (before : ℕ → Bool) (n : ℕ) → Relied (mixed_tables before (next m) fits) (0, fresh_table n) m
  modular_corollaries before n cs z =
      let f = follows m two fits before n cs z in
      subst₂ Corollaries (sym f.heard) (sym (ap (λ (s : ℕ × Table). s.1) f.same_state))
      (corollaries_wrap m (corollaries (ideal_kept fits before n cs) (remembered fits before n cs)))
