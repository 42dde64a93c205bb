-- A call on a table whose counts are reduced modulo m is the call on the table itself, reduced. Assumes nothing.
use Prim.Native.Nat.{ℕ, suc, ◌≤◌}
use mathlib.Core.Path.{◌≡◌, refl, sym, ◌∙◌, ap, subst⁻¹}
use mathlib.Core.Bool.{Bool, cond, not, ◌&&◌, ◌||◌}
use mathlib.Core.List.{◌∷◌, []}
use lib.Dec.{eqb, leb}
use lib.ListN.{length}
use native.Mathlib.Nat.{zero-mod}
use Rattle.laws.proofs.Cases.{cond_map, cond_map₂}
use Rattle.link.specs.Count.{next}
use Rattle.link.specs.Operations.{OPEN, CLOSED, fresh}
use Rattle.stage.proofs.Refusing.{refusing_map}
use Rattle.stage.proofs.Update.{upd_map}
use Rattle.stage.specs.Calls.{Call, set_up, begin_acquisition, begin_release, step, take_log, within, capacity, admits, refusals, refusing, answered, after, called}
use Rattle.stage.specs.Rows.{find, rows, goes, with_own, with_priority, looked, looks_at, stepped, last, Looks, itself, prev's, w's, s's}
use Rattle.stage.specs.Table.{Table, upd, idle, untouched, fresh_table, begun_acquisition, begun_release, step_of, logged, after_step, log_taken}
use Rattle.stage.specs.declared.Stepped.{Stepped}
use Rattle.line.specs.Mixed.{unraised, left_before, sound_before, called_by}
use Rattle.line.proofs.Desks.{called_table}
use Rattle.line.proofs.Wrap.{wrap_private, wrap_shared, wrap_stepped, Alike, row_wraps}
use Rattle.stage.specs.Answers.{Reply}
use Rattle.stage.specs.declared.Refusal.TheVariants.{Unsound, NoSuchModule, WrongStage, LogFull}
use Rattle.std.specs.Prelude.{Ok, Err}

module _ (m : ℕ) where
  abbrev pub wrap : Table → Table
  wrap t =
      record { n = t.n; private = λ q. wrap_private m (t.private q); shared = λ q. wrap_shared m (t.shared q); lock = t.lock; log = t.log }

  -- where the call is a swap, it compares alike
  abbrev pub Fair : Call → Table → Type 0
  Fair (set_up k) t = Unit {0}
  Fair (begin_acquisition p r) t = Unit {0}
  Fair (begin_release p) t = Unit {0}
  Fair (step p) t = (t.private p).stage ≡ 9 → Alike m p (t.private p) (t.shared (t.private p).prev) t.lock
  Fair (take_log room) t = Unit {0}

  pub fresh_wraps : (k : ℕ) → fresh_table k ≡ wrap (fresh_table k)
  unfolding fresh_table idle untouched fresh
  fresh_wraps k =
      let z = sym (zero-mod m) in
      λ i. record {
        n = k;
        private = λ _. record { stage = 0; own = 0; prev = 0; w = record { pointer = 0; mark = OPEN; count = z i }; s = 0 };
        shared = λ _. record { link = record { pointer = 0; mark = CLOSED; count = z i }; priority = 0; locked = 0 };
        lock = 0;
        log = [];
      }

  module _ (t : Table) (p : ℕ) (known : (t.private p).stage ≤ last) where
    looks_wraps : looks_at p (wrap_private m (t.private p)) ≡ looks_at p (t.private p)
    unfolding looks_at
    looks_wraps = whoever (find rows (t.private p).stage).looks
      where
        whoever : (l : Looks) → looked l p (wrap_private m (t.private p)) ≡ looked l p (t.private p)
        whoever itself = refl
        whoever prev's = refl
        whoever w's = refl
        whoever s's = refl

    looks_at_prev : (t.private p).stage ≡ 9 → looks_at p (t.private p) ≡ (t.private p).prev
    unfolding looks_at find rows
    looks_at_prev e = ap (λ (k : ℕ). looked (find rows k).looks p (t.private p)) e

    step_wraps : Fair (step p) t → step_of (next m) (wrap t) p ≡ wrap_stepped m (step_of suc t p)
    unfolding step_of stepped
    step_wraps fair =
        let me = t.private p in
        ap (λ (x : ℕ). (find rows me.stage).row (next m) p (wrap_private m me) (wrap_shared m (t.shared x)) t.lock) looks_wraps
        ∙ row_wraps m p me (t.shared (looks_at p me)) t.lock me.stage known
        (λ e. subst⁻¹ (λ (x : ℕ). Alike m p me (t.shared x) t.lock) (looks_at_prev e) (fair e))

    after_step_wraps : Fair (step p) t → after_step (next m) (wrap t) p ≡ wrap (after_step suc t p)
    unfolding after_step
    after_step_wraps fair =
        let r = step_of suc t p in
        let e = step_wraps fair in
        let f = sym (upd_map (wrap_private m) t.private p r.me) in
        let f' = sym (upd_map (wrap_shared m) t.shared (looks_at p (t.private p)) r.its) in
        (λ i. record {
          n = t.n;
          private = upd (λ q. wrap_private m (t.private q)) p (e i).me;
          shared = upd (λ q. wrap_shared m (t.shared q)) (looks_wraps i) (e i).its;
          lock = (e i).lock;
          log = logged t.log (e i).answer.event;
        })
        ∙ (λ i. record { n = t.n; private = f i; shared = f' i; lock = r.lock; log = logged t.log r.answer.event })

  module _ (fits : ℕ → Bool) (t : Table) (known : (p : ℕ) → (t.private p).stage ≤ last) where
    refusals_wrap : (c : Call) → Fair c t → refusals (next m) fits c (wrap t) ≡ refusals suc fits c t
    unfolding refusals
    refusals_wrap (set_up k) fair = refl
    refusals_wrap (begin_acquisition p r) fair = refl
    refusals_wrap (begin_release p) fair = refl
    refusals_wrap (step p) fair =
        ap (λ (r : Stepped).
        (not (within 1 t.n p), NoSuchModule)
        ∷ (eqb (t.private p).stage 0 || eqb (t.private p).stage 13, WrongStage)
        ∷ (admits r.answer.event && leb capacity (length t.log), LogFull)
        ∷ []) (step_wraps t p (known p) fair)
    refusals_wrap (take_log room) fair = refl

    answered_wraps : (c : Call) → Fair c t → answered (next m) c (wrap t) ≡ answered suc c t
    unfolding answered
    answered_wraps (set_up k) fair = refl
    answered_wraps (begin_acquisition p r) fair = refl
    answered_wraps (begin_release p) fair = refl
    answered_wraps (step p) fair = ap (λ (r : Stepped). r.answer) (step_wraps t p (known p) fair)
    answered_wraps (take_log room) fair = refl

    after_wraps : (c : Call) → Fair c t → after (next m) c (wrap t) ≡ wrap (after suc c t)
    unfolding after begun_acquisition begun_release log_taken
    after_wraps (set_up k) fair = fresh_wraps k
    after_wraps (begin_acquisition p r) fair =
        let f = sym (upd_map (wrap_private m) t.private p (goes 1 (with_own r (t.private p)))) in
        let f' = sym (upd_map (wrap_shared m) t.shared p (with_priority r (t.shared p))) in
        λ i. record { n = t.n; private = f i; shared = f' i; lock = t.lock; log = t.log }
    after_wraps (begin_release p) fair =
        let f = sym (upd_map (wrap_private m) t.private p (goes 14 (t.private p))) in
        λ i. record { n = t.n; private = f i; shared = λ q. wrap_shared m (t.shared q); lock = t.lock; log = t.log }
    after_wraps (step p) fair = after_step_wraps t p (known p) fair
    after_wraps (take_log room) fair = refl

    call_wraps : (c : Call) → Fair c t → called (next m) fits c (wrap t) ≡ ((called suc fits c t).0, wrap (called suc fits c t).1)
    unfolding called
    call_wraps c fair =
        (λ i. refusing (refusals_wrap c fair i) (λ k. (Err k, wrap t)) (Ok (answered_wraps c fair i), after_wraps c fair i))
        ∙ sym (refusing_map (λ (r : Reply × Table). (r.0, wrap r.1)) (refusals suc fits c t) (λ k. (Err k, t)) (Ok (answered suc c t), after suc c t))

    unraised_wraps : (p : ℕ) (t' : Table) → unraised p (wrap t') ≡ wrap (unraised p t')
    unfolding unraised
    unraised_wraps p t' =
        let f = sym (upd_map (wrap_private m) t'.private p (goes 3 (t'.private p))) in
        λ i. record { n = t'.n; private = f i; shared = λ q. wrap_shared m (t'.shared q); lock = t'.lock; log = t'.log }

    left_wraps : (c : Call) (t' : Table) → left_before c (wrap t) (wrap t') ≡ wrap (left_before c t t')
    unfolding left_before
    left_wraps (set_up k) t' = refl
    left_wraps (begin_acquisition p r) t' = refl
    left_wraps (begin_release p) t' = refl
    left_wraps (step p) t' =
        let test = eqb (t.private p).stage 2 && eqb (t'.private p).stage 19 in
        (λ i. cond test (unraised_wraps p t' i) (wrap t')) ∙ sym (cond_map wrap test (unraised p t') t')
    left_wraps (take_log room) t' = refl

    abbrev wrapped : Reply × Table → Reply × Table
    wrapped r = (r.0, wrap r.1)

    pub desk_wraps : (before : Bool) (c : Call) → Fair c t → called_table before (next m) fits c (wrap t) ≡ wrapped (called_table before suc fits c t)
    unfolding called_by sound_before
    desk_wraps before c fair =
        let e = call_wraps c fair in
        let r = called suc fits c t in
        (λ i. cond before (cond (sound_before c t) ((e i).0, left_before c (wrap t) (e i).1) (Err Unsound, wrap t)) (e i))
        ∙ (λ i. cond before (cond (sound_before c t) (r.0, left_wraps c r.1 i) (Err Unsound, wrap t)) (wrapped r))
        ∙ sym (cond_map₂ wrapped before (sound_before c t) (r.0, left_before c t r.1) (Err Unsound, t) r)
