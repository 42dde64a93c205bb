-- A call changes a link by one at most, and what a seeker has read stays what it has read until it reads again: so the count of prev's link is the count
-- that was read and the changes since. Assumes nothing.
use Prim.Native.Nat.{ℕ, suc, ◌+◌, ◌≤◌}
use mathlib.Core.Path.{◌≡◌, refl, sym, ◌∙◌, ap, subst, subst⁻¹}
use mathlib.Core.Bool.{Bool, true, false, cond}
use mathlib.Core.List.{List, [], ◌∷◌}
use mathlib.Core.Logic.{◌≢◌, ◌⊎◌, inl, inr, ⊎_elim}
use lib.Dec.{T, eqb, ltb}
use borrow.Author.Tests.{eq-eqb, ne_eqb}
use native.Mathlib.Omega.{arith}
use Rattle.laws.proofs.Cases.{choose}
use Rattle.laws.proofs.Only.{among}
use Rattle.laws.proofs.Said.{no_right}
use Rattle.link.specs.Operations.{CLOSED, changed, same, swapped, Swapped}
use Rattle.link.specs.declared.Link.{Link}
use Rattle.stage.proofs.Update.{upd_all, upd_kept}
use Rattle.stage.specs.Calls.{Call, set_up, begin_acquisition, begin_release, step, take_log, after}
use Rattle.stage.specs.Rows.{find, rows, looked, looks_at, stepped, after9, last}
use Rattle.stage.specs.Table.{Table, upd, begun_acquisition, begun_release, step_of, after_step, log_taken}
use Rattle.stage.specs.declared.Private.{Private}
use Rattle.stage.specs.declared.Shared.{Shared}
use Rattle.stage.specs.declared.Stepped.{Stepped}
use Rattle.line.specs.Demand3.{reads}
use Rattle.line.specs.History.{Ongoing}
use Rattle.stage.proofs.ByStage.{by_stage}

-- a link is as it was, or one change on
abbrev pub OneOn : Link → Link → Type 0
OneOn l l' = (l' ≡ l) ⊎ (l'.count ≡ suc l.count)

-- the stages between a reading and its swap
abbrev pub readers : List ℕ
readers = 6 ∷ 7 ∷ 8 ∷ 9 ∷ []

module _ (p : ℕ) (me : Private) (its : Shared) (lock : ℕ) where
  abbrev row : ℕ → Stepped
  row k = (find rows k).row suc p me its lock

  one_on : (k : ℕ) → k ≤ last → OneOn its.link (row k).its.link
  unfolding find rows swapped changed
  one_on =
      by_stage (λ k. OneOn its.link (row k).its.link)
      (inl refl)
      (inr refl)
      (choose (λ (r : Stepped). OneOn its.link r.its.link) (eqb lock 0) (λ _. inl refl) (λ _. inl refl))
      (inr refl)
      (inl refl)
      (inl refl)
      (inl refl)
      (choose (λ (r : Stepped). OneOn its.link r.its.link) (ltb its.priority me.own) (λ _. inl refl) (λ _. inl refl))
      (inr refl)
      (choose (λ (r : Swapped). OneOn its.link (after9 me its lock r).its.link) (same its.link me.w) (λ _. inr refl) (λ _. inl refl))
      (inl refl)
      (inr refl)
      (choose (λ (r : Stepped). OneOn its.link r.its.link) (eqb its.locked 0) (λ _. inl refl) (λ _. inl refl))
      (inl refl)
      (inr refl)
      (inl refl)
      (choose (λ (r : Stepped). OneOn its.link r.its.link) (eqb me.s 0) (λ _. inl refl) (λ _. inl refl))
      (inl refl)
      (inl refl)
      (inl refl)

  -- whoever is between a reading and its swap after its step has just read, or was so before
  abbrev Reads : ℕ → Stepped → Type 0
  Reads k r =
      T (among r.me.stage readers)
      → (r.me.prev ≡ me.prev) × (((k ≡ 5) × (r.me.w ≡ its.link) × (r.its ≡ its)) ⊎ ((k ≢ 5) × T (among k readers) × (r.me.w ≡ me.w)))

  reads_on : (k : ℕ) → k ≤ last → me.stage ≡ k → Reads k (row k)
  unfolding find rows swapped
  reads_on =
      by_stage (λ k. me.stage ≡ k → Reads k (row k))
      (λ e t. still 0 e t (λ z. z))
      (λ e. absurd)
      (λ e. choose (Reads 2) (eqb lock 0) (λ _. absurd) (λ _. absurd))
      (λ e. absurd)
      (λ e. absurd)
      (λ e t. (refl, inl (refl, refl, refl)))
      (λ e t. (refl, inr (omega arith, tt, refl)))
      (λ e. choose (Reads 7) (ltb its.priority me.own) (λ _ t. (refl, inr (omega arith, tt, refl))) (λ _. absurd))
      (λ e t. (refl, inr (omega arith, tt, refl)))
      (λ e. choose (λ (r : Swapped). Reads 9 (after9 me its lock r)) (same its.link me.w) (λ _. absurd) (λ _ t. absurd (neither 1 10 (eqb its.link.mark CLOSED) absurd absurd t)))
      (λ e t. absurd (neither 1 5 (ltb its.priority me.own) absurd absurd t))
      (λ e. absurd)
      (λ e. choose (Reads 12) (eqb its.locked 0) (λ _. absurd) (λ _ t. still 12 e t (λ z. z)))
      (λ e t. still 13 e t (λ z. z))
      (λ e. absurd)
      (λ e. absurd)
      (λ e. choose (Reads 16) (eqb me.s 0) (λ _. absurd) (λ _. absurd))
      (λ e. absurd)
      (λ e. absurd)
      (λ e. absurd)
    where
      still : {A : Type 0} (k : ℕ) → me.stage ≡ k → T (among me.stage readers) → (T (among k readers) → ⊥) → A
      still k e t no_k = absurd (no_k (subst (λ (j : ℕ). T (among j readers)) e t))

      neither : (j j' : ℕ) (b : Bool) → (T (among j readers) → ⊥) → (T (among j' readers) → ⊥) → T (among (cond b j j') readers) → ⊥
      neither j j' true a a' t = a t
      neither j j' false a a' t = a' t

-- who is between a reading and its swap does not read
not_reading : (c : Call) (t : Table) (q : ℕ) → T (among (t.private q).stage readers) → reads q c t ≡ false
unfolding reads
not_reading (set_up k) t q z = refl
not_reading (begin_acquisition p r) t q z = refl
not_reading (begin_release p) t q z = refl
not_reading (step p) t q z =
    no_right (eqb p q) (eqb (t.private q).stage 5)
    (ne_eqb (t.private q).stage 5 (λ e. subst (λ (k : ℕ). T (among k readers)) e z))
not_reading (take_log room) t q z = refl

-- what a call c leaves of what q has read: it has just read prev's link, or has read it before
abbrev StillAt : Call → Table → (ℕ → Shared) → ℕ → Private → Type 0
StillAt c t sh' q me' =
    T (among me'.stage readers)
    → (me'.prev ≡ (t.private q).prev)
    × (((reads q c t ≡ true) × (me'.w ≡ (t.shared (t.private q).prev).link) × (sh' (t.private q).prev ≡ t.shared (t.private q).prev))
    ⊎ (T (among (t.private q).stage readers) × (me'.w ≡ (t.private q).w)))

abbrev pub Still : Call → Table → Table → ℕ → Type 0
Still c t t' q = StillAt c t t'.shared q (t'.private q)

module _ (t : Table) (known : (p : ℕ) → (t.private p).stage ≤ last) where
  pub links_on : (c : Call) → Ongoing c → (x : ℕ) → OneOn (t.shared x).link ((after suc c t).shared x).link
  unfolding after begun_acquisition begun_release step_of stepped after_step log_taken
  links_on (set_up k) z x = absurd z
  links_on (begin_acquisition p r) z x = upd_all t.shared p _ (λ q s. OneOn (t.shared q).link s.link) (inl refl) (λ q n. inl refl) x
  links_on (begin_release p) z x = inl refl
  links_on (step p) z x =
      let y = looks_at p (t.private p) in
      upd_all t.shared y _ (λ q s. OneOn (t.shared q).link s.link) (one_on p (t.private p) (t.shared y) t.lock (t.private p).stage (known p)) (λ q n. inl refl) x
  links_on (take_log room) z x = inl refl

  -- one module's private part changes: it is for that module to say
  one_moves : (c : Call) (sh' : ℕ → Shared) (p : ℕ) (me' : Private) → StillAt c t sh' p me' → (q : ℕ) → StillAt c t sh' q (upd t.private p me' q)
  one_moves c sh' p me' here = upd_all t.private p me' (StillAt c t sh') here (λ q n z. (refl, inr (z, refl)))

  just_read : (p : ℕ) → (t.private p).stage ≡ 5 → (reads p (step p) t ≡ true) × (looks_at p (t.private p) ≡ (t.private p).prev)
  unfolding reads looks_at find rows
  just_read p e = (simp (eq-eqb p p refl, eq-eqb (t.private p).stage 5 e), ap (λ (k : ℕ). looked (find rows k).looks p (t.private p)) e)

  pub still : (c : Call) → Ongoing c → (q : ℕ) → Still c t (after suc c t) q
  unfolding after begun_acquisition begun_release step_of stepped after_step log_taken
  still (set_up k) z q = absurd z
  still (begin_acquisition p r) z q = one_moves (begin_acquisition p r) (begun_acquisition t p r).shared p _ absurd q
  still (begin_release p) z q = one_moves (begin_release p) t.shared p _ absurd q
  still (step p) z q =
      let me = t.private p in
      let y = looks_at p me in
      one_moves (step p) (after_step suc t p).shared p _
      (λ reading. let a = reads_on p me (t.shared y) t.lock me.stage (known p) refl reading in (
        a.0,
        ⊎_elim
            (λ b. let r = just_read p b.0 in
            inl (
              r.0,
              b.1 ∙ ap (λ (x : ℕ). (t.shared x).link) r.1,
              ap (λ (s : Shared). upd t.shared y s me.prev) b.2 ∙ ap (λ (f : ℕ → Shared). f me.prev) (upd_kept t.shared y),
            ))
            (λ b. inr (b.1, b.2))
            a.1,
      ))
      q
  still (take_log room) z q = λ reading. (refl, inr (reading, refl))

-- the count of the link that was read, and the changes since
abbrev pub Counts : Table → (ℕ → ℕ → ℕ) → Type 0
Counts t since =
    (q : ℕ) → T (among (t.private q).stage readers) → (t.shared (t.private q).prev).link.count ≡ (t.private q).w.count + since q (t.private q).prev

pub counts_on :
    (c : Call) (t t' : Table) (since : ℕ → ℕ → ℕ) (more : ℕ → ℕ)
    → ((x : ℕ) → (t'.shared x).link.count ≡ (t.shared x).link.count + more x)
    → ((q : ℕ) → Still c t t' q)
    → Counts t since
    → Counts t' (λ q x. cond (reads q c t) 0 (since q x + more x))
counts_on c t t' since more adds keeps counts q z =
    let a = keeps q z in
    let x = (t.private q).prev in
    subst⁻¹ (λ (y : ℕ). (t'.shared y).link.count ≡ (t'.private q).w.count + cond (reads q c t) 0 (since q y + more y)) a.0
    (⊎_elim
    (λ b. ap (λ (s : Shared). s.link.count) b.2 ∙ sym (ap (λ (l : Link). l.count) b.1) ∙ omega arith
    ∙ ap (λ (f : Bool). (t'.private q).w.count + cond f 0 (since q x + more x)) (sym b.0))
    (λ b. adds x
    ∙ ap (λ (k : ℕ). k + more x) (counts q b.0 ∙ ap (λ (l : Link). l.count + since q x) (sym b.1))
    ∙ omega arith
    ∙ ap (λ (f : Bool). (t'.private q).w.count + cond f 0 (since q x + more x)) (sym (not_reading c t q b.0)))
    a.1)
