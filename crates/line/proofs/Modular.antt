-- Demand 3 of the machine that counts modulo m: while every swap comes fewer than m changes after its reading, it is the machine whose counts never wrap,
-- with its counts reduced. Assumes nothing.
use Prim.Native.Nat.{ℕ, suc, ◌+◌, ◌%◌, ◌≤◌, ◌<◌}
use mathlib.Core.Path.{◌≡◌, refl, sym, ◌∙◌, ap, subst, subst⁻¹, subst₃, fun_ext, transport⁻¹}
use mathlib.Core.Bool.{Bool, cond}
use mathlib.Core.List.{List, [], ◌∷◌}
use mathlib.Core.Logic.{inl, inr, ⊎_elim}
use lib.Dec.{T}
use native.Mathlib.Omega.{arith}
use native.Mathlib.Numerals.{add-one}
use Rattle.laws.proofs.Cases.{test}
use Rattle.laws.proofs.Only.{among}
use Rattle.link.proofs.Counting.{told_apart}
use Rattle.link.proofs.Comparing.{same_true, same_self, same_not}
use Rattle.link.specs.Count.{next}
use Rattle.link.specs.Operations.{same}
use Rattle.link.specs.declared.Link.{Link}
use Rattle.stage.proofs.Update.{upd_all}
use Rattle.stage.specs.Calls.{Call, set_up, begin_acquisition, begin_release, step, take_log, after}
use Rattle.stage.specs.Rows.{last}
use Rattle.stage.specs.Table.{Table, idle, fresh_table}
use Rattle.line.specs.Demand3.{changed, reads, changes_since, InTime, Premise, Holds, Demand3}
use Rattle.line.specs.History.{Desk, Course, Ongoing, course, takes, state, table, transcript, taken}
use Rattle.line.specs.Mixed.{unraised}
use Rattle.line.proofs.Counted.{OneOn, readers, links_on, still, Counts, counts_on}
use Rattle.line.proofs.Desks.{called_table, mixed_tables, by_desk}
use Rattle.line.proofs.Facts.{seeks_at}
use Rattle.line.proofs.Holding.{kept_holds}
use Rattle.line.proofs.Ideal.{ideal_kept}
use Rattle.line.proofs.Invariant.{Read}
use Rattle.line.proofs.OneFound.{found_wraps}
use Rattle.line.proofs.Wrap.{wrap_link}
use Rattle.line.proofs.WrapCalls.{wrap, Fair, fresh_wraps, desk_wraps}
use Rattle.stage.specs.Answers.{Reply}

module _ (m : ℕ) (two : 1 < m) where
  -- a reduced link tells one change from none
  one_told : (l l' : Link) → OneOn l l' → l'.count ≡ l.count + cond (same (wrap_link m l) (wrap_link m l')) 0 1
  one_told l l' (inl e) =
      ap (λ (k : Link). k.count) e ∙ omega arith
      ∙ ap (λ (b : Bool). l.count + cond b 0 1) (sym (ap (λ (k : Link). same (wrap_link m l) (wrap_link m k)) e ∙ same_self (wrap_link m l)))
  one_told l l' (inr e) =
      e ∙ sym (add-one l.count)
      ∙ ap (λ (b : Bool). l.count + cond b 0 1)
      (sym (same_not (wrap_link m l) (wrap_link m l')
      (λ z. let one = told_apart m l.count 1 two (ap (λ (k : ℕ). k % m) (add-one l.count ∙ sym e) ∙ sym z) in omega arith)))

  -- a link that was read fewer than m changes ago compares reduced as it compares
  alike : (w l : Link) (d : ℕ) → Read w l → l.count ≡ w.count + d → d < m → same (wrap_link m l) (wrap_link m w) ≡ same l w
  alike w l d read count few =
      ⊎_elim (λ e. equal_links (same_true l w e))
      (λ no_l. ⊎_elim
      (λ e. let z = told_apart m w.count d few (ap (λ (k : ℕ). k % m) (sym count) ∙ ap (λ (k : Link). k.count) (same_true (wrap_link m l) (wrap_link m w) e)) in
      equal_links (read.2 (omega arith)))
      (λ no_w. no_w ∙ sym no_l)
      (test (same (wrap_link m l) (wrap_link m w))))
      (test (same l w))
    where
      equal_links : l ≡ w → same (wrap_link m l) (wrap_link m w) ≡ same l w
      equal_links e =
          ap (λ (k : Link). same (wrap_link m k) (wrap_link m w)) e ∙ same_self (wrap_link m w)
          ∙ sym (ap (λ (k : Link). same k w) e ∙ same_self w)

  reads_wraps : (q : ℕ) (c : Call) (t : Table) → reads q c (wrap m t) ≡ reads q c t
  unfolding reads
  reads_wraps q (set_up k) t = refl
  reads_wraps q (begin_acquisition p r) t = refl
  reads_wraps q (begin_release p) t = refl
  reads_wraps q (step p) t = refl
  reads_wraps q (take_log room) t = refl

  -- what demand 3 says, it says without the counts
  holds_wraps : {t : Table} {o : Course} {l : List ℕ} → Holds t o l → Holds (wrap m t) o l
  holds_wraps {t} h =
      record {
        found = transport⁻¹ (found_wraps t m _) h.found;
        alone = h.alone;
        first = h.first;
        log = h.log;
      }

  fresh_counts : (k : ℕ) (since : ℕ → ℕ → ℕ) → Counts (fresh_table k) since
  unfolding fresh_table idle
  fresh_counts k since q z = absurd z

  -- the changes since a reading, one call on, as the reduced tables tell them
  abbrev told : Call → Table → (ℕ → ℕ → ℕ) → Table → ℕ → ℕ → ℕ
  told c t since t' q x = cond (reads q c t) 0 (since q x + cond (same (wrap_link m (t.shared x).link) (wrap_link m (t'.shared x).link)) 0 1)

  module _ (t : Table) (since : ℕ → ℕ → ℕ) (below : (p : ℕ) → (t.private p).stage ≤ last) (counts : Counts t since) where
    ongoing : (c : Call) → Ongoing c → Counts (after suc c t) (told c t since (after suc c t))
    ongoing c on =
        counts_on c t (after suc c t) since _ (λ x. one_told (t.shared x).link ((after suc c t).shared x).link (links_on t below c on x)) (still t below c on) counts

    accepted : (c : Call) → Counts (after suc c t) (told c t since (after suc c t))
    unfolding after
    accepted (set_up k) = fresh_counts k (told (set_up k) t since (fresh_table k))
    accepted (begin_acquisition p r) = ongoing (begin_acquisition p r) tt
    accepted (begin_release p) = ongoing (begin_release p) tt
    accepted (step p) = ongoing (step p) tt
    accepted (take_log room) = ongoing (take_log room) tt

    counting : (fits : ℕ → Bool) (before : Bool) (c : Call) → let t' = (called_table before suc fits c t).1 in Counts t' (told c t since t')
    unfolding unraised
    counting fits before c =
        by_desk suc fits c t (λ (r : Reply × Table). Counts r.1 (told c t since r.1))
        (λ k. counts_on c t t since _ (λ x. one_told (t.shared x).link (t.shared x).link (inl refl)) (λ q z. (refl, inr (z, refl))) counts)
        (λ _. accepted c)
        (λ p r t' e z. upd_all t'.private p _
        (λ q me. T (among me.stage readers) → (t'.shared me.prev).link.count ≡ me.w.count + told c t since t' q me.prev) absurd (λ q n. z q))
        before

  module _ (fits : ℕ → Bool) (before : ℕ → Bool) (n : ℕ) where
    abbrev Real : Desk
    Real = mixed_tables before (next m) fits

    abbrev Ideal : Desk
    Ideal = mixed_tables before suc fits

    abbrev fresh : ℕ × Table
    fresh = (0, fresh_table n)

    abbrev ideal : List Call → Table
    ideal = table Ideal fresh

    abbrev since : List Call → ℕ → ℕ → ℕ
    since cs q x = changes_since Real fresh q x cs

    -- the real machine is the ideal one, reduced; it says the same, and has counted right
    pub record Follows (cs : List Call) : Type 0 where
      pub same_state : state Real fresh cs ≡ ((state Ideal fresh cs).0, wrap m (ideal cs))
      pub heard : transcript Real fresh cs ≡ transcript Ideal fresh cs
      pub same_taken : taken Real fresh cs ≡ taken Ideal fresh cs
      pub counts : Counts (ideal cs) (since cs)

    known : (cs : List Call) (p : ℕ) → ((ideal cs).private p).stage ≤ last
    known cs p = ((ideal_kept fits before n cs).inv.stands p).known

    fair : (c : Call) (cs : List Call) → Follows cs → InTime Real fresh m c cs → Fair m c (ideal cs)
    unfolding InTime
    fair (set_up k) cs f z = tt
    fair (begin_acquisition p r) cs f z = tt
    fair (begin_release p) cs f z = tt
    fair (step p) cs f z = λ e.
        let t = ideal cs in
        let few = subst (λ (s : ℕ × Table). (s.1.private p).stage ≡ 9 → since cs p (s.1.private p).prev < m) f.same_state z e in
        alike (t.private p).w (t.shared (t.private p).prev).link _ ((seeks_at (ideal_kept fits before n cs).inv p 9 e).knows tt).0
        (f.counts p (subst⁻¹ (λ (k : ℕ). T (among k readers)) e tt)) few
    fair (take_log room) cs f z = tt

    pub follows : (cs : List Call) → Premise Real fresh m cs → Follows cs
    unfolding Premise state transcript taken changes_since changed
    follows [] z = record { same_state = λ i. (0, fresh_wraps m n i); heard = refl; same_taken = refl; counts = fresh_counts n (since []) }
    follows (c ∷ cs) z =
        let f = follows cs z.1 in
        let t = ideal cs in
        let s = f.same_state in
        let r = called_table (before (state Ideal fresh cs).0) suc fits c t in
        let e : called_table (before (state Real fresh cs).0) (next m) fits c (table Real fresh cs) ≡ (r.0, wrap m r.1) =
        ap (λ (k : ℕ × Table). called_table (before k.0) (next m) fits c k.1) s
        ∙ desk_wraps m fits t (known cs) (before (state Ideal fresh cs).0) c (fair c cs f z.0) in
        record {
          same_state = λ i. (suc (s i).0, (e i).1);
          heard = λ i. (c, (e i).0) ∷ f.heard i;
          same_taken = λ i. takes c (e i).0 (s i).1.log (f.same_taken i);
          counts =
              subst⁻¹ (λ (k : ℕ → ℕ → ℕ). Counts r.1 k)
              (fun_ext (λ q. fun_ext (λ x.
              ap (λ (b : Bool). cond b 0 (since cs q x + changed (table Real fresh cs) (table Real fresh (c ∷ cs)) x))
              (ap (λ (k : ℕ × Table). reads q c k.1) s ∙ reads_wraps q c t)
              ∙ (λ i. cond (reads q c t) 0 (since cs q x + changed (s i).1 (e i).1 x)))))
              (counting t (since cs) (known cs) f.counts fits (before (state Ideal fresh cs).0) c);
        }

    pub modular : Demand3 Real fresh m
    modular cs z =
        let f = follows cs z in
        subst₃ Holds (sym (ap (λ (s : ℕ × Table). s.1) f.same_state)) (sym (ap course f.heard)) (sym f.same_taken)
        (holds_wraps (kept_holds (ideal_kept fits before n cs)))
