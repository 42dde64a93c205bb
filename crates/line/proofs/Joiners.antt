-- Who has joined and not left, in the order of joining, against the plain line: the same modules, and equals in the same order.
-- Assumes nothing.
use Prim.Native.Nat.{ℕ, ◌≤◌, ◌<◌}
use mathlib.Core.Path.{◌≡◌, refl, sym, ◌∙◌, ap, subst, subst⁻¹}
use mathlib.Core.List.{List, [], ◌∷◌, ◌++◌}
use mathlib.Core.Logic.{◌⊎◌, inl, inr, ⊎_elim, ◌≢◌}
use native.Mathlib.Nat.{le_of_eq}
use native.Mathlib.Omega.{arith}
use Rattle.line.specs.Corollaries.{OneOf, Ahead, InLine, without}
use Rattle.line.specs.PlainLine.{Place, stand, join, leave, modules}
use Rattle.line.proofs.Lists.{one_append, append_one, ahead_append, one_without, without_one, ahead_without, twice}
use Rattle.line.proofs.Places.{In, Distinct, Sorted, head, behind, standing}

-- nobody in a sorted line is more urgent than its first
pub under : (y : Place) (l : List Place) → Sorted (y ∷ l) → (z : Place) → InLine z l → z.priority ≤ y.priority
under y [] s z x'' = elim x'' [ ]
under y (x ∷ l) s z (inl e) = omega (arith, ap (λ (w : Place). w.priority) e)
under y (x ∷ l) s z (inr i) = omega (arith, under x l s.1 z i)

-- who is not in the line is none of its modules
apart : (p : ℕ) (l : List Place) → (In p l → ⊥) → (q : ℕ) → OneOf q (modules l) → q ≢ p
unfolding modules
apart p [] out q x3 e = elim x3 [ ]
apart p (x ∷ l) out q (inl a) e = out (inl (sym e ∙ a))
apart p (x ∷ l) out q (inr i) e = apart p l (λ k. out (inr k)) q i e

place_in : (x : Place) (l : List Place) → InLine x l → OneOf x.module (modules l)
unfolding modules
place_in x [] x'' = elim x'' [ ]
place_in x (y ∷ l) (inl e) = inl (ap (λ (z : Place). z.module) e)
place_in x (y ∷ l) (inr i) = inr (place_in x l i)

-- m is l with x put behind everyone at least as urgent
record Joined (x : Place) (l m : List Place) : Type 0 where
  from : (q : ℕ) → OneOf q (modules m) → (q ≡ x.module) ⊎ OneOf q (modules l)
  to : (q : ℕ) → (q ≡ x.module) ⊎ OneOf q (modules l) → OneOf q (modules m)
  places : (y : Place) → InLine y m → (y ≡ x) ⊎ InLine y l
  kept : (a b : ℕ) → Ahead a b (modules l) → Ahead a b (modules m)
  after : (y : Place) → InLine y l → x.priority ≤ y.priority → Ahead y.module x.module (modules m)

module _ (x : Place) where
  here : (l : List Place) → ((y : Place) → InLine y l → y.priority < x.priority) → Joined x l (x ∷ l)
  unfolding modules
  here l less = record { from = λ q i. i; to = λ q i. i; places = λ y i. i; kept = λ a b. inr; after = λ y i h. absurd (let f = less y i in omega arith) }

  on : (y : Place) (l m : List Place) → Joined x l m → Joined x (y ∷ l) (y ∷ m)
  unfolding modules
  on y l m j =
      record {
        from = λ q. ⊎_elim (λ e. inr (inl e)) (λ i. ⊎_elim inl (λ k. inr (inr k)) (j.from q i));
        to = λ q. ⊎_elim (λ e. inr (j.to q (inl e))) (⊎_elim inl (λ i. inr (j.to q (inr i))));
        places = λ z. ⊎_elim (λ e. inr (inl e)) (λ i. ⊎_elim inl (λ k. inr (inr k)) (j.places z i));
        kept = λ a b. ⊎_elim (λ i. inl (i.0, j.to b (inr i.1))) (λ i. inr (j.kept a b i));
        after = λ z i h. ⊎_elim (λ e. inl (ap (λ (k : Place). k.module) e, j.to x.module (inl refl))) (λ k. inr (j.after z k h)) i;
      }

  joined : (l : List Place) → Sorted (behind l) → Joined x l (join x l)
  unfolding join
  joined [] s = here [] (λ y. absurd)
  joined (y ∷ l) s =
      on y l (stand x l)
      (standing x (λ l m. Sorted l → Joined x l m) (λ s. here [] (λ y. absurd)) (λ y l h ih s. on y l _ (ih s.1))
      (λ y l h s. here (y ∷ l) (λ z. ⊎_elim (λ e. omega (arith, ap (λ (w : Place). w.priority) e)) (λ i. omega (arith, under y l s z i)))) l s)

-- l is the line, s has those who have joined and not left, in the order of joining
pub record Stood (l : List Place) (s : List ℕ) : Type 0 where
  pub to : (q : ℕ) → OneOf q (modules l) → OneOf q s
  pub from : (q : ℕ) → OneOf q s → OneOf q (modules l)
  pub once : (q : ℕ) → Ahead q q s → ⊥
  pub order :
      (x y : Place) → InLine x l → InLine y l → x.priority ≡ y.priority
      → Ahead x.module y.module s → Ahead x.module y.module (modules l)

pub join_stood : (x : Place) (l : List Place) (s : List ℕ) → Sorted (behind l) → (In x.module l → ⊥) → Stood l s → Stood (join x l) (s ++ x.module ∷ [])
join_stood x l s sorted out st =
    record {
      to = λ q i. append_one p q s (⊎_elim inr (λ k. inl (st.to q k)) (j.from q i));
      from = λ q i. j.to q (⊎_elim (λ k. inr (st.from q k)) inl (one_append p q s i));
      once = λ q i. let a = ahead_append p q q s i in ⊎_elim (st.once q) (new q (st.from q a.0)) a.1;
      order = λ y z y_in z_in e i.
          let a = ahead_append p y.module z.module s i in
          let y_was : InLine y l =
          ⊎_elim (λ k. absurd (new y.module (st.from y.module a.0) (ap (λ (w : Place). w.module) k))) (λ k. k) (j.places y y_in) in
          ⊎_elim
          (λ k. subst⁻¹ (λ (w : Place). Ahead y.module w.module (modules (join x l))) k
          (j.after y y_was (le_of_eq (sym (e ∙ ap (λ (w : Place). w.priority) k)))))
          (λ k. j.kept y.module z.module
          (st.order y z y_was k e (⊎_elim (λ b. b) (λ b. absurd (new z.module (place_in z l k) b)) a.1)))
          (j.places z z_in);
    }
  where
    p : ℕ
    p = x.module

    j : Joined x l (join x l)
    j = joined x l sorted

    new : (q : ℕ) → OneOf q (modules l) → q ≢ p
    new = apart p l out

pub leave_stood : (l : List Place) (s : List ℕ) → l ≢ [] → Distinct l → Stood l s → Stood (leave l) (without (head l) s)
unfolding leave modules
leave_stood [] s some d st = absurd (some refl)
leave_stood (x ∷ l) s some d st =
    record {
      to = λ q i. without_one p q (other q i) s (st.to q (inr i));
      from = λ q i. ⊎_elim (λ e. absurd (st.once p (twice p s (subst (λ (k : ℕ). OneOf k (without p s)) e i)))) (λ k. k) (st.from q (one_without p q s i));
      once = λ q i. st.once q (ahead_without p q q s i);
      order = λ y z y_in z_in e i.
          ⊎_elim (λ a. absurd (other y.module (place_in y l y_in) a.0)) (λ a. a)
          (st.order y z (inr y_in) (inr z_in) e (ahead_without p y.module z.module s i));
    }
  where
    p : ℕ
    p = x.module

    other : (q : ℕ) → OneOf q (modules l) → q ≢ p
    other = apart p l d.0

pub none_stood : Stood [] []
unfolding modules
none_stood = record { to = λ q i. i; from = λ q i. i; once = λ q i. i; order = λ x y i. absurd i }
