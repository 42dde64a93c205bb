-- The invariant says what demand 3 says. Assumes nothing.
use Prim.Native.Nat.{ℕ}
use mathlib.Core.Path.{◌≡◌, refl, sym, ◌∙◌, ap, subst⁻¹}
use mathlib.Core.Bool.{Bool, true, false, cond, ◌||◌}
use mathlib.Core.List.{List, [], ◌∷◌, ◌++◌, append-nil}
use mathlib.Core.Logic.{◌≢◌, inl, inr, ⊎_elim}
use lib.Dec.{T, eqb}
use Rattle.laws.proofs.Cases.{choose, test}
use Rattle.laws.proofs.Only.{among, disjoint, either}
use Rattle.stage.specs.Table.{Table}
use Rattle.line.specs.Demand3.{Leads, left_off, Found, Inside, Names, Holds}
use Rattle.line.specs.History.{Course}
use Rattle.line.specs.PlainLine.{Place, modules}
use Rattle.line.proofs.Facts.{kinds, stands_at, holder_at, member, not_nil}
use Rattle.line.proofs.Ideal.{Kept}
use Rattle.line.proofs.Invariant.{Inv, outs, leavers, members}
use Rattle.line.proofs.Logs.{pending, insides}
use Rattle.line.proofs.Places.{In, head, Chain}

-- the pointers lead along a chain, and then to nil
leads : (t : Table) (l : List Place) → Chain (λ q. (t.shared q).link.pointer) l → ((q : ℕ) → In q l → q ≢ 0) → Leads t (head l) (modules l)
unfolding Leads modules
leads t [] c some = refl
leads t (x ∷ l) c some = (refl, some x.module (inl refl), subst⁻¹ (λ (q : ℕ). Leads t q (modules l)) c.0 (leads t l c.1 (λ q i. some q (inr i))))

-- "at stage 15 or 16", as the definition of found has it and as the invariant has it
one_of_two : (a b : Bool) → T (a || (b || false)) → (a || b) ≡ true
one_of_two true b t = refl
one_of_two false false t = elim t [ ]
one_of_two false true t = refl

two_of_one : (a b : Bool) → (a || b) ≡ true → T (a || (b || false))
two_of_one true b e = tt
two_of_one false true e = tt
two_of_one false false e = subst⁻¹ T e tt

-- who is first in the line is not at stage 15 or 16, so nobody is left off
leaves_none : (t : Table) (l : List Place) → ((q : ℕ) → In q l → T (among (t.private q).stage members)) → left_off t (modules l) ≡ modules l
unfolding left_off modules
leaves_none t [] m = refl
leaves_none t (x ∷ l) m =
    let k = (t.private x.module).stage in
    choose (λ (z : List ℕ). z ≡ x.module ∷ modules l) (eqb k 15 || eqb k 16)
    (λ e. absurd (disjoint members (15 ∷ 16 ∷ []) tt k (m x.module (inl refl)) (two_of_one (eqb k 15) (eqb k 16) e)))
    (λ e. refl)

module _ {o : Course} {taken : List ℕ} {t : Table} (kept : Kept o taken t) where
  abbrev i : Inv o.given t.private t.shared t.lock o.line kept.h
  i = kept.inv

  all : Leads t (head o.line) (modules o.line)
  all = leads t o.line i.chain (not_nil i)

  -- the lock word is the line's first: it is met, and nobody is left off
  from_first : t.lock ≡ head o.line → Found t (modules o.line)
  from_first e = (modules o.line, subst⁻¹ (λ (q : ℕ). Leads t q (modules o.line)) e all, leaves_none t o.line (member i))

  found : Found t (modules o.line)
  unfolding Leads left_off
  found =
      let h = kept.h in
      let k = (t.private h).stage in
      ⊎_elim (λ z. let f = i.holder.free z in from_first (f.1 ∙ sym (ap head f.0)))
      (⊎_elim
      (λ z. let f = i.holder.first z in from_first (f.0 ∙ sym f.2))
      (λ z. ⊎_elim
      (λ c. let f = i.holder.closing c in (
        h ∷ modules o.line,
        (f.0, some z, subst⁻¹ (λ (q : ℕ). Leads t q (modules o.line)) f.1 all),
        ap (λ (b : Bool). cond b (modules o.line) (h ∷ modules o.line)) (one_of_two (eqb k 15) (eqb k 16) c),
      ))
      (λ c. from_first (i.holder.handing c).0)
      (either (15 ∷ 16 ∷ []) (17 ∷ 18 ∷ []) k z)))
      (kinds k (i.stands h).known)
    where
      some : T (among (t.private kept.h).stage leavers) → kept.h ≢ 0
      some z e = disjoint leavers outs tt (t.private kept.h).stage z (subst⁻¹ (λ (k : ℕ). T (among k outs)) (ap (λ (q : ℕ). (t.private q).stage) e ∙ i.nobody) tt)

  inside_holds : (p : ℕ) → Inside t p → p ≡ kept.h
  inside_holds p = ⊎_elim (λ e. (stands_at i p 13 e).holds tt) (λ e. (stands_at i p 14 e).holds tt)

  first : (p : ℕ) → Inside t p → (others : List ℕ) × (modules o.line ≡ p ∷ others)
  unfolding modules
  first p inside =
      let f = ⊎_elim (λ e. (holder_at i p 13 e (inside_holds p inside)).first tt) (λ e. (holder_at i p 14 e (inside_holds p inside)).first tt) inside in
      go o.line f.1 f.2
    where
      go : (l : List Place) → l ≢ [] → head l ≡ p → (others : List ℕ) × (modules l ≡ p ∷ others)
      go [] some e = absurd (some refl)
      go (x ∷ l) some e = (modules l, ap (λ (q : ℕ). q ∷ modules l) e)

  log : Names (taken ++ t.log) o.firsts
  log = go o.line kept.logs
    where
      go : (l : List Place) → o.firsts ≡ (taken ++ t.log) ++ pending t.private l → Names (taken ++ t.log) o.firsts
      go [] e = inl (sym (e ∙ append-nil (taken ++ t.log)))
      go (x ∷ l) e =
          ⊎_elim
          (λ b. inl (sym (e ∙ ap (λ (z : Bool). (taken ++ t.log) ++ cond z [] (x.module ∷ [])) b ∙ append-nil (taken ++ t.log))))
          (λ b. inr (x.module, sym (e ∙ ap (λ (z : Bool). (taken ++ t.log) ++ cond z [] (x.module ∷ [])) b)))
          (test (among (t.private x.module).stage insides))

  pub kept_holds : Holds t o taken
  kept_holds = record { found = found; alone = λ p q a b. inside_holds p a ∙ sym (inside_holds q b); first = first; log = log }
