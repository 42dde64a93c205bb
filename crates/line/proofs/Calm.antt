-- Whoever steps, what a seeker has read and tested stays true: each link is unchanged or its count is higher, and what is still as it was read belongs to
-- a record in the line, whose priority nobody lowers. Assumes nothing.
use Prim.Native.Nat.{ℕ, ◌≤◌, ◌<◌}
use mathlib.Core.Path.{◌≡◌, sym, ◌∙◌, ap, subst}
use mathlib.Core.List.{List}
use mathlib.Core.Logic.{◌⊎◌, inl, inr, ⊎_elim}
use native.Mathlib.Omega.{arith}
use Rattle.laws.proofs.Cases.{equal}
use Rattle.link.specs.declared.Link.{Link}
use Rattle.stage.specs.declared.Private.{Private}
use Rattle.stage.specs.declared.Shared.{Shared}
use Rattle.line.specs.PlainLine.{Place}
use Rattle.line.proofs.Invariant.{Read, Above, Below, Knows, Seeks, Urgent, Inv}
use Rattle.line.proofs.Facts.{member_seeks}
use Rattle.line.proofs.Places.{In, All, behind, all_map, chain_behind}

abbrev pub Onward : Link → Link → Type 0
Onward l l' = (l' ≡ l) ⊎ (l.count < l'.count)

-- a change of the shared parts that a line bears
pub record Calm (l : List Place) (sh sh' : ℕ → Shared) : Type 0 where
  pub links : (q : ℕ) → Onward (sh q).link (sh' q).link
  pub raised : (q : ℕ) → In q l → (sh q).priority ≤ (sh' q).priority
  pub kept : (q : ℕ) → In q (behind l) → (sh' q).priority ≡ (sh q).priority

read_on : (w l l' : Link) → Onward l l' → Read w l → Read w l'
read_on w l l' (inl e) r = (r.0, subst (λ (k : Link). w.count ≤ k.count) (sym e) r.1, λ c. e ∙ r.2 (ap (λ (k : Link). k.count) (sym e) ∙ c))
read_on w l l' (inr more) r = (r.0, omega arith, λ c. absurd (omega arith))

-- what is now as it was read was so before
as_read : (w l l' : Link) → Onward l l' → Read w l → l' ≡ w → l ≡ w
as_read w l l' (inl e) r same = sym e ∙ same
as_read w l l' (inr more) r same = let c : l'.count ≡ w.count = ap (λ (k : Link). k.count) same in absurd (omega arith)

module _ {g : ℕ → ℕ} {private : ℕ → Private} {sh : ℕ → Shared} {lock : ℕ} {l : List Place} {h : ℕ} (i : Inv g private sh lock l h)
    (sh' : ℕ → Shared) (calm : Calm l sh sh') where
  pub knows_on : (k : ℕ) (me : Private) → Knows sh k me → Knows sh' k me
  knows_on k me a t = (
    read_on me.w _ _ (calm.links me.prev) (a t).0,
    (λ t'. above_on (a t).0 ((a t).1 t')),
    (λ t'. below_on (a t).0 ((a t).2 t')),
  )
    where
      in_l : Read me.w (sh me.prev).link → (sh me.prev).link ≡ me.w → In me.prev l
      in_l r e = i.opens me.prev (ap (λ (k : Link). k.mark) e ∙ r.0)

      above_on : Read me.w (sh me.prev).link → Above sh me → Above sh' me
      above_on r above same =
          let e = as_read me.w _ _ (calm.links me.prev) r same in
          let a = above e in
          let b = calm.raised me.prev (in_l r e) in
          omega arith

      below_on : Read me.w (sh me.prev).link → Below sh me → Below sh' me
      below_on r below same =
          let e = as_read me.w _ _ (calm.links me.prev) r same in
          ⊎_elim inl
          (λ n. ⊎_elim inl (λ less. inr (subst (λ (z : ℕ). z < me.own) (sym (calm.kept me.w.pointer (next e n r))) less)) (below e))
          (equal me.w.pointer 0)
        where
          next : (sh me.prev).link ≡ me.w → (me.w.pointer ≡ 0 → ⊥) → Read me.w (sh me.prev).link → In me.w.pointer (behind l)
          next e n r =
              subst (λ (z : ℕ). In z (behind l)) (ap (λ (k : Link). k.pointer) e)
              (chain_behind (λ q. (sh q).link.pointer) l i.chain me.prev (in_l r e) (λ z. n (ap (λ (k : Link). k.pointer) (sym e) ∙ z)))

  -- a module keeps what it has read and tested, if its own record is as it was or it is in the line
  pub seeks_on :
      (q : ℕ)
      → (((sh' q).priority ≡ (sh q).priority) × ((sh' q).locked ≡ (sh q).locked) × ((sh' q).link.pointer ≡ (sh q).link.pointer)) ⊎ In q l
      → Seeks g sh' q (private q).stage (private q) (sh' q)
  seeks_on q (inr into) = member_seeks i sh' q into
  seeks_on q (inl own) =
      let s = i.seeks q in
      record {
        given = λ t. (own.0 ∙ (s.given t).0, (s.given t).1);
        nil = λ t. own.2 ∙ s.nil t;
        locked = λ t. own.1 ∙ s.locked t;
        copied = λ t. own.2 ∙ s.copied t;
        knows = knows_on (private q).stage (private q) s.knows;
      }

  pub urgent_on : All (Urgent sh') (behind l)
  urgent_on = all_map (Urgent sh) (Urgent sh') (behind l) (λ x into e. calm.kept x.module into ∙ e) i.urgent
