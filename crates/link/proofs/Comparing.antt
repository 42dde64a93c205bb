-- What the comparison of a swap says. Assumes nothing.
use Rattle.std.proofs.Common.{◌≡◌, true, false, ◌&&◌, eqb, refl, eq-eqb, ne_eqb, eqb-true}
use Rattle.laws.proofs.Cases.{both_hold}
use Rattle.laws.proofs.Said.{no_right}
use Rattle.link.specs.Operations.{same}
use Rattle.link.specs.declared.Link.{Link}

-- links whose three parts are equal are one
pub same_true : (a b : Link) → same a b ≡ true → a ≡ b
unfolding same
same_true a b e =
    let f = both_hold (eqb a.pointer b.pointer && eqb a.mark b.mark) (eqb a.count b.count) e in
    let g = both_hold (eqb a.pointer b.pointer) (eqb a.mark b.mark) f.0 in
    let p = eqb-true a.pointer b.pointer g.0 in
    let m = eqb-true a.mark b.mark g.1 in
    let c = eqb-true a.count b.count f.1 in
    λ i. record { pointer = p i; mark = m i; count = c i }

pub same_self : (a : Link) → same a a ≡ true
unfolding same
same_self a = simp (eq-eqb a.pointer a.pointer refl, eq-eqb a.mark a.mark refl, eq-eqb a.count a.count refl)

pub same_not : (a b : Link) → (a.count ≡ b.count → ⊥) → same a b ≡ false
unfolding same
same_not a b other = no_right (eqb a.pointer b.pointer && eqb a.mark b.mark) (eqb a.count b.count) (ne_eqb a.count b.count other)
