-- Counts modulo m tell fewer than m changes apart, and no more. Assumes nothing.
use Rattle.std.proofs.Common.{◌≡◌, ℕ, zero, suc, ◌+◌, ◌-◌, ◌%◌, ◌<◌, sym, ap, ◌∙◌, ⊎_elim, mod-lt, mod-eq_of_lt, arith}
use native.Mathlib.Nat.{mod-eq-sub-mod, mod-add-mod, add-mod_right}
use Rattle.laws.proofs.Cases.{below}
use Rattle.link.specs.Count.{next, changes, Another, TheSame}

-- d changes add d, modulo m
adds : (m d c : ℕ) → c < m → changes (next m) d c ≡ (c + d) % m
unfolding changes
adds m zero c h = sym (mod-eq_of_lt (omega arith)) ∙ ap (λ (x : ℕ). x % m) (omega arith)
adds m (suc d) c h =
    ap (λ (x : ℕ). (x + 1) % m) (adds m d c h) ∙ mod-add-mod (c + d) m 1 ∙ ap (λ (x : ℕ). x % m) (omega arith)

-- two counts that are fewer than m changes apart read the same only where they are the same
pub told_apart : (m a d : ℕ) → d < m → (a + d) % m ≡ a % m → d ≡ 0
told_apart m a d h e =
    let r = a % m in
    let small : r < m = mod-lt a (omega arith) in
    let same : (r + d) % m ≡ r = mod-add-mod a m d ∙ e in
    ⊎_elim
    (λ less. let z : r + d ≡ r = sym (mod-eq_of_lt less) ∙ same in omega arith)
    (λ more. let z : r + d - m ≡ r = sym (mod-eq_of_lt (omega arith)) ∙ sym (mod-eq-sub-mod more) ∙ same in omega arith)
    (below (r + d) m)

pub another : (m : ℕ) → Another m
another m c d h pos few e =
    let z : d ≡ 0 = told_apart m c d few (sym (adds m d c h) ∙ e ∙ sym (mod-eq_of_lt h)) in
    omega arith

pub the_same : (m : ℕ) → TheSame m
the_same m c h = adds m m c h ∙ add-mod_right c m ∙ mod-eq_of_lt h
