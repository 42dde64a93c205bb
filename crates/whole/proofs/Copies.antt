-- A copy behind another one, and two stores as a copy.
-- Assumes nothing.
use Rattle.std.proofs.Common.{◌≡◌, sym, ◌∙◌, ℕ, ◌+◌, ◌≤◌, List, [], ◌∷◌, ◌++◌, length, set, add-zero, arith}
use Rattle.std.proofs.Math.Seq.{paste}
use Rattle.std.proofs.lemmas.List.Edits.{paste_none, paste_more, paste-paste}

-- a copy behind a copy, with each known by an equation
pub then_behind : (d s r : List ℕ) (at n m i : ℕ) {b b' r' : List ℕ} → length s ≡ n → length r ≡ m → at ≤ length d →
    b ≡ paste d at s n → r' ≡ r → i ≡ at + n → b' ≡ paste b i r' m → b' ≡ paste d at (s ++ r) (n + m)
then_behind d s r at n m i {b} {b'} {r'} s_long r_long fits so_far r_is place same =
    let there : paste b i r' m ≡ paste (paste d at s n) (at + n) r m = λ j. paste (so_far j) (place j) (r_is j) m in
    same ∙ there ∙ paste-paste d at s r n m (sym s_long) (sym r_long) fits

-- a copy of two elements is a store of each
pub stored_two : (d : List ℕ) (at next x y : ℕ) → next ≡ at + 1 → at + 2 ≤ length d → paste d at (x ∷ y ∷ []) 2 ≡ set (set d at x) next y
stored_two d at next x y next_is fits =
    let both : List ℕ = x ∷ y ∷ [] in
    let one : set d at x ≡ paste d at both 1 = (λ i. set (paste_none d at both i) (sym (add-zero at) i) x) ∙ paste_more d at both 0 0 (omega arith) (omega arith) in
    sym ((λ i. set (one i) (next_is i) y) ∙ paste_more d at both 1 0 (omega arith) (omega arith))
