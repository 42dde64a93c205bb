-- Turns counted while a step of a module is waited for: every accepted turn serves it, or brings the marker closer to it. Assumes nothing.
use Prim.Native.Nat.{ℕ, suc, ◌+◌, ◌≤◌, ◌<◌}
use mathlib.Core.Path.{◌≡◌, refl, sym, ◌∙◌, ap, subst, subst⁻¹, subst₂}
use mathlib.Core.Bool.{true, false, true≢false}
use mathlib.Core.List.{List, ◌∷◌}
use mathlib.Core.Logic.{◌⊎◌, inl, inr, ⊎_elim, ◌≢◌}
use lib.ListN.{length}
use borrow.Author.Tests.{eqb-true, eq-eqb}
use native.Mathlib.Omega.{arith}
use Rattle.stage.proofs.Around.{ahead, ahead_most, ahead_other}
use Rattle.stage.specs.Calls.{Call, step, rests}
use Rattle.stage.specs.declared.Answer.{Answer}
use Rattle.layout.specs.Layout.{read}
use Rattle.image.specs.Call.{reply}
use Rattle.line.specs.Corollaries.{step_in, steps_now}
use Rattle.claims.proofs.Turns.{Serves, serves_closer}
use Rattle.claims.specs.Turns.{Past}
use Rattle.stage.specs.Answers.{Reply}
use Rattle.std.specs.Prelude.{Ok}

-- one call, c, which said r on the image b: by itself, or as an accepted turn
pub record Turned (b : List ℕ) (c : Call) (r : Reply) (x x' : Past) (z : ℕ) : Type 0 where
  pub is_step : steps_now z (step_in c r) ≡ true
  pub alone : (a : ℕ) → steps_now a (step_in c r) ≡ true → z ≡ a
  pub serves : Serves b x.marker z
  pub marked : x'.marker ≡ z
  pub counted : length x'.served ≡ suc (length x.served)

abbrev pub How : List ℕ → Call → Reply → Past → Past → Type 0
How b c r x x' = ((x'.marker ≡ x.marker) × (length x'.served ≡ length x.served)) ⊎ ((z : ℕ) × Turned b c r x x' z)

-- an accepted turn of q
pub turned : {b : List ℕ} (x : Past) (q : ℕ) → Serves b x.marker q → (a : Answer) → reply (step q) b ≡ Ok a
    → Turned b (step q) (reply (step q) b) x (record { calls = step q ∷ x.calls; marker = q; served = q ∷ x.served }) q
unfolding step_in steps_now
turned x q serves a says =
    record {
      is_step = ap (λ (r : Reply). steps_now q (step_in (step q) r)) says ∙ eq-eqb q q refl;
      alone = λ z e. eqb-true q z (sym (ap (λ (r : Reply). steps_now z (step_in (step q) r)) says) ∙ e);
      serves = serves;
      marked = refl;
      counted = refl;
    }

-- u accepted turns are fewer than k, even with as many more as will be asked before a where the marker is m, and e more
module _ (n : ℕ) where
  abbrev pub Within : (e k a u m : ℕ) → Type 0
  Within e k a u m = (u + e < k) × (1 ≤ m → m ≤ n → u + ahead n m a + e < k)

  abbrev pub WithinPast : (e k a : ℕ) → Past → Type 0
  WithinPast e k a x = Within e k a (length x.served) x.marker

  module _ (b : List ℕ) (c : Call) (r : Reply) (x x' : Past) (same : (read b).n ≡ n) (a : ℕ) (low : 1 ≤ a) (high : a ≤ n) where
    abbrev u : ℕ
    u = length x.served

    -- a step of another
    pub stays_within : How b c r x x' → (e k : ℕ) → rests (read b) a ≡ false → steps_now a (step_in c r) ≡ false → WithinPast e k a x → WithinPast e k a x'
    stays_within (inl h) e k can other w = subst₂ (Within e k a) (sym h.1) (sym h.0) w
    stays_within (inr h) e k can other w =
        let z = h.0 in
        let t = h.1 in
        let old = w.1 t.serves.marker_low (subst (λ (j : ℕ). x.marker ≤ j) same t.serves.marker_high) in
        ⊎_elim (λ is. absurd (true≢false (sym t.is_step ∙ ap (λ (j : ℕ). steps_now j (step_in c r)) (sym is) ∙ other)))
        (λ closer.
        let less : ahead n z a < ahead n x.marker a = subst (λ (j : ℕ). ahead j z a < ahead j x.marker a) same closer in
        subst₂ (Within e k a) (sym t.counted) (sym t.marked) (omega arith, λ _ _. omega arith))
        (serves_closer b x.marker z t.serves a low (subst⁻¹ (λ (j : ℕ). a ≤ j) same high) can)

    -- any step: n more
    pub steps_within : How b c r x x' → (e k : ℕ) → u + e < k → WithinPast e (k + n) a x'
    steps_within (inl h) e k few =
        subst₂ (Within e (k + n) a) (sym h.1) (sym h.0) (omega arith, λ _ high_m. let most = ahead_most n x.marker a high_m low high in omega arith)
    steps_within (inr h) e k few =
        let t = h.1 in
        let most = ahead_most n h.0 a (subst (λ (j : ℕ). h.0 ≤ j) same t.serves.high) low high in
        subst₂ (Within e (k + n) a) (sym t.counted) (sym t.marked) (omega arith, λ _ _. omega arith)

    -- a step of p, after which one of another is waited for
    pub other_within : How b c r x x' → (k p : ℕ) → a ≢ p → steps_now p (step_in c r) ≡ true → u < k → WithinPast 1 (k + n) a x'
    other_within (inl h) k p other steps few =
        subst₂ (Within 1 (k + n) a) (sym h.1) (sym h.0) (omega arith, λ _ high_m. let most = ahead_most n x.marker a high_m low high in omega arith)
    other_within (inr h) k p other steps few =
        let t = h.1 in
        let most =
        ahead_other n h.0 a t.serves.low (subst (λ (j : ℕ). h.0 ≤ j) same t.serves.high) low high (λ e. other (e ∙ t.alone p steps)) in
        subst₂ (Within 1 (k + n) a) (sym t.counted) (sym t.marked) (omega arith, λ _ _. omega arith)
