-- Which refusal is given, and what a call does where one is and where none is.
-- Assumes nothing.
use mathlib.Core.Path.{◌≡◌, refl, sym, ◌∙◌, ap, subst⁻¹}
use mathlib.Core.Bool.{Bool, true, false, not, cond}
use mathlib.Core.List.{List, [], ◌∷◌, ◌++◌}
use Prim.Native.Nat.{ℕ, ◌≤◌, ◌<◌}
use borrow.Author.Tests.{le-leb, lt-leb}
use lib.Dec.{leb}
use Rattle.std.proofs.Common.{◌⊎◌, inl, inr}
use Rattle.laws.proofs.Said.{no_right}
use Rattle.link.specs.Count.{next, size}
use Rattle.stage.specs.Calls.{Call, within, refusing, answered, after}
use Rattle.layout.specs.Layout.{modules, read, put}
use Rattle.soundness.specs.SoundImage.{sound}
use Rattle.image.specs.Call.{refused, reply, image, Does}
use Rattle.image.specs.Inside.{given, unfound}
use Rattle.stage.specs.Answers.{Reply}
use Rattle.stage.specs.declared.Refusal.{Refusal}
use Rattle.stage.specs.declared.Refusal.TheVariants.{Unsound, NoSuchModule}
use Rattle.std.specs.Prelude.{Option, None, Some, Ok, Err}

-- all that a list of refusals says is the number given
module _ {A : Type 0} (no_k : Refusal → A) (yes_a : A) where
  abbrev pub by : Option Refusal → A
  by None = yes_a
  by (Some k) = no_k k

  by_given : (es : List (Bool × Refusal)) → refusing es no_k yes_a ≡ by (given es)
  unfolding refusing given
  by_given [] = refl
  by_given (e ∷ es) = here e.0 (by_given es)
    where
      here : (t : Bool) → refusing es no_k yes_a ≡ by (given es) → cond t (no_k e.1) (refusing es no_k yes_a) ≡ by (cond t (Some e.1) (given es))
      here true rest = refl
      here false rest = rest

  pub chosen : (es : List (Bool × Refusal)) (o : Option Refusal) → given es ≡ o → refusing es no_k yes_a ≡ by o
  chosen es o g = by_given es ∙ ap by g

-- what a call does where it is refused, and where it is not
module _ (c : Call) (b : List ℕ) where
  pub refuses : (k : Refusal) → given (refused c b) ≡ Some k → Does c b (Err k) b
  unfolding reply image
  refuses k g = record { says = sym (chosen Err _ (refused c b) (Some k) g); leaves = sym (chosen (λ j. b) _ (refused c b) (Some k) g) }

  pub accepts : {r : Reply} {b' : List ℕ} → given (refused c b) ≡ None → r ≡ Ok (answered (next size) c (read b)) → b' ≡ put (after (next size) c (read b)) b → Does c b r b'
  unfolding reply image
  accepts g says leaves = record { says = says ∙ sym (chosen Err _ (refused c b) None g); leaves = leaves ∙ sym (chosen (λ j. b) _ (refused c b) None g) }

-- a number outside a range, and inside it
module _ (a b x : ℕ) where
  too_low : x < a → not (within a b x) ≡ true
  too_low h = simp (lt-leb a x h)

  too_high : b < x → not (within a b x) ≡ true
  too_high h = ap not (no_right (leb a x) (leb x b) (lt-leb x b h))

  pub outside : (x < a) ⊎ (b < x) → not (within a b x) ≡ true
  outside o = elim o [ inl low ↦ too_low low | inr high ↦ too_high high ]

  pub in_range : a ≤ x → x ≤ b → not (within a b x) ≡ false
  in_range low high = simp (le-leb a x low, le-leb x b high)

-- what everything that names a module asks
module _ (b : List ℕ) (p : ℕ) (unknown : Refusal) where
  pub unsound : sound b ≡ false → given (unfound b p unknown) ≡ Some Unsound
  unfolding refusing given unfound
  unsound no_b = simp no_b

  pub no_module : sound b ≡ true → not (within 1 (modules b) p) ≡ true → given (unfound b p unknown) ≡ Some unknown
  unfolding refusing given unfound
  no_module is outside = simp (is, outside)

-- a call that names module p asks that, and then es
module _ (c : Call) (b : List ℕ) (p : ℕ) (es : List (Bool × Refusal)) (asks : refused c b ≡ unfound b p NoSuchModule ++ es) where
  pub not_found : (k : Refusal) {r : Reply} → given (unfound b p NoSuchModule) ≡ Some k → r ≡ Err k → Does c b r b
  unfolding refusing given unfound
  not_found k g e = subst⁻¹ (λ (r : Reply). Does c b r b) e (refuses c b k (ap given asks ∙ chosen Some (given es) (unfound b p NoSuchModule) (Some k) g))

  pub found : sound b ≡ true → 1 ≤ p → p ≤ modules b → given (refused c b) ≡ given es
  unfolding refusing given unfound
  found is least most = ap given asks ∙ simp (is, in_range 1 (modules b) p least most)
