-- What taking the log says and leaves, in the image and in the buffer that is lent.
-- Assumes nothing.
use mathlib.Core.Path.{◌≡◌, refl, sym, ◌∙◌, ap, ap₂}
use mathlib.Core.Bool.{Bool, true, false, not}
use mathlib.Core.List.{List, [], ◌∷◌, ◌++◌}
use Prim.Native.Nat.{ℕ, ◌≤◌, ◌<◌}
use native.Mathlib.Omega.{arith}
use borrow.Author.Tests.{lt-ltb, le-ltb}
use lib.Dec.{ltb}
use lib.ListN.{length, take, drop}
use lib.Seq.{take-take}
use Rattle.stage.specs.Answers.{answer_of}
use Rattle.stage.specs.Calls.{take_log, capacity, refusing, refusals, answered, after}
use Rattle.stage.specs.Table.{log_taken}
use Rattle.stage.specs.declared.Answer.{Answer}
use Rattle.stage.specs.declared.Event.TheVariants.{Taken}
use Rattle.layout.specs.Layout.{held, log_at, read, put}
use Rattle.layout.proofs.Rewritten.{length_held}
use Rattle.soundness.specs.SoundImage.{sound}
use Rattle.image.specs.Call.{refused, buffer, Does}
use Rattle.image.specs.Inside.{given}
use Rattle.image.proofs.Refusals.{chosen, refuses, accepts}
use Rattle.image.proofs.Sound.{written}
use Rattle.stage.specs.declared.Refusal.{Refusal}
use Rattle.stage.specs.declared.Refusal.TheVariants.{ShortLogBuffer, Unsound}
use Rattle.std.specs.Prelude.{None, Some, Ok, Err}

-- a sound image has a log and a trailer
pub long : (b : List ℕ) → sound b ≡ true → 268 ≤ length b
long b is = omega (arith, (written b is).fits)

module _ (b : List ℕ) (is : sound b ≡ true) (k : ℕ) (k_is : k ≡ held b) where
  -- so many entries are held
  entries : length (read b).log ≡ k
  entries = length_held b (written b is).fits (written b is).held_fits ∙ sym k_is

  pub few : k ≤ capacity
  few = omega (arith, k_is, (written b is).held_fits)

  -- they are the first of the log bytes, and go first into the buffer
  pub handed : (lent : List ℕ) {all first : List ℕ} → all ≡ take capacity (drop (log_at b) b) → first ≡ take k all → first ++ drop k lent ≡ (read b).log ++ drop (length (read b).log) lent
  unfolding read
  handed lent {all} all_is first_is =
      let log : take k all ≡ (read b).log = ap₂ take k_is all_is ∙ take-take (held b) capacity (drop (log_at b) b) (written b is).held_fits in
      ap₂ (λ (x : List ℕ) (j : ℕ). x ++ drop j lent) (first_is ∙ log) (sym entries)

module _ (b lent : List ℕ) where
  asks : refused (take_log (length lent)) b ≡ (not (sound b), Unsound) ∷ (ltb (length lent) (length (read b).log), ShortLogBuffer) ∷ []
  unfolding refused refusals
  asks = refl

  -- both buffers keep all their bytes
  refused_both : (k : Refusal) → given (refused (take_log (length lent)) b) ≡ Some k → Does (take_log (length lent)) b (Err k) b × (lent ≡ buffer b lent)
  unfolding buffer
  refused_both k g = (refuses (take_log (length lent)) b k g, sym (chosen (λ j. lent) _ (refused (take_log (length lent)) b) (Some k) g))

  pub untaken : sound b ≡ false → Does (take_log (length lent)) b (Err Unsound) b × (lent ≡ buffer b lent)
  unfolding given refusing
  untaken no_b = refused_both Unsound (ap given asks ∙ simp no_b)

  module _ (is : sound b ≡ true) (k : ℕ) (k_is : k ≡ held b) where
    given_is : (t : Bool) → ltb (length lent) k ≡ t → given (refused (take_log (length lent)) b) ≡ given ((t, ShortLogBuffer) ∷ [])
    unfolding given refusing
    given_is t e = ap given asks ∙ simp (is, entries b is k k_is, e)

    pub short : length lent < k → Does (take_log (length lent)) b (Err ShortLogBuffer) b × (lent ≡ buffer b lent)
    unfolding given refusing
    short h = refused_both ShortLogBuffer (given_is true (lt-ltb _ _ h))

    pub takes : {b' lent' : List ℕ} (a : Answer) → k ≤ length lent → a ≡ answer_of (Taken k) → b' ≡ put (log_taken (read b)) b → lent' ≡ (read b).log ++ drop (length (read b).log) lent →
        Does (take_log (length lent)) b (Ok a) b' × (lent' ≡ buffer b lent)
    unfolding given refusing answered after buffer
    takes a h a_is put_is handed_over =
        let g : given (refused (take_log (length lent)) b) ≡ None = given_is false (le-ltb _ _ h) in (
          accepts (take_log (length lent)) b g (ap Ok (a_is ∙ ap (λ (j : ℕ). answer_of (Taken j)) (sym (entries b is k k_is)))) put_is,
          handed_over ∙ sym (chosen (λ j. lent) _ (refused (take_log (length lent)) b) None g),
        )
