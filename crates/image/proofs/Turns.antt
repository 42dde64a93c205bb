-- The search for the module whose turn is next. Assumes nothing.
use Prim.Native.Nat.{ℕ, suc, ◌+◌, ◌-◌, ◌*◌, ◌≤◌, ◌<◌}
use mathlib.Core.Path.{◌≡◌, refl, sym, ◌∙◌, ap, ap₂, subst, subst⁻¹}
use mathlib.Core.Bool.{Bool, true, false, cond, not, ◌||◌}
use mathlib.Core.List.{List, [], ◌∷◌, ◌++◌}
use native.Mathlib.Omega.{arith}
use native.Mathlib.Numerals.{add-one}
use lib.Dec.{eqb}
use Rattle.stage.proofs.Around.{first_known}
use Rattle.stage.specs.Answers.{answer_of, Reply}
use Rattle.stage.specs.Calls.{step, refusing, rests}
use Rattle.stage.specs.Turns.{from, around, first_that, next_after}
use Rattle.stage.specs.declared.Answer.{Answer}
use Rattle.stage.specs.declared.Event.TheVariants.{Nobody}
use Rattle.stage.specs.declared.Private.{Private}
use Rattle.layout.specs.Layout.{modules, record_at, private_at, read, byte}
use Rattle.layout.proofs.Rewritten.{private_read}
use Rattle.image.specs.declared.Frame.{Frame}
use Rattle.stage.specs.declared.Refusal.{Refusal}
use Rattle.stage.specs.declared.Refusal.TheVariants.{WrongMarker}
use Rattle.image.specs.Call.{Does}
use Rattle.image.specs.Inside.{Framed, IsNumber, given, unfound, first_able}
use Rattle.image.specs.Turn.{Turn, refused, found, turn_of, Gives, GivesTurn}
use Rattle.image.proofs.Refusals.{chosen, in_range}
use Rattle.std.specs.Prelude.{Option, None, Some, Ok, Err}

-- one of the numbers from q to the one before `end` on
module _ (f : ℕ → Bool) (q end : ℕ) where
  pub none_left : end ≤ q → first_that f (from q (end - q)) ≡ None
  unfolding from first_that
  none_left over = ap (λ (k : ℕ). first_that f (from q k)) (let z : end - q ≡ 0 = omega arith in z)

  module _ (before : q < end) where
    one_on : first_that f (from q (end - q)) ≡ cond (f q) (Some q) (first_that f (from (suc q) (end - suc q)))
    unfolding from first_that
    one_on = ap (λ (k : ℕ). first_that f (from q k)) (let z : end - q ≡ suc (end - suc q) = omega arith in z)

    pub passes : f q ≡ true → first_that f (from q (end - q)) ≡ Some q
    passes e = one_on ∙ ap (λ (x : Bool). cond x (Some q) (first_that f (from (suc q) (end - suc q)))) e

    pub skips : f q ≡ false → first_that f (from q (end - q)) ≡ first_that f (from (q + 1) (end - (q + 1)))
    skips e =
        one_on ∙ ap (λ (x : Bool). cond x (Some q) (first_that f (from (suc q) (end - suc q)))) e
        ∙ ap (λ (k : ℕ). first_that f (from k (end - k))) (sym (add-one q))

-- the first of two lists one after the other
abbrev pub or_else : Option ℕ → Option ℕ → Option ℕ
or_else None o = o
or_else (Some p) o = Some p

pub either : (f : ℕ → Bool) (xs ys : List ℕ) → first_that f (xs ++ ys) ≡ or_else (first_that f xs) (first_that f ys)
unfolding first_that
either f [] ys = refl
either f (x ∷ xs) ys = go (f x) (either f xs ys)
  where
    go : (t : Bool) → first_that f (xs ++ ys) ≡ or_else (first_that f xs) (first_that f ys)
        → cond t (Some x) (first_that f (xs ++ ys)) ≡ or_else (cond t (Some x) (first_that f xs)) (first_that f ys)
    go true others = refl
    go false others = others

-- the byte that says whether q rests
pub rests_at : (b : List ℕ) (f : Frame) (q at : ℕ) → Framed b f → 1 ≤ q → q ≤ f.n → at ≡ f.first + 16 * (q - 1)
    → rests (read b) q ≡ (eqb (byte b at) 0 || eqb (byte b at) 13)
unfolding private_at
rests_at b f q at framed least most place =
    let high : q ≤ modules b = omega (arith, framed.n_is) in
    let there : at ≡ record_at b q = omega (arith, framed.first_is) in
    ap (λ (me : Private). eqb me.stage 0 || eqb me.stage 13) (private_read b q least high)
    ∙ ap (λ (k : ℕ). eqb (byte b k) 0 || eqb (byte b k) 13) (sym there)

-- who is next is the first who can step after the marker, or else the first up to it
module _ (b : List ℕ) (f : Frame) (m : ℕ) (framed : Framed b f) where
  abbrev after : Option ℕ
  after = first_able b (m + 1) (f.n + 1 - (m + 1))

  abbrev before : Option ℕ
  before = first_able b 1 (m + 1 - 1)

  next_is : next_after (read b) m ≡ or_else after before
  unfolding next_after around read
  next_is =
      either (λ q. not (rests (read b) q)) (from (suc m) (modules b - m)) (from 1 m)
      ∙ ap₂ or_else
      (ap₂ (first_able b) (sym (add-one m)) (let z : modules b - m ≡ f.n + 1 - (m + 1) = omega (arith, framed.n_is) in z))
      (ap (first_able b 1) (let z : m ≡ m + 1 - 1 = omega arith in z))

  pub is_after : (p : ℕ) → Some p ≡ after → Some p ≡ next_after (read b) m
  is_after p e = ap (λ (o : Option ℕ). or_else o before) e ∙ sym next_is

  pub is_before : None ≡ after → before ≡ next_after (read b) m
  is_before e = ap (λ (o : Option ℕ). or_else o before) e ∙ sym next_is

-- a turn, by what was found
pub no_turn : (b : List ℕ) (m : ℕ) (k : Refusal) {r : Reply} → given (unfound b m WrongMarker) ≡ Some k → r ≡ Err k → GivesTurn b m r b m
unfolding turn_of unfound read
no_turn b m k {r} g e = subst⁻¹ (λ (t : Turn). Gives t b m r b m) (chosen refused (found (next_after (read b) m)) (unfound b m WrongMarker) (Some k) g) (e, refl, refl)

module _ (b : List ℕ) (last m : ℕ) (known : IsNumber b last × (last ≡ m)) where
  turn_is : (o : Option ℕ) → o ≡ next_after (read b) last → turn_of b m ≡ found o
  unfolding turn_of refusing read
  turn_is o e =
      let is = known.0 in
      let z : turn_of b last ≡ found (next_after (read b) last) = simp (is.0, in_range 1 (modules b) last is.1 is.2) in
      subst (λ (k : ℕ). turn_of b k ≡ found o) known.1 (z ∙ ap found (sym e))

  pub is_known : (p : ℕ) → Some p ≡ next_after (read b) last → IsNumber b p
  unfolding next_after read
  is_known p e = let is = known.0 in let first = first_known (λ q. not (rests (read b) q)) (modules b) last is.2 p (sym e) in (is.0, first.0, first.1)

  pub nobody_steps : None ≡ next_after (read b) last → GivesTurn b m (Ok (answer_of Nobody)) b m
  nobody_steps e = subst⁻¹ (λ (t : Turn). Gives t b m (Ok (answer_of Nobody)) b m) (turn_is None e) (refl, refl, refl)

  -- with an answer the marker moves on, with a refusal it stays
  pub moves_on : (p : ℕ) (a : Answer) {r : Reply} {b' : List ℕ} {m' : ℕ} → Some p ≡ next_after (read b) last → Does (step p) b (Ok a) b' → r ≡ Ok a → m' ≡ p → GivesTurn b m r b' m'
  moves_on p a {b' = b'} {m'} e does says to =
      subst⁻¹ (λ (r : Reply). GivesTurn b m r b' m') says (subst⁻¹ (λ (t : Turn). Gives t b m (Ok a) b' m') (turn_is (Some p) e) (does, to))

  pub stays : (p : ℕ) (k : Refusal) {r : Reply} {b' : List ℕ} → Some p ≡ next_after (read b) last → Does (step p) b (Err k) b' → r ≡ Err k → GivesTurn b m r b' m
  stays p k {b' = b'} e does says =
      subst⁻¹ (λ (r : Reply). GivesTurn b m r b' m) says (subst⁻¹ (λ (t : Turn). Gives t b m (Err k) b' m) (turn_is (Some p) e) (does, refl))
