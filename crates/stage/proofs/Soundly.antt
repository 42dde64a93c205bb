-- Every row keeps a sound table sound. Assumes nothing.
use Prim.Native.Nat.{ℕ, ◌≤◌}
use mathlib.Core.Path.{◌≡◌, refl, sym, ◌∙◌}
use mathlib.Core.Bool.{Bool, true}
use lib.Dec.{eqb, ltb, leb}
use borrow.Author.Tests.{eqb-true, eqb-false, leb-true, eq-eqb, ne_eqb, le-leb}
use native.Mathlib.Omega.{arith}
use Rattle.laws.proofs.Cases.{choose, both_hold, both_are}
use Rattle.link.specs.Operations.{CLOSED, same, changed, swapped, Swapped}
use Rattle.stage.specs.Calls.{within}
use Rattle.stage.specs.Rows.{leaves, goes, with_w, stepped, find, rows, after9, last}
use Rattle.stage.specs.Sound.{at, sound_link, sound_own, sound_stage, sound_private, sound_shared}
use Rattle.stage.proofs.ByStage.{by_stage}
use Rattle.stage.specs.declared.Event.{Event}
use Rattle.stage.specs.declared.Event.TheVariants.{Done, Waiting}
use Rattle.stage.specs.declared.Private.{Private}
use Rattle.stage.specs.declared.Shared.{Shared}
use Rattle.stage.specs.declared.Stepped.{Stepped}

-- the rules on a private and on a shared part, as facts
pub record SoundMe (n : ℕ) (me : Private) : Type 0 where
  pub pointer : me.w.pointer ≤ n
  pub mark : me.w.mark ≤ 1
  pub prev : me.prev ≤ n
  pub s : me.s ≤ n
  pub stage : me.stage ≤ last
  pub idle : me.stage ≡ 0 → me.own ≡ 0
  pub busy : 1 ≤ me.stage → (1 ≤ me.own) × (me.own ≤ 254)
  pub has_prev : 4 ≤ me.stage → me.stage ≤ 10 → 1 ≤ me.prev
  pub has_pointer : 7 ≤ me.stage → me.stage ≤ 7 → 1 ≤ me.w.pointer
  pub has_s : 17 ≤ me.stage → me.stage ≤ 18 → 1 ≤ me.s

pub record SoundIts (n : ℕ) (its : Shared) : Type 0 where
  pub pointer : its.link.pointer ≤ n
  pub mark : its.link.mark ≤ 1
  pub locked : its.locked ≤ 1

-- what a row leaves is sound
pub record SoundStepped (n : ℕ) (r : Stepped) : Type 0 where
  pub me : SoundMe n r.me
  pub its : SoundIts n r.its
  pub lock : r.lock ≤ n

-- the rules as tests, and as facts
at_holds : (a b x y : ℕ) → at (within a b x) (leb 1 y) ≡ true → a ≤ x → x ≤ b → 1 ≤ y
at_holds a b x y e low high = leb-true 1 y (sym (simp (le-leb a x low, le-leb x b high)) ∙ e)

holds_at : (a b x y : ℕ) → (a ≤ x → x ≤ b → 1 ≤ y) → at (within a b x) (leb 1 y) ≡ true
holds_at a b x y f =
    choose (λ (c : Bool). c ≡ true) (within a b x)
    (λ t. let z = both_hold (leb a x) (leb x b) t in le-leb 1 y (f (leb-true a x z.0) (leb-true x b z.1)))
    (λ _. refl)

pub private_facts : (n : ℕ) (me : Private) → sound_private n me ≡ true → SoundMe n me
unfolding sound_private sound_link sound_stage sound_own
private_facts n me e =
    let f = both_hold _ _ e in
    let f₂ = both_hold _ _ f.0 in
    let f₃ = both_hold _ _ f₂.0 in
    let link = both_hold _ _ f₃.0 in
    let d = both_hold _ _ f.1 in
    let d₂ = both_hold _ _ d.0 in
    let d₃ = both_hold _ _ d₂.0 in
    let d₄ = both_hold _ _ d₃.0 in
    record {
      pointer = leb-true _ _ link.0;
      mark = leb-true _ _ link.1;
      prev = leb-true _ _ f₃.1;
      s = leb-true _ _ f₂.1;
      stage = leb-true _ _ d₄.0;
      idle = λ z. eqb-true me.own 0 (simp (eq-eqb me.stage 0 z) at d₄.1);
      busy = λ z. let o = both_hold (leb 1 me.own) (leb me.own 254) (simp (ne_eqb me.stage 0 (omega arith)) at d₄.1) in (leb-true _ _ o.0, leb-true _ _ o.1);
      has_prev = at_holds 4 10 _ _ d₃.1;
      has_pointer = at_holds 7 7 _ _ d₂.1;
      has_s = at_holds 17 18 _ _ d.1;
    }

own_holds : (stage own : ℕ) → (stage ≡ 0 → own ≡ 0) → (1 ≤ stage → (1 ≤ own) × (own ≤ 254)) → sound_own stage own ≡ true
unfolding sound_own
own_holds stage own idle busy =
    choose (λ (c : Bool). c ≡ true) (eqb stage 0)
    (λ e. eq-eqb own 0 (idle (eqb-true stage 0 e)))
    (λ e. let n = eqb-false stage 0 e in let o = busy (omega arith) in both_are (le-leb 1 own o.0) (le-leb own 254 o.1))

pub private_tests : (n : ℕ) (me : Private) → SoundMe n me → sound_private n me ≡ true
unfolding sound_private sound_link sound_stage
private_tests n me s =
    both_are (both_are (both_are (both_are (le-leb _ _ s.pointer) (le-leb _ _ s.mark)) (le-leb _ _ s.prev)) (le-leb _ _ s.s))
    (both_are (both_are (both_are (both_are (le-leb _ _ s.stage) (own_holds _ _ s.idle s.busy))
    (holds_at 4 10 _ _ s.has_prev)) (holds_at 7 7 _ _ s.has_pointer)) (holds_at 17 18 _ _ s.has_s))

pub shared_facts : (n : ℕ) (its : Shared) → sound_shared n its ≡ true → SoundIts n its
unfolding sound_shared sound_link
shared_facts n its e =
    let f = both_hold _ _ e in
    let link = both_hold _ _ f.0 in
    record { pointer = leb-true _ _ link.0; mark = leb-true _ _ link.1; locked = leb-true _ _ f.1 }

pub shared_tests : (n : ℕ) (its : Shared) → SoundIts n its → sound_shared n its ≡ true
unfolding sound_shared sound_link
shared_tests n its s = both_are (both_are (le-leb _ _ s.pointer) (le-leb _ _ s.mark)) (le-leb _ _ s.locked)

module _ (n p : ℕ) (known : p ≤ n) (me : Private) (its : Shared) (lock : ℕ) (sound : SoundMe n me) (sound' : SoundIts n its) (below : lock ≤ n) (bump : ℕ → ℕ) where
  rows_sound : (k : ℕ) → k ≤ last → me.stage ≡ k → SoundStepped n ((find rows k).row bump p me its lock)
  unfolding find rows swapped changed
  rows_sound =
      by_stage (λ k. me.stage ≡ k → SoundStepped n ((find rows k).row bump p me its lock))
      (λ e. still Done)
      (λ e. let o = sound.busy (omega arith) in omega arith)
      (λ e. let o = sound.busy (omega arith) in
      choose (SoundStepped n) (eqb lock 0) (λ b. omega arith) (λ b. let some = eqb-false lock 0 b in omega arith))
      (λ e. let o = sound.busy (omega arith) in omega arith)
      (λ e. let o = sound.busy (omega arith) in let q = sound.has_prev (omega arith) (omega arith) in omega arith)
      (λ e. let o = sound.busy (omega arith) in let q = sound.has_prev (omega arith) (omega arith) in
      choose (λ (k : ℕ). SoundStepped n (leaves (goes k (with_w its.link me)) its lock Done)) (eqb its.link.mark CLOSED) (λ b. omega arith) (λ b. omega arith))
      (λ e. let o = sound.busy (omega arith) in let q = sound.has_prev (omega arith) (omega arith) in
      choose (λ (k : ℕ). SoundStepped n (leaves (goes k me) its lock Done)) (ltb its.priority me.own) (λ b. omega arith)
      (λ b. choose (λ (k : ℕ). SoundStepped n (leaves (goes k me) its lock Done)) (eqb me.w.pointer 0) (λ c. omega arith)
      (λ c. let some = eqb-false me.w.pointer 0 c in omega arith)))
      (λ e. let o = sound.busy (omega arith) in let q = sound.has_prev (omega arith) (omega arith) in let w = sound.has_pointer (omega arith) (omega arith) in
      choose (SoundStepped n) (ltb its.priority me.own) (λ b. omega arith) (λ b. omega arith))
      (λ e. let o = sound.busy (omega arith) in let q = sound.has_prev (omega arith) (omega arith) in omega arith)
      (λ e. let o = sound.busy (omega arith) in let q = sound.has_prev (omega arith) (omega arith) in
      choose (λ (r : Swapped). SoundStepped n (after9 me its lock r)) (same its.link me.w) (λ b. omega arith)
      (λ b. choose (λ (k : ℕ). SoundStepped n (leaves (goes k (with_w its.link me)) its lock Done)) (eqb its.link.mark CLOSED) (λ c. omega arith) (λ c. omega arith)))
      (λ e. let o = sound.busy (omega arith) in let q = sound.has_prev (omega arith) (omega arith) in
      choose (λ (k : ℕ). SoundStepped n (leaves (goes k me) its lock Done)) (ltb its.priority me.own) (λ b. omega arith) (λ b. omega arith))
      (λ e. let o = sound.busy (omega arith) in omega arith)
      (λ e. let o = sound.busy (omega arith) in choose (SoundStepped n) (eqb its.locked 0) (λ b. omega arith) (λ b. still Waiting))
      (λ e. still Done)
      (λ e. let o = sound.busy (omega arith) in omega arith)
      (λ e. let o = sound.busy (omega arith) in omega arith)
      (λ e. let o = sound.busy (omega arith) in
      choose (SoundStepped n) (eqb me.s 0) (λ b. omega arith) (λ b. let some = eqb-false me.s 0 b in omega arith))
      (λ e. let o = sound.busy (omega arith) in let q = sound.has_s (omega arith) (omega arith) in omega arith)
      (λ e. omega arith)
      (λ e. let o = sound.busy (omega arith) in omega arith)
    where
      still : (e : Event) → SoundStepped n (leaves me its lock e)
      still e = record { me = sound; its = sound'; lock = below }

  pub row_sound : SoundStepped n (stepped bump p me its lock)
  unfolding stepped
  row_sound = rows_sound me.stage sound.stage refl
