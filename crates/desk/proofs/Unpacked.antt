-- What a caller reads out of an exported call's number is what the call says: the packing loses nothing.
-- Assumes nothing.
use mathlib.Core.Path.{◌≡◌, refl, sym, ◌∙◌, ap, ap₂, subst⁻¹}
use mathlib.Core.Bool.{Bool, true, false}
use mathlib.Core.List.{List}
use Prim.Native.Nat.{ℕ, ◌+◌, ◌*◌, ◌/◌, ◌%◌, ◌≤◌}
use native.Mathlib.Nat.{div-eq_of_lt-le, mod-add-div, mod-eq_of_lt}
use native.Mathlib.Omega.{arith}
use borrow.Author.Tests.{lt-leb, not-false}
use lib.Dec.{leb}
use lib.ListN.{length}
use Rattle.link.specs.Count.{next, size}
use Rattle.stage.specs.Answers.{answer_of, Reply}
use Rattle.stage.specs.Calls.{Call, set_up, begin_acquisition, begin_release, step, take_log, refusals, answered}
use Rattle.stage.specs.Rows.{looks_at}
use Rattle.stage.specs.Table.{step_of}
use Rattle.stage.specs.declared.Answer.{Answer}
use Rattle.stage.specs.declared.Event.{Event}
use Rattle.stage.specs.declared.Event.TheVariants.{Done, Waiting, Admitted, Joined, Left, Finished, Taken, Nobody}
use Rattle.stage.specs.declared.Refusal.{Refusal}
use Rattle.stage.specs.declared.Refusal.TheVariants.{Unsound, NoSuchModule, WrongPriority, WrongStage, LogFull, ShortLogBuffer, WrongNumberOfModules, ShortBuffer, Malformed, WrongMarker}
use Rattle.stage.proofs.Events.{Of, agrees}
use Rattle.stage.proofs.Refusing.{Unrefused, refused_or, is_within}
use Rattle.layout.specs.Layout.{read}
use Rattle.image.specs.Call.{refused, reply}
use Rattle.image.specs.Turn as T
use Rattle.image.specs.Turn.{Turn, nobody, step_by, turn_of, Gives}
use Rattle.image.proofs.Sound.{table}
use Rattle.desk.specs.Packed.{top, packed, takes, event_of, refusal_of, unpacked, LosesNothing, TurnsToo}
use Rattle.std.specs.Prelude.{Ok, Err, Option, Some, unwrap_or}

-- what is said comes back
abbrev Back : Bool → Reply → Type 0
Back log r = unpacked log (packed r) ≡ Some r

refusal : (log : Bool) (k : Refusal) → Back log (Err k)
unfolding packed unpacked refusal_of
refusal log Unsound = refl
refusal log NoSuchModule = refl
refusal log WrongPriority = refl
refusal log WrongStage = refl
refusal log LogFull = refl
refusal log ShortLogBuffer = refl
refusal log WrongNumberOfModules = refl
refusal log ShortBuffer = refl
refusal log Malformed = refl
refusal log WrongMarker = refl

-- what is read of an admission's number, and of a taken log's
admission : (p : ℕ) → p ≤ 64 → Back false (Ok (answer_of (Admitted p)))
unfolding packed unpacked event_of
admission p few =
    let x : ℕ = 2 + 256 * p + 65536 * 0 in
    let low : leb top x ≡ false = lt-leb top x (omega arith) in
    let over : x / 256 ≡ p = div-eq_of_lt-le 256 (omega arith) (omega arith) in
    let number : x % 256 ≡ 2 = omega (arith, mod-add-div x 256) in
    let module_is : p % 256 ≡ p = mod-eq_of_lt (omega arith) in
    simp (low, number, over, module_is)

taken : (k : ℕ) → k ≤ 256 → Back true (Ok (answer_of (Taken k)))
unfolding packed unpacked event_of
taken k few =
    let x : ℕ = 0 + 256 * 0 + 65536 * k in
    let low : leb top x ≡ false = lt-leb top x (omega arith) in
    let number : x % 256 ≡ 0 = omega arith in
    let length_is_k : x / 65536 ≡ k = div-eq_of_lt-le 65536 (omega arith) (omega arith) in
    simp (low, number, length_is_k)

-- every event of a step
stepped : (p : ℕ) (e : Event) → p ≤ 64 → Of p e → Back false (Ok (answer_of e))
unfolding packed unpacked event_of
stepped p Done few o = refl
stepped p Waiting few o = refl
stepped p (Admitted q) few o = admission q (omega (arith, o))
stepped p Joined few o = refl
stepped p Left few o = refl
stepped p Finished few o = refl
stepped p (Taken k) few o = absurd o
stepped p Nobody few o = absurd o

accepted : (c : Call) (b : List ℕ) → Unrefused (refused c b) → Back (takes c) (Ok (answered (next size) c (read b)))
unfolding refused refusals answered step_of
accepted (set_up k) b u = stepped 0 Done (omega arith) tt
accepted (begin_acquisition p r) b u = stepped 0 Done (omega arith) tt
accepted (begin_release p) b u = stepped 0 Done (omega arith) tt
accepted (step p) b u =
    let t = read b in
    let s = table b (not-false _ u.0) in
    let k = is_within 1 t.n p u.1.0 in
    let few = s.few in
    let a = agrees (next size) p (t.private p) (t.shared (looks_at p (t.private p))) t.lock (s.private p k.0 k.1).stage in
    subst⁻¹ (λ (x : Answer). Back false (Ok x)) a.number (stepped p (step_of (next size) t p).answer.event (omega (arith, k.1)) a.itself)
accepted (take_log room) b u = taken (length (read b).log) (table b (not-false _ u.0)).held

pub loses_nothing : LosesNothing
unfolding reply
loses_nothing c b =
    refused_or (Back (takes c)) (refused c b) Err (Ok (answered (next size) c (read b))) (refusal (takes c)) (accepted c b)

pub turns_too : TurnsToo
unfolding packed unpacked event_of
turns_too b m r b' m' = by_turn (turn_of b m)
  where
    by_turn : (t : Turn) → Gives t b m r b' m' → Back false r
    by_turn (T.refused k) g = subst⁻¹ (Back false) g.0 (refusal false k)
    by_turn nobody g = subst⁻¹ (Back false) g.0 refl
    by_turn (step_by p) g = subst⁻¹ (Back false) g.0.says (loses_nothing (step p) b)

-- so two calls that a caller cannot tell apart by the number said the same
pub same_said : (c c' : Call) (b b' : List ℕ) → takes c ≡ takes c' → packed (reply c b) ≡ packed (reply c' b') → reply c b ≡ reply c' b'
same_said c c' b b' kind same =
    ap (λ (o : Option Reply). unwrap_or o (reply c b)) (sym (loses_nothing c b) ∙ ap₂ unpacked kind same ∙ loses_nothing c' b')
