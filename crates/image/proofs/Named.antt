-- What the calls that name a module say and leave, once it is found.
-- Assumes nothing.
use mathlib.Core.Path.{◌≡◌, refl, sym, ◌∙◌, ap}
use mathlib.Core.Bool.{Bool, true, false, not, ◌&&◌}
use mathlib.Core.List.{List, [], ◌∷◌, ◌++◌}
use Prim.Native.Nat.{ℕ, ◌≤◌}
use borrow.Author.Tests.{ne_eqb}
use lib.Dec.{eqb, leb}
use lib.ListN.{length}
use Rattle.link.specs.Count.{next, size}
use Rattle.stage.specs.Answers.{answer_of}
use Rattle.stage.specs.Calls.{Call, begin_acquisition, begin_release, step, within, rests, admits, capacity, refusing, refusals, answered, after}
use Rattle.stage.specs.Table.{begun_acquisition, begun_release, step_of, after_step}
use Rattle.stage.specs.declared.Answer.{Answer}
use Rattle.stage.specs.declared.Event.TheVariants.{Done}
use Rattle.stage.specs.declared.Private.{Private}
use Rattle.layout.specs.Layout.{read, put}
use Rattle.image.specs.Call.{refused, Does}
use Rattle.image.specs.Inside.{given, unfound, IsNumber, IsModule, Looks}
use Rattle.image.specs.declared.Module.{Module}
use Rattle.image.specs.declared.Looked.{Looked}
use Rattle.image.proofs.Modules.{entries}
use Rattle.image.proofs.Refusals.{in_range, refuses, accepts, found}
use Rattle.stage.specs.declared.Refusal.TheVariants.{NoSuchModule, WrongPriority, WrongStage, LogFull}
use Rattle.stage.specs.declared.Refusal.{Refusal}
use Rattle.std.specs.Prelude.{Ok, Err}

-- what each asks of a module that was found
abbrev acquisition_asks : List ℕ → ℕ → ℕ → List (Bool × Refusal)
acquisition_asks b p r = (not (within 1 254 r), WrongPriority) ∷ (not (eqb ((read b).private p).stage 0), WrongStage) ∷ []

pub acquisition_refused : (b : List ℕ) (p r : ℕ) → refused (begin_acquisition p r) b ≡ unfound b p NoSuchModule ++ acquisition_asks b p r
unfolding refused refusals unfound read
acquisition_refused b p r = refl

abbrev release_asks : List ℕ → ℕ → List (Bool × Refusal)
release_asks b p = (not (eqb ((read b).private p).stage 13), WrongStage) ∷ []

pub release_refused : (b : List ℕ) (p : ℕ) → refused (begin_release p) b ≡ unfound b p NoSuchModule ++ release_asks b p
unfolding refused refusals unfound read
release_refused b p = refl

abbrev pub overfull : List ℕ → ℕ → Bool
overfull b p = admits (step_of (next size) (read b) p).answer.event && leb capacity (length (read b).log)

abbrev step_asks : List ℕ → ℕ → List (Bool × Refusal)
step_asks b p = (rests (read b) p, WrongStage) ∷ (overfull b p, LogFull) ∷ []

pub step_refused : (b : List ℕ) (p : ℕ) → refused (step p) b ≡ unfound b p NoSuchModule ++ step_asks b p
unfolding refused refusals unfound read
step_refused b p = refl

module _ (b : List ℕ) (m : Module) (is : IsModule b m) where
  abbrev p : ℕ
  p = m.number

  stage_is : ((read b).private p).stage ≡ m.me.stage
  stage_is = ap (λ (x : Private). x.stage) (sym is.me_is)

  -- past the search only what the call asks is left
  asked : (c : Call) (es : List (Bool × Refusal)) → refused c b ≡ unfound b p NoSuchModule ++ es → given (refused c b) ≡ given es
  asked c es asks = found c b p es asks is.framed.is is.least is.most

  -- begin an acquisition
  module _ (r : ℕ) where
    acquisition_given : given (refused (begin_acquisition p r) b) ≡ given (acquisition_asks b p r)
    acquisition_given = asked (begin_acquisition p r) (acquisition_asks b p r) (acquisition_refused b p r)

    pub no_priority : not (within 1 254 r) ≡ true → Does (begin_acquisition p r) b (Err WrongPriority) b
    unfolding given refusing
    no_priority outside = refuses (begin_acquisition p r) b WrongPriority (acquisition_given ∙ simp outside)

    module _ (least : 1 ≤ r) (most : r ≤ 254) where
      pub not_idle : (m.me.stage ≡ 0 → ⊥) → Does (begin_acquisition p r) b (Err WrongStage) b
      unfolding given refusing
      not_idle h = refuses (begin_acquisition p r) b WrongStage (acquisition_given ∙ simp (in_range 1 254 r least most, stage_is, ne_eqb _ _ h))

      pub acquires : {b' : List ℕ} → m.me.stage ≡ 0 → b' ≡ put (begun_acquisition (read b) p r) b → Does (begin_acquisition p r) b (Ok (answer_of Done)) b'
      unfolding given refusing answered after
      acquires h put_is = accepts (begin_acquisition p r) b (acquisition_given ∙ simp (in_range 1 254 r least most, stage_is, h)) refl put_is

  -- begin a release
  release_given : given (refused (begin_release p) b) ≡ given (release_asks b p)
  release_given = asked (begin_release p) (release_asks b p) (release_refused b p)

  pub not_inside : (m.me.stage ≡ 13 → ⊥) → Does (begin_release p) b (Err WrongStage) b
  unfolding given refusing
  not_inside h = refuses (begin_release p) b WrongStage (release_given ∙ simp (stage_is, ne_eqb _ _ h))

  pub releases : {b' : List ℕ} → m.me.stage ≡ 13 → b' ≡ put (begun_release (read b) p) b → Does (begin_release p) b (Ok (answer_of Done)) b'
  unfolding given refusing answered after
  releases h put_is = accepts (begin_release p) b (release_given ∙ simp (stage_is, h)) refl put_is

-- take a step
module _ (b : List ℕ) (p : ℕ) (is : IsNumber b p) where
  step_given : given (refused (step p) b) ≡ given (step_asks b p)
  step_given = found (step p) b p (step_asks b p) (step_refused b p) is.0 is.1 is.2

  -- at 0 and 13 there is none
  pub no_step : rests (read b) p ≡ true → Does (step p) b (Err WrongStage) b
  unfolding given refusing
  no_step e = refuses (step p) b WrongStage (step_given ∙ simp e)

  module _ (moves : rests (read b) p ≡ false) where
    pub full : overfull b p ≡ true → Does (step p) b (Err LogFull) b
    unfolding given refusing
    full e = refuses (step p) b LogFull (step_given ∙ simp (moves, e))

    pub steps : {b' : List ℕ} (a : Answer) → overfull b p ≡ false → a ≡ (step_of (next size) (read b) p).answer → b' ≡ put (after_step (next size) (read b) p) b → Does (step p) b (Ok a) b'
    unfolding given refusing answered after
    steps a e says put_is = accepts (step p) b (step_given ∙ simp (moves, e)) (ap Ok says) put_is

-- whether it would overfill the log, by what it looks at
pub overfull_is : (b : List ℕ) (m : Module) (l : Looked) → Looks b m l → overfull b m.number ≡ (admits l.stepped.answer.event && leb capacity m.frame.held)
overfull_is b m l looks = simp (looks.stepped_is, entries b m.frame looks.is.framed)
