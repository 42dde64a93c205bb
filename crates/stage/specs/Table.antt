-- The machine: a table of modules with one lock word and a log, and what each accepted call does to it. No byte is in sight.
-- Document 01, "What the desk does" and "The stage table". `bump` is how a link's count changes.
use Rattle.std.specs.Prelude.{ℕ, cond, List, [], ◌∷◌, ◌++◌, eqb}
use Rattle.link.specs.Operations.{OPEN, fresh}
use Rattle.stage.specs.Rows.{goes, with_own, with_priority, looks_at, stepped}
use Rattle.stage.specs.declared.Private.{Private}
use Rattle.stage.specs.declared.Shared.{Shared}
use Rattle.stage.specs.declared.Stepped.{Stepped}
use Rattle.stage.specs.declared.Event.{Event}
use Rattle.stage.specs.declared.Event.TheVariants.{Done, Waiting, Admitted, Joined, Left, Finished, Taken, Nobody}

-- Modules are numbered 1 to n. Of module p, `private p` is what only it writes, `shared p` what others may touch. The log names the admitted
-- modules, the earliest first.
pub record Table : Type 0 where
  pub n : ℕ
  pub private : ℕ → Private
  pub shared : ℕ → Shared
  pub lock : ℕ
  pub log : List ℕ

-- f, but v at p
unfoldable pub upd : {A : Type 0} → (ℕ → A) → ℕ → A → ℕ → A
upd f p v q = cond (eqb q p) v (f q)

-- A module of a fresh table, and whatever stands for a number that is no module's: "zero but for closed marks on all own links".
unfoldable pub idle : Private
idle = record { stage = 0; own = 0; prev = 0; w = record { pointer = 0; mark = OPEN; count = 0 }; s = 0 }

unfoldable pub untouched : Shared
untouched = record { link = fresh; priority = 0; locked = 0 }

unfoldable pub fresh_table : ℕ → Table
fresh_table k = record { n = k; private = λ p. idle; shared = λ p. untouched; lock = 0; log = [] }

-- "Begin acquisition: .. writes the given priority as own priority and into the record; stage 1."
unfoldable pub begun_acquisition : Table → ℕ → ℕ → Table
begun_acquisition t p r =
    record {
      n = t.n;
      private = upd t.private p (goes 1 (with_own r (t.private p)));
      shared = upd t.shared p (with_priority r (t.shared p));
      lock = t.lock;
      log = t.log;
    }

-- "Begin release: .. stage 14."
unfoldable pub begun_release : Table → ℕ → Table
begun_release t p = record { n = t.n; private = upd t.private p (goes 14 (t.private p)); shared = t.shared; lock = t.lock; log = t.log }

-- One step of module p: its row of the stage table, on the shared part that the row looks at.
unfoldable pub step_of : (ℕ → ℕ) → Table → ℕ → Stepped
step_of bump t p = stepped bump p (t.private p) (t.shared (looks_at p (t.private p))) t.lock

-- "log admission"
unfoldable pub logged : List ℕ → Event → List ℕ
logged log Done = log
logged log Waiting = log
logged log (Admitted p) = log ++ p ∷ []
logged log Joined = log
logged log Left = log
logged log Finished = log
logged log (Taken k) = log
logged log Nobody = log

unfoldable pub after_step : (ℕ → ℕ) → Table → ℕ → Table
after_step bump t p =
    record {
      n = t.n;
      private = upd t.private p (step_of bump t p).me;
      shared = upd t.shared (looks_at p (t.private p)) (step_of bump t p).its;
      lock = (step_of bump t p).lock;
      log = logged t.log (step_of bump t p).answer.event;
    }

-- "Taking the log .. makes the held log empty"
unfoldable pub log_taken : Table → Table
log_taken t = record { n = t.n; private = t.private; shared = t.shared; lock = t.lock; log = [] }
