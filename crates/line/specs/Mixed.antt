-- Desks of before R-1 (document 02) and of today, at work on the same table or image.
use Rattle.std.specs.Prelude.{ℕ, suc, Bool, cond, not, ◌&&◌, ◌||◌, eqb, leb, Err}
use Rattle.stage.specs.Calls.{Call, set_up, begin_acquisition, begin_release, step, take_log, asks_sound}
use Rattle.stage.specs.Rows.{goes}
use Rattle.stage.specs.Sound.{every}
use Rattle.stage.specs.Table.{Table, upd}
use Rattle.line.specs.History.{Desk}
use Rattle.stage.specs.Answers.{Reply}
use Rattle.stage.specs.declared.Refusal.TheVariants.{Unsound}

-- A desk of before R-1. It goes from a success at stage 2 to stage 3: where today p goes to 19, it is at 3 at once, and its record is not raised.
unfoldable pub unraised : ℕ → Table → Table
unraised p t = record { n = t.n; private = upd t.private p (goes 3 (t.private p)); shared = t.shared; lock = t.lock; log = t.log }

-- t is the table before the call, t' the one that the call leaves today
unfoldable pub left_before : Call → Table → Table → Table
left_before (set_up k) t t' = t'
left_before (begin_acquisition p r) t t' = t'
left_before (begin_release p) t t' = t'
left_before (step p) t t' = cond (eqb (t.private p).stage 2 && eqb (t'.private p).stage 19) (unraised p t') t'
left_before (take_log room) t t' = t'

-- "stage is 0 to 18": to it an image with a module at stage 19 is unsound.
unfoldable pub sound_before : Call → Table → Bool
sound_before c t = not (asks_sound c) || every t.n (λ q. leb (t.private q).stage 18)

-- A call by a desk of before R-1, or by one of today. D says how the desks of today do it; `write` puts a table into a state.
unfoldable pub called_by : Bool → (D : Desk) → (Table → D.State → D.State) → Call → D.State → Reply × D.State
called_by before D write c s =
    cond before
    (cond (sound_before c (D.shows s))
    (D.says c s, write (left_before c (D.shows s) (D.shows (D.leaves c s))) (D.leaves c s))
    (Err Unsound, s))
    (D.says c s, D.leaves c s)

-- Desks of both kinds on one state: `before k` says whether the call after k others is made by one of before R-1.
abbrev pub mixed : (ℕ → Bool) → (D : Desk) → (Table → D.State → D.State) → Desk
mixed before D write =
    record {
      State = ℕ × D.State;
      says = λ c s. (called_by (before s.0) D write c s.1).0;
      leaves = λ c s. (suc s.0, (called_by (before s.0) D write c s.1).1);
      shows = λ s. D.shows s.1;
    }
