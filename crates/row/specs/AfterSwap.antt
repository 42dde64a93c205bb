-- What follows a swap at stage 9, whoever holds the links: row 9 of the table goes to the stage, and gives the answer, that `After` has.
-- Whether the swap was done, and the mark of the link found where it failed, decide that.
use Rattle.std.specs.Prelude.{ℕ, ◌≡◌, Result, Ok, Err}
use Rattle.link.specs.declared.Link.{Link}
use Rattle.stage.specs.Rows.{goes, with_w, with_link, after9}
use Rattle.stage.specs.declared.Private.{Private}
use Rattle.stage.specs.declared.Shared.{Shared}
use Rattle.row.specs.declared.After.{After}

abbrev pub Follows : Result (Unit {0}) ℕ → After → Type 0
Follows (Ok done) a =
    (me : Private) (its : Shared) (lock : ℕ) (l : Link)
    → after9 me its lock (Ok l) ≡ record { me = goes a.stage me; its = with_link l its; lock = lock; answer = a.answer }
Follows (Err mark) a =
    (me : Private) (its : Shared) (lock : ℕ) (found : Link) → found.mark ≡ mark
    → after9 me its lock (Err found) ≡ record { me = goes a.stage (with_w found me); its = its; lock = lock; answer = a.answer }
