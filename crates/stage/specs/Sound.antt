-- Which tables are sound. Document 01, "The image", the sentence "An image is sound when". Its rules on the bytes of an image (that the buffer
-- holds it, edition, zeros and distance) are the image's.
use Rattle.std.specs.Prelude.{ℕ, zero, suc, ◌≡◌, Bool, true, cond, ◌&&◌, List, [], ◌∷◌, eqb, leb, length}
use Rattle.link.specs.declared.Link.{Link}
use Rattle.stage.specs.Calls.{Call, within, capacity, called}
use Rattle.stage.specs.Rows.{last}
use Rattle.stage.specs.Table.{Table}
use Rattle.stage.specs.declared.Private.{Private}
use Rattle.stage.specs.declared.Shared.{Shared}

-- at these stages, that
abbrev pub at : Bool → Bool → Bool
at stages holds = cond stages holds true

-- "every pointer .. [is] 0 to n; marks .. are 0 or 1"
unfoldable pub sound_link : ℕ → Link → Bool
sound_link n l = leb l.pointer n && leb l.mark 1

-- "own priority is 0 at stage 0 and 1 to 254 elsewhere"
unfoldable pub sound_own : ℕ → ℕ → Bool
sound_own stage own = cond (eqb stage 0) (eqb own 0) (within 1 254 own)

unfoldable pub sound_stage : ℕ → ℕ → ℕ → ℕ → ℕ → Bool
sound_stage stage own prev pointer s =
    -- "stage is 0 to 18"; R-1: "Sound images allow stage 19"
    leb stage last
    && sound_own stage own
    -- "prev isn't 0 at stages 4 to 10"
    && at (within 4 10 stage) (leb 1 prev)
    -- "w's pointer isn't 0 at stage 7"
    && at (within 7 7 stage) (leb 1 pointer)
    -- "s isn't 0 at 17 and 18"
    && at (within 17 18 stage) (leb 1 s)

-- "every pointer, prev, s .. are 0 to n"
unfoldable pub sound_private : ℕ → Private → Bool
sound_private n me =
    sound_link n me.w
    && leb me.prev n
    && leb me.s n
    && sound_stage me.stage me.own me.prev me.w.pointer me.s

-- "marks and Locked are 0 or 1 .. Record priority may be any byte."
unfoldable pub sound_shared : ℕ → Shared → Bool
sound_shared n its = sound_link n its.link && leb its.locked 1

-- f holds of 1 to n
unfoldable pub every : ℕ → (ℕ → Bool) → Bool
every zero f = true
every (suc k) f = every k f && f (suc k)

unfoldable pub each : (ℕ → Bool) → List ℕ → Bool
each f [] = true
each f (x ∷ others) = f x && each f others

unfoldable pub sound_table : Table → Bool
sound_table t =
    -- "n (1 to 64)"
    within 1 64 t.n
    -- "log length is 0 to 256, its entries are 1 to n"
    && leb (length t.log) capacity
    && each (within 1 t.n) t.log
    -- "the lock word [is] 0 to n"
    && leb t.lock t.n
    && every t.n (λ p. sound_private t.n (t.private p))
    && every t.n (λ p. sound_shared t.n (t.shared p))

-- What is proved of it: every call, refused or accepted, with whatever numbers, keeps a sound table sound.
abbrev pub KeepsSound : Type 0
KeepsSound = (bump : ℕ → ℕ) (fits : ℕ → Bool) (c : Call) (t : Table) → sound_table t ≡ true → sound_table (called bump fits c t).1 ≡ true
